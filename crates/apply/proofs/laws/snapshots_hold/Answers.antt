use Rattle.apply.proofs.Wholes.{read_listed, replaced_says, snapshot_says}
use Rattle.apply.proofs.laws.snapshots_hold.Goals as goal

pub returns : goal.returns
returns g c = record {
  of_listed = read_listed;
  replaced_says = replaced_says;
  snapshot_says = snapshot_says;
}
