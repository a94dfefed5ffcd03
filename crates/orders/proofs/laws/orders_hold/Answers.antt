use Rattle.orders.proofs.Standings.{new_says, cancel_says, modify_says}
use Rattle.orders.proofs.Only.{new_only, cancel_only, modify_only}
use Rattle.orders.proofs.laws.orders_hold.Goals as goal

pub returns : goal.returns
returns g c = record {
  new_says = new_says;
  new_only = new_only;
  cancel_says = cancel_says;
  cancel_only = cancel_only;
  modify_says = modify_says;
  modify_only = modify_only;
}
