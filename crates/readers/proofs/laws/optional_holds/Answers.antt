use Rattle.readers.specs.Blanks.{optional_law}
use Rattle.readers.proofs.laws.optional_holds.Goals as goal

pub returns : goal.returns
returns g c = optional_law g.F.Field.WIDTH g.F.Field.laid g.F.Field.reads g.met.F.Filled.filled g.met.F.Field.exact
