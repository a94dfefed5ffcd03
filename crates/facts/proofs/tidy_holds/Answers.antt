use Rattle.facts.proofs.Tidies.{tidy_laws}
use Rattle.facts.proofs.tidy_holds.Goals as goal

pub returns : goal.returns
returns c = tidy_laws
