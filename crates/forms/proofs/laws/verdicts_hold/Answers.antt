use Rattle.forms.proofs.Verdicts.{verdict_laws}
use Rattle.forms.proofs.laws.verdicts_hold.Goals as goal

pub returns : goal.returns
returns c = verdict_laws
