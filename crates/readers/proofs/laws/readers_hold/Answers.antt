use Rattle.readers.proofs.Together.{reader_laws}
use Rattle.readers.proofs.laws.readers_hold.Goals as goal

pub returns : goal.returns
returns c = reader_laws
