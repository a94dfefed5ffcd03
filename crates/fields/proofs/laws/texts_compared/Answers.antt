use Rattle.std.proofs.Common.{ap}
use Rattle.std.proofs.lemmas.Bool.Decides.{Decides-like}
use Rattle.std.specs.Cmp.Lexicographic.{bytes_decides}
use Rattle.fields.proofs.Sames.{text_same}
use Rattle.fields.proofs.laws.texts_compared.Goals as goal

pub returns : goal.returns
returns g c a b = Decides-like _ (text_same g.row.N g.K.TextKind a b) (λ e. ap (λ v. v.bytes) e) (bytes_decides a.bytes b.bytes)
