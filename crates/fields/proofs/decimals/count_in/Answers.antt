use Rattle.std.proofs.Common.{◌≡◌, ℕ, List, Some, None, refl, subst, inr}
use Rattle.digits.specs.Calls.{Only}
use Rattle.fields.specs.Decimals.{Blank, CountText}
use Rattle.fields.proofs.Counting.{either_count, one_text}
use Rattle.fields.proofs.decimals.count_in.Goals as goal

-- spaces write the count 0, and no other
blank_count : (width places w n : ℕ) (bs : List ℕ) → w ≡ width → Blank w bs × (n ≡ 0) → Only (CountText width places bs) (Some n)
blank_count width places w n bs e h =
    let t : CountText width places bs n = inr (subst (λ k. Blank k bs) e h.0, h.1) in
    (t, λ m s. one_text width places bs m n s t)

pub returns-in-Some : goal.returns-in-Some
returns-in-Some g c =
    blank_count g.K.DecimalKind.WIDTH g.K.DecimalKind.PLACES c.WIDTH-2.result _ c.args.bytes.now c.WIDTH-2.ensures c.in-Some.ensures.0

pub returns : goal.returns
returns g c =
    either_count g.K.DecimalKind.WIDTH g.K.DecimalKind.PLACES c.WIDTH-2.result c.WIDTH.result c.PLACES.result c.args.bytes.now None c.find.result c.find.result refl c.WIDTH-2.ensures c.WIDTH.ensures c.PLACES.ensures c.in_default.ensures c.find.ensures
