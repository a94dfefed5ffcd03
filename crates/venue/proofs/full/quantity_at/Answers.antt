use Rattle.std.proofs.Common.{◌≡◌, ℕ, ◌+◌, ◌<◌, List, length, drop, None, sym, ap, ◌∙◌, arith, length-drop, take_all}
use Rattle.std.proofs.lemmas.Bool.{cond-false, ne_eqb}
use Rattle.readers.specs.Values.{decimal_value, quantity_of}
use Rattle.venue.specs.Full.{quantity_from}
use Rattle.venue.proofs.full.quantity_at.Goals as goal

-- fewer than sixteen bytes are no quantity's
short : (bs : List ℕ) → length bs < 16 → quantity_of bs ≡ None
unfolding decimal_value
short bs h = cond-false _ _ _ (ne_eqb (length bs) 16 (λ e. omega arith))

cut_off : (at : ℕ) (bs : List ℕ) → length bs < at + 16 → quantity_from at bs ≡ None
cut_off at bs h =
    let l = length-drop at bs in
    ap quantity_of (take_all 16 (drop at bs) (omega arith)) ∙ short (drop at bs) (omega arith)

pub returns-in_err-get : goal.returns-in_err-get
returns-in_err-get c =
    let missing = c.in_err-get.ensures.lookup in
    c.from_residual.ensures ∙ sym (cut_off c.args.at c.args.tail.now (omega (arith, missing)))
