use Rattle.std.proofs.Common.{◌≡◌, ◌^◌, ◌++◌, length, drop, sym, ap, ◌∙◌, subst, arith}
use Rattle.std.specs.List.{AllByRecursion}
use Rattle.std.proofs.lemmas.Bool.Decides.{not_from_Decides}
use Rattle.std.proofs.lemmas.List.{append-nil, length-append, length-drop, nil_from_length}
use Rattle.digits.specs.Bytes.{Digit}
use Rattle.digits.specs.Numerals.{front, read_on}
use Rattle.digits.proofs.Fronts.{front_digits, pow10_le}
use Rattle.digits.proofs.Wholes.{one_whole, whole_ends, whole_made}
use Rattle.digits.proofs.Writes.{rest_of}
use Rattle.digits.proofs.integer.value.Goals as goal

pub read_digits-n-requires : goal.read_digits-n-requires
read_digits-n-requires c =
    let at = c.count_spaces.result in
    let l = ap length (rest_of at c.args.s.now) in
    let d = length-drop at c.args.s.now in
    omega (arith, pow10_le (length (drop at c.args.s.now)) 18 (omega arith), ap (λ i. 10 ^ i) l)

pub returns-then-not-some_to_end : goal.returns-then-not-some_to_end
returns-then-not-some_to_end c n h =
    let s = c.count_spaces.ensures in
    let k = c.read_digits-n.ensures in
    let at = c.count_spaces.result in
    let w = whole_ends c.args.s.now at n s.before s.stops s.within h.0 in
    let e = rest_of at c.args.s.now in
    let f = ap length (k.digits ∙ ap front e) in
    let l = ap length (sym e ∙ k.whole) ∙ length-append c.read_digits-n.result.0.now c.read_digits-n.result.1.now in
    not_from_Decides _ c.some_to_end.ensures c.if-not-some_to_end.true (omega arith, omega (arith, length-drop at c.args.s.now))

pub returns : goal.returns
returns c =
    let s = c.args.s.now in
    let at = c.count_spaces.result in
    let k = c.read_digits-n.ensures in
    let ds = c.read_digits-n.result.0.now in
    let f = c.some_to_end.ensures.0 c.if-not-some_to_end.false in
    let e : drop at s ≡ ds = sym (rest_of at s) ∙ k.whole ∙ ap (λ l. ds ++ l) (nil_from_length c.read_digits-n.result.1.now f.1) ∙ append-nil ds in
    let d = subst (AllByRecursion Digit) (sym (e ∙ k.digits ∙ ap front (rest_of at s))) (front_digits (drop at s)) in
    let w = whole_made s at c.read_digits-n.result.2 c.count_spaces.ensures.before (omega (arith, ap length e)) d (k.number ∙ ap (read_on 0) (sym e)) in
    let l = length-drop at s in
    ((w, omega (arith, k.bound, ap length e, pow10_le (length ds) (length s) (omega (arith, ap length e)))), λ m h. one_whole s m _ h.0 w)
