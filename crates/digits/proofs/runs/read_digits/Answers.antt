use Rattle.std.proofs.Common.{[], ◌∷◌, ◌+◌, ◌-◌, ◌*◌, ◌++◌, length, get_or, take, drop, sym, ap, ◌∙◌, arith}
use Rattle.std.proofs.lemmas.List.{take_more, append_assoc}
use Rattle.digits.specs.Bytes.{Digit}
use Rattle.digits.specs.Numerals.{front, read_on}
use Rattle.digits.proofs.Fronts.{digit_from_test, digit_room, front_more}
use Rattle.digits.proofs.Shapes.{read_on-append}
use Rattle.digits.proofs.runs.read_digits.Goals as goal

pub append_digit-n-requires : goal.append_digit-n-requires
append_digit-n-requires c =
    let r = digit_room (c.args.n + 1) c.loop-count.count (length c.args.s.now) c.loop-count.n 9 c.loop-count.invariant.bound c.loop-count-test.true c.requires (omega arith) in
    (digit_from_test _ (sym c.if-not-is_ascii_digit.ensures.value), omega (arith, r.1))

pub loop-count-preserved : goal.loop-count-preserved
loop-count-preserved c =
    let s = c.args.s.now in
    let k = c.loop-count.count in
    let l = c.loop-count-test.true in
    let t = sym c.if-not-is_ascii_digit.ensures.value in
    let d : Digit (get_or s k 0) = digit_from_test _ t in
    let m = take_more s k 0 l in
    let r = digit_room (c.args.n + 1) k (length s) c.loop-count.n (get_or s k 0 - 48) c.loop-count.invariant.bound l c.requires (omega (arith, d)) in
    record {
      digits =
          c.loop-count.invariant.digits ∙ ap (λ f. take k s ++ f) (front_more s k l t) ∙ sym (append_assoc (take k s) (get_or s k 0 ∷ []) (front (drop (k + 1) s)))
          ∙ ap (λ t. t ++ front (drop (k + 1) s)) (sym m);
      number =
          c.append_digit-n.ensures ∙ ap (λ n. n * 10 + (get_or s k 0 - 48)) c.loop-count.invariant.number
          ∙ sym (ap (read_on c.args.n) m ∙ read_on-append c.args.n (take k s) (get_or s k 0 ∷ []));
      bound = omega (arith, r.0, c.append_digit-n.ensures);
    }
