-- Two texts written one behind the other are their joined text written.
use Rattle.std.proofs.Common.{◌≡◌, ℕ, ◌+◌, ◌≤◌, List, ◌++◌, length, take, drop, Ok, Err, Result, sym, ap, ◌∙◌, ap₂, append_assoc, arith, length-append, take_at, drop_at}
use Rattle.std.proofs.lemmas.List.{drop-drop, length-take-le}
use Rattle.fields.specs.Calls.{Writes}
use Rattle.fields.specs.declared.fault.Fault.{Fault}

module _ (a b before mid : List ℕ) (at w : ℕ) (long : length a ≡ w) (room : at + (w + length b) ≤ length before)
    (first : mid ≡ take at before ++ (a ++ drop (at + length a) before)) where
  joined : take (at + w) mid ++ (b ++ drop (at + w + length b) mid) ≡ take at before ++ ((a ++ b) ++ drop (at + length (a ++ b)) before)
  joined =
      let front = take at before in
      let rest = drop (at + length a) before in
      let n : length (front ++ a) ≡ at + w = omega (arith, length-append front a, length-take-le at before (omega arith)) in
      let s : mid ≡ (front ++ a) ++ rest = first ∙ sym (append_assoc front a rest) in
      let t : take (at + w) mid ≡ front ++ a = ap (take (at + w)) s ∙ take_at (front ++ a) rest (at + w) n in
      let k : at + length a + length b ≡ at + length (a ++ b) = omega (arith, length-append a b) in
      let d : drop (at + w + length b) mid ≡ drop (at + length (a ++ b)) before =
      sym (drop-drop (length b) (at + w) mid) ∙ ap (drop (length b)) (ap (drop (at + w)) s ∙ drop_at (front ++ a) rest (at + w) n)
      ∙ drop-drop (length b) (at + length a) before ∙ ap (λ j. drop j before) k in
      ap₂ (λ x y. x ++ (b ++ y)) t d ∙ simp append_assoc

  pub behind : {U : Type 0} (r : Result U Fault) (after : List ℕ) → length mid ≡ length before → Writes b mid (at + w) r after → Writes (a ++ b) before at r after
  behind (Ok u) after l h = (omega (arith, length-append a b), h.1 ∙ joined)
  behind (Err e) after l h = absurd (omega (arith, h.1))
