-- The pairs of a directory, as the chunks of seven bytes behind its first five.
use denote.Param.Members.{Mut, Called}
use Rattle.std.proofs.Common.{rules, ◌≡◌, ℕ, ◌+◌, ◌*◌, ◌<◌, ◌≤◌, Bool, true, false, List, [], ◌∷◌, length, take, drop, Some, None, Option, MatchOption, Bor, sym, subst, ap, ◌∙◌, arith}
use Rattle.std.specs.Option.{IfSome, IsSomeAnd, option_map}
use Rattle.std.specs.List.{IsSubsliceAt}
use Rattle.std.specs.Iterator.Runs.{Run, IsChunksExactRun, AllItemsGive, IsFirstToGive, CallKeepsClosure}
use Rattle.std.proofs.lemmas.List.{drop-drop, length-drop}
use Rattle.packet.specs.Layouts.{field}

-- at an item that there is
at_some : {X R : Type 0} (o : Option X) (P Q : X → Type 0) → IsSomeAnd o P → IfSome o Q → ((x : X) → P x → Q x → R) → R
at_some None P Q h q to = absurd h
at_some (Some x) P Q h q to = to x h q

-- there is an item at a place before the end
an_item : {X : Type 0} (xs : List X) (k : ℕ) → k < length xs → X
an_item [] k h = absurd (omega arith)
an_item (x ∷ xs) k h = x

there_is : {X : Type 0} (o : Option X) (y : X) (P : X → Type 0) → option_map (λ x. x) o ≡ Some y → IfSome o P → IsSomeAnd o P
there_is None y P e h = search (rules, e)
there_is (Some x) y P e h = h

module _ {S F : Type 0} {steps : S → Option (Bor (List ℕ)) → S → Type 0} (p : Run steps) (g : Mut F (Bor (List ℕ) × Unit {0}) Bool) (f : F) (Form : List ℕ → Type 0) (bs : List ℕ)
    (m : ℕ) (xs : List ℕ) (seven : m ≡ 7) (behind : xs ≡ drop 5 bs) (long : 5 ≤ length bs) (chunks : 0 < m → IsChunksExactRun p m xs)
    (keeps : CallKeepsClosure g f) (bad : (x : Bor (List ℕ)) → Called g f (x, tt) true f → Form x.now → ⊥) (good : (x : Bor (List ℕ)) → Called g f (x, tt) false f → Form x.now) where
  cut : IsChunksExactRun p 7 (drop 5 bs)
  cut = subst (λ m. IsChunksExactRun p m (drop 5 bs)) seven (subst (IsChunksExactRun p m) behind (chunks (omega arith)))

  at_place : (k : ℕ) (x : List ℕ) → IsSubsliceAt 7 (drop 5 bs) (k * 7) x → x ≡ field (5 + 7 * k) 7 bs
  at_place k x s = s.0 ∙ ap (take 7) (drop-drop (k * 7) 5 bs) ∙ ap (λ i. take 7 (drop i bs)) (omega arith)

  good_at : (k : ℕ) → IsSomeAnd (p.at k) (λ x. Called g f (x, tt) false f) → Form (field (5 + 7 * k) 7 bs)
  good_at k h = at_some (p.at k) _ _ h (cut.2 k) (λ x a s. subst Form (at_place k x.now s.2) (good x a))

  bad_at : (k : ℕ) → IsSomeAnd (p.at k) (λ x. Called g f (x, tt) true f) → Form (field (5 + 7 * k) 7 bs) → ⊥
  bad_at k h form = at_some (p.at k) _ _ h (cut.2 k) (λ x a s. bad x a (subst Form (sym (at_place k x.now s.2)) form))

  pub first_bad : (r : Option ℕ) → MatchOption r ((p.whole ≡ true) × AllItemsGive p g f false) (λ i. (p.len ≡ i + 1) × IsFirstToGive p g f true false i)
      → MatchOption r ((k : ℕ) → 5 + 7 * k + 7 ≤ length bs → Form (field (5 + 7 * k) 7 bs)) (λ k. (5 + 7 * k + 7 ≤ length bs) × (Form (field (5 + 7 * k) 7 bs) → ⊥) × ((j : ℕ) → j < k → Form (field (5 + 7 * j) 7 bs)))
  first_bad None h = λ k l.
      let w = cut.1 h.0 in
      let b : k < p.len = omega (arith, length-drop 5 bs) in
      good_at k (there_is (p.at k) _ _ (p.reads k (an_item p.items k (omega (arith, p.long))) b) (h.1 keeps k))
  first_bad (Some i) h =
      let a = h.1 keeps in
      (omega (arith, cut.0, length-drop 5 bs), bad_at i a.0, λ j l. good_at j (a.1 j l))
