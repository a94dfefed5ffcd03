use Rattle.std.proofs.Common.{◌≡◌, ℕ, ◌+◌, ◌-◌, ◌≤◌, leb, List, ◌++◌, length, take, ap, ◌∙◌, inl, inr, arith, leb-true}
use lib.Seq.{take-append-add}
use Rattle.std.proofs.lemmas.List.{take-take}
use Rattle.std.proofs.lemmas.Bool.{cases_Bool}
use Rattle.replay.specs.Cutting.{whole}

-- what is held at the end of a packet, less its LF
front : (i c m : ℕ) (P ps K : List ℕ) → length P ≡ c → m ≡ c + (i + 1) → m ≤ 49152
    → K ≡ take 49152 (P ++ take (i + 1) ps) → take (m - 1) K ≡ P ++ take i ps
front i c m P ps K l e h k =
    let Q = take (i + 1) ps in
    let q : m - 1 ≡ length P + i = omega arith in
    ap (take (m - 1)) k ∙ take-take (m - 1) 49152 (P ++ Q) (omega arith) ∙ ap (λ n. take n (P ++ Q)) q ∙ take-append-add P Q i
    ∙ ap (λ x. P ++ x) (take-take i (i + 1) ps (omega arith))

pub packet_ends : (i c m : ℕ) (P ps K : List ℕ) → (c ≤ 49152 → length P ≡ c) → m ≡ c + (i + 1)
    → K ≡ take 49152 (P ++ take (i + 1) ps) → whole m (take (m - 1) K) ≡ whole (c + (i + 1)) (P ++ take i ps)
packet_ends i c m P ps K l e k =
    elim (cases_Bool (leb m 49152)) [
      | inl t ↦ let h : m ≤ 49152 = omega (arith, leb-true) in rw (← e) (ap (λ x. whole m x) (front i c m P ps K (l (omega arith)) e h k))
      | inr f ↦ rw (← e) (simp f)
    ]
