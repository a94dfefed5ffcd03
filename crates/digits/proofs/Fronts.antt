-- The digits that a list begins with.
use Rattle.std.proofs.Common.{cond, mul_assoc, take, mul-le-mul_left, ◌≡◌, ℕ, zero, suc, ◌+◌, ◌*◌, ◌^◌, ◌<◌, ◌≤◌, true, false, List, [], ◌∷◌, ◌++◌, length, get_or, drop, replicate, sym, refl, ap, ◌∙◌, subst, mul-le-mul_right, pow-suc, add-one, arith, pow-add}
use native.Mathlib.Nat.{pow-le-pow_right}
use Rattle.std.specs.List.{AllByRecursion, prefix_len, take_while}
use Rattle.std.specs.Char.{is_ascii_digit}
use Rattle.std.proofs.lemmas.Bool.{cond-true, cond-false, cond_both}
use Rattle.std.proofs.lemmas.Bool.Decides.{nat_tests}
use Rattle.std.proofs.lemmas.List.{at_drop_more, at_drop_all, drop_more, drop_all}
use Rattle.std.proofs.lemmas.List.Recursion.{same_from_clauses}
use Rattle.std.proofs.lemmas.List.Sums.{take_while-cons}
use Rattle.digits.specs.Bytes.{Digit, Space}
use Rattle.digits.specs.Numerals.{front}

pub digit_test : (c : ℕ) → Digit c → is_ascii_digit c ≡ true
digit_test c h = grind (arith, nat_tests)

pub digit_from_test : (c : ℕ) → is_ascii_digit c ≡ true → Digit c
digit_from_test c h = grind (arith, nat_tests)

pub front_more : (xs : List ℕ) (i : ℕ) → i < length xs → is_ascii_digit (get_or xs i 0) ≡ true → front (drop i xs) ≡ get_or xs i 0 ∷ front (drop (i + 1) xs)
front_more xs i l h = at_drop_more front xs i 0 l ∙ cond-true _ _ _ h

pub front_stop : (xs : List ℕ) (i : ℕ) → i < length xs → is_ascii_digit (get_or xs i 0) ≡ false → front (drop i xs) ≡ []
front_stop xs i l h = at_drop_more front xs i 0 l ∙ cond-false _ _ _ h

pub front_end : (xs : List ℕ) (i : ℕ) → length xs ≤ i → front (drop i xs) ≡ []
front_end xs i l = at_drop_all front xs i l

pub front_prefix : (xs : List ℕ) → take (prefix_len is_ascii_digit xs) xs ≡ front xs
front_prefix xs = same_from_clauses (take_while is_ascii_digit) front (λ c cs. cond (is_ascii_digit c) (c ∷ cs) []) refl (take_while-cons is_ascii_digit) (λ c cs. refl) xs

pub front-append : (ws rest : List ℕ) → AllByRecursion Digit ws → front rest ≡ [] → front (ws ++ rest) ≡ ws
front-append [] rest d n = n
front-append (c ∷ cs) rest d n = cond-true _ _ _ (digit_test c d.0) ∙ ap (λ l. c ∷ l) (front-append cs rest d.1 n)

pub front_digits : (bs : List ℕ) → AllByRecursion Digit (front bs)
front_digits [] = tt
front_digits (c ∷ cs) = cond_both (is_ascii_digit c) (c ∷ front cs) [] (AllByRecursion Digit) (λ e. (digit_from_test c e, front_digits cs)) (λ e. tt)

pub front_past : (bs : List ℕ) → bs ≡ front bs ++ drop (length (front bs)) bs
front_past [] = refl
front_past (c ∷ cs) =
    cond_both (is_ascii_digit c) (c ∷ front cs) [] (λ f. (c ∷ cs) ≡ f ++ drop (length f) (c ∷ cs)) (λ e. ap (λ l. c ∷ l) (front_past cs)) (λ e. refl)

pub pow10_le : (i j : ℕ) → i ≤ j → 10 ^ i ≤ 10 ^ j
pow10_le i j h = pow-le-pow_right {n = 10} (omega arith) h

-- one digit more after a number below m * 10 ^ k, where digits follow up to the place j
pub digit_room : (m k j n d : ℕ) → n < m * 10 ^ k → k < j → m * 10 ^ j ≤ 10 ^ 18 → d < 10 → (n * 10 + d < m * 10 ^ (k + 1)) × (n * 10 + d < 2 ^ 63)
digit_room m k j n d h l r s =
    let e : m * 10 ^ (k + 1) ≡ m * 10 ^ k * 10 = ap (λ x. m * x) (rw add-one (pow-suc 10 k)) ∙ sym (mul_assoc m (10 ^ k) 10) in
    let u : m * 10 ^ (k + 1) ≤ m * 10 ^ j = mul-le-mul_left m (pow10_le (k + 1) j (omega arith)) in
    (omega arith, omega arith)

pub spaces_more : (xs : List ℕ) (i : ℕ) → i < length xs → get_or xs i 0 ≡ 32 → AllByRecursion Space (drop (i + 1) xs) → AllByRecursion Space (drop i xs)
spaces_more xs i l h t = subst (AllByRecursion Space) (sym (drop_more xs i 0 l)) (h, t)

pub spaces_rest : (xs : List ℕ) (i : ℕ) → i < length xs → AllByRecursion Space (drop i xs) → (get_or xs i 0 ≡ 32) × AllByRecursion Space (drop (i + 1) xs)
spaces_rest xs i l h = subst (AllByRecursion Space) (drop_more xs i 0 l) h

pub spaces_end : (xs : List ℕ) (i : ℕ) → length xs ≤ i → AllByRecursion Space (drop i xs)
spaces_end xs i l = subst (AllByRecursion Space) (sym (drop_all i xs l)) tt

-- numbers of i digits, with j more behind them
module _ (n i j : ℕ) (h : n < 10 ^ i) (k : i + j ≤ 18) where
  below : (n + 1) * 10 ^ j ≤ 10 ^ (i + j)
  below = let s = pow-add 10 i j in let m : (n + 1) * 10 ^ j ≤ 10 ^ i * 10 ^ j = mul-le-mul_right (10 ^ j) (omega arith) in omega arith

  pub more_room : (n + 1) * 10 ^ j ≤ 10 ^ 18
  more_room = omega (arith, below, pow10_le (i + j) 18 k)

  pub more_below : (m : ℕ) → m < (n + 1) * 10 ^ j → m < 10 ^ (i + j)
  more_below m l = omega (arith, below)

  pub scaled_room : n * 10 ^ j < 2 ^ 63
  scaled_room = omega (arith, more_room, mul-le-mul_right (10 ^ j) (n_below n))
    where
      n_below : (m : ℕ) → m ≤ m + 1
      n_below m = omega arith

pub spaces_replicate : (n : ℕ) → AllByRecursion Space (replicate n 32)
spaces_replicate zero = tt
spaces_replicate (suc n) = (refl, spaces_replicate n)
