-- What is written is the tidy decimal.
use Rattle.std.proofs.Common.{◌≡◌, ℕ, zero, suc, ◌+◌, ◌-◌, ◌*◌, ◌/◌, ◌%◌, ◌^◌, ◌<◌, ◌≤◌, eqb, List, [], ◌∷◌, ◌++◌, length, replicate, decimal, sym, refl, ap, ◌∙◌, ⊎_elim, mul-le-mul_right, mod-lt, mod-eq_of_lt, mul_assoc, mul_comm, add-mul, pow-suc, div-add-mod', zero-mul, div-le_self, arith, pow-add}
use native.Mathlib.Nat.{mul-add-div_right, mul-add-mod_self_right, div-eq_of_lt}
use Rattle.std.specs.List.{AllByRecursion}
use Rattle.std.proofs.lemmas.Bool.{cond_both, cond-false, ne_eqb, eqb-false, cases_lt}
use Rattle.std.proofs.lemmas.List.{length-append, append_assoc}
use Rattle.std.proofs.lemmas.Fmt.{decimal_digit, first_decimal, decimal-digits_value}
use Rattle.std.proofs.lemmas.Str.Parse.{digits_value_short}
use Rattle.digits.specs.Bytes.{Digit, Space}
use Rattle.digits.specs.Numerals.{read_on, pointed}
use Rattle.digits.specs.Written.{decimals, written, padded}
use Rattle.facts.specs.Tidy.{Unled, Trimmed, Tidy, TidyLaws}
use Rattle.digits.proofs.Shapes.{read_on-append}
use Rattle.digits.proofs.Writes.{pow10_pos, decimals_some, decimals_none, places_pos}
use Rattle.digits.proofs.Counts.{own, written_reads}

unled_decimal : (q : ℕ) → q < 2 ^ 64 → Unled (decimal q)
unled_decimal q f =
    ⊎_elim (λ p. λ e. let h = first_decimal q p f in absurd (omega arith)) (λ z. λ e. ap length (decimal_digit q (omega arith))) (cases_lt 0 q)

trimmed_cons : (d : ℕ) (ds : List ℕ) → (ds ≡ [] → d ≡ 48 → ⊥) → Trimmed ds → Trimmed (d ∷ ds)
trimmed_cons d [] h t = h refl
trimmed_cons d (e ∷ ds) h t = t

decimals_nil : (k r : ℕ) → r < 10 ^ k → decimals k r ≡ [] → r ≡ 0
decimals_nil k r h e = ⊎_elim (λ p. let s = decimals_some k r (places_pos k r h p) p in absurd (omega (arith, ap length e))) (λ z. omega arith) (cases_lt 0 r)

decimals_trimmed : (k r : ℕ) → r < 10 ^ k → Trimmed (decimals k r)
decimals_trimmed zero r h = tt
decimals_trimmed (suc k) r h =
    cond_both (eqb r 0) [] ((48 + r / 10 ^ k) ∷ decimals k (r % 10 ^ k)) Trimmed (λ e. tt)
    (λ e.
    let m = mod-lt r (pow10_pos k) in
    trimmed_cons (48 + r / 10 ^ k) (decimals k (r % 10 ^ k))
    (λ z f.
    let a = decimals_nil k (r % 10 ^ k) m z in
    let q : r / 10 ^ k ≡ 0 = omega arith in
    let d = div-add-mod' r (10 ^ k) in
    eqb-false r 0 e (sym d ∙ ap (λ x. x * 10 ^ k + r % 10 ^ k) q ∙ omega arith))
    (decimals_trimmed k (r % 10 ^ k) m))

pub tidy_is : (k n w : ℕ) → n < 2 ^ 64 → Tidy k (padded w (written k n)) n
tidy_is k n w f = record {
  decimal = written_reads k n w f;
  unled = unled_decimal (n / 10 ^ k) (omega (arith, div-le_self n (10 ^ k)));
  trimmed = decimals_trimmed k (n % 10 ^ k) (mod-lt n (pow10_pos k));
}

-- digits after the number a
read_on_from : (a : ℕ) (ds : List ℕ) → read_on a ds ≡ a * 10 ^ length ds + read_on 0 ds
read_on_from a [] = omega arith
read_on_from a (d ∷ ds) =
    let x = d - 48 in
    let p : 10 ^ suc (length ds) ≡ 10 * 10 ^ length ds = pow-suc 10 (length ds) ∙ mul_comm (10 ^ length ds) 10 in
    let z : 0 * 10 + x ≡ x = omega arith in
    read_on_from (a * 10 + x) ds ∙ ap (λ m. m + read_on 0 ds) (add-mul (a * 10) x (10 ^ length ds) ∙ ap (λ m. m + x * 10 ^ length ds) (mul_assoc a 10 (10 ^ length ds) ∙ ap (λ m. a * m) (sym p)))
    ∙ omega (arith, read_on_from x ds, ap (λ m. read_on m ds) z)

value_below : (ds : List ℕ) → AllByRecursion Digit ds → read_on 0 ds < 10 ^ length ds
value_below ds d = digits_value_short own ds (length ds) d (omega arith)

split_pow : (l k : ℕ) → l ≤ k → 10 ^ l * 10 ^ (k - l) ≡ 10 ^ k
split_pow l k h = let e : l + (k - l) ≡ k = omega arith in sym (pow-add 10 l (k - l)) ∙ ap (λ j. 10 ^ j) e

shift : (a k : ℕ) (ds : List ℕ) → length ds ≤ k → read_on a ds * 10 ^ (k - length ds) ≡ a * 10 ^ k + read_on 0 ds * 10 ^ (k - length ds)
shift a k ds h =
    let u = 10 ^ (k - length ds) in
    ap (λ x. x * u) (read_on_from a ds) ∙ add-mul (a * 10 ^ length ds) (read_on 0 ds) u ∙ ap (λ x. x + read_on 0 ds * u) (mul_assoc a (10 ^ length ds) u ∙ ap (λ x. a * x) (split_pow (length ds) k h))

below : (k : ℕ) (ds : List ℕ) → AllByRecursion Digit ds → length ds ≤ k → read_on 0 ds * 10 ^ (k - length ds) < 10 ^ k
below k ds d h =
    let u = 10 ^ (k - length ds) in
    let b = value_below ds d in
    let le : (read_on 0 ds + 1) * u ≤ 10 ^ length ds * u = mul-le-mul_right u (omega arith) in
    omega (arith, add-mul (read_on 0 ds) 1 u, split_pow (length ds) k h, pow10_pos (k - length ds))

-- n is q whole units and s of the last place
parts : (k q s : ℕ) → s < 10 ^ k → ((q * 10 ^ k + s) / 10 ^ k ≡ q) × ((q * 10 ^ k + s) % 10 ^ k ≡ s)
parts k q s h =
    (mul-add-div_right (pow10_pos k) q s ∙ ap (λ x. q + x) (div-eq_of_lt h) ∙ omega arith, mul-add-mod_self_right q (10 ^ k) s ∙ mod-eq_of_lt h)

positive : (ds : List ℕ) → AllByRecursion Digit ds → Trimmed ds → 0 < length ds → 0 < read_on 0 ds
positive [] d t h = absurd (omega arith)
positive (c ∷ []) d t h =
    let a = d.0 in
    ⊎_elim (λ p. p) (λ z. absurd (t (omega arith))) (cases_lt 0 (0 * 10 + (c - 48)))
positive (c ∷ (e ∷ ds)) d t h = omega (arith, read_on_from (0 * 10 + (c - 48)) (e ∷ ds), positive (e ∷ ds) d.1 t (omega arith))

mul_pos : (a b : ℕ) → 0 < a → 0 < b → 0 < a * b
mul_pos a b h k = let le : 1 * b ≤ a * b = mul-le-mul_right b h in omega arith

part_is : (k : ℕ) (ds : List ℕ) → AllByRecursion Digit ds → length ds ≤ k → Trimmed ds → decimals k (read_on 0 ds * 10 ^ (k - length ds)) ≡ ds
part_is k [] d h t = ap (decimals k) (zero-mul (10 ^ (k - 0))) ∙ decimals_none k
part_is zero (c ∷ ds) d h t = absurd (omega arith)
part_is (suc k) (c ∷ ds) d h t =
    let x = 0 * 10 + (c - 48) in
    let u = 10 ^ (k - length ds) in
    let s = read_on 0 ds * u in
    let i : suc k - suc (length ds) ≡ k - length ds = omega arith in
    let g : read_on x ds * 10 ^ (suc k - suc (length ds)) ≡ x * 10 ^ k + s = ap (λ j. read_on x ds * 10 ^ j) i ∙ shift x k ds (omega arith) in
    let p = mul_pos (read_on 0 (c ∷ ds)) (10 ^ (suc k - suc (length ds))) (positive (c ∷ ds) d t (omega arith)) (pow10_pos (suc k - suc (length ds))) in
    let w = parts k x s (below k ds d.1 (omega arith)) in
    let e : 48 + x ≡ c = (let a = d.0 in omega arith) in
    cond-false _ _ _ (ne_eqb (read_on x ds * 10 ^ (suc k - suc (length ds))) 0 (λ z. omega arith))
    ∙ ap (λ m. (48 + m / 10 ^ k) ∷ decimals k (m % 10 ^ k)) g
    ∙ ap (λ m. (48 + m) ∷ decimals k ((x * 10 ^ k + s) % 10 ^ k)) w.0
    ∙ ap (λ m. (48 + x) ∷ decimals k m) w.1
    ∙ ap (λ l. (48 + x) ∷ l) (part_is k ds d.1 (omega arith) (trimmed_rest c ds t))
    ∙ ap (λ m. m ∷ ds) e
  where
    trimmed_rest : (c : ℕ) (ds : List ℕ) → Trimmed (c ∷ ds) → Trimmed ds
    trimmed_rest c [] t = tt
    trimmed_rest c (e ∷ ds) t = t

spaces_are : (xs : List ℕ) → AllByRecursion Space xs → xs ≡ replicate (length xs) 32
spaces_are [] s = refl
spaces_are (x ∷ xs) s = ap (λ c. c ∷ xs) s.0 ∙ ap (λ l. 32 ∷ l) (spaces_are xs s.1)

pub tidy_only : (k n : ℕ) (bs : List ℕ) → n < 2 ^ 64 → Tidy k bs n → bs ≡ padded (length bs) (written k n)
tidy_only k n bs f t =
    let d = t.decimal in
    let q = read_on 0 d.whole in
    let s = read_on 0 d.part * 10 ^ (k - length d.part) in
    let e : n ≡ q * 10 ^ k + s = d.count ∙ ap (λ x. x * 10 ^ (k - length d.part)) (read_on-append 0 d.whole d.part) ∙ shift q k d.part d.part_few in
    let w = parts k q s (below k d.part d.part_digits d.part_few) in
    let a : n / 10 ^ k ≡ q = ap (λ x. x / 10 ^ k) e ∙ w.0 in
    let b : n % 10 ^ k ≡ s = ap (λ x. x % 10 ^ k) e ∙ w.1 in
    let g : decimal (n / 10 ^ k) ≡ d.whole = ap decimal a ∙ decimal-digits_value own d.whole d.whole_digits d.whole_some t.unled (omega (arith, div-le_self n (10 ^ k))) in
    let h : decimals k (n % 10 ^ k) ≡ d.part = ap (decimals k) b ∙ part_is k d.part d.part_digits d.part_few t.trimmed in
    let j : written k n ≡ d.whole ++ pointed d.part = ap (λ x. x ++ pointed (decimals k (n % 10 ^ k))) g ∙ ap (λ x. d.whole ++ pointed x) h in
    let m : bs ≡ written k n ++ d.pad = d.form ∙ sym (append_assoc d.whole (pointed d.part) d.pad) ∙ ap (λ x. x ++ d.pad) (sym j) in
    m ∙ ap (λ x. written k n ++ x) (spaces_are d.pad d.pad_spaces ∙ ap (λ x. replicate x 32) (omega (arith, ap length m, length-append (written k n) d.pad)))

pub tidy_laws : TidyLaws
tidy_laws = record { is = tidy_is; only = tidy_only }
