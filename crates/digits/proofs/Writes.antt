-- What the writer's steps give.
use Rattle.std.proofs.Common.{Option, Some, None, IfNone, IfSome, div-le_self, ◌*◌, le-div_iff_mul-le, add-one, ◌≡◌, ℕ, zero, suc, ◌+◌, ◌-◌, ◌/◌, ◌%◌, ◌^◌, ◌<◌, ◌≤◌, false, eqb, List, [], ◌∷◌, ◌++◌, length, take, drop, set, replicate, decimal, sym, refl, ap, ◌∙◌, subst, mod-lt, div-lt_iff_lt-mul, pow-suc, arith}
use borrow.Rule.Slice.PartMut.{put_mid}
use Rattle.std.specs.Option.{unwrap_or}
use Rattle.std.proofs.lemmas.Bool.{cond-false, ne_eqb}
use Rattle.std.proofs.lemmas.List.{drop-replicate, take_at, drop_at, take_all, drop_all, length-drop, length-append, length_push, append_assoc, append-nil}
use Rattle.std.proofs.lemmas.Fmt.{decimal_digit, decimal_step, decimal_nonempty, length-decimal-le}
use Rattle.digits.specs.Written.{decimals, written, padded, overwritten}
use Rattle.digits.specs.Numerals.{pointed}
use Rattle.digits.proofs.Fronts.{pow10_le}

pub pow10_pos : (k : ℕ) → 0 < 10 ^ k
pow10_pos k = omega (arith, pow10_le 0 k (omega arith))

pub length_digit : (n : ℕ) → n < 10 → length (decimal n) ≡ 1
length_digit n h = ap length (decimal_digit n h)

pub length_step : (n : ℕ) → 10 ≤ n → n < 2 ^ 64 → length (decimal n) ≡ length (decimal (n / 10)) + 1
length_step n h f = ap length (decimal_step n h f) ∙ length_push (decimal (n / 10)) (48 + n % 10)

pow10_long : (k n : ℕ) → 10 ^ k ≤ n → n < 2 ^ 64 → k < length (decimal n)
pow10_long zero n h f = decimal_nonempty n f
pow10_long (suc k) n h f =
    let e = pow-suc 10 k in
    let q : 10 ^ k ≤ n / 10 = (le-div_iff_mul-le {k = 10} {x = 10 ^ k} {y = n} (omega arith)).1 (omega arith) in
    let p : 0 < 10 ^ k = pow10_pos k in
    let t : 10 ≤ n = omega arith in
    let g : n / 10 < 2 ^ 64 = omega (arith, div-le_self n 10) in
    omega (arith, length_step n t f, pow10_long k (n / 10) q g)

-- the number of digits, by the power of ten below
pub length_by_log : (k : Option ℕ) (n : ℕ) → n < 2 ^ 64 → IfNone k (n ≡ 0) → IfSome k (λ k. 10 ^ k ≤ n) → IfSome k (λ k. n < 10 * 10 ^ k) → unwrap_or k 0 + 1 ≡ length (decimal n)
length_by_log None n f z h l = sym (length_digit n (omega arith))
length_by_log (Some k) n f z h l =
    let b : n < 10 ^ (k + 1) = rw add-one (omega (arith, pow-suc 10 k)) in
    omega (arith, pow10_long k n h f, length-decimal-le (k + 1) n (omega arith) b f)

-- one byte more behind a text
pub push_over : (t xs : List ℕ) (b : ℕ) → length t < length xs → set (overwritten t xs) (length t) b ≡ overwritten (t ++ b ∷ []) xs
push_over [] [] b h = absurd (omega arith)
push_over [] (x ∷ xs) b h = refl
push_over (y ∷ t) [] b h = absurd (omega arith)
push_over (y ∷ t) (x ∷ xs) b h = ap (λ l. y ∷ l) (push_over t xs b (omega arith))

-- the last digit
pub put_last : (xs : List ℕ) (n : ℕ) → length (decimal n) ≤ length xs → 10 ≤ n → n < 2 ^ 64 → set (overwritten (decimal (n / 10)) xs) (length (decimal (n / 10))) (48 + n % 10) ≡ overwritten (decimal n) xs
put_last xs n l h f =
    push_over (decimal (n / 10)) xs (48 + n % 10) (omega (arith, length_step n h f)) ∙ ap (λ t. overwritten t xs) (sym (decimal_step n h f))

pub decimals_none : (k : ℕ) → decimals k 0 ≡ []
decimals_none zero = refl
decimals_none (suc k) = refl

-- one decimal
pub decimals_step : (k r : ℕ) → 0 < k → 0 < r → decimals k r ≡ (48 + r / 10 ^ (k - 1)) ∷ decimals (k - 1) (r % 10 ^ (k - 1))
decimals_step zero r h p = absurd (omega arith)
decimals_step (suc k) r h p =
    let e : suc k - 1 ≡ k = omega arith in
    let n : eqb r 0 ≡ false = ne_eqb r 0 (λ z. omega arith) in
    cond-false _ _ _ n ∙ ap (λ j. (48 + r / 10 ^ j) ∷ decimals j (r % 10 ^ j)) (sym e)

-- its digit
pub top_digit : (k r : ℕ) → 0 < k → r < 10 ^ k → r / 10 ^ (k - 1) < 10
top_digit zero r h l = absurd (omega arith)
top_digit (suc k) r h l =
    let e : suc k - 1 ≡ k = omega arith in
    subst (λ j. r / 10 ^ j < 10) (sym e) ((div-lt_iff_lt-mul (pow10_pos k)).1 (omega (arith, pow-suc 10 k)))

-- one turn of the writer of decimals, u being the unit of the next place
module _ (k r u : ℕ) (e : u ≡ 10 ^ (k - 1)) (h : 0 < k) where
  pub unit_pos : 0 < u
  unit_pos = omega (arith, pow10_pos (k - 1))

  pub digit_small : r < 10 ^ k → r / u < 10
  digit_small l = omega (arith, ap (λ x. r / x) e, top_digit k r h l)

  pub rest_small : r % u < 10 ^ (k - 1)
  rest_small = omega (arith, mod-lt r unit_pos)

-- the same, u being the unit of the next place
pub step_at : (k r u : ℕ) → u ≡ 10 ^ (k - 1) → 0 < k → 0 < r → decimals k r ≡ (48 + r / u) ∷ decimals (k - 1) (r % u)
step_at k r u e h p = decimals_step k r h p ∙ ap (λ x. (48 + r / x) ∷ decimals (k - 1) (r % x)) (sym e)

pub decimals_some : (k r : ℕ) → 0 < k → 0 < r → 0 < length (decimals k r)
decimals_some k r h p = omega (arith, ap length (decimals_step k r h p))

pub places_pos : (k r : ℕ) → r < 10 ^ k → 0 < r → 0 < k
places_pos zero r h p = absurd (omega arith)
places_pos (suc k) r h p = omega arith

-- the unit of the next place
pub next_unit : (k u : ℕ) → u ≡ 10 ^ k → 0 < k → u / 10 ≡ 10 ^ (k - 1)
next_unit zero u e h = absurd (omega arith)
next_unit (suc k) u e h =
    let j : suc k - 1 ≡ k = omega arith in
    let p : 10 ^ suc k ≡ 10 ^ k * 10 = pow-suc 10 k in
    omega (arith, ap (λ i. 10 ^ i) j)

-- a text written from a place on
put_end : (at : ℕ) (xs ys : List ℕ) → at ≤ length xs → put_mid at (length xs - at) xs ys ≡ take at xs ++ ys
put_end at xs ys h =
    ap (λ t. take at xs ++ (ys ++ t)) (drop_all (length xs - at) (drop at xs) (omega (arith, length-drop at xs))) ∙ ap (λ t. take at xs ++ t) (append-nil ys)

pub rest_of : (at : ℕ) (xs : List ℕ) → take (length xs - at) (drop at xs) ≡ drop at xs
rest_of at xs = take_all (length xs - at) (drop at xs) (omega (arith, length-drop at xs))

-- a byte, and a text behind it
pub put_first : (xs os ys t : List ℕ) (b : ℕ) → 0 < length xs → os ≡ set xs 0 b → ys ≡ overwritten t (take (length os - 1) (drop 1 os)) → put_mid 1 (length os - 1) os ys ≡ overwritten (b ∷ t) xs
put_first [] os ys t b h o e = absurd (omega arith)
put_first (x ∷ xs) os ys t b h o e =
    put_end 1 os ys (omega (arith, ap length o)) ∙ ap (λ l. l ++ ys) (ap (take 1) o) ∙ ap (λ l. b ∷ l) (e ∙ ap (overwritten t) (rest_of 1 os ∙ ap (drop 1) o))

spaces_over : (t : List ℕ) (w : ℕ) → overwritten t (replicate w 32) ≡ padded w t
spaces_over t w = ap (λ l. t ++ l) (drop-replicate (length t) w 32)

padded-append : (w : ℕ) (t v : List ℕ) → t ++ padded (w - length t) v ≡ padded w (t ++ v)
padded-append w t v =
    sym (append_assoc t v (replicate (w - length t - length v) 32)) ∙ ap (λ n. (t ++ v) ++ replicate n 32) (omega (arith, length-append t v))

-- the whole of it, u being the unit
module _ (k n u : ℕ) (e : u ≡ 10 ^ k) where
  pub written_at : written k n ≡ decimal (n / u) ++ pointed (decimals k (n % u))
  written_at = ap (λ x. decimal (n / x) ++ pointed (decimals k (n % x))) (sym e)

  pub length-written : length (written k n) ≡ length (decimal (n / u)) + length (pointed (decimals k (n % u)))
  length-written = ap length written_at ∙ length-append (decimal (n / u)) (pointed (decimals k (n % u)))

  pub rest_below : n % u < 10 ^ k
  rest_below = omega (arith, mod-lt n {m = u} (omega (arith, pow10_pos k)))

  pub wrote : (w point : ℕ) (xs ys zs : List ℕ) → length (written k n) ≤ w → xs ≡ replicate w 32 → point ≡ length (decimal (n / u)) → ys ≡ overwritten (decimal (n / u)) xs → zs ≡ overwritten (pointed (decimals k (n % u))) (take (length ys - point) (drop point ys)) → put_mid point (length ys - point) ys zs ≡ padded w (written k n)
  wrote w point xs ys zs h a c b d =
      let t = decimal (n / u) in
      let v = pointed (decimals k (n % u)) in
      let y : ys ≡ padded w t = b ∙ ap (overwritten t) a ∙ spaces_over t w in
      let r : drop point ys ≡ replicate (w - length t) 32 = ap (drop point) y ∙ drop_at t (replicate (w - length t) 32) point (sym c) in
      let z : zs ≡ padded (w - length t) v = d ∙ ap (overwritten v) (rest_of point ys ∙ r) ∙ spaces_over v (w - length t) in
      put_end point ys zs (omega (arith, ap length y, length-append t (replicate (w - length t) 32)))
      ∙ ap (λ l. l ++ zs) (ap (take point) y ∙ take_at t (replicate (w - length t) 32) point (sym c))
      ∙ ap (λ l. t ++ l) z ∙ padded-append w t v ∙ ap (padded w) (sym written_at)
