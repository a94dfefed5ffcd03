-- The laws of the decimals: the count is unique, what is written reads back, and it fits its field.
use Rattle.std.proofs.Common.{◌≡◌, ℕ, zero, suc, ◌+◌, ◌-◌, ◌*◌, ◌/◌, ◌%◌, ◌^◌, ◌<◌, ◌≤◌, eqb, List, [], ◌∷◌, length, replicate, decimal, sym, ap, ◌∙◌, ⊎_elim, mod-lt, mul_assoc, mul_comm, div-lt_iff_lt-mul, add-mul, pow-suc, div-add-mod', mul-one, div-le_self, arith, pow-add, rules}
use native.Mathlib.Nat.{pow-zero}
use Rattle.std.specs.List.{AllByRecursion}
use Rattle.std.proofs.lemmas.Bool.{cond_both, eqb-true}
use Rattle.std.proofs.lemmas.List.{length-append, append_assoc}
use Rattle.std.proofs.lemmas.Fmt.{digits_decimal, digits_value-decimal, length-decimal-le, decimal_nonempty}
use Rattle.std.proofs.lemmas.Str.Parse.{IsNumeralModel, numerals_by_fold}
use Rattle.digits.specs.Bytes.{Digit}
use Rattle.digits.specs.Numerals.{read_on, pointed, front, Decimal}
use Rattle.digits.specs.Written.{decimals, written, padded}
use Rattle.digits.proofs.Fronts.{spaces_rest, spaces_replicate}
use Rattle.digits.proofs.Shapes.{Plain, Parted, decimal_shape, read_on-append}
use Rattle.digits.proofs.Writes.{pow10_pos}

apart : (k : ℕ) (bs : List ℕ) (m n : ℕ) → Plain k bs m → Parted k bs n → ⊥
apart k bs m n p q =
    let s = (spaces_rest bs (length (front bs)) q.inside p.spaces).0 in
    let t = q.point in
    omega arith

-- bytes have one count
pub one_count : (k : ℕ) (bs : List ℕ) (m n : ℕ) → Decimal k bs m → Decimal k bs n → m ≡ n
one_count k bs m n a b =
    ⊎_elim
    (λ p. ⊎_elim (λ q. p.count ∙ sym q.count) (λ q. absurd (apart k bs m n p q)) (decimal_shape k bs n b))
    (λ p. ⊎_elim (λ q. absurd (apart k bs n m q p)) (λ q. p.count ∙ sym q.count) (decimal_shape k bs n b))
    (decimal_shape k bs m a)

pub own : IsNumeralModel (AllByRecursion Digit) (read_on 0)
own = numerals_by_fold (AllByRecursion Digit) (search rules) read_on (search rules)

pub decimals_digits : (k r : ℕ) → r < 10 ^ k → AllByRecursion Digit (decimals k r)
decimals_digits zero r h = tt
decimals_digits (suc k) r h =
    cond_both (eqb r 0) [] ((48 + r / 10 ^ k) ∷ decimals k (r % 10 ^ k)) (AllByRecursion Digit) (λ e. tt)
    (λ e.
    let d : r / 10 ^ k < 10 = (div-lt_iff_lt-mul (pow10_pos k)).1 (omega (arith, pow-suc 10 k)) in
    ((omega arith, omega arith), decimals_digits k (r % 10 ^ k) (mod-lt r (pow10_pos k))))

pub length-decimals : (k r : ℕ) → length (decimals k r) ≤ k
length-decimals zero r = omega arith
length-decimals (suc k) r =
    cond_both (eqb r 0) [] ((48 + r / 10 ^ k) ∷ decimals k (r % 10 ^ k)) (λ l. length l ≤ suc k) (λ e. omega arith) (λ e. omega (arith, length-decimals k (r % 10 ^ k)))

-- the decimals written are the rest, in units of the last place
pub scaled : (k r m : ℕ) → r < 10 ^ k → read_on m (decimals k r) * 10 ^ (k - length (decimals k r)) ≡ m * 10 ^ k + r
scaled zero r m h = omega (arith, pow-zero 10, mul-one m)
scaled (suc k) r m h =
    cond_both (eqb r 0) [] ((48 + r / 10 ^ k) ∷ decimals k (r % 10 ^ k)) (λ l. read_on m l * 10 ^ (suc k - length l) ≡ m * 10 ^ suc k + r)
    (λ e. let z = eqb-true r 0 e in let i : suc k - 0 ≡ suc k = omega arith in ap (λ j. m * 10 ^ j) i ∙ omega arith)
    (λ e.
    let q = r / 10 ^ k in
    let ih = scaled k (r % 10 ^ k) (m * 10 + (48 + q - 48)) (mod-lt r (pow10_pos k)) in
    let ix : suc k - suc (length (decimals k (r % 10 ^ k))) ≡ k - length (decimals k (r % 10 ^ k)) = omega arith in
    let d : q * 10 ^ k + r % 10 ^ k ≡ r = div-add-mod' r (10 ^ k) in
    let a : (m * 10 + q) * 10 ^ k ≡ m * 10 * 10 ^ k + q * 10 ^ k = add-mul (m * 10) q (10 ^ k) in
    let b : m * 10 * 10 ^ k ≡ m * (10 * 10 ^ k) = mul_assoc m 10 (10 ^ k) in
    let p : 10 ^ suc k ≡ 10 * 10 ^ k = pow-suc 10 k ∙ mul_comm (10 ^ k) 10 in
    let c : (m * 10 + (48 + q - 48)) * 10 ^ k ≡ (m * 10 + q) * 10 ^ k = ap (λ x. x * 10 ^ k) (omega arith) in
    ap (λ j. read_on (m * 10 + (48 + q - 48)) (decimals k (r % 10 ^ k)) * 10 ^ j) ix ∙ ih ∙ omega (arith, ap (λ x. m * x) p))

-- what is written reads back
abbrev pub written_reads : (k n w : ℕ) → n < 2 ^ 64 → Decimal k (padded w (written k n)) n
written_reads k n w f =
    let q = n / 10 ^ k in
    let r = n % 10 ^ k in
    let fq : q < 2 ^ 64 = omega (arith, div-le_self n (10 ^ k)) in
    let fr : r < 10 ^ k = mod-lt n (pow10_pos k) in
    record {
      whole = decimal q;
      part = decimals k r;
      pad = replicate (w - length (written k n)) 32;
      form = append_assoc (decimal q) (pointed (decimals k r)) (replicate (w - length (written k n)) 32);
      whole_digits = digits_decimal own q fq;
      whole_some = decimal_nonempty q fq;
      part_digits = decimals_digits k r fr;
      pad_spaces = spaces_replicate (w - length (written k n));
      part_few = length-decimals k r;
      count = sym (
          ap (λ x. x * 10 ^ (k - length (decimals k r))) (read_on-append 0 (decimal q) (decimals k r) ∙ ap (λ x. read_on x (decimals k r)) (digits_value-decimal own q fq))
          ∙ scaled k r q fr ∙ div-add-mod' n (10 ^ k));
    }

length-pointed : (ds : List ℕ) → length (pointed ds) ≤ length ds + 1
length-pointed [] = omega arith
length-pointed (d ∷ ds) = omega arith

-- it fits where its whole part has at most j digits
pub written_fits : (k j n : ℕ) → 0 < j → n < 10 ^ (j + k) → n < 2 ^ 64 → length (written k n) ≤ j + 1 + k
written_fits k j n some h f =
    let q : n / 10 ^ k < 10 ^ j = (div-lt_iff_lt-mul (pow10_pos k)).1 (omega (arith, pow-add 10 j k)) in
    omega (arith, length-append (decimal (n / 10 ^ k)) (pointed (decimals k (n % 10 ^ k))), length-decimal-le j (n / 10 ^ k) some q (omega (arith, div-le_self n (10 ^ k))), length-pointed (decimals k (n % 10 ^ k)), length-decimals k (n % 10 ^ k))
