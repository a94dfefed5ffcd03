-- A scan accepts exactly what is laid out: one lemma for each way to lay out bytes.
use Rattle.std.proofs.Common.{◌≡◌, ℕ, zero, suc, ◌+◌, ◌<◌, ◌≤◌, Bool, true, false, cond, eqb, List, [], ◌++◌, length, take, drop, Ok, Err, Option, sym, refl, ap, ◌∙◌, subst, append_assoc, add-zero, arith, length-append, length-drop, take-append-drop, drop-drop, take_at, eqb-true}
use borrow.Author.Tests.{eqb-false}
use Rattle.std.proofs.lemmas.List.{drop_at}
use Rattle.readers.specs.Laws.{FieldLaw}
use Rattle.venue.specs.Form as venue
use Rattle.message.specs.declared.fault.MessageFault.{MessageFault}
use Rattle.message.specs.Reading.{Reading, ◌▷◌, field, value_at, tail_at}
use Rattle.message.proofs.Readings.{field_long, value_formed, value_read, tail_formed, tail_read}
use Rattle.snapshot.specs.Scanning.{Scan, ◌▸◌, field_at, tail_then}
use Rattle.snapshot.specs.Laid.{Layout, Field, Tail, ◌⨾◌, Here, Done}

-- from p to e the message lays out v
pub record Got {A : Type 0} (L : Layout A) (m : List ℕ) (p : ℕ) (v : A) (e : ℕ) : Type 0 where
  pub bytes : List ℕ
  pub split : drop p m ≡ bytes ++ drop e m
  pub end : e ≡ p + length bytes
  pub inside : p ≤ length m → e ≤ length m
  pub laid : L p bytes v

-- what R reads is laid out by L, and what is laid out by L is read by R
pub record Exact {A : Type 0} (m : List ℕ) (R : ℕ → Scan A) (L : Layout A) : Type 0 where
  pub sound : (p : ℕ) (v : A) (e : ℕ) → R p ≡ Ok (v, e) → Got L m p v e
  pub complete : (p : ℕ) (b c : List ℕ) (v : A) → p ≤ length m → drop p m ≡ b ++ c → L p b v → R p ≡ Ok (v, p + length b)

pub then_inv : {A B : Type 0} (x : Scan A) (f : A → ℕ → Scan B) (y : B × ℕ) → x ▸ f ≡ Ok y → (a : A) × (q : ℕ) × (x ≡ Ok (a, q)) × (f a q ≡ Ok y)
then_inv (Ok z) f y h = (z.0, z.1, refl, h)
then_inv (Err e) f y h = let z : ◌≡◌ {A = ℕ} 0 1 = cc in absurd (omega arith)

-- a scan that ends w bytes further
ended : {A : Type 0} (x : Reading A) (n : ℕ) (v : A) (e : ℕ) → ◌▷◌ {B = A × ℕ} x (λ y. Ok (y, n)) ≡ Ok (v, e) → (x ≡ Ok v) × (e ≡ n)
ended {A} (Ok y) n v e h =
    let same : ◌≡◌ {A = A × ℕ} (y, n) (v, e) = cc in
    (ap (λ (t : A × ℕ). Ok t.0) same, sym (ap (λ (t : A × ℕ). t.1) same))
ended (Err f) n v e h = let z : ◌≡◌ {A = ℕ} 0 1 = cc in absurd (omega arith)

pub positive : (k : ℕ) → eqb k 0 ≡ false → 0 < k
positive zero h = let z : ⊥ = eqb-false 0 0 h refl in absurd z
positive (suc k) h = omega arith

module _ (m : List ℕ) where
  -- what follows b in the message
  pub after : (p : ℕ) (b c : List ℕ) → drop p m ≡ b ++ c → drop (p + length b) m ≡ c
  after p b c h = sym (drop-drop (length b) p m) ∙ ap (drop (length b)) h ∙ drop_at b c (length b) refl

  -- the field at p, and what follows it
  cut : (p w e : ℕ) → e ≡ p + w → drop p m ≡ field p w m ++ drop e m
  cut p w e h = sym (take-append-drop w (drop p m)) ∙ ap (λ t. field p w m ++ t) (drop-drop w p m ∙ ap (λ n. drop n m) (sym h))

  pub within : (p : ℕ) (b c : List ℕ) → p ≤ length m → drop p m ≡ b ++ c → p + length b ≤ length m
  within p b c i h = omega (arith, length-drop p m, length-append b c, ap length h)

  pub exact_then : {A B : Type 0} (R : ℕ → Scan A) (S : ℕ → A → ℕ → Scan B) (L : Layout A) (M : A → Layout B)
      → Exact m R L → ((p : ℕ) (a : A) → Exact m (S p a) (M a)) → Exact m (λ p. R p ▸ S p) (L ⨾ M)
  exact_then R S L M r s = record {
    sound = λ p v e h.
        let i = then_inv (R p) (S p) (v, e) h in
        let g = r.sound p i.0 i.1 i.2 in
        let k = (s p i.0).sound i.1 v e i.3 in
        record {
          bytes = g.bytes ++ k.bytes;
          split = g.split ∙ ap (λ t. g.bytes ++ t) k.split ∙ sym (append_assoc g.bytes k.bytes (drop e m));
          end = omega (arith, g.end, k.end, length-append g.bytes k.bytes);
          inside = λ o. k.inside (g.inside o);
          laid = (i.0, g.bytes, k.bytes, refl, g.laid, subst (λ n. M i.0 n k.bytes v) g.end k.laid);
        };
    complete = λ p b c v o h l.
        let h2 : drop p m ≡ l.1 ++ (l.2 ++ c) = h ∙ ap (λ t. t ++ c) l.3 ∙ append_assoc l.1 l.2 c in
        let one = r.complete p l.1 (l.2 ++ c) l.0 o h2 l.4 in
        let two = (s p l.0).complete (p + length l.1) l.2 c v (within p l.1 (l.2 ++ c) o h2) (after p l.1 (l.2 ++ c) h2) l.5 in
        let long : (p + length l.1) + length l.2 ≡ p + length b = omega (arith, ap length l.3, length-append l.1 l.2) in
        ap (λ t. t ▸ S p) one ∙ two ∙ ap (λ n. Ok (v, n)) long;
  }

  none : {A : Type 0} (f : ℕ → A) (L : Layout A) → ((p : ℕ) → L p [] (f p)) → ((p : ℕ) (b : List ℕ) (v : A) → L p b v → (b ≡ []) × (v ≡ f p)) → Exact m (λ p. Ok (f p, p)) L
  none {A} f L made only = record {
    sound = λ p v e h.
        let same : ◌≡◌ {A = A × ℕ} (f p, p) (v, e) = cc in
        record {
          bytes = [];
          split = ap (λ (t : A × ℕ). drop t.1 m) same;
          end = sym (ap (λ (t : A × ℕ). t.1) same) ∙ sym (add-zero p);
          inside = λ o. subst (λ n. n ≤ length m) (ap (λ (t : A × ℕ). t.1) same) o;
          laid = subst (L p []) (ap (λ (t : A × ℕ). t.0) same) (made p);
        };
    complete = λ p b c v o h l.
        let k = only p b v l in
        let long : p ≡ p + length b = omega (arith, ap length k.0) in
        ap (λ y. Ok (y, p)) (sym k.1) ∙ ap (λ n. Ok (v, n)) long;
  }

  pub exact_done : {A : Type 0} (x : A) → Exact m (λ p. Ok (x, p)) (Done x)
  exact_done x = none (λ p. x) (Done x) (λ p. (refl, refl)) (λ p b v l. l)

  pub exact_offset : Exact m (λ p. Ok (p, p)) Here
  exact_offset = none (λ p. p) Here (λ p. (refl, refl)) (λ p b v l. l)

  -- a reading of w bytes
  exact_wide : {A : Type 0} (w : ℕ) (X : ℕ → Reading A) (L : Layout A)
      → ((p : ℕ) (v : A) → X p ≡ Ok v → (p + w ≤ length m) × L p (field p w m) v)
      → ((p : ℕ) (v : A) → p + w ≤ length m → L p (field p w m) v → X p ≡ Ok v)
      → ((p : ℕ) (b : List ℕ) (v : A) → L p b v → length b ≡ w)
      → Exact m (λ p. ◌▷◌ {B = A × ℕ} (X p) (λ v. Ok (v, p + w))) L
  exact_wide {A} w X L read formed long = record {
    sound = λ p v e h.
        let i = ended (X p) (p + w) v e h in
        let r = read p v i.0 in
        let size : length (field p w m) ≡ w = field_long p w m r.0 in
        record {
          bytes = field p w m;
          split = cut p w e i.1;
          end = omega (arith, i.1);
          inside = λ o. omega (arith, i.1, r.0);
          laid = r.1;
        };
    complete = λ p b c v o h l.
        let size : length b ≡ w = long p b v l in
        let fits : p + w ≤ length m = omega (arith, within p b c o h) in
        let found : field p w m ≡ b = ap (take w) h ∙ take_at b c w size in
        ap (λ (x : Reading A). ◌▷◌ {B = A × ℕ} x (λ y. Ok (y, p + w))) (formed p v fits (subst (λ t. L p t v) (sym found) l)) ∙ ap (λ n. Ok (v, p + n)) (sym size);
  }

  pub exact_field : {A : Type 0} {w : ℕ} {Is : List ℕ → A → Type 0} {f : List ℕ → Option A} → FieldLaw w Is f → Exact m (field_at m w f) (Field Is)
  unfolding field_at
  exact_field {A} {w} {Is} {f} law = exact_wide w (value_at m w f) (Field Is)
      (λ p v h. let r = value_read m w f p v h in (r.within, law.sound (field p w m) v r.value))
      (λ p v h l. value_formed m w f p v h (law.complete (field p w m) v l))
      (λ p. law.long)

  pub exact_tail : {T : Type 0} (F : venue.Form T) → Exact m (tail_then F m) (Tail F)
  unfolding tail_then
  exact_tail F = exact_wide F.width (tail_at F m) (Tail F)
      (λ p v h. let r = tail_read F m p v h in (r.within, (field_long p F.width m r.within, r.value)))
      (λ p v h l. tail_formed F m p v h l.1)
      (λ p b v l. l.0)

  guarded : {A : Type 0} (b : Bool) (k : ℕ) (f : MessageFault) (R : ℕ → Scan A) (L : Layout A) → eqb k 0 ≡ b → Exact m R L → Exact m (λ p. cond b (Err f) (R p)) (λ p bs v. (0 < k) × L p bs v)
  guarded true k f R L h r = record {
    sound = λ p v e q. let z : ◌≡◌ {A = ℕ} 0 1 = cc in absurd (omega arith);
    complete = λ p b c v o q l. absurd (omega (arith, l.0, eqb-true k 0 h));
  }
  guarded false k f R L h r = record {
    sound = λ p v e q. let g = r.sound p v e q in record { bytes = g.bytes; split = g.split; end = g.end; inside = g.inside; laid = (positive k h, g.laid) };
    complete = λ p b c v o q l. r.complete p b c v o q l.1;
  }

  pub exact_some : {A : Type 0} (k : ℕ) (f : MessageFault) (R : ℕ → Scan A) (L : Layout A) → Exact m R L → Exact m (λ p. cond (eqb k 0) (Err f) (R p)) (λ p bs v. (0 < k) × L p bs v)
  exact_some k f R L r = guarded (eqb k 0) k f R L refl r
