-- A scan stops exactly where its part stops: one lemma for each way to lay out bytes.
use Rattle.std.proofs.Common.{◌≡◌, ℕ, zero, suc, ◌+◌, ◌<◌, ◌≤◌, Bool, true, false, cond, eqb, leb, ◌⊎◌, List, [], ◌++◌, length, drop, Some, None, Ok, Err, Option, Result, sym, refl, ap, ◌∙◌, subst, inl, inr, ⊎_elim, arith, length-drop, eq-eqb, ne_eqb, eqb-true, leb-false, leb-true}
use Rattle.readers.specs.Laws.{FieldLaw}
use Rattle.venue.specs.Form as venue
use Rattle.message.specs.declared.fault.MessageFault.{MessageFault}
use Rattle.message.specs.declared.fault.MessageFault.TheVariants.{BadField, Miscounted}
use Rattle.message.specs.Reading.{Reading, ◌▷◌, field, value_at, tail_at}
use Rattle.message.proofs.Readings.{value_short, value_formed, value_unformed, tail_short, tail_formed, tail_unformed}
use Rattle.snapshot.specs.Scanning.{Scan, ◌▸◌, ◌⨟◌, field_at, tail_then, times}
use Rattle.snapshot.specs.Laid.{Layout, ◌⨾◌, Here, Done}
use Rattle.snapshot.specs.Faults.{Located, Stop, Part, in_form, in_tail, no_bytes, Past, ◌⟫◌, ◌⧻◌, rows, choice}
use Rattle.snapshot.proofs.Exact.{Exact, after, within, positive, exact_then, exact_done, exact_offset, exact_field, exact_tail, exact_some}

-- R accepts exactly what the part lays out, and stops exactly where the part stops, with the same fault
pub record Follows {A : Type 0} (m : List ℕ) (R : ℕ → Scan A) (P : Part A) : Type 0 where
  pub exact : Exact m R P.laid
  pub stopped : (p : ℕ) (f : MessageFault) → p ≤ length m → R p ≡ Err f → P.stops p (drop p m) f
  pub stopping : (p : ℕ) (f : MessageFault) → p ≤ length m → P.stops p (drop p m) f → R p ≡ Err f
  pub located : (p : ℕ) (f : MessageFault) → R p ≡ Err f → Located f

pub stop_inv : {A B : Type 0} (x : Scan A) (g : A → ℕ → Scan B) (f : MessageFault) → x ▸ g ≡ Err f → (x ≡ Err f) ⊎ ((a : A) × (q : ℕ) × (x ≡ Ok (a, q)) × (g a q ≡ Err f))
stop_inv (Ok z) g f h = inr (z.0, z.1, refl, h)
stop_inv (Err e) g f h = inl (cc)

failed : {A : Type 0} (x : Reading A) (n : ℕ) (f : MessageFault) → ◌▷◌ {B = A × ℕ} x (λ y. Ok (y, n)) ≡ Err f → x ≡ Err f
failed (Ok y) n f h = let z : ◌≡◌ {A = ℕ} 0 1 = cc in absurd (omega arith)
failed (Err e) n f h = cc

-- what a field of w bytes that is refused says of the bytes
module _ {A : Type 0} (m : List ℕ) (w : ℕ) (r : List ℕ → Option A) (p : ℕ) (f : MessageFault) where
  value_by : (b : Bool) (o : Option A) → leb (p + w) (length m) ≡ b → r (field p w m) ≡ o → value_at m w r p ≡ Err f
      → ((length m < p + w) × (f ≡ Miscounted p)) ⊎ ((p + w ≤ length m) × (r (field p w m) ≡ None) × (f ≡ BadField p))
  value_by true (Some v) hb ho h = let k = value_formed m w r p v (leb-true _ _ hb) ho in let z : ◌≡◌ {A = ℕ} 0 1 = cc in absurd (omega arith)
  value_by true None hb ho h = let k = value_unformed m w r p (leb-true _ _ hb) ho in inr (leb-true _ _ hb, ho, (cc))
  value_by false o hb ho h = let k = value_short m w r p (leb-false _ _ hb) in inl (leb-false _ _ hb, (cc))

module _ {T : Type 0} (F : venue.Form T) (m : List ℕ) (p : ℕ) (f : MessageFault) where
  tail_by : (b : Bool) (o : Result T ℕ) → leb (p + F.width) (length m) ≡ b → F.reads (field p F.width m) ≡ o → tail_at F m p ≡ Err f
      → ((length m < p + F.width) × (f ≡ Miscounted p)) ⊎ ((p + F.width ≤ length m) × (k : ℕ) × (F.reads (field p F.width m) ≡ Err k) × (f ≡ BadField (p + k)))
  tail_by true (Ok v) hb ho h = let k = tail_formed F m p v (leb-true _ _ hb) ho in let z : ◌≡◌ {A = ℕ} 0 1 = cc in absurd (omega arith)
  tail_by true (Err k) hb ho h = let e = tail_unformed F m p k (leb-true _ _ hb) ho in inr (leb-true _ _ hb, k, ho, (cc))
  tail_by false o hb ho h = let k = tail_short F m p (leb-false _ _ hb) in inl (leb-false _ _ hb, (cc))

module _ (m : List ℕ) where
  -- a part, and then one that may know where the first began
  pub follows_from : {A B : Type 0} (R : ℕ → Scan A) (S : ℕ → A → ℕ → Scan B) (P : Part A) (M : A → Layout B) (N : ℕ → A → Stop)
      → Follows m R P → ((p : ℕ) (a : A) → Follows m (S p a) (record { laid = M a; stops = N p a }))
      → Follows m (λ p. R p ▸ S p) (record { laid = P.laid ⨾ M; stops = λ p bs f. P.stops p bs f ⊎ Past P.laid (N p) p bs f })
  follows_from {A} R S P M N r s = record {
    exact = exact_then m R S P.laid M r.exact (λ p a. (s p a).exact);
    stopped = λ p f o h. ⊎_elim
        (λ e. inl (r.stopped p f o e))
        (λ i.
        let g = r.exact.sound p i.0 i.1 i.2 in
        inr (i.0, g.bytes, drop i.1 m, g.split, g.laid, subst (λ n. N p i.0 n (drop i.1 m) f) g.end ((s p i.0).stopped i.1 f (g.inside o) i.3)))
        (stop_inv (R p) (S p) f h);
    stopping = λ p f o. λ t. ⊎_elim
        (λ t. ap (λ x. x ▸ S p) (r.stopping p f o t))
        (λ l.
        let here = after m p l.1 l.2 l.3 in
        ap (λ x. x ▸ S p) (r.exact.complete p l.1 l.2 l.0 o l.3 l.4)
        ∙ (s p l.0).stopping (p + length l.1) f (within m p l.1 l.2 o l.3) (subst (λ x. N p l.0 (p + length l.1) x f) (sym here) l.5))
        t;
    located = λ p f h. ⊎_elim (r.located p f) (λ i. (s p i.0).located i.1 f i.3) (stop_inv (R p) (S p) f h);
  }

  pub follows_then : {A B : Type 0} (R : ℕ → Scan A) (S : ℕ → A → ℕ → Scan B) (P : Part A) (Q : A → Part B)
      → Follows m R P → ((p : ℕ) (a : A) → Follows m (S p a) (Q a)) → Follows m (λ p. R p ▸ S p) (P ⟫ Q)
  follows_then R S P Q r s = follows_from R S P (λ a. (Q a).laid) (λ _ a. (Q a).stops) r s

  no_stop : {A : Type 0} (g : ℕ → A) (L : Layout A) → Exact m (λ p. Ok (g p, p)) L → Follows m (λ p. Ok (g p, p)) (no_bytes L)
  no_stop g L r = record {
    exact = r;
    stopped = λ p f o h. let z : ◌≡◌ {A = ℕ} 0 1 = cc in omega arith;
    stopping = λ p f o t. absurd t;
    located = λ p f h. let z : ◌≡◌ {A = ℕ} 0 1 = cc in absurd (omega arith);
  }

  pub follows_done : {A : Type 0} (x : A) → Follows m (λ p. Ok (x, p)) (no_bytes (Done x))
  follows_done x = no_stop (λ p. x) (Done x) (exact_done m x)

  -- what is read with the offset where it begins
  pub follows_here : {A : Type 0} (R : ℕ → ℕ → Scan A) (Q : ℕ → Part A) → ((at : ℕ) → Follows m (R at) (Q at)) → Follows m (λ p. R p p) (no_bytes Here ⟫ Q)
  follows_here R Q r = follows_then (λ p. Ok (p, p)) (λ _. R) (no_bytes Here) Q (no_stop (λ p. p) Here (exact_offset m)) (λ _. r)

  pub follows_field : {A : Type 0} {w : ℕ} {Is : List ℕ → A → Type 0} {r : List ℕ → Option A} → FieldLaw w Is r → Follows m (field_at m w r) (in_form w Is)
  unfolding field_at
  follows_field {A} {w} {Is} {r} law = record {
    exact = exact_field m law;
    stopped = λ p f o h. ⊎_elim
        (λ x. inl (omega (arith, x.0, length-drop p m), x.1))
        (λ x. inr (omega (arith, x.0, length-drop p m), (λ v l. let k = law.complete (field p w m) v l in let n = x.1 in let z : ◌≡◌ {A = ℕ} 0 1 = cc in omega arith), x.2))
        (value_by m w r p f (leb (p + w) (length m)) (r (field p w m)) refl refl (failed (value_at m w r p) (p + w) f h));
    stopping = λ p f o t. ⊎_elim
        (λ x. ap (λ (y : Reading A). ◌▷◌ {B = A × ℕ} y (λ v. Ok (v, p + w))) (value_short m w r p (omega (arith, x.0, length-drop p m))) ∙ ap Err (sym x.1))
        (λ x. ap (λ (y : Reading A). ◌▷◌ {B = A × ℕ} y (λ v. Ok (v, p + w))) (value_unformed m w r p (omega (arith, x.0, length-drop p m)) (unread p (r (field p w m)) refl x.1)) ∙ ap Err (sym x.2))
        t;
    located = λ p f h. ⊎_elim (λ x. (p, inl x.1)) (λ x. (p, inr x.2))
        (value_by m w r p f (leb (p + w) (length m)) (r (field p w m)) refl refl (failed (value_at m w r p) (p + w) f h));
  }
    where
      unread : (p : ℕ) (o : Option A) → r (field p w m) ≡ o → ((v : A) → Is (field p w m) v → ⊥) → r (field p w m) ≡ None
      unread p None h n = h
      unread p (Some v) h n = absurd (n v (law.sound (field p w m) v h))

  pub follows_tail : {T : Type 0} (F : venue.Form T) → Follows m (tail_then F m) (in_tail F)
  unfolding tail_then
  follows_tail {T} F = record {
    exact = exact_tail m F;
    stopped = λ p f o h. ⊎_elim
        (λ x. inl (omega (arith, x.0, length-drop p m), x.1))
        (λ x. inr (omega (arith, x.0, length-drop p m), x.1, x.2, x.3))
        (tail_by F m p f (leb (p + F.width) (length m)) (F.reads (field p F.width m)) refl refl (failed (tail_at F m p) (p + F.width) f h));
    stopping = λ p f o t. ⊎_elim
        (λ x. ap (λ (y : Reading T). ◌▷◌ {B = T × ℕ} y (λ v. Ok (v, p + F.width))) (tail_short F m p (omega (arith, x.0, length-drop p m))) ∙ ap Err (sym x.1))
        (λ x. ap (λ (y : Reading T). ◌▷◌ {B = T × ℕ} y (λ v. Ok (v, p + F.width))) (tail_unformed F m p x.1 (omega (arith, x.0, length-drop p m)) x.2) ∙ ap Err (sym x.3))
        t;
    located = λ p f h. ⊎_elim (λ x. (p, inl x.1)) (λ x. (p + x.1, inr x.3))
        (tail_by F m p f (leb (p + F.width) (length m)) (F.reads (field p F.width m)) refl refl (failed (tail_at F m p) (p + F.width) f h));
  }

  pub follows_both : {A : Type 0} (R S : ℕ → Scan (List A)) (P Q : Part (List A)) → Follows m R P → Follows m S Q → Follows m (λ p. R p ⨟ S) (P ⧻ Q)
  follows_both R S P Q r s = follows_then R (λ _ xs q. S q ▸ λ ys e. Ok (xs ++ ys, e)) P (λ xs. Q ⟫ λ ys. no_bytes (Done (xs ++ ys))) r
      (λ _ xs. follows_then S (λ _ ys e. Ok (xs ++ ys, e)) Q (λ ys. no_bytes (Done (xs ++ ys))) s (λ _ ys. follows_done (xs ++ ys)))

  pub follows_times : {A : Type 0} (R : ℕ → Scan (List A)) (P : Part (List A)) → Follows m R P → (n : ℕ) → Follows m (times R n) (rows P n)
  unfolding times
  follows_times R P r zero = follows_done []
  follows_times R P r (suc n) = follows_both R (times R n) P (rows P n) r (follows_times R P r n)

  pub follows_choice : {A : Type 0} (b : Bool) (R S : ℕ → Scan A) (P Q : Part A) → Follows m R P → Follows m S Q → Follows m (λ p. cond b (R p) (S p)) (choice b P Q)
  follows_choice true R S P Q r s = r
  follows_choice false R S P Q r s = s

  -- a number k that was read at q is not 0
  pub follows_some : {A : Type 0} (k q : ℕ) (R : ℕ → Scan A) (P : Part A) → Follows m R P
      → Follows m (λ p. cond (eqb k 0) (Err (Miscounted q)) (R p)) (record { laid = λ p bs v. (0 < k) × P.laid p bs v; stops = λ p bs f. ((k ≡ 0) × (f ≡ Miscounted q)) ⊎ ((0 < k) × P.stops p bs f) })
  follows_some {A} k q R P r = record {
    exact = exact_some m k (Miscounted q) R P.laid r.exact;
    stopped = λ p f o. by (eqb k 0) p f o refl;
    stopping = λ p f o t. ⊎_elim
        (λ x. ap (λ b. cond b (Err (Miscounted q)) (R p)) (eq-eqb k 0 x.0) ∙ ap Err (sym x.1))
        (λ x. ap (λ b. cond b (Err (Miscounted q)) (R p)) (ne_eqb k 0 (λ z. omega (arith, x.0, z))) ∙ r.stopping p f o x.1)
        t;
    located = λ p f. kind (eqb k 0) p f;
  }
    where
      by : (b : Bool) (p : ℕ) (f : MessageFault) → p ≤ length m → eqb k 0 ≡ b → cond b (Err (Miscounted q)) (R p) ≡ Err f → ((k ≡ 0) × (f ≡ Miscounted q)) ⊎ ((0 < k) × P.stops p (drop p m) f)
      by true p f o h e = inl (eqb-true k 0 h, (cc))
      by false p f o h e = inr (positive k h, r.stopped p f o e)

      kind : (b : Bool) (p : ℕ) (f : MessageFault) → cond b (Err (Miscounted q)) (R p) ≡ Err f → Located f
      kind true p f e = (q, inl (cc))
      kind false p f e = r.located p f e
