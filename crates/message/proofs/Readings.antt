-- Laws of the readings of single fields.
use Rattle.std.proofs.Common.{◌≡◌, ℕ, ◌+◌, ◌<◌, ◌≤◌, Bool, true, false, cond, leb, List, length, drop, Some, None, Ok, Err, Option, Result, refl, ap, ◌∙◌, arith, length-drop, length-take-le, le-leb, leb-true}
use borrow.Author.Tests.{lt-leb}
use Rattle.message.specs.declared.fault.MessageFault.TheVariants.{BadField, Miscounted}
use Rattle.venue.specs.Form as venue
use Rattle.message.specs.Reading.{Reading, field, value_at, tail_at, in_form, in_tail}

-- a field that is not cut short has its width
pub field_long : (p w : ℕ) (m : List ℕ) → p + w ≤ length m → length (field p w m) ≡ w
field_long p w m h = length-take-le w (drop p m) (simp length-drop (omega arith))

module _ {A : Type 0} (m : List ℕ) (w : ℕ) (f : List ℕ → Option A) (p : ℕ) where
  pub value_short : length m < p + w → value_at m w f p ≡ Err (Miscounted p)
  unfolding value_at
  value_short h = rw (lt-leb (p + w) (length m) h)

  pub value_formed : (v : A) → p + w ≤ length m → f (field p w m) ≡ Some v → value_at m w f p ≡ Ok v
  unfolding value_at
  value_formed v h e = rw (le-leb (p + w) (length m) h, e)

  pub value_unformed : p + w ≤ length m → f (field p w m) ≡ None → value_at m w f p ≡ Err (BadField p)
  unfolding value_at
  value_unformed h e = rw (le-leb (p + w) (length m) h, e)

module _ {T : Type 0} (F : venue.Form T) (m : List ℕ) (p : ℕ) where
  pub tail_short : length m < p + F.width → tail_at F m p ≡ Err (Miscounted p)
  unfolding tail_at
  tail_short h = rw (lt-leb (p + F.width) (length m) h)

  pub tail_formed : (v : T) → p + F.width ≤ length m → F.reads (field p F.width m) ≡ Ok v → tail_at F m p ≡ Ok v
  unfolding tail_at
  tail_formed v h e = rw (le-leb (p + F.width) (length m) h, e)

  pub tail_unformed : (k : ℕ) → p + F.width ≤ length m → F.reads (field p F.width m) ≡ Err k → tail_at F m p ≡ Err (BadField (p + k))
  unfolding tail_at
  tail_unformed k h e = rw (le-leb (p + F.width) (length m) h, e)

-- What a value read says of the bytes.
pub record ValueRead {A : Type 0} (m : List ℕ) (w : ℕ) (f : List ℕ → Option A) (p : ℕ) (v : A) : Type 0 where
  pub within : p + w ≤ length m
  pub value : f (field p w m) ≡ Some v

module _ {A : Type 0} (m : List ℕ) (w : ℕ) (f : List ℕ → Option A) (p : ℕ) (v : A) where
  by_test : (b : Bool) (o : Option A) → leb (p + w) (length m) ≡ b → f (field p w m) ≡ o → ◌≡◌ {A = Reading A} (cond b (in_form p o) (Err (Miscounted p))) (Ok v) → ValueRead m w f p v
  by_test true (Some x) hb ho h = let same : x ≡ v = cc in record { within = leb-true (p + w) (length m) hb; value = ho ∙ ap Some same }
  by_test true None hb ho h = cc
  by_test false o hb ho h = cc

  pub value_read : value_at m w f p ≡ Ok v → ValueRead m w f p v
  unfolding value_at
  value_read h = by_test (leb (p + w) (length m)) (f (field p w m)) refl refl h

pub record TailRead {T : Type 0} (F : venue.Form T) (m : List ℕ) (p : ℕ) (v : T) : Type 0 where
  pub within : p + F.width ≤ length m
  pub value : F.reads (field p F.width m) ≡ Ok v

module _ {T : Type 0} (F : venue.Form T) (m : List ℕ) (p : ℕ) (v : T) where
  by_tail : (b : Bool) (o : Result T ℕ) → leb (p + F.width) (length m) ≡ b → F.reads (field p F.width m) ≡ o → ◌≡◌ {A = Reading T} (cond b (in_tail p o) (Err (Miscounted p))) (Ok v) → TailRead F m p v
  by_tail true (Ok x) hb ho h = let same : x ≡ v = cc in record { within = leb-true (p + F.width) (length m) hb; value = ho ∙ ap Ok same }
  by_tail true (Err k) hb ho h = cc
  by_tail false o hb ho h = cc

  pub tail_read : tail_at F m p ≡ Ok v → TailRead F m p v
  unfolding tail_at
  tail_read h = by_tail (leb (p + F.width) (length m)) (F.reads (field p F.width m)) refl refl h
