-- The laws of the readers of messages on one order, for a venue's form.
use Rattle.std.specs.Prelude.{◌≡◌, ℕ, ◌+◌, true, false, List, Ok}
use Rattle.venue.specs.Form as venue
use Rattle.message.specs.Reading.{Reading}
use Rattle.message.specs.Orders.{new_of, modify_of, cancel_of}
use Rattle.message.specs.Laid.{NewRow, ModifyRow, RepriceRow, AmendRow, CancelRow}
use Rattle.message.specs.Checks.{Tells, Never, LacksPrice, new_checks, amend_checks, reprice_checks, cancel_checks}

-- what is laid out is read as that, and nothing else is read
abbrev pub Exact : {A : Type 0} → Reading A → (A → Type 0) → Type 0
Exact {A} r Row = (v : A) → (r ≡ Ok v → Row v) × (Row v → r ≡ Ok v)

-- two values of one row are the same
abbrev pub One : {A : Type 0} → (A → Type 0) → Type 0
One {A} Row = (v w : A) → Row v → Row w → v ≡ w

pub record LayoutLaws {T : Type 0} (F : venue.Form T) : Type 0 where
  -- a message is read exactly when the bytes lay it out
  pub new_exact : (m : List ℕ) → Exact (new_of F m) (NewRow F m)
  pub modify_exact : (m : List ℕ) → Exact (modify_of F m) (ModifyRow F m)
  pub cancel_exact : (m : List ℕ) → Exact (cancel_of m) (CancelRow m)
  -- no bytes lay out two
  pub one_new : (m : List ℕ) → One (NewRow F m)
  pub one_modify : (m : List ℕ) → One (ModifyRow F m)
  pub one_cancel : (m : List ℕ) → One (CancelRow m)
  -- a fault names the check that fails first
  pub new_told : (m : List ℕ) → Tells (50 + F.width) (new_checks F m) Never (NewRow F m) m (new_of F m)
  pub reprice_told : (m : List ℕ) → F.priced ≡ true → Tells (64 + F.width) (reprice_checks F m) (LacksPrice F m) (RepriceRow F m) m (modify_of F m)
  pub amend_told : (m : List ℕ) → F.priced ≡ false → Tells (39 + F.width) (amend_checks F m) Never (AmendRow F m) m (modify_of F m)
  pub cancel_told : (m : List ℕ) → Tells 23 (cancel_checks m) Never (CancelRow m) m (cancel_of m)
