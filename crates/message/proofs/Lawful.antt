-- The laws of the layouts, for every venue's form.
use Rattle.std.proofs.Common.{◌+◌, cond, sym, subst}
use Rattle.venue.specs.Form as venue
use Rattle.message.specs.Orders.{new_of, amend_of, reprice_of, modify_of, cancel_of}
use Rattle.message.specs.Laid.{NewRow, AmendRow, RepriceRow, ModifyRow, CancelRow}
use Rattle.message.specs.Checks.{Tells, Never, LacksPrice, amend_checks, reprice_checks}
use Rattle.message.specs.Laws.{LayoutLaws}
use Rattle.message.proofs.Layouts.{one_of, new_exact, new_tells, modify_exact, amend_tells, reprice_tells, cancel_exact, cancel_tells}

pub layout_laws : {T : Type 0} (F : venue.Form T) → LayoutLaws F
layout_laws F = record {
  new_exact = λ m. new_exact F m;
  modify_exact = λ m. modify_exact F m;
  cancel_exact = cancel_exact;
  one_new = λ m. one_of (new_of F m) (NewRow F m) (new_exact F m);
  one_modify = λ m. one_of (modify_of F m) (ModifyRow F m) (modify_exact F m);
  one_cancel = λ m. one_of (cancel_of m) (CancelRow m) (cancel_exact m);
  new_told = λ m. new_tells F m;
  reprice_told = λ m e. subst (λ b. Tells (64 + F.width) (reprice_checks F m) (LacksPrice F m) (RepriceRow F m) m (cond b (reprice_of F m) (amend_of F m))) (sym e) (reprice_tells F m);
  amend_told = λ m e. subst (λ b. Tells (39 + F.width) (amend_checks F m) Never (AmendRow F m) m (cond b (reprice_of F m) (amend_of F m))) (sym e) (amend_tells F m);
  cancel_told = cancel_tells;
}
