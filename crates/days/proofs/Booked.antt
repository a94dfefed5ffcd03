-- Days over books are days.
use Rattle.std.proofs.Common.{ℕ, ◌≤◌, List, [], ◌∷◌, ◌++◌, sym, subst}
use Rattle.book.specs.declared.order.Order.{Order}
use Rattle.days.specs.declared.events.Report.{Report}
use Rattle.days.specs.Model.{Rules}
use Rattle.days.specs.Day as day
use Rattle.days.specs.Day.{Day, Session, fresh, Answer, Took, Wrote, wrote}
use Rattle.days.specs.Theorem.{EveryDay}
use Rattle.days.specs.Books.{BookDay, begins, takes, writes, asks, BothKinds, EveryBookDay}

module _ {T : Type 0} (v : Rules T) where
  pub is_day : {B : Type 0} (capacity : B → ℕ) (ladder : B → List (Order T)) {bs : List ℕ} {rs : List Report} {s : Session} {b : B}
      → BookDay v capacity ladder bs rs s b → Day v (capacity b) bs rs s (ladder b)
  is_day capacity ladder (begins b e) = subst (Day v (capacity b) [] [] fresh) (sym e) day.begins
  is_day capacity ladder (takes {bs} {rs} {s} {b} {piece} {a} {s'} b' d t k) =
      subst (λ n. Day v n (bs ++ day.bytes_by v n a piece) (rs ++ day.reports_by v n a) s' (ladder b')) (sym k) (day.takes (is_day capacity ladder d) t)
  is_day capacity ladder (writes d w) = day.writes (is_day capacity ladder d) w
  is_day capacity ladder (asks d q a) = day.asks (is_day capacity ladder d) q a

  module _ (every : EveryDay v) {B C : Type 0} (capacity : B → ℕ) (ladder : B → List (Order T)) (capacity' : C → ℕ) (ladder' : C → List (Order T)) (small : (b : B) → capacity b ≤ 512) where
    pub both_kinds : BothKinds v capacity ladder capacity' ladder'
    both_kinds = record {
      agree = λ bs rs rs' s s' b c d e k.
          every.agree (capacity b) bs rs rs' s s' (ladder b) (ladder' c) (is_day capacity ladder d) (subst (λ n. Day v n bs rs' s' (ladder' c)) (sym k) (is_day capacity' ladder' e));
      late = λ whole part rs s b d ends nl is_open time room snapshot w login nlf opened rest rs₁ rs₂ s₁ s₂ b₁ c d₁ d₂ k₁ k₂.
          every.late (capacity b) (small b) whole part rs s (ladder b) (is_day capacity ladder d) ends nl is_open time room snapshot w login nlf opened rest rs₁ rs₂ s₁ s₂ (ladder b₁) (ladder' c)
          (subst (λ n. Day v n (whole ++ rest) rs₁ s₁ (ladder b₁)) k₁ (is_day capacity ladder d₁))
          (subst (λ n. Day v n ((login ++ (10 ∷ [])) ++ (snapshot ++ rest)) rs₂ s₂ (ladder' c)) k₂ (is_day capacity' ladder' d₂));
    }

  pub every_book_day : EveryDay v → {B : Type 0} (capacity : B → ℕ) (ladder : B → List (Order T)) → ((b : B) → capacity b ≤ 512) → EveryBookDay v capacity ladder
  every_book_day every capacity ladder small = record {
    means = λ bs rs s b d. every.means (capacity b) bs rs s (ladder b) (is_day capacity ladder d);
    stands = λ bs rs s b d. every.stands (capacity b) bs rs s (ladder b) (is_day capacity ladder d);
    kinds = both_kinds every capacity ladder capacity ladder small;
  }
