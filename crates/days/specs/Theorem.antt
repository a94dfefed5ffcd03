-- What holds of every day.
use Rattle.std.specs.Prelude.{◌≡◌, ℕ, ◌+◌, ◌≤◌, List, [], ◌∷◌, ◌++◌, length, drop, ◌≢◌}
use Rattle.book.specs.declared.order.Order.{Order}
use Rattle.book.specs.Ladder.{Ladder}
use Rattle.days.specs.declared.state.State.TheVariants.{Open}
use Rattle.days.specs.declared.events.Report.{Report}
use Rattle.days.specs.Model.{Rules, NoLF, reports_of, point_of, packets, left}
use Rattle.days.specs.History.{accepted, StandsBy}
use Rattle.days.specs.Day.{Day, Took, Wrote, wrote, Session, Answer, too_many, limit}

-- Reports that agree in order, their places apart by one number: place + a in the first is place + b in the second.
abbrev pub Alike : ℕ → ℕ → List Report → List Report → Type 0
Alike a b [] [] = Unit {0}
Alike a b [] (q ∷ qs) = ⊥
Alike a b (r ∷ rs) [] = ⊥
Alike a b (r ∷ rs) (q ∷ qs) = (r.outcome ≡ q.outcome) × (r.place + a ≡ q.place + b) × Alike a b rs qs

module _ {T : Type 0} (v : Rules T) where
  -- A day's reports and ladder are those that the bytes taken mean, however they were cut.
  abbrev pub MeansItsStream : Type 0
  MeansItsStream =
      (capacity : ℕ) (bs : List ℕ) (rs : List Report) (s : Session) (l : List (Order T)) → Day v capacity bs rs s l
      → (rs ≡ reports_of v capacity bs) × (l ≡ (point_of v capacity bs).ladder)

  -- Two days that took the same bytes, over books of equal capacity, agree.
  abbrev pub DaysAgree : Type 0
  DaysAgree =
      (capacity : ℕ) (bs : List ℕ) (rs rs' : List Report) (s s' : Session) (l l' : List (Order T))
      → Day v capacity bs rs s l → Day v capacity bs rs' s' l' → (rs ≡ rs') × (l ≡ l')

  -- No take answers 44 while the bytes taken and its piece are within the limit.
  abbrev pub TakesWithinLimit : Type 0
  TakesWithinLimit =
      (capacity : ℕ) (bs : List ℕ) (rs : List Report) (s : Session) (l : List (Order T)) → Day v capacity bs rs s l
      → (piece : List ℕ) (a : Answer) (s' : Session) (l' : List (Order T)) → Took v capacity s l piece a s' l'
      → length bs + length piece ≤ limit → a ≢ too_many

  -- Every id stands as the messages accepted in the day say.
  abbrev pub StandsByHistory : Type 0
  StandsByHistory =
      (capacity : ℕ) (bs : List ℕ) (rs : List Report) (s : Session) (l : List (Order T)) → Day v capacity bs rs s l
      → StandsBy (accepted v (packets [] bs) rs []) l

  -- A day's ladder is in order, has no id twice in a pair, and is within the capacity.
  abbrev pub KeepsALadder : Type 0
  KeepsALadder =
      (capacity : ℕ) (bs : List ℕ) (rs : List Report) (s : Session) (l : List (Order T)) → Day v capacity bs rs s l
      → Ladder l × (length l ≤ capacity)

  -- While a day's session is open, its book is written as a snapshot. The day had then taken `whole`, up to the end of its last
  -- whole packet, and `part` of the next one. A second day takes a login that opens its session, the snapshot, and then the bytes
  -- after `whole`. Whenever both have taken the same bytes `rest` of these, their reports on them agree but for places, and their
  -- ladders are equal; the place in the first day plus the bytes of login and snapshot is the place in the second plus those of `whole`.
  abbrev pub LateStarter : Type 0
  LateStarter =
      (capacity : ℕ) → capacity ≤ 512 → (whole part : List ℕ) (rs : List Report) (s : Session) (l : List (Order T)) → Day v capacity (whole ++ part) rs s l
      → left [] whole ≡ [] → NoLF part → s.state ≡ Open
      → (time : List ℕ) (room : ℕ) (snapshot : List ℕ) → Wrote v capacity l time room (wrote snapshot)
      → (login : List ℕ) → NoLF login → (point_of v capacity (login ++ (10 ∷ []))).state ≡ Open
      → (rest : List ℕ) (rs₁ rs₂ : List Report) (s₁ s₂ : Session) (l₁ l₂ : List (Order T))
      → Day v capacity (whole ++ rest) rs₁ s₁ l₁ → Day v capacity ((login ++ (10 ∷ [])) ++ (snapshot ++ rest)) rs₂ s₂ l₂
      → Alike (length (login ++ (10 ∷ [])) + length snapshot) (length whole) (drop (length (reports_of v capacity whole)) rs₁) (drop 2 rs₂) × (l₁ ≡ l₂)

-- What never fails in a day of takes, snapshot writings and questions.
pub record EveryDay {T : Type 0} (v : Rules T) : Type 0 where
  pub means : MeansItsStream v
  pub agree : DaysAgree v
  pub limited : TakesWithinLimit v
  pub stands : StandsByHistory v
  pub ladder : KeepsALadder v
  pub late : LateStarter v
