-- Days over the values of a kind of book, and over those of two kinds.
use Rattle.std.specs.Prelude.{◌≡◌, ℕ, ◌+◌, List, [], ◌∷◌, ◌++◌, length, drop}
use Rattle.book.specs.declared.order.Order.{Order}
use Rattle.days.specs.declared.state.State.TheVariants.{Open}
use Rattle.days.specs.declared.events.Report.{Report}
use Rattle.days.specs.Model.{Rules, NoLF, reports_of, point_of, packets, left}
use Rattle.days.specs.History.{accepted, StandsBy}
use Rattle.days.specs.Day.{Session, fresh, Answer, Written, Question, Took, Wrote, wrote, Asked, bytes_by, reports_by}
use Rattle.days.specs.Theorem.{Alike}

-- A day on a new session and an empty book: what its calls do to the book's value is said by its capacity and its ladder.
pub data BookDay {T : Type 0} (v : Rules T) {B : Type 0} (capacity : B → ℕ) (ladder : B → List (Order T)) : List ℕ → List Report → Session → B → Type 0 where
  begins : (b : B) → ladder b ≡ [] → BookDay v capacity ladder [] [] fresh b
  takes : {bs : List ℕ} {rs : List Report} {s : Session} {b : B} {piece : List ℕ} {a : Answer} {s' : Session} (b' : B)
      → BookDay v capacity ladder bs rs s b → Took v (capacity b) s (ladder b) piece a s' (ladder b') → capacity b' ≡ capacity b
      → BookDay v capacity ladder (bs ++ bytes_by v (capacity b) a piece) (rs ++ reports_by v (capacity b) a) s' b'
  writes : {bs : List ℕ} {rs : List Report} {s : Session} {b : B} {time : List ℕ} {room : ℕ} {a : Written}
      → BookDay v capacity ladder bs rs s b → Wrote v (capacity b) (ladder b) time room a → BookDay v capacity ladder bs rs s b
  asks : {bs : List ℕ} {rs : List Report} {s : Session} {b : B}
      → BookDay v capacity ladder bs rs s b → (q : Question T) → Asked v (capacity b) s (ladder b) q → BookDay v capacity ladder bs rs s b

-- a book of one kind and a book of the other
module _ {T : Type 0} (v : Rules T) {B C : Type 0} (capacity : B → ℕ) (ladder : B → List (Order T)) (capacity' : C → ℕ) (ladder' : C → List (Order T)) where
  -- Two days that took the same bytes, over books of equal capacity, agree.
  abbrev pub KindsAgree : Type 0
  KindsAgree =
      (bs : List ℕ) (rs rs' : List Report) (s s' : Session) (b : B) (c : C)
      → BookDay v capacity ladder bs rs s b → BookDay v capacity' ladder' bs rs' s' c → capacity b ≡ capacity' c → (rs ≡ rs') × (ladder b ≡ ladder' c)

  -- A second day, over a book of the other kind and of equal capacity, that starts from a snapshot of the first (as LateStarter has it).
  abbrev pub KindsLate : Type 0
  KindsLate =
      (whole part : List ℕ) (rs : List Report) (s : Session) (b : B) → BookDay v capacity ladder (whole ++ part) rs s b
      → left [] whole ≡ [] → NoLF part → s.state ≡ Open
      → (time : List ℕ) (room : ℕ) (snapshot : List ℕ) → Wrote v (capacity b) (ladder b) time room (wrote snapshot)
      → (login : List ℕ) → NoLF login → (point_of v (capacity b) (login ++ (10 ∷ []))).state ≡ Open
      → (rest : List ℕ) (rs₁ rs₂ : List Report) (s₁ s₂ : Session) (b₁ : B) (c : C)
      → BookDay v capacity ladder (whole ++ rest) rs₁ s₁ b₁ → BookDay v capacity' ladder' ((login ++ (10 ∷ [])) ++ (snapshot ++ rest)) rs₂ s₂ c
      → capacity b₁ ≡ capacity b → capacity' c ≡ capacity b
      → Alike (length (login ++ (10 ∷ [])) + length snapshot) (length whole) (drop (length (reports_of v (capacity b) whole)) rs₁) (drop 2 rs₂)
      × (ladder b₁ ≡ ladder' c)

  pub record BothKinds : Type 0 where
    pub agree : KindsAgree
    pub late : KindsLate

-- What never fails in a day over books of one kind.
pub record EveryBookDay {T : Type 0} (v : Rules T) {B : Type 0} (capacity : B → ℕ) (ladder : B → List (Order T)) : Type 0 where
  pub means : (bs : List ℕ) (rs : List Report) (s : Session) (b : B) → BookDay v capacity ladder bs rs s b → (rs ≡ reports_of v (capacity b) bs) × (ladder b ≡ (point_of v (capacity b) bs).ladder)
  pub stands : (bs : List ℕ) (rs : List Report) (s : Session) (b : B) → BookDay v capacity ladder bs rs s b → StandsBy (accepted v (packets [] bs) rs []) (ladder b)
  pub kinds : BothKinds v capacity ladder capacity ladder
