-- What the calls on fields answer.
use Rattle.std.specs.Prelude.{◌≡◌, ℕ, ◌+◌, ◌<◌, ◌≤◌, List, ◌++◌, length, take, drop, Some, None, Ok, Err, Option, Result}
use Rattle.fields.specs.declared.fault.Fault.{Fault}
use Rattle.fields.specs.declared.fault.Fault.TheVariants.{NotInForm, NoRoom}

-- the number of a refusal
abbrev pub number : Fault → ℕ
number NotInForm = 43
number NoRoom = 41

-- a reader of bytes answers the value whose field they are, and 43 exactly where they are no value's
abbrev pub Reads : {V X : Type 0} → (List ℕ → X → Type 0) → (V → X) → List ℕ → Result V Fault → Type 0
Reads Field value bs (Ok v) = Field bs (value v)
Reads {V} {X} Field value bs (Err e) = (number e ≡ 43) × ((x : X) → Field bs x → ⊥)

-- a finder of values finds the value whose field the bytes are, and none exactly where they are no value's
abbrev pub Found : {V X : Type 0} → (List ℕ → X → Type 0) → (V → X) → List ℕ → Option V → Type 0
Found Field value bs (Some v) = Field bs (value v)
Found {V} {X} Field value bs None = (x : X) → Field bs x → ⊥

-- a maker of values answers the value of this number, and none exactly where no value may have it
abbrev pub Makes : {V : Type 0} → (ℕ → Type 0) → (V → ℕ) → ℕ → Option V → Type 0
Makes May value n (Some v) = value v ≡ n
Makes May value n None = May n → ⊥

-- a text is written into a buffer at an offset and no other byte changes, or 41 exactly where it has no room there
abbrev pub Writes : {U : Type 0} → List ℕ → List ℕ → ℕ → Result U Fault → List ℕ → Type 0
Writes text before at (Ok _) after = (at + length text ≤ length before) × (after ≡ take at before ++ (text ++ drop (at + length text) before))
Writes text before at (Err e) after = (number e ≡ 41) × (length before < at + length text) × (after ≡ before)
