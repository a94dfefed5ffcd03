-- The faults of a packet's form: the first check that fails, in number order, and in a layout's order within one number.
use Rattle.std.specs.Prelude.{◌≡◌, ℕ, ◌+◌, ◌*◌, ◌<◌, ◌≤◌, ◌⊎◌, List, length, ◌≢◌, slice_index}
use Rattle.fields.specs.Bytes.{Printable}
use Rattle.fields.specs.Fields.{IntegerField, TimeField}
use Rattle.fields.specs.Forms.{Paired}
use Rattle.packet.specs.Letters.{Letter, accepted, rejected, sequenced, heartbeat, explained, directory, code}
use Rattle.packet.specs.Layouts.{size, field, Fits, PrintableTo}
use Rattle.packet.specs.declared.packets.FormFault.{FormFault}
use Rattle.packet.specs.declared.packets.FormFault.TheVariants.{TooLong, Unprintable, NoLetter, WrongLength, BadField}

-- the number of a fault, and the packet offset that it names
abbrev pub number : FormFault → ℕ
number TooLong = 11
number (Unprintable at) = 12
number NoLetter = 13
number WrongLength = 15
number (BadField at) = 16

abbrev pub offset : FormFault → ℕ
offset TooLong = 0
offset (Unprintable at) = at
offset NoLetter = 0
offset WrongLength = 0
offset (BadField at) = at

-- no number or text has these bytes as its field
abbrev pub NotInForm : {X : Type 0} → (X → Type 0) → Type 0
NotInForm {X} Is = (x : X) → Is x → ⊥

-- a directory says n, in form
abbrev pub Says : List ℕ → ℕ → Type 0
Says bs n = IntegerField 4 (field 1 4 bs) n

-- the length is none of those that the letter has; a directory is read up to its n before its length is known
abbrev pub Misfits : Letter → List ℕ → Type 0
Misfits accepted bs = size bs ≡ 12 → ⊥
Misfits rejected bs = size bs ≡ 22 → ⊥
Misfits sequenced bs = (size bs ≢ 2) × (size bs < 12)
Misfits heartbeat bs = size bs ≡ 2 → ⊥
Misfits explained bs = size bs ≡ 102 → ⊥
Misfits directory bs = (size bs < 6) ⊎ ((n : ℕ) × (6 ≤ size bs) × Says bs n × (size bs ≢ 6 + 7 * n))

-- the length is one of the letter's, and the field at `at` is the first that is not in form
abbrev pub Malformed : Letter → List ℕ → ℕ → Type 0
Malformed accepted bs at = (at ≡ 1) × (size bs ≡ 12) × NotInForm (IntegerField 10 (field 1 10 bs))
Malformed rejected bs at = ⊥
Malformed sequenced bs at = (at ≡ 1) × (12 ≤ size bs) × NotInForm (TimeField (field 1 9 bs))
Malformed heartbeat bs at = ⊥
Malformed explained bs at = ⊥
Malformed directory bs at =
    ((at ≡ 1) × (6 ≤ size bs) × NotInForm (Says bs))
    ⊎ ((n : ℕ) × (k : ℕ) × (at ≡ 5 + 7 * k) × Says bs n × (size bs ≡ 6 + 7 * n) × (k < n)
    × (Paired (field (5 + 7 * k) 7 bs) → ⊥) × ((j : ℕ) → j < k → Paired (field (5 + 7 * j) 7 bs)))

-- the layout of letter c is not met: 13, 15 or 16
abbrev pub Unlike : ℕ → List ℕ → FormFault → Type 0
Unlike c bs TooLong = ⊥
Unlike c bs (Unprintable at) = ⊥
Unlike c bs NoLetter = (l : Letter) → c ≢ code l
Unlike c bs WrongLength = (l : Letter) × (c ≡ code l) × Misfits l bs
Unlike c bs (BadField at) = (l : Letter) × (c ≡ code l) × Malformed l bs at

-- bs has this fault: the checks before it pass, and this one fails
abbrev pub Faulty : List ℕ → FormFault → Type 0
Faulty bs TooLong = 49152 < size bs
Faulty bs (Unprintable at) = Fits bs × (at < length bs) × (Printable (slice_index bs at) → ⊥) × PrintableTo bs at
Faulty bs NoLetter = Fits bs × PrintableTo bs (length bs) × Unlike (slice_index bs 0) bs NoLetter
Faulty bs WrongLength = Fits bs × PrintableTo bs (length bs) × Unlike (slice_index bs 0) bs WrongLength
Faulty bs (BadField at) = Fits bs × PrintableTo bs (length bs) × Unlike (slice_index bs 0) bs (BadField at)
