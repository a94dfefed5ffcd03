-- The verdict on a packet's form, worked out from its bytes before the LF; its length counts the LF.
use Rattle.std.specs.Prelude.{ℕ, ◌+◌, ◌*◌, cond, not, List, Some, None, Ok, Err, Option, Result, ◌==◌, nat_lt, slice_index}
use Rattle.std.specs.List.{position, range_with_len}
use Rattle.std.specs.Option.{ok_or}
use Rattle.fields.specs.Forms.{paired}
use Rattle.fields.specs.Ranges.{between}
use Rattle.fields.specs.declared.integers.Integer.{Integer}
use Rattle.readers.specs.Values.{time_of, integer_of}
use Rattle.packet.specs.Letters.{Letter, accepted, rejected, sequenced, heartbeat, explained, directory, code}
use Rattle.packet.specs.Layouts.{size, field}
use Rattle.packet.specs.declared.packets.Packet.{Packet}
use Rattle.packet.specs.declared.packets.Packet.TheVariants.{LoginAccepted, LoginRejected, EndOfSession, Sequenced, Heartbeat, ErrorNotification, Directory}
use Rattle.packet.specs.declared.packets.FormFault.{FormFault}
use Rattle.packet.specs.declared.packets.FormFault.TheVariants.{TooLong, Unprintable, NoLetter, WrongLength, BadField}

infixr 20 ◌▷◌
-- a value, or the first check that fails
abbrev pub Form : Type 0 → Type 0
Form A = Result A FormFault

-- first x, then f with its value
abbrev pub ◌▷◌ : {A B : Type 0} → Form A → (A → Form B) → Form B
◌▷◌ (Ok x) f = f x
◌▷◌ (Err e) f = Err e

-- 15 where the length is not n
abbrev pub sized : {A : Type 0} → ℕ → List ℕ → Form A → Form A
sized n bs r = cond (size bs == n) r (Err WrongLength)

-- 15 where the length is under n
abbrev pub sized_from : {A : Type 0} → ℕ → List ℕ → Form A → Form A
sized_from n bs r = cond (nat_lt (size bs) n) (Err WrongLength) r

-- the fault at k where there is such a k
abbrev pub unless_at : {A : Type 0} → (ℕ → FormFault) → Option ℕ → Form A → Form A
unless_at fault None r = r
unless_at fault (Some k) r = Err (fault k)

-- the letter of a code
abbrev pub letter_for : ℕ → Option Letter
letter_for c =
    cond (c == 65) (Some accepted)
    (cond (c == 74) (Some rejected)
    (cond (c == 83) (Some sequenced)
    (cond (c == 72) (Some heartbeat)
    (cond (c == 69) (Some explained)
    (cond (c == 82) (Some directory) None)))))

-- the place of the first byte that is not printable
abbrev pub unprintable : List ℕ → Option ℕ
unprintable bs = position (λ b. not (between 32 126 b)) bs

-- the first of a directory's n pairs that is not in form
abbrev pub unpaired : ℕ → List ℕ → Option ℕ
unpaired n bs = position (λ k. not (paired (field (5 + 7 * k) 7 bs))) (range_with_len 0 n)

-- the code of the packet's letter: 11, 12 and 13
unfoldable pub head_of : List ℕ → Form ℕ
head_of bs =
    cond (nat_lt 49152 (size bs)) (Err TooLong)
    (unless_at Unprintable (unprintable bs) (ok_or (letter_for (slice_index bs 0)) NoLetter ▷ λ l. Ok (code l)))

-- a directory that says n
abbrev pub directory_of : List ℕ → Integer 4 → Form Packet
directory_of bs n = sized (6 + 7 * n.value) bs (unless_at (λ k. BadField (5 + 7 * k)) (unpaired n.value bs) (Ok (Directory n)))

-- the table of layouts
abbrev pub row_of : Letter → List ℕ → Form Packet
row_of accepted bs = sized 12 bs (ok_or (integer_of 10 (field 1 10 bs)) (BadField 1) ▷ λ n. Ok (LoginAccepted n))
row_of rejected bs = sized 22 bs (Ok LoginRejected)
row_of sequenced bs =
    cond (size bs == 2) (Ok EndOfSession)
    (sized_from 12 bs (ok_or (time_of (field 1 9 bs)) (BadField 1) ▷ λ t. Ok (Sequenced t)))
row_of heartbeat bs = sized 2 bs (Ok Heartbeat)
row_of explained bs = sized 102 bs (Ok ErrorNotification)
row_of directory bs = sized_from 6 bs (ok_or (integer_of 4 (field 1 4 bs)) (BadField 1) ▷ λ n. directory_of bs n)

-- the packet of the letter whose code is c: 13, 15 and 16
unfoldable pub layout_of : ℕ → List ℕ → Form Packet
layout_of c bs = ok_or (letter_for c) NoLetter ▷ λ l. row_of l bs

-- the packet that the bytes lay out
unfoldable pub form_of : List ℕ → Form Packet
form_of bs = head_of bs ▷ λ c. layout_of c bs
