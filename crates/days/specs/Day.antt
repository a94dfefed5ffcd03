-- The calls of a day, by what each does, and a day as any list of them.
use Rattle.std.specs.Prelude.{◌≡◌, ℕ, ◌+◌, ◌<◌, ◌≤◌, true, false, cond, List, [], ◌∷◌, ◌++◌, length, take, Some, None, Option, nat_le}
use Rattle.fields.specs.Values.{Pair, Price}
use Rattle.book.specs.declared.order.Side.{Side}
use Rattle.book.specs.declared.order.Order.{Order}
use Rattle.book.specs.Ladder.{OrderId, named, at_level, at_rank}
use Rattle.book.specs.Calls.{Finds}
use Rattle.packet.specs.declared.packets.FormFault.TheVariants.{TooLong}
use Rattle.days.specs.declared.state.State.{State}
use Rattle.days.specs.declared.state.State.TheVariants.{Waiting}
use Rattle.days.specs.declared.faults.PacketFault.TheVariants.{Form}
use Rattle.days.specs.declared.events.Report.{Report}
use Rattle.days.specs.Model.{Rules, Worked, NoLF, worked, refused}

-- the packet being received: its bytes, or that they are more than are kept
pub data Held : Type 0 where
  kept : List ℕ → Held
  over : Held

-- with its LF a packet has at most 49,152 bytes
abbrev pub hold : List ℕ → Held
hold bs = cond (nat_le 49152 (length bs)) over (kept bs)

abbrev pub held_more : Held → List ℕ → Held
held_more (kept bs) cs = hold (bs ++ cs)
held_more over cs = over

-- a session: its state, the bytes taken, the place of the packet being received, what is held of it, and the packet that the
-- last take ended
pub record Session : Type 0 where
  pub state : State
  pub taken : ℕ
  pub place : ℕ
  pub held : Held
  pub ended : Option (List ℕ)

abbrev pub fresh : Session
fresh = record { state = Waiting; taken = 0; place = 0; held = kept []; ended = None }

abbrev pub limit : ℕ
limit = 1000000000000

-- what take answers: more; the bytes taken of the piece and the report; 44
pub data Answer : Type 0 where
  more : Answer
  reported : ℕ → Report → Answer
  too_many : Answer

-- what the snapshot writer answers: 42; 41; the packet's bytes, LF included
pub data Written : Type 0 where
  no_time : Written
  no_room : Written
  wrote : List ℕ → Written

-- the questions, with their answers
pub data Question (T : Type 0) : Type 0 where
  state_is : State → Question T
  taken_is : ℕ → Question T
  last_packet : Option (List ℕ) → Question T
  length_is : ℕ → Question T
  capacity_is : ℕ → Question T
  order_at : ℕ → Option (Order T) → Question T
  rank_of : Pair → OrderId → Option ℕ → Question T
  rank_at : Pair → Side → Price → Option ℕ → Question T

abbrev pub ended_by : Held → Option (List ℕ)
ended_by (kept bs) = Some bs
ended_by over = None

module _ {T : Type 0} (v : Rules T) (capacity : ℕ) where
  -- the packet that is held is worked; one that is over is 11
  abbrev pub finish : State → List (Order T) → Held → Worked T
  finish s l (kept bs) = worked v capacity s l bs
  finish s l over = refused v capacity s l (Form TooLong)

  -- What take does: with the session s, the ladder l and a piece it gives an answer, and then session and ladder are as shown.
  pub data Took (s : Session) (l : List (Order T)) (piece : List ℕ) : Answer → Session → List (Order T) → Type 0 where
    beyond : limit < s.taken + length piece → Took s l piece too_many s l
    no_end : s.taken + length piece ≤ limit → NoLF piece
        → Took s l piece more
        (record { state = s.state; taken = s.taken + length piece; place = s.place; held = held_more s.held piece; ended = None }) l
    an_end : s.taken + length piece ≤ limit → (front rest : List ℕ) → piece ≡ front ++ (10 ∷ rest) → NoLF front
        → Took s l piece
        (reported (length front + 1) (record { place = s.place; outcome = (finish s.state l (held_more s.held front)).outcome }))
        (record {
          state = (finish s.state l (held_more s.held front)).state;
          taken = s.taken + (length front + 1);
          place = s.taken + (length front + 1);
          held = kept [];
          ended = ended_by (held_more s.held front);
        })
        (finish s.state l (held_more s.held front)).ladder

  -- What the snapshot writer does, with room bytes from the mark on.
  pub data Wrote (l : List (Order T)) (time : List ℕ) (room : ℕ) : Written → Type 0 where
    untimed : v.is_time time ≡ false → Wrote l time room no_time
    short : v.is_time time ≡ true → room < length (v.writes time l) + 1 → Wrote l time room no_room
    whole : v.is_time time ≡ true → length (v.writes time l) + 1 ≤ room → Wrote l time room (wrote (v.writes time l ++ (10 ∷ [])))

  -- what a question tells
  abbrev pub Asked : Session → List (Order T) → Question T → Type 0
  Asked s l (state_is a) = a ≡ s.state
  Asked s l (taken_is a) = a ≡ s.taken
  Asked s l (last_packet a) = a ≡ s.ended
  Asked s l (length_is a) = a ≡ length l
  Asked s l (capacity_is a) = a ≡ capacity
  Asked s l (order_at k a) = a ≡ at_rank l k
  Asked s l (rank_of p i a) = Finds (named p i) l a
  Asked s l (rank_at p d c a) = Finds (at_level p d c) l a

  -- the bytes that a take took, and the reports that it gave
  abbrev pub bytes_by : Answer → List ℕ → List ℕ
  bytes_by more piece = piece
  bytes_by (reported n r) piece = take n piece
  bytes_by too_many piece = []

  abbrev pub reports_by : Answer → List Report
  reports_by more = []
  reports_by (reported n r) = r ∷ []
  reports_by too_many = []

  -- A day: any list of the calls, on a new session and an empty book; with the bytes taken and the reports given.
  pub data Day : List ℕ → List Report → Session → List (Order T) → Type 0 where
    begins : Day [] [] fresh []
    takes : {bs : List ℕ} {rs : List Report} {s : Session} {l : List (Order T)} {piece : List ℕ} {a : Answer} {s' : Session} {l' : List (Order T)}
        → Day bs rs s l → Took s l piece a s' l' → Day (bs ++ bytes_by a piece) (rs ++ reports_by a) s' l'
    writes : {bs : List ℕ} {rs : List Report} {s : Session} {l : List (Order T)} {time : List ℕ} {room : ℕ} {a : Written}
        → Day bs rs s l → Wrote l time room a → Day bs rs s l
    asks : {bs : List ℕ} {rs : List Report} {s : Session} {l : List (Order T)}
        → Day bs rs s l → (q : Question T) → Asked s l q → Day bs rs s l
