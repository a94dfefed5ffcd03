-- The numbers of a message's faults, and the packet offsets that they name.
use Rattle.std.specs.Prelude.{ℕ, ◌+◌, ◌-◌, ◌^◌, min}
use Rattle.book.specs.Calls as book
use Rattle.message.specs.declared.fault.MessageFault.{MessageFault}
use Rattle.message.specs.declared.fault.MessageFault.TheVariants.{NoLetter, WrongLength, BadField, Unpriced, Miscounted, Repeated, Book}

abbrev pub number : MessageFault → ℕ
number NoLetter = 21
number WrongLength = 22
number (BadField at) = 23
number (Unpriced at) = 24
number (Miscounted at) = 25
number (Repeated at) = 26
number (Book r) = book.number r.fault

-- the offset in the message
abbrev pub within : MessageFault → ℕ
within NoLetter = 0
within WrongLength = 0
within (BadField at) = at
within (Unpriced at) = at
within (Miscounted at) = at
within (Repeated at) = at
within (Book r) = r.at

-- the offset in the packet, in which the message begins at offset 10; no number goes beyond 64 bits
abbrev pub offset : MessageFault → ℕ
offset f = min (10 + within f) (2 ^ 64 - 1)
