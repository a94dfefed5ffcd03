-- The number, the layer and the packet offset of a packet's fault.
use Rattle.std.specs.Prelude.{ℕ}
use Rattle.message.specs.declared.fault.MessageFault.{MessageFault}
use Rattle.message.specs.declared.fault.MessageFault.TheVariants.{NoLetter, WrongLength, BadField, Unpriced, Miscounted, Repeated, Book}
use Rattle.message.specs.Faults as message
use Rattle.packet.specs.Faults as packet
use Rattle.days.specs.declared.faults.PacketFault.{PacketFault}
use Rattle.days.specs.declared.faults.PacketFault.TheVariants as fault
use Rattle.days.specs.declared.faults.Layer.{Layer}
use Rattle.days.specs.declared.faults.Layer.TheVariants as layer

abbrev pub number : PacketFault → ℕ
number (fault.Form f) = packet.number f
number fault.NotTaken = 14
number (fault.Message f) = message.number f

abbrev pub offset : PacketFault → ℕ
offset (fault.Form f) = packet.offset f
offset fault.NotTaken = 0
offset (fault.Message f) = message.offset f

abbrev pub message_layer : MessageFault → Layer
message_layer NoLetter = layer.Message
message_layer WrongLength = layer.Message
message_layer (BadField at) = layer.Message
message_layer (Unpriced at) = layer.Message
message_layer (Miscounted at) = layer.Message
message_layer (Repeated at) = layer.Message
message_layer (Book r) = layer.Book

abbrev pub layer_of : PacketFault → Layer
layer_of (fault.Form f) = layer.Packet
layer_of fault.NotTaken = layer.Packet
layer_of (fault.Message f) = message_layer f
