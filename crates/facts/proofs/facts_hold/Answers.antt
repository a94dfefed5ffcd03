use Rattle.facts.proofs.FieldExamples.{field_samples}
use Rattle.facts.proofs.PacketExamples.{packet_samples}
use Rattle.facts.proofs.facts_hold.Goals as goal

pub returns : goal.returns
returns c = record { fields = field_samples; packets = packet_samples }
