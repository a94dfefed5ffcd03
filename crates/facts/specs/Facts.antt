-- All facts about examples, in one list.
use Rattle.facts.specs.FieldSamples.{FieldSamples}
use Rattle.facts.specs.PacketSamples.{PacketSamples}

pub record Facts : Type 0 where
  pub fields : FieldSamples
  pub packets : PacketSamples
