mod Tidies
mod FieldExamples
mod PacketExamples
