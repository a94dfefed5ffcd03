pub mod Tidy
pub mod FieldSamples
pub mod PacketSamples
pub mod Facts
