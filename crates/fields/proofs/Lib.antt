pub mod Counting
pub mod Sames
pub mod Codecs
