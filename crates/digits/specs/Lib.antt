pub mod Bytes
pub mod Numerals
pub mod Written
pub mod Calls
