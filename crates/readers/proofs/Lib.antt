pub mod Asks
pub mod Together
