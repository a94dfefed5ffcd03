pub mod Afters
pub mod Standings
pub mod Only
