pub mod Readings
pub mod Chains
pub mod Layouts
pub mod Lawful
