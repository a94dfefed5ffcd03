pub mod Kept
pub mod Cutting
pub mod Events
