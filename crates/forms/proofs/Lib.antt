pub mod Parts
pub mod Apart
pub mod Verdicts
