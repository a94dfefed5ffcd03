pub mod Letters
pub mod Layouts
pub mod Faults
pub mod Verdict
