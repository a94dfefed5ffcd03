pub mod Behind
pub mod Tailed
