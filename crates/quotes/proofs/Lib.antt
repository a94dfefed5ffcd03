pub mod Repriced
pub mod Quoting
