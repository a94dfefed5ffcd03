pub mod Form
pub mod Rows
pub mod Basic
pub mod Link
pub mod Full
pub mod Tails
pub mod Remade
