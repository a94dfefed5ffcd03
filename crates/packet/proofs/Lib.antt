pub mod Alike
pub mod Apart
pub mod Forms
pub mod Pairs
