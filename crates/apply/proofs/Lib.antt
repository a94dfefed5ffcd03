pub mod Saying
pub mod Keeping
pub mod Seeks
pub mod Wholes
pub mod Counted
pub mod Working
