pub mod Faults
pub mod Model
pub mod Day
pub mod History
pub mod Theorem
pub mod Books
