pub mod Faults
pub mod Reading
pub mod Orders
pub mod Laid
pub mod Checks
pub mod Laws
