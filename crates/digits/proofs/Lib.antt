pub mod Fronts
pub mod Shapes
pub mod Writes
pub mod Counts
pub mod Wholes
pub mod Puts
pub mod Onlys
