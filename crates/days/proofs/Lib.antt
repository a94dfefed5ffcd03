pub mod Booked
pub mod Chunks
pub mod Packets
pub mod Fitting
pub mod Standing
pub mod Late
pub mod Every
