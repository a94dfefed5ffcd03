pub mod Bytes
pub mod Found
pub mod Reading
pub mod Prefix
