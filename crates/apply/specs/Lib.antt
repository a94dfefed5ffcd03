pub mod Said
pub mod Meaning
pub mod Reads
pub mod Marks
pub mod Laws
pub mod Checked
