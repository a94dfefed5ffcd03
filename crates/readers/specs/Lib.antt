pub mod Numbers
pub mod Values
pub mod Laws
pub mod Lawful
pub mod Exacts
pub mod Blanks
