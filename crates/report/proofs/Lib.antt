pub mod Hardware
pub mod Taken
