pub mod Growing
pub mod Laid
