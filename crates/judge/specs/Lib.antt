pub mod Leaks
pub mod Told
pub mod Verdicts
