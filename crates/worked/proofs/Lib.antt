pub mod Compare
pub mod Checks
pub mod Worked
