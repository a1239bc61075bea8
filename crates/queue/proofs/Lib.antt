pub mod Newest
pub mod Shifts
