pub mod Candidates
pub mod Minimal
pub mod Sought
