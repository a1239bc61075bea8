pub mod Checks
pub mod Cover
pub mod Fault
pub mod Listing
pub mod Search
pub mod Standing
