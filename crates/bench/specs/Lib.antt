pub mod Deeds
pub mod Fault
pub mod Perform
pub mod Play
pub mod Steps
pub mod Table
