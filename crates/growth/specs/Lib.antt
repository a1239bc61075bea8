pub mod Growth
pub mod Picking
