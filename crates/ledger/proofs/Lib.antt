pub mod Calling
pub mod Parts
pub mod Played
