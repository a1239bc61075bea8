pub mod LoadBuffers
pub mod Memory
pub mod Moves
pub mod Operations
pub mod Plain
pub mod Rulebook
pub mod StoreBuffers
pub mod Exactness
