mod Walks
pub mod Decoding
pub mod Invariant
pub mod RightFile
pub mod Writes
pub mod Written
