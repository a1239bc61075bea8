pub mod Fifo
pub mod Kinds
pub mod Waiting
