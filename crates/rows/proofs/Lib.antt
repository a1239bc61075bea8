pub mod Checked
pub mod Cover
pub mod Rows
pub mod Turns
