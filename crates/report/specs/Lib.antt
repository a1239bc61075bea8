pub mod Checked
pub mod Told
