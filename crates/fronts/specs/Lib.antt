pub mod Fronts
pub mod Numbered
pub mod Digits
pub mod BadFronts
pub mod Reading
