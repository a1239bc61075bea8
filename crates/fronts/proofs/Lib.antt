pub mod Systems
pub mod Configs
pub mod Numbering
pub mod Digits
pub mod Matching
pub mod Naming
pub mod Products
pub mod BadFronts
