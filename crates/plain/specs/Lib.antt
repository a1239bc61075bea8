pub mod Rows
pub mod Undone
pub mod StepRows
pub mod PlainRules
