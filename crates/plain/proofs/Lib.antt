pub mod Beginnings
pub mod Configs
pub mod BadRows
pub mod Undoing
pub mod Before
pub mod StepRows
