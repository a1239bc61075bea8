pub mod Adding
pub mod Answers
pub mod Counts
pub mod Grown
pub mod Retaken
pub mod Searching
pub mod Struck
pub mod Taken
