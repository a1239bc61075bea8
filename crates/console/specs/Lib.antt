pub mod Told
pub mod Unread
pub mod Words
