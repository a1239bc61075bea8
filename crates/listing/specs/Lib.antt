pub mod Laid
pub mod Listing
