pub mod Listing
pub mod Rows
pub mod Breaks
