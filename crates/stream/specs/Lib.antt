pub mod Scan
pub mod Feed
pub mod Reader
pub mod Steps
