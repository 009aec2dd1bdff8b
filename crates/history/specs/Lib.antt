pub mod Words
pub mod Appearances
pub mod Breaks
pub mod Calls
pub mod Steps
