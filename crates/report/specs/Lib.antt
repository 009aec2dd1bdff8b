pub mod Ends
pub mod Within
