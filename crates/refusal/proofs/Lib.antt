pub mod Determined
pub mod Numbered
pub mod Accepted
