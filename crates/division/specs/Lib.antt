pub mod Division
pub mod Work
pub mod Walk
pub mod Plain
pub mod Steps
