pub mod Account
pub mod Steps
