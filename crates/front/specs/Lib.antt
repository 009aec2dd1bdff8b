pub mod Claim
pub mod Look
