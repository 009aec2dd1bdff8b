pub mod Settled
pub mod Bounds
pub mod Waiting
pub mod Determined
