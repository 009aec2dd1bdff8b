pub mod Begins
pub mod ExclusiveOr
pub mod Walks
pub mod Numbers
pub mod Parts
pub mod Signed
pub mod Determined
