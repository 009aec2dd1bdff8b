pub mod Checksum
pub mod Numbers
pub mod Parts
pub mod Begins
pub mod Signed
