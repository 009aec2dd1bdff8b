pub mod Digits
pub mod Worked
pub mod Determined
