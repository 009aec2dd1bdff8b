pub mod HalfUnit
pub mod Row
pub mod SameBits
pub mod ConditionKept
pub mod Rate
pub mod Worked
pub mod Determined
