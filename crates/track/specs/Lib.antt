pub mod Range
pub mod Row
pub mod Condition
pub mod Shown
pub mod Rate
