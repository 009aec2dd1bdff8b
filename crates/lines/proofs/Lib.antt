pub mod Width
pub mod RowSteps
pub mod BreakSteps
pub mod Worked
pub mod Determined
