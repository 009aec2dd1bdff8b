pub mod Rows
pub mod Takes
pub mod CallSteps
pub mod Determined
