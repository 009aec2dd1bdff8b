pub mod HereSteps
pub mod HereStands
pub mod CoverSteps
pub mod Worked
pub mod Determined
