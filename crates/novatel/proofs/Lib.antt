pub mod RollSteps
pub mod EntrySteps
pub mod WriteSteps
pub mod Worked
pub mod Determined
