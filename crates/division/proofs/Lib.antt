pub mod Skipping
pub mod TestedSteps
pub mod WalkSteps
pub mod DivideSteps
pub mod PlainSteps
pub mod Determined
