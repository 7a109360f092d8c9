pub mod StepLaws
pub mod ReplayLaws
