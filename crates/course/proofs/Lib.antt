pub mod HereLaws
pub mod ReplayLaws
pub mod RunLaws
pub mod StepLaws
