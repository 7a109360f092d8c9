pub mod StartLaws
pub mod StepLaws
