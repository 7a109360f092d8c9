pub mod MergeLaws
pub mod WalkLaws
