pub mod MergeLaws
pub mod MergeTurns
pub mod OrderedLaws
