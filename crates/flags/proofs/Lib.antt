pub mod FlagLaws
pub mod ZeroLaws
