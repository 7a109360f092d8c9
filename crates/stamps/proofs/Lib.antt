pub mod BitLaws
pub mod StampLaws
