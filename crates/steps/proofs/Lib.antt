pub mod KindLaws
pub mod MadeLaws
pub mod DecideLaws
