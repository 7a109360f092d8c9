pub mod LayoutLaws
pub mod LaidLaws
pub mod GoodLaws
pub mod CheckLaws
pub mod LiteralLaws
