pub mod AnyLaws
pub mod ListedLaws
pub mod TriesLaws
pub mod EarlierLaws
