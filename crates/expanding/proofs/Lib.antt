pub mod CopyLaws
pub mod ExpandPlaces
pub mod ExpandPrefix
pub mod ExpandClauses
pub mod ExpandLaws
