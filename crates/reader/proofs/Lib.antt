pub mod SeenLaws
pub mod TurnLaws
pub mod ReadLaws
pub mod NumberLaws
