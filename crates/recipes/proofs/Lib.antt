pub mod RecipeLaws
pub mod FreeLaws
pub mod FedLaws
pub mod TurnLaws
