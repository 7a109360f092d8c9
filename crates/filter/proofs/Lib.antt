pub mod FilterLaws
pub mod ApartLaws
pub mod AmongLaws
