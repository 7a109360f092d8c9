pub mod FirmLaws
pub mod ReadLaws
pub mod GoingLaws
pub mod PickLaws
pub mod OtherLaws
