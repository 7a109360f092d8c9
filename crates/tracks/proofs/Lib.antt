pub mod TrackLaws
pub mod PhaseLaws
