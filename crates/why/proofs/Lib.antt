pub mod ArgumentLaws
pub mod PlaceLaws
pub mod Held
