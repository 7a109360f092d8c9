pub mod Signs
pub mod Index
pub mod Study
pub mod Build
pub mod AtHand
