pub mod BestLaws
pub mod HandLaws
pub mod KindLaws
pub mod StayLaws
pub mod SearchedLaws
pub mod TurnLaws
pub mod UniversalLaws
