pub mod BehindLaws
pub mod FarLaws
pub mod LimitLaws
pub mod RoomLaws
pub mod StepLaws
pub mod NextLaws
