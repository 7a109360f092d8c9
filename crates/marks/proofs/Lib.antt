pub mod SlotLaws
pub mod WalkLaws
pub mod PushLaws
pub mod WentLaws
