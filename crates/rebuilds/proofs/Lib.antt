pub mod PrefixLaws
pub mod BuildLaws
pub mod RawLaws
pub mod LeftLaws
pub mod LeadLaws
pub mod GivenLaws
