pub mod ClauseLaws
pub mod TextLaws
pub mod AnswerLaws
pub mod RoundTrip
