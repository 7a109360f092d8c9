pub mod BitLaws
pub mod PairLaws
pub mod IdleLaws
pub mod ResolveLaws
