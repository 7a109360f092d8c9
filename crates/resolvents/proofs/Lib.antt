pub mod ResolvPending
pub mod ResolvFits
