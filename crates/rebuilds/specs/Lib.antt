pub mod Raws
pub mod Lead
pub mod Given
