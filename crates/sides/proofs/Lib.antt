pub mod FileLaws
pub mod SideLaws
