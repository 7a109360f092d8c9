pub mod ErrLaws
