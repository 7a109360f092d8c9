pub mod Reason
pub mod Statement
