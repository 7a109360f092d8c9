pub mod Table
pub mod Answer
pub mod Ranks
pub mod Ready
pub mod Insert
pub mod Rising
pub mod Pending
pub mod Lent
