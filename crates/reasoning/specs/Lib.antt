pub mod Whys
pub mod AtHand
