pub mod Recipe
pub mod Left
