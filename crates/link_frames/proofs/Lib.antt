pub mod Fronts
pub mod Filled
pub mod Shapes
pub mod Spelled
pub mod Splitting
pub mod Telling
pub mod Left
