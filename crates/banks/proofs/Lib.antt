pub mod Examples
pub mod Shapes
