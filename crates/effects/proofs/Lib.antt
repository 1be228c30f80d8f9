pub mod Alls
pub mod Examples
pub mod Laws
pub mod Shapes
pub mod Tables
