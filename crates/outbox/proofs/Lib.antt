pub mod Lengths
pub mod Chains
pub mod Arrays
pub mod Lent
pub mod ReadBack
pub mod Loops
pub mod Bounds
pub mod Examples
