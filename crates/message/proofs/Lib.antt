pub mod Examples
pub mod Lengths
pub mod Walk
