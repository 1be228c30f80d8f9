pub mod Codes
pub mod Depth
pub mod Repeat
pub mod Signatures
