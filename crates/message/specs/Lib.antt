pub mod Faults
pub mod Fixed
pub mod Fields
pub mod Headers
