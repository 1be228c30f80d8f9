pub mod Names
pub mod Faults
pub mod Scan
pub mod Paths
pub mod Standard
pub mod Kinds
pub mod Buses
pub mod Printed
