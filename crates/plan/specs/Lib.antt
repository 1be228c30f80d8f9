pub mod Plans
pub mod Printed
