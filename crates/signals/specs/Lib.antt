pub mod Signals
pub mod Lists
pub mod Bodies
pub mod Readable
