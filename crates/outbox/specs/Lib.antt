pub mod Marshal
pub mod Pours
pub mod Drafts
pub mod ReadBack
