pub mod Moments
pub mod Events
