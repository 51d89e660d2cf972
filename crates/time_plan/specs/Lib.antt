pub mod Literal
pub mod Plan
pub mod Shown
pub mod Steps
