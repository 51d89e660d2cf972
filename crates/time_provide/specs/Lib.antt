pub mod Agreement
pub mod Kept
pub mod Real
