pub mod Lines
pub mod Filter
pub mod Prompt
