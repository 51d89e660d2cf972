pub mod Lines
pub mod LineBuffer
pub mod Fields
pub mod Value
pub mod Asked
pub mod Answer
pub mod Reply
pub mod Run
