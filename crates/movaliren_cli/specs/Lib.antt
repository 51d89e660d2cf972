pub mod LocalTime
pub mod OffsetText
pub mod Refusal
pub mod Word
