pub mod LogText
pub mod Timed
pub mod TimedLine
pub mod Times
