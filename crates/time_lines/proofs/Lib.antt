pub mod DescribedLemmas
pub mod DigitLemmas
pub mod JsonLemmas
pub mod NumberLemmas
pub mod ReadLemmas
pub mod RunLemmas
pub mod ShownLemmas
pub mod UnixLemmas
