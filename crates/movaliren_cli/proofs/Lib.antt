pub mod LocalTimeLemmas
mod OffsetTextLemmas
