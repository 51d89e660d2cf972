-- ISO 8601 by a configuration, part by part and as a whole.
pub mod DateLemmas
pub mod LengthLemmas
pub mod OffsetLemmas
pub mod PartsLemmas
pub mod ReadBackLemmas
pub mod TimeLemmas
pub mod WholeLemmas
