mod FlattenLemmas
pub mod StepLemmas
mod ThreeLemmas
mod WriteLemmas
