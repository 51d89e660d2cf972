pub mod DecimalLemmas
pub mod DisplayLemmas
pub mod LiteralLemmas
pub mod SpelledLemmas
