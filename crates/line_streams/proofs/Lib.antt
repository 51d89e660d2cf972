pub mod BytesLemmas
pub mod LinesLemmas
pub mod FilterLemmas
pub mod PromptLemmas
