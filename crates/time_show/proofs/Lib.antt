pub mod LinesLemmas
pub mod FieldsLemmas
pub mod WritesLemmas
pub mod RunLemmas
pub mod ValueLemmas
