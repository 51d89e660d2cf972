pub mod LineLemmas
mod TimesLemmas
