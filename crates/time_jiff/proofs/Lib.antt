pub mod MomentLemmas
pub mod CalendarLemmas
