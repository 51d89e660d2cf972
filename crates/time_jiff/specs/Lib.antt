pub mod Clock
pub mod Same
pub mod Local
