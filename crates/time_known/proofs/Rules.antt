-- The texts of each rule of a grammar: how wide they are, and that each has one value and each value one text.
pub mod Fractions
pub mod Offsets
pub mod Parts
pub mod Texts
