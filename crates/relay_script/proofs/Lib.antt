pub mod Digits
pub mod OneLine
pub mod NumberLaw
pub mod KindLaw
pub mod LinesLaw
