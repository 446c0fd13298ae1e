pub mod CalendarLemmas
pub mod CutLemmas
pub mod DateLemmas
pub mod DigitLemmas
pub mod EpochLemmas
pub mod IdLemmas
pub mod PartLemmas
pub mod ReadLemmas
