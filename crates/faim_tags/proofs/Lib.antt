mod Examples
pub mod Facts
pub mod Runs
pub mod Counts
pub mod LaneLemmas
pub mod Goods
pub mod Ends
pub mod Greedy
pub mod NumberLemmas
pub mod Meaning
pub mod Built
pub mod Judgements
pub mod PartialLemmas
pub mod RunLemmas
pub mod ByteLemmas
pub mod CutLemmas
