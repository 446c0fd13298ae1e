mod Lengths
mod CodeLemmas
mod Texts
mod Faults
mod Founds
mod Examples
