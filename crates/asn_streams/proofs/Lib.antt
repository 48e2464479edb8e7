mod CallsLemmas
pub mod Known
