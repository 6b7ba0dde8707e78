pub mod IndexLemmas
pub mod LinkLemmas
pub mod RingLemmas
pub mod RowLemmas
pub mod TimeLemmas
pub mod ChainLemmas
