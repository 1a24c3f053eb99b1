pub mod KeyLaws
pub mod SumLemmas
pub mod ExchangeLemmas
pub mod PackedLemmas
