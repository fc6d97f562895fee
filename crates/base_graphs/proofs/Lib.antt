pub mod ClosureLemmas
pub mod MarkLemmas
pub mod RowLemmas
pub mod BackLemmas
pub mod WordLemmas
pub mod RankLemmas
pub mod NestLemmas
