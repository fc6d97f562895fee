pub mod ContentLemmas
pub mod MemberLemmas
pub mod UnitLemmas
pub mod WholeLemmas
