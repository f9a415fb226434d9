pub mod KeyLemmas
pub mod NameLemmas
pub mod EventLemmas
pub mod KeyRead
