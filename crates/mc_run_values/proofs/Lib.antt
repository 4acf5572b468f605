pub mod ScriptLemmas
pub mod TasksLemmas
pub mod ValuesLemmas
