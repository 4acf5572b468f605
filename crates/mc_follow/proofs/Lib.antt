pub mod AlarmsLemmas
pub mod EndingLemmas
pub mod ReportLemmas
