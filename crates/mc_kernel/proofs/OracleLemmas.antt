pub mod Decided
pub mod MadeOr
pub mod Known
pub mod Ranged
pub mod Lacking
pub mod Judging
