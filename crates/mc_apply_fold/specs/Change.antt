pub mod Dropped
pub mod Lacking
pub mod Named
pub mod Spare
