pub mod Replays
pub mod Held
pub mod Judged
