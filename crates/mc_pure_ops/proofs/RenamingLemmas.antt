pub mod Looking
pub mod Adding
