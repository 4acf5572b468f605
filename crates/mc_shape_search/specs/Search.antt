pub mod Search
pub mod Met
