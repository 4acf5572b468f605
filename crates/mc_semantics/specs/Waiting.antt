pub mod Flows
pub mod Laws
pub mod Requests
pub mod Runs
pub mod Trees
