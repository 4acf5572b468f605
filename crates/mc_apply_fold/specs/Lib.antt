pub mod Change
pub mod Fold
pub mod Forget
