pub mod After
pub mod Ends
pub mod Equal
pub mod Items
pub mod Taking
