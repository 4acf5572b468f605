pub mod Agree
pub mod UniqueExpressions
pub mod UniqueConditions
pub mod UniqueSimples
pub mod UniqueStatements
pub mod UniqueUnits
pub mod Parts
