pub mod Small
pub mod SmallExpressions
pub mod SmallSimples
pub mod SmallStatements
pub mod SmallUnits
