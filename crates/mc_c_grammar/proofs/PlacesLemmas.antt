pub mod Orders
pub mod Lexed
pub mod Within
pub mod WithinExpressions
pub mod WithinSimples
pub mod WithinStatements
pub mod WithinUnits
