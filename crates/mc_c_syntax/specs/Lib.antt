pub mod Ast
pub mod Lex
pub mod Names
pub mod Visible
