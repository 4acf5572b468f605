-- Which prototypes say nothing new.
use Rattle.std.specs.Prelude.{◌≡◌, IsTrue, List}
use Rattle.std.specs.List.{list_any}
use Rattle.mc_c_syntax.specs.Ast.Trees.{FunctionTree}
use Rattle.mc_c_types.specs.Faults.{is_other}
use Rattle.mc_c_types.specs.Tables.{Tables}

-- what differs from the one differs from the other
abbrev pub AreAlike : Tables → FunctionTree → FunctionTree → Type 0
AreAlike t f g = (h : FunctionTree) → is_other t h f ≡ is_other t h g

-- what differs from the function differs from one of these
abbrev pub IsRepeat : Tables → FunctionTree → List FunctionTree → Type 0
IsRepeat t f fs = (h : FunctionTree) → IsTrue (is_other t h f) → IsTrue (list_any (is_other t h) fs)
