use Rattle.std.proofs.Common.{refl}
use Rattle.std.specs.Prelude.{ℕ, List, cond, codes}
use Rattle.mc_c_syntax.specs.Ast.Names.{is_same}
use Rattle.mc_c_types.specs.Calls.{call_sites}
use Rattle.mc_c_types.specs.Examples.{builds_a_list}
use Rattle.mc_c_types.proofs.Wells.{no_calls, ranked_calls, ranked_all}
use Rattle.mc_c_types.proofs.examples.examples_well_typed.Goals as goal

-- `main` calls, and is not called
abbrev main_last : List ℕ → ℕ
main_last name = cond (is_same name (codes "main")) 1 0

pub returns-clause-list : goal.returns-clause-list
returns-clause-list c = record { plain = refl; no_recursion = ranked_calls builds_a_list main_last (ranked_all (call_sites builds_a_list) main_last refl); entered = refl }

pub returns-clause-later : goal.returns-clause-later
returns-clause-later c = record { plain = refl; no_recursion = no_calls _ refl; entered = refl }
