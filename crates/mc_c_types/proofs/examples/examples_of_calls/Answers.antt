use Rattle.std.proofs.Common.{refl}
use Rattle.std.specs.Prelude.{ℕ, List, cond, codes}
use Rattle.mc_c_syntax.specs.Ast.Names.{is_same}
use Rattle.mc_c_types.specs.Calls.{call_sites}
use Rattle.mc_c_types.specs.Examples.{too_few_arguments, no_result}
use Rattle.mc_c_types.proofs.Wells.{plain_first, no_calls, ranked_calls, ranked_all}
use Rattle.mc_c_types.proofs.examples.examples_of_calls.Goals as goal

-- `main` calls, and is not called
abbrev main_last : List ℕ → ℕ
main_last name = cond (is_same name (codes "main")) 1 0

pub returns-clause-arguments : goal.returns-clause-arguments
returns-clause-arguments c = plain_first _ _ _ refl (ranked_calls too_few_arguments main_last (ranked_all (call_sites too_few_arguments) main_last refl))

pub returns-clause-no_result : goal.returns-clause-no_result
returns-clause-no_result c = plain_first _ _ _ refl (ranked_calls no_result main_last (ranked_all (call_sites no_result) main_last refl))

pub returns-clause-outside : goal.returns-clause-outside
returns-clause-outside c = plain_first _ _ _ refl (no_calls _ refl)
