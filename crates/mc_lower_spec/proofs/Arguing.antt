-- The arguments of a shape have the same values in both.
use Rattle.std.proofs.Common.{◌≡◌, ℕ, List, ◌∷◌, refl, ap, ◌∙◌}
use Rattle.std.specs.Prelude.{map}
use Rattle.mc_flow.specs.Values.{value_of as operand_value, all_there, values_of}
use Rattle.mc_flow.specs.declared.instr.Operand.{Operand}
use Rattle.mc_semantics.specs.Resolved.Configs.{Values}
use Rattle.mc_semantics.specs.Resolved.Programs.{Argument}
use Rattle.mc_semantics.specs.Resolved.Steps.{argument_value}
use Rattle.mc_lower_spec.specs.Graphs.{Graph, Stage, is_made}
use Rattle.mc_lower_spec.specs.Lowering.{IsArgument, is_variable, is_constant, AreArguments, are_none, are_arguments}
use Rattle.mc_lower_spec.proofs.Stepping.{Vars}
use Rattle.mc_lower_spec.proofs.Evaluating.{Agree}

pub same_argument : {g : Graph} {out : ℕ} {s : Stage} {a : Argument} {o : Operand} (values : Values) (vars : Vars) → IsArgument g out s a o → Agree g out values vars → argument_value values a ≡ operand_value vars o
same_argument values vars (is_variable {x = x} {v = v} (is_made owned earlier)) agree = agree.same x v.0 owned
same_argument values vars is_constant agree = refl

same_values : {g : Graph} {out : ℕ} {s : Stage} {args : List Argument} {os : List Operand} (values : Values) (vars : Vars) → AreArguments g out s args os → Agree g out values vars → map (argument_value values) args ≡ map (operand_value vars) os
same_values values vars are_none agree = refl
same_values values vars (are_arguments {a = a} {more = more} {o = o} {os = os} first rest) agree =
    ap (λ v. v ∷ map (argument_value values) more) (same_argument values vars first agree) ∙ ap (λ vs. operand_value vars o ∷ vs) (same_values values vars rest agree)

-- all of them are there in both, or one is missing in both
pub same_arguments : {g : Graph} {out : ℕ} {s : Stage} {args : List Argument} {os : List Operand} (values : Values) (vars : Vars) → AreArguments g out s args os → Agree g out values vars
    → all_there (map (argument_value values) args) ≡ values_of vars os
same_arguments values vars are agree = ap all_there (same_values values vars are agree)
