use native.Mathlib.Omega.{arith}
use Rattle.std.proofs.Common.{◌≡◌, length}
use Rattle.std.proofs.lemmas.Grind.{common_steps}
use Rattle.mc_c_syntax.specs.Ast.Views.{field_of}
use Rattle.mc_c_parse.proofs.FieldLemmas.{fields_none, fields_close, fields_go_on, none_mapped, some_mapped}
use Rattle.mc_c_parse.proofs.Threads.{if_ok, same_step}
use Rattle.mc_c_parse.proofs.fields.behind_field.Goals as goal

pub returns-then-is_empty : goal.returns-then-is_empty
returns-then-is_empty c = λ aliases known. let none : length c.args.done.items ≡ 0 = grind (arith, common_steps) in rw (none_mapped field_of c.args.done.items none) (fields_none aliases (rw c.in-CloseBrace.is at c.requires))

pub returns-else-is_empty : goal.returns-else-is_empty
returns-else-is_empty c = λ aliases known. let some : length c.args.done.items ≡ 0 → ⊥ = λ e. grind (arith, common_steps) in fields_close aliases _ (some_mapped field_of c.args.done.items some) (rw c.in-CloseBrace.is at c.requires)

pub returns-in_default : goal.returns-in_default
returns-in_default c = if_ok c.within_field.result (λ step says aliases known. same_step _ _ (fields_go_on aliases _ _ c.requires c.in_default.not-CloseBrace) step (says aliases known)) c.within_field.ensures
