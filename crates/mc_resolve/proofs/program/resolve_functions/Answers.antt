use Rattle.std.proofs.Common.{◌<◌, ◌≤◌, ap, ◌∙◌, map, length, arith, get_or, Bor}
use Rattle.std.specs.Prelude.{filter}
use Rattle.std.proofs.lemmas.List.{take_all}
use Rattle.std.proofs.lemmas.Bool.Decides.{nat_tests}
use Rattle.mc_c_syntax.specs.Ast.Views.{function_of as named_function}
use Rattle.mc_c_syntax.specs.declared.ast.trees.Function.{Function}
use Rattle.mc_c_types.specs.Held.{tables_held}
use Rattle.mc_c_types.specs.Tables.{is_defined}
use Rattle.mc_semantics.specs.Resolved.Resolving.{resolved_function}
use Rattle.mc_semantics.specs.Resolved.Views.{function_of}
use Rattle.mc_resolve.proofs.FunctionNumbers.{filtered_more}
use Rattle.mc_resolve.proofs.program.resolve_functions.Goals as goal

pub loop-function-preserved : goal.loop-function-preserved
loop-function-preserved c =
    let within : c.loop-function.function-index < length c.args.tables.now.functions = let test = c.loop-function-test.true in grind (arith, nat_tests, test) in
    filtered_more is_defined (λ (f : Bor Function). named_function f.now) (resolved_function (tables_held c.args.tables.now) c.args.defs.now) c.args.tables.now.functions c.loop-function.function-index c.function-item.result
    (map function_of c.loop-function.made.items) (map function_of c.push_defined.new.made.items) within (c.function-item.is ∙ ap (λ fs. get_or fs c.loop-function.function-index c.function-item.result) c.as_slice-function-items.ensures) c.loop-function.invariant c.in_ok-push_defined.ensures

pub returns : goal.returns
returns c =
    let past : length c.args.tables.now.functions ≤ c.loop-function.function-index = let test = c.loop-function-test.false in grind (arith, nat_tests, test) in
    c.loop-function.invariant
    ∙ ap (λ xs. map (resolved_function (tables_held c.args.tables.now) c.args.defs.now) (filter is_defined (map (λ (f : Bor Function). named_function f.now) xs))) (take_all c.loop-function.function-index c.args.tables.now.functions past)
