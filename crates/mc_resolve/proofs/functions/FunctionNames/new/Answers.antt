use Rattle.std.proofs.Common.{◌≤◌, ap, ◌∙◌, map, length, arith, Bor}
use Rattle.std.specs.Prelude.{filter}
use Rattle.std.proofs.lemmas.List.{take_all}
use Rattle.std.proofs.lemmas.Bool.Decides.{nat_tests}
use Rattle.mc_c_syntax.specs.Ast.Trees.{FunctionTree}
use Rattle.mc_c_syntax.specs.Ast.Views.{function_of}
use Rattle.mc_c_syntax.specs.declared.ast.trees.Function.{Function}
use Rattle.mc_c_types.specs.Tables.{is_defined}
use Rattle.mc_resolve.proofs.FunctionNumbers.{filter_seen}
use Rattle.mc_resolve.proofs.functions.FunctionNames.new.Goals as goal

pub returns : goal.returns
returns c =
    let past : length c.args.tables.now.functions ≤ c.loop-function.function-index = let test = c.loop-function-test.false in grind (arith, nat_tests, test) in
    c.loop-function.invariant
    ∙ ap (λ xs. map (λ f. f.now.name.text) (filter (λ f. is_defined (function_of f.now)) xs)) (take_all c.loop-function.function-index c.args.tables.now.functions past)
    ∙ filter_seen is_defined (λ (f : Bor Function). function_of f.now) (λ (f : FunctionTree). f.name.text) c.args.tables.now.functions
