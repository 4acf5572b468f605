use Rattle.std.proofs.Common.{drop, map, length, ap, sym, ◌∙◌, arith}
use Rattle.std.proofs.lemmas.List.{drop_all}
use Rattle.mc_c_syntax.specs.Ast.Views.{expression_of}
use Rattle.mc_c_types.specs.Faults.{argument_faults}
use Rattle.mc_c_types.specs.First.{told_of}
use Rattle.mc_c_types.specs.Held.{tables_held, variables_held}
use Rattle.mc_c_types.proofs.Visits.{no_more_arguments}
use Rattle.mc_c_types.proofs.expressions.VisibleNames.check_arguments.Goals as goal

pub returns : goal.returns
returns c =
    let none = no_more_arguments (tables_held c.args.self.now.tables.now) (variables_held c.args.self.now.scope.now) (drop c.loop-i.i c.args.parameters.now) c.args.arguments.now c.loop-i.i c.loop-i-test.false in
    sym (ap (told_of c.loop-i.told.fault) none) ∙ c.loop-i.invariant
