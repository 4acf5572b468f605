use Rattle.std.proofs.Common.{◌≡◌, ap, arith, length, map, ◌∙◌}
use Rattle.mc_c_syntax.specs.Ast.Trees.{stmts_of}
use Rattle.mc_c_syntax.specs.Ast.Views.{statement_of as named_statement}
use Rattle.mc_semantics.specs.Resolved.Programs.{Stmt}
use Rattle.mc_semantics.specs.Resolved.Views.{statement_of}
use Rattle.mc_c_types.specs.Held.{variables_held}
use Rattle.mc_resolve.specs.Frames.{plugged}
use Rattle.mc_resolve.specs.Named.{naming_held}
use Rattle.mc_resolve.proofs.Frames.{block_ended, none_left}
use Rattle.mc_resolve.proofs.statements.go_on.Goals as goal

pub returns-in_ok-variables-in-empty-clause-finished : goal.returns-in_ok-variables-in-empty-clause-finished
returns-in_ok-variables-in-empty-clause-finished c =
    let none : length c.args.rest.now ≡ 0 = omega (arith, c.in-empty.len_below) in
    ap (λ (made : Stmt). plugged (naming_held c.args.naming) c.leave.new.self c.args.frames.now made) c.block_of.ensures
    ∙ block_ended (naming_held c.args.naming) c.args.scope.now c.leave.new.self c.args.marks c.args.frames.now (stmts_of (map named_statement c.args.rest.now)) (map statement_of c.args.done.items)
    (variables_held c.own.result.now) c.in_ok-variables-in-empty.variables.items
    (ap (λ statements. stmts_of (map named_statement statements)) (none_left c.args.rest.now none)) c.own.ensures c.in_ok-variables-in-empty.ensures c.leave.ensures
