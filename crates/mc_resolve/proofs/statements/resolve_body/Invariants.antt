use Rattle.std.proofs.Common.{◌≡◌, map, drop}
use Rattle.mc_c_syntax.specs.Ast.Trees.{stmts_of}
use Rattle.mc_c_syntax.specs.Ast.Views.{statement_of as named_statement}
use Rattle.mc_semantics.specs.Resolved.Resolving.{resolved_statements}
use Rattle.mc_semantics.specs.Resolved.Views.{statement_of}
use Rattle.mc_resolve.specs.Frames.{before}
use Rattle.mc_resolve.specs.Named.{naming_held}
use Rattle.mc_resolve.proofs.statements.resolve_body.Given as goal

abbrev pub invariant-loop-statement : goal.invariant-loop-statement
invariant-loop-statement l =
    before (map statement_of l.made.items) (resolved_statements (naming_held l.naming) l.scope (stmts_of (map named_statement (drop l.statement-index l.statements))))
    ≡ resolved_statements (naming_held l.naming) l.initial.scope (stmts_of (map named_statement l.statements))
