use Rattle.std.proofs.Common.{◌∷◌, ap, map, sym, ◌∙◌}
use Rattle.mc_c_syntax.specs.Ast.Trees.{stmts_of}
use Rattle.mc_c_syntax.specs.Ast.Views.{statement_of as named_statement}
use Rattle.mc_semantics.specs.Resolved.Resolving.{resolved_statements}
use Rattle.mc_semantics.specs.Resolved.Views.{statement_of}
use Rattle.mc_c_walk.specs.Tasks.{behind_all}
use Rattle.mc_resolve.specs.Frames.{plugged}
use Rattle.mc_resolve.specs.Named.{naming_held}
use Rattle.mc_c_walk.specs.Parting.{outside}
use Rattle.mc_resolve.specs.declared.statements.Frame.{Frame}
use Rattle.mc_resolve.proofs.Frames.{block_more}
use Rattle.mc_resolve.proofs.statements.close.Goals as goal

pub returns-in_ok-go_on-in-Block-clause-finished : goal.returns-in_ok-go_on-in-Block-clause-finished
returns-in_ok-go_on-in-Block-clause-finished c =
    let n = naming_held c.args.naming in
    let s = c.args.scope.now in
    let rest = stmts_of (map named_statement c.in-Block.rest.now) in
    c.in_ok-go_on-in-Block.ensures.finished
    ∙ block_more n s (outside c.in-Block.marks (behind_all n.tables s rest)) rest c.args.frames.now c.in-Block.done.items c.push.new.self.items c.args.made (resolved_statements n s rest) c.in_ok-push-in-Block.ensures.items
    ∙ ap (λ (frame : Frame). plugged n s (frame ∷ c.args.frames.now) (statement_of c.args.made)) (sym c.in-Block.is)
