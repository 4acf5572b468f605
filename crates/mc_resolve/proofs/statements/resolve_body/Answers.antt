use Rattle.std.proofs.Common.{◌<◌, ◌≤◌, arith, length, ◌∙◌}
use Rattle.std.proofs.lemmas.Bool.Decides.{nat_tests}
use Rattle.mc_resolve.specs.Named.{naming_held}
use Rattle.mc_resolve.proofs.Frames.{body_ended, body_more}
use Rattle.mc_resolve.proofs.statements.resolve_body.Goals as goal

pub loop-statement-preserved : goal.loop-statement-preserved
loop-statement-preserved c =
    let within : c.loop-statement.statement-index < length c.args.statements.now = let test = c.loop-statement-test.true in grind (arith, nat_tests, test) in
    body_more (naming_held c.args.naming) c.loop-statement.scope c.resolve_statement.new.scope c.args.statements.now c.loop-statement.statement-index c.statement-item.result c.loop-statement.made.items c.push.new.self.items c.in_ok-resolve_statement.field-0
    within c.statement-item.is c.in_ok-push.ensures.items c.in_ok-resolve_statement.ensures.scope c.in_ok-resolve_statement.ensures.made
    ∙ c.loop-statement.invariant

pub returns : goal.returns
returns c =
    let past : length c.args.statements.now ≤ c.loop-statement.statement-index = let test = c.loop-statement-test.false in grind (arith, nat_tests, test) in
    body_ended (naming_held c.args.naming) c.loop-statement.scope c.args.statements.now c.loop-statement.statement-index c.loop-statement.made.items past
    ∙ c.loop-statement.invariant
