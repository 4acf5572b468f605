use Rattle.std.proofs.Common.{◌<◌, length, map, arith}
use Rattle.std.proofs.lemmas.List.{length-map}
use Rattle.mc_semantics.specs.Resolved.Steps.{passed}
use Rattle.mc_semantics.specs.Resolved.Views.{local_of}
use Rattle.mc_run_values.proofs.TasksLemmas.Rows.{passing_step}
use Rattle.mc_run_values.proofs.tasks.values.first_values.Goals as goal

pub loop-preserved : goal.loop-preserved
loop-preserved c =
    let inside : c.loop.index < length (map local_of c.args.locals.now) = omega (arith, length-map c.args.locals.now local_of) in
    rw c.in_ok-push.ensures.items (passing_step (map local_of c.args.locals.now) c.loop.index c.loop.values.items (passed c.args.parameters (map local_of c.args.locals.now) c.args.arguments.now) c.loop.passing.parameters c.next-value.new.self.parameters c.loop.passing.arguments.now c.next-value.new.self.arguments.now c.next-value.result inside c.next-value.ensures c.loop.invariant)
