use Rattle.std.proofs.Common.{◌+◌, ◌∙◌, ap, refl, drop}
use Rattle.std.specs.List.{list_any}
use Rattle.mc_c_syntax.specs.Ast.Views.{function_of}
use Rattle.mc_c_types.specs.Faults.{is_other}
use Rattle.mc_c_types.specs.First.{told_of}
use Rattle.mc_c_types.specs.Held.{tables_held}
use Rattle.mc_c_check.specs.Collected.{functions_held}
use Rattle.mc_c_check.proofs.Alike.{left_out}
use Rattle.mc_c_check.proofs.Repeats.{next_function}
use Rattle.mc_c_check.proofs.prototypes.check_prototypes.Goals as goal

pub loop-function-preserved : goal.loop-function-preserved
loop-function-preserved c =
    let t = tables_held c.args.tables.now in
    let x = c.function-item.result in
    rw c.in_ok-push.ensures.ok
    (rw c.check_prototype.ensures
    (next_function t c.loop-function.told.fault c.as_slice-functions.result.now c.loop-function.before c.named-others.result.now c.loop-function.function-index x
    (list_any (λ f. is_other t (function_of x.now) (function_of f.now)) c.named-others.result.now)
    c.loop-function-test.true c.function-item.is c.named-others.ensures refl
    ∙ c.loop-function.invariant))

pub loop-function-preserved-then-is_repeat : goal.loop-function-preserved-then-is_repeat
loop-function-preserved-then-is_repeat c =
    let t = tables_held c.args.tables.now in
    let x = c.function-item.result in
    rw c.check_prototype.ensures
    (ap (told_of _) (left_out t c.loop-function.before c.named-others.result.now x (functions_held (drop (c.loop-function.function-index + 1) c.as_slice-functions.result.now)) c.named-others.ensures (c.is_repeat.ensures c.if-is_repeat.true))
    ∙ next_function t c.loop-function.told.fault c.as_slice-functions.result.now c.loop-function.before c.named-others.result.now c.loop-function.function-index x
    (list_any (λ f. is_other t (function_of x.now) (function_of f.now)) c.named-others.result.now)
    c.loop-function-test.true c.function-item.is c.named-others.ensures refl
    ∙ c.loop-function.invariant)
