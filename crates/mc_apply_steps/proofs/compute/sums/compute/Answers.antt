use Rattle.std.proofs.Common.{◌≡◌, [], ◌∷◌, true, false, subst}
use Rattle.mc_base.specs.declared.plain.Kind.TheVariants.{Int}
use Rattle.mc_flow.specs.declared.instr.Instr.TheVariants.{Add}
use Rattle.mc_flow.specs.Valid.{FitsKinds, IsOperand}
use Rattle.mc_state.specs.Known.{is_false}
use Rattle.mc_state.specs.Facts.{IsFalse}
use Rattle.mc_state.specs.State.{State}
use Rattle.mc_rules_steps.specs.Fitting.{FitsAt}
use Rattle.mc_apply_steps.specs.Step.Values.{value_node, with_value}
use Rattle.mc_apply_steps.specs.Compute.Computed.{computes, operation}
use Rattle.mc_apply_steps.specs.declared.compute.results.Operation.{Operation}
use Rattle.mc_apply_steps.specs.declared.compute.results.Operation.TheVariants.{Sum, Difference, Product}
use Rattle.mc_apply_steps.proofs.ComputeLemmas.Put.{computed, least_of, two_fit}
use Rattle.mc_apply_steps.proofs.ComputeLemmas.Fits.{operands_of}
use Rattle.mc_apply_steps.proofs.compute.sums.compute.Goals as goal

pub compute_values-requires : goal.compute_values-requires
compute_values-requires c =
    let fits = c.requires in
    let s = c.args.s in
    let kinds = operands_of fits.vars fits.structs fits.defs c.args.op c.args.x c.args.left c.args.right c.args.q fits.kinds in
    let first = c.in-Some.ensures in
    let second = c.in-Some-read.ensures in
    let two = two_fit c.operands_fit.ensures.one c.operands_tell_nothing.ensures.sound fits.defs fits.vars fits.structs.list s c.args.left c.args.right c.in-Some.first c.in-Some-read.second fits.made kinds.0 kinds.1 first.here second.stays in
    record {
      put_left = first.fits fits.vars Int kinds.0;
      put_right = second.fits fits.vars Int kinds.1;
      left = two.left;
      right = two.right';
      not_false = λ f. let told = c.is_false.ensures.derived.1 (two.sound f) in let no = c.if-is_false.false in cc;
    }

pub returns-in-Ok : goal.returns-in-Ok
returns-in-Ok c = λ know range tells least.
    let fits = c.requires in
    let s = c.args.s in
    let v = c.in-Some.first in
    let w = c.in-Some-read.second in
    let kinds = operands_of fits.vars fits.structs fits.defs c.args.op c.args.x c.args.left c.args.right c.args.q fits.kinds in
    let first = c.in-Some.ensures in
    let second = c.in-Some-read.ensures in
    let two = two_fit c.operands_fit.ensures.one c.operands_tell_nothing.ensures.sound fits.defs fits.vars fits.structs.list s c.args.left c.args.right v w fits.made kinds.0 kinds.1 first.here second.stays in
    let no : is_false know ≡ false = let told = c.is_false.ensures.told know tells in cc in
    let sound : IsFalse s → ⊥ = λ f. let told = c.is_false.ensures.derived.1 f in let no = c.if-is_false.false in cc in
    let are = least_of range s c.args.left c.args.right v w first.here two.read (least sound) in
    let gives = computed know range s no c.args.left c.args.right v w first.here two.read (operation c.args.op) c.args.x c.args.q in
    let new = c.in-Ok.ensures range are.left are.right in
    let moved = c.moved_to.ensures in
    cc
