use Rattle.std.proofs.Common.{◌≡◌, [], ◌∷◌, true, false, subst}
use Rattle.mc_base.specs.declared.plain.Kind.TheVariants.{Int}
use Rattle.mc_flow.specs.declared.instr.Instr.TheVariants.{Add}
use Rattle.mc_flow.specs.Valid.{FitsKinds, IsOperand}
use Rattle.mc_state.specs.Known.{is_false}
use Rattle.mc_state.specs.Facts.{IsFalse}
use Rattle.mc_state.specs.State.{State}
use Rattle.mc_rules_steps.specs.Fitting.{FitsAt}
use Rattle.mc_apply_steps.specs.Step.Values.{value_node, with_value}
use Rattle.mc_apply_steps.proofs.ComputeLemmas.Put.{compared, least_of, two_fit}
use Rattle.mc_apply_steps.proofs.compute.order.test_at_most.Goals as goal

pub split_values-requires : goal.split_values-requires
split_values-requires c =
    let fits = c.requires in
    let s = c.args.s in
    let kinds = fits.kinds in
    let first = c.in-Some.ensures in
    let second = c.in-Some-read.ensures in
    let two = two_fit c.operands_fit.ensures.one c.operands_tell_nothing.ensures.sound fits.defs fits.vars fits.structs.list s c.args.left c.args.right c.in-Some.first c.in-Some-read.second fits.made kinds.0 kinds.1 first.here second.stays in
    record {
      put_left = first.fits fits.vars Int kinds.0;
      put_right = second.fits fits.vars Int kinds.1;
      left = two.left;
      right = two.right';
      not_false = λ f. let told = c.is_false.ensures.derived.1 (two.sound f) in let no = c.if-is_false.false in cc;
    }

pub returns-in-Ok : goal.returns-in-Ok
returns-in-Ok c = λ know range tells least.
    let fits = c.requires in
    let s = c.args.s in
    let v = c.in-Some.first in
    let w = c.in-Some-read.second in
    let kinds = fits.kinds in
    let first = c.in-Some.ensures in
    let second = c.in-Some-read.ensures in
    let two = two_fit c.operands_fit.ensures.one c.operands_tell_nothing.ensures.sound fits.defs fits.vars fits.structs.list s c.args.left c.args.right v w fits.made kinds.0 kinds.1 first.here second.stays in
    let no : is_false know ≡ false = let told = c.is_false.ensures.told know tells in cc in
    let sound : IsFalse s → ⊥ = λ f. let told = c.is_false.ensures.derived.1 f in let no = c.if-is_false.false in cc in
    let are = least_of range s c.args.left c.args.right v w first.here two.read (least sound) in
    let gives = compared know range s no c.args.left c.args.right v w first.here two.read c.args.t c.args.f in
    let below = c.in-Ok.ensures.at_most range are.left are.right in
    let over = c.in-Ok.ensures.above range are.left are.right in
    let both = c.branched.ensures in
    cc
