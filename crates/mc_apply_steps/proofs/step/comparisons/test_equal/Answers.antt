use Rattle.std.proofs.Common.{◌≡◌, false, subst}
use Rattle.mc_state.specs.Known.{is_false}
use Rattle.mc_pure.specs.Pure.{AreOfOneKind}
use Rattle.mc_apply_steps.specs.Step.Values.{value_node, with_value}
use Rattle.mc_apply_steps.proofs.StepLemmas.Answered.{tested_equal}
use Rattle.mc_apply_steps.proofs.StepLemmas.There.{value_fits}
use Rattle.mc_apply_steps.proofs.step.comparisons.test_equal.Goals as goal

pub split_values-requires : goal.split_values-requires
split_values-requires c =
    let fits = c.requires in
    let s = c.args.s in
    let kind = fits.kinds.0 in
    let structs = fits.structs.list in
    let first = c.in-Some.ensures in
    let second = c.in-Some-read.ensures in
    let v = c.in-Some.first in
    let w = c.in-Some-read.second in
    let t = with_value s v in
    let one = value_fits c.operands_fit.ensures.one fits.defs fits.vars structs s kind c.args.left v fits.made fits.kinds.1 first.here in
    let two = value_fits c.operands_fit.ensures.one fits.defs fits.vars structs t kind c.args.right w one.made fits.kinds.2 (second.stays t one.vars_stay) in
    record {
      left = first.fits fits.vars kind fits.kinds.1;
      right = second.fits fits.vars kind fits.kinds.2;
      kinds = (kind, two.grows kind (value_node s v) one.has, two.has);
    }

pub returns-in-Ok : goal.returns-in-Ok
returns-in-Ok c = λ know tells.
    let fits = c.requires in
    let s = c.args.s in
    let kind = fits.kinds.0 in
    let v = c.in-Some.first in
    let w = c.in-Some-read.second in
    let t = with_value s v in
    let no : is_false know ≡ false = let told = c.is_false.ensures.told know tells in cc in
    let first = c.in-Some.ensures in
    let one = value_fits c.operands_fit.ensures.one fits.defs fits.vars fits.structs.list s kind c.args.left v fits.made fits.kinds.1 first.here in
    let gives = tested_equal know s no c.args.left c.args.right c.args.t c.args.f v w first.here (c.in-Some-read.ensures.stays t one.vars_stay) in
    let same = c.in-Ok.ensures.same in
    let apart = c.in-Ok.ensures.apart in
    let both = c.branched.ensures in
    cc
