use Rattle.std.proofs.Common.{◌≡◌, false, subst}
use Rattle.mc_state.specs.Known.{is_false}
use Rattle.mc_pure.specs.Pure.{IsNode}
use Rattle.mc_apply_steps.specs.Step.Values.{value_node}
use Rattle.mc_apply_steps.proofs.step.moves.copy.Goals as goal

pub put_in-requires : goal.put_in-requires
put_in-requires c =
    let fits = c.requires in
    let s = c.args.s in
    let kind = fits.kinds.0 in
    let is = fits.kinds.2 in
    let read = c.in-Some.ensures in
    let value = c.in-Some.value in
    let one = c.operands_fit.ensures.one fits.defs fits.vars fits.structs.list s kind c.args.from (value_node s value) fits.made is read.here.0 in
    record {
      put = read.fits fits.vars kind is;
      there = subst (λ t. IsNode t.kinds (value_node s value)) read.here.1 (kind, one.has);
    }

pub returns-in-Ok : goal.returns-in-Ok
returns-in-Ok c = λ know tells.
    let no : is_false know ≡ false = let told = c.is_false.ensures.told know tells in cc in
    let read = c.in-Some.ensures.here in
    let one = read.0 in
    let two = read.1 in
    let new = c.in-Ok.ensures in
    let moved = c.moved_to.ensures in
    rw (no, one, two) (cc)
