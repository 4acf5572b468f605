use Rattle.std.proofs.Common.{◌≡◌, false, sym}
use Rattle.mc_state.specs.Known.{is_false}
use Rattle.mc_rules_steps.specs.Judges.{is_shaped_at}
use Rattle.mc_apply_steps.proofs.StepLemmas.Answered.{stored}
use Rattle.mc_apply_steps.proofs.StepLemmas.There.{found, value_fits}
use Rattle.mc_apply_steps.proofs.step.blocks.store.Goals as goal

pub store_in-requires : goal.store_in-requires
store_in-requires c =
    let fits = c.requires in
    let kind = fits.kinds.0 in
    let is = fits.kinds.3 in
    let read = c.in-Some.ensures in
    let one = value_fits c.operands_fit.ensures.one fits.defs fits.vars fits.structs.list c.args.s kind c.args.from c.in-Some.value fits.made is read.here in
    record { put = read.fits fits.vars kind is; there = (kind, one.has) }

pub returns-in-Ok : goal.returns-in-Ok
returns-in-Ok c = λ know tells.
    let s = c.args.s in
    let no : is_false know ≡ false = let told = c.is_false.ensures.told know tells in cc in
    let n = c.in-Some-var.base in
    let id = c.in-Some-shaped_block.id in
    let f = found c.blocks_are_there.ensures.edges s (is_shaped_at know n c.args.shape) id c.is_bounded.ensures.bounded (c.in-Some-shaped_block.ensures know tells) in
    let gives = stored know s no c.args.y c.args.shape c.args.f c.args.from c.args.q c.in-Some.value n (id, f.edge) c.in-Some.ensures.here (sym c.in-Some-var.ensures) f.found in
    let new = c.in-Ok.ensures f.edge f.there in
    let moved = c.moved_to.ensures in
    cc
