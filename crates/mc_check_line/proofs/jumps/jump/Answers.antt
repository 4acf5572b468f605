use Rattle.std.proofs.Common.{◌≡◌, false, sym}
use Rattle.mc_kernel.specs.Branches.{states_at}
use Rattle.mc_state.specs.Known.{is_false}
use Rattle.mc_check_line.specs.Judging.{path, setting_of}
use Rattle.mc_check_line.proofs.Answered.{jumps_fit}
use Rattle.mc_check_line.proofs.jumps.jump.Goals as goal

pub returns : goal.returns
returns c = λ know tells.
    let b = path c.args.branch in
    let heads = states_at b.point (setting_of c.args.setting).heads in
    let no : is_false know ≡ false = let told = c.is_false.ensures.told know tells in cc in
    jumps_fit c.jumps_are_fits.ensures know heads c.args.number c.args.images.now c.args.edges.now b _ _ c.in-Some.target.now (sym c.if-not-may_cut.ensures) no (sym c.in-Some.ensures)
    (c.landed.ensures _ (c.fits-unfit.ensures know tells))
