use Rattle.std.proofs.Common.{◌≡◌, ◌∙◌, List, ap, subst}
use Rattle.mc_base.specs.declared.ids.EdgeId.{EdgeId}
use Rattle.mc_base.specs.declared.ids.NodeId.{NodeId}
use Rattle.mc_kernel.specs.Branches.{Path, states_at}
use Rattle.mc_kernel.specs.Judges.{jumping_to, may_cut}
use Rattle.mc_state.specs.Premises.{Judged, need}
use Rattle.mc_check_line.specs.Judging.{IsLineAnswer, path, setting_of}
use Rattle.mc_check_line.proofs.jumps.jump_to.Goals as goal

pub returns : goal.returns
returns c = λ know tells.
    let b = path c.args.branch in
    let g = setting_of c.args.setting in
    let judged : List NodeId → List EdgeId → Judged (List Path) = λ ns es. need 1 (may_cut g b) (jumping_to know (states_at b.point g.heads) c.args.number ns es b.state) in
    let ns = c.as_slice-nodes.result.now in
    let es = c.as_slice-ids.result.now in
    let same : judged ns es ≡ judged c.args.images.now c.args.edges.now =
    ap (λ ms. judged ms es) c.as_slice-nodes.ensures ∙ ap (judged c.args.images.now) c.as_slice-ids.ensures in
    subst (λ j. IsLineAnswer j b c.jump.result) same (c.jump.ensures know tells)
