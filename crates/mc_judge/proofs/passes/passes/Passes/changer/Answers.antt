use Rattle.std.proofs.Common.{◌≡◌, ◌∙◌, List, ap, sym, true, false}
use Rattle.mc_base.specs.declared.ids.PointId.{PointId}
use Rattle.mc_check_line.specs.Judging.{path}
use Rattle.mc_kernel.specs.Readings.{is_ruling}
use Rattle.mc_joins.specs.Chains.Chains.{over}
use Rattle.mc_joins.specs.Chains.Judges.{may_change}
use Rattle.mc_judge.specs.Passes.Lines.{setting_here}
use Rattle.mc_judge.proofs.PassesLemmas.Ready.{changer_none, changer_some}
use Rattle.mc_judge.proofs.passes.passes.Passes.changer.Goals as goal

pub returns-then-may_change : goal.returns-then-may_change
returns-then-may_change c =
    let p = c.args.self.now in
    let b = path c.in-Some.branch.now in
    let passing : is_ruling p.proof.stage ≡ true = ap is_ruling (sym c.stage.ensures) ∙ (sym c.is_ruling.ensures ∙ c.if-not-is_ruling.false) in
    let may : may_change (setting_here p) b ≡ true =
    ap (λ (cuts : List PointId). may_change (over cuts p.proof.heads) b) (sym c.cuts.ensures)
    ∙ (sym (c.may_change.ensures p.proof.heads) ∙ c.if-may_change.true) in
    sym (changer_some p b passing c.in-Some.ensures may)

pub returns-else-may_change : goal.returns-else-may_change
returns-else-may_change c =
    let p = c.args.self.now in
    let b = path c.in-Some.branch.now in
    let passing : is_ruling p.proof.stage ≡ true = ap is_ruling (sym c.stage.ensures) ∙ (sym c.is_ruling.ensures ∙ c.if-not-is_ruling.false) in
    let may : may_change (setting_here p) b ≡ false =
    ap (λ (cuts : List PointId). may_change (over cuts p.proof.heads) b) (sym c.cuts.ensures)
    ∙ (sym (c.may_change.ensures p.proof.heads) ∙ c.if-may_change.false) in
    sym (changer_none p b passing c.in-Some.ensures may)
