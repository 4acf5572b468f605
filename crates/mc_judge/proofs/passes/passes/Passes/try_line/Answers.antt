use Rattle.std.proofs.Common.{subst, sym}
use Rattle.mc_lines.specs.declared.cert.line.Line.{Line}
use Rattle.mc_document.proofs.ProofLemmas.Read.{rest_is_rule}
use Rattle.mc_judge.specs.Passes.Positions.{Tries}
use Rattle.mc_judge.proofs.PassesLemmas.Read.{by_cut, by_end, by_head, by_joining, by_opening, by_pass, by_rule, rest_stays}
use Rattle.mc_judge.proofs.passes.passes.Passes.try_line.Goals as goal

pub returns-in-Cut : goal.returns-in-Cut
returns-in-Cut c =
    let old = c.args.self.now in
    let lore = c.lores_are_there.ensures old.proof.flow old.proof.defs c.is_held.ensures.valid in
    subst (λ (l : Line). Tries l old (record c.args.self.now { proof = c.cut.new.self }) c.cut.result) (sym c.in-Cut.is)
    (by_cut old lore c.cut.result c.cut.new.self c.in-Cut.point c.cut.ensures)

pub returns-in-Head : goal.returns-in-Head
returns-in-Head c =
    let old = c.args.self.now in
    let lore = c.lores_are_there.ensures old.proof.flow old.proof.defs c.is_held.ensures.valid in
    subst (λ (l : Line). Tries l old (record c.args.self.now { proof = c.head.new.self }) c.head.result) (sym c.in-Head.is)
    (by_head old lore c.head.result c.head.new.self c.in-Head.point c.in-Head.raw c.head.ensures)

pub returns-in-Pass : goal.returns-in-Pass
returns-in-Pass c =
    let old = c.args.self.now in
    let lore = c.lores_are_there.ensures old.proof.flow old.proof.defs c.is_held.ensures.valid in
    subst (λ (l : Line). Tries l old c.pass.new.self c.pass.result) (sym c.in-Pass.is)
    (by_pass old lore c.pass.result c.pass.new.self c.pass.ensures)

pub returns-in-End : goal.returns-in-End
returns-in-End c =
    let old = c.args.self.now in
    let lore = c.lores_are_there.ensures old.proof.flow old.proof.defs c.is_held.ensures.valid in
    subst (λ (l : Line). Tries l old (record c.args.self.now { proof = c.end.new.self }) c.end.result) (sym c.in-End.is)
    (by_end old lore c.end.result c.end.new.self c.end.ensures)

pub returns-in-C2 : goal.returns-in-C2
returns-in-C2 c =
    let old = c.args.self.now in
    let lore = c.lores_are_there.ensures old.proof.flow old.proof.defs c.is_held.ensures.valid in
    subst (λ (l : Line). Tries l old c.open_state.new.self c.open_state.result) (sym c.in-C2.is)
    (by_opening old lore c.open_state.result c.open_state.new.self c.in-C2.tries c.open_state.ensures)

pub returns-in-C3 : goal.returns-in-C3
returns-in-C3 c =
    let old = c.args.self.now in
    let lore = c.lores_are_there.ensures old.proof.flow old.proof.defs c.is_held.ensures.valid in
    subst (λ (l : Line). Tries l old c.join_state.new.self c.join_state.result) (sym c.in-C3.is)
    (by_joining old lore c.join_state.result c.join_state.new.self c.in-C3.number c.in-C3.steps c.join_state.ensures)

pub returns-in_default : goal.returns-in_default
returns-in_default c =
    let old = c.args.self.now in
    let lore = c.lores_are_there.ensures old.proof.flow old.proof.defs c.is_held.ensures.valid in
    by_rule old lore c.rule.result c.rule.new.self c.args.line.now
    (rest_is_rule c.args.line.now c.in_default.not-Header c.in_default.not-Cut c.in_default.not-Head c.in_default.not-Pass c.in_default.not-End)
    (rest_stays c.args.line.now c.in_default.not-C2 c.in_default.not-C3) c.rule.ensures
