use Rattle.std.proofs.Common.{subst, sym}
use Rattle.mc_lines.specs.declared.cert.line.Line.{Line}
use Rattle.mc_flow.specs.Valid.{IsValid}
use Rattle.mc_document.specs.Proof.Positions.{Position, Tries}
use Rattle.mc_document.proofs.ProofLemmas.Read.{by_cut, by_head, by_pass, by_end, by_rule, rest_is_rule}
use Rattle.mc_document.proofs.proof.proof.Proof.try_line.Goals as goal

pub returns-in-Cut : goal.returns-in-Cut
returns-in-Cut c =
    let old = c.args.self.now in
    let judge = c.judges_are_there.ensures old.flow old.defs (subst (λ (q : Position). IsValid q.flow q.defs) c.self.view_is c.self.invariant.valid) in
    subst (λ (l : Line). Tries l old c.cut.new.self c.cut.result) (sym c.in-Cut.is)
    (by_cut old c.cut.new.self judge c.cut.result c.in-Cut.point c.cut.ensures)

pub returns-in-Head : goal.returns-in-Head
returns-in-Head c =
    let old = c.args.self.now in
    let judge = c.judges_are_there.ensures old.flow old.defs (subst (λ (q : Position). IsValid q.flow q.defs) c.self.view_is c.self.invariant.valid) in
    subst (λ (l : Line). Tries l old c.head.new.self c.head.result) (sym c.in-Head.is)
    (by_head old c.head.new.self judge c.head.result c.in-Head.point c.in-Head.raw c.head.ensures)

pub returns-in-Pass : goal.returns-in-Pass
returns-in-Pass c =
    let old = c.args.self.now in
    let judge = c.judges_are_there.ensures old.flow old.defs (subst (λ (q : Position). IsValid q.flow q.defs) c.self.view_is c.self.invariant.valid) in
    subst (λ (l : Line). Tries l old c.pass.new.self c.pass.result) (sym c.in-Pass.is)
    (by_pass old c.pass.new.self judge c.pass.result c.pass.ensures)

pub returns-in-End : goal.returns-in-End
returns-in-End c =
    let old = c.args.self.now in
    let judge = c.judges_are_there.ensures old.flow old.defs (subst (λ (q : Position). IsValid q.flow q.defs) c.self.view_is c.self.invariant.valid) in
    subst (λ (l : Line). Tries l old c.end.new.self c.end.result) (sym c.in-End.is)
    (by_end old c.end.new.self judge c.end.result c.end.ensures)

pub returns-in_default : goal.returns-in_default
returns-in_default c =
    let old = c.args.self.now in
    let judge = c.judges_are_there.ensures old.flow old.defs (subst (λ (q : Position). IsValid q.flow q.defs) c.self.view_is c.self.invariant.valid) in
    by_rule old c.rule.new.self judge c.rule.result c.args.line.now
    (rest_is_rule c.args.line.now c.in_default.not-Header c.in_default.not-Cut c.in_default.not-Head c.in_default.not-Pass c.in_default.not-End) c.rule.ensures
