use Rattle.std.proofs.Common.{◌≡◌, ◌∙◌, ◌+◌, ℕ, List, ap, map, subst, sym}
use Rattle.std.specs.Prelude.{Err, Ok}
use Rattle.mc_check_line.specs.declared.branch.Head.{Head}
use Rattle.mc_check_line.specs.Judging.{head_of}
use Rattle.mc_kernel.specs.Branches.{roots}
use Rattle.mc_kernel.specs.Judges.{Knowledge}
use Rattle.mc_document.specs.Proof.Held.{seen}
use Rattle.mc_document.specs.declared.proof.stage.Stage.TheVariants.{Ruling}
use Rattle.mc_document.specs.Proof.Lines.{AnswersAll, ComesTo, marks, ruled_at, ruling_at}
use Rattle.mc_document.specs.Proof.Positions.{Position}
use Rattle.mc_document.specs.Proof.Stacks.{HeadsAreMade}
use Rattle.mc_document.proofs.ProofLemmas.Ruling.{begins_not, ruled_ok, settle}
use Rattle.mc_document.proofs.proof.proof.Proof.begin.Goals as goal

pub advance-requires-clause-made : goal.advance-requires-clause-made
advance-requires-clause-made c =
    c.in_ok-branches.ensures.made c.self.inside.defs.now
    (subst (λ (heads : List Head). HeadsAreMade c.self.inside.flow.now c.self.inside.defs.now (map head_of heads)) (sym c.as_slice.ensures.value) c.self.invariant.heads)

pub returns-in-Err : goal.returns-in-Err
returns-in-Err c =
    let inside = c.self.inside in
    let bs = roots inside.flow.now (map head_of inside.heads.items) in
    let told = settle inside.flow.now inside.defs.now inside.form c.args.line.now c.advance.new.stack (Err c.in-Err.fault)
    c.as_slice-2.result.now inside.cuts.items c.as_slice-3.result.now inside.heads.items c.in_ok-branches.branches bs
    c.as_slice-2.ensures.value c.as_slice-3.ensures.value
    (c.in_ok-branches.ensures.are ∙ ap (λ (heads : List Head). roots c.self.inside.flow.now (map head_of heads)) c.as_slice.ensures.value)
    c.in-Err.ensures.comes in
    let q = seen c.self.inside in
    subst (λ (q : Position). (k : Knowledge) → AnswersAll k q.flow q.defs
    → ComesTo (ruling_at k c.args.line.now (ruled_at q (roots q.flow q.heads))) q q (Err c.in-Err.fault)) c.self.view_is
    (λ k all. begins_not k c.args.line.now (ruled_at q (roots q.flow q.heads)) q c.advance.new.stack c.in-Err.fault (told k all))

pub returns-in-Ok : goal.returns-in-Ok
returns-in-Ok c =
    let inside = c.self.inside in
    let bs = roots inside.flow.now (map head_of inside.heads.items) in
    let told = settle inside.flow.now inside.defs.now inside.form c.args.line.now c.advance.new.stack (Ok tt)
    c.as_slice-2.result.now inside.cuts.items c.as_slice-3.result.now inside.heads.items c.in_ok-branches.branches bs
    c.as_slice-2.ensures.value c.as_slice-3.ensures.value
    (c.in_ok-branches.ensures.are ∙ ap (λ (heads : List Head). roots c.self.inside.flow.now (map head_of heads)) c.as_slice.ensures.value)
    c.in-Ok.ensures.comes in
    let q = seen c.self.inside in
    let stuck : c.in_ok-stuck.stuck ≡ c.self.inside.stuck + marks c.args.line.now =
    c.in_ok-stuck.ensures ∙ ap (λ (q : Position). q.stuck + marks c.args.line.now) (sym c.self.view_is) in
    let after : ℕ → Position = λ (n : ℕ). record (ruled_at q (roots q.flow q.heads)) { branches = c.advance.new.stack; stuck = n } in
    subst (λ (q : Position). (k : Knowledge) → AnswersAll k q.flow q.defs
    → ruling_at k c.args.line.now (ruled_at q (roots q.flow q.heads))
    ≡ Ok (seen (record c.self.inside { stage = Ruling; branches = c.advance.new.stack; stuck = c.in_ok-stuck.stuck }))) c.self.view_is
    (λ k all. ruled_ok k c.args.line.now (ruled_at q (roots q.flow q.heads)) c.advance.new.stack (told k all)
    ∙ ap (λ (n : ℕ). Ok (after n)) (sym stuck))
