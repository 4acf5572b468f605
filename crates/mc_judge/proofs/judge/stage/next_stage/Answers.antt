use Rattle.std.proofs.Common.{◌≡◌, ℕ, List, ◌∷◌, ◌++◌, [], refl, sym, subst}
use Rattle.mc_judge.specs.declared.judge.stage.Stage.{Stage}
use Rattle.mc_judge.specs.Judge.Stages.{IsAt}
use Rattle.mc_judge.proofs.JudgeLemmas.Documents.{refusal_more, refused_end}
use Rattle.mc_judge.proofs.judge.stage.next_stage.Goals as goal

pub returns-in-Unbegun-clause-leads : goal.returns-in-Unbegun-clause-leads
returns-in-Unbegun-clause-leads c = λ texts number k judge at.
    let none : texts ≡ [] = subst (λ (s : Stage). IsAt k c.args.flow.now c.args.defs.now texts s) c.in-Unbegun.is at in
    subst (λ (ts : List (List ℕ)). IsAt k c.args.flow.now c.args.defs.now (ts ++ c.args.bytes.now ∷ []) c.begun.result) (sym none)
    (c.begun.ensures k judge refl)

pub returns-in-Open-clause-leads : goal.returns-in-Open-clause-leads
returns-in-Open-clause-leads c = λ texts number k judge at.
    c.gone_on.ensures c.args.flow.now c.args.defs.now texts number k judge
    (subst (λ (s : Stage). IsAt k c.args.flow.now c.args.defs.now texts s) c.in-Open.is at)

pub returns-in-Ended-clause-leads : goal.returns-in-Ended-clause-leads
returns-in-Ended-clause-leads c = λ texts number k judge at.
    let ended = subst (λ (s : Stage). IsAt k c.args.flow.now c.args.defs.now texts s) c.in-Ended.is at in
    refused_end k c.args.flow.now c.args.defs.now texts c.args.bytes.now _ (number, (ended.0, ended.1, ended.2))

pub returns-in-Refused-clause-leads : goal.returns-in-Refused-clause-leads
returns-in-Refused-clause-leads c = λ texts number k judge at.
    refusal_more k c.args.flow.now c.args.defs.now texts (c.args.bytes.now ∷ []) _
    (subst (λ (s : Stage). IsAt k c.args.flow.now c.args.defs.now texts s) c.in-Refused.is at)
