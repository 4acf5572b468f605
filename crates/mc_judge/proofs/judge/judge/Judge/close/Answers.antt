use Rattle.std.proofs.Common.{◌∙◌, ℕ, List, refl, subst}
use Rattle.mc_judge.specs.declared.judge.stage.Stage.{Stage}
use Rattle.mc_judge.specs.Judge.Stages.{Leads}
use Rattle.mc_judge.proofs.JudgeLemmas.Hearing.{line_heard, on_ok}
use Rattle.mc_judge.proofs.judge.judge.Judge.close.Goals as goal

pub returns-clause-heard : goal.returns-clause-heard
returns-clause-heard c = on_ok _ _ c.is_known.result c.is_known.ensures.ok (λ known.
    line_heard c.args.self.now _ c.args.bytes.now c.requires.no_feed (record {
      same = (refl, refl);
      counted = c.in_ok-number.ensures;
      empty = c.clear.ensures.items;
      known = known;
      leads = λ texts number.
          subst (λ (bs : List ℕ). Leads c.args.self.now.flow.now c.args.self.now.defs.now bs texts c.args.self.now.stage c.next_stage.result)
          (c.as_slice.ensures.value ∙ c.in_ok-extend_from_slice.ensures.items)
          (subst (λ (s : Stage). Leads c.args.self.now.flow.now c.args.self.now.defs.now c.as_slice.result.now texts s c.next_stage.result)
          c.replace-stage.ensures.value (c.next_stage.ensures.leads texts number));
      stays = λ cause e. c.next_stage.ensures.stays cause (c.replace-stage.ensures.value ∙ e);
    }))
