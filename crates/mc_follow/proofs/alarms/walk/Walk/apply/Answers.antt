use Rattle.std.proofs.Common.{◌≡◌, ◌+◌, ◌∙◌, ℕ, true, ap, refl, sym, subst}
use Rattle.std.specs.Prelude.{Err}
use Rattle.mc_document.specs.declared.proof.fault.ApplyFault.{ApplyFault}
use Rattle.mc_document.specs.Proof.Positions.{Applies}
use Rattle.mc_follow.specs.Alarms.Outcomes.{IsCrowded}
use Rattle.mc_follow.specs.Alarms.Walks.{goes_on}
use Rattle.mc_follow.proofs.AlarmsLemmas.Followed.{crowds, goes_further, refused_nowhere, refused_stays, same_followed, stays_onward, turns}
use Rattle.mc_follow.proofs.AlarmsLemmas.Going.{goes_by_rule}
use Rattle.mc_follow.proofs.alarms.walk.Walk.apply.Goals as goal

pub returns-in-Ok-clause-follows : goal.returns-in-Ok-clause-follows
returns-in-Ok-clause-follows c =
    let flow = c.args.flow.now in
    let defs = c.args.defs.now in
    let old = c.args.self.now in
    let laws = c.documents_are_followed.ensures in
    let valid = c.requires.followed.valid in
    let goes : goes_on c.args.line ≡ true = sym c.goes_on.ensures ∙ c.if-not-goes_on.false in
    let lines = c.in_ok-push-in-Ok.ensures.items in
    let count = c.in_ok-ended.ensures ∙ ap (λ (n : ℕ). old.ended + n) c.ending.ensures in (
      λ few.
          same_followed flow defs _ c.push.new.self.items c.apply.new.self old.text.items old.text.items c.in_ok-ended.ended c.turn.new.self lines refl
          (goes_further laws flow defs valid c.branches_are_followed.ensures old.lines.items c.args.line old.proof c.apply.new.self old.text.items
          old.ended old.tracks c.in_ok-ended.ended goes c.requires.may c.requires.followed c.in-Ok.ensures.applies count few
          c.in_ok-coming.coming c.in_ok-coming.ensures c.turn.new.self c.in_ok-turn-in-Ok.ensures),
      λ many.
          subst (IsCrowded flow defs) (sym lines)
          (crowds laws flow defs valid old.lines.items c.args.line old.proof c.apply.new.self old.text.items
          old.ended old.tracks c.in_ok-ended.ended (goes_by_rule c.args.line goes) c.requires.may.stands c.requires.followed c.in-Ok.ensures.applies count many),
    )

pub returns-in-Err-Premise-clause-follows : goal.returns-in-Err-Premise-clause-follows
returns-in-Err-Premise-clause-follows c =
    let old = c.args.self.now in
    let told = subst (λ (f : ApplyFault). Applies c.args.line old.proof c.apply.new.self (Err f)) c.in-Err-Premise.field-0-is c.in-Err-Premise.ensures.applies in
    stays_onward c.args.flow.now c.args.defs.now (record old { proof = c.apply.new.self }) (refused_stays c.args.flow.now c.args.defs.now old.lines.items old.proof c.apply.new.self old.text.items old.ended old.tracks told.1 c.requires.followed)

pub returns-in-Err-Premise-clause-refused : goal.returns-in-Err-Premise-clause-refused
returns-in-Err-Premise-clause-refused c = λ e.
    let old = c.args.self.now in
    let told = subst (λ (f : ApplyFault). Applies c.args.line old.proof c.apply.new.self (Err f)) c.in-Err-Premise.field-0-is c.in-Err-Premise.ensures.applies in (
      told.1,
      λ goes.
          refused_nowhere c.documents_are_followed.ensures c.args.flow.now c.args.defs.now old.lines.items old.proof old.text.items old.ended old.tracks c.requires.followed
          c.args.line _ (goes_by_rule c.args.line goes) told.0,
    )

pub returns-in-Ok-clause-turned : goal.returns-in-Ok-clause-turned
returns-in-Ok-clause-turned c = λ e.
    let old = c.args.self.now in
    let goes : goes_on c.args.line ≡ true = sym c.goes_on.ensures ∙ c.if-not-goes_on.false in
    turns c.documents_are_followed.ensures c.args.flow.now c.args.defs.now c.requires.followed.valid old.lines.items c.args.line old.proof c.apply.new.self old.text.items
    old.ended old.tracks (goes_by_rule c.args.line goes) c.requires.followed c.in-Ok.ensures.applies
