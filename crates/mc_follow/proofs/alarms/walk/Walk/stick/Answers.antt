use Rattle.std.proofs.Common.{◌≡◌, ◌++◌, ◌∙◌, ℕ, List, Some, None, Option, option_map, ap, refl, sym, subst}
use Rattle.std.specs.Borrow.{Bor}
use Rattle.std.specs.Prelude.{Err}
use Rattle.mc_lines.specs.declared.cert.line.Line.TheVariants.{C1}
use Rattle.mc_check_line.specs.declared.branch.Branch.{Branch}
use Rattle.mc_check_line.specs.Judging.{path}
use Rattle.mc_kernel.specs.Branches.{Path}
use Rattle.mc_kernel.specs.Instances.{IsStuck}
use Rattle.mc_kernel.specs.Readings.{first_branch}
use Rattle.mc_document.specs.Proof.Lines.{setting_at}
use Rattle.mc_rules_steps.specs.Unmet.{IsUnmet}
use Rattle.mc_document.specs.declared.proof.fault.ApplyFault.{ApplyFault}
use Rattle.mc_document.specs.Proof.Positions.{Applies}
use Rattle.mc_follow.proofs.AlarmsLemmas.Followed.{crowds, current_is, goes_away, refused_nowhere, refused_stays, same_followed, stuck_is_right, stays_onward, sticks, turns}
use Rattle.mc_follow.proofs.AlarmsLemmas.Going.{plain_stands}
use Rattle.mc_rules_steps.specs.declared.gap.Gap.{Gap}
use Rattle.mc_exact.specs.Exact.{Picks}
use Rattle.mc_exact.specs.Marks.{IsMark}
use Rattle.mc_follow.specs.Alarms.Outcomes.{IsCrowded}
use Rattle.mc_follow.specs.Report.Report.{real_line}
use Rattle.mc_follow.proofs.alarms.walk.Walk.stick.Goals as goal

-- there is none
none_found : (found : Option Gap) → ((gap : Gap) → found ≡ Some gap → ⊥) → found ≡ None
none_found None not_some = refl
none_found (Some gap) not_some = absurd (not_some gap refl)

pub returns-in-Ok-clause-follows : goal.returns-in-Ok-clause-follows
returns-in-Ok-clause-follows c =
    let flow = c.args.flow.now in
    let defs = c.args.defs.now in
    let old = c.args.self.now in
    let branch : Path = path c.in-Some.branch.now in
    let gap = c.in-Some-found.gap in
    let own = rw c.in-Some-found.is at c.in_ok-found.ensures.stuck in
    let mark = option_map (λ list. list.items) c.in_ok-mark.mark in
    let current : Some branch ≡ option_map (λ (b : Path × List Path). b.0) (first_branch old.proof.branches) =
    sym (ap (λ (b : Option (Bor Branch)). option_map (λ (b : Bor Branch). path b.now) b) c.in-Some.is) ∙ c.current.ensures in
    let laws = c.documents_are_followed.ensures in
    let valid = c.requires.followed.valid in
    let lines = c.in_ok-push-in-Ok.ensures.items in
    let here = c.requires.here in
    let told = c.in_ok-push_real.ensures ∙ ap (λ (t : List ℕ). t ++ real_line mark) (own.1.2 ∙ ap (λ (t : List ℕ). t ++ own.1.0) c.new-line.ensures.items) in (
      λ few.
          same_followed flow defs _ c.push.new.self.items c.apply.new.self (old.text.items ++ (own.1.0 ++ real_line mark)) c.extend_from_slice.new.self.items c.in_ok-ended.ended
          c.pop.new.self lines (c.in_ok-extend_from_slice-in-Ok.ensures.items ∙ ap (λ (t : List ℕ). old.text.items ++ t) (c.as_slice.ensures.value ∙ told))
          (sticks laws flow defs valid old.lines.items old.proof c.apply.new.self old.text.items own.1.0
          old.ended old.tracks c.in_ok-ended.ended branch gap mark c.pop.new.self c.requires.followed current own.1.1 c.in-Ok.ensures.applies c.in_ok-ended.ensures few own.0
          (λ track rest is. (
            subst (λ (t : Option Picks). IsMark branch.state t gap mark) (c.first.ensures track rest is) c.in_ok-mark.ensures,
            (c.pop.ensures track rest is).1,
          ))),
      λ many.
          subst (IsCrowded flow defs) (sym lines)
          (crowds laws flow defs valid old.lines.items C1 old.proof c.apply.new.self old.text.items
          old.ended old.tracks c.in_ok-ended.ended refl (plain_stands C1 old.proof.branches here.others here.first here.branches_are here.plain)
          c.requires.followed c.in-Ok.ensures.applies c.in_ok-ended.ensures many),
    )

pub returns-in-Err-Premise-clause-still : goal.returns-in-Err-Premise-clause-still
returns-in-Err-Premise-clause-still c = λ e.
    let old = c.args.self.now in
    let told = subst (λ (f : ApplyFault). Applies C1 old.proof c.apply.new.self (Err f)) c.in-Err-Premise.field-0-is c.in-Err-Premise.ensures.applies in
    refused_stays c.args.flow.now c.args.defs.now old.lines.items old.proof c.apply.new.self old.text.items old.ended old.tracks told.1 c.requires.followed

pub returns-in-Err-Premise-clause-follows : goal.returns-in-Err-Premise-clause-follows
returns-in-Err-Premise-clause-follows c =
    let old = c.args.self.now in
    let told = subst (λ (f : ApplyFault). Applies C1 old.proof c.apply.new.self (Err f)) c.in-Err-Premise.field-0-is c.in-Err-Premise.ensures.applies in
    stays_onward c.args.flow.now c.args.defs.now (record old { proof = c.apply.new.self }) (refused_stays c.args.flow.now c.args.defs.now old.lines.items old.proof c.apply.new.self old.text.items old.ended old.tracks told.1 c.requires.followed)

pub returns-in-Err-Premise-clause-met : goal.returns-in-Err-Premise-clause-met
returns-in-Err-Premise-clause-met c = λ e.
    let old = c.args.self.now in
    let flow = c.args.flow.now in
    let defs = c.args.defs.now in
    let told = subst (λ (f : ApplyFault). Applies C1 old.proof c.apply.new.self (Err f)) c.in-Err-Premise.field-0-is c.in-Err-Premise.ensures.applies in
    let laws = c.documents_are_followed.ensures in (
      told.1,
      stuck_is_right laws flow defs old.lines.items old.proof old.text.items old.ended old.tracks c.requires.followed c.requires.here
          (refused_nowhere laws flow defs old.lines.items old.proof old.text.items old.ended old.tracks c.requires.followed C1 _ refl told.0),
    )

pub returns-in_default-found-clause-met : goal.returns-in_default-found-clause-met
returns-in_default-found-clause-met c = λ e.
    let old = c.args.self.now in
    let met = c.in_ok-found.ensures.met (none_found c.in_ok-found.found c.in_default-found.not-Some) in
    let current : Some (path c.in-Some.branch.now) ≡ option_map (λ (b : Path × List Path). b.0) (first_branch old.proof.branches) =
    sym (ap (λ (b : Option (Bor Branch)). option_map (λ (b : Bor Branch). path b.now) b) c.in-Some.is) ∙ c.current.ensures in (
      refl,
      λ b others gap is unmet.
          met.1 gap
          (subst (λ (d : Path). IsUnmet c.args.flow.now c.args.defs.now d.point d.state gap) (sym (current_is old.proof (path c.in-Some.branch.now) b others is current)) unmet),
    )

pub returns-in-Ok-clause-gone : goal.returns-in-Ok-clause-gone
returns-in-Ok-clause-gone c = λ e.
    let flow = c.args.flow.now in
    let defs = c.args.defs.now in
    let old = c.args.self.now in
    let turned = turns c.documents_are_followed.ensures flow defs c.requires.followed.valid old.lines.items C1 old.proof c.apply.new.self old.text.items old.ended old.tracks refl
    c.requires.followed c.in-Ok.ensures.applies in
    let stuck : IsStuck flow defs (setting_at old.proof) turned.first turned.next = turned.instance in
    goes_away flow defs C1 old.proof c.apply.new.self turned stuck.gives
