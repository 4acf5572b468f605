use Rattle.std.proofs.Common.{◌++◌, ◌∙◌, ap, sym, subst}
use Rattle.std.specs.Prelude.{Err}
use Rattle.mc_document.specs.declared.proof.fault.ApplyFault.{ApplyFault}
use Rattle.mc_document.specs.Proof.Positions.{Applies}
use Rattle.mc_state_io.specs.Text.Text.{Text}
use Rattle.mc_follow.proofs.ReportLemmas.Chains.{applied_draft, applied_formed, misplaced_is_none, refused_is_none}
use Rattle.mc_follow.proofs.report.chains.Draft.take.Goals as goal

pub push_written-requires : goal.push_written-requires
push_written-requires c =
    applied_formed c.documents_are_followed.ensures c.args.flow.now c.args.defs.now c.requires.valid c.requires.read.0 c.args.line.now c.args.self.now
    c.apply.new.self c.in-Ok.ensures.applies c.requires.read.1

pub returns-in-Ok-clause-taken : goal.returns-in-Ok-clause-taken
returns-in-Ok-clause-taken c = λ yes lines draft.
    let old = c.args.self.now in
    applied_draft c.documents_are_followed.ensures c.args.flow.now c.args.defs.now c.requires.valid lines c.args.line.now old _ c.in_ok-alarm.alarm.items
    (sym c.may_stand.ensures ∙ c.if-not-may_stand.false) c.in-Ok.ensures.applies c.in_ok-alarm.ensures
    (c.in_ok-extend_from_slice-in-Ok.ensures.items ∙ ap (λ (t : Text). old.alarms.items ++ t) c.as_slice.ensures.value)
    c.in_ok-push_written-in-Ok.ensures draft

pub returns-in-Err-Premise-clause-refused : goal.returns-in-Err-Premise-clause-refused
returns-in-Err-Premise-clause-refused c = λ no lines later draft.
    let old = c.args.self.now in
    let told = subst (λ (f : ApplyFault). Applies c.args.line.now old.proof c.apply.new.self (Err f)) c.in-Err-Premise.field-0-is c.in-Err-Premise.ensures.applies in
    refused_is_none c.documents_are_followed.ensures c.args.flow.now c.args.defs.now c.requires.valid c.refusals_are_one.ensures.apart lines later c.args.line.now
    old _ told.0 draft

pub returns-then-not-may_stand-clause-refused : goal.returns-then-not-may_stand-clause-refused
returns-then-not-may_stand-clause-refused c = λ no lines later draft.
    misplaced_is_none c.documents_are_followed.ensures c.args.flow.now c.args.defs.now c.requires.valid lines later c.args.line.now c.args.self.now
    (sym c.may_stand.ensures ∙ c.if-not-may_stand.true) draft
