use Rattle.std.proofs.Common.{refl, subst}
use Rattle.std.specs.Prelude.{Err}
use Rattle.mc_lines.specs.declared.cert.line.Line.TheVariants.{End}
use Rattle.mc_document.specs.declared.proof.fault.ApplyFault.{ApplyFault}
use Rattle.mc_document.specs.Proof.Positions.{Applies}
use Rattle.mc_follow.proofs.AlarmsLemmas.Followed.{end_is_taken, ends, whole_is}
use Rattle.mc_follow.proofs.alarms.walk.Walk.finish.Goals as goal

pub returns-in-Ok-finish : goal.returns-in-Ok-finish
returns-in-Ok-finish c =
    let old = c.args.self in
    whole_is c.documents_are_followed.ensures c.args.flow.now c.args.defs.now old.lines.items old.proof c.apply.new.self old.text.items old.ended old.tracks
    c.in-Ok-finish.complete.alarms _ c.requires.followed c.requires.none_open c.in-Ok.ensures.applies c.in-Ok-finish.ensures.ok.alarms
    c.in_ok-push.ensures.items c.in_ok-push_count-in-Ok-finish.ensures refl

pub unreachable-requires : goal.unreachable-requires
unreachable-requires c =
    let old = c.args.self in
    let ended = ends c.documents_are_followed.ensures c.args.flow.now c.args.defs.now c.requires.followed.valid old.lines.items old.proof c.apply.new.self old.text.items old.ended old.tracks
    c.requires.followed c.in-Ok.ensures.applies in
    c.in-Err.ensures.err.1 ended.ended

pub unreachable-requires-in-Err-Premise : goal.unreachable-requires-in-Err-Premise
unreachable-requires-in-Err-Premise c =
    let old = c.args.self in
    let told = subst (λ (f : ApplyFault). Applies End old.proof c.apply.new.self (Err f)) c.in-Err-Premise.field-0-is c.in-Err-Premise.ensures.applies in
    end_is_taken c.documents_are_followed.ensures c.args.flow.now c.args.defs.now c.requires.followed.valid old.lines.items old.proof old.text.items old.ended old.tracks _
    c.requires.followed c.requires.none_open told.0
