use Rattle.std.proofs.Common.{◌∙◌, sym}
use Rattle.mc_document.proofs.CertifiedLemmas.Reading.{applied_read, begun_read, ended_is_whole, misplaced_is_not_whole, refused_is_not_whole}
use Rattle.mc_document.proofs.certified.ends.Goals as goal

pub loop-line-init : goal.loop-line-init
loop-line-init c = begun_read c.args.flow.now c.args.defs.now c.lines_are_read.ensures.begun c.args.lines.now c.start-proof.result c.start-proof.ensures

pub loop-line-preserved : goal.loop-line-preserved
loop-line-preserved c =
    applied_read c.args.flow.now c.args.defs.now c.documents_go_on.ensures.added c.lines_are_read.ensures.kept c.requires c.args.lines.now
    c.loop-line.line-index c.line-item.result c.loop-line.proof c.apply.new.self c.loop-line-test.true c.line-item.is
    (sym c.may_stand.ensures ∙ c.if-not-may_stand.false) c.in-Ok.ensures.applies c.loop-line.invariant

pub returns-in-Err-Premise : goal.returns-in-Err-Premise
returns-in-Err-Premise c =
    refused_is_not_whole c.args.flow.now c.args.defs.now c.judges_are_there.ensures c.refusals_are_one.ensures.never_valid c.requires c.args.lines.now
    c.loop-line.line-index c.line-item.result c.loop-line.proof c.apply.new.self _ c.in-Err-Premise.field-0-0 c.loop-line-test.true c.line-item.is
    c.loop-line.invariant c.in-Err-Premise.field-0-is c.in-Err-Premise.ensures.applies

pub returns-then-not-may_stand : goal.returns-then-not-may_stand
returns-then-not-may_stand c =
    misplaced_is_not_whole c.args.flow.now c.args.defs.now c.judges_are_there.ensures c.requires c.args.lines.now
    c.loop-line.line-index c.line-item.result c.loop-line.proof c.loop-line-test.true c.line-item.is c.loop-line.invariant
    (sym c.may_stand.ensures ∙ c.if-not-may_stand.true)

pub returns : goal.returns
returns c =
    ended_is_whole c.args.flow.now c.args.defs.now c.judges_are_there.ensures c.documents_are_read.ensures.certificates
    c.documents_are_read.ensures.no_stuck c.requires c.args.lines.now c.loop-line.line-index c.loop-line.proof c.has_ended.result
    c.loop-line-test.false c.loop-line.invariant c.has_ended.ensures
