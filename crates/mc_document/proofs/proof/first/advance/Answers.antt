use Rattle.std.proofs.Common.{subst}
use Rattle.std.specs.Prelude.{Err}
use Rattle.mc_check_line.specs.declared.branch.Refused.{Refused}
use Rattle.mc_check_line.specs.Judging.{IsLineAnswer, path, paths, setting_of}
use Rattle.mc_kernel.specs.JudgedLaws.{IsAsked}
use Rattle.mc_kernel.specs.Judges.{Knowledge, judged_line}
use Rattle.mc_document.proofs.ProofLemmas.Advanced.{both_made, comes_given, comes_refused, given_made, refused_made}
use Rattle.mc_document.proofs.proof.first.advance.Goals as goal

pub judge-requires-clause-made : goal.judge-requires-clause-made
judge-requires-clause-made c =
    (both_made c.args.flow.now c.args.defs.now (setting_of c.args.setting) c.args.line.now c.args.stack.now c.args.stack.now
    c.pop.new.self (path c.in-Some.first) c.in-Some.ensures c.requires.made).0

pub returns-in_ok-put-in-Ok-clause-comes : goal.returns-in_ok-put-in-Ok-clause-comes
returns-in_ok-put-in-Ok-clause-comes c =
    comes_given c.args.flow.now c.args.defs.now (setting_of c.args.setting) c.args.line.now c.args.stack.now c.put.new.self
    c.pop.new.self (path c.in-Some.first) c.in-Some.ensures c.requires.made
    (paths c.in-Ok.next) c.in-Ok.ensures c.in_ok-put-in-Ok.ensures.ok

pub returns-in_ok-put-in-Ok-clause-made : goal.returns-in_ok-put-in-Ok-clause-made
returns-in_ok-put-in-Ok-clause-made c =
    given_made c.args.flow.now c.args.defs.now (setting_of c.args.setting) c.args.line.now c.args.stack.now c.put.new.self
    c.pop.new.self (path c.in-Some.first) c.in-Some.ensures c.requires.made
    c.lines_are_judged.ensures.judged c.lines_make_well_made.ensures c.judges_are_there.ensures c.requires.valid
    (paths c.in-Ok.next) c.in-Ok.ensures c.in_ok-put-in-Ok.ensures.ok

pub returns-in_ok-push-in-Err-Premise-clause-comes : goal.returns-in_ok-push-in-Err-Premise-clause-comes
returns-in_ok-push-in-Err-Premise-clause-comes c =
    let flow = c.args.flow.now in
    let defs = c.args.defs.now in
    let b = path c.in-Some.first in
    let told = subst (λ (f : Refused). (k : Knowledge) → IsAsked k flow defs b
    → IsLineAnswer (judged_line k flow defs (setting_of c.args.setting) c.args.line.now b) b (Err f))
    c.in-Err-Premise.field-0-is c.in-Err-Premise.ensures in
    comes_refused flow defs (setting_of c.args.setting) c.args.line.now c.args.stack.now c.push.new.self
    c.pop.new.self b c.in-Some.ensures c.requires.made
    c.in-Err-Premise.k (path c.in-Err-Premise.same) told c.in_ok-push-in-Err-Premise.ensures.ok

pub returns-in_ok-push-in-Err-Premise-clause-made : goal.returns-in_ok-push-in-Err-Premise-clause-made
returns-in_ok-push-in-Err-Premise-clause-made c =
    let flow = c.args.flow.now in
    let defs = c.args.defs.now in
    let b = path c.in-Some.first in
    let told = subst (λ (f : Refused). (k : Knowledge) → IsAsked k flow defs b
    → IsLineAnswer (judged_line k flow defs (setting_of c.args.setting) c.args.line.now b) b (Err f))
    c.in-Err-Premise.field-0-is c.in-Err-Premise.ensures in
    refused_made flow defs (setting_of c.args.setting) c.args.line.now c.args.stack.now c.push.new.self
    c.pop.new.self b c.in-Some.ensures c.requires.made
    c.lines_are_judged.ensures.judged c.lines_make_well_made.ensures c.judges_are_there.ensures c.requires.valid
    c.in-Err-Premise.k (path c.in-Err-Premise.same) told c.in_ok-push-in-Err-Premise.ensures.ok
