use Rattle.std.proofs.Common.{◌∷◌, ◌++◌, ◌∙◌, List, [], Some, ap, subst}
use Rattle.std.specs.Prelude.{Err}
use Rattle.mc_lines.specs.declared.cert.line.Line.{Line}
use Rattle.mc_lines.specs.declared.cert.line.Line.TheVariants.{Header, Pass}
use Rattle.mc_document.specs.declared.proof.fault.ApplyFault.{ApplyFault}
use Rattle.mc_document.specs.Proof.Positions.{Applies}
use Rattle.mc_state.specs.declared.line.Form.TheVariants.{Chain}
use Rattle.mc_state.specs.declared.line.Version.TheVariants.{One}
use Rattle.mc_follow.proofs.AlarmsLemmas.Covered.{roots_covered}
use Rattle.mc_follow.proofs.AlarmsLemmas.Followed.{begins_with, pass_is_taken, same_followed, same_tracks, starts}
use Rattle.mc_follow.proofs.alarms.walk.Walk.start.Goals as goal

pub returns-in-Ok-clause-follows : goal.returns-in-Ok-clause-follows
returns-in-Ok-clause-follows c =
    let flow = c.args.flow.now in
    let defs = c.args.defs.now in
    same_tracks flow defs c.push-2.new.self.items c.apply.new.self c.new.result.items 0 (Some [] ∷ []) c.in_ok-tracks.tracks c.in_ok-tracks.ensures
    (same_followed flow defs (Header One Chain ∷ Pass ∷ []) c.push-2.new.self.items c.apply.new.self [] c.new.result.items 0 (Some [] ∷ [])
    (c.in_ok-push-2.ensures.items
    ∙ ap (λ (ls : List Line). ls ++ Pass ∷ []) (c.in_ok-push.ensures.items ∙ ap (λ (ls : List Line). ls ++ Header One Chain ∷ []) c.new-lines.ensures.items))
    c.new.ensures.items
    (starts c.documents_are_followed.ensures flow defs c.requires.valid c.requires.no_loops c.start-proof.result c.apply.new.self c.start-proof.ensures c.in-Ok.ensures.applies))

pub returns-in-Ok-clause-covered : goal.returns-in-Ok-clause-covered
returns-in-Ok-clause-covered c =
    let flow = c.args.flow.now in
    let defs = c.args.defs.now in
    roots_covered flow defs c.apply.new.self
    (begins_with c.documents_are_followed.ensures flow defs c.requires.valid c.start-proof.result c.apply.new.self c.start-proof.ensures c.in-Ok.ensures.applies)

pub unreachable-requires : goal.unreachable-requires
unreachable-requires c =
    let told = subst (λ (f : ApplyFault). Applies Pass c.start-proof.result c.apply.new.self (Err f)) c.in-Err-Premise.field-0-is c.in-Err-Premise.ensures.applies in
    pass_is_taken c.documents_are_followed.ensures c.args.flow.now c.args.defs.now c.requires.valid c.start-proof.result _ c.requires.no_loops c.start-proof.ensures told.0
