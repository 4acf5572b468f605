use Rattle.std.proofs.Common.{[], ◌∷◌}
use Rattle.mc_lower.specs.declared.lines.Awaited.{Awaited}
use Rattle.mc_lower.proofs.Readying.{nobody_answered}
use Rattle.std.proofs.Common.{◌≡◌, ◌<◌, Some, None, ap, refl, subst, sym, ◌∙◌}
use Rattle.std.specs.Prelude.{slice_get}
use Rattle.mc_lower.specs.declared.tasks.Context.{Context}
use Rattle.mc_lower.specs.Knowns.{known, with_occurrence}
use Rattle.mc_lower.specs.Ready.{functions_in, with_awaited}
use Rattle.mc_lower.proofs.Readying.{entry_begins, main_answered, source_awaited}
use Rattle.std.proofs.Common.{length, ap, sym, subst}
use Rattle.mc_semantics.specs.Resolved.Views.{function_of}
use Rattle.mc_lower_spec.specs.Lowering.{Answers}
use Rattle.mc_lower.specs.Worlds.{stage_of}
use Rattle.mc_lower.proofs.Entering.{entry_made}
use Rattle.mc_lower.proofs.builder.Builder.make_entry.Goals as goal

pub returns : goal.returns
returns c = λ w agrees.
    let ended = c.in_ok-end.ensures w agrees in
    let fallen = c.in_ok-fall.ensures.leads w ended.0 in
    let lowered = c.in_ok-body.ensures.leads w fallen.0 in
    let begun = c.in_ok-begin.ensures.leads w lowered.0 in
    let occurred = c.in_ok-occurrence.ensures.leads w begun.0 in
    let skipped = c.in_ok-skip.ensures.leads w occurred.0 in
    let f = function_of c.args.entry.now in
    let out = w.out c.in_ok-occurrence.occurrence in
    let answered = subst (λ s. Answers w.graph out f.result s (stage_of w c.begin.new.self)) (sym occurred.1) begun.1 in
    let made = entry_made w.graph f out _ _ _ _ _ _ _ _ _ _ (ap (λ l. length l) c.requires.no_points) (ap (λ l. length l) c.requires.no_variables) skipped.1 answered lowered.1 fallen.1 ended.1 in
    (skipped.0, out, made.0, made.1)

pub body-requires-clause-fits : goal.body-requires-clause-fits
body-requires-clause-fits c =
    let first = c.in_ok-occurrence.ensures.last ∙ ap (λ k. k.state.occurrences) c.in_ok-skip.ensures.same ∙ c.requires.no_occurrences in
    let is = c.in_ok-begin.ensures.same ∙ ap (λ k. with_awaited c.in_ok-occurrence.occurrence c.args.entry.now.result k) (c.in_ok-occurrence.ensures.same ∙ ap (λ k. with_occurrence k) c.in_ok-skip.ensures.same) in
    let e : Context = record { function = c.args.entry; occurrence = c.in_ok-occurrence.occurrence; block = None; turns = None } in
    let both = entry_begins (known c.args.self.now) (known c.begin.new.self) e c.requires.sound c.requires.no_owners c.requires.no_occurrences c.requires.none_waits c.requires.there first refl refl is in both.0

pub body-requires-clause-entered : goal.body-requires-clause-entered
body-requires-clause-entered c =
    let first = c.in_ok-occurrence.ensures.last ∙ ap (λ k. k.state.occurrences) c.in_ok-skip.ensures.same ∙ c.requires.no_occurrences in
    let is = c.in_ok-begin.ensures.same ∙ ap (λ k. with_awaited c.in_ok-occurrence.occurrence c.args.entry.now.result k) (c.in_ok-occurrence.ensures.same ∙ ap (λ k. with_occurrence k) c.in_ok-skip.ensures.same) in
    let e : Context = record { function = c.args.entry; occurrence = c.in_ok-occurrence.occurrence; block = None; turns = None } in
    let both = entry_begins (known c.args.self.now) (known c.begin.new.self) e c.requires.sound c.requires.no_owners c.requires.no_occurrences c.requires.none_waits c.requires.there first refl refl is in both.1

pub fall-requires : goal.fall-requires
fall-requires c =
    let first = c.in_ok-occurrence.ensures.last ∙ ap (λ k. k.state.occurrences) c.in_ok-skip.ensures.same ∙ c.requires.no_occurrences in
    let is = c.in_ok-begin.ensures.same ∙ ap (λ k. with_awaited c.in_ok-occurrence.occurrence c.args.entry.now.result k) (c.in_ok-occurrence.ensures.same ∙ ap (λ k. with_occurrence k) c.in_ok-skip.ensures.same) in
    let same = source_awaited (known c.args.self.now) (known c.begin.new.self) (known c.body.new.self) _ _ c.in_ok-body.ensures.source is in
    main_answered (known c.body.new.self) (function_of c.args.entry.now) c.in_ok-occurrence.occurrence c.in_ok-body.ensures.entered
    (subst (λ s. slice_get (functions_in s) s.program.entry ≡ Some (function_of c.args.entry.now)) (sym same) c.requires.there) first

pub end-requires-clause-occurs : goal.end-requires-clause-occurs
end-requires-clause-occurs c =
    let first = c.in_ok-occurrence.ensures.last ∙ ap (λ k. k.state.occurrences) c.in_ok-skip.ensures.same ∙ c.requires.no_occurrences in
    subst (λ k. c.in_ok-occurrence.occurrence < k.state.occurrences) (sym c.in_ok-fall.ensures.same)
    (subst (λ i. i < (known c.body.new.self).state.occurrences) (sym first) c.in_ok-body.ensures.entered.0)

pub begin-requires : goal.begin-requires
begin-requires c = λ found.
    nobody_answered (known c.args.self.now) (known c.occur.new.self) c.in_ok-occurrence.occurrence c.requires.no_owners (c.in_ok-occurrence.ensures.same ∙ ap (λ k. with_occurrence k) c.in_ok-skip.ensures.same) found

pub end-requires-clause-waits : goal.end-requires-clause-waits
end-requires-clause-waits c =
    let first = c.in_ok-occurrence.ensures.last ∙ ap (λ k. k.state.occurrences) c.in_ok-skip.ensures.same ∙ c.requires.no_occurrences in
    ap (λ k. k.waiting) c.in_ok-fall.ensures.same ∙ c.in_ok-body.ensures.entered.2 ∙ ap (λ i. Awaited.Out i ∷ []) (sym first)
