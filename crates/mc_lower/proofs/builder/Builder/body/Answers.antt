use Rattle.mc_lower.proofs.Readying.{entered_on}
use Rattle.mc_lower.specs.Knowns.{known}
use Rattle.std.proofs.Common.{refl, sym}
use Rattle.mc_lower.specs.Ready.{FitsAll, Ready}
use Rattle.std.proofs.Common.{[], ◌∷◌, None, map, ap, ◌∙◌, subst}
use Rattle.mc_semantics.specs.Resolved.Views.{function_of, statement_of, stmts_of}
use Rattle.mc_lower_spec.specs.Lowering.{LowersAll, in_body}
use Rattle.mc_lower.specs.declared.tasks.Context.{Context}
use Rattle.mc_lower.specs.declared.tasks.Task.{Task}
use Rattle.mc_lower.specs.Left.{around_of}
use Rattle.mc_lower.specs.Worlds.{stage_of}
use Rattle.mc_lower.proofs.Resting.{pushed}
use Rattle.mc_lower.proofs.builder.Builder.body.Goals as goal

pub returns-clause-leads : goal.returns-clause-leads
returns-clause-leads c = λ w agrees.
    let f = function_of c.args.entry.now in
    let out = w.out c.args.occurrence in
    let here : Context = record { function = c.args.entry; occurrence = c.args.occurrence; block = None; turns = None } in
    let t = Task.Statements c.as_slice.result here in
    let s = stage_of w c.args.self.now in
    let ran = c.in_ok-run.ensures.leads w agrees in
    let r = pushed w _ (t ∷ []) s (stage_of w c.run.new.self) (c.in_ok-push.ensures ∙ ap (λ l. t ∷ l) c.new-tasks.ensures) ran.1 in (
      ran.0,
      subst (λ x. LowersAll w.graph (in_body f out) f.body s x) r.2
          (subst (λ l. LowersAll w.graph (around_of w here) (stmts_of (map statement_of l)) s r.0) c.as_slice.ensures.value r.1),
    )

pub run-requires : goal.run-requires
run-requires c =
    let here : Context = record { function = c.args.entry; occurrence = c.args.occurrence; block = None; turns = None } in
    let t = Task.Statements c.as_slice.result here in
    subst (λ l. Ready (known c.args.self.now) l) (sym (c.in_ok-push.ensures ∙ ap (λ l. t ∷ l) c.new-tasks.ensures))
    (subst (λ l. FitsAll (known c.args.self.now) here (stmts_of (map statement_of l))) (sym c.as_slice.ensures.value) c.requires.fits, (known c.args.self.now, refl, λ s f. entered_on (known c.args.self.now).source (known c.args.self.now).waiting (known c.args.self.now).state s f.still c.requires.entered))
