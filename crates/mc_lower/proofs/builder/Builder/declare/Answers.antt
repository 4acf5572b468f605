use Rattle.mc_lower.proofs.Readying.{first_item, later_items, ready_left}
use Rattle.mc_lower.specs.Knowns.{known}
use Rattle.mc_lower.specs.Ready.{Ready, in_state}
use Rattle.mc_lower_spec.specs.Length.Lengths.{items_declared}
use Rattle.std.proofs.Common.{◌≡◌, ◌∷◌, arith, ◌-◌, List, length, map, take, drop, sym, ap, ◌∙◌, subst}
use Rattle.std.proofs.lemmas.List.{take_rest}
use Rattle.mc_semantics.specs.declared.resolved.program.Initial.{Initial as InitialCode}
use Rattle.mc_semantics.specs.Resolved.Views.{function_of, initial_of}
use Rattle.mc_lower_spec.specs.Lowering.{Declares, declares_none}
use Rattle.mc_lower.specs.Worlds.{stage_of}
use Rattle.mc_lower.proofs.Agreeing.{first_of, is_none}
use Rattle.mc_lower.proofs.Resting.{pushed}
use Rattle.mc_lower.proofs.builder.Builder.declare.Goals as goal

pub returns-clause-leads : goal.returns-clause-leads
returns-clause-leads c = λ w u agrees rest.
    let items : List InitialCode = c.args.items.now in
    let first = c.first-item.result in
    let more : List InitialCode = take (length items - 1) (drop 1 items) in
    let split : items ≡ first ∷ more =
    first_of items first c.in-len1-up.len_at_least c.first-item.is ∙ ap (λ (l : List InitialCode). first ∷ l) (sym (take_rest items 1)) in
    let r = c.in_ok-declare_one.ensures.leads w u agrees rest in
    let q = pushed w _ _ r.1.0 u c.in_ok-push.ensures r.1.2 in (
      r.0,
      (
        q.0,
        subst (λ l. Declares w.graph (function_of c.args.context.function.now) (w.out c.args.context.occurrence) c.args.place (map initial_of l) (stage_of w c.args.self.now) q.0) (sym split)
            (r.1.1 (map initial_of more) q.0 q.1),
        q.2,
      ),
    )

pub returns-in_default-clause-leads : goal.returns-in_default-clause-leads
returns-in_default-clause-leads c = λ w u agrees rest.
    let s = stage_of w c.args.self.now in
    let below = c.in_default.len_below in
    let count : length c.args.items.now ≡ 0 = omega arith in
    (agrees, (s, subst (λ l. Declares w.graph (function_of c.args.context.function.now) (w.out c.args.context.occurrence) c.args.place (map initial_of l) s s) (sym (is_none c.args.items.now count)) declares_none, rest))

pub declare_one-requires : goal.declare_one-requires
declare_one-requires c =
    let items : List InitialCode = c.args.items.now in
    let first = c.first-item.result in
    let more : List InitialCode = take (length items - 1) (drop 1 items) in
    let split : items ≡ first ∷ more =
    first_of items first c.in-len1-up.len_at_least c.first-item.is ∙ ap (λ (l : List InitialCode). first ∷ l) (sym (take_rest items 1)) in
    first_item _ _ _ c.args.context first items more split c.requires

pub returns-clause-ready : goal.returns-clause-ready
returns-clause-ready c = λ later.
    let items : List InitialCode = c.args.items.now in
    let first = c.first-item.result in
    let more : List InitialCode = take (length items - 1) (drop 1 items) in
    let split : items ≡ first ∷ more =
    first_of items first c.in-len1-up.len_at_least c.first-item.is ∙ ap (λ (l : List InitialCode). first ∷ l) (sym (take_rest items 1)) in
    c.in_ok-declare_one.ensures.ready
    (λ s f. subst (λ l. Ready (in_state (known c.args.self.now) s) l) (sym c.in_ok-push.ensures) (later_items _ _ _ c.args.context c.args.place first items (record { ref_ptr = (0, 0); now = more }) c.args.tasks.now split c.requires later s f))

pub returns-in_default-clause-ready : goal.returns-in_default-clause-ready
returns-in_default-clause-ready c = λ later.
    let below = c.in_default.len_below in
    let count : length c.args.items.now ≡ 0 = omega arith in
    ready_left _ _ _ c.args.context.occurrence _ c.args.tasks.now (ap (λ l. items_declared (map initial_of l)) (is_none c.args.items.now count)) later
