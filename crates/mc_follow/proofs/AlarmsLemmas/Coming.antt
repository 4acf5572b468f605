-- How many branches come of a line.
use Rattle.std.proofs.Common.{◌≡◌, ◌+◌, ◌∙◌, ℕ, suc, List, [], ◌∷◌, Bool, true, false, Option, Some, if◌then◌else◌, flat_map, length, map, option_map, refl, slice_get, sym, ap, ap₂}
use Rattle.std.specs.Prelude.{◌==◌, unwrap_or}
use Rattle.std.proofs.lemmas.List.{length-append, length-map}
use Rattle.mc_base.specs.declared.ids.PredId.{PredId}
use Rattle.mc_flow.specs.declared.defs.rules.Call.{Call}
use Rattle.mc_flow.specs.declared.defs.rules.Def.{Def}
use Rattle.mc_flow.specs.declared.defs.rules.Rule.{Rule}
use Rattle.mc_flow.specs.declared.graph.Flow.{Flow}
use Rattle.mc_state.specs.declared.line.InstrRule.{InstrRule}
use Rattle.mc_state.specs.declared.line.InstrRule.TheVariants as step
use Rattle.mc_state.specs.State.{State}
use Rattle.mc_rules_logic.specs.Unfold.Unfolded.{own_places}
use Rattle.mc_lines.specs.declared.cert.line.Line.{Line}
use Rattle.mc_lines.specs.declared.cert.line.Line.TheVariants as line
use Rattle.mc_kernel.specs.Branches.{Path, Setting, path_of}
use Rattle.mc_kernel.specs.Instances.{IsInstance, ByStep}
use Rattle.mc_follow.specs.Alarms.Tracks.{come, own_calls, own_calls_in, rules_of, step_count, unfold_count}

-- ---- unfolded edges

places_are : (pred : PredId) (place : ℕ) (calls : List Call) → length (own_places pred place calls) ≡ own_calls pred calls
places_are pred place [] = refl
places_are pred place (call ∷ calls) = by (places_are pred (suc place) calls) (call.pred.0 == pred.0)
  where
    by : length (own_places pred (suc place) calls) ≡ own_calls pred calls → (b : Bool) → length (if b then place ∷ own_places pred (suc place) calls else own_places pred (suc place) calls) ≡ (if b then suc (own_calls pred calls) else own_calls pred calls)
    by more true = ap suc more
    by more false = more

-- a state for each call of the predicate
opened_are : (pred : PredId) (made : Rule → ℕ → State) (rules : List Rule)
    → length (flat_map (λ rule. map (made rule) (own_places pred 0 rule.calls)) rules) ≡ own_calls_in pred rules
opened_are pred made [] = refl
opened_are pred made (rule ∷ rules) =
    length-append (map (made rule) (own_places pred 0 rule.calls)) (flat_map (λ rule. map (made rule) (own_places pred 0 rule.calls)) rules)
    ∙ ap₂ (λ (m n : ℕ). m + n) (length-map (own_places pred 0 rule.calls) (made rule) ∙ places_are pred 0 rule.calls) (opened_are pred made rules)

rules_are : (defs : List Def) (pred : PredId) (def : Def) → slice_get defs pred.0 ≡ Some def → rules_of defs pred ≡ def.rules
rules_are defs pred def e = ap (λ (d : Option Def). unwrap_or (option_map (λ (d : Def). d.rules) d) []) e

-- as many branches as states
states_are : {A : Type 0} (f : A → Path) (next : List Path) (states : List A) (n : ℕ) → next ≡ map f states → length states ≡ n → length next ≡ n
states_are f next states n e count = ap (λ (bs : List Path). length bs) e ∙ length-map states f ∙ count

module _ (flow : Flow) (defs : List Def) (g : Setting) (b : Path) (next : List Path) where
  steps_are : (r : InstrRule) → ByStep r flow g b next → length next ≡ step_count r
  steps_are step.S1 i = states_are path_of next i.1.0 1 i.1.2 (ap length i.1.1.gives)
  steps_are step.S2 i = states_are path_of next i.1.0 1 i.1.2 (ap length i.1.1.gives)
  steps_are step.S3 i = states_are path_of next i.1.0 1 i.1.2 (ap length i.1.1.gives)
  steps_are step.S4 i = states_are path_of next i.1.0 1 i.1.2 (ap length i.1.1.gives)
  steps_are step.S5 i = states_are path_of next i.1.0 1 i.1.2 (ap length i.1.1.computes.gives)
  steps_are step.S6 i = states_are path_of next i.1.0 1 i.1.2 (ap length i.1.1.computes.gives)
  steps_are step.S7 i = states_are path_of next i.1.0 1 i.1.2 (ap length i.1.1.computes.gives)
  steps_are step.S8 i = states_are path_of next i.1.0 1 i.1.2 (ap length i.1.1.gives)
  steps_are step.S9 i = states_are path_of next i.1.0 1 i.1.2 (ap length i.1.1.gives)
  steps_are step.S10 i = states_are path_of next i.1.0 2 i.1.2 (ap length i.1.1.gives)
  steps_are step.S11 i = states_are path_of next i.1.0 1 i.1.2 (ap length i.1.1.gives)
  steps_are step.S12 i = states_are path_of next i.1.0 1 i.1.2 (ap length i.1.1.gives)
  steps_are step.S13 i = states_are path_of next i.1.0 2 i.1.2 (ap length i.1.1.gives)
  steps_are step.S14 i = states_are path_of next i.1.0 2 i.1.2 (ap length i.1.1.gives)
  steps_are step.S15 i = states_are path_of next i.1.0 1 i.1.2 (ap length i.1.1.gives)
  steps_are step.S16 i = states_are path_of next i.1.0 2 i.1.2 (ap length i.1.1.gives)
  steps_are step.S17 i = states_are path_of next i.1.0 0 i.1.2 (ap length i.1.1.gives)
  steps_are step.S18 i = states_are path_of next i.1.0 1 i.1.2 (ap length i.1.1.gives)

  pub count_is : (l : Line) → IsInstance flow defs g l b next → length next ≡ come defs b.state l
  count_is (line.Step r) i = steps_are r i
  count_is (line.L1 id) i =
      let u = i.1.1 in
      states_are _ next i.1.0 _ i.1.2 (ap length u.gives ∙ length-map u.def.rules _ ∙ sym (ap (λ (rules : List Rule). length rules) (rules_are defs u.pred u.def u.defined))
      ∙ sym (ap (unfold_count defs) u.there))
  count_is (line.L2 id) i =
      let u = i.1.1 in
      states_are _ next i.1.0 _ i.1.2 (ap length u.gives ∙ ap suc (opened_are u.pred _ u.def.rules ∙ sym (ap (own_calls_in u.pred) (rules_are defs u.pred u.def u.defined)))
      ∙ sym (ap (unfold_count defs) u.there))
  count_is (line.L15 id) i =
      let u = i.1.1 in
      states_are _ next i.1.0 _ i.1.2 (ap length u.gives ∙ ap suc (opened_are u.pred _ u.back.def.rules ∙ sym (ap (own_calls_in u.pred) (rules_are defs u.pred u.back.def u.back.defined)))
      ∙ sym (ap (unfold_count defs) u.there))
  count_is (line.L3 fold) i = states_are _ next i.0 1 i.2 (ap length i.1.gives)
  count_is (line.L4 fold) i = states_are _ next i.0 1 i.2 (ap length i.1.gives)
  count_is (line.L5 first second) i = states_are _ next i.0 1 i.2 (ap length i.1.gives)
  count_is (line.L6 first second) i = states_are _ next i.0 1 i.2 (ap length i.1.gives)
  count_is (line.L7 pred at args stop ends) i = states_are _ next i.0 1 i.2 (ap length i.1.gives)
  count_is (line.L8 node add kind) i = states_are _ next i.0 1 i.2 (ap length i.1.gives)
  count_is (line.L9 keep gone) i = states_are _ next i.0 1 i.2 (ap length i.1.gives)
  count_is (line.L10 edge) i = states_are _ next i.0 1 i.2 (ap length i.1.gives)
  count_is (line.L11 node) i = states_are _ next i.1.0 1 i.1.2 (ap length i.1.1.gives)
  count_is line.L12 i = ap length i.2
  count_is (line.L13 j images edges) i = ap length i.gives
  count_is (line.L14 edge) i = ap length i.gives
  count_is line.C1 i = ap length i.gives
  count_is (line.Header version form) i = absurd i
  count_is (line.Cut p) i = absurd i
  count_is (line.Head p raw) i = absurd i
  count_is line.Pass i = absurd i
  count_is line.End i = absurd i
  count_is (line.C2 tries) i = absurd i
  count_is (line.C3 j steps) i = absurd i
