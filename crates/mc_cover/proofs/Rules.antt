-- What a rule gives in a guess is given in one way.
use Rattle.std.proofs.Common.{◌≡◌, ◌⊎◌, inl, inr, Bool, true, false, Option, Some, None, List, [], ◌∷◌, length, refl, ap, ◌∙◌, eq-eqb}
use Rattle.std.specs.Prelude.{◌==◌, ◌↔◌, if◌then◌else◌}
use Rattle.mc_base.specs.declared.ids.NodeId.{NodeId}
use Rattle.mc_base.specs.declared.ids.PredId.{PredId}
use Rattle.mc_flow.specs.declared.defs.rules.Call.{Call}
use Rattle.mc_flow.specs.declared.defs.rules.Def.{Def}
use Rattle.mc_flow.specs.declared.defs.rules.Rule.{Rule}
use Rattle.mc_state.specs.Graph.Graph.{Edges}
use Rattle.mc_state.specs.declared.terms.Term.{Term}
use Rattle.mc_state.specs.Guess.{Partial, given, give_all, begun, parameters_of, ByCall, ByCalls, ByRule}
use Rattle.mc_cover.specs.Guessed.{Guesses, after_call, after_calls, settled, given_by_rule}
use Rattle.mc_cover.proofs.Parts.{same_pred}
use Rattle.mc_cover.proofs.Settled.{settled_settles, settles_once}

-- this holds of one list, and of no other
abbrev pub IsThe : (List Term → Type 0) → List Term → Type 0
IsThe P x = (g : List Term) → P g ↔ (g ≡ x)

module _ (M : PredId → Term → Edges → List Term → Type 0) (F : Guesses) (pred : PredId) (es : Edges) where
  -- guesses with these edges are right
  abbrev pub IsRight : Type 0
  IsRight = (at : Term) → IsThe (M pred at es) (F pred at es)

  -- where there is a call at all
  abbrev pub IfAny : List Call → Type 0
  IfAny [] = Unit {0}
  IfAny (c ∷ cs) = IsRight

  any : (calls : List Call) → IsRight → IfAny calls
  any [] right = tt
  any (c ∷ cs) right = right

  call_to : (call : Call) (o : Option Term) (before : Partial) → IsRight → ByCall M pred es call o before (after_call F pred es call o before)
  call_to call None before right = refl
  call_to call (Some at) before right = (F pred at es, (right at (F pred at es)).1 refl, refl)

  call_from : (call : Call) (o : Option Term) (before after : Partial) → IsRight → ByCall M pred es call o before after → after ≡ after_call F pred es call o before
  call_from call None before after right e = e
  call_from call (Some at) before after right (ts, m, e) = e ∙ ap (give_all before call.args) ((right at ts).0 m)

  calls_to : (calls : List Call) (before : Partial) → IfAny calls → ByCalls M pred es calls before (after_calls F pred es calls before)
  calls_to [] before right = refl
  calls_to (call ∷ calls) before right = at (λ mid. calls_to calls mid (any calls right)) (call.pred.0 == pred.0) refl
    where
      at : ((mid : Partial) → ByCalls M pred es calls mid (after_calls F pred es calls mid)) → (b : Bool) → (call.pred.0 == pred.0) ≡ b → ByCalls M pred es (call ∷ calls) before (after_calls F pred es calls (if b then after_call F pred es call (given before call.at) before else before))
      at rest true is =
          let mid = after_call F pred es call (given before call.at) before in
          (mid, inl (same_pred call.pred pred is, call_to call (given before call.at) before right), rest mid)
      at rest false is =
          (before, inr ((λ e. clash (eq-eqb call.pred.0 pred.0 (ap (λ (p : PredId). p.0) e)) is), refl), rest before)
        where
          clash : {b : Bool} → b ≡ true → b ≡ false → ⊥
          clash p q = cc (p, q)

  calls_from : (calls : List Call) (before after : Partial) → IfAny calls → ByCalls M pred es calls before after → after ≡ after_calls F pred es calls before
  calls_from [] before after right e = e
  calls_from (call ∷ calls) before after right (mid, step, rest) =
      calls_from calls mid after (any calls right) rest ∙ ap (after_calls F pred es calls) (at (call.pred.0 == pred.0) refl step)
    where
      clash : {b : Bool} → b ≡ true → b ≡ false → ⊥
      clash p q = cc (p, q)

      at : (b : Bool) → (call.pred.0 == pred.0) ≡ b → ((call.pred ≡ pred × ByCall M pred es call (given before call.at) before mid) ⊎ ((call.pred ≡ pred → ⊥) × (mid ≡ before)))
          → mid ≡ (if b then after_call F pred es call (given before call.at) before else before)
      at true is (inl (e, c)) = call_from call (given before call.at) before mid right c
      at true is (inr (other, e)) = absurd (other (same_pred call.pred pred is))
      at false is (inl (e, c)) = absurd (clash (eq-eqb call.pred.0 pred.0 (ap (λ (p : PredId). p.0) e)) is)
      at false is (inr (other, e)) = e

  -- what a rule gives
  pub rule_is : (def : Def) (rule : Rule) (at : Term) (contents : List NodeId) → IfAny rule.calls → IsThe (ByRule M pred def rule at contents es) (given_by_rule F pred def rule at contents es)
  rule_is def rule at contents right g =
      let start = begun rule (length def.params) at contents in
      let mid = after_calls F pred es rule.calls start in
      (from, λ e. (mid, settled mid rule.atoms, calls_to rule.calls start right, settled_settles mid rule.atoms, e))
    where
      from : ByRule M pred def rule at contents es g → g ≡ given_by_rule F pred def rule at contents es
      from (mid, last, calls, settles, e) =
          let same = calls_from rule.calls (begun rule (length def.params) at contents) mid right calls in
          e
          ∙ (ap (λ l. parameters_of l 1 (length def.params)) (settles_once mid rule.atoms last settles)
          ∙ ap (λ l. parameters_of (settled l rule.atoms) 1 (length def.params)) same)
