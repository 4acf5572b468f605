-- There is no cover where no first one is found.
use Rattle.std.proofs.Common.{◌≡◌, ◌∙◌, ℕ, List, Bool, true, false, Option, Some, None, map, refl, sym, ap}
use Rattle.std.specs.Prelude.{◌↔◌, not, is_some, option_map}
use Rattle.mc_base.specs.declared.ids.NodeId.{NodeId}
use Rattle.mc_base.specs.declared.ids.PredId.{PredId}
use Rattle.mc_flow.specs.Defs.Conditions.{IsDefs}
use Rattle.mc_flow.specs.declared.defs.rules.Def.{Def}
use Rattle.mc_state.specs.Graph.Graph.{IdsAscend}
use Rattle.mc_state.specs.Known.{Test, Tells}
use Rattle.mc_state.specs.State.{State}
use Rattle.mc_state.specs.Terms.{plain}
use Rattle.mc_state.specs.declared.terms.Term.{Term}
use Rattle.mc_cover.specs.First.{Choice, first_cover}
use Rattle.mc_cover.specs.Laws.{NoFirstNoCover}
use Rattle.mc_gaps.specs.Lacking.Lacking.{HasNoCover}

-- what comes of nothing alone is nothing
none_from : {A B : Type 0} (f : A → B) (o : Option A) (none : Bool) → is_some o ≡ not none → none ≡ true → option_map f o ≡ None
none_from f None none told e = refl
none_from f (Some a) none told e = absurd (cc (told, ap not e))

none_to : {A B : Type 0} (f : A → B) (o : Option A) (none : Bool) → is_some o ≡ not none → option_map f o ≡ None → none ≡ true
none_to f None true told e = refl
none_to f None false told e = absurd (cc told)
none_to f (Some a) none told e = absurd (cc e)

pub is_uncovered : {A B : Type 0} → NoFirstNoCover → (know : Test) (defs : List Def) (s : State) (pred : PredId) (n : NodeId) (args : List NodeId) (at : Term) (terms : List Term) (high : ℕ)
    (f : B → Choice) (g : A → B) (found : Option A) (none : Bool)
    → IsDefs defs → Tells know s → IdsAscend 0 s.graph.edges high → at ≡ plain n → terms ≡ map plain args
    → option_map f (option_map g found) ≡ first_cover know defs pred at terms s.graph.edges → is_some found ≡ not none
    → (none ≡ true) ↔ HasNoCover defs s pred n args
is_uncovered law know defs s pred n args at terms high f g found none fit tells ascend own are first told =
    let both = law know defs s pred (plain n) (map plain args) s.graph.edges high fit tells ascend in
    let here : option_map f (option_map g found) ≡ first_cover know defs pred (plain n) (map plain args) s.graph.edges =
    first ∙ (ap (λ (t : Term). first_cover know defs pred t terms s.graph.edges) own ∙ ap (λ (ts : List Term). first_cover know defs pred (plain n) ts s.graph.edges) are) in (
      λ e. both.0 (sym here ∙ none_twice f g found none told e),
      λ no. none_twice_to f g found none told (here ∙ both.1 no),
    )
  where
    none_twice : {A B C : Type 0} (f : B → C) (g : A → B) (o : Option A) (none : Bool) → is_some o ≡ not none → none ≡ true → option_map f (option_map g o) ≡ None
    none_twice f g o none told e = ap (option_map f) (none_from g o none told e)

    none_twice_to : {A B C : Type 0} (f : B → C) (g : A → B) (o : Option A) (none : Bool) → is_some o ≡ not none → option_map f (option_map g o) ≡ None → none ≡ true
    none_twice_to f g None none told e = none_to g None none told refl
    none_twice_to f g (Some a) none told e = absurd (cc e)
