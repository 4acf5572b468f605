-- What a search finds is what is first.
use Rattle.std.proofs.Common.{◌≡◌, ◌+◌, ◌≤◌, ℕ, List, Option, ap, subst, ◌∙◌}
use Rattle.mc_base.specs.declared.ids.EdgeId.{EdgeId}
use Rattle.mc_flow.specs.declared.defs.rules.Def.{Def}
use Rattle.mc_flow.specs.Defs.Conditions.{IsDefs}
use Rattle.mc_state.specs.Graph.Graph.{IdsAscend}
use Rattle.mc_state.specs.State.{State}
use Rattle.mc_state.specs.Known.{Test, Tells}
use Rattle.mc_shape_search.specs.Search.Search.{first_try}
use Rattle.mc_shape_search.specs.Tries.Stack.{enough}
use Rattle.mc_cover.specs.declared.goals.Goal.{Goal}
use Rattle.mc_cover.specs.declared.goals.Mark.{Mark}
use Rattle.mc_cover.specs.Goals.{Setting}
use Rattle.mc_cover.specs.First.{limit, first_marks}
use Rattle.mc_cover.specs.Laws.{NearIsFirst}
use Rattle.mc_cover.specs.Near.{near_space}
use Rattle.mc_cover.specs.Search.Setting.{setting}
use Rattle.mc_cover.specs.Search.Told.{IsTold, same_tests}
use Rattle.mc_cover.proofs.SearchLemmas.Asked.{settled, le_left, le_right}
use Rattle.mc_cover.proofs.SearchLemmas.Left.{others_ascend}

pub first_found : NearIsFirst → (s t : State) (defs ds : List Def) (used us : List EdgeId) (goal : Goal) (high : ℕ) → ((k : Test) × Tells k s) → (own : IsTold t) (found : Option (List Mark))
    → t ≡ s → ds ≡ defs → us ≡ used → IsDefs defs → IdsAscend 0 s.graph.edges high
    → ((n : ℕ) → enough ≤ n → found ≡ first_try (near_space (setting own.0 ds t us)) n goal)
    → (know : Test) → Tells know s → found ≡ first_marks (setting know defs s used) goal
first_found law s t defs ds used us goal high k own found states lists uses fit ascend finds know tells =
    let told = settled s k own.0 (subst (λ (x : State). ∥ Tells own.0 x ∥₁) states own.1) in
    let w = setting know defs s used in
    let n = enough + limit w in
    let same : setting own.0 ds t us ≡ w =
    ap (λ x. setting x ds t us) (same_tests own.0 know s told tells) ∙ (ap (λ x. setting know x t us) lists ∙ (ap (λ x. setting know defs x us) states ∙ ap (λ x. setting know defs s x) uses)) in
    finds n (le_left enough (limit w))
    ∙ (ap (λ (x : Setting). first_try (near_space x) n goal) same ∙ law w goal high n fit (others_ascend s.graph.edges high used ascend) (le_right enough (limit w)))
