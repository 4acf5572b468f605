-- A step that assumes or asserts a shape.
use Rattle.std.proofs.Common.{◌≡◌, ◌∙◌, inl, inr, ℕ, ℤ, List, [], ◌∷◌, Bool, true, false, Option, Some, None, refl, sym, ap, subst}
use Rattle.std.specs.Prelude.{if◌then◌else◌, ◌==◌}
use Rattle.std.specs.List.{list_any}
use Rattle.mc_base.specs.declared.ids.PredId.{PredId}
use Rattle.mc_base.specs.declared.plain.FaultKind.TheVariants.{Uninit, Shape}
use Rattle.mc_flow.specs.Runs.{next, last, fault}
use Rattle.mc_base.specs.declared.text.place.Place.{Place}
use Rattle.mc_flow.specs.Heap.Choices.{Choice, shape}
use Rattle.mc_flow.specs.Heap.Heap.{Block, Heap, Region, region_of}
use Rattle.mc_flow.specs.Heap.Parts.{IsEmpty, Joins}
use Rattle.std.specs.FinMap as maps
use Rattle.std.specs.FinMap.{empty_of_len, get-empty, len-empty, nat_cmp-IsAntisymmetric, same_map}
use Rattle.std.specs.Cmp.{nat_cmp_total}
use Rattle.std.specs.Ordering.{nat_cmp}
use Rattle.mc_flow.specs.declared.defs.rules.Def.{Def}
use Rattle.mc_flow.specs.declared.defs.shapes.StructInfo.{StructInfo}
use Rattle.mc_flow.specs.Defs.Meaning.{HoldsSomewhere}
use Rattle.mc_semantics.specs.Waiting.Requests.{Request, a_shape}
use Rattle.mc_semantics.specs.Resolved.Configs.{Config, Result, Tasks, Values}
use Rattle.mc_semantics.specs.Resolved.Steps.{Asserts, Assumes, Here}
use Rattle.mc_shape_search.specs.Sat.Answers.{AreMeeting, region_at}
use Rattle.mc_run_values.specs.Script.Scripts.{Answers, chosen}
use Rattle.mc_run_values.specs.declared.values.refusal.Refusal.{Refusal}
use Rattle.mc_run_values.specs.Values.Taking.{IsRefused}
use Rattle.mc_run_values.proofs.ValuesLemmas.Answering.{choice_refused, one_taken}
use Rattle.mc_run.specs.declared.outcome.End.TheVariants as ends
use Rattle.mc_run.specs.declared.outcome.Stepped.{Stepped}
use Rattle.mc_run.specs.declared.outcome.Stepped.TheVariants as steps
use Rattle.mc_run.specs.Adding.{IsAdded}
use Rattle.mc_run.specs.Steps.{IsStep}
use Rattle.mc_run.proofs.Changing.{at_config}

module _ (structs : List StructInfo) (defs : List Def) (predicate : PredId) (tasks : Tasks) (values : Values) (heap : Heap) (x : ℕ) (place : Place) (args : Option (List ℤ)) where
  abbrev h : Here
  h = record { values = values; heap = heap }

  abbrev Does : List Choice → Result → Type 0
  Does choices r = Assumes defs predicate h x tasks place choices args r

  abbrev Asks : List Choice → Request → List Choice → Type 0
  Asks choices request left = (vs : List ℤ) × (args ≡ Some vs) × (request ≡ a_shape defs predicate vs heap) × (left ≡ choices)

  pub assume_faults : (c : Config) (lines : List (List ℕ)) → args ≡ None → IsStep structs Does Asks lines (steps.Ends (ends.Fault Uninit place)) c lines
  assume_faults c lines is =
      let P : Option (List ℤ) → Type 0 = λ o. (rest : List Choice) → Assumes defs predicate h x tasks place rest o (last (fault Uninit place)) in
      ([], refl, subst P (sym is) (λ rest. refl))

  pub assume_refused : (vs : List ℤ) (why : Refusal) (c : Config) (old new : List (List ℕ)) → args ≡ Some vs → IsRefused structs (a_shape defs predicate vs heap) old why new → IsStep structs Does Asks old (steps.Unanswered why) c new
  assume_refused vs why c old new is refused = (a_shape defs predicate vs heap, (old, ([], refl, λ rest. (vs, is, refl, refl)), refused))

  pub assume_added : (vs : List ℤ) (v : ℤ) (blocks : List (ℕ × Block)) (stepped : Stepped) (c : Config) (old new : List (List ℕ)) → args ≡ Some vs → Answers structs old (chosen (shape v blocks)) new
      → IsAdded defs predicate vs x (at_config tasks values heap) v blocks stepped c → IsStep structs Does Asks old stepped c new
  assume_added vs v blocks steps.Goes c old new is answers added =
      let P : Option (List ℤ) → Type 0 = λ o. (rest : List Choice) → Assumes defs predicate h x tasks place (shape v blocks ∷ rest) o (next c rest) in
      (shape v blocks ∷ [], one_taken structs old new (shape v blocks) answers, subst P (sym is) (λ rest. (added.0.0, added.0.1, ap (λ (d : Config). next d rest) added.1)))
  assume_added vs v blocks (steps.Unanswered why) c old new is answers added =
      let P : Refusal → Type 0 = λ w. IsRefused structs (a_shape defs predicate vs heap) old w new in
      assume_refused vs why c old new is (subst P (sym added.0) (choice_refused structs (a_shape defs predicate vs heap) old new (shape v blocks) answers added.1))
  assume_added vs v blocks (steps.Ends f) c old new is answers added = absurd added
  assume_added vs v blocks steps.Stuck c old new is answers added = absurd added

-- ---- asserted shapes
-- what a heap has elsewhere
abbrev region_without : Region → List ℕ → Region
region_without region addresses at = if list_any (λ own. own == at) addresses then None else region at

joins_apart : (b : Bool) (o : Option Block) → Joins o (if b then o else None) (if b then None else o)
joins_apart true None = refl
joins_apart true (Some block) = refl
joins_apart false o = refl

pub somewhere : (defs : List Def) (predicate : PredId) (v : ℤ) (args : List ℤ) (heap : Heap) (addresses : List ℕ) → AreMeeting defs predicate v args heap addresses → HoldsSomewhere defs predicate v args (region_of heap)
somewhere defs predicate v args heap addresses m = (
  region_at (region_of heap) addresses,
  region_without (region_of heap) addresses,
  record { joins = λ at. joins_apart (list_any (λ own. own == at) addresses) (region_of heap at) },
  m.meets,
)

module _ (defs : List Def) (predicate : PredId) (tasks : Tasks) (values : Values) (heap : Heap) (place : Place) (start : Option ℤ) (args : Option (List ℤ)) (choices : List Choice) where
  abbrev there : Here
  there = record { values = values; heap = heap }

  pub assert_starts_nowhere : start ≡ None → Asserts defs predicate there tasks place choices start args (last (fault Uninit place))
  assert_starts_nowhere is =
      let P : Option ℤ → Type 0 = λ o. Asserts defs predicate there tasks place choices o args (last (fault Uninit place)) in
      subst P (sym is) refl

  pub assert_faults : (v : ℤ) → start ≡ Some v → args ≡ None → Asserts defs predicate there tasks place choices start args (last (fault Uninit place))
  assert_faults v is none =
      let P : Option ℤ → Type 0 = λ o. Asserts defs predicate there tasks place choices o args (last (fault Uninit place)) in
      let Q : Option (List ℤ) → Type 0 = λ o. Asserts defs predicate there tasks place choices (Some v) o (last (fault Uninit place)) in
      subst P (sym is) (subst Q (sym none) refl)

  pub assert_holds : (v : ℤ) (vs : List ℤ) → start ≡ Some v → args ≡ Some vs → HoldsSomewhere defs predicate v vs (region_of heap)
      → Asserts defs predicate there tasks place choices start args (next (at_config tasks values heap) choices)
  assert_holds v vs is all holds =
      let P : Option ℤ → Type 0 = λ o. Asserts defs predicate there tasks place choices o args (next (at_config tasks values heap) choices) in
      let Q : Option (List ℤ) → Type 0 = λ o. Asserts defs predicate there tasks place choices (Some v) o (next (at_config tasks values heap) choices) in
      subst P (sym is) (subst Q (sym all) (inl (holds, refl)))

  pub assert_fails : (v : ℤ) (vs : List ℤ) → start ≡ Some v → args ≡ Some vs → (¬ HoldsSomewhere defs predicate v vs (region_of heap))
      → Asserts defs predicate there tasks place choices start args (last (fault Shape place))
  assert_fails v vs is all never =
      let P : Option ℤ → Type 0 = λ o. Asserts defs predicate there tasks place choices o args (last (fault Shape place)) in
      let Q : Option (List ℤ) → Type 0 = λ o. Asserts defs predicate there tasks place choices (Some v) o (last (fault Shape place)) in
      subst P (sym is) (subst Q (sym all) (inr (never, refl)))

-- ---- nothing is allocated
pub nothing_there : (heap : Heap) → maps.len heap ≡ 0 → IsEmpty (region_of heap)
nothing_there heap is = record { none = λ at. ap (λ (m : Heap). region_of m at) (empty_of_len heap is) ∙ get-empty nat_cmp at }

pub something_there : (heap : Heap) → (maps.len heap ≡ 0 → ⊥) → IsEmpty (region_of heap) → ⊥
something_there heap some none =
    let same : heap ≡ maps.empty = same_map nat_cmp_total nat_cmp-IsAntisymmetric heap maps.empty (λ q. none.none q ∙ sym (get-empty nat_cmp q)) in
    some (ap (λ (m : Heap). maps.len m) same ∙ len-empty nat_cmp Block)
