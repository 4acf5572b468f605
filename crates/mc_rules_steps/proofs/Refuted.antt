-- Configurations that refute wrong rules.
use Rattle.std.proofs.Common.{◌≡◌, ◌≢◌, ◌<◌, ℕ, zero, suc, [], ◌∷◌, Some, None, refl, sym, ap, ◌∙◌, subst, arith, ℤ, pos, ◌+ℤ◌, ◌≤ℤ◌}
use Rattle.std.specs.FinMap as map
use Rattle.std.proofs.lemmas.Int.{ints}
use Rattle.mc_base.specs.declared.ids.PointId.{PointId}
use Rattle.mc_base.specs.declared.plain.FaultKind.TheVariants as faults
use Rattle.mc_base.specs.declared.text.place.Place.{Place}
use Rattle.mc_base.specs.Nodes.{Valuation}
use Rattle.mc_flow.specs.Runs as runs
use Rattle.mc_flow.specs.Heap.Access.{field_at}
use Rattle.mc_flow.specs.Heap.Choices as choice
use Rattle.mc_flow.specs.Heap.Heap.{Block, region_of}
use Rattle.mc_flow.specs.Defs.Examples.{defs, cell_id}
use Rattle.mc_flow.specs.Steps.{Config, set_to, found}
use Rattle.mc_flow.specs.Values.{wrapped}
use Rattle.mc_pure.specs.Examples.{node}
use Rattle.mc_state.specs.State.{State}
use Rattle.mc_state.specs.Stands.{StandsBy}
use Rattle.mc_rules_steps.specs.Next.{Next}
use Rattle.mc_rules_steps.specs.Steps.{moved_to}
use Rattle.mc_rules_steps.specs.Laws.{IsAt, IsAtSome}
use Rattle.mc_rules_steps.specs.Examples as ex
use Rattle.mc_rules_steps.specs.WrongRules.{LeadsOnFrom, unchecked_sum, kept_block, sure_malloc, unknown_load}
use Rattle.mc_rules_steps.proofs.ExampleRuns as go
use Rattle.mc_rules_steps.proofs.ExampleStates.{block_there, nothing_else, freed_there, heap_addresses, any_number_stands, at_one_cell}
use Rattle.mc_rules_steps.proofs.Parts.{both_free}
use Rattle.mc_rules_steps.proofs.Wrapping.{wrapped_int}

pub one_cell_at : (p : ℕ) → IsAt defs (ex.valuation (pos 5)) (ex.config p (pos 5)) (ex.at p) ex.one_cell
one_cell_at p = at_one_cell (pos 5) (omega (arith, ints)) (omega (arith, ints)) (ex.at p)

pub any_number_at : IsAt defs (ex.valuation (pos 2147483647)) (ex.config 4 (pos 2147483647)) (ex.at 4) ex.any_number
any_number_at = record { point = refl; addresses = heap_addresses; stands = any_number_stands (pos 2147483647) (omega (arith, ints), omega (arith, ints)) }

-- what stands at the one successor
stands_at_one : (d : Config) (q : PointId) (t : State) → IsAtSome defs d (moved_to q t ∷ []) → (w : Valuation) × StandsBy defs w d.vars (region_of d.heap) t
stands_at_one d q t (zero, n, w, there, no_goal, at) =
    let same : n ≡ moved_to q t = (let e : Some (moved_to q t) ≡ Some n = there in cc) in
    (w, subst (λ (m : Next). StandsBy defs w d.vars (region_of d.heap) m.state) same at.stands)
stands_at_one d q t (suc place, n, w, there, no_goal, at) = cc

less_differ : (a b : ℕ) → a < b → a ≢ b
less_differ a b lt e = let same : a ≡ b = e in omega arith

pub unchecked : LeadsOnFrom (ex.config 4 (pos 2147483647)) (unchecked_sum ex.z (node 2) (ex.at 5) ex.any_number) → ⊥
unchecked leads =
    let c = ex.config 4 (pos 2147483647) in
    let sum : ℤ = wrapped (pos 2147483648) in
    let some = leads [] (set_to ex.z (ex.at 5) c [] sum) refl in
    let s = ex.any_number in
    let st = stands_at_one _ (ex.at 5) _ some in
    let y_is : Some (pos 2147483647) ≡ Some (st.0 2) = st.1.vars.1.0 in
    let z_is : Some sum ≡ Some (st.0 3) = st.1.vars.1.1.0 in
    let y_value : pos 2147483647 ≡ st.0 2 = cc in
    let z_value : sum ≡ st.0 3 = cc in
    let written : st.0 3 ≡ st.0 2 +ℤ pos 1 = st.1.atoms.0 in
    let high : sum ≤ℤ pos 2147483647 = (wrapped_int (pos 2147483648)).1 in
    omega (arith, ints)

pub kept : LeadsOnFrom (ex.config 11 (pos 5)) (kept_block (ex.at 12) ex.one_cell) → ⊥
kept leads =
    let region = region_of (map.remove ex.heap 7) in
    let st = stands_at_one _ (ex.at 12) ex.one_cell (leads [] _ go.free) in
    let parts = st.1.parts in
    let x_is : Some (pos 7) ≡ Some (st.0 1) = st.1.vars.0 in
    let one = parts.each in
    let at : st.0 1 ≡ pos one.3.0 = one.3.1 in
    let address : pos 7 ≡ pos one.3.0 = cc in
    let seven : 7 ≡ one.3.0 = cc in
    let held = (both_free (region 7) (parts.held 7) (parts.rest 7) (parts.split.joins 7) freed_there).0 in
    let free : one.0 7 ≡ None = (both_free (parts.held 7) (one.0 7) (one.1 7) (one.2.joins 7) held).0 in
    let block : Block = record { shape = 0; fields = one.3.2.0 } in
    let clash : None ≡ Some block = sym free ∙ ap one.0 seven ∙ one.3.2.1.here in
    cc

pub sure : LeadsOnFrom (ex.config 9 (pos 5)) (sure_malloc ex.t cell_id (ex.at 10) ex.one_cell) → ⊥
sure leads =
    let region = region_of ex.heap in
    let st = stands_at_one _ (ex.at 10) _ (leads (choice.malloc 0 ∷ []) _ go.malloc_null) in
    let parts = st.1.parts in
    let t_is : Some (pos 0) ≡ Some (st.0 3) = st.1.vars.1.1.1.0 in
    let first = parts.each in
    let second = first.4 in
    let at : st.0 3 ≡ pos second.3.0 = second.3.1 in
    let address : pos 0 ≡ pos second.3.0 = cc in
    let null : 0 ≡ second.3.0 = cc in
    let held = (both_free (region 0) (parts.held 0) (parts.rest 0) (parts.split.joins 0) (nothing_else 0 (less_differ 0 7 (omega arith)))).0 in
    let others = (both_free (parts.held 0) (first.0 0) (first.1 0) (first.2.joins 0) held).1 in
    let free : second.0 0 ≡ None = (both_free (first.1 0) (second.0 0) (second.1 0) (second.2.joins 0) others).0 in
    let block : Block = record { shape = 0; fields = second.3.2.0 } in
    let clash : None ≡ Some block = sym free ∙ ap second.0 null ∙ second.3.2.1.here in
    cc

pub unknown : LeadsOnFrom (ex.config 18 (pos 5)) (unknown_load ex.z (ex.at 19) ex.one_cell) → ⊥
unknown leads =
    let place : Place = record { line = 1; column = 1 } in
    leads [] (runs.last (runs.fault faults.Uninit place)) (ap (λ o. found ex.z (ex.at 19) place (ex.config 18 (pos 5)) [] (field_at o 0 0)) (sym block_there))
