-- Premises that are unmet at the states of the small flow graph.
use Rattle.std.proofs.Common.{◌≡◌, [], ◌∷◌, Bool, true, false, Some, refl, arith, inl, inr, pos, ◌+ℤ◌}
use Rattle.std.specs.Prelude.{not}
use Rattle.std.specs.Int.{int_wrap}
use Rattle.std.proofs.lemmas.Int.{ints}
use Rattle.mc_base.specs.declared.plain.Atom.TheVariants.{Eq, In}
use Rattle.mc_base.specs.declared.plain.Kind.TheVariants.{Ptr}
use Rattle.mc_base.specs.Nodes.{null}
use Rattle.mc_flow.specs.Heap.Heap.{region_of}
use Rattle.mc_flow.specs.Defs.Examples.{defs, cell_id}
use Rattle.mc_state.specs.BackExamples as back
use Rattle.mc_state.specs.Told.{BackIsTold}
use Rattle.mc_state.specs.Known.{Test, Tells, is_false, equal}
use Rattle.mc_state.proofs.Tests.{is_sound, equal_from, equal_to}
use Rattle.mc_pure.specs.Derived.{itself}
use Rattle.mc_pure.specs.Examples.{node}
use Rattle.mc_state.specs.Laws.{DerivedIsTrue, NoneStandsForFalse}
use Rattle.mc_state.specs.State.{with_var}
use Rattle.mc_rules_steps.specs.Examples as ex
use Rattle.mc_rules_steps.specs.JudgedExamples.{Gives, GivesByRanges, IsFirstUnmet, with_segment, without_x, without_y, known_result, only, greatest, least}
use Rattle.mc_state.specs.declared.line.InstrRule.TheVariants as rule
use Rattle.mc_rules_steps.specs.Steps.{moved_to}
use Rattle.mc_rules_steps.specs.Sums.{sum, difference}
use Rattle.mc_rules_steps.specs.Unmet.{LacksBlock}
use Rattle.mc_rules_steps.proofs.ExampleStates.{heap_addresses, one_cell_stands}
use Rattle.mc_rules_steps.proofs.ExampleSteps.{one_cell_sound, no_cell_sound, not_whole_sound}

-- another instruction stands at point 0
pub other : IsFirstUnmet rule.S8 (ex.at 0) ex.one_cell 1
other know range tells = refl

module _ (law : NoneStandsForFalse) where
  pub copied : IsFirstUnmet rule.S2 (ex.at 19) ex.one_cell 3
  copied know range tells = let sound : not (is_false know) ≡ true = is_sound know ex.one_cell tells (one_cell_sound law) in rw sound refl

  pub added : IsFirstUnmet rule.S5 (ex.at 4) without_y 3
  added know range tells = let sound : not (is_false know) ≡ true = is_sound know without_y tells (one_cell_sound law) in rw sound refl

  pub compared : IsFirstUnmet rule.S13 (ex.at 12) without_x 3
  compared know range tells = let sound : not (is_false know) ≡ true = is_sound know without_x tells (one_cell_sound law) in rw sound refl

  pub not_whole : IsFirstUnmet rule.S18 (ex.at 16) ex.not_whole 3
  not_whole know range tells = let sound : not (is_false know) ≡ true = is_sound know ex.not_whole tells (not_whole_sound law) in rw sound refl

  pub not_empty : IsFirstUnmet rule.S18 (ex.at 16) ex.one_cell 4
  not_empty know range tells = let sound : not (is_false know) ≡ true = is_sound know ex.one_cell tells (one_cell_sound law) in rw sound refl

  pub base : IsFirstUnmet rule.S8 (ex.at 7) without_x 3
  base know range tells = let sound : not (is_false know) ≡ true = is_sound know without_x tells (one_cell_sound law) in rw sound refl

  pub block : IsFirstUnmet rule.S8 (ex.at 7) ex.no_cell 4
  block know range tells = let sound : not (is_false know) ≡ true = is_sound know ex.no_cell tells (no_cell_sound law) in rw sound refl

  -- node 1 is itself
  same : (know : Test) → Tells know ex.one_cell → equal know (node 1) (node 1) ≡ true
  same know tells = equal_to know ex.one_cell tells (node 1) (node 1) (inl (itself (Ptr, inr refl)))

  pub field : IsFirstUnmet rule.S8 (ex.at 18) ex.one_cell 5
  field know range tells =
      let sound : not (is_false know) ≡ true = is_sound know ex.one_cell tells (one_cell_sound law) in
      let here : equal know (node 1) (node 1) ≡ true = same know tells in
      rw sound (rw here refl)

  -- ---- what is given

  pub sums : GivesByRanges rule.S5 (ex.at 4) ex.one_cell ex.after_sum
  sums know range tells y one = let sound : not (is_false know) ≡ true = is_sound know ex.one_cell tells (one_cell_sound law) in rw sound (rw y (rw one refl))

  pub differences : GivesByRanges rule.S6 (ex.at 5) ex.one_cell ex.after_difference
  differences know range tells y one = let sound : not (is_false know) ≡ true = is_sound know ex.one_cell tells (one_cell_sound law) in rw sound (rw y (rw one refl))

  pub products : GivesByRanges rule.S7 (ex.at 6) ex.one_cell ex.after_product
  products know range tells y one = let sound : not (is_false know) ≡ true = is_sound know ex.one_cell tells (one_cell_sound law) in rw sound (rw y (rw one refl))

  pub load : Gives rule.S8 (ex.at 7) ex.one_cell (moved_to (ex.at 8) (with_var ex.one_cell ex.t (Some null)) ∷ [])
  load know range tells =
      let sound : not (is_false know) ≡ true = is_sound know ex.one_cell tells (one_cell_sound law) in
      let here : equal know (node 1) (node 1) ≡ true = same know tells in
      rw sound (rw here refl)

  pub store : Gives rule.S9 (ex.at 8) ex.one_cell ex.after_store
  store know range tells =
      let sound : not (is_false know) ≡ true = is_sound know ex.one_cell tells (one_cell_sound law) in
      let here : equal know (node 1) (node 1) ≡ true = same know tells in
      rw sound (rw here refl)

  pub malloc : Gives rule.S10 (ex.at 9) ex.one_cell ex.after_malloc
  malloc know range tells = let sound : not (is_false know) ≡ true = is_sound know ex.one_cell tells (one_cell_sound law) in rw sound refl

  pub free : Gives rule.S12 (ex.at 11) ex.one_cell ex.after_free
  free know range tells =
      let sound : not (is_false know) ≡ true = is_sound know ex.one_cell tells (one_cell_sound law) in
      let here : equal know (node 1) (node 1) ≡ true = same know tells in
      rw sound (rw here refl)

  pub at_most : GivesByRanges rule.S14 (ex.at 13) ex.one_cell ex.after_at_most
  at_most know range tells y one = let sound : not (is_false know) ≡ true = is_sound know ex.one_cell tells (one_cell_sound law) in rw sound (rw y (rw one refl))

  pub assume : Gives rule.S15 (ex.at 14) ex.one_cell ex.after_assume
  assume know range tells = let sound : not (is_false know) ≡ true = is_sound know ex.one_cell tells (one_cell_sound law) in rw sound refl

  pub assert' : Gives rule.S16 (ex.at 15) ex.one_cell ex.after_assert
  assert' know range tells = let sound : not (is_false know) ≡ true = is_sound know ex.one_cell tells (one_cell_sound law) in rw sound refl

  -- ---- what is unmet

  pub stored : IsFirstUnmet rule.S9 (ex.at 8) without_y 3
  stored know range tells = let sound : not (is_false know) ≡ true = is_sound know without_y tells (one_cell_sound law) in rw sound refl

  pub stored_base : IsFirstUnmet rule.S9 (ex.at 8) without_x 4
  stored_base know range tells = let sound : not (is_false know) ≡ true = is_sound know without_x tells (one_cell_sound law) in rw sound refl

  pub stored_block : IsFirstUnmet rule.S9 (ex.at 8) ex.no_cell 5
  stored_block know range tells = let sound : not (is_false know) ≡ true = is_sound know ex.no_cell tells (no_cell_sound law) in rw sound refl

  pub freed : IsFirstUnmet rule.S12 (ex.at 11) without_x 3
  freed know range tells = let sound : not (is_false know) ≡ true = is_sound know without_x tells (one_cell_sound law) in rw sound refl

  pub freed_block : IsFirstUnmet rule.S12 (ex.at 11) ex.no_cell 4
  freed_block know range tells = let sound : not (is_false know) ≡ true = is_sound know ex.no_cell tells (no_cell_sound law) in rw sound refl

  -- node 1 may be 7
  not_equal : DerivedIsTrue → (know : Test) → Tells know ex.one_cell → (b : Bool) → equal know (node 1) null ≡ b → b ≡ false
  not_equal derived know tells false e = refl
  not_equal derived know tells true e =
      let seven : ex.valuation (pos 5) 1 ≡ ex.valuation (pos 5) 0 +ℤ pos 0 =
      derived defs (ex.valuation (pos 5)) (ex.values (pos 5)) (region_of ex.heap) ex.one_cell (Eq (node 1) null (pos 0)) heap_addresses
      (one_cell_stands (pos 5) (omega (arith, ints)) (omega (arith, ints))) (equal_from know ex.one_cell tells (node 1) null e) in
      let clash : pos 7 ≡ pos 0 = seven in
      absurd (cc clash)

  pub not_null : DerivedIsTrue → IsFirstUnmet rule.S11 (ex.at 11) ex.one_cell 4
  not_null derived know range tells =
      let sound : not (is_false know) ≡ true = is_sound know ex.one_cell tells (one_cell_sound law) in
      let differ : equal know (node 1) null ≡ false = not_equal derived know tells (equal know (node 1) null) refl in
      rw sound (rw differ refl)

-- ---- results that wrap

pub wraps : known_result sum (only greatest) (only (pos 1)) ≡ In (node 3) least least ∷ []
unfolding int_wrap
wraps = refl

pub wraps_down : known_result difference (only (pos 0)) (only least) ≡ In (node 3) least least ∷ []
unfolding int_wrap
wraps_down = refl

pub either : known_result sum (only (pos 2)) (only (pos 3)) ≡ In (node 3) (pos 5) (pos 5) ∷ Eq (node 3) (node 1) (pos 3) ∷ Eq (node 3) (node 2) (pos 2) ∷ []
unfolding int_wrap
either = refl

-- ---- a segment that may be unfolded from its end

pub from_end : BackIsTold → LacksBlock back.defs (with_segment (back.predicate 0)) (node 1) cell_id → ⊥
from_end law l =
    l.back 0 (record { 0 = 0 }) (node 3) null (null ∷ []) (node 1 ∷ []) (back.predicate 0) 0 (node 1) refl ((law back.defs (back.predicate 0) 0).0 refl) refl (inl (itself (Ptr, inr refl)))
