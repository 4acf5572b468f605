-- Which premise is the first that is unmet, at small states.
use Rattle.std.proofs.Common.{◌≡◌, ◌≢◌, [], ◌∷◌, Bool, true, false, Some, None, pos, refl, arith, inr}
use Rattle.std.specs.Prelude.{not, Err}
use Rattle.std.proofs.lemmas.Int.{ints}
use Rattle.mc_base.specs.declared.ids.NodeId.{NodeId}
use Rattle.mc_base.specs.declared.plain.Atom.TheVariants.{Eq, Ne}
use Rattle.mc_base.specs.Nodes.{Valuation, null}
use Rattle.mc_flow.specs.Heap.Heap.{Region, IsAtAddresses}
use Rattle.mc_flow.specs.Defs.Examples.{defs}
use Rattle.mc_state.specs.Known.{Test, Tells, is_false, equal}
use Rattle.mc_state.proofs.Tests.{is_sound}
use Rattle.mc_pure.specs.Derived as pure
use Rattle.mc_pure.specs.Pure.{Base}
use Rattle.mc_pure.specs.Examples.{node}
use Rattle.mc_state.specs.CoverExamples.{at_seven}
use Rattle.mc_state.specs.Facts.{IsFalse, AreEqual}
use Rattle.mc_state.specs.Laws.{NoneStandsForFalse, EqualNodesAreOne}
use Rattle.mc_state.specs.Stands.{StandsBy}
use Rattle.mc_state.specs.State.{State}
use Rattle.mc_rules_logic.specs.Unfold.Examples.{edge, one_list, one_segment, first_two}
use Rattle.mc_rules_logic.specs.Unfold.Judges.{unfolding_ind, unfolding_seg}
use Rattle.mc_rules_logic.specs.Unfold.PremiseExamples.{false_list, false_segment}

no_test : (b : Bool) → (b ≡ true → ⊥) → b ≡ false
no_test true never = absurd (never refl)
no_test false never = refl

-- in a state that something stands for, the second premise is met, and nodes of other values are not equal
module _ (not_false : NoneStandsForFalse) (one : EqualNodesAreOne) (v : Valuation) (region : Region) (addresses : IsAtAddresses region) (s : State) (st : StandsBy defs v [] region s)
    (know : Test) (tells : Tells know s) where
  sound : not (is_false know) ≡ true
  sound = is_sound know s tells (λ wrong. not_false defs [] region s addresses (v, st) wrong)

  unequal : (a b : NodeId) → v a.0 ≢ v b.0 → equal know a b ≡ false
  unequal a b differ =
      no_test (equal know a b) (λ shown.
      let are : AreEqual s a b = (tells (Eq a b (pos 0))).0 shown in
      let lists = one defs v [] region s (a ∷ []) (b ∷ []) addresses st (are, tt) in
      differ (cc lists))

-- a state in which null is written to differ from itself
false_is_known : (s : State) → IsFalse s → (know : Test) → Tells know s → is_false know ≡ true
false_is_known s wrong know tells = (tells (Ne null null (pos 0))).1 (inr wrong)

pub ind_false : (know : Test) → Tells know false_list → unfolding_ind know defs (Some (node 1)) (edge 0) false_list ≡ Err 2
ind_false know tells =
    let wrong : is_false know ≡ true = false_is_known false_list (pure.IsFalse.apart (pure.Follows.base (Base.written 0 refl))) know tells in
    rw wrong refl

pub seg_false : (know : Test) → Tells know false_segment → unfolding_seg know defs (Some (node 1)) (edge 0) false_segment ≡ Err 2
seg_false know tells =
    let wrong : is_false know ≡ true = false_is_known false_segment (pure.IsFalse.apart (pure.Follows.base (Base.written 0 refl))) know tells in
    rw wrong refl

module _ (not_false : NoneStandsForFalse) (one : EqualNodesAreOne) (region : Region) (addresses : IsAtAddresses region) where
  module _ (st : StandsBy defs at_seven [] region one_list) (know : Test) (tells : Tells know one_list) where
    list_sound : not (is_false know) ≡ true
    list_sound = sound not_false one at_seven region addresses one_list st know tells

    list_not_null : equal know (node 1) null ≡ false
    list_not_null = unequal not_false one at_seven region addresses one_list st know tells (node 1) null (λ e. omega (arith, ints))

    pub ind_absent : unfolding_ind know defs (Some (node 1)) (edge 1) one_list ≡ Err 3
    ind_absent = rw list_sound refl

    pub seg_of_ind : unfolding_seg know defs (Some (node 1)) (edge 0) one_list ≡ Err 3
    seg_of_ind = rw list_sound refl

    pub ind_not_accessed : unfolding_ind know defs None (edge 0) one_list ≡ Err 4
    ind_not_accessed = rw list_sound (rw list_not_null refl)

  module _ (st : StandsBy defs (first_two 7 9) [] region one_segment) (know : Test) (tells : Tells know one_segment) where
    seg_sound : not (is_false know) ≡ true
    seg_sound = sound not_false one (first_two 7 9) region addresses one_segment st know tells

    seg_not_null : equal know (node 1) null ≡ false
    seg_not_null = unequal not_false one (first_two 7 9) region addresses one_segment st know tells (node 1) null (λ e. omega (arith, ints))

    seg_not_end : equal know (node 1) (node 2) ≡ false
    seg_not_end = unequal not_false one (first_two 7 9) region addresses one_segment st know tells (node 1) (node 2) (λ e. omega (arith, ints))

    pub ind_of_seg : unfolding_ind know defs (Some (node 1)) (edge 0) one_segment ≡ Err 3
    ind_of_seg = rw seg_sound refl

    pub seg_elsewhere : unfolding_seg know defs (Some (node 2)) (edge 0) one_segment ≡ Err 4
    seg_elsewhere = rw seg_sound (rw seg_not_null (rw seg_not_end refl))
