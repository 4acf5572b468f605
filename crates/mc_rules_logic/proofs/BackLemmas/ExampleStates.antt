-- A doubly linked segment is unfolded from its end.
use Rattle.std.proofs.Common.{◌≡◌, ℕ, zero, suc, ℤ, pos, Bool, true, false, Option, Some, None, [], ◌∷◌, slice_get, refl, sym, subst, arith, inl, inr}
use Rattle.std.specs.Prelude.{not, Err}
use Rattle.std.proofs.lemmas.Int.{ints}
use Rattle.mc_base.specs.declared.plain.Atom.TheVariants.{Eq, Ne}
use Rattle.mc_base.specs.declared.plain.Kind.TheVariants.{Ptr}
use Rattle.mc_base.specs.Nodes.{Valuation, null}
use Rattle.mc_flow.specs.Heap.Heap.{Block, Region, IsAtAddresses}
use Rattle.mc_flow.specs.Heap.Parts.{Joins, Split, IsEmpty}
use Rattle.mc_flow.specs.Heap.PartLaws.{SplitAddsEmpty}
use Rattle.mc_flow.specs.Defs.Meaning as meaning
use Rattle.mc_flow.specs.Defs.Meaning.{RuleValues, Sat}
use Rattle.mc_state.specs.Back.{IsBackPosition}
use Rattle.mc_state.specs.Known.{Test, Tells, is_false, equal}
use Rattle.mc_state.proofs.Tests.{is_sound}
use Rattle.mc_pure.specs.Derived as pure
use Rattle.mc_pure.specs.Pure.{Base}
use Rattle.mc_pure.specs.Examples.{node}
use Rattle.mc_state.specs.Facts.{IsFalse, AreEqual}
use Rattle.mc_state.specs.Fits.{IsBounded}
use Rattle.mc_state.specs.Laws.{NoneStandsForFalse, EqualNodesAreOne}
use Rattle.mc_state.specs.Stands.{StandsBy}
use Rattle.mc_state.specs.State.{State}
use Rattle.mc_rules_logic.specs.Unfold.WrongRules.{IsSoundRule}
use Rattle.mc_rules_logic.specs.Back.Examples.{dlls, dll_id, dll_def, null_rule, edge, seven_and_nine, null_and_nine, dll_segment, dll_emptied, segment_then_node, false_segment, dll_whole, same_segment}
use Rattle.mc_rules_logic.specs.Back.Judges.{unfolding_back}
use Rattle.mc_rules_logic.specs.Back.Unfolded.{UnfoldsBack}
use Rattle.mc_rules_logic.specs.Back.WrongRules.{NeverEmpty}

-- a segment from a value to itself, where nothing is allocated
empty_segment : (region : Region) → IsEmpty region → (pred : ℕ) (value arg : ℤ) → meaning.Seg dlls (record { 0 = pred }) value (arg ∷ []) value (arg ∷ []) region
empty_segment region none pred value arg = record { height = 0; holds = (refl, refl, none) }

module _ (adds_empty : SplitAddsEmpty) (region : Region) (none : IsEmpty region) where
  pub segment_stands : StandsBy dlls seven_and_nine [] region dll_segment
  segment_stands =
      record {
        null = refl;
        kinds = ((omega (arith, ints), omega (arith, ints)), ((omega (arith, ints), omega (arith, ints)), ((omega (arith, ints), omega (arith, ints)), ((omega (arith, ints), omega (arith, ints)), tt))));
        atoms = tt;
        vars = tt;
        parts = record {
          held = region;
          rest = region;
          split = adds_empty region region none;
          each = (region, region, adds_empty region region none, empty_segment region none 0 (pos 7) (pos 9), none);
          alone = λ t. none;
        };
      }

  pub same_stands : StandsBy dlls seven_and_nine [] region same_segment
  same_stands =
      record {
        null = refl;
        kinds = ((omega (arith, ints), omega (arith, ints)), ((omega (arith, ints), omega (arith, ints)), ((omega (arith, ints), omega (arith, ints)), ((omega (arith, ints), omega (arith, ints)), tt))));
        atoms = tt;
        vars = tt;
        parts = record {
          held = region;
          rest = region;
          split = adds_empty region region none;
          each = (region, region, adds_empty region region none, empty_segment region none 1 (pos 7) (pos 9), none);
          alone = λ t. none;
        };
      }

  abbrev null_by : RuleValues dlls dll_id (pos 0) (pos 9 ∷ [])
  null_by =
      record {
        def = dll_def;
        defined = refl;
        rule = null_rule;
        place = 0;
        listed = refl;
        names = pos 0 ∷ pos 9 ∷ [];
        kinds = ((omega (arith, ints), omega (arith, ints)), ((omega (arith, ints), omega (arith, ints)), tt));
        count = refl;
        others = [];
        front = refl;
        atoms = (refl, tt);
      }

  null_dll : Sat dlls dll_id (pos 0) (pos 9 ∷ []) region
  null_dll = record { height = 1; holds = (null_by, region, region, adds_empty region region none, none, none) }

  pub whole_stands : StandsBy dlls null_and_nine [] region dll_whole
  whole_stands =
      record {
        null = refl;
        kinds = ((omega (arith, ints), omega (arith, ints)), ((omega (arith, ints), omega (arith, ints)), tt));
        atoms = tt;
        vars = tt;
        parts = record {
          held = region;
          rest = region;
          split = adds_empty region region none;
          each = (region, region, adds_empty region region none, null_dll, none);
          alone = λ t. none;
        };
      }

-- each call of a doubly linked list has `this` as its argument
abbrev prev_is_back : IsBackPosition dlls dll_id 0
prev_is_back = record { def = dll_def; defined = refl; inside = omega arith; all_back = (tt, (((λ own. refl), tt), tt)) }

pub segment_unfolds : (IsFalse dll_segment → ⊥) → UnfoldsBack dlls (Some (node 4)) (edge 0) dll_segment (dll_emptied ∷ segment_then_node ∷ [])
segment_unfolds consistent =
    record {
      consistent = consistent;
      at = node 1;
      args = node 2 ∷ [];
      pred = dll_id;
      stop = node 3;
      ends = node 4 ∷ [];
      there = refl;
      node = node 4;
      accesses = refl;
      position = 0;
      back = prev_is_back;
      last = node 4;
      ends_at = refl;
      meets = inl (pure.itself (Ptr, inr refl));
      gives = refl;
    }

pub bounded_segment : IsBounded dll_segment
bounded_segment =
    record {
      positive = omega arith;
      kinds = (omega arith, omega arith, (omega arith, omega arith, (omega arith, omega arith, (omega arith, omega arith, tt))));
      ids = (omega arith, omega arith, tt);
      vars = tt;
      edges = (((Ptr, inr refl), ((Ptr, inr refl), ((Ptr, inr refl), ((Ptr, inr refl), tt)))), tt);
      atoms = tt;
    }

-- ---- the rule without its empty case
pub joins_some : (x r : Option Block) (b : Block) → Joins x (Some b) r → x ≡ Some b
joins_some x None b j = j
joins_some x (Some c) b j = absurd j

-- what a part holds, the whole holds
pub inside : (whole left right : Region) (at : ℕ) (b : Block) → Split whole left right → left at ≡ Some b → whole at ≡ Some b
inside whole left right at b split e = joins_some (whole at) (right at) b (subst (λ l. Joins (whole at) l (right at)) e (split.joins at))

-- and what the other part holds, too
joins_other : (x l : Option Block) (b : Block) → Joins x l (Some b) → x ≡ Some b
joins_other x None b j = j
joins_other x (Some c) b j = absurd j

inside_right : (whole left right : Region) (at : ℕ) (b : Block) → Split whole left right → right at ≡ Some b → whole at ≡ Some b
inside_right whole left right at b split e = joins_other (whole at) (left at) b (subst (λ r. Joins (whole at) (left at) r) e (split.joins at))

-- no block is in nothing
no_block_there : (v : Valuation) (region : Region) → IsEmpty region → StandsBy dlls v [] region segment_then_node → ⊥
no_block_there v region none st =
    let p = st.parts in
    let others = p.each.4 in
    let block = others.3 in
    let at = block.0 in
    let here = inside p.each.1 others.0 others.1 at _ others.2 block.2.1.here in
    let held = inside_right p.held p.each.0 p.each.1 at _ p.each.2 here in
    let there = inside region p.held p.rest at _ p.split held in
    let nothing = none.none at in
    cc (there, nothing)

pub one_of_one : (s t : State) (place : ℕ) → slice_get (s ∷ []) place ≡ Some t → s ≡ t
one_of_one s t zero e = cc
one_of_one s t (suc place) e = absurd (cc e)

pub not_never_empty : SplitAddsEmpty → NoneStandsForFalse → (region : Region) → IsEmpty region → IsAtAddresses region → IsSoundRule NeverEmpty → ⊥
not_never_empty adds_empty not_false region none addresses sound =
    let st = segment_stands adds_empty region none in
    let unfolds = segment_unfolds (λ wrong. not_false dlls [] region dll_segment addresses (seven_and_nine, st) wrong) in
    let some = sound dlls (Some (node 4)) (edge 0) dll_segment (segment_then_node ∷ []) bounded_segment (dll_emptied, unfolds) seven_and_nine [] region addresses st in
    no_block_there some.2 region none (subst (λ s. StandsBy dlls some.2 [] region s) (sym (one_of_one segment_then_node some.1 some.0 some.3)) some.5)

-- ---- the first unmet premise
no_test : (b : Bool) → (b ≡ true → ⊥) → b ≡ false
no_test true never = absurd (never refl)
no_test false never = refl

pub of_false : (know : Test) → Tells know false_segment → unfolding_back know dlls (Some (node 4)) (edge 0) false_segment ≡ Err 2
of_false know tells =
    let wrong : is_false know ≡ true = (tells (Ne null null (pos 0))).1 (inr (pure.IsFalse.apart (pure.Follows.base (Base.written 0 refl)))) in
    rw wrong refl

module _ (adds_empty : SplitAddsEmpty) (not_false : NoneStandsForFalse) (one : EqualNodesAreOne) (region : Region) (none : IsEmpty region) (addresses : IsAtAddresses region) where
  pub of_whole : (know : Test) → Tells know dll_whole → unfolding_back know dlls (Some (node 2)) (edge 0) dll_whole ≡ Err 3
  of_whole know tells =
      let sound : not (is_false know) ≡ true = is_sound know dll_whole tells (λ wrong. not_false dlls [] region dll_whole addresses (null_and_nine, whole_stands adds_empty region none) wrong) in
      rw sound refl

  segment_sound : (know : Test) → Tells know dll_segment → not (is_false know) ≡ true
  segment_sound know tells = is_sound know dll_segment tells (λ wrong. not_false dlls [] region dll_segment addresses (seven_and_nine, segment_stands adds_empty region none) wrong)

  pub of_none : (know : Test) → Tells know dll_segment → unfolding_back know dlls None (edge 0) dll_segment ≡ Err 4
  of_none know tells = let sound = segment_sound know tells in rw sound refl

  pub of_other : (know : Test) → Tells know dll_segment → unfolding_back know dlls (Some (node 3)) (edge 0) dll_segment ≡ Err 4
  of_other know tells =
      let sound = segment_sound know tells in
      let apart : equal know (node 4) (node 3) ≡ false = no_test (equal know (node 4) (node 3)) (λ shown.
      let are : AreEqual dll_segment (node 4) (node 3) = (tells (Eq (node 4) (node 3) (pos 0))).0 shown in
      let lists = one dlls seven_and_nine [] region dll_segment (node 4 ∷ []) (node 3 ∷ []) addresses (segment_stands adds_empty region none) (are, tt) in
      let same : pos 9 ≡ pos 7 = cc lists in
      absurd (omega (arith, ints))) in
      rw sound (rw apart refl)

  pub of_same : (know : Test) → Tells know same_segment → unfolding_back know dlls (Some (node 4)) (edge 0) same_segment ≡ Err 4
  of_same know tells =
      let sound : not (is_false know) ≡ true = is_sound know same_segment tells (λ wrong. not_false dlls [] region same_segment addresses (seven_and_nine, same_stands adds_empty region none) wrong) in
      rw sound refl
