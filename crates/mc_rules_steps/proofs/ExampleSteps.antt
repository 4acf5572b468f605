-- Instances of the rules at the points of the small flow graph.
use Rattle.std.proofs.Common.{◌≡◌, zero, suc, [], ◌∷◌, Option, Some, None, refl, sym, ap, ◌∙◌, subst, arith, inl, inr, ℤ, pos}
use Rattle.std.proofs.lemmas.Int.{ints}
use Rattle.mc_base.specs.declared.plain.Atom.TheVariants.{In}
use Rattle.mc_base.specs.declared.plain.Kind.TheVariants.{Ptr}
use Rattle.mc_base.specs.Nodes.{Valuation, null}
use Rattle.mc_flow.specs.Heap.Heap.{Block, Region, region_of}
use Rattle.mc_flow.specs.Heap.Parts.{Joins}
use Rattle.mc_flow.specs.Defs.Examples.{defs, cell_id, list_id, lenlist_id, blocks}
use Rattle.mc_flow.specs.Defs.Meaning.{Sat}
use Rattle.mc_flow.specs.declared.instr.Operand.TheVariants.{Var, Const}
use Rattle.mc_pure.specs.Derived.{itself}
use Rattle.mc_pure.specs.Examples.{node}
use Rattle.mc_state.specs.State.{with_atoms, with_var}
use Rattle.mc_state.specs.Facts.{IsFalse}
use Rattle.mc_state.specs.Laws.{DerivedIsTrue, NoneStandsForFalse}
use Rattle.mc_state.specs.Rules.{GoalHolds}
use Rattle.mc_rules_steps.specs.Next.{Next}
use Rattle.mc_rules_steps.specs.Operands.{HasBlock}
use Rattle.mc_rules_steps.specs.Steps.{moved_to}
use Rattle.mc_state.specs.declared.line.InstrRule.TheVariants as rule
use Rattle.mc_rules_steps.specs.Laws.{IsStep, SidesHold}
use Rattle.mc_rules_steps.specs.Examples as ex
use Rattle.mc_rules_steps.proofs.ExampleRanges.{five_to_seven, only_one, only_greatest, six_to_eight, four_to_six, y_range, one_range, greatest_range, last_range, sums, no_sums, differences, products}
use Rattle.mc_rules_steps.proofs.Wrapping.{least_is}
use Rattle.mc_rules_steps.proofs.ExampleStates.{heap_addresses, empty_addresses, empty_there, one_cell_stands, no_cell_stands, not_whole_stands}

-- ---- states that are not false
pub one_cell_sound : NoneStandsForFalse → IsFalse ex.one_cell → ⊥
one_cell_sound law = law defs (ex.values (pos 5)) (region_of ex.heap) ex.one_cell heap_addresses (ex.valuation (pos 5), one_cell_stands (pos 5) (omega (arith, ints)) (omega (arith, ints)))

pub no_cell_sound : NoneStandsForFalse → IsFalse ex.no_cell → ⊥
no_cell_sound law = law defs (ex.values (pos 5)) _ ex.no_cell empty_addresses (ex.valuation (pos 5), no_cell_stands (pos 5) (omega (arith, ints)) (omega (arith, ints)))

pub not_whole_sound : NoneStandsForFalse → IsFalse ex.not_whole → ⊥
not_whole_sound law = law defs (ex.values (pos 5)) _ ex.not_whole empty_addresses (ex.valuation (pos 5), not_whole_stands (pos 5) (omega (arith, ints)) (omega (arith, ints)))

-- ---- the rules
abbrev pub here : HasBlock ex.one_cell (node 1) cell_id
here = record { id = record { 0 = 0 }; at = node 1; fields = None ∷ Some null ∷ []; there = refl; equal = inl (itself (Ptr, inr refl)) }

module _ (sound : IsFalse ex.one_cell → ⊥) where
  pub skip : IsStep ex.flow (ex.at 0) ex.one_cell (moved_to (ex.at 1) ex.one_cell ∷ [])
  skip = (rule.S1, record { q = ex.at 1; at = refl; consistent = sound; gives = refl })

  pub copy : IsStep ex.flow (ex.at 1) ex.one_cell (moved_to (ex.at 2) (with_var ex.one_cell ex.t (Some (node 1))) ∷ [])
  copy = (rule.S2, record { x = ex.t; from = Var ex.x; q = ex.at 2; at = refl; consistent = sound; n = node 1; known = refl; gives = refl })

  pub undef : IsStep ex.flow (ex.at 2) ex.one_cell (moved_to (ex.at 3) ex.one_cell ∷ [])
  undef = (rule.S3, record { xs = ex.z ∷ ex.t ∷ []; q = ex.at 3; at = refl; consistent = sound; gives = refl })

  pub input : IsStep ex.flow (ex.at 3) ex.one_cell (moved_to (ex.at 4) (ex.with_z ex.one_cell) ∷ [])
  input = (rule.S4, record { x = ex.z; q = ex.at 4; at = refl; consistent = sound; gives = refl })

  pub «end» : IsStep ex.flow (ex.at 17) ex.one_cell []
  «end» = (rule.S17, record { at = refl; consistent = sound; gives = refl })

  module _ (law : DerivedIsTrue) where
    pub sum : IsStep ex.flow (ex.at 4) ex.one_cell ex.after_sum
    sum = (
      rule.S5,
      record {
        x = ex.z;
        o = Var ex.y;
        o' = Const (pos 1);
        q = ex.at 5;
        at = refl;
        consistent = sound;
        computes = record {
          a = node 2;
          left_known = refl;
          b = node 3;
          right_known = refl;
          left = five_to_seven;
          left_range = y_range law;
          right = only_one;
          right_range = one_range law;
          results = Some six_to_eight;
          results_range = sums;
          before = ex.with_one;
          operands = refl;
          gives = refl;
        };
      },
    )

    pub wrap : IsStep ex.flow (ex.at 21) ex.one_cell ex.after_wrap
    wrap = (
      rule.S5,
      record {
        x = ex.z;
        o = Const (pos 2147483647);
        o' = Const (pos 1);
        q = ex.at 22;
        at = refl;
        consistent = sound;
        computes = record {
          a = node 3;
          left_known = refl;
          b = node 4;
          right_known = refl;
          left = only_greatest;
          left_range = greatest_range law;
          right = only_one;
          right_range = last_range law;
          results = None;
          results_range = no_sums;
          before = ex.with_greatest;
          operands = refl;
          gives = ap (λ (k : ℤ). moved_to (ex.at 22) (with_atoms (ex.with_z ex.with_greatest) (In (node 5) k k ∷ [])) ∷ []) least_is;
        };
      },
    )

    pub difference : IsStep ex.flow (ex.at 5) ex.one_cell ex.after_difference
    difference = (
      rule.S6,
      record {
        x = ex.z;
        o = Var ex.y;
        o' = Const (pos 1);
        q = ex.at 6;
        at = refl;
        consistent = sound;
        computes = record {
          a = node 2;
          left_known = refl;
          b = node 3;
          right_known = refl;
          left = five_to_seven;
          left_range = y_range law;
          right = only_one;
          right_range = one_range law;
          results = Some four_to_six;
          results_range = differences;
          before = ex.with_one;
          operands = refl;
          gives = refl;
        };
      },
    )

    pub product : IsStep ex.flow (ex.at 6) ex.one_cell ex.after_product
    product = (
      rule.S7,
      record {
        x = ex.z;
        o = Var ex.y;
        o' = Const (pos 1);
        q = ex.at 7;
        at = refl;
        consistent = sound;
        computes = record {
          a = node 2;
          left_known = refl;
          b = node 3;
          right_known = refl;
          left = five_to_seven;
          left_range = y_range law;
          right = only_one;
          right_range = one_range law;
          results = Some five_to_seven;
          results_range = products;
          before = ex.with_one;
          operands = refl;
          gives = refl;
        };
      },
    )

    pub at_most : IsStep ex.flow (ex.at 13) ex.one_cell ex.after_at_most
    at_most = (
      rule.S14,
      record {
        o = Var ex.y;
        o' = Const (pos 1);
        t = ex.at 14;
        f = ex.at 15;
        at = refl;
        consistent = sound;
        a = node 2;
        left_known = refl;
        b = node 3;
        right_known = refl;
        before = ex.with_one;
        operands = refl;
        left = five_to_seven;
        left_range = y_range law;
        right = only_one;
        right_range = one_range law;
        gives = refl;
      },
    )

  pub load : IsStep ex.flow (ex.at 7) ex.one_cell (moved_to (ex.at 8) (with_var ex.one_cell ex.t (Some null)) ∷ [])
  load = (rule.S8, record { x = ex.t; y = ex.x; shape = cell_id; f = 1; q = ex.at 8; at = refl; consistent = sound; n = node 1; known = refl; block = here; m = null; field = refl; gives = refl })

  pub store : IsStep ex.flow (ex.at 8) ex.one_cell ex.after_store
  store = (
    rule.S9,
    record {
      y = ex.x;
      shape = cell_id;
      f = 0;
      from = Var ex.y;
      q = ex.at 9;
      at = refl;
      consistent = sound;
      m = node 2;
      value = refl;
      n = node 1;
      known = refl;
      block = here;
      field = omega arith;
      before = ex.one_cell;
      operand = refl;
      gives = refl;
    },
  )

  pub malloc : IsStep ex.flow (ex.at 9) ex.one_cell ex.after_malloc
  malloc = (rule.S10, record { x = ex.t; shape = cell_id; q = ex.at 10; at = refl; consistent = sound; gives = refl })

  pub free_null : IsStep ex.flow (ex.at 10) ex.one_cell (moved_to (ex.at 11) ex.one_cell ∷ [])
  free_null = (rule.S11, record { from = Const (pos 0); q = ex.at 11; at = refl; consistent = sound; n = null; known = refl; zero = inl (itself (Ptr, inl refl)); gives = refl })

  pub free : IsStep ex.flow (ex.at 11) ex.one_cell ex.after_free
  free = (rule.S12, record { from = Var ex.x; q = ex.at 12; at = refl; consistent = sound; n = node 1; known = refl; before = ex.one_cell; operand = refl; shape = cell_id; block = here; gives = refl })

  pub equal : IsStep ex.flow (ex.at 12) ex.one_cell ex.after_equal
  equal = (
    rule.S13,
    record {
      o = Var ex.x;
      o' = Const (pos 0);
      t = ex.at 13;
      f = ex.at 14;
      at = refl;
      consistent = sound;
      a = node 1;
      left_known = refl;
      b = null;
      right_known = refl;
      before = ex.one_cell;
      operands = refl;
      gives = refl;
    },
  )

  pub assume : IsStep ex.flow (ex.at 14) ex.one_cell ex.after_assume
  assume =
      (rule.S15, record { pred = lenlist_id; x = ex.t; os = Const (pos 0) ∷ []; q = ex.at 15; at = refl; consistent = sound; args = null ∷ []; known = (refl, tt); before = ex.one_cell; operands = refl; gives = refl })

  pub assert : IsStep ex.flow (ex.at 15) ex.one_cell ex.after_assert
  assert = (
    rule.S16,
    record {
      pred = list_id;
      o = Const (pos 0);
      os = [];
      q = ex.at 16;
      at = refl;
      consistent = sound;
      n = null;
      known = refl;
      args = [];
      args_known = tt;
      goal = ex.null_list;
      goal_is = refl;
      side = record { point = ex.at 15; goal = Some ex.null_list; state = ex.one_cell };
      side_is = refl;
      gives = refl;
    },
  )

pub empty : (IsFalse ex.no_cell → ⊥) → IsStep ex.flow (ex.at 16) ex.no_cell (moved_to (ex.at 17) ex.no_cell ∷ [])
empty sound = (rule.S18, record { q = ex.at 17; at = refl; consistent = sound; whole = refl; none = refl; gives = refl })

-- ---- the side branch
pub joins_none : (whole part : Option Block) → part ≡ None → Joins whole part whole
joins_none whole None e = refl
joins_none whole (Some b) e = cc

null_is_list : Sat defs list_id (pos 0) [] (blocks []) → (w : Valuation) (region : Region) → w 0 ≡ pos 0 → GoalHolds defs w region ex.null_list
null_is_list law w region is_zero =
    (blocks [], region, record { joins = λ at. joins_none (region at) (blocks [] at) (empty_there at) }, subst (λ z. Sat defs list_id z [] (blocks [])) (sym is_zero) law)

pub sides : Sat defs list_id (pos 0) [] (blocks []) → SidesHold defs (ex.config 15 (pos 5)) ex.after_assert
sides law zero n goal w there goal_is at =
    let side : Next = record { point = ex.at 15; goal = Some ex.null_list; state = ex.one_cell } in
    let same : side ≡ n = (let e : Some side ≡ Some n = there in cc) in
    let goals : Some ex.null_list ≡ Some goal = ap (λ (m : Next). m.goal) same ∙ goal_is in
    let is : ex.null_list ≡ goal = cc in
    subst (GoalHolds defs w (region_of ex.heap)) is (null_is_list law w (region_of ex.heap) at.stands.null)
sides law (suc zero) n goal w there goal_is at =
    let side : Next = moved_to (ex.at 16) ex.one_cell in
    let same : side ≡ n = (let e : Some side ≡ Some n = there in cc) in
    let goals : None ≡ Some goal = ap (λ (m : Next). m.goal) same ∙ goal_is in
    cc
sides law (suc (suc place)) n goal w there goal_is at = cc
