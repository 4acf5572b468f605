-- The worked states, and the heaps that stand for them or do not.
use Rattle.std.proofs.Common.{◌≡◌, ◌≢◌, ◌⊎◌, ℕ, zero, suc, ℤ, pos, Option, Some, None, List, [], ◌∷◌, refl, sym, ap, subst, ◌∙◌, inl, inr, arith}
use Rattle.std.specs.Prelude.{slice_get}
use Rattle.std.specs.List.{AllByRecursion}
use Rattle.std.specs.Cmp.{nat_cmp_total}
use Rattle.std.specs.FinMap.{get-from_entries}
use Rattle.std.proofs.lemmas.Int.{ints}
use Rattle.mc_flow.specs.Heap.Heap.{Block, Region}
use Rattle.mc_flow.specs.Heap.Instances.{nowhere}
use Rattle.mc_flow.specs.Heap.Parts.{Split, IsCell, Star}
use Rattle.mc_flow.specs.declared.defs.rules.Def.{Def}
use Rattle.mc_flow.specs.declared.defs.rules.Rule.{Rule}
use Rattle.mc_flow.specs.Defs.Values.{value_of, IsTrueAtom}
use Rattle.mc_flow.specs.Defs.Meaning.{BlockMeets, CallMeets, Sat, Seg}
use Rattle.mc_flow.specs.Defs.Laws.{SatUnfolds, SegThenSat}
use Rattle.mc_flow.specs.Defs.Examples.{defs, list_id, null_rule, list_rule, list_def, cell_with, blocks, two_cells, first_cell, second_cell}
use Rattle.mc_state.specs.Laws.{IsInjective}
use Rattle.mc_state.specs.Stands.{EdgesMeet, StandsBy, Stands}
use Rattle.mc_state.specs.Examples.{list_in_parts, at_seven, seven_and_nine, raised, raised_list, two_and_three}
use Rattle.mc_state.proofs.Nodes.{same_node}
use Rattle.mc_state.proofs.Parts.{SplitLaws, nowhere-IsEmpty, all_of_it}
use Rattle.mc_state.proofs.Truth.{joins_some}

-- ---- a list that is cut

-- what the one region holds, the other holds
abbrev Within : Region → Region → Type 0
Within small big = (x : ℕ) (b : Block) → small x ≡ Some b → big x ≡ Some b

split_within : (region left right : Region) → Split region left right → Within left region
split_within region left right split x b e = joins_some (region x) (left x) (right x) b (split.joins x) e

within_more : (f g h : Region) → Within f g → Within g h → Within f h
within_more f g h v w x b e = w x b (v x b e)

pub one_block : (here : Option Block) (b c : Block) → here ≡ Some b → here ≡ Some c → b ≡ c
one_block here b c e f = cc

pub no_block : (here : Option Block) (b : Block) → here ≡ Some b → here ≡ None → ⊥
no_block here b e f = cc

-- a list is empty, or begins with a cell, after which there is a list
abbrev ListCase : ℤ → Region → Type 0
ListCase value region =
    (value ≡ pos 0)
    ⊎ ((at : ℕ) × (item : ℤ) × (next : ℤ) × (cell : Region) × (rest : Region) × (value ≡ pos at) × IsCell cell at (cell_with item next) × Within cell region × Within rest region × Sat defs list_id next [] rest)

list_null : (names others : List ℤ) (value : ℤ) (region : Region) → names ≡ value ∷ others → AllByRecursion (IsTrueAtom names) null_rule.atoms → ListCase value region
list_null names others value region is atoms =
    let first : value_of names 0 ≡ value = rw is refl in
    inl (sym first ∙ atoms.0)

module _ (laws : SplitLaws) where
  list_cell : (names others : List ℤ) (value : ℤ) (region block calls : Region) → names ≡ value ∷ others → Split region block calls
      → BlockMeets list_rule.block list_rule.contents names block → Star (CallMeets (Sat defs) names) list_rule.calls calls → ListCase value region
  list_cell names others value region block calls is split cell next =
      let first : value_of names 0 ≡ value = rw is refl in
      inr (
        cell.0,
        value_of names 1,
        value_of names 2,
        block,
        next.0,
        sym first ∙ cell.1,
        cell.2,
        split_within region block calls split,
        within_more next.0 calls region (split_within calls next.0 next.1 next.2) (split_within region calls block (laws.commutes region block calls split)),
        next.3,
      )

  list_cases : SatUnfolds → (value : ℤ) (region : Region) → Sat defs list_id value [] region → ListCase value region
  list_cases unfolds value region s =
      let b = unfolds defs list_id value [] region s in
      let by = b.0 in
      let d : list_def ≡ by.def = cc (by.defined) in
      let listed : slice_get list_def.rules by.place ≡ Some by.rule = subst (λ (x : Def). slice_get x.rules by.place ≡ Some by.rule) (sym d) by.listed in
      elim (one_of_two null_rule list_rule by.rule by.place listed) [
        | inl e ↦ list_null by.names by.others value region by.front (subst (λ (r : Rule). AllByRecursion (IsTrueAtom by.names) r.atoms) (sym e) by.atoms)
        | inr e ↦ list_cell by.names by.others value region b.1 b.2 by.front b.3
            (subst (λ (r : Rule). BlockMeets r.block r.contents by.names b.1) (sym e) b.4)
            (subst (λ (r : Rule). Star (CallMeets (Sat defs) by.names) r.calls b.2) (sym e) b.5)
      ]
    where
      one_of_two : (first second rule : Rule) (place : ℕ) → slice_get (first ∷ second ∷ []) place ≡ Some rule → (first ≡ rule) ⊎ (second ≡ rule)
      one_of_two first second rule zero e = let same : first ≡ rule = cc in inl same
      one_of_two first second rule (suc zero) e = let same : second ≡ rule = cc in inr same
      one_of_two first second rule (suc (suc n)) e = cc

  -- a list at an address has a cell there
  has_cell : SatUnfolds → (at : ℕ) (region : Region) → pos at ≢ pos 0 → Sat defs list_id (pos at) [] region
      → (item : ℤ) × (next : ℤ) × (rest : Region) × (region at ≡ Some (cell_with item next)) × Within rest region × Sat defs list_id next [] rest
  has_cell unfolds at region some s =
      elim (list_cases unfolds (pos at) region s) [
        | inl e ↦ absurd (some e)
        | inr w ↦
            let place : w.0 ≡ at = cc (w.5) in
            (w.1, w.2, w.4, ap region (sym place) ∙ w.7 w.0 (cell_with w.1 w.2) w.6.here, w.8, w.9)
      ]

  first_at_seven : blocks first_cell 7 ≡ Some (cell_with (pos 5) (pos 9))
  first_at_seven = get-from_entries nat_cmp_total first_cell 7

  first_at_nine : blocks first_cell 9 ≡ None
  first_at_nine = get-from_entries nat_cmp_total first_cell 9

  -- the first cell points to nothing
  no_list : SatUnfolds → (region : Region) → Within region (blocks first_cell) → Sat defs list_id (pos 7) [] region → ⊥
  no_list unfolds region within s =
      let cell = has_cell unfolds 7 region (λ e. cc) s in
      let same = one_block (blocks first_cell 7) (cell_with cell.0 cell.1) (cell_with (pos 5) (pos 9)) (within 7 (cell_with cell.0 cell.1) cell.3) first_at_seven in
      let fields : Some cell.0 ∷ Some cell.1 ∷ [] ≡ Some (pos 5) ∷ Some (pos 9) ∷ [] = ap (λ (b : Block). b.fields) same in
      let next : cell.1 ≡ pos 9 = cc in
      let more = has_cell unfolds 9 cell.2 (λ e. cc) (subst (λ z. Sat defs list_id z [] cell.2) next cell.5) in
      no_block (blocks first_cell 9) (cell_with more.0 more.1) (within 9 (cell_with more.0 more.1) (cell.4 9 (cell_with more.0 more.1) more.3)) first_at_nine

  pub list_cut : SatUnfolds → SegThenSat → ¬ Stands defs at_seven (blocks first_cell) list_in_parts
  list_cut unfolds joins stands =
      let v = stands.0 in
      let p = stands.1.parts in
      let each = p.each in
      let tail = each.4 in
      let lead : v 1 ≡ pos 7 = (let var : Some (pos 7) ≡ Some (v 1) = stands.1.vars.0 in cc) in
      let whole : each.1 ≡ tail.0 = laws.drops_empty each.1 tail.1 tail.0 tail.4 (laws.commutes each.1 tail.0 tail.1 tail.2) in
      let list = joins defs list_id (v 1) [] (v 2) [] p.held each.0 tail.0 (subst (λ r. Split p.held each.0 r) whole each.2) each.3 tail.3 in
      no_list unfolds p.held (split_within (blocks first_cell) p.held p.rest p.split) (subst (λ z. Sat defs list_id z [] p.held) lead list)

  -- the two cells have the two parts
  module _ (split : Split (blocks two_cells) (blocks first_cell) (blocks second_cell)) (front : Seg defs list_id (pos 7) [] (pos 9) [] (blocks first_cell)) (back : Sat defs list_id (pos 9) [] (blocks second_cell)) where
    parts_meet : EdgesMeet defs seven_and_nine list_in_parts.graph.edges (blocks two_cells)
    parts_meet = (blocks first_cell, blocks second_cell, split, front, (blocks second_cell, nowhere, all_of_it laws (blocks second_cell), back, nowhere-IsEmpty))

    pub list_stands : StandsBy defs seven_and_nine at_seven (blocks two_cells) list_in_parts
    list_stands =
        record {
          null = refl;
          kinds = ((omega (arith, ints), omega (arith, ints)), ((omega (arith, ints), omega (arith, ints)), tt));
          atoms = tt;
          vars = (refl, tt);
          parts = record { held = blocks two_cells; rest = nowhere; split = all_of_it laws (blocks two_cells); each = parts_meet; alone = λ whole. nowhere-IsEmpty };
        }

    pub raised_stands : StandsBy defs two_and_three at_seven (blocks two_cells) raised_list
    raised_stands =
        record {
          null = refl;
          kinds = ((omega (arith, ints), omega (arith, ints)), ((omega (arith, ints), omega (arith, ints)), tt));
          atoms = tt;
          vars = (refl, tt);
          parts = record { held = blocks two_cells; rest = nowhere; split = all_of_it laws (blocks two_cells); each = parts_meet; alone = λ whole. nowhere-IsEmpty };
        }

-- ---- other nodes

raised_once : (a b : ℕ) → raised a ≡ raised b → a ≡ b
raised_once zero zero e = refl
raised_once zero (suc b) e = absurd (omega arith)
raised_once (suc a) zero e = absurd (omega arith)
raised_once (suc a) (suc b) e = omega arith

pub raised_injective : IsInjective raised list_in_parts.kinds
raised_injective m n there here e = same_node m n (raised_once m.0 n.0 e)
