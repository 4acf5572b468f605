-- The runs of small programs about lists.
use Rattle.std.proofs.Common.{◌≡◌, ℕ, zero, suc, ◌⊎◌, ℤ, pos, List, [], ◌∷◌, Option, Some, None, slice_get, refl, sym, ap, subst, ◌∙◌, inl, inr, arith}
use Rattle.std.specs.FinMap as map
use Rattle.std.specs.List.{AllByRecursion}
use Rattle.mc_base.specs.declared.plain.FaultKind.TheVariants.{Shape}
use Rattle.mc_flow.specs.Runs.{ended, fault}
use Rattle.mc_flow.specs.Heap.Access.{field_at}
use Rattle.mc_flow.specs.Heap.Choices.{malloc as choose_malloc, shape as choose_shape}
use Rattle.mc_flow.specs.Heap.Heap.{Block, Region, region_of}
use Rattle.mc_flow.specs.Heap.Instances.{nowhere}
use Rattle.mc_flow.specs.Heap.Parts.{Joins, Split}
use Rattle.mc_flow.specs.declared.defs.rules.Def.{Def}
use Rattle.mc_flow.specs.declared.defs.rules.Rule.{Rule}
use Rattle.mc_flow.specs.Defs.Examples.{defs, list_id, null_rule, list_rule, list_def, blocks, second_cell}
use Rattle.mc_flow.specs.Defs.Meaning.{BlockMeets, SatAt, Sat, HoldsSomewhere}
use Rattle.mc_flow.specs.Defs.Values.{value_of, IsTrueAtom}
use Rattle.mc_semantics.specs.Examples.{at}
use Rattle.mc_semantics.specs.Worked.Programs.{assuming_list, asserting_no_list, ComesWithLists}
use Rattle.mc_semantics.proofs.WorkedLemmas.Running.{no_block, is_there, new, fresh}
use Rattle.mc_semantics.proofs.Examples.{arrived}

-- ---- a list of one node
joins_self : (o : Option Block) → Joins o o None
joins_self None = refl
joins_self (Some b) = refl

all_of_it : (region : Region) → Split region region nowhere
all_of_it region = record { joins = λ at. joins_self (region at) }

pub assuming_list_ends : Sat defs list_id (pos 9) [] (blocks second_cell) → ComesWithLists assuming_list 4 (choose_shape (pos 9) second_cell ∷ []) ended
assuming_list_ends is =
    inr (
      _,
      _,
      (_, _, arrived 9 _ _ _ refl, refl),
      inr (
        _,
        _,
        (_, _, arrived 9 _ _ _ refl, (((omega arith, omega arith), no_block 9, tt), is, refl)),
        inr (
          _,
          _,
          (_, _, arrived 9 _ _ _ refl, inl ((blocks second_cell, nowhere, all_of_it (blocks second_cell), is), refl)),
          inl (_, _, arrived 9 _ _ _ refl, refl),
        ),
      ),
    )

-- ---- a new node
joins_some : (x l r : Option Block) (b : Block) → Joins x l r → l ≡ Some b → x ≡ Some b
joins_some x None r b j e = cc
joins_some x (Some c) None b j e = j ∙ e
joins_some x (Some c) (Some d) b j e = absurd j

one_of_two : (r0 r1 rule : Rule) (place : ℕ) → slice_get (r0 ∷ r1 ∷ []) place ≡ Some rule → (r0 ≡ rule) ⊎ (r1 ≡ rule)
one_of_two r0 r1 rule zero e = let same : r0 ≡ rule = cc in inl same
one_of_two r0 r1 rule (suc zero) e = let same : r1 ≡ rule = cc in inr same
one_of_two r0 r1 rule (suc (suc n)) e = cc

not_null : (names others : List ℤ) → names ≡ pos 7 ∷ others → AllByRecursion (IsTrueAtom names) null_rule.atoms → ⊥
not_null names others is atoms =
    let first : value_of names 0 ≡ pos 7 = rw is refl in
    let null : pos 7 ≡ pos 0 = sym first ∙ atoms.0 in
    cc

-- its fields are undefined
no_fields : (o : Option Block) (x y : ℤ) → Some new ≡ o → o ≡ Some (record { shape = 0; fields = Some x ∷ Some y ∷ [] }) → ⊥
no_fields o x y e f = let same : Some None ≡ Some (Some x) = ap (λ p. field_at p 0 0) (e ∙ f) in cc

module _ (part rest : Region) (whole : Split (region_of fresh) part rest) where
  not_node : (names others : List ℤ) (block calls : Region) → names ≡ pos 7 ∷ others → Split part block calls → BlockMeets list_rule.block list_rule.contents names block → ⊥
  not_node names others block calls is split meets =
      let first : value_of names 0 ≡ pos 7 = rw is refl in
      let place : meets.0 ≡ 7 = cc (first, meets.1) in
      let b : Block = record { shape = 0; fields = Some (value_of names 1) ∷ Some (value_of names 2) ∷ [] } in
      let here : block 7 ≡ Some b = ap block (sym place) ∙ meets.2.here in
      let inner : part 7 ≡ Some b = joins_some (part 7) (block 7) (calls 7) b (split.joins 7) here in
      no_fields (region_of fresh 7) (value_of names 1) (value_of names 2) (is_there map.empty 7 new) (joins_some (region_of fresh 7) (part 7) (rest 7) b (whole.joins 7) inner)

  no_list : (height : ℕ) → SatAt defs height list_id (pos 7) [] part → ⊥
  no_list zero s = s
  no_list (suc height) s =
      let by = s.0 in
      let d : list_def ≡ by.def = cc (by.defined) in
      let listed : slice_get list_def.rules by.place ≡ Some by.rule = subst (λ (x : Def). slice_get x.rules by.place ≡ Some by.rule) (sym d) by.listed in
      elim (one_of_two null_rule list_rule by.rule by.place listed) [
        | inl e ↦ not_null by.names by.others by.front (subst (λ (r : Rule). AllByRecursion (IsTrueAtom by.names) r.atoms) (sym e) by.atoms)
        | inr e ↦ not_node by.names by.others s.1 s.2 by.front s.3 (subst (λ (r : Rule). BlockMeets r.block r.contents by.names s.1) (sym e) s.4)
      ]

no_list_there : ¬ HoldsSomewhere defs list_id (pos 7) [] (region_of fresh)
no_list_there holds = no_list holds.0 holds.1 holds.2 holds.3.height holds.3.holds

pub no_list_faults : ComesWithLists asserting_no_list 2 (choose_malloc 7 ∷ []) (fault Shape (at 3))
no_list_faults =
    inr (
      _,
      _,
      (_, _, arrived 9 _ _ _ refl, ((omega arith, omega arith), no_block 7, refl)),
      inl (_, _, arrived 9 _ _ _ refl, inr (no_list_there, refl)),
    )
