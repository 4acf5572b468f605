use Rattle.std.proofs.Common.{◌≡◌, ◌⊎◌, ℕ, zero, suc, pos, Option, Some, None, [], ◌∷◌, slice_get, refl, sym, ap, subst, ◌∙◌, inl, inr, arith}
use Rattle.std.specs.List.{AllByRecursion}
use Rattle.std.proofs.lemmas.Int.{ints}
use Rattle.std.specs.FinMap as map
use Rattle.mc_flow.specs.Heap.Heap.{Block, Region, region_of}
use Rattle.mc_flow.specs.Heap.Parts.{Joins, Split, IsEmpty}
use Rattle.mc_flow.specs.Heap.Adding.{with_blocks}
use Rattle.mc_flow.specs.declared.defs.rules.Rule.{Rule}
use Rattle.mc_flow.specs.Defs.Values.{value_of, IsTrueAtom}
use Rattle.mc_flow.specs.Defs.Meaning.{BlockMeets, BodyMeets, Sat}
use Rattle.mc_flow.specs.Defs.Examples.{defs, list_id, list_def, null_rule, list_rule, blocks, second_cell}
use Rattle.mc_flow.proofs.examples.example_shapes.Goals as goal

-- a part of nothing is nothing
joins_none : (whole left right : Option Block) → Joins whole left right → whole ≡ None → left ≡ None
joins_none whole None right j e = refl
joins_none whole (Some block) None j e = cc
joins_none whole (Some block) (Some other) j e = absurd j

part_is_empty : (whole left right : Region) → Split whole left right → IsEmpty whole → IsEmpty left
part_is_empty whole left right split empty = record { none = λ at. joins_none (whole at) (left at) (right at) (split.joins at) (empty.none at) }

one_of_two : (first second rule : Rule) (place : ℕ) → slice_get (first ∷ second ∷ []) place ≡ Some rule → (first ≡ rule) ⊎ (second ≡ rule)
one_of_two first second rule zero e = let same : first ≡ rule = cc in inl same
one_of_two first second rule (suc zero) e = let same : second ≡ rule = cc in inr same
one_of_two first second rule (suc (suc n)) e = cc

-- without blocks there is no list at 9
no_list : (region : Region) → IsEmpty region → BodyMeets (Sat defs) defs list_id (pos 9) [] region → ⊥
no_list region empty body =
    let by = body.0 in
    let def : list_def ≡ by.def = (let found = by.defined in cc) in
    let first : value_of by.names 0 ≡ pos 9 = rw by.front refl in
    let none = part_is_empty region body.1 body.2 body.3 empty in
    elim (one_of_two null_rule list_rule by.rule by.place (ap (λ d. slice_get d.rules by.place) def ∙ by.listed)) [
      | inl null ↦
          let atoms = subst (λ (rule : Rule). AllByRecursion (IsTrueAtom by.names) rule.atoms) (sym null) by.atoms in
          let nine : pos 9 ≡ pos 0 = sym first ∙ atoms.0 in
          omega (arith, ints)
      | inr cell ↦
          let block = subst (λ (rule : Rule). BlockMeets rule.block rule.contents by.names body.1) (sym cell) body.4 in
          let here = block.2.here in
          let absent = none.none block.0 in
          cc
    ]

pub returns-clause-empty_list : goal.returns-clause-empty_list
returns-clause-empty_list c =
    let nothing = c.heaps_change_one_address.ensures.empty in
    let region = region_of (with_blocks map.empty second_cell) in
    inl ((blocks [], region, c.parts_regroup.ensures.adds_empty region (blocks []) nothing, c.example_predicates.ensures.empty_list), refl)

pub returns-clause-no_list : goal.returns-clause-no_list
returns-clause-no_list c =
    let nothing = c.heaps_change_one_address.ensures.empty in
    inr (
      λ there. no_list there.0 (part_is_empty (region_of map.empty) there.0 there.1 there.2 nothing) (c.predicates_are_bodies.ensures.unfolds defs list_id (pos 9) [] there.0 there.3),
      refl,
    )
