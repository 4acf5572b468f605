-- A jump, and jumps that take one edge for two, or leave an edge of a whole state, which are not sound.
use Rattle.std.proofs.Common.{◌≡◌, ◌↔◌, List, [], ◌∷◌, Option, Some, None, refl, sym, ap, ◌∙◌, inl, inr, pos}
use Rattle.std.specs.Cmp.{nat_cmp_total}
use Rattle.std.specs.FinMap.{get-from_entries}
use Rattle.mc_base.specs.declared.ids.EdgeId.{EdgeId}
use Rattle.mc_base.specs.declared.ids.NodeId.{NodeId}
use Rattle.mc_base.specs.declared.plain.Kind.TheVariants.{Ptr}
use Rattle.mc_base.specs.Nodes.{null}
use Rattle.mc_flow.specs.Heap.Heap.{Block, IsAtAddresses}
use Rattle.mc_flow.specs.Heap.Parts.{Joins}
use Rattle.mc_flow.specs.Defs.Examples.{defs, blocks, first_cell, cell_with, cell_id}
use Rattle.mc_state.specs.declared.graph.edge.Edge.TheVariants as edge
use Rattle.mc_state.specs.Graph.Graph.{Picks}
use Rattle.mc_pure.specs.Derived.{base, itself, turned}
use Rattle.mc_pure.specs.Examples.{node}
use Rattle.mc_pure.specs.Pure as known
use Rattle.mc_state.specs.Examples.{two_names, both_at_seven, sevens}
use Rattle.mc_state.specs.Laws.{WholeWithoutEdges}
use Rattle.mc_state.specs.Stands.{StandsBy}
use Rattle.mc_state.specs.State.{State, unknown}
use Rattle.mc_kernel.specs.Examples as ex
use Rattle.mc_kernel.specs.JumpLaws.{IsLawOfJumps}
use Rattle.mc_kernel.specs.Jumps.{Jumps}
use Rattle.mc_kernel.specs.WrongJumps.{JumpsBy, AreThere, LeavesNone, LeavesSome, two_cells_apart}

-- ---- a jump

-- the cell with two names is a cell with one
pub two_names_jump : Jumps two_names ex.one_name_head (null ∷ node 1 ∷ []) (ex.edge 0 ∷ [])
two_names_jump =
    record {
      count = refl;
      null_image = refl;
      kinds = ((inr refl, inl (base (known.kind 0 refl))), tt);
      vars = (inl (itself (Ptr, inr refl)), (inl (turned (base (known.written 0 refl))), tt));
      picked = edge.Block (node 1) cell_id (None ∷ None ∷ []) ∷ [];
      left = [];
      picks = (refl, (refl, refl));
      match = ((refl, inl (itself (Ptr, inr refl)), (tt, (tt, tt))), tt);
      atoms = (inl (base (known.block 0 refl)), tt);
      whole = λ e. (refl, refl);
    }

-- with the right premises on edges it is a jump
pub right_premises : (s t : State) (images : List NodeId) (edges : List EdgeId) → JumpsBy Picks LeavesNone s t images edges ↔ Jumps s t images edges
right_premises s t images edges = (
  λ j. record {
    count = j.count;
    null_image = j.null_image;
    kinds = j.kinds;
    vars = j.vars;
    picked = j.picked;
    left = j.left;
    picks = j.picks;
    match = j.match;
    atoms = j.atoms;
    whole = j.whole;
  },
  λ j. record {
    count = j.count;
    null_image = j.null_image;
    kinds = j.kinds;
    vars = j.vars;
    picked = j.picked;
    left = j.left;
    picks = j.picks;
    match = j.match;
    atoms = j.atoms;
    whole = j.whole;
  },
)

-- ---- one edge for two

-- the only cell is named twice
one_for_two : JumpsBy AreThere LeavesNone two_names two_cells_apart (null ∷ node 1 ∷ node 2 ∷ []) (ex.edge 0 ∷ ex.edge 0 ∷ [])
one_for_two =
    record {
      count = refl;
      null_image = refl;
      kinds = ((inr refl, inl (base (known.kind 0 refl))), ((inr refl, inl (base (known.kind 1 refl))), tt));
      vars = (tt, (tt, tt));
      picked = edge.Block (node 1) cell_id (None ∷ None ∷ []) ∷ edge.Block (node 1) cell_id (None ∷ None ∷ []) ∷ [];
      left = [];
      picks = (refl, (refl, refl));
      match = ((refl, inl (itself (Ptr, inr refl)), (tt, (tt, tt))), ((refl, inl (base (known.written 0 refl)), (tt, (tt, tt))), tt));
      atoms = tt;
      whole = λ e. cc;
    }

joins_some : (x l r : Option Block) (b : Block) → Joins x l r → l ≡ Some b → x ≡ Some b
joins_some x None r b j e = cc
joins_some x (Some c) None b j e = j ∙ e
joins_some x (Some c) (Some d) b j e = absurd j

joins_both : (x l r : Option Block) (b c : Block) → Joins x l r → l ≡ Some b → r ≡ Some c → ⊥
joins_both x None r b c j e f = cc
joins_both x (Some d) None b c j e f = cc
joins_both x (Some d) (Some k) b c j e f = j

-- no two cells lie at one address
not_apart : StandsBy defs sevens both_at_seven (blocks first_cell) two_cells_apart → ⊥
not_apart st =
    let each = st.parts.each in
    let rest = each.4 in
    let first = each.3 in
    let second = rest.3 in
    let here : first.0 ≡ second.0 = (let e : pos first.0 ≡ pos second.0 = sym first.1 ∙ second.1 in cc) in
    let block : rest.0 first.0 ≡ Some (record { shape = 0; fields = second.2.0 }) = ap rest.0 here ∙ second.2.1.here in
    joins_both (st.parts.held first.0) (each.0 first.0) (each.1 first.0) (record { shape = 0; fields = first.2.0 }) (record { shape = 0; fields = second.2.0 }) (each.2.joins first.0) first.2.1.here
    (joins_some (each.1 first.0) (rest.0 first.0) (rest.1 first.0) (record { shape = 0; fields = second.2.0 }) (rest.2.joins first.0) block)

-- the images 0, 1 and 2 are the nodes themselves, whose values are 0, 7 and 7
pub one_edge_for_two : IsAtAddresses (blocks first_cell) → StandsBy defs sevens both_at_seven (blocks first_cell) two_names → ¬ IsLawOfJumps (JumpsBy AreThere LeavesNone)
one_edge_for_two addresses stands law =
    let st = law defs sevens both_at_seven (blocks first_cell) two_names two_cells_apart (null ∷ node 1 ∷ node 2 ∷ []) (ex.edge 0 ∷ ex.edge 0 ∷ []) addresses one_for_two stands in
    not_apart (record { null = refl; kinds = st.kinds; atoms = tt; vars = (tt, (tt, tt)); parts = record { held = st.parts.held; rest = st.parts.rest; split = st.parts.split; each = st.parts.each; alone = st.parts.alone } })

-- ---- an edge is left

cell_left : JumpsBy Picks LeavesSome two_names (unknown 2) (null ∷ []) []
cell_left =
    record {
      count = refl;
      null_image = refl;
      kinds = tt;
      vars = (tt, (tt, tt));
      picked = [];
      left = two_names.graph.edges;
      picks = (refl, refl);
      match = tt;
      atoms = tt;
      whole = λ e. refl;
    }

pub an_edge_is_left : WholeWithoutEdges → IsAtAddresses (blocks first_cell) → StandsBy defs sevens both_at_seven (blocks first_cell) two_names → ¬ IsLawOfJumps (JumpsBy Picks LeavesSome)
an_edge_is_left whole addresses stands law =
    let st = law defs sevens both_at_seven (blocks first_cell) two_names (unknown 2) (null ∷ []) [] addresses cell_left stands in
    let nothing = whole defs both_at_seven (blocks first_cell) (unknown 2) refl refl (_, st) in
    let none : blocks first_cell 7 ≡ None = nothing.none 7 in
    let some : blocks first_cell 7 ≡ Some (cell_with (pos 5) (pos 9)) = get-from_entries nat_cmp_total first_cell 7 in
    no_block (blocks first_cell 7) (cell_with (pos 5) (pos 9)) some none
  where
    no_block : (here : Option Block) (b : Block) → here ≡ Some b → here ≡ None → ⊥
    no_block here b e f = cc
