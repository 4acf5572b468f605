-- Doubly linked lists: a segment that is unfolded from its end, and states at which that is refused.
use Rattle.std.specs.Prelude.{ℕ, pos, true, false, Some, None, List, [], ◌∷◌, codes, get_or}
use Rattle.mc_base.specs.declared.ids.EdgeId.{EdgeId}
use Rattle.mc_base.specs.declared.ids.PredId.{PredId}
use Rattle.mc_base.specs.declared.ids.StructId.{StructId}
use Rattle.mc_base.specs.declared.plain.Atom.TheVariants.{Eq, Ne}
use Rattle.mc_base.specs.declared.plain.Kind.TheVariants.{Int, Ptr}
use Rattle.mc_base.specs.Nodes.{Valuation, null}
use Rattle.mc_flow.specs.declared.defs.rules.Def.{Def}
use Rattle.mc_flow.specs.declared.defs.rules.DefAtom.TheVariants as atom
use Rattle.mc_flow.specs.declared.defs.rules.Rule.{Rule}
use Rattle.mc_flow.specs.declared.defs.shapes.StructInfo.{StructInfo}
use Rattle.mc_state.specs.declared.graph.edge.Edge.TheVariants.{Block, Ind, Seg}
use Rattle.mc_pure.specs.Examples.{node}
use Rattle.mc_pure.specs.Pure.{Kinds}
use Rattle.mc_state.specs.CoverExamples.{state_of, entry}
use Rattle.mc_state.specs.State.{State}

-- struct node { int data; struct node *next; struct node *prev; };
abbrev pub node_struct : StructInfo
node_struct =
    record {
      name = codes "node";
      fields = record { name = codes "data"; kind = Int } ∷ record { name = codes "next"; kind = Ptr }
          ∷ record { name = codes "prev"; kind = Ptr } ∷ [];
    }

abbrev pub structs : List StructInfo
structs = node_struct ∷ []

abbrev pub node_id : StructId
node_id = record { 0 = 0 }

abbrev pub dll_id : PredId
dll_id = record { 0 = 0 }

abbrev pub same_id : PredId
same_id = record { 0 = 1 }

-- rule { this = 0; }
abbrev pub null_rule : Rule
null_rule = record { block = None; contents = []; names = Ptr ∷ Ptr ∷ []; calls = []; atoms = atom.Eq 0 None (pos 0) false ∷ [] }

-- rule { this -> node { data: _, next: n, prev: p }; p = prev; dll(n, this); }
abbrev pub node_rule : Rule
node_rule =
    record {
      block = Some node_id;
      contents = 2 ∷ 3 ∷ 4 ∷ [];
      names = Ptr ∷ Ptr ∷ Int ∷ Ptr ∷ Ptr ∷ [];
      calls = record { pred = dll_id; at = 3; args = 0 ∷ [] } ∷ [];
      atoms = atom.Eq 4 (Some 1) (pos 0) false ∷ [];
    }

-- rule { this -> node { data: _, next: n, prev: p }; same(n, prev); }
abbrev pub same_rule : Rule
same_rule =
    record {
      block = Some node_id;
      contents = 2 ∷ 3 ∷ 4 ∷ [];
      names = Ptr ∷ Ptr ∷ Int ∷ Ptr ∷ Ptr ∷ [];
      calls = record { pred = same_id; at = 3; args = 1 ∷ [] } ∷ [];
      atoms = [];
    }

-- def dll(this, ptr prev) { .. }
abbrev pub dll_def : Def
dll_def = record { name = codes "dll"; params = Ptr ∷ []; rules = null_rule ∷ node_rule ∷ [] }

-- def same(this, ptr prev) { .. }
abbrev pub same_def : Def
same_def = record { name = codes "same"; params = Ptr ∷ []; rules = null_rule ∷ same_rule ∷ [] }

abbrev pub dlls : List Def
dlls = dll_def ∷ same_def ∷ []

-- the edge with a number
abbrev pub edge : ℕ → EdgeId
edge n = record { 0 = n }

-- the nodes from 1 on have these values: 7 and 9, twice
abbrev pub seven_and_nine : Valuation
seven_and_nine n = get_or (pos 0 ∷ pos 7 ∷ pos 9 ∷ pos 7 ∷ pos 9 ∷ []) n (pos 0)

-- four pointers
abbrev pub four_pointers : Kinds
four_pointers = (node 1, Ptr) ∷ (node 2, Ptr) ∷ (node 3, Ptr) ∷ (node 4, Ptr) ∷ []

-- a segment of a doubly linked list, from node 1 after node 2 to node 3 after node 4
abbrev pub dll_segment : State
dll_segment = state_of four_pointers (Seg (node 1) (node 2 ∷ []) dll_id (node 3) (node 4 ∷ []) ∷ []) []

-- it is empty: it ends where it begins
abbrev pub dll_emptied : State
dll_emptied =
    record {
      env = [];
      kinds = four_pointers;
      graph = record { edges = []; next = 1 };
      atoms = Eq (node 1) (node 3) (pos 0) ∷ Eq (node 2) (node 4) (pos 0) ∷ [];
      next = 5;
      whole = true;
    }

-- a segment to a block, node 5 after node 6, whose next is node 3 and which is node 4
abbrev pub segment_then_node : State
segment_then_node =
    record {
      env = [];
      kinds = (node 1, Ptr) ∷ (node 2, Ptr) ∷ (node 3, Ptr) ∷ (node 4, Ptr)
          ∷ (node 5, Ptr) ∷ (node 6, Ptr) ∷ (node 7, Int) ∷ (node 8, Ptr) ∷ (node 9, Ptr) ∷ [];
      graph = record {
        edges = entry 1 (Seg (node 1) (node 2 ∷ []) dll_id (node 5) (node 6 ∷ []))
            ∷ entry 2 (Block (node 5) node_id (Some (node 7) ∷ Some (node 8) ∷ Some (node 9) ∷ [])) ∷ [];
        next = 3;
      };
      atoms = Eq (node 9) (node 6) (pos 0) ∷ Eq (node 8) (node 3) (pos 0) ∷ Eq (node 5) (node 4) (pos 0) ∷ [];
      next = 10;
      whole = true;
    }

-- ---- where the rule is refused
-- the same segment in a state that is false
abbrev pub false_segment : State
false_segment =
    state_of four_pointers (Seg (node 1) (node 2 ∷ []) dll_id (node 3) (node 4 ∷ []) ∷ []) (Ne null null (pos 0) ∷ [])

-- a doubly linked list, which is no segment
abbrev pub dll_whole : State
dll_whole = state_of ((node 1, Ptr) ∷ (node 2, Ptr) ∷ []) (Ind (node 1) dll_id (node 2 ∷ []) ∷ []) []

-- node 1 is null
abbrev pub null_and_nine : Valuation
null_and_nine n = get_or (pos 0 ∷ pos 0 ∷ pos 9 ∷ []) n (pos 0)

-- a segment whose argument stays the same, so that it says nothing of its last block
abbrev pub same_segment : State
same_segment = state_of four_pointers (Seg (node 1) (node 2 ∷ []) same_id (node 3) (node 4 ∷ []) ∷ []) []
