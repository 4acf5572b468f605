-- Lists, lists of a length, and trees, on small heaps.
use Rattle.std.specs.Prelude.{ℕ, ℤ, pos, negsuc, true, false, Some, None, List, [], ◌∷◌, codes}
use Rattle.std.specs.FinMap as map
use Rattle.mc_base.specs.declared.ids.PredId.{PredId}
use Rattle.mc_base.specs.declared.ids.StructId.{StructId}
use Rattle.mc_base.specs.declared.plain.Kind.TheVariants.{Int, Ptr}
use Rattle.mc_flow.specs.Heap.Heap.{Block, Region, region_of}
use Rattle.mc_flow.specs.declared.defs.rules.Def.{Def}
use Rattle.mc_flow.specs.declared.defs.rules.DefAtom.TheVariants.{Eq}
use Rattle.mc_flow.specs.declared.defs.rules.Rule.{Rule}
use Rattle.mc_flow.specs.declared.defs.shapes.StructInfo.{StructInfo}

-- struct cell { int data; struct cell *next; }; struct fork { struct fork *left, *right; };
abbrev pub cell_struct : StructInfo
cell_struct = record {
  name = codes "cell";
  fields = record { name = codes "data"; kind = Int }
      ∷ record { name = codes "next"; kind = Ptr } ∷ [];
}

abbrev pub fork_struct : StructInfo
fork_struct = record {
  name = codes "fork";
  fields = record { name = codes "left"; kind = Ptr }
      ∷ record { name = codes "right"; kind = Ptr } ∷ [];
}

abbrev pub structs : List StructInfo
structs = cell_struct ∷ fork_struct ∷ []

abbrev pub cell_id : StructId
cell_id = record { 0 = 0 }

abbrev pub fork_id : StructId
fork_id = record { 0 = 1 }

abbrev pub list_id : PredId
list_id = record { 0 = 0 }

abbrev pub lenlist_id : PredId
lenlist_id = record { 0 = 1 }

abbrev pub tree_id : PredId
tree_id = record { 0 = 2 }

-- rule { this = 0; }
abbrev pub null_rule : Rule
null_rule = record { block = None; contents = []; names = Ptr ∷ []; calls = []; atoms = Eq 0 None (pos 0) false ∷ [] }

-- rule { this->cell { data: d, next: n }; list(n); }
abbrev pub list_rule : Rule
list_rule =
    record {
      block = Some cell_id;
      contents = 1 ∷ 2 ∷ [];
      names = Ptr ∷ Int ∷ Ptr
          ∷ [];
      calls = record { pred = list_id; at = 2; args = [] } ∷ [];
      atoms = [];
    }

-- rule { this = 0; length = 0; }
abbrev pub no_length_rule : Rule
no_length_rule =
    record {
      block = None;
      contents = [];
      names = Ptr ∷ Int ∷ [];
      calls = [];
      atoms = Eq 0 None (pos 0) false
          ∷ Eq 1 None (pos 0) false ∷ [];
    }

-- rule { this->cell { data: d, next: n }; int rest = length - 1; lenlist(n, rest); }
abbrev pub lenlist_rule : Rule
lenlist_rule =
    record {
      block = Some cell_id;
      contents = 2 ∷ 3 ∷ [];
      names = Ptr ∷ Int ∷ Int ∷ Ptr ∷ Int ∷ [];
      calls = record { pred = lenlist_id; at = 3; args = 4 ∷ [] } ∷ [];
      atoms = Eq 4 (Some 1) (negsuc 0) true ∷ [];
    }

-- rule { this->fork { left: l, right: r }; tree(l); tree(r); }
abbrev pub tree_rule : Rule
tree_rule =
    record {
      block = Some fork_id;
      contents = 1 ∷ 2 ∷ [];
      names = Ptr ∷ Ptr ∷ Ptr ∷ [];
      calls = record { pred = tree_id; at = 1; args = [] } ∷ record { pred = tree_id; at = 2; args = [] } ∷ [];
      atoms = [];
    }

abbrev pub list_def : Def
list_def = record { name = codes "list"; params = []; rules = null_rule ∷ list_rule ∷ [] }

abbrev pub lenlist_def : Def
lenlist_def = record { name = codes "lenlist"; params = Int ∷ []; rules = no_length_rule ∷ lenlist_rule ∷ [] }

abbrev pub tree_def : Def
tree_def = record { name = codes "tree"; params = []; rules = null_rule ∷ tree_rule ∷ [] }

abbrev pub defs : List Def
defs = list_def ∷ lenlist_def ∷ tree_def ∷ []

-- blocks with both fields defined
abbrev pub cell_with : ℤ → ℤ → Block
cell_with item next = record { shape = 0; fields = Some item ∷ Some next ∷ [] }

abbrev pub fork_with : ℤ → ℤ → Block
fork_with left right = record { shape = 1; fields = Some left ∷ Some right ∷ [] }

-- the region of a heap with these blocks
abbrev pub blocks : List (ℕ × Block) → Region
blocks entries = region_of (map.from_entries entries)

-- the cells 7 and 9, of which the first points to the second
abbrev pub two_cells : List (ℕ × Block)
two_cells = (7, cell_with (pos 5) (pos 9)) ∷ (9, cell_with (pos 6) (pos 0)) ∷ []

-- the first alone, and the second alone
abbrev pub first_cell : List (ℕ × Block)
first_cell = (7, cell_with (pos 5) (pos 9)) ∷ []

abbrev pub second_cell : List (ℕ × Block)
second_cell = (9, cell_with (pos 6) (pos 0)) ∷ []

-- a fork both of whose pointers point to one fork
abbrev pub shared_fork : List (ℕ × Block)
shared_fork = (7, fork_with (pos 9) (pos 9)) ∷ (9, fork_with (pos 0) (pos 0)) ∷ []

-- a fork with a fork to its left
abbrev pub two_forks : List (ℕ × Block)
two_forks = (7, fork_with (pos 9) (pos 0)) ∷ (9, fork_with (pos 0) (pos 0)) ∷ []
