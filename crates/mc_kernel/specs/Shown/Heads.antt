-- A head's line with a well-formed state, and lines whose states are not.
use Rattle.std.specs.Prelude.{◌≡◌, ◌↔◌, pos, Bool, true, false, Some, None, Option, List, [], ◌∷◌, Ok, Err, codes}
use Rattle.mc_base.specs.declared.ids.NodeId.{NodeId}
use Rattle.mc_base.specs.declared.ids.PredId.{PredId}
use Rattle.mc_base.specs.declared.ids.StructId.{StructId}
use Rattle.mc_base.specs.declared.plain.Atom.{Atom}
use Rattle.mc_base.specs.declared.plain.Atom.TheVariants.{Eq, Ne, In}
use Rattle.mc_base.specs.declared.plain.Kind.TheVariants as kind
use Rattle.mc_base.specs.declared.plain.VarInfo.{VarInfo}
use Rattle.mc_base.specs.Nodes.{null}
use Rattle.mc_flow.specs.Defs.Examples.{defs, structs, cell_id, lenlist_id}
use Rattle.mc_state.specs.declared.graph.edge.Edge.{Edge}
use Rattle.mc_state.specs.declared.graph.edge.Edge.TheVariants.{Block, Ind, Seg}
use Rattle.mc_flow.specs.declared.graph.Flow.{Flow}
use Rattle.mc_flow.specs.declared.instr.Instr.TheVariants as instr
use Rattle.mc_lines.specs.declared.cert.line.Line.TheVariants as line
use Rattle.mc_pure.specs.Examples.{node}
use Rattle.mc_state.specs.declared.line.Form.TheVariants.{Certificate}
use Rattle.mc_state.specs.declared.raw_state.NodeKind.{NodeKind}
use Rattle.mc_state.specs.declared.raw_state.NodeKind.TheVariants.{Zero, Int, Ptr}
use Rattle.mc_state.specs.declared.raw_state.RawState.{RawState}
use Rattle.mc_state.specs.RawStates.{IsWellFormedRaw}
use Rattle.mc_kernel.specs.Examples.{at, flow_of}
use Rattle.mc_kernel.specs.Judges.{Knowledge}
use Rattle.mc_kernel.specs.Readings.{Reading, heading, begun, reading_line}

-- int k; struct cell *l;
abbrev pub vars : List VarInfo
vars = record { name = codes "k"; kind = kind.Int } ∷ record { name = codes "l"; kind = kind.Ptr } ∷ []

-- a loop that never ends: its head is point 1
abbrev pub flow : Flow
flow = flow_of vars (at 1 ∷ []) (instr.Skip (at 1) ∷ instr.Skip (at 1) ∷ [])

-- ["cut",1] is read
abbrev pub behind_cut : Reading
behind_cut = record (begun Certificate) { cuts = at 1 ∷ [] }

-- the test finds the states that are well formed
abbrev pub FindsFormed : (RawState → Bool) → Type 0
FindsFormed well = (raw : RawState) → (well raw ≡ true) ↔ IsWellFormedRaw defs vars structs raw

-- ["head",1,state] is refused with premise 4
abbrev pub IsMalformed : RawState → Type 0
IsMalformed raw =
    (k : Knowledge) (well : RawState → Bool) → FindsFormed well
    → reading_line k well flow defs (line.Head (at 1) raw) behind_cut ≡ Err 4

-- a state with these variables, kinds and edges
abbrev pub written : List (Option NodeId) → List NodeKind → List Edge → List Atom → RawState
written vars kinds edges atoms = record { vars = vars; kinds = kinds; edges = edges; atoms = atoms; whole = false }

-- k is node 2 and l node 1
abbrev pub known : List (Option NodeId)
known = Some (node 2) ∷ Some (node 1) ∷ []

-- "0", "p", "i", "p": nodes 1 and 3 are pointers, and node 2 is a number
abbrev pub kinds : List NodeKind
kinds = Zero ∷ Ptr ∷ Int ∷ Ptr ∷ []

-- a cell at node 1 that holds node 2 and points to node 3
abbrev pub cell : Edge
cell = Block (node 1) cell_id (Some (node 2) ∷ Some (node 3) ∷ [])

-- a list of length node 2 at node 3, and a segment of one of length node 2 from there to null, where it is of length 0
abbrev pub parts : List Edge
parts = cell ∷ Ind (node 3) lenlist_id (node 2 ∷ []) ∷ Seg (node 3) (node 2 ∷ []) lenlist_id null (null ∷ []) ∷ []

-- [[2,1],["0","p","i","p"],[..],[["!",1,0,0],["r",2,0,9],["=",3,0,0]]]
abbrev pub good : RawState
good = written known kinds parts
    (Ne (node 1) null (pos 0) ∷ In (node 2) (pos 0) (pos 9) ∷ Eq (node 3) null (pos 0) ∷ [])

-- that state with other variables
abbrev pub with_vars : List (Option NodeId) → RawState
with_vars vars = written vars kinds (cell ∷ []) []

-- that state with another edge alone
abbrev pub with_edge : Edge → RawState
with_edge e = written known kinds (e ∷ []) []

-- that state with an atom alone
abbrev pub with_written : Atom → RawState
with_written f = written known kinds [] (f ∷ [])

-- that state with other kinds, and no node named but null
abbrev pub with_kinds : List NodeKind → RawState
with_kinds kinds = written (None ∷ None ∷ []) kinds [] []

-- ["head",1,state] is read
abbrev pub IsRead : RawState → Reading → Type 0
IsRead raw new =
    (k : Knowledge) (well : RawState → Bool) → FindsFormed well
    → reading_line k well flow defs (line.Head (at 1) raw) behind_cut ≡ Ok new

-- and this comes of the document
abbrev pub good_read : Reading
good_read = record behind_cut { stage = heading; heads = (at 1, good) ∷ [] }

-- there is no third struct
abbrev pub no_struct : StructId
no_struct = record { 0 = 2 }

-- there is no fourth predicate
abbrev pub no_pred : PredId
no_pred = record { 0 = 3 }
