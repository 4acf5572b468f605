-- The text of a state.
use Rattle.std.specs.Prelude.{◌≡◌, ◌==◌, ◌++◌, ◌∷◌, ℕ, zero, suc, ℤ, pos, negsuc, Bool, List, [], Option, Some, None, codes, map, take, slice_get, option_map, unwrap_or, if◌then◌else◌}
use Rattle.std.specs.List.{list_any, join_by}
use Rattle.std.specs.Str.{bytes_eq}
use Rattle.std.specs.Fmt.{decimal, signed_decimal}
use Rattle.mc_base.specs.declared.ids.NodeId.{NodeId}
use Rattle.mc_base.specs.declared.ids.PredId.{PredId}
use Rattle.mc_base.specs.declared.ids.StructId.{StructId}
use Rattle.mc_base.specs.declared.plain.Atom.{Atom}
use Rattle.mc_base.specs.declared.plain.Atom.TheVariants.{Eq, Ne, In}
use Rattle.mc_base.specs.declared.plain.VarInfo.{VarInfo}
use Rattle.mc_flow.specs.declared.defs.rules.Def.{Def}
use Rattle.mc_flow.specs.declared.defs.shapes.FieldInfo.{FieldInfo}
use Rattle.mc_flow.specs.declared.defs.shapes.StructInfo.{StructInfo}
use Rattle.mc_state.specs.declared.graph.edge.Edge.{Edge}
use Rattle.mc_state.specs.declared.graph.edge.Edge.TheVariants.{Block, Ind, Seg}
use Rattle.mc_pure.specs.Canonical.{IsCanonical}
use Rattle.mc_state.specs.State.{State, pure_of}

-- a text, as bytes
abbrev pub Text : Type 0
Text = List ℕ

-- texts with a gap between each two
abbrev pub joined : Text → List Text → Text
joined gap texts = join_by (λ t. t) gap texts

-- an empty part is -
abbrev pub part : Text → List Text → Text
part gap [] = codes "-"
part gap (t ∷ texts) = joined gap (t ∷ texts)

-- node 0 is 0; another is n and its number
abbrev pub node_text : NodeId → Text
node_text n = if n.0 == 0 then codes "0" else codes "n" ++ decimal n.0

-- the same where it is known, else ?
abbrev pub known_text : Option NodeId → Text
known_text None = codes "?"
known_text (Some n) = node_text n

-- nodes, parted by commas
abbrev pub nodes_text : List NodeId → Text
nodes_text ns = join_by node_text (codes ",") ns

-- the name is that of one of the variables
abbrev pub is_name_of : List VarInfo → Text → Bool
is_name_of vars name = list_any (λ v. bytes_eq v.name name) vars

-- a variable with these before it: a temporary, which has no name, is $ and its number; the first of a name is the name, and a
-- later one has its number after a point
abbrev pub var_name : List VarInfo → ℕ → Text → Text
var_name before x [] = codes "$" ++ decimal x
var_name before x (c ∷ name) = if is_name_of before (c ∷ name) then (c ∷ name) ++ codes "." ++ decimal x else c ∷ name

-- the name of a variable
abbrev pub var_text : List VarInfo → ℕ → Text
var_text vars x = var_name (take x vars) x (unwrap_or (option_map (λ v. v.name) (slice_get vars x)) [])

-- the variables from a number on that are known, each with its node
abbrev pub var_texts : List VarInfo → ℕ → List (Option NodeId) → List Text
var_texts vars x [] = []
var_texts vars x (None ∷ env) = var_texts vars (suc x) env
var_texts vars x (Some n ∷ env) = (var_text vars x ++ codes "=" ++ node_text n) ∷ var_texts vars (suc x) env

-- the name of a predicate
abbrev pub pred_text : List Def → PredId → Text
pred_text defs pred = unwrap_or (option_map (λ d. d.name) (slice_get defs pred.0)) []

-- a field with its node
abbrev pub field_text : FieldInfo → Option NodeId → Text
field_text f n = f.name ++ codes ":" ++ known_text n

-- fields with their nodes, one by one
abbrev pub field_texts : List FieldInfo → List (Option NodeId) → List Text
field_texts [] nodes = []
field_texts (f ∷ fields) [] = []
field_texts (f ∷ fields) (n ∷ nodes) = field_text f n ∷ field_texts fields nodes

-- a block of a struct: its name, with fields and their nodes
abbrev pub block_text : StructInfo → List (Option NodeId) → Text
block_text info nodes = info.name ++ codes "{" ++ joined (codes ",") (field_texts info.fields nodes) ++ codes "}"

-- the same for a struct that is there
abbrev pub struct_text : Option StructInfo → List (Option NodeId) → Text
struct_text None nodes = codes "{}"
struct_text (Some info) nodes = block_text info nodes

-- an edge
abbrev pub edge_text : List Def → List StructInfo → Edge → Text
edge_text defs structs (Block at shape fields) = node_text at ++ codes " -> " ++ struct_text (slice_get structs shape.0) fields
edge_text defs structs (Ind at pred args) = pred_text defs pred ++ codes "(" ++ nodes_text (at ∷ args) ++ codes ")"
edge_text defs structs (Seg at args pred «end» ends) =
    pred_text defs pred ++ codes "(" ++ nodes_text (at ∷ args) ++ codes " -> " ++ nodes_text (end ∷ ends) ++ codes ")"

-- a number that is added, with its sign; 0 is left out
abbrev pub offset_text : ℤ → Text
offset_text (pos zero) = []
offset_text (pos (suc n)) = codes "+" ++ decimal (suc n)
offset_text (negsuc n) = signed_decimal (negsuc n)

-- a node and its range
abbrev pub range_text : NodeId → ℤ → ℤ → Text
range_text n lo hi = node_text n ++ codes " in [" ++ signed_decimal lo ++ codes "," ++ signed_decimal hi ++ codes "]"

-- an atom
abbrev pub atom_text : Atom → Text
atom_text (Eq a b c) = node_text a ++ codes "=" ++ node_text b ++ offset_text c
atom_text (Ne a b c) = node_text a ++ codes "!=" ++ node_text b ++ offset_text c
atom_text (In n lo hi) = range_text n lo hi

-- known variables, edges and these atoms
abbrev pub state_text : List VarInfo → List Def → List StructInfo → State → List Atom → Text
state_text vars defs structs s atoms =
    part (codes " ") (var_texts vars 0 s.env) ++ codes "; "
    ++ part (codes ", ") (map (λ e. edge_text defs structs e.1) s.graph.edges) ++ codes "; "
    ++ part (codes ", ") (map atom_text atoms)

-- the text of a state: that of its canonical list of atoms
abbrev pub IsTextOf : List VarInfo → List Def → List StructInfo → State → Text → Type 0
IsTextOf vars defs structs s text = (atoms : List Atom) × IsCanonical (pure_of s) atoms × (text ≡ state_text vars defs structs s atoms)
