-- Lines have no floats and nest less deep than JSON is read.
use Rattle.std.proofs.Common.{◌≡◌, ◌≤◌, ℕ, suc, ℤ, pos, negsuc, List, [], ◌∷◌, Bool, true, false, Option, Some, None, map, arith, refl, subst, sym}
use Rattle.std.specs.Prelude.{Result, Ok, Err, IfOk, IsUtf8, codes}
use Rattle.serde_json.specs.Data.{Data, depth, items_depth}
use Rattle.serde_json.specs.Read.{read, max_depth}
use Rattle.serde_json.specs.View.{items_of}
use Rattle.serde_json.specs.Written.{compact_text, has_float, items_have_float}
use Rattle.mc_base.specs.declared.ids.EdgeId.{EdgeId}
use Rattle.mc_base.specs.declared.ids.NodeId.{NodeId}
use Rattle.mc_base.specs.declared.plain.Atom.{Atom}
use Rattle.mc_base.specs.declared.plain.Atom.TheVariants.{Eq, Ne, In}
use Rattle.mc_base.specs.declared.plain.Kind.{Kind}
use Rattle.mc_base.specs.declared.plain.Kind.TheVariants as kind
use Rattle.mc_state.specs.declared.graph.edge.Edge.{Edge}
use Rattle.mc_state.specs.declared.graph.edge.Edge.TheVariants.{Block, Ind, Seg}
use Rattle.mc_state.specs.declared.line.Form.{Form}
use Rattle.mc_state.specs.declared.line.Form.TheVariants.{Certificate, Chain}
use Rattle.mc_state.specs.declared.line.JoinStep.{JoinStep}
use Rattle.mc_state.specs.declared.line.JoinStep.TheVariants.{J1, J2, J3, J4, J5, J6, J7}
use Rattle.mc_state.specs.declared.line.Side.{Side}
use Rattle.mc_state.specs.declared.line.Side.TheVariants.{Left, Right}
use Rattle.mc_state.specs.declared.line.Version.{Version}
use Rattle.mc_state.specs.declared.line.Version.TheVariants.{One}
use Rattle.mc_state.specs.declared.raw_state.NodeKind.{NodeKind}
use Rattle.mc_state.specs.declared.raw_state.NodeKind.TheVariants.{Zero, Int, Ptr}
use Rattle.mc_state.specs.declared.raw_state.RawState.{RawState}
use Rattle.mc_lines.specs.declared.cert.line.Line.{Line}
use Rattle.mc_lines.specs.declared.cert.line.Line.TheVariants.{Header, Cut, Head, Pass, End, Step, L1, L2, L3, L4, L5, L6, L7, L8, L9, L10}
use Rattle.mc_lines.specs.declared.cert.line.Line.TheVariants.{L11, L12, L13, L14, L15, C1, C2, C3}
use Rattle.mc_lines.specs.Cert.Document.{LineFits, Spells, data_of}
use Rattle.mc_lines.specs.Cert.Entries.{atom_data, count_data, edge_data, edge_id_data, form_data, ind_entries, kind_data, list_data, named_data, node_data, node_kind_data, option_data, rule_name, seg_entries, side_data, signed_data, state_data, step_data, values_data, version_data, whole_entry, word_data}

-- no float stands in it, and it nests at most so deep
abbrev pub IsFlat : ℕ → Data → Type 0
IsFlat k d = (has_float d ≡ false) × (depth d ≤ k)

abbrev AreFlat : ℕ → List Data → Type 0
AreFlat k [] = Unit {0}
AreFlat k (d ∷ ds) = IsFlat k d × AreFlat k ds

no_deeper : (k : ℕ) → 0 ≤ k
no_deeper k = omega arith

items_flat : (k : ℕ) (ds : List Data) → AreFlat k ds → (items_have_float (items_of ds) ≡ false) × (items_depth (items_of ds) ≤ k)
items_flat k [] h = (refl, no_deeper k)
items_flat k (d ∷ ds) h =
    let rest = items_flat k ds h.1 in
    let first : depth d ≤ k = h.0.1 in
    let others : items_depth (items_of ds) ≤ k = rest.1 in
    (rw h.0.0 rest.0, omega arith)

values_flat : (k : ℕ) (ds : List Data) → AreFlat k ds → IsFlat (suc k) (values_data ds)
values_flat k ds h =
    let all = items_flat k ds h in
    let within : items_depth (items_of ds) ≤ k = all.1 in
    (all.0, omega arith)

map_flat : {T : Type 0} (spelled : T → Data) (k : ℕ) → ((x : T) → IsFlat k (spelled x)) → (xs : List T) → AreFlat k (map spelled xs)
map_flat spelled k each [] = tt
map_flat spelled k each (x ∷ xs) = (each x, map_flat spelled k each xs)

list_flat : {T : Type 0} (spelled : T → Data) (k : ℕ) → ((x : T) → IsFlat k (spelled x)) → (xs : List T) → IsFlat (suc k) (list_data spelled xs)
list_flat spelled k each xs = values_flat k (map spelled xs) (map_flat spelled k each xs)

word_flat : (k : ℕ) (s : List ℕ) → IsFlat k (word_data s)
word_flat k s = (refl, no_deeper k)

named_flat : (k : ℕ) (s : List ℕ) (ds : List Data) → AreFlat k ds → IsFlat (suc k) (named_data s ds)
named_flat k s ds h = values_flat k (word_data s ∷ ds) (word_flat k s, h)

count_flat : (k n : ℕ) → IsFlat k (count_data n)
count_flat k n = (refl, no_deeper k)

signed_flat : (k : ℕ) (z : ℤ) → IsFlat k (signed_data z)
signed_flat k (pos n) = (refl, no_deeper k)
signed_flat k (negsuc n) = (refl, no_deeper k)

kind_flat : (k : ℕ) (x : Kind) → IsFlat k (kind_data x)
kind_flat k kind.Int = (refl, no_deeper k)
kind_flat k kind.Ptr = (refl, no_deeper k)

node_kind_flat : (k : ℕ) (x : NodeKind) → IsFlat k (node_kind_data x)
node_kind_flat k Zero = (refl, no_deeper k)
node_kind_flat k Int = (refl, no_deeper k)
node_kind_flat k Ptr = (refl, no_deeper k)

form_flat : (k : ℕ) (x : Form) → IsFlat k (form_data x)
form_flat k Certificate = (refl, no_deeper k)
form_flat k Chain = (refl, no_deeper k)

version_flat : (k : ℕ) (x : Version) → IsFlat k (version_data x)
version_flat k One = (refl, no_deeper k)

side_flat : (k : ℕ) (x : Side) → IsFlat k (side_data x)
side_flat k Left = (refl, no_deeper k)
side_flat k Right = (refl, no_deeper k)

node_flat : (k : ℕ) (x : Option NodeId) → IsFlat k (option_data node_data x)
node_flat k None = (refl, no_deeper k)
node_flat k (Some n) = (refl, no_deeper k)

block_flat : (k : ℕ) (x : Option EdgeId) → IsFlat k (option_data edge_id_data x)
block_flat k None = (refl, no_deeper k)
block_flat k (Some n) = (refl, no_deeper k)

nodes_flat : (k : ℕ) (xs : List NodeId) → IsFlat (suc k) (list_data node_data xs)
nodes_flat k xs = list_flat node_data k (λ n. count_flat k n.0) xs

edge_ids_flat : (k : ℕ) (xs : List EdgeId) → IsFlat (suc k) (list_data edge_id_data xs)
edge_ids_flat k xs = list_flat edge_id_data k (λ n. count_flat k n.0) xs

fields_flat : (k : ℕ) (xs : List (Option NodeId)) → IsFlat (suc k) (list_data (option_data node_data) xs)
fields_flat k xs = list_flat (option_data node_data) k (node_flat k) xs

step_flat : (k : ℕ) (x : JoinStep) → IsFlat (suc k) (step_data x)
step_flat k J1 = named_flat k (codes "J1") [] tt
step_flat k J2 = named_flat k (codes "J2") [] tt
step_flat k J3 = named_flat k (codes "J3") [] tt
step_flat k (J4 p) = named_flat k (codes "J4") (count_data p.0 ∷ []) (count_flat k p.0, tt)
step_flat k (J5 p) = named_flat k (codes "J5") (count_data p.0 ∷ []) (count_flat k p.0, tt)
step_flat k (J6 p s n) = named_flat k (codes "J6") (count_data p.0 ∷ side_data s ∷ count_data n ∷ []) (count_flat k p.0, (side_flat k s, (count_flat k n, tt)))
step_flat k (J7 p s n) = named_flat k (codes "J7") (count_data p.0 ∷ side_data s ∷ count_data n ∷ []) (count_flat k p.0, (side_flat k s, (count_flat k n, tt)))

steps_flat : (k : ℕ) (xs : List JoinStep) → IsFlat (suc (suc k)) (list_data step_data xs)
steps_flat k xs = list_flat step_data (suc k) (step_flat k) xs

atom_flat : (k : ℕ) (x : Atom) → IsFlat (suc k) (atom_data x)
atom_flat k (Eq a b c) = named_flat k (codes "=") (node_data a ∷ node_data b ∷ signed_data c ∷ []) (count_flat k a.0, (count_flat k b.0, (signed_flat k c, tt)))
atom_flat k (Ne a b c) = named_flat k (codes "!") (node_data a ∷ node_data b ∷ signed_data c ∷ []) (count_flat k a.0, (count_flat k b.0, (signed_flat k c, tt)))
atom_flat k (In a lo hi) = named_flat k (codes "r") (node_data a ∷ signed_data lo ∷ signed_data hi ∷ []) (count_flat k a.0, (signed_flat k lo, (signed_flat k hi, tt)))

edge_flat : (k : ℕ) (x : Edge) → IsFlat (suc (suc k)) (edge_data x)
edge_flat k (Block at shape fields) =
    named_flat (suc k) (codes "B") (node_data at ∷ count_data shape.0 ∷ list_data (option_data node_data) fields ∷ [])
    (count_flat (suc k) at.0, (count_flat (suc k) shape.0, (fields_flat k fields, tt)))
edge_flat k (Ind at pred args) =
    named_flat (suc k) (codes "I") (node_data at ∷ count_data pred.0 ∷ list_data node_data args ∷ [])
    (count_flat (suc k) at.0, (count_flat (suc k) pred.0, (nodes_flat k args, tt)))
edge_flat k (Seg at args pred e ends) =
    named_flat (suc k) (codes "S") (node_data at ∷ list_data node_data args ∷ count_data pred.0 ∷ node_data e ∷ list_data node_data ends ∷ [])
    (count_flat (suc k) at.0, (nodes_flat k args, (count_flat (suc k) pred.0, (count_flat (suc k) e.0, (nodes_flat k ends, tt)))))

whole_flat : (k : ℕ) (b : Bool) → AreFlat k (whole_entry b)
whole_flat k true = ((refl, no_deeper k), tt)
whole_flat k false = tt

state_flat : (k : ℕ) (x : RawState) → IsFlat (suc (suc (suc (suc k)))) (state_data x)
state_flat k x =
    values_flat (suc (suc (suc k)))
    (list_data (option_data node_data) x.vars ∷ list_data node_kind_data x.kinds ∷ list_data edge_data x.edges ∷ list_data atom_data x.atoms ∷ whole_entry x.whole) (
      fields_flat (suc (suc k)) x.vars,
      (
        list_flat node_kind_data (suc (suc k)) (node_kind_flat (suc (suc k))) x.kinds,
        (list_flat edge_data (suc (suc k)) (edge_flat k) x.edges, (list_flat atom_data (suc (suc k)) (atom_flat (suc k)) x.atoms, whole_flat (suc (suc (suc k))) x.whole)),
      ),
    )

plain_flat : (k : ℕ) (s : List ℕ) → IsFlat (suc k) (named_data s [])
plain_flat k s = named_flat k s [] tt

one_flat : (k : ℕ) (s : List ℕ) (a : Data) → IsFlat k a → IsFlat (suc k) (named_data s (a ∷ []))
one_flat k s a h = named_flat k s (a ∷ []) (h, tt)

two_flat : (k : ℕ) (s : List ℕ) (a b : Data) → IsFlat k a → IsFlat k b → IsFlat (suc k) (named_data s (a ∷ b ∷ []))
two_flat k s a b h i = named_flat k s (a ∷ b ∷ []) (h, (i, tt))

three_flat : (k : ℕ) (s : List ℕ) (a b c : Data) → IsFlat k a → IsFlat k b → IsFlat k c → IsFlat (suc k) (named_data s (a ∷ b ∷ c ∷ []))
three_flat k s a b c h i j = named_flat k s (a ∷ b ∷ c ∷ []) (h, (i, (j, tt)))

pub line_flat : (l : Line) → IsFlat 127 (data_of l)
line_flat (Header v f) = two_flat 126 (codes "memcad") (version_data v) (form_data f) (version_flat 126 v) (form_flat 126 f)
line_flat (Cut p) = one_flat 126 (codes "cut") (count_data p.0) (count_flat 126 p.0)
line_flat (Head p raw) = two_flat 126 (codes "head") (count_data p.0) (state_data raw) (count_flat 126 p.0) (state_flat 122 raw)
line_flat Pass = plain_flat 126 (codes "pass")
line_flat End = plain_flat 126 (codes "end")
line_flat (Step rule) = plain_flat 126 (rule_name rule)
line_flat (L1 e) = one_flat 126 (codes "L1") (edge_id_data e) (count_flat 126 e.0)
line_flat (L2 e) = one_flat 126 (codes "L2") (edge_id_data e) (count_flat 126 e.0)
line_flat (L3 fold) =
    named_flat 126 (codes "L3") (ind_entries fold)
    (count_flat 126 fold.pred.0, (count_flat 126 fold.rule, (nodes_flat 125 fold.names, (block_flat 126 fold.block, (edge_ids_flat 125 fold.edges, tt)))))
line_flat (L4 fold) =
    named_flat 126 (codes "L4") (seg_entries fold)
    (count_flat 126 fold.pred.0, (count_flat 126 fold.rule, (nodes_flat 125 fold.names, (count_flat 126 fold.block.0, (edge_ids_flat 125 fold.edges, (count_flat 126 fold.call, tt))))))
line_flat (L5 i j) = two_flat 126 (codes "L5") (edge_id_data i) (edge_id_data j) (count_flat 126 i.0) (count_flat 126 j.0)
line_flat (L6 i j) = two_flat 126 (codes "L6") (edge_id_data i) (edge_id_data j) (count_flat 126 i.0) (count_flat 126 j.0)
line_flat (L7 pred a args b ends) =
    named_flat 126 (codes "L7") (count_data pred.0 ∷ node_data a ∷ list_data node_data args ∷ node_data b ∷ list_data node_data ends ∷ [])
    (count_flat 126 pred.0, (count_flat 126 a.0, (nodes_flat 125 args, (count_flat 126 b.0, (nodes_flat 125 ends, tt)))))
line_flat (L8 n c k) = three_flat 126 (codes "L8") (node_data n) (signed_data c) (kind_data k) (count_flat 126 n.0) (signed_flat 126 c) (kind_flat 126 k)
line_flat (L9 n m) = two_flat 126 (codes "L9") (node_data n) (node_data m) (count_flat 126 n.0) (count_flat 126 m.0)
line_flat (L10 e) = one_flat 126 (codes "L10") (edge_id_data e) (count_flat 126 e.0)
line_flat (L11 n) = one_flat 126 (codes "L11") (node_data n) (count_flat 126 n.0)
line_flat L12 = plain_flat 126 (codes "L12")
line_flat (L13 j images edges) = three_flat 126 (codes "L13") (count_data j) (list_data node_data images) (list_data edge_id_data edges) (count_flat 126 j) (nodes_flat 125 images) (edge_ids_flat 125 edges)
line_flat (L14 e) = one_flat 126 (codes "L14") (edge_id_data e) (count_flat 126 e.0)
line_flat (L15 e) = one_flat 126 (codes "L15") (edge_id_data e) (count_flat 126 e.0)
line_flat C1 = plain_flat 126 (codes "C1")
line_flat (C2 tries) = one_flat 126 (codes "C2") (list_data (list_data step_data) tries) (list_flat (list_data step_data) 125 (steps_flat 123) tries)
line_flat (C3 j steps) = two_flat 126 (codes "C3") (count_data j) (list_data step_data steps) (count_flat 126 j) (steps_flat 124 steps)

-- ---- what is written for a line

pub written_compactly : {B E : Type 0} (items : B → List ℕ) (r : Result B E) (d : Data) (l : Line) → d ≡ data_of l → IfOk r (λ b. has_float d ≡ false → items b ≡ compact_text d) → IfOk r (λ b. items b ≡ compact_text (data_of l))
written_compactly items (Ok b) d l e h = subst (λ x. items b ≡ compact_text x) e (h (subst (λ x. has_float x ≡ false) (sym e) (line_flat l).0))
written_compactly items (Err f) d l e h = h

pub written_readably : {B E : Type 0} (items : B → List ℕ) (r : Result B E) (d : Data) (l : Line) → d ≡ data_of l → LineFits l → IfOk r (λ b. IsUtf8 (items b)) → IfOk r (λ b. depth d ≤ max_depth → read (items b) ≡ Some d) → IfOk r (λ b. Spells (items b) l)
written_readably items (Ok b) d l e f utf8 h = (d, (utf8, h (subst (λ x. depth x ≤ 127) (sym e) (line_flat l).1)), (e, f))
written_readably items (Err x) d l e f utf8 h = h
