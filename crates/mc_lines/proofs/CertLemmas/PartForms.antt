-- Which step, edge or atom an array can be the one of, by its name.
use Rattle.std.proofs.Common.{◌≡◌, ◌≢◌, ◌≤◌, ℕ, ℤ, Bool, true, false, List, [], ◌∷◌, Option, length, ◌∙◌, lit≤, refl, sym, ap, subst}
use Rattle.std.specs.Prelude.{codes}
use Rattle.std.specs.Str.{bytes_eq}
use Rattle.serde_json.specs.Data.{Data}
use Rattle.mc_base.specs.declared.ids.NodeId.{NodeId}
use Rattle.mc_base.specs.declared.ids.PredId.{PredId}
use Rattle.mc_base.specs.declared.ids.StructId.{StructId}
use Rattle.mc_base.specs.declared.plain.Atom.{Atom}
use Rattle.mc_base.specs.declared.plain.Atom.TheVariants.{Eq, Ne, In}
use Rattle.mc_state.specs.declared.graph.edge.Edge.{Edge}
use Rattle.mc_state.specs.declared.graph.edge.Edge.TheVariants.{Block, Ind, Seg}
use Rattle.mc_state.specs.declared.line.JoinStep.{JoinStep}
use Rattle.mc_state.specs.declared.line.JoinStep.TheVariants.{J1, J2, J3, J4, J5, J6, J7}
use Rattle.mc_state.specs.declared.line.Side.{Side}
use Rattle.mc_state.specs.declared.raw_state.RawState.{RawState}
use Rattle.mc_lines.specs.Cert.Entries.{atom_data, count_data, edge_data, list_data, named_data, node_data, node_kind_data, option_data, state_data, state_entries, values_data, whole_entry, pred_data, side_data, signed_data, step_data, struct_data}
use Rattle.mc_lines.proofs.CertLemmas.Arrays.{Either, IsNamed, OfNamed, entries_back, entries_in, form_of, named_once, values_in, values_once}

-- ---- steps

abbrev pub IsStep : List ℕ → List Data → JoinStep → Type 0
IsStep s ds y =
    Either (bytes_eq s (codes "J1")) ((y ≡ J1) × (ds ≡ []))
    (Either (bytes_eq s (codes "J2")) ((y ≡ J2) × (ds ≡ []))
    (Either (bytes_eq s (codes "J3")) ((y ≡ J3) × (ds ≡ []))
    (Either (bytes_eq s (codes "J4")) ((p : PredId) × (y ≡ J4 p) × (ds ≡ pred_data p ∷ []))
    (Either (bytes_eq s (codes "J5")) ((p : PredId) × (y ≡ J5 p) × (ds ≡ pred_data p ∷ []))
    (Either (bytes_eq s (codes "J6")) ((p : PredId) × (side : Side) × (k : ℕ) × (y ≡ J6 p side k) × (ds ≡ pred_data p ∷ side_data side ∷ count_data k ∷ []))
    (Either (bytes_eq s (codes "J7")) ((p : PredId) × (side : Side) × (k : ℕ) × (y ≡ J7 p side k) × (ds ≡ pred_data p ∷ side_data side ∷ count_data k ∷ [])) ⊥))))))

own_step : (y : JoinStep) → OfNamed (λ s ds. IsStep s ds y) (values_in (step_data y))
own_step J1 = (refl, refl)
own_step J2 = (refl, refl)
own_step J3 = (refl, refl)
own_step (J4 p) = (p, refl, refl)
own_step (J5 p) = (p, refl, refl)
own_step (J6 p side k) = (p, side, k, refl, refl)
own_step (J7 p side k) = (p, side, k, refl, refl)

pub step_form : (s : List ℕ) (ds : List Data) (y : JoinStep) → named_data s ds ≡ step_data y → IsStep s ds y
step_form s ds y e = form_of step_data IsStep own_step s ds y e

-- ---- edges

abbrev pub IsEdge : List ℕ → List Data → Edge → Type 0
IsEdge s ds y =
    Either (bytes_eq s (codes "B")) ((at : NodeId) × (shape : StructId) × (fields : List (Option NodeId)) × (y ≡ Block at shape fields) × (ds ≡ node_data at ∷ struct_data shape ∷ list_data (option_data node_data) fields ∷ []))
    (Either (bytes_eq s (codes "I")) ((at : NodeId) × (pred : PredId) × (args : List NodeId) × (y ≡ Ind at pred args) × (ds ≡ node_data at ∷ pred_data pred ∷ list_data node_data args ∷ []))
    (Either (bytes_eq s (codes "S"))
    ((at : NodeId) × (args : List NodeId) × (pred : PredId) × (e : NodeId) × (ends : List NodeId) × (y ≡ Seg at args pred e ends)
    × (ds ≡ node_data at ∷ list_data node_data args ∷ pred_data pred ∷ node_data e ∷ list_data node_data ends ∷ [])) ⊥))

own_edge : (y : Edge) → OfNamed (λ s ds. IsEdge s ds y) (values_in (edge_data y))
own_edge (Block at shape fields) = (at, shape, fields, refl, refl)
own_edge (Ind at pred args) = (at, pred, args, refl, refl)
own_edge (Seg at args pred e ends) = (at, args, pred, e, ends, refl, refl)

pub edge_form : (s : List ℕ) (ds : List Data) (y : Edge) → named_data s ds ≡ edge_data y → IsEdge s ds y
edge_form s ds y e = form_of edge_data IsEdge own_edge s ds y e

-- ---- atoms

abbrev pub IsAtom : List ℕ → List Data → Atom → Type 0
IsAtom s ds y =
    Either (bytes_eq s (codes "=")) ((a : NodeId) × (b : NodeId) × (c : ℤ) × (y ≡ Eq a b c) × (ds ≡ node_data a ∷ node_data b ∷ signed_data c ∷ []))
    (Either (bytes_eq s (codes "!")) ((a : NodeId) × (b : NodeId) × (c : ℤ) × (y ≡ Ne a b c) × (ds ≡ node_data a ∷ node_data b ∷ signed_data c ∷ []))
    (Either (bytes_eq s (codes "r")) ((a : NodeId) × (lo : ℤ) × (hi : ℤ) × (y ≡ In a lo hi) × (ds ≡ node_data a ∷ signed_data lo ∷ signed_data hi ∷ [])) ⊥))

own_atom : (y : Atom) → OfNamed (λ s ds. IsAtom s ds y) (values_in (atom_data y))
own_atom (Eq a b c) = (a, b, c, refl, refl)
own_atom (Ne a b c) = (a, b, c, refl, refl)
own_atom (In a lo hi) = (a, lo, hi, refl, refl)

pub atom_form : (s : List ℕ) (ds : List Data) (y : Atom) → named_data s ds ≡ atom_data y → IsAtom s ds y
atom_form s ds y e = form_of atom_data IsAtom own_atom s ds y e

-- ---- how many entries they have

abbrev pub IsStepLength : ℕ → Type 0
IsStepLength n = (n ≢ 2) × (n ≤ 3)

step_lengths : (y : JoinStep) → IsStepLength (length (entries_in (step_data y)))
step_lengths J1 = (λ e. cc, lit≤ tt)
step_lengths J2 = (λ e. cc, lit≤ tt)
step_lengths J3 = (λ e. cc, lit≤ tt)
step_lengths (J4 p) = (λ e. cc, lit≤ tt)
step_lengths (J5 p) = (λ e. cc, lit≤ tt)
step_lengths (J6 p side k) = (λ e. cc, lit≤ tt)
step_lengths (J7 p side k) = (λ e. cc, lit≤ tt)

pub step_length : (s : List ℕ) (ds : List Data) (y : JoinStep) → named_data s ds ≡ step_data y → IsStepLength (length ds)
step_length s ds y e = subst (λ es. IsStepLength (length es)) (entries_back s ds) (subst (λ d. IsStepLength (length (entries_in d))) (sym e) (step_lengths y))

abbrev pub IsEdgeLength : ℕ → Type 0
IsEdgeLength n = (3 ≤ n) × (n ≢ 4) × (n ≤ 5)

edge_lengths : (y : Edge) → IsEdgeLength (length (entries_in (edge_data y)))
edge_lengths (Block at shape fields) = (lit≤ tt, λ e. cc, lit≤ tt)
edge_lengths (Ind at pred args) = (lit≤ tt, λ e. cc, lit≤ tt)
edge_lengths (Seg at args pred last ends) = (lit≤ tt, λ e. cc, lit≤ tt)

pub edge_length : (s : List ℕ) (ds : List Data) (y : Edge) → named_data s ds ≡ edge_data y → IsEdgeLength (length ds)
edge_length s ds y e = subst (λ es. IsEdgeLength (length es)) (entries_back s ds) (subst (λ d. IsEdgeLength (length (entries_in d))) (sym e) (edge_lengths y))

-- atoms have three
pub atom_length : (s : List ℕ) (ds : List Data) (y : Atom) → named_data s ds ≡ atom_data y → length ds ≡ 3
atom_length s ds (Eq a b c) e = ap length (named_once s (codes "=") ds (node_data a ∷ node_data b ∷ signed_data c ∷ []) e).1
atom_length s ds (Ne a b c) e = ap length (named_once s (codes "!") ds (node_data a ∷ node_data b ∷ signed_data c ∷ []) e).1
atom_length s ds (In a lo hi) e = ap length (named_once s (codes "r") ds (node_data a ∷ signed_data lo ∷ signed_data hi ∷ []) e).1

-- ---- each is an array that begins with a name

step_named : (y : JoinStep) → IsNamed (step_data y)
step_named J1 = (codes "J1", [], refl)
step_named J2 = (codes "J2", [], refl)
step_named J3 = (codes "J3", [], refl)
step_named (J4 p) = (codes "J4", pred_data p ∷ [], refl)
step_named (J5 p) = (codes "J5", pred_data p ∷ [], refl)
step_named (J6 p side k) = (codes "J6", pred_data p ∷ side_data side ∷ count_data k ∷ [], refl)
step_named (J7 p side k) = (codes "J7", pred_data p ∷ side_data side ∷ count_data k ∷ [], refl)

edge_named : (y : Edge) → IsNamed (edge_data y)
edge_named (Block at shape fields) = (codes "B", node_data at ∷ struct_data shape ∷ list_data (option_data node_data) fields ∷ [], refl)
edge_named (Ind at pred args) = (codes "I", node_data at ∷ pred_data pred ∷ list_data node_data args ∷ [], refl)
edge_named (Seg at args pred last ends) = (codes "S", node_data at ∷ list_data node_data args ∷ pred_data pred ∷ node_data last ∷ list_data node_data ends ∷ [], refl)

atom_named : (y : Atom) → IsNamed (atom_data y)
atom_named (Eq a b c) = (codes "=", node_data a ∷ node_data b ∷ signed_data c ∷ [], refl)
atom_named (Ne a b c) = (codes "!", node_data a ∷ node_data b ∷ signed_data c ∷ [], refl)
atom_named (In a lo hi) = (codes "r", node_data a ∷ signed_data lo ∷ signed_data hi ∷ [], refl)

pub no_step : (d : Data) → ((s : List ℕ) (ds : List Data) → d ≢ named_data s ds) → (y : JoinStep) → d ≢ step_data y
no_step d none y e = none (step_named y).0 (step_named y).1 (e ∙ (step_named y).2)

pub no_edge : (d : Data) → ((s : List ℕ) (ds : List Data) → d ≢ named_data s ds) → (y : Edge) → d ≢ edge_data y
no_edge d none y e = none (edge_named y).0 (edge_named y).1 (e ∙ (edge_named y).2)

pub no_atom : (d : Data) → ((s : List ℕ) (ds : List Data) → d ≢ named_data s ds) → (y : Atom) → d ≢ atom_data y
no_atom d none y e = none (atom_named y).0 (atom_named y).1 (e ∙ (atom_named y).2)

-- states have four entries or five
whole_lengths : (d e f g : Data) (b : Bool) → (4 ≤ length (d ∷ e ∷ f ∷ g ∷ whole_entry b)) × (length (d ∷ e ∷ f ∷ g ∷ whole_entry b) ≤ 5)
whole_lengths d e f g true = (lit≤ tt, lit≤ tt)
whole_lengths d e f g false = (lit≤ tt, lit≤ tt)

pub state_length : (ds : List Data) (y : RawState) → values_data ds ≡ state_data y → (4 ≤ length ds) × (length ds ≤ 5)
state_length ds y e =
    subst (λ es. (4 ≤ length es) × (length es ≤ 5)) (sym (values_once ds (state_entries y) e))
    (whole_lengths (list_data (option_data node_data) y.vars) (list_data node_kind_data y.kinds) (list_data edge_data y.edges) (list_data atom_data y.atoms) y.whole)
