-- What is spelled comes back: no two lines are spelled alike.
use Rattle.std.proofs.Common.{◌≡◌, ◌∙◌, ◌⊎◌, inl, inr, ℕ, ℤ, pos, negsuc, List, [], ◌∷◌, Bool, true, false, Option, Some, None, ◌<◌, arith, get_or, lit<, refl, sym, ap, subst}
use Rattle.std.specs.Prelude.{Result, Ok, Err, codes}
use Rattle.serde_json.specs.Data.{Data, null, boolean, number, unsigned, negative, float, string, array, object}
use Rattle.mc_base.specs.declared.ids.EdgeId.{EdgeId}
use Rattle.mc_base.specs.declared.ids.NodeId.{NodeId}
use Rattle.mc_base.specs.declared.ids.PointId.{PointId}
use Rattle.mc_base.specs.declared.ids.PredId.{PredId}
use Rattle.mc_base.specs.declared.ids.StructId.{StructId}
use Rattle.mc_base.specs.declared.plain.Atom.{Atom}
use Rattle.mc_base.specs.declared.plain.Atom.TheVariants.{Eq, Ne, In}
use Rattle.mc_base.specs.declared.plain.Kind.{Kind}
use Rattle.mc_base.specs.declared.plain.Kind.TheVariants as kind
use Rattle.mc_state.specs.declared.graph.edge.Edge.{Edge}
use Rattle.mc_state.specs.declared.graph.edge.Edge.TheVariants.{Block, Ind, Seg}
use Rattle.mc_state.specs.declared.line.FoldInd.{FoldInd}
use Rattle.mc_state.specs.declared.line.FoldSeg.{FoldSeg}
use Rattle.mc_state.specs.declared.line.Form.{Form}
use Rattle.mc_state.specs.declared.line.Form.TheVariants.{Certificate, Chain}
use Rattle.mc_state.specs.declared.line.InstrRule.{InstrRule}
use Rattle.mc_state.specs.declared.line.JoinStep.{JoinStep}
use Rattle.mc_state.specs.declared.line.JoinStep.TheVariants.{J1, J2, J3, J4, J5, J6, J7}
use Rattle.mc_state.specs.declared.line.Side.{Side}
use Rattle.mc_state.specs.declared.line.Side.TheVariants.{Left, Right}
use Rattle.mc_state.specs.declared.line.Version.{Version}
use Rattle.mc_state.specs.declared.line.Version.TheVariants.{One}
use Rattle.mc_state.specs.declared.raw_state.NodeKind.{NodeKind}
use Rattle.mc_state.specs.declared.raw_state.NodeKind.TheVariants.{Zero, Int, Ptr}
use Rattle.mc_state.specs.declared.raw_state.RawState.{RawState}
use Rattle.mc_lines.specs.declared.cert.fault.LineFault.{LineFault}
use Rattle.mc_lines.specs.declared.cert.fault.LineFault.TheVariants as faults
use Rattle.mc_lines.specs.declared.cert.line.Line.{Line}
use Rattle.mc_lines.specs.declared.cert.line.Line.TheVariants.{Header, Cut, Head, Pass, End, Step, L1, L2, L3, L4, L5, L6, L7, L8, L9, L10}
use Rattle.mc_lines.specs.declared.cert.line.Line.TheVariants.{L11, L12, L13, L14, L15, C1, C2, C3}
use Rattle.mc_lines.specs.Cert.Document.{IsOtherVersion, ReadsAs, Spells, data_of}
use Rattle.mc_lines.specs.Cert.Entries.{atom_data, count_data, edge_data, edge_id_data, form_data, ind_entries, kind_data, list_data, named_data, node_data, node_kind_data, option_data, point_data, pred_data, rule_name, seg_entries, side_data, signed_data, state_data, state_entries, step_data, struct_data, version_data, whole_entry}
use Rattle.mc_lines.proofs.CertLemmas.Arrays.{list_data_once, values_once}
use Rattle.mc_lines.proofs.CertLemmas.Forms.{Plain, alone, line_form, no_rule, rule_once}
use Rattle.mc_lines.proofs.CertLemmas.PartForms.{atom_form, edge_form, step_form}

-- ---- numbers

abbrev number_in : Data → ℤ
number_in null = pos 0
number_in (boolean b) = pos 0
number_in (number (unsigned n)) = pos n
number_in (number (negative z)) = z
number_in (number (float x)) = pos 0
number_in (string s) = pos 0
number_in (array ds) = pos 0
number_in (object ms) = pos 0

number_back : (z : ℤ) → number_in (signed_data z) ≡ z
number_back (pos n) = refl
number_back (negsuc n) = refl

signed_once : (z w : ℤ) → signed_data z ≡ signed_data w → z ≡ w
signed_once z w e = sym (number_back z) ∙ ap number_in e ∙ number_back w

count_once : (n m : ℕ) → count_data n ≡ count_data m → n ≡ m
count_once n m e = let same : pos n ≡ pos m = ap number_in e in cc

point_once : (x y : PointId) → point_data x ≡ point_data y → x ≡ y
point_once x y e = let back : ℕ → PointId = λ n. record { 0 = n } in ap back (count_once x.0 y.0 e)

node_once : (x y : NodeId) → node_data x ≡ node_data y → x ≡ y
node_once x y e = let back : ℕ → NodeId = λ n. record { 0 = n } in ap back (count_once x.0 y.0 e)

edge_id_once : (x y : EdgeId) → edge_id_data x ≡ edge_id_data y → x ≡ y
edge_id_once x y e = let back : ℕ → EdgeId = λ n. record { 0 = n } in ap back (count_once x.0 y.0 e)

pred_once : (x y : PredId) → pred_data x ≡ pred_data y → x ≡ y
pred_once x y e = let back : ℕ → PredId = λ n. record { 0 = n } in ap back (count_once x.0 y.0 e)

struct_once : (x y : StructId) → struct_data x ≡ struct_data y → x ≡ y
struct_once x y e = let back : ℕ → StructId = λ n. record { 0 = n } in ap back (count_once x.0 y.0 e)

node_option_once : (x y : Option NodeId) → option_data node_data x ≡ option_data node_data y → x ≡ y
node_option_once None None e = refl
node_option_once None (Some y) e = cc
node_option_once (Some x) None e = cc
node_option_once (Some x) (Some y) e = ap (λ n. Some n) (node_once x y e)

edge_option_once : (x y : Option EdgeId) → option_data edge_id_data x ≡ option_data edge_id_data y → x ≡ y
edge_option_once None None e = refl
edge_option_once None (Some y) e = cc
edge_option_once (Some x) None e = cc
edge_option_once (Some x) (Some y) e = ap (λ n. Some n) (edge_id_once x y e)

-- ---- words

-- the first byte of a text
abbrev byte_in : Data → ℕ
byte_in null = 0
byte_in (boolean b) = 0
byte_in (number n) = 0
byte_in (string s) = get_or s 0 0
byte_in (array ds) = 0
byte_in (object ms) = 0

apart : (n m : ℕ) → n ≡ m → n < m → ⊥
apart n m e below = omega arith

kind_once : (x y : Kind) → kind_data x ≡ kind_data y → x ≡ y
kind_once kind.Int kind.Int e = refl
kind_once kind.Int kind.Ptr e = absurd (apart 105 112 (ap byte_in e) (lit< tt))
kind_once kind.Ptr kind.Int e = absurd (apart 105 112 (sym (ap byte_in e)) (lit< tt))
kind_once kind.Ptr kind.Ptr e = refl

node_kind_once : (x y : NodeKind) → node_kind_data x ≡ node_kind_data y → x ≡ y
node_kind_once Zero Zero e = refl
node_kind_once Zero Int e = absurd (apart 48 105 (ap byte_in e) (lit< tt))
node_kind_once Zero Ptr e = absurd (apart 48 112 (ap byte_in e) (lit< tt))
node_kind_once Int Zero e = absurd (apart 48 105 (sym (ap byte_in e)) (lit< tt))
node_kind_once Int Int e = refl
node_kind_once Int Ptr e = absurd (apart 105 112 (ap byte_in e) (lit< tt))
node_kind_once Ptr Zero e = absurd (apart 48 112 (sym (ap byte_in e)) (lit< tt))
node_kind_once Ptr Int e = absurd (apart 105 112 (sym (ap byte_in e)) (lit< tt))
node_kind_once Ptr Ptr e = refl

form_once : (x y : Form) → form_data x ≡ form_data y → x ≡ y
form_once Certificate Certificate e = refl
form_once Certificate Chain e = cc
form_once Chain Certificate e = cc
form_once Chain Chain e = refl

version_once : (x y : Version) → version_data x ≡ version_data y → x ≡ y
version_once One One e = refl

side_once : (x y : Side) → side_data x ≡ side_data y → x ≡ y
side_once Left Left e = refl
side_once Left Right e = cc
side_once Right Left e = cc
side_once Right Right e = refl

-- ---- lists

nodes_once : (xs ys : List NodeId) → list_data node_data xs ≡ list_data node_data ys → xs ≡ ys
nodes_once = list_data_once node_data node_once

edge_ids_once : (xs ys : List EdgeId) → list_data edge_id_data xs ≡ list_data edge_id_data ys → xs ≡ ys
edge_ids_once = list_data_once edge_id_data edge_id_once

fields_once : (xs ys : List (Option NodeId)) → list_data (option_data node_data) xs ≡ list_data (option_data node_data) ys → xs ≡ ys
fields_once = list_data_once (option_data node_data) node_option_once

-- ---- steps, edges, atoms, states

step_once : (x y : JoinStep) → step_data x ≡ step_data y → x ≡ y
step_once J1 y e = sym (step_form (codes "J1") [] y e).0
step_once J2 y e = sym (step_form (codes "J2") [] y e).0
step_once J3 y e = sym (step_form (codes "J3") [] y e).0
step_once (J4 p) y e =
    let h = step_form (codes "J4") (pred_data p ∷ []) y e in
    let all = h.2 in
    let same_p : p ≡ h.0 = pred_once p h.0 (let part : pred_data p ≡ pred_data h.0 = cc in part) in
    let is = h.1 in
    cc
step_once (J5 p) y e =
    let h = step_form (codes "J5") (pred_data p ∷ []) y e in
    let all = h.2 in
    let same_p : p ≡ h.0 = pred_once p h.0 (let part : pred_data p ≡ pred_data h.0 = cc in part) in
    let is = h.1 in
    cc
step_once (J6 p side k) y e =
    let h = step_form (codes "J6") (pred_data p ∷ side_data side ∷ count_data k ∷ []) y e in
    let all = h.4 in
    let same_p : p ≡ h.0 = pred_once p h.0 (let part : pred_data p ≡ pred_data h.0 = cc in part) in
    let same_side : side ≡ h.1 = side_once side h.1 (let part : side_data side ≡ side_data h.1 = cc in part) in
    let same_k : k ≡ h.2 = count_once k h.2 (let part : count_data k ≡ count_data h.2 = cc in part) in
    let is = h.3 in
    cc
step_once (J7 p side k) y e =
    let h = step_form (codes "J7") (pred_data p ∷ side_data side ∷ count_data k ∷ []) y e in
    let all = h.4 in
    let same_p : p ≡ h.0 = pred_once p h.0 (let part : pred_data p ≡ pred_data h.0 = cc in part) in
    let same_side : side ≡ h.1 = side_once side h.1 (let part : side_data side ≡ side_data h.1 = cc in part) in
    let same_k : k ≡ h.2 = count_once k h.2 (let part : count_data k ≡ count_data h.2 = cc in part) in
    let is = h.3 in
    cc

steps_once : (xs ys : List JoinStep) → list_data step_data xs ≡ list_data step_data ys → xs ≡ ys
steps_once = list_data_once step_data step_once

tries_once : (xs ys : List (List JoinStep)) → list_data (list_data step_data) xs ≡ list_data (list_data step_data) ys → xs ≡ ys
tries_once = list_data_once (list_data step_data) steps_once

edge_once : (x y : Edge) → edge_data x ≡ edge_data y → x ≡ y
edge_once (Block at shape fields) y e =
    let h = edge_form (codes "B") (node_data at ∷ struct_data shape ∷ list_data (option_data node_data) fields ∷ []) y e in
    let all = h.4 in
    let same_at : at ≡ h.0 = node_once at h.0 (let part : node_data at ≡ node_data h.0 = cc in part) in
    let same_shape : shape ≡ h.1 = struct_once shape h.1 (let part : struct_data shape ≡ struct_data h.1 = cc in part) in
    let same_fields : fields ≡ h.2 = fields_once fields h.2 (let part : list_data (option_data node_data) fields ≡ list_data (option_data node_data) h.2 = cc in part) in
    let is = h.3 in
    cc
edge_once (Ind at pred args) y e =
    let h = edge_form (codes "I") (node_data at ∷ pred_data pred ∷ list_data node_data args ∷ []) y e in
    let all = h.4 in
    let same_at : at ≡ h.0 = node_once at h.0 (let part : node_data at ≡ node_data h.0 = cc in part) in
    let same_pred : pred ≡ h.1 = pred_once pred h.1 (let part : pred_data pred ≡ pred_data h.1 = cc in part) in
    let same_args : args ≡ h.2 = nodes_once args h.2 (let part : list_data node_data args ≡ list_data node_data h.2 = cc in part) in
    let is = h.3 in
    cc
edge_once (Seg at args pred last ends) y e =
    let h = edge_form (codes "S") (node_data at ∷ list_data node_data args ∷ pred_data pred ∷ node_data last ∷ list_data node_data ends ∷ []) y e in
    let all = h.6 in
    let same_at : at ≡ h.0 = node_once at h.0 (let part : node_data at ≡ node_data h.0 = cc in part) in
    let same_args : args ≡ h.1 = nodes_once args h.1 (let part : list_data node_data args ≡ list_data node_data h.1 = cc in part) in
    let same_pred : pred ≡ h.2 = pred_once pred h.2 (let part : pred_data pred ≡ pred_data h.2 = cc in part) in
    let same_last : last ≡ h.3 = node_once last h.3 (let part : node_data last ≡ node_data h.3 = cc in part) in
    let same_ends : ends ≡ h.4 = nodes_once ends h.4 (let part : list_data node_data ends ≡ list_data node_data h.4 = cc in part) in
    let is = h.5 in
    cc

atom_once : (x y : Atom) → atom_data x ≡ atom_data y → x ≡ y
atom_once (Eq a b c) y e =
    let h = atom_form (codes "=") (node_data a ∷ node_data b ∷ signed_data c ∷ []) y e in
    let all = h.4 in
    let same_a : a ≡ h.0 = node_once a h.0 (let part : node_data a ≡ node_data h.0 = cc in part) in
    let same_b : b ≡ h.1 = node_once b h.1 (let part : node_data b ≡ node_data h.1 = cc in part) in
    let same_c : c ≡ h.2 = signed_once c h.2 (let part : signed_data c ≡ signed_data h.2 = cc in part) in
    let is = h.3 in
    cc
atom_once (Ne a b c) y e =
    let h = atom_form (codes "!") (node_data a ∷ node_data b ∷ signed_data c ∷ []) y e in
    let all = h.4 in
    let same_a : a ≡ h.0 = node_once a h.0 (let part : node_data a ≡ node_data h.0 = cc in part) in
    let same_b : b ≡ h.1 = node_once b h.1 (let part : node_data b ≡ node_data h.1 = cc in part) in
    let same_c : c ≡ h.2 = signed_once c h.2 (let part : signed_data c ≡ signed_data h.2 = cc in part) in
    let is = h.3 in
    cc
atom_once (In a lo hi) y e =
    let h = atom_form (codes "r") (node_data a ∷ signed_data lo ∷ signed_data hi ∷ []) y e in
    let all = h.4 in
    let same_a : a ≡ h.0 = node_once a h.0 (let part : node_data a ≡ node_data h.0 = cc in part) in
    let same_lo : lo ≡ h.1 = signed_once lo h.1 (let part : signed_data lo ≡ signed_data h.1 = cc in part) in
    let same_hi : hi ≡ h.2 = signed_once hi h.2 (let part : signed_data hi ≡ signed_data h.2 = cc in part) in
    let is = h.3 in
    cc

whole_once : (x y : Bool) → whole_entry x ≡ whole_entry y → x ≡ y
whole_once true true e = refl
whole_once true false e = cc
whole_once false true e = cc
whole_once false false e = refl

made_alike : (x y : RawState) → x.vars ≡ y.vars → x.kinds ≡ y.kinds → x.edges ≡ y.edges → x.atoms ≡ y.atoms → x.whole ≡ y.whole → x ≡ y
made_alike x y v k e a w =
    let made : List (Option NodeId) → List NodeKind → List Edge → List Atom → Bool → RawState = λ v k e a w. record { vars = v; kinds = k; edges = e; atoms = a; whole = w } in
    ap (λ z. made z x.kinds x.edges x.atoms x.whole) v ∙ ap (λ z. made y.vars z x.edges x.atoms x.whole) k ∙ ap (λ z. made y.vars y.kinds z x.atoms x.whole) e
    ∙ ap (λ z. made y.vars y.kinds y.edges z x.whole) a ∙ ap (λ z. made y.vars y.kinds y.edges y.atoms z) w

state_once : (x y : RawState) → state_data x ≡ state_data y → x ≡ y
state_once x y e =
    let all : state_entries x ≡ state_entries y = values_once (state_entries x) (state_entries y) e in
    let vars : list_data (option_data node_data) x.vars ≡ list_data (option_data node_data) y.vars = cc in
    let kinds : list_data node_kind_data x.kinds ≡ list_data node_kind_data y.kinds = cc in
    let edges : list_data edge_data x.edges ≡ list_data edge_data y.edges = cc in
    let atoms : list_data atom_data x.atoms ≡ list_data atom_data y.atoms = cc in
    let whole : whole_entry x.whole ≡ whole_entry y.whole = cc in
    made_alike x y (fields_once x.vars y.vars vars) (list_data_once node_kind_data node_kind_once x.kinds y.kinds kinds) (list_data_once edge_data edge_once x.edges y.edges edges)
    (list_data_once atom_data atom_once x.atoms y.atoms atoms) (whole_once x.whole y.whole whole)

-- ---- folds

ind_alike : (x y : FoldInd) → x.pred ≡ y.pred → x.rule ≡ y.rule → x.names ≡ y.names → x.block ≡ y.block → x.edges ≡ y.edges → x ≡ y
ind_alike x y p r n b e =
    let made : PredId → ℕ → List NodeId → Option EdgeId → List EdgeId → FoldInd = λ p r n b e. record { pred = p; rule = r; names = n; block = b; edges = e } in
    ap (λ z. made z x.rule x.names x.block x.edges) p
    ∙ ap (λ z. made y.pred z x.names x.block x.edges) r
    ∙ ap (λ z. made y.pred y.rule z x.block x.edges) n
    ∙ ap (λ z. made y.pred y.rule y.names z x.edges) b
    ∙ ap (λ z. made y.pred y.rule y.names y.block z) e

seg_alike : (x y : FoldSeg) → x.pred ≡ y.pred → x.rule ≡ y.rule → x.names ≡ y.names → x.block ≡ y.block → x.edges ≡ y.edges → x.call ≡ y.call → x ≡ y
seg_alike x y p r n b e c =
    let made : PredId → ℕ → List NodeId → EdgeId → List EdgeId → ℕ → FoldSeg = λ p r n b e c. record { pred = p; rule = r; names = n; block = b; edges = e; call = c } in
    ap (λ z. made z x.rule x.names x.block x.edges x.call) p
    ∙ ap (λ z. made y.pred z x.names x.block x.edges x.call) r
    ∙ ap (λ z. made y.pred y.rule z x.block x.edges x.call) n
    ∙ ap (λ z. made y.pred y.rule y.names z x.edges x.call) b
    ∙ ap (λ z. made y.pred y.rule y.names y.block z x.call) e
    ∙ ap (λ z. made y.pred y.rule y.names y.block y.edges z) c

-- ---- lines

-- the line of a rule's name
by_rule : (rule : InstrRule) (y : Line) → Plain (rule_name rule) y → Step rule ≡ y
by_rule rule y (inl (other, is, e)) = ap (λ r. Step r) (rule_once rule other e) ∙ sym is
by_rule rule y (inr a) = absurd (no_rule (rule_name rule) rule a.0 refl)

line_once : (x y : Line) → data_of x ≡ data_of y → x ≡ y
line_once (Header v f) y e =
    let h = line_form (codes "memcad") (version_data v ∷ form_data f ∷ []) y e in
    let all = h.3 in
    let same_v : v ≡ h.0 = version_once v h.0 (let part : version_data v ≡ version_data h.0 = cc in part) in
    let same_f : f ≡ h.1 = form_once f h.1 (let part : form_data f ≡ form_data h.1 = cc in part) in
    let is = h.2 in
    cc
line_once (Cut p) y e =
    let h = line_form (codes "cut") (point_data p ∷ []) y e in
    let same_p : p ≡ h.0 = point_once p h.0 h.2 in
    let is = h.1 in
    cc
line_once (Head p raw) y e =
    let h = line_form (codes "head") (point_data p ∷ state_data raw ∷ []) y e in
    let all = h.3 in
    let same_p : p ≡ h.0 = point_once p h.0 (let part : point_data p ≡ point_data h.0 = cc in part) in
    let same_raw : raw ≡ h.1 = state_once raw h.1 (let part : state_data raw ≡ state_data h.1 = cc in part) in
    let is = h.2 in
    cc
line_once Pass y e = sym (alone (codes "pass") y refl (line_form (codes "pass") [] y e))
line_once End y e = sym (alone (codes "end") y refl (line_form (codes "end") [] y e))
line_once (Step rule) y e = by_rule rule y (line_form (rule_name rule) [] y e)
line_once (L1 i) y e =
    let h = line_form (codes "L1") (edge_id_data i ∷ []) y e in
    let same_i : i ≡ h.0 = edge_id_once i h.0 h.2 in
    let is = h.1 in
    cc
line_once (L2 i) y e =
    let h = line_form (codes "L2") (edge_id_data i ∷ []) y e in
    let same_i : i ≡ h.0 = edge_id_once i h.0 h.2 in
    let is = h.1 in
    cc
line_once (L3 fold) y e =
    let h = line_form (codes "L3") (ind_entries fold) y e in
    let all = h.2 in
    let same_pred : fold.pred ≡ h.0.pred = pred_once fold.pred h.0.pred (let part : pred_data fold.pred ≡ pred_data h.0.pred = cc in part) in
    let same_rule : fold.rule ≡ h.0.rule = count_once fold.rule h.0.rule (let part : count_data fold.rule ≡ count_data h.0.rule = cc in part) in
    let same_names : fold.names ≡ h.0.names = nodes_once fold.names h.0.names (let part : list_data node_data fold.names ≡ list_data node_data h.0.names = cc in part) in
    let same_block : fold.block ≡ h.0.block = edge_option_once fold.block h.0.block (let part : option_data edge_id_data fold.block ≡ option_data edge_id_data h.0.block = cc in part) in
    let same_edges : fold.edges ≡ h.0.edges = edge_ids_once fold.edges h.0.edges (let part : list_data edge_id_data fold.edges ≡ list_data edge_id_data h.0.edges = cc in part) in
    ap (λ f. L3 f) (ind_alike fold h.0 same_pred same_rule same_names same_block same_edges) ∙ sym h.1
line_once (L4 fold) y e =
    let h = line_form (codes "L4") (seg_entries fold) y e in
    let all = h.2 in
    let same_pred : fold.pred ≡ h.0.pred = pred_once fold.pred h.0.pred (let part : pred_data fold.pred ≡ pred_data h.0.pred = cc in part) in
    let same_rule : fold.rule ≡ h.0.rule = count_once fold.rule h.0.rule (let part : count_data fold.rule ≡ count_data h.0.rule = cc in part) in
    let same_names : fold.names ≡ h.0.names = nodes_once fold.names h.0.names (let part : list_data node_data fold.names ≡ list_data node_data h.0.names = cc in part) in
    let same_block : fold.block ≡ h.0.block = edge_id_once fold.block h.0.block (let part : edge_id_data fold.block ≡ edge_id_data h.0.block = cc in part) in
    let same_edges : fold.edges ≡ h.0.edges = edge_ids_once fold.edges h.0.edges (let part : list_data edge_id_data fold.edges ≡ list_data edge_id_data h.0.edges = cc in part) in
    let same_call : fold.call ≡ h.0.call = count_once fold.call h.0.call (let part : count_data fold.call ≡ count_data h.0.call = cc in part) in
    ap (λ f. L4 f) (seg_alike fold h.0 same_pred same_rule same_names same_block same_edges same_call) ∙ sym h.1
line_once (L5 i j) y e =
    let h = line_form (codes "L5") (edge_id_data i ∷ edge_id_data j ∷ []) y e in
    let all = h.3 in
    let same_i : i ≡ h.0 = edge_id_once i h.0 (let part : edge_id_data i ≡ edge_id_data h.0 = cc in part) in
    let same_j : j ≡ h.1 = edge_id_once j h.1 (let part : edge_id_data j ≡ edge_id_data h.1 = cc in part) in
    let is = h.2 in
    cc
line_once (L6 i j) y e =
    let h = line_form (codes "L6") (edge_id_data i ∷ edge_id_data j ∷ []) y e in
    let all = h.3 in
    let same_i : i ≡ h.0 = edge_id_once i h.0 (let part : edge_id_data i ≡ edge_id_data h.0 = cc in part) in
    let same_j : j ≡ h.1 = edge_id_once j h.1 (let part : edge_id_data j ≡ edge_id_data h.1 = cc in part) in
    let is = h.2 in
    cc
line_once (L7 pred a args b ends) y e =
    let h = line_form (codes "L7") (pred_data pred ∷ node_data a ∷ list_data node_data args ∷ node_data b ∷ list_data node_data ends ∷ []) y e in
    let all = h.6 in
    let same_pred : pred ≡ h.0 = pred_once pred h.0 (let part : pred_data pred ≡ pred_data h.0 = cc in part) in
    let same_a : a ≡ h.1 = node_once a h.1 (let part : node_data a ≡ node_data h.1 = cc in part) in
    let same_args : args ≡ h.2 = nodes_once args h.2 (let part : list_data node_data args ≡ list_data node_data h.2 = cc in part) in
    let same_b : b ≡ h.3 = node_once b h.3 (let part : node_data b ≡ node_data h.3 = cc in part) in
    let same_ends : ends ≡ h.4 = nodes_once ends h.4 (let part : list_data node_data ends ≡ list_data node_data h.4 = cc in part) in
    let is = h.5 in
    cc
line_once (L8 n c k) y e =
    let h = line_form (codes "L8") (node_data n ∷ signed_data c ∷ kind_data k ∷ []) y e in
    let all = h.4 in
    let same_n : n ≡ h.0 = node_once n h.0 (let part : node_data n ≡ node_data h.0 = cc in part) in
    let same_c : c ≡ h.1 = signed_once c h.1 (let part : signed_data c ≡ signed_data h.1 = cc in part) in
    let same_k : k ≡ h.2 = kind_once k h.2 (let part : kind_data k ≡ kind_data h.2 = cc in part) in
    let is = h.3 in
    cc
line_once (L9 n m) y e =
    let h = line_form (codes "L9") (node_data n ∷ node_data m ∷ []) y e in
    let all = h.3 in
    let same_n : n ≡ h.0 = node_once n h.0 (let part : node_data n ≡ node_data h.0 = cc in part) in
    let same_m : m ≡ h.1 = node_once m h.1 (let part : node_data m ≡ node_data h.1 = cc in part) in
    let is = h.2 in
    cc
line_once (L10 i) y e =
    let h = line_form (codes "L10") (edge_id_data i ∷ []) y e in
    let same_i : i ≡ h.0 = edge_id_once i h.0 h.2 in
    let is = h.1 in
    cc
line_once (L11 n) y e =
    let h = line_form (codes "L11") (node_data n ∷ []) y e in
    let same_n : n ≡ h.0 = node_once n h.0 h.2 in
    let is = h.1 in
    cc
line_once L12 y e = sym (alone (codes "L12") y refl (line_form (codes "L12") [] y e))
line_once (L13 j images edges) y e =
    let h = line_form (codes "L13") (count_data j ∷ list_data node_data images ∷ list_data edge_id_data edges ∷ []) y e in
    let all = h.4 in
    let same_j : j ≡ h.0 = count_once j h.0 (let part : count_data j ≡ count_data h.0 = cc in part) in
    let same_images : images ≡ h.1 = nodes_once images h.1 (let part : list_data node_data images ≡ list_data node_data h.1 = cc in part) in
    let same_edges : edges ≡ h.2 = edge_ids_once edges h.2 (let part : list_data edge_id_data edges ≡ list_data edge_id_data h.2 = cc in part) in
    let is = h.3 in
    cc
line_once (L14 i) y e =
    let h = line_form (codes "L14") (edge_id_data i ∷ []) y e in
    let same_i : i ≡ h.0 = edge_id_once i h.0 h.2 in
    let is = h.1 in
    cc
line_once (L15 i) y e =
    let h = line_form (codes "L15") (edge_id_data i ∷ []) y e in
    let same_i : i ≡ h.0 = edge_id_once i h.0 h.2 in
    let is = h.1 in
    cc
line_once C1 y e = sym (alone (codes "C1") y refl (line_form (codes "C1") [] y e))
line_once (C2 tries) y e =
    let h = line_form (codes "C2") (list_data (list_data step_data) tries ∷ []) y e in
    let same_tries : tries ≡ h.0 = tries_once tries h.0 h.2 in
    let is = h.1 in
    cc
line_once (C3 j steps) y e =
    let h = line_form (codes "C3") (count_data j ∷ list_data step_data steps ∷ []) y e in
    let all = h.3 in
    let same_j : j ≡ h.0 = count_once j h.0 (let part : count_data j ≡ count_data h.0 = cc in part) in
    let same_steps : steps ≡ h.1 = steps_once steps h.1 (let part : list_data step_data steps ≡ list_data step_data h.1 = cc in part) in
    let is = h.2 in
    cc

pub spelled_once : (bytes : List ℕ) (x y : Line) → Spells bytes x → Spells bytes y → x ≡ y
spelled_once bytes x y s t =
    let both : Some s.0 ≡ Some t.0 = sym s.1.1 ∙ t.1.1 in
    let same : s.0 ≡ t.0 = cc in
    line_once x y (sym s.2.0 ∙ same ∙ t.2.0)

-- no line is a header of another version
header_is_other : (l : Line) (v : Data) (f : Form) → (v ≡ version_data One → ⊥) → named_data (codes "memcad") (v ∷ form_data f ∷ []) ≡ data_of l → ⊥
header_is_other l v f other e =
    let h = line_form (codes "memcad") (v ∷ form_data f ∷ []) l e in
    let all = h.3 in
    let same : v ≡ version_data h.0 = cc in
    only_one h.0 v other same
  where
    only_one : (w : Version) (v : Data) → (v ≡ version_data One → ⊥) → v ≡ version_data w → ⊥
    only_one One v other same = other same

no_line_of_version : (l : Line) → IsOtherVersion (data_of l) → ⊥
no_line_of_version l v = header_is_other l v.0 v.1 v.3 (sym v.4)

pub read_back : (bytes : List ℕ) (line : Line) (r : Result Line LineFault) → Spells bytes line → ReadsAs bytes r → (r ≡ Ok line) ⊎ (r ≡ Err faults.NoMemory)
read_back bytes line (Ok found) s h = inl (ap (λ l. Ok l) (spelled_once bytes found line h s))
read_back bytes line (Err faults.NoMemory) s h = inr refl
read_back bytes line (Err faults.NotJson) s h = absurd (h s.0 s.1)
read_back bytes line (Err faults.Form) s h =
    let both : Some h.0 ≡ Some s.0 = sym h.1.1 ∙ s.1.1 in
    let same : h.0 ≡ s.0 = cc in
    absurd (h.2.0 line s.2.1 (same ∙ s.2.0))
read_back bytes line (Err faults.Version) s h =
    let both : Some h.0 ≡ Some s.0 = sym h.1.1 ∙ s.1.1 in
    let same : h.0 ≡ s.0 = cc in
    absurd (no_line_of_version line (subst IsOtherVersion (same ∙ s.2.0) h.2))
