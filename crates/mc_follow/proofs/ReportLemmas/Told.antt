-- What is known by lines.
use Rattle.std.proofs.Common.{◌≡◌, ◌++◌, ◌∙◌, ℕ, List, Some, ap, subst, append_assoc}
use Rattle.std.specs.Prelude.{Option, Result, Ok, Err, OnOk, codes}
use Rattle.mc_base.specs.declared.ids.NodeId.{NodeId}
use Rattle.mc_base.specs.declared.ids.PointId.{PointId}
use Rattle.mc_base.specs.declared.ids.StructId.{StructId}
use Rattle.mc_base.specs.declared.plain.VarInfo.{VarInfo}
use Rattle.mc_flow.specs.declared.defs.rules.Def.{Def}
use Rattle.mc_flow.specs.declared.defs.shapes.StructInfo.{StructInfo}
use Rattle.mc_flow.specs.declared.graph.Flow.{Flow}
use Rattle.mc_state_io.specs.Raw.Raw.{Writes}
use Rattle.mc_state.specs.declared.raw_state.RawState.{RawState}
use Rattle.mc_state.specs.RawStates.{state_of}
use Rattle.mc_state.specs.State.{State}
use Rattle.mc_state_io.specs.Text.Text.{Text, IsTextOf, node_text}
use Rattle.mc_rules_steps.specs.Operands.{code_at}
use Rattle.mc_follow.specs.Report.Report.{field_name, read_struct}

pub on_ok : {A E : Type 0} (P Q : Type 0) (r : Result A E) → OnOk r P → (P → Q) → OnOk r Q
on_ok P Q (Ok a) p go = go p
on_ok P Q (Err e) p go = tt

behind : (out own node gap name mid last new : List ℕ) → mid ≡ out ++ (own ++ node) → last ≡ mid ++ gap → new ≡ last ++ name
    → new ≡ out ++ (((own ++ node) ++ gap) ++ name)
behind out own node gap name mid last new is_mid is_last is_new =
    is_new
    ∙ ap (λ (t : List ℕ). t ++ name) (is_last ∙ ap (λ (t : List ℕ). t ++ gap) is_mid ∙ append_assoc out (own ++ node) gap)
    ∙ append_assoc out ((own ++ node) ++ gap) name

-- the name of a field after the rest
pub field_told : (flow : Flow) (p : PointId) (n : NodeId) (f : ℕ) (structs : List StructInfo) (shape : Option StructId) (out mid last new : Text)
    → structs ≡ flow.structs.list → shape ≡ read_struct (code_at flow p)
    → mid ≡ out ++ (codes "UninitField " ++ node_text n) → last ≡ mid ++ codes " " → new ≡ last ++ field_name structs shape f
    → new ≡ out ++ (codes "UninitField " ++ node_text n ++ codes " " ++ field_name flow.structs.list (read_struct (code_at flow p)) f)
field_told flow p n f structs shape out mid last new is_structs is_shape is_mid is_last is_new =
    let own : List ℕ = codes "UninitField " in
    let node : List ℕ = node_text n in
    let name : List ℕ = field_name flow.structs.list (read_struct (code_at flow p)) f in
    let named : field_name structs shape f ≡ name =
    ap (λ (s : List StructInfo). field_name s shape f) is_structs ∙ ap (λ (s : Option StructId). field_name flow.structs.list s f) is_shape in
    behind out own node (codes " ") name mid last new is_mid is_last (is_new ∙ ap (λ (t : Text). last ++ t) named)

-- a text of a state for equal lists
pub text_told : (vars others : List VarInfo) (defs own : List Def) (structs mine : List StructInfo) (s : State) (text : Text)
    → vars ≡ others → defs ≡ own → structs ≡ mine → IsTextOf vars defs structs s text → IsTextOf others own mine s text
text_told vars others defs own structs mine s text e f g is =
    subst (λ (m : List StructInfo). IsTextOf others own m s text) g
    (subst (λ (d : List Def). IsTextOf others d structs s text) f (subst (λ (v : List VarInfo). IsTextOf v defs structs s text) e is))

-- the state that is found is the one that is written
pub written_told : (defs : List Def) (vars : List VarInfo) (structs : List StructInfo) (raw : RawState) (found : Option State) (s : State)
    → Writes defs vars structs raw found → found ≡ Some s → s ≡ state_of raw
written_told defs vars structs raw found s told is = (subst (λ (o : Option State). Writes defs vars structs raw o) is told).1
