-- How the entries of lines are spelled.
use Rattle.std.specs.Prelude.{ℕ, ℤ, List, [], ◌∷◌, Bool, true, false, Option, Some, None, All, codes, map, FitsSigned}
use Rattle.std.specs.Int.{w64}
use Rattle.serde_json.specs.Data.{Data, null, boolean, number, unsigned, string, array}
use Rattle.serde_json.specs.Find.{of_integer}
use Rattle.serde_json.specs.View.{items_of}
use Rattle.mc_base.specs.declared.ids.EdgeId.{EdgeId}
use Rattle.mc_base.specs.declared.ids.NodeId.{NodeId}
use Rattle.mc_base.specs.declared.ids.PointId.{PointId}
use Rattle.mc_base.specs.declared.ids.PredId.{PredId}
use Rattle.mc_base.specs.declared.ids.StructId.{StructId}
use Rattle.mc_base.specs.declared.plain.Atom.{Atom}
use Rattle.mc_base.specs.declared.plain.Atom.TheVariants.{Eq, Ne, In}
use Rattle.mc_base.specs.declared.plain.Kind.{Kind}
use Rattle.mc_base.specs.declared.plain.Kind.TheVariants as kind
use Rattle.mc_state.specs.declared.graph.edge.Edge.{Edge}
use Rattle.mc_state.specs.declared.graph.edge.Edge.TheVariants.{Block, Ind, Seg}
use Rattle.mc_state.specs.declared.line.FoldInd.{FoldInd}
use Rattle.mc_state.specs.declared.line.FoldSeg.{FoldSeg}
use Rattle.mc_state.specs.declared.line.Form.{Form}
use Rattle.mc_state.specs.declared.line.Form.TheVariants.{Certificate, Chain}
use Rattle.mc_state.specs.declared.line.InstrRule.{InstrRule}
use Rattle.mc_state.specs.declared.line.InstrRule.TheVariants.{S1, S2, S3, S4, S5, S6, S7, S8, S9, S10, S11, S12, S13, S14, S15, S16, S17, S18}
use Rattle.mc_state.specs.declared.line.JoinStep.{JoinStep}
use Rattle.mc_state.specs.declared.line.JoinStep.TheVariants.{J1, J2, J3, J4, J5, J6, J7}
use Rattle.mc_state.specs.declared.line.Side.{Side}
use Rattle.mc_state.specs.declared.line.Side.TheVariants.{Left, Right}
use Rattle.mc_state.specs.declared.line.Version.{Version}
use Rattle.mc_state.specs.declared.line.Version.TheVariants.{One}
use Rattle.mc_state.specs.declared.raw_state.NodeKind.{NodeKind}
use Rattle.mc_state.specs.declared.raw_state.NodeKind.TheVariants.{Zero, Int, Ptr}
use Rattle.mc_state.specs.declared.raw_state.RawState.{RawState}

-- ---- numbers and lists

abbrev pub count_data : ℕ → Data
count_data n = number (unsigned n)

abbrev pub signed_data : ℤ → Data
signed_data z = number (of_integer z)

-- a signed number of 64 bits
abbrev pub IsSigned : ℤ → Type 0
IsSigned z = FitsSigned w64 z

abbrev pub point_data : PointId → Data
point_data p = count_data p.0

abbrev pub node_data : NodeId → Data
node_data n = count_data n.0

abbrev pub edge_id_data : EdgeId → Data
edge_id_data e = count_data e.0

abbrev pub pred_data : PredId → Data
pred_data p = count_data p.0

abbrev pub struct_data : StructId → Data
struct_data s = count_data s.0

abbrev pub word_data : List ℕ → Data
word_data word = string word

-- null where there is none
abbrev pub option_data : {T : Type 0} → (T → Data) → Option T → Data
option_data spelled None = null
option_data spelled (Some x) = spelled x

abbrev pub values_data : List Data → Data
values_data ds = array (items_of ds)

abbrev pub list_data : {T : Type 0} → (T → Data) → List T → Data
list_data spelled xs = values_data (map spelled xs)

-- an array that begins with a name
abbrev pub named_data : List ℕ → List Data → Data
named_data name entries = values_data (word_data name ∷ entries)

-- ---- words

abbrev pub kind_data : Kind → Data
kind_data kind.Int = word_data (codes "i")
kind_data kind.Ptr = word_data (codes "p")

abbrev pub node_kind_data : NodeKind → Data
node_kind_data Zero = word_data (codes "0")
node_kind_data Int = word_data (codes "i")
node_kind_data Ptr = word_data (codes "p")

abbrev pub form_data : Form → Data
form_data Certificate = word_data (codes "certificate")
form_data Chain = word_data (codes "chain")

abbrev pub version_data : Version → Data
version_data One = count_data 1

abbrev pub side_data : Side → Data
side_data Left = count_data 0
side_data Right = count_data 1

-- the name of a rule of instructions
abbrev pub rule_name : InstrRule → List ℕ
rule_name S1 = codes "S1"
rule_name S2 = codes "S2"
rule_name S3 = codes "S3"
rule_name S4 = codes "S4"
rule_name S5 = codes "S5"
rule_name S6 = codes "S6"
rule_name S7 = codes "S7"
rule_name S8 = codes "S8"
rule_name S9 = codes "S9"
rule_name S10 = codes "S10"
rule_name S11 = codes "S11"
rule_name S12 = codes "S12"
rule_name S13 = codes "S13"
rule_name S14 = codes "S14"
rule_name S15 = codes "S15"
rule_name S16 = codes "S16"
rule_name S17 = codes "S17"
rule_name S18 = codes "S18"

-- ---- steps of joins

-- a step is an array of its name and what it has
abbrev pub step_data : JoinStep → Data
step_data J1 = named_data (codes "J1") []
step_data J2 = named_data (codes "J2") []
step_data J3 = named_data (codes "J3") []
step_data (J4 pred) = named_data (codes "J4") (pred_data pred ∷ [])
step_data (J5 pred) = named_data (codes "J5") (pred_data pred ∷ [])
step_data (J6 pred side pair) = named_data (codes "J6") (pred_data pred ∷ side_data side ∷ count_data pair ∷ [])
step_data (J7 pred side pair) = named_data (codes "J7") (pred_data pred ∷ side_data side ∷ count_data pair ∷ [])

-- ---- folds

-- the entries of L3
abbrev pub ind_entries : FoldInd → List Data
ind_entries fold = pred_data fold.pred ∷ count_data fold.rule ∷ list_data node_data fold.names
    ∷ option_data edge_id_data fold.block ∷ list_data edge_id_data fold.edges ∷ []

-- the entries of L4
abbrev pub seg_entries : FoldSeg → List Data
seg_entries fold = pred_data fold.pred ∷ count_data fold.rule ∷ list_data node_data fold.names ∷ edge_id_data fold.block
    ∷ list_data edge_id_data fold.edges ∷ count_data fold.call ∷ []

-- ---- states

-- an edge is an array of its letter and its parts
abbrev pub edge_data : Edge → Data
edge_data (Block at shape fields) = named_data (codes "B")
    (node_data at ∷ struct_data shape ∷ list_data (option_data node_data) fields ∷ [])
edge_data (Ind at pred args) = named_data (codes "I") (node_data at ∷ pred_data pred ∷ list_data node_data args ∷ [])
edge_data (Seg at args pred «end» ends) =
    named_data (codes "S") (node_data at ∷ list_data node_data args ∷ pred_data pred ∷ node_data end ∷ list_data node_data ends ∷ [])

-- an atom is one too
abbrev pub atom_data : Atom → Data
atom_data (Eq a b c) = named_data (codes "=") (node_data a ∷ node_data b ∷ signed_data c ∷ [])
atom_data (Ne a b c) = named_data (codes "!") (node_data a ∷ node_data b ∷ signed_data c ∷ [])
atom_data (In a lo hi) = named_data (codes "r") (node_data a ∷ signed_data lo ∷ signed_data hi ∷ [])

-- the numbers of an atom fit their types
abbrev pub AtomFits : Atom → Type 0
AtomFits (Eq a b c) = IsSigned c
AtomFits (Ne a b c) = IsSigned c
AtomFits (In a lo hi) = IsSigned lo × IsSigned hi

-- a fifth entry stands where the edges are all that is allocated
abbrev pub whole_entry : Bool → List Data
whole_entry true = boolean true ∷ []
whole_entry false = []

abbrev pub state_entries : RawState → List Data
state_entries raw = list_data (option_data node_data) raw.vars ∷ list_data node_kind_data raw.kinds
    ∷ list_data edge_data raw.edges ∷ list_data atom_data raw.atoms ∷ whole_entry raw.whole

abbrev pub state_data : RawState → Data
state_data raw = values_data (state_entries raw)

abbrev pub StateFits : RawState → Type 0
StateFits raw = All AtomFits raw.atoms

-- nothing is asked of a value without signed numbers
abbrev pub Fits : {T : Type 0} → T → Type 0
Fits x = Unit {0}
