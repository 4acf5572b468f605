-- How the lines of documents are spelled.
use Rattle.std.specs.Prelude.{◌≡◌, ◌≢◌, ℕ, List, [], ◌∷◌, Some, Result, Ok, Err, codes, IsUtf8}
use Rattle.serde_json.specs.Data as json
use Rattle.serde_json.specs.Data.{Data, Num, unsigned, negative, float, number, string, array, object, boolean}
use Rattle.serde_json.specs.Read.{read}
use Rattle.mc_state.specs.declared.line.Form.{Form}
use Rattle.mc_lines.specs.declared.cert.fault.LineFault.{LineFault}
use Rattle.mc_lines.specs.declared.cert.fault.LineFault.TheVariants as faults
use Rattle.mc_lines.specs.declared.cert.line.Line.{Line}
use Rattle.mc_lines.specs.declared.cert.line.Line.TheVariants.{Header, Cut, Head, Pass, End, Step, L1, L2, L3, L4, L5, L6, L7, L8, L9, L10}
use Rattle.mc_lines.specs.declared.cert.line.Line.TheVariants.{L11, L12, L13, L14, L15, C1, C2, C3}
use Rattle.mc_lines.specs.Cert.Entries.{IsSigned, StateFits, count_data, edge_id_data, form_data, ind_entries, kind_data, list_data}
use Rattle.mc_lines.specs.Cert.Entries.{named_data, node_data, point_data, pred_data, rule_name, seg_entries, signed_data}
use Rattle.mc_lines.specs.Cert.Entries.{state_data, step_data, version_data}
use Rattle.mc_lines.specs.Cert.Reads.{Reads}

-- the table of forms: a line is an array of its name and its entries
abbrev pub data_of : Line → Data
data_of (Header version form) = named_data (codes "memcad") (version_data version ∷ form_data form ∷ [])
data_of (Cut p) = named_data (codes "cut") (point_data p ∷ [])
data_of (Head p raw) = named_data (codes "head") (point_data p ∷ state_data raw ∷ [])
data_of Pass = named_data (codes "pass") []
data_of End = named_data (codes "end") []
data_of (Step rule) = named_data (rule_name rule) []
data_of (L1 e) = named_data (codes "L1") (edge_id_data e ∷ [])
data_of (L2 e) = named_data (codes "L2") (edge_id_data e ∷ [])
data_of (L3 fold) = named_data (codes "L3") (ind_entries fold)
data_of (L4 fold) = named_data (codes "L4") (seg_entries fold)
data_of (L5 i j) = named_data (codes "L5") (edge_id_data i ∷ edge_id_data j ∷ [])
data_of (L6 i j) = named_data (codes "L6") (edge_id_data i ∷ edge_id_data j ∷ [])
data_of (L7 pred a args b ends) =
    named_data (codes "L7") (pred_data pred ∷ node_data a ∷ list_data node_data args ∷ node_data b ∷ list_data node_data ends ∷ [])
data_of (L8 node c kind) = named_data (codes "L8") (node_data node ∷ signed_data c ∷ kind_data kind ∷ [])
data_of (L9 keep gone) = named_data (codes "L9") (node_data keep ∷ node_data gone ∷ [])
data_of (L10 e) = named_data (codes "L10") (edge_id_data e ∷ [])
data_of (L11 node) = named_data (codes "L11") (node_data node ∷ [])
data_of L12 = named_data (codes "L12") []
data_of (L13 j images edges) = named_data (codes "L13") (count_data j ∷ list_data node_data images ∷ list_data edge_id_data edges ∷ [])
data_of (L14 e) = named_data (codes "L14") (edge_id_data e ∷ [])
data_of (L15 e) = named_data (codes "L15") (edge_id_data e ∷ [])
data_of C1 = named_data (codes "C1") []
data_of (C2 tries) = named_data (codes "C2") (list_data (list_data step_data) tries ∷ [])
data_of (C3 j steps) = named_data (codes "C3") (count_data j ∷ list_data step_data steps ∷ [])

-- the signed numbers of a line have 64 bits
abbrev pub LineFits : Line → Type 0
LineFits (Header version form) = Unit {0}
LineFits (Cut p) = Unit {0}
LineFits (Head p raw) = StateFits raw
LineFits Pass = Unit {0}
LineFits End = Unit {0}
LineFits (Step rule) = Unit {0}
LineFits (L1 e) = Unit {0}
LineFits (L2 e) = Unit {0}
LineFits (L3 fold) = Unit {0}
LineFits (L4 fold) = Unit {0}
LineFits (L5 i j) = Unit {0}
LineFits (L6 i j) = Unit {0}
LineFits (L7 pred a args b ends) = Unit {0}
LineFits (L8 node c kind) = IsSigned c
LineFits (L9 keep gone) = Unit {0}
LineFits (L10 e) = Unit {0}
LineFits (L11 node) = Unit {0}
LineFits L12 = Unit {0}
LineFits (L13 j images edges) = Unit {0}
LineFits (L14 e) = Unit {0}
LineFits (L15 e) = Unit {0}
LineFits C1 = Unit {0}
LineFits (C2 tries) = Unit {0}
LineFits (C3 j steps) = Unit {0}

-- the value is a number without fraction or exponent, from -2^63 to 2^64 - 1
abbrev pub IsWhole : Num → Type 0
IsWhole (unsigned n) = Unit {0}
IsWhole (negative z) = Unit {0}
IsWhole (float x) = ⊥

abbrev pub IsWholeNumber : Data → Type 0
IsWholeNumber (number n) = IsWhole n
IsWholeNumber json.null = ⊥
IsWholeNumber (boolean b) = ⊥
IsWholeNumber (string s) = ⊥
IsWholeNumber (array ds) = ⊥
IsWholeNumber (object ms) = ⊥

-- a header whose version is a whole number that is not read
abbrev pub IsOtherVersion : Data → Type 0
IsOtherVersion d =
    (version : Data) × (form : Form) × IsWholeNumber version × (version ≢ count_data 1)
    × (d ≡ named_data (codes "memcad") (version ∷ form_data form ∷ []))

-- the line of a value, or why it is none; want of memory is free
abbrev pub LineReadsAs : Data → Result Line LineFault → Type 0
LineReadsAs d (Ok line) = Reads data_of LineFits d (Ok line)
LineReadsAs d (Err faults.Form) = Reads data_of LineFits d (Err faults.Form) × (IsOtherVersion d → ⊥)
LineReadsAs d (Err faults.Version) = IsOtherVersion d
LineReadsAs d (Err faults.NotJson) = ⊥
LineReadsAs d (Err faults.NoMemory) = Unit {0}

-- the bytes are JSON of this value
abbrev pub IsJson : List ℕ → Data → Type 0
IsJson bytes d = IsUtf8 bytes × (read bytes ≡ Some d)

-- the line of bytes, or why they are none
abbrev pub ReadsAs : List ℕ → Result Line LineFault → Type 0
ReadsAs bytes (Ok line) = (d : Data) × IsJson bytes d × LineReadsAs d (Ok line)
ReadsAs bytes (Err faults.Form) = (d : Data) × IsJson bytes d × LineReadsAs d (Err faults.Form)
ReadsAs bytes (Err faults.Version) = (d : Data) × IsJson bytes d × LineReadsAs d (Err faults.Version)
ReadsAs bytes (Err faults.NotJson) = (d : Data) → IsJson bytes d → ⊥
ReadsAs bytes (Err faults.NoMemory) = Unit {0}

-- the bytes are JSON of the line's array
abbrev pub Spells : List ℕ → Line → Type 0
Spells bytes line = ReadsAs bytes (Ok line)

-- for this reason the bytes spell no line
abbrev pub SpellsNone : List ℕ → LineFault → Type 0
SpellsNone bytes faults.NotJson = (line : Line) → Spells bytes line → ⊥
SpellsNone bytes faults.Form = (line : Line) → Spells bytes line → ⊥
SpellsNone bytes faults.Version = (line : Line) → Spells bytes line → ⊥
SpellsNone bytes faults.NoMemory = Unit {0}
