-- Which line an array can be the line of, by its name and the number of its entries.
use Rattle.std.proofs.Common.{◌≡◌, ◌≢◌, ◌≤◌, ◌⊎◌, inl, inr, ℕ, ℤ, List, [], ◌∷◌, Option, Some, None, length, map, get_or, arith, ◌∙◌, lit≤, refl, sym, ap, subst}
use Rattle.std.specs.Prelude.{Result, Ok, Err, codes, if◌then◌else◌}
use Rattle.std.specs.Str.{bytes_eq}
use Rattle.serde_json.specs.Data.{Data}
use Rattle.mc_base.specs.declared.ids.EdgeId.{EdgeId}
use Rattle.mc_base.specs.declared.ids.NodeId.{NodeId}
use Rattle.mc_base.specs.declared.ids.PointId.{PointId}
use Rattle.mc_base.specs.declared.ids.PredId.{PredId}
use Rattle.mc_base.specs.declared.plain.Kind.{Kind}
use Rattle.mc_state.specs.declared.line.FoldInd.{FoldInd}
use Rattle.mc_state.specs.declared.line.FoldSeg.{FoldSeg}
use Rattle.mc_state.specs.declared.line.Form.{Form}
use Rattle.mc_state.specs.declared.line.InstrRule.{InstrRule}
use Rattle.mc_state.specs.declared.line.InstrRule.TheVariants.{S1, S2, S3, S4, S5, S6, S7, S8, S9, S10, S11, S12, S13, S14, S15, S16, S17, S18}
use Rattle.mc_state.specs.declared.line.JoinStep.{JoinStep}
use Rattle.mc_state.specs.declared.line.Version.{Version}
use Rattle.mc_state.specs.declared.raw_state.RawState.{RawState}
use Rattle.mc_lines.specs.declared.cert.line.Line.{Line}
use Rattle.mc_lines.specs.declared.cert.line.Line.TheVariants.{Header, Cut, Head, Pass, End, Step, L1, L2, L3, L4, L5, L6, L7, L8, L9, L10}
use Rattle.mc_lines.specs.declared.cert.line.Line.TheVariants.{L11, L12, L13, L14, L15, C1, C2, C3}
use Rattle.mc_lines.specs.declared.cert.fault.LineFault.{LineFault}
use Rattle.mc_lines.specs.declared.cert.fault.LineFault.TheVariants as faults
use Rattle.mc_lines.specs.Cert.Document.{IsOtherVersion, LineFits, LineReadsAs, data_of}
use Rattle.mc_lines.specs.Cert.Reads.{Reads}
use Rattle.mc_lines.specs.Cert.Entries.{count_data, edge_id_data, form_data, ind_entries, kind_data, list_data, named_data, node_data, point_data, pred_data, rule_name, seg_entries, signed_data, state_data, step_data, version_data}
use Rattle.mc_lines.proofs.CertLemmas.Arrays.{Either, IsNamed, OfNamed, entries_back, entries_in, form_of, name_in, named_once, values_in}

-- ---- names of rules

-- the rule of a name
abbrev pub rule_of : List ℕ → Option InstrRule
rule_of s =
    if bytes_eq s (codes "S1") then Some S1
    else if bytes_eq s (codes "S2") then Some S2
    else if bytes_eq s (codes "S3") then Some S3
    else if bytes_eq s (codes "S4") then Some S4
    else if bytes_eq s (codes "S5") then Some S5
    else if bytes_eq s (codes "S6") then Some S6
    else if bytes_eq s (codes "S7") then Some S7
    else if bytes_eq s (codes "S8") then Some S8
    else if bytes_eq s (codes "S9") then Some S9
    else if bytes_eq s (codes "S10") then Some S10
    else if bytes_eq s (codes "S11") then Some S11
    else if bytes_eq s (codes "S12") then Some S12
    else if bytes_eq s (codes "S13") then Some S13
    else if bytes_eq s (codes "S14") then Some S14
    else if bytes_eq s (codes "S15") then Some S15
    else if bytes_eq s (codes "S16") then Some S16
    else if bytes_eq s (codes "S17") then Some S17
    else if bytes_eq s (codes "S18") then Some S18
    else None

pub rule_back : (rule : InstrRule) → rule_of (rule_name rule) ≡ Some rule
rule_back S1 = refl
rule_back S2 = refl
rule_back S3 = refl
rule_back S4 = refl
rule_back S5 = refl
rule_back S6 = refl
rule_back S7 = refl
rule_back S8 = refl
rule_back S9 = refl
rule_back S10 = refl
rule_back S11 = refl
rule_back S12 = refl
rule_back S13 = refl
rule_back S14 = refl
rule_back S15 = refl
rule_back S16 = refl
rule_back S17 = refl
rule_back S18 = refl

-- no two rules have one name
pub rule_once : (x y : InstrRule) → rule_name x ≡ rule_name y → x ≡ y
rule_once x y e =
    let both : Some x ≡ Some y = sym (rule_back x) ∙ ap rule_of e ∙ rule_back y in
    cc

-- what has a name of no rule is not spelled by a rule
pub no_rule : (s : List ℕ) (rule : InstrRule) → rule_of s ≡ None → s ≡ rule_name rule → ⊥
no_rule s rule none e =
    let both : None ≡ Some rule = sym none ∙ ap rule_of e ∙ rule_back rule in
    cc

-- ---- what a line with a name and entries is

-- a name that stands alone, of no rule
abbrev pub Alone : List ℕ → Line → Type 0
Alone s l =
    Either (bytes_eq s (codes "pass")) (l ≡ Pass)
    (Either (bytes_eq s (codes "end")) (l ≡ End)
    (Either (bytes_eq s (codes "L12")) (l ≡ L12)
    (Either (bytes_eq s (codes "C1")) (l ≡ C1) ⊥)))

abbrev pub Plain : List ℕ → Line → Type 0
Plain s l = ((rule : InstrRule) × (l ≡ Step rule) × (s ≡ rule_name rule)) ⊎ ((rule_of s ≡ None) × Alone s l)

-- a name of no rule
pub alone : (s : List ℕ) (l : Line) → rule_of s ≡ None → Plain s l → Alone s l
alone s l none (inl (rule, is, e)) = absurd (no_rule s rule none e)
alone s l none (inr a) = a.1

abbrev pub OfOne : List ℕ → Data → Line → Type 0
OfOne s a l =
    Either (bytes_eq s (codes "cut")) ((p : PointId) × (l ≡ Cut p) × (a ≡ point_data p))
    (Either (bytes_eq s (codes "L1")) ((e : EdgeId) × (l ≡ L1 e) × (a ≡ edge_id_data e))
    (Either (bytes_eq s (codes "L2")) ((e : EdgeId) × (l ≡ L2 e) × (a ≡ edge_id_data e))
    (Either (bytes_eq s (codes "L10")) ((e : EdgeId) × (l ≡ L10 e) × (a ≡ edge_id_data e))
    (Either (bytes_eq s (codes "L11")) ((n : NodeId) × (l ≡ L11 n) × (a ≡ node_data n))
    (Either (bytes_eq s (codes "L14")) ((e : EdgeId) × (l ≡ L14 e) × (a ≡ edge_id_data e))
    (Either (bytes_eq s (codes "L15")) ((e : EdgeId) × (l ≡ L15 e) × (a ≡ edge_id_data e))
    (Either (bytes_eq s (codes "C2")) ((tries : List (List JoinStep)) × (l ≡ C2 tries) × (a ≡ list_data (list_data step_data) tries)) ⊥)))))))

abbrev pub OfTwo : List ℕ → List Data → Line → Type 0
OfTwo s ds l =
    Either (bytes_eq s (codes "memcad")) ((v : Version) × (f : Form) × (l ≡ Header v f) × (ds ≡ version_data v ∷ form_data f ∷ []))
    (Either (bytes_eq s (codes "head")) ((p : PointId) × (raw : RawState) × (l ≡ Head p raw) × (ds ≡ point_data p ∷ state_data raw ∷ []))
    (Either (bytes_eq s (codes "L5")) ((i : EdgeId) × (j : EdgeId) × (l ≡ L5 i j) × (ds ≡ edge_id_data i ∷ edge_id_data j ∷ []))
    (Either (bytes_eq s (codes "L6")) ((i : EdgeId) × (j : EdgeId) × (l ≡ L6 i j) × (ds ≡ edge_id_data i ∷ edge_id_data j ∷ []))
    (Either (bytes_eq s (codes "L9")) ((n : NodeId) × (m : NodeId) × (l ≡ L9 n m) × (ds ≡ node_data n ∷ node_data m ∷ []))
    (Either (bytes_eq s (codes "C3")) ((j : ℕ) × (steps : List JoinStep) × (l ≡ C3 j steps) × (ds ≡ count_data j ∷ list_data step_data steps ∷ [])) ⊥)))))

abbrev pub OfThree : List ℕ → List Data → Line → Type 0
OfThree s ds l =
    Either (bytes_eq s (codes "L8")) ((n : NodeId) × (c : ℤ) × (k : Kind) × (l ≡ L8 n c k) × (ds ≡ node_data n ∷ signed_data c ∷ kind_data k ∷ []))
    (Either (bytes_eq s (codes "L13")) ((j : ℕ) × (images : List NodeId) × (edges : List EdgeId) × (l ≡ L13 j images edges) × (ds ≡ count_data j ∷ list_data node_data images ∷ list_data edge_id_data edges ∷ [])) ⊥)

abbrev pub OfFive : List ℕ → List Data → Line → Type 0
OfFive s ds l =
    Either (bytes_eq s (codes "L3")) ((fold : FoldInd) × (l ≡ L3 fold) × (ds ≡ ind_entries fold))
    (Either (bytes_eq s (codes "L7"))
    ((pred : PredId) × (a : NodeId) × (args : List NodeId) × (b : NodeId) × (ends : List NodeId) × (l ≡ L7 pred a args b ends)
    × (ds ≡ pred_data pred ∷ node_data a ∷ list_data node_data args ∷ node_data b ∷ list_data node_data ends ∷ [])) ⊥)

abbrev pub OfSix : List ℕ → List Data → Line → Type 0
OfSix s ds l =
    Either (bytes_eq s (codes "L4")) ((fold : FoldSeg) × (l ≡ L4 fold) × (ds ≡ seg_entries fold)) ⊥

-- what a line with this name and these entries is
abbrev pub IsForm : List ℕ → List Data → Line → Type 0
IsForm s [] l = Plain s l
IsForm s (a ∷ []) l = OfOne s a l
IsForm s (a ∷ b ∷ []) l = OfTwo s (a ∷ b ∷ []) l
IsForm s (a ∷ b ∷ c ∷ []) l = OfThree s (a ∷ b ∷ c ∷ []) l
IsForm s (a ∷ b ∷ c ∷ d ∷ []) l = ⊥
IsForm s (a ∷ b ∷ c ∷ d ∷ e ∷ []) l = OfFive s (a ∷ b ∷ c ∷ d ∷ e ∷ []) l
IsForm s (a ∷ b ∷ c ∷ d ∷ e ∷ f ∷ []) l = OfSix s (a ∷ b ∷ c ∷ d ∷ e ∷ f ∷ []) l
IsForm s (a ∷ b ∷ c ∷ d ∷ e ∷ f ∷ g ∷ more) l = ⊥

own : (l : Line) → OfNamed (λ s ds. IsForm s ds l) (values_in (data_of l))
own (Header v f) = (v, f, refl, refl)
own (Cut p) = (p, refl, refl)
own (Head p raw) = (p, raw, refl, refl)
own Pass = inr (refl, refl)
own End = inr (refl, refl)
own (Step rule) = inl (rule, refl, refl)
own (L1 e) = (e, refl, refl)
own (L2 e) = (e, refl, refl)
own (L3 fold) = (fold, refl, refl)
own (L4 fold) = (fold, refl, refl)
own (L5 i j) = (i, j, refl, refl)
own (L6 i j) = (i, j, refl, refl)
own (L7 pred a args b ends) = (pred, a, args, b, ends, refl, refl)
own (L8 n c k) = (n, c, k, refl, refl)
own (L9 n m) = (n, m, refl, refl)
own (L10 e) = (e, refl, refl)
own (L11 n) = (n, refl, refl)
own L12 = inr (refl, refl)
own (L13 j images edges) = (j, images, edges, refl, refl)
own (L14 e) = (e, refl, refl)
own (L15 e) = (e, refl, refl)
own C1 = inr (refl, refl)
own (C2 tries) = (tries, refl, refl)
own (C3 j steps) = (j, steps, refl, refl)

-- a line whose array has this name and these entries
pub line_form : (s : List ℕ) (ds : List Data) (l : Line) → named_data s ds ≡ data_of l → IsForm s ds l
line_form s ds l e = form_of data_of IsForm own s ds l e

-- ---- how many entries lines have

abbrev pub HasLength : ℕ → Type 0
HasLength n = (n ≢ 4) × (n ≤ 6)

lengths : (l : Line) → HasLength (length (entries_in (data_of l)))
lengths (Header v f) = (λ e. cc, lit≤ tt)
lengths (Cut p) = (λ e. cc, lit≤ tt)
lengths (Head p raw) = (λ e. cc, lit≤ tt)
lengths Pass = (λ e. cc, lit≤ tt)
lengths End = (λ e. cc, lit≤ tt)
lengths (Step rule) = (λ e. cc, lit≤ tt)
lengths (L1 e) = (λ e. cc, lit≤ tt)
lengths (L2 e) = (λ e. cc, lit≤ tt)
lengths (L3 fold) = (λ e. cc, lit≤ tt)
lengths (L4 fold) = (λ e. cc, lit≤ tt)
lengths (L5 i j) = (λ e. cc, lit≤ tt)
lengths (L6 i j) = (λ e. cc, lit≤ tt)
lengths (L7 pred a args b ends) = (λ e. cc, lit≤ tt)
lengths (L8 n c k) = (λ e. cc, lit≤ tt)
lengths (L9 n m) = (λ e. cc, lit≤ tt)
lengths (L10 e) = (λ e. cc, lit≤ tt)
lengths (L11 n) = (λ e. cc, lit≤ tt)
lengths L12 = (λ e. cc, lit≤ tt)
lengths (L13 j images edges) = (λ e. cc, lit≤ tt)
lengths (L14 e) = (λ e. cc, lit≤ tt)
lengths (L15 e) = (λ e. cc, lit≤ tt)
lengths C1 = (λ e. cc, lit≤ tt)
lengths (C2 tries) = (λ e. cc, lit≤ tt)
lengths (C3 j steps) = (λ e. cc, lit≤ tt)

pub line_length : (s : List ℕ) (ds : List Data) (l : Line) → named_data s ds ≡ data_of l → HasLength (length ds)
line_length s ds l e = subst (λ es. HasLength (length es)) (entries_back s ds) (subst (λ d. HasLength (length (entries_in d))) (sym e) (lengths l))

-- ---- headers of other versions

-- the array of a header has that name and two entries
pub version_form : (s : List ℕ) (ds : List Data) → IsOtherVersion (named_data s ds) → (s ≡ codes "memcad") × (length ds ≡ 2)
version_form s ds v =
    let both = named_once s (codes "memcad") ds (v.0 ∷ form_data v.1 ∷ []) v.4 in
    (both.0, ap length both.1)

-- where no header can be, faults are those of the other lines
pub no_header : (d : Data) → (IsOtherVersion d → ⊥) → (r : Result Line LineFault) → Reads data_of LineFits d r → LineReadsAs d r
no_header d none (Ok line) h = h
no_header d none (Err faults.Form) h = (h, none)
no_header d none (Err faults.NoMemory) h = h
no_header d none (Err faults.NotJson) h = absurd h
no_header d none (Err faults.Version) h = absurd h

-- ---- each is an array that begins with a name

line_named : (l : Line) → IsNamed (data_of l)
line_named (Header v f) = (name_in (data_of (Header v f)), entries_in (data_of (Header v f)), refl)
line_named (Cut p) = (name_in (data_of (Cut p)), entries_in (data_of (Cut p)), refl)
line_named (Head p raw) = (name_in (data_of (Head p raw)), entries_in (data_of (Head p raw)), refl)
line_named Pass = (name_in (data_of Pass), entries_in (data_of Pass), refl)
line_named End = (name_in (data_of End), entries_in (data_of End), refl)
line_named (Step rule) = (rule_name rule, [], refl)
line_named (L1 e) = (name_in (data_of (L1 e)), entries_in (data_of (L1 e)), refl)
line_named (L2 e) = (name_in (data_of (L2 e)), entries_in (data_of (L2 e)), refl)
line_named (L3 fold) = (codes "L3", ind_entries fold, refl)
line_named (L4 fold) = (codes "L4", seg_entries fold, refl)
line_named (L5 i j) = (name_in (data_of (L5 i j)), entries_in (data_of (L5 i j)), refl)
line_named (L6 i j) = (name_in (data_of (L6 i j)), entries_in (data_of (L6 i j)), refl)
line_named (L7 pred a args b ends) = (name_in (data_of (L7 pred a args b ends)), entries_in (data_of (L7 pred a args b ends)), refl)
line_named (L8 n c k) = (name_in (data_of (L8 n c k)), entries_in (data_of (L8 n c k)), refl)
line_named (L9 n m) = (name_in (data_of (L9 n m)), entries_in (data_of (L9 n m)), refl)
line_named (L10 e) = (name_in (data_of (L10 e)), entries_in (data_of (L10 e)), refl)
line_named (L11 n) = (name_in (data_of (L11 n)), entries_in (data_of (L11 n)), refl)
line_named L12 = (name_in (data_of L12), entries_in (data_of L12), refl)
line_named (L13 j images edges) = (name_in (data_of (L13 j images edges)), entries_in (data_of (L13 j images edges)), refl)
line_named (L14 e) = (name_in (data_of (L14 e)), entries_in (data_of (L14 e)), refl)
line_named (L15 e) = (name_in (data_of (L15 e)), entries_in (data_of (L15 e)), refl)
line_named C1 = (name_in (data_of C1), entries_in (data_of C1), refl)
line_named (C2 tries) = (name_in (data_of (C2 tries)), entries_in (data_of (C2 tries)), refl)
line_named (C3 j steps) = (name_in (data_of (C3 j steps)), entries_in (data_of (C3 j steps)), refl)

pub no_line : (d : Data) → ((s : List ℕ) (ds : List Data) → d ≢ named_data s ds) → (l : Line) → d ≢ data_of l
no_line d none l e = none (line_named l).0 (line_named l).1 (e ∙ (line_named l).2)

-- ---- slices of five and six

five : {V : Type 0} (seen : V → Data) (xs : List V) (a b c d e : V) → length xs ≡ 5 → (a ≡ get_or xs 0 a) × (b ≡ get_or xs 1 b) × (c ≡ get_or xs 2 c) × (d ≡ get_or xs 3 d) × (e ≡ get_or xs 4 e)
    → map seen xs ≡ seen a ∷ seen b ∷ seen c ∷ seen d ∷ seen e ∷ []
five seen [] a b c d e n h = absurd (omega arith)
five seen (p ∷ []) a b c d e n h = absurd (omega arith)
five seen (p ∷ q ∷ []) a b c d e n h = absurd (omega arith)
five seen (p ∷ q ∷ r ∷ []) a b c d e n h = absurd (omega arith)
five seen (p ∷ q ∷ r ∷ s ∷ []) a b c d e n h = absurd (omega arith)
five seen (p ∷ q ∷ r ∷ s ∷ t ∷ []) a b c d e n h =
    ap (λ x. seen x ∷ seen q ∷ seen r ∷ seen s ∷ seen t ∷ []) (sym h.0) ∙ ap (λ x. seen a ∷ seen x ∷ seen r ∷ seen s ∷ seen t ∷ []) (sym h.1)
    ∙ ap (λ x. seen a ∷ seen b ∷ seen x ∷ seen s ∷ seen t ∷ []) (sym h.2) ∙ ap (λ x. seen a ∷ seen b ∷ seen c ∷ seen x ∷ seen t ∷ []) (sym h.3)
    ∙ ap (λ x. seen a ∷ seen b ∷ seen c ∷ seen d ∷ seen x ∷ []) (sym h.4)
five seen (p ∷ q ∷ r ∷ s ∷ t ∷ u ∷ more) a b c d e n h = absurd (omega arith)

six : {V : Type 0} (seen : V → Data) (xs : List V) (a b c d e f : V) → length xs ≡ 6 → (a ≡ get_or xs 0 a) × (b ≡ get_or xs 1 b) × (c ≡ get_or xs 2 c) × (d ≡ get_or xs 3 d) × (e ≡ get_or xs 4 e) × (f ≡ get_or xs 5 f)
    → map seen xs ≡ seen a ∷ seen b ∷ seen c ∷ seen d ∷ seen e ∷ seen f ∷ []
six seen [] a b c d e f n h = absurd (omega arith)
six seen (p ∷ more) a b c d e f n h = ap (λ x. seen x ∷ map seen more) (sym h.0) ∙ ap (λ ds. seen a ∷ ds) (five seen more b c d e f (omega arith) (h.1, h.2, h.3, h.4, h.5))

-- where five or six entries are read, no header is
pub five_entries : {V : Type 0} (seen : V → Data) (s : List ℕ) (xs : List V) (a b c d e : V) → length xs ≡ 5 → (a ≡ get_or xs 0 a) × (b ≡ get_or xs 1 b) × (c ≡ get_or xs 2 c) × (d ≡ get_or xs 3 d) × (e ≡ get_or xs 4 e)
    → (r : Result Line LineFault) → Reads data_of LineFits (named_data s (seen a ∷ seen b ∷ seen c ∷ seen d ∷ seen e ∷ [])) r → LineReadsAs (named_data s (map seen xs)) r
five_entries seen s xs a b c d e n h r reads =
    let ds = seen a ∷ seen b ∷ seen c ∷ seen d ∷ seen e ∷ [] in
    subst (λ es. LineReadsAs (named_data s es) r) (sym (five seen xs a b c d e n h))
    (no_header (named_data s ds) (λ v. let two : 5 ≡ 2 = (version_form s ds v).1 in cc) r reads)

pub six_entries : {V : Type 0} (seen : V → Data) (s : List ℕ) (xs : List V) (a b c d e f : V) → length xs ≡ 6 → (a ≡ get_or xs 0 a) × (b ≡ get_or xs 1 b) × (c ≡ get_or xs 2 c) × (d ≡ get_or xs 3 d) × (e ≡ get_or xs 4 e) × (f ≡ get_or xs 5 f)
    → (r : Result Line LineFault) → Reads data_of LineFits (named_data s (seen a ∷ seen b ∷ seen c ∷ seen d ∷ seen e ∷ seen f ∷ [])) r → LineReadsAs (named_data s (map seen xs)) r
six_entries seen s xs a b c d e f n h r reads =
    let ds = seen a ∷ seen b ∷ seen c ∷ seen d ∷ seen e ∷ seen f ∷ [] in
    subst (λ es. LineReadsAs (named_data s es) r) (sym (six seen xs a b c d e f n h))
    (no_header (named_data s ds) (λ v. let two : 6 ≡ 2 = (version_form s ds v).1 in cc) r reads)
