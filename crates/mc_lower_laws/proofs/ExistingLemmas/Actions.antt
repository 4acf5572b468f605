-- The points of assignments and of the parts of calls exist.
use Rattle.std.proofs.Common.{◌≡◌, ◌≤◌, ◌<◌, ◌+◌, ◌++◌, ℕ, zero, suc, List, [], ◌∷◌, Option, Some, None, map, length, refl, sym, ap, subst, arith, inl, inr, Contains}
use Rattle.std.proofs.lemmas.Bool.{cases_eq}
use Rattle.std.specs.Prelude.{slice_get}
use Rattle.mc_base.specs.declared.ids.VarId.{VarId}
use Rattle.mc_base.specs.declared.plain.Kind.{Kind}
use Rattle.mc_base.specs.declared.plain.Kind.TheVariants.{Int, Ptr}
use Rattle.mc_base.specs.declared.text.place.Place.{Place}
use Rattle.mc_base.specs.declared.ids.PointId.{PointId}
use Rattle.mc_flow.specs.declared.defs.shapes.Structs.{Structs}
use Rattle.mc_flow.specs.declared.instr.Operand.{Operand}
use Rattle.mc_flow.specs.declared.instr.Operand.TheVariants.{Var, Const}
use Rattle.mc_flow.specs.declared.instr.Instr.{Instr}
use Rattle.mc_flow.specs.declared.instr.Instr.TheVariants.{Undef, Copy, Malloc, Store}
use Rattle.mc_flow.specs.Steps.{field_count}
use Rattle.mc_semantics.specs.Resolved.Programs.{FieldAt, Left, Expr, expression, allocation, Argument, variable, constant, Function, Local}
use Rattle.mc_lower_spec.specs.Graphs.{Graph, Owner, local, result, plain, Stage, stage, var, Appends, Undefines, IsMade, Uses}
use Rattle.mc_lower_spec.specs.Values.{struct_at, Operation, a_field, sets, Takes, Walks, Evaluates, Puts, puts_variable, puts_field}
use Rattle.mc_lower_spec.specs.Lowering.{SetsTo, sets_operand, sets_computed, sets_allocated, Assigns, assigns_variable, assigns_field, assigns_allocated, Changes, changes_variable, changes_field}
use Rattle.mc_lower_spec.specs.Lowering.{Receives, receives_none, receives, Passes, passes_none, passes, Awaits, awaits_none, awaits, result_info, IsArgument, is_variable, is_constant, AreArguments, are_none, are_arguments}
use Rattle.mc_lower_spec.specs.Length.Lengths.{clearing, operations, putting, setting, changing, assigning, awaiting}
use Rattle.mc_lower_laws.specs.Lowerable.Lowerable.{NamesOnly, IsMadeArgument, AreMadeArguments}
use Rattle.mc_lower_laws.specs.Valid.Kinds.{Here, LeadsTo, IsLeft, IsOf}
use Rattle.mc_lower_laws.proofs.ExistingLemmas.Tables.{Owned, Has, In, Source, IsOf as IsFrom, Piece, kept_in, one_longer, among_one, nothing, on, then_on, meant, up_to}
use Rattle.mc_lower_laws.proofs.ExistingLemmas.Values.{laying, undefining, knowing, creating, found, using_one, taking, of_this_kind, walking, AreNamed, Valued, at_once, by_points, value_of, evaluating}

-- ---- an instruction, after which the temporaries become undefined
pub record Closes (g : Graph) (place : Place) (code : PointId → Instr) (ts : List VarId) (s u : Stage) : Type 0 where
  pub middle : Stage
  pub appends : Appends g plain place code s middle
  pub undefines : Undefines g place ts middle u

pub closing : {z : Source} (n : ℕ) (old : List Owned) (place : Place) (code : PointId → Instr) (ts : List VarId) → Piece z n (n + suc (clearing (length ts))) [] old (λ g s u. Closes g place code ts s u)
closing {z = z} n old place code ts =
    let a = laying {z = z} n old plain place code in
    up_to (omega arith) (then_on a (undefining (suc n) a.all place ts) (λ g s i u is a b. record { middle = i; appends = a; undefines = b }))

-- ---- assignments
put_to : {z : Source} {out : ℕ} (h : Here) (kind : Kind) (n : ℕ) (old : List Owned) (place : Place) (x : ℕ) (fs : List FieldAt) (o : Operand) (ts : List VarId) → h.structs ≡ z.structs → In old (local out x)
    → IsLeft h kind (record { variable = x; fields = fs }) → Piece z n (n + putting (length fs) (length ts)) [] old (λ g s u. Puts g out place (record { variable = x; fields = fs }) o ts s u)
put_to {out = out} h kind n old place x [] o ts same made of =
    let none : length ts ≡ length ts + 0 = omega arith in
    let clear : clearing (length ts) ≡ clearing (length ts + 0) = ap clearing none in
    up_to (omega (arith, clear))
    (meant (knowing {K = λ g s. IsMade g (local out x) (var made.number) s} (λ g b is has. found made g b n has) (closing n old place (λ q. Copy (var made.number) o q) ts))
    (λ g s u is (m, c). puts_variable m c.appends c.undefines))
put_to {z = z} {out = out} h kind n old place x (f ∷ fs) o ts same made (from, is, leads) =
    let w = walking {z = z} n old place (var made.number) f fs ts from kind (subst (λ (s : Structs). LeadsTo s from (f ∷ fs) kind) same leads) in
    let first = knowing {K = λ g s. IsMade g (local out x) (var made.number) s} (λ g b is has. found made g b n has) w.piece in
    let clear : clearing (length w.temporaries) ≡ clearing (length ts + length fs) = ap clearing w.many in
    up_to (omega (arith, clear))
    (then_on first (closing (n + length fs) first.all place (λ q. Store w.variable (struct_at w.last.shape) w.last.field o q) w.temporaries)
    (λ g s i u is (m, steps) c. puts_field m steps c.appends c.undefines))

pub putting_in : {z : Source} {out : ℕ} (h : Here) (kind : Kind) (n : ℕ) (old : List Owned) (place : Place) (l : Left) (o : Operand) (ts : List VarId) → h.structs ≡ z.structs → In old (local out l.variable)
    → IsLeft h kind l → Piece z n (n + putting (length l.fields) (length ts)) [] old (λ g s u. Puts g out place l o ts s u)
putting_in h kind n old place l o ts same made of = put_to h kind n old place l.variable l.fields o ts same made of

-- a variable is set to an expression
set_by : {z : Source} {out : ℕ} {place : Place} (n : ℕ) (old : List Owned) (v : VarId) (e : Expr) → Valued z out place n old e [] → Piece z n (n + setting (operations e)) [] old (λ g s u. SetsTo g out place v (expression e) s u)
set_by {place = place} n old v e (at_once o none meets) =
    let one : setting (operations e) ≡ 1 = ap setting none in
    up_to (omega (arith, one))
    (meant (knowing {K = λ g s. Evaluates g _ place e [] s o [] s} (λ g b is has. meets g b has) (laying n old plain place (λ q. Copy v o q))) (λ g s u is (value, a). sets_operand value a))
set_by {place = place} n old v e (by_points d kind operation us some many p) =
    let more : setting (operations e) ≡ suc (d + clearing d) = ap setting some in
    let as_many : length us ≡ d = omega (arith, many) in
    let clear : clearing (length us) ≡ clearing d = ap clearing as_many in
    up_to (omega (arith, more, clear)) (then_on p (closing (n + d) p.all place (λ q. sets operation v q) us) (λ g s i u is value c. sets_computed value c.appends c.undefines))

pub setting_expression : {z : Source} {out : ℕ} (h : Here) (known : List ℕ) (kind : Kind) (n : ℕ) (old : List Owned) (place : Place) (v : VarId) (e : Expr) → h.structs ≡ z.structs → AreNamed out known old → NamesOnly known e → IsOf h kind e
    → Piece z n (n + setting (operations e)) [] old (λ g s u. SetsTo g out place v (expression e) s u)
setting_expression h known kind n old place v e same named names of = set_by n old v e (value_of h known kind n old e [] same named names of)

fields_counted : {z : Source} {g : Graph} (shape fields : ℕ) → IsFrom z g → field_count z.structs (struct_at shape) ≡ fields → field_count g.flow.structs (struct_at shape) ≡ fields
fields_counted shape fields is count = subst (λ (s : Structs). field_count s (struct_at shape) ≡ fields) (sym is.structs) count

pub setting_allocation : {z : Source} {out : ℕ} (n : ℕ) (old : List Owned) (place : Place) (v : VarId) (shape fields : ℕ) → field_count z.structs (struct_at shape) ≡ fields
    → Piece z n (n + 1) [] old (λ g s u. SetsTo g out place v (allocation shape fields) s u)
setting_allocation n old place v shape fields count =
    up_to (omega arith) (meant (laying n old plain place (λ q. Malloc v (struct_at shape) q)) (λ g s u is a. sets_allocated (fields_counted shape fields is count) a))

assign_value : {z : Source} {out : ℕ} (h : Here) (known : List ℕ) (table : List ℕ) (kind : Kind) (n : ℕ) (old : List Owned) (place : Place) (x : ℕ) (fs : List FieldAt) (e : Expr) → h.structs ≡ z.structs → AreNamed out known old
    → In old (local out x) → NamesOnly known e → IsLeft h kind (record { variable = x; fields = fs }) → IsOf h kind e
    → Piece z n (n + assigning table (expression e) (length fs)) [] old (λ g s u. Assigns g out place (record { variable = x; fields = fs }) (expression e) s u)
assign_value {out = out} h known table kind n old place x [] e same named made names left of =
    meant (knowing {K = λ g s. IsMade g (local out x) (var made.number) s} (λ g b is has. found made g b n has) (setting_expression h known kind n old place (var made.number) e same named names of))
    (λ g s u is (m, sets). assigns_variable m sets)
assign_value {z = z} {out = out} h known table kind n old place x (f ∷ fs) e same named made names left of =
    let v = evaluating {z = z} {out = out} {place = place} h known kind n old e [] same named names of in
    let many : length v.temporaries ≡ operations e = omega (arith, v.many) in
    let as_many : putting (suc (length fs)) (length v.temporaries) ≡ putting (suc (length fs)) (operations e) = ap (putting (suc (length fs))) many in
    up_to (omega (arith, as_many))
    (then_on v.piece (putting_in h kind (n + operations e) v.piece.all place (record { variable = x; fields = f ∷ fs }) v.operand v.temporaries same (kept_in v.piece.adds.keeps made) left)
    (λ g s i u is a b. assigns_field a b))

assign_new : {z : Source} {out : ℕ} (h : Here) (table : List ℕ) (kind : Kind) (n : ℕ) (old : List Owned) (place : Place) (x : ℕ) (fs : List FieldAt) (shape fields : ℕ) → h.structs ≡ z.structs
    → In old (local out x) → field_count z.structs (struct_at shape) ≡ fields → IsLeft h kind (record { variable = x; fields = fs })
    → Piece z n (n + assigning table (allocation shape fields) (length fs)) [] old (λ g s u. Assigns g out place (record { variable = x; fields = fs }) (allocation shape fields) s u)
assign_new {out = out} h table kind n old place x [] shape fields same made count left =
    meant (knowing {K = λ g s. IsMade g (local out x) (var made.number) s} (λ g b is has. found made g b n has) (setting_allocation n old place (var made.number) shape fields count))
    (λ g s u is (m, sets). assigns_variable m sets)
assign_new {z = z} {out = out} h table kind n old place x (f ∷ fs) shape fields same made count left =
    let (t, uses) = using_one {z = z} n old 0 Ptr in
    let first : Piece z n (suc n) [] old (λ g s u. (m : Stage) × Uses g 0 Ptr s t m × Appends g plain place (λ q. Malloc t (struct_at shape) q) m u) =
    then_on uses (laying n uses.all plain place (λ q. Malloc t (struct_at shape) q)) (λ g s i u is a b. (i, a, b)) in
    up_to (omega arith)
    (then_on first (putting_in h kind (suc n) first.all place (record { variable = x; fields = f ∷ fs }) (Var t) (t ∷ []) same (kept_in first.adds.keeps made) left)
    (λ g s i u is (m, a, b) c. assigns_allocated (fields_counted shape fields is count) a b c))

pub assigning_expression : {z : Source} {out : ℕ} (h : Here) (known : List ℕ) (table : List ℕ) (kind : Kind) (n : ℕ) (old : List Owned) (place : Place) (l : Left) (e : Expr) → h.structs ≡ z.structs → AreNamed out known old
    → In old (local out l.variable) → NamesOnly known e → IsLeft h kind l → IsOf h kind e
    → Piece z n (n + assigning table (expression e) (length l.fields)) [] old (λ g s u. Assigns g out place l (expression e) s u)
assigning_expression h known table kind n old place l e same named made names left of = assign_value h known table kind n old place l.variable l.fields e same named made names left of

pub assigning_allocation : {z : Source} {out : ℕ} (h : Here) (table : List ℕ) (kind : Kind) (n : ℕ) (old : List Owned) (place : Place) (l : Left) (shape fields : ℕ) → h.structs ≡ z.structs
    → In old (local out l.variable) → field_count z.structs (struct_at shape) ≡ fields → IsLeft h kind l
    → Piece z n (n + assigning table (allocation shape fields) (length l.fields)) [] old (λ g s u. Assigns g out place l (allocation shape fields) s u)
assigning_allocation h table kind n old place l shape fields same made count left = assign_new h table kind n old place l.variable l.fields shape fields same made count left

-- ---- `+=` and `-=`
-- a field is loaded, computed and stored
pub record Changed (g : Graph) (place : Place) (operation : Operand → Operand → Operation) (y : VarId) (last : FieldAt) (us : List VarId) (o : Operand) (s u : Stage) : Type 0 where
  pub before : VarId
  pub after : VarId
  pub loaded : Stage
  pub computed : Stage
  pub loads : Takes g place Int (a_field y last) us s before (us ++ before ∷ []) loaded
  pub computes : Takes g place Int (operation (Var before) o) (us ++ before ∷ []) loaded after ((us ++ before ∷ []) ++ after ∷ []) computed
  pub closes : Closes g place (λ q. Store y (struct_at last.shape) last.field (Var after) q) ((us ++ before ∷ []) ++ after ∷ []) computed u

changing_rest : {z : Source} (n : ℕ) (old : List Owned) (place : Place) (operation : Operand → Operand → Operation) (y : VarId) (last : FieldAt) (us : List VarId) (o : Operand)
    → Piece z n (n + (3 + clearing (length us + 2))) [] old (λ g s u. Changed g place operation y last us o s u)
changing_rest {z = z} n old place operation y last us o =
    let (before, loads) = taking {z = z} n old place Int (a_field y last) us in
    let ws : List VarId = us ++ before ∷ [] in
    let (after, computes) = taking {z = z} (suc n) loads.all place Int (operation (Var before) o) ws in
    let rs : List VarId = ws ++ after ∷ [] in
    let ends : Piece z (suc n) (suc (suc n) + suc (clearing (length rs))) [] loads.all
    (λ g s u. (i : Stage) × Takes g place Int (operation (Var before) o) ws s after rs i × Closes g place (λ q. Store y (struct_at last.shape) last.field (Var after) q) rs i u) =
    then_on computes (closing (suc (suc n)) computes.all place (λ q. Store y (struct_at last.shape) last.field (Var after) q) rs) (λ g s i u is a b. (i, a, b)) in
    let many : length rs ≡ length us + 2 = omega (arith, one_longer ws after, one_longer us before) in
    let clear : clearing (length rs) ≡ clearing (length us + 2) = ap clearing many in
    up_to (omega (arith, clear))
    (then_on loads ends (λ g s i u is a (j, b, c). record { before = before; after = after; loaded = i; computed = j; loads = a; computes = b; closes = c }))

change_to : {z : Source} {out : ℕ} (h : Here) (known : List ℕ) (n : ℕ) (old : List Owned) (place : Place) (operation : Operand → Operand → Operation) (x : ℕ) (fs : List FieldAt) (e : Expr) → h.structs ≡ z.structs → AreNamed out known old
    → In old (local out x) → NamesOnly known e → IsLeft h Int (record { variable = x; fields = fs }) → IsOf h Int e
    → Piece z n (n + changing (length fs) (operations e)) [] old (λ g s u. Changes g out place operation (record { variable = x; fields = fs }) e s u)
change_to {z = z} {out = out} h known n old place operation x [] e same named made names left of =
    let v = evaluating {z = z} {out = out} {place = place} h known Int n old e [] same named names of in
    let many : length v.temporaries ≡ operations e = omega (arith, v.many) in
    let clear : clearing (length v.temporaries) ≡ clearing (operations e) = ap clearing many in
    let here = kept_in v.piece.adds.keeps made in
    let last = knowing {K = λ g s. IsMade g (local out x) (var here.number) s} (λ g b is has. found here g b (n + operations e) has)
    (closing {z = z} (n + operations e) v.piece.all place (λ q. sets (operation (Var (var here.number)) v.operand) (var here.number) q) v.temporaries) in
    up_to (omega (arith, clear)) (then_on v.piece last (λ g s i u is a (m, c). changes_variable a m c.appends c.undefines))
change_to {z = z} {out = out} h known n old place operation x (f ∷ fs) e same named made names (from, is, leads) of =
    let v = evaluating {z = z} {out = out} {place = place} h known Int n old e [] same named names of in
    let here = kept_in v.piece.adds.keeps made in
    let w = walking {z = z} (n + operations e) v.piece.all place (var here.number) f fs v.temporaries from Int (subst (λ (s : Structs). LeadsTo s from (f ∷ fs) Int) same leads) in
    let go = knowing {K = λ g s. IsMade g (local out x) (var here.number) s} (λ g b is has. found here g b (n + operations e) has) w.piece in
    let rest : Piece z (n + operations e) ((n + operations e) + length fs + (3 + clearing (length w.temporaries + 2))) [] v.piece.all
    (λ g s u. (i : Stage) × IsMade g (local out x) (var here.number) s × Walks g place (var here.number) (f ∷ fs) v.temporaries s w.variable w.last w.temporaries i × Changed g place operation w.variable w.last w.temporaries v.operand i u) =
    then_on go (changing_rest ((n + operations e) + length fs) go.all place operation w.variable w.last w.temporaries v.operand) (λ g s i u is (m, a) b. (i, m, a, b)) in
    let many : length w.temporaries + 2 ≡ operations e + length fs + 2 = omega (arith, w.many, v.many) in
    let clear : clearing (length w.temporaries + 2) ≡ clearing (operations e + length fs + 2) = ap clearing many in
    up_to (omega (arith, clear))
    (then_on v.piece rest (λ g s i u is a (j, m, b, c). changes_field a m b (of_this_kind w.last is w.of_kind) c.loads c.computes c.closes.appends c.closes.undefines))

pub changing_by : {z : Source} {out : ℕ} (h : Here) (known : List ℕ) (n : ℕ) (old : List Owned) (place : Place) (operation : Operand → Operand → Operation) (l : Left) (e : Expr) → h.structs ≡ z.structs → AreNamed out known old
    → In old (local out l.variable) → NamesOnly known e → IsLeft h Int l → IsOf h Int e
    → Piece z n (n + changing (length l.fields) (operations e)) [] old (λ g s u. Changes g out place operation l e s u)
changing_by h known n old place operation l e same named made names left of = change_to h known n old place operation l.variable l.fields e same named made names left of

-- ---- parts of calls
-- the numbers from this one on
abbrev pub numbers_from : (x more : ℕ) → List ℕ
numbers_from x zero = []
numbers_from x (suc more) = x ∷ numbers_from (suc x) more

pub from_low : (x more y : ℕ) → Contains (numbers_from x more) y → (x ≤ y) × (y < x + more)
from_low x zero y among = absurd (omega (arith, among.1))
from_low x (suc more) y (zero, within, is) = (omega (arith, is), omega (arith, is))
from_low x (suc more) y (suc k, within, is) = let low = from_low (suc x) more y (k, omega (arith, within), is) in (omega (arith, low.0), omega (arith, low.1))

pub low_from : (x more y : ℕ) → x ≤ y → y < x + more → Contains (numbers_from x more) y
low_from x zero y low high = absurd (omega (arith, low, high))
low_from x (suc more) y low high =
    elim (cases_eq x y) [
      | inl same ↦ (zero, omega arith, same)
      | inr apart ↦ let later = low_from (suc x) more y (omega (arith, low, apart)) (omega (arith, high)) in (suc later.0, omega (arith, later.1), later.2)
    ]

abbrev number_of : Owner → ℕ
number_of (local o y) = y
number_of (result o) = o
number_of (Owner.temporary j kind) = j

pub receiving : {z : Source} (f : Function) (out x more n : ℕ) (old : List Owned) → ((y : ℕ) → y < x + more → (l : Local) × (slice_get f.locals y ≡ Some l)) → ((y : ℕ) → x ≤ y → In old (local out y) → ⊥)
    → (vs : List VarId) × (length vs ≡ more) × Piece z n n (map (local out) (numbers_from x more)) old (λ g s u. Receives g f out x more s vs u)
receiving f out x zero n old there new = ([], refl, nothing n old (λ g goal is has. receives_none))
receiving {z = z} f out x (suc more) n old there new =
    let (l, is) = there x (omega arith) in
    let first = creating {z = z} n old (local out x) (record { name = l.name; kind = l.kind }) (new x (omega arith)) in
    let (vs, many, rest) = receiving {z = z} f out (suc x) more n first.all (λ y low. there y (omega (arith, low)))
    (λ y high among. elim (first.adds.only (local out y) out refl among) [
      | inl early ↦ new y (omega (arith, high)) early
      | inr late ↦ elim late [
        | inl own ↦ let same : x ≡ y = ap number_of (among_one (local out x) (local out y) own) in omega (arith, same, high)
        | inr inner ↦ omega (arith, inner.0, inner.1)
      ]
    ]) in
    (var (length old) ∷ vs, ap suc many, on first rest (λ g s i u from a b. receives is a b))

pub passing : {z : Source} (n : ℕ) (old : List Owned) (place : Place) (vs : List VarId) (os : List Operand) → length vs ≡ length os → Piece z n (n + length os) [] old (λ g s u. Passes g place vs os s u)
passing n old place [] [] same = up_to (omega arith) (nothing n old (λ g goal is has. passes_none))
passing n old place [] (o ∷ os) same = absurd (omega (arith, same))
passing n old place (v ∷ vs) [] same = absurd (omega (arith, same))
passing {z = z} n old place (v ∷ vs) (o ∷ os) same =
    let first = laying {z = z} n old plain place (λ q. Copy v o q) in
    up_to (omega arith) (then_on first (passing (suc n) first.all place vs os (omega (arith, same))) (λ g s i u is a b. passes a b))

abbrev pub awaited : ℕ → Option Kind → List Owner
awaited out None = []
awaited out (Some kind) = result out ∷ []

-- a result is there where one is wanted
pub record Awaited (z : Source) (n : ℕ) (old : List Owned) (out : ℕ) (place : Place) (kind : Option Kind) : Type 0 where
  pub ret : Option VarId
  pub some : (k : Kind) → kind ≡ Some k → (v : VarId) × (ret ≡ Some v)
  pub piece : Piece z n (n + awaiting kind) (awaited out kind) old (λ g s u. Awaits g out place kind s ret u)

pub awaiting_one : {z : Source} (n : ℕ) (old : List Owned) (out : ℕ) (place : Place) (kind : Option Kind) → (In old (result out) → ⊥) → Awaited z n old out place kind
awaiting_one n old out place None new = record { ret = None; some = λ k never. absurd (cc never); piece = up_to (omega arith) (nothing n old (λ g goal is has. awaits_none)) }
awaiting_one {z = z} n old out place (Some kind) new =
    let first = creating {z = z} n old (result out) (result_info kind) new in
    record {
      ret = Some (var (length old));
      some = λ k is. (var (length old), refl);
      piece = up_to (omega arith) (then_on first (laying n first.all plain place (λ q. Undef (var (length old) ∷ []) q)) (λ g s i u is a b. awaits a b));
    }

-- ---- shapes
pub argument_of : {out : ℕ} {known : List ℕ} {old : List Owned} (a : Argument) → AreNamed out known old → IsMadeArgument known a
    → (o : Operand) × ((g : Graph) (b n : ℕ) → Has g old → IsArgument g out (stage b n (length old)) a o)
argument_of (variable x) named made = let here = named.has x made in (Var (var here.number), λ g b n has. is_variable (found here g b n has))
argument_of (constant c) named made = (Const c, λ g b n has. is_constant)

pub arguments_of : {out : ℕ} {known : List ℕ} {old : List Owned} (args : List Argument) → AreNamed out known old → AreMadeArguments known args
    → (os : List Operand) × ((g : Graph) (b n : ℕ) → Has g old → AreArguments g out (stage b n (length old)) args os)
arguments_of [] named made = ([], λ g b n has. are_none)
arguments_of (a ∷ args) named made =
    let (o, first) = argument_of a named made.0 in
    let (os, rest) = arguments_of args named made.1 in
    (o ∷ os, λ g b n has. are_arguments (first g b n has) (rest g b n has))
