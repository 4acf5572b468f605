-- Each point of a flow graph names what is there and of its kind, where the program is of its kinds.
use Rattle.std.proofs.Common.{◌≡◌, ◌<◌, ◌≤◌, ℕ, suc, ℤ, pos, List, [], ◌∷◌, ◌++◌, Option, Some, None, refl, sym, ap, ◌∙◌, subst, length, option_map, arith, inl, inr}
use Rattle.std.proofs.lemmas.Bool.{cases_lt}
use Rattle.std.proofs.lemmas.Int.{ints}
use Rattle.std.proofs.lemmas.List.Elements.{All-nil, All-cons, All-append}
use Rattle.std.proofs.lemmas.Option.{same_Some, slice_get_within}
use Rattle.std.specs.List.{AllZip}
use Rattle.std.specs.Prelude.{All, slice_get}
use Rattle.mc_base.specs.declared.ids.PointId.{PointId}
use Rattle.mc_base.specs.declared.ids.VarId.{VarId}
use Rattle.mc_base.specs.declared.plain.Kind.{Kind}
use Rattle.mc_base.specs.declared.plain.Kind.TheVariants.{Int, Ptr}
use Rattle.mc_base.specs.declared.plain.VarInfo.{VarInfo}
use Rattle.mc_c_syntax.specs.declared.ast.trees.Comparison.{Comparison}
use Rattle.mc_c_syntax.specs.declared.ast.trees.Comparison.TheVariants.{Equal, Unequal, Below, AtMost, Above, AtLeast}
use Rattle.mc_base.specs.declared.text.place.Place.{Place}
use Rattle.mc_flow.specs.declared.instr.Instr.{Instr}
use Rattle.mc_flow.specs.declared.instr.Operand.{Operand}
use Rattle.mc_flow.specs.declared.instr.Operand.TheVariants.{Var, Const}
use Rattle.mc_flow.specs.Valid.{IsVar, IsOperand, IsField, FitsKinds}
use Rattle.mc_semantics.specs.Resolved.Programs.{FieldAt, Left, Expr, Cond, Right, Local, Function}
use Rattle.mc_lower_spec.proofs.Stages.{points_of, variables_of}
use Rattle.mc_lower_spec.specs.Graphs.{Graph, Owner, local, result, temporary, Role, Stage, point, var, IsPoint, Appends, appends, Undefines, undefines_none, undefines, Creates, creates, IsMade, is_made, Uses, uses_first, uses_again}
use Rattle.mc_lower_spec.specs.Values.{struct_at, Operation, an_input, a_field, a_sum, a_difference, a_product, sets, decides, Takes, takes, Walks, walks_none, walks, Evaluates, of_number, of_variable, of_operation, Computes, of_input, of_field, of_minus, of_times, of_plus, of_difference, EvaluatesAll, evaluates_none, evaluates_next, Compares, compares, Tests, tests_plain, tests_compare, tests_negation, tests_both, tests_either, TestsPerhaps, tests_always, tests_once, Puts, puts_variable, puts_field}
use Rattle.mc_lower_spec.specs.Lowering.{SetsTo, sets_operand, sets_computed, sets_allocated, Assigns, assigns_variable, assigns_field, assigns_allocated, Changes, changes_variable, changes_field}
use Rattle.mc_lower_laws.specs.Valid.Kinds.{Here, IsVariable, LeadsTo, IsLeft, IsOf, AreCompared, IsCondition, IsConditionPerhaps, IsRight}

abbrev pub here : Graph → Function → Here
here g f = record { structs = g.flow.structs; program = g.program; function = f }

-- ---- points
pub record FitsAt (g : Graph) (n : ℕ) : Type 0 where
  pub role : Role
  pub place : Place
  pub code : Instr
  pub is : IsPoint g n role place code
  pub fits : FitsKinds g.flow.vars g.flow.structs g.program.defs code

pub record AllFit (g : Graph) (n m : ℕ) : Type 0 where
  pub at : (p : ℕ) → n ≤ p → p < m → FitsAt g p

pub both_fit : {g : Graph} {n m l : ℕ} → AllFit g n m → AllFit g m l → AllFit g n l
both_fit {m = m} first second =
    record {
      at = λ p le lt. elim (cases_lt p m) [
        | inl low ↦ first.at p le low
        | inr high ↦ second.at p (omega arith) lt
      ];
    }

pub none_fit : {g : Graph} {n : ℕ} → AllFit g n n
none_fit = record { at = λ p le lt. absurd (omega arith) }

pub one_fits : {g : Graph} {n : ℕ} {role : Role} {place : Place} {code : Instr} → IsPoint g n role place code → FitsKinds g.flow.vars g.flow.structs g.program.defs code → AllFit g n (suc n)
one_fits {g = g} {n = n} {role = role} {place = place} {code = code} is fits =
    record { at = λ p le lt. let same : n ≡ p = omega arith in subst (λ i. FitsAt g i) same (record { role = role; place = place; code = code; is = is; fits = fits }) }

abbrev pub FitsAs : Graph → Instr → Type 0
FitsAs g code = FitsKinds g.flow.vars g.flow.structs g.program.defs code

pub appended : {g : Graph} {role : Role} {place : Place} {code : PointId → Instr} {s u : Stage} → Appends g role place code s u → ((q : PointId) → FitsAs g (code q)) → AllFit g (points_of s) (points_of u)
appended (appends {b = b} is) fits = one_fits is (fits (point b))

pub record AreInside (g : Graph) (vs : List VarId) : Type 0 where
  pub all : All (λ x. x.0 < length g.flow.vars) vs

pub none_inside : {g : Graph} → AreInside g []
none_inside {g = g} = record { all = All-nil (λ x. x.0 < length g.flow.vars) }

pub undefined : {g : Graph} {place : Place} {vs : List VarId} {s u : Stage} → Undefines g place vs s u → AreInside g vs → AllFit g (points_of s) (points_of u)
undefined undefines_none inside = none_fit
undefined (undefines is) inside = appended is (λ q. inside.all)

-- ---- variables
-- the function of each occurrence
abbrev pub Functions : Type 0
Functions = ℕ → Option Function

pub record IsOfKind (g : Graph) (kind : Kind) (v : VarId) : Type 0 where
  pub is : IsVar g.flow.vars kind v

pub record SuitsLocal (g : Graph) (F : Functions) (i x v : ℕ) : Type 0 where
  pub function : Function
  pub known : F i ≡ Some function
  pub info : Local
  pub there : slice_get function.locals x ≡ Some info
  pub kind : IsOfKind g info.kind (var v)

pub record SuitsResult (g : Graph) (F : Functions) (i v : ℕ) : Type 0 where
  pub function : Function
  pub known : F i ≡ Some function
  pub result : Kind
  pub there : function.result ≡ Some result
  pub kind : IsOfKind g result (var v)

abbrev pub Suits : Graph → Functions → Owner → ℕ → Type 0
Suits g F (local i x) v = SuitsLocal g F i x v
Suits g F (result i) v = SuitsResult g F i v
Suits g F (temporary j kind) v = IsOfKind g kind (var v)

-- each of the first k variables is of its owner's kind
pub record Knows (g : Graph) (F : Functions) (k : ℕ) : Type 0 where
  pub each : (v : ℕ) (o : Owner) → v < k → slice_get g.owners v ≡ Some o → Suits g F o v

pub kind_at : {g : Graph} {k : ℕ} {info : VarInfo} → slice_get g.flow.vars k ≡ Some info → IsOfKind g info.kind (var k)
kind_at is = record { is = ap (λ o. option_map (λ (x : VarInfo). x.kind) o) is }

inside_at : (vars : List VarInfo) (v : ℕ) (kind : Kind) (o : Option VarInfo) → slice_get vars v ≡ o → option_map (λ (x : VarInfo). x.kind) o ≡ Some kind → v < length vars
inside_at vars v kind (Some info) is same = slice_get_within vars v info is
inside_at vars v kind None is same = absurd (cc same)

pub inside : {g : Graph} {kind : Kind} {v : VarId} → IsOfKind g kind v → v.0 < length g.flow.vars
inside {g = g} {kind = kind} {v = v} is = inside_at g.flow.vars v.0 kind (slice_get g.flow.vars v.0) refl is.is

pub one_inside : {g : Graph} {kind : Kind} {v : VarId} → IsOfKind g kind v → AreInside g (v ∷ [])
one_inside {g = g} {v = v} is = record { all = All-cons (λ x. x.0 < length g.flow.vars) v [] (inside is) (All-nil (λ x. x.0 < length g.flow.vars)) }

pub more_inside : {g : Graph} {kind : Kind} {v : VarId} (vs : List VarId) → AreInside g vs → IsOfKind g kind v → AreInside g (vs ++ v ∷ [])
more_inside {g = g} {v = v} vs all is = record { all = All-append (λ x. x.0 < length g.flow.vars) vs (v ∷ []) all.all (one_inside is).all }

pub created : {g : Graph} {F : Functions} {owner : Owner} {info : VarInfo} {s u : Stage} {v : VarId} → Creates g owner info s v u → (IsOfKind g info.kind v → Suits g F owner v.0)
    → Knows g F (variables_of s) → Knows g F (variables_of u) × IsOfKind g info.kind v
created {g = g} {F = F} {owner = owner} (creates {k = k} owned is) suits knows =
    let kind = kind_at is in (
      record {
        each = λ v o lt there. elim (cases_lt v k) [
          | inl low ↦ knows.each v o low there
          | inr high ↦ let same : k ≡ v = omega arith in
              let one : owner ≡ o = same_Some _ _ (sym owned ∙ ap (λ i. slice_get g.owners i) same ∙ there) in
              subst (λ i. Suits g F o i) same (subst (λ p. Suits g F p k) one (suits kind))
        ];
      },
      kind,
    )

pub used : {g : Graph} {F : Functions} {j : ℕ} {kind : Kind} {s u : Stage} {v : VarId} → Uses g j kind s v u → Knows g F (variables_of s) → Knows g F (variables_of u) × IsOfKind g kind v
used (uses_first is) knows = created is (λ k. k) knows
used {j = j} {kind = kind} (uses_again (is_made {v = v} there lt)) knows = (knows, knows.each v.0 (temporary j kind) lt there)

pub used_points : {g : Graph} {j : ℕ} {kind : Kind} {s u : Stage} {v : VarId} {m : ℕ} → Uses g j kind s v u → AllFit g (points_of u) m → AllFit g (points_of s) m
used_points (uses_first (creates owned is)) fit = fit
used_points (uses_again made) fit = fit

same_kind : {g : Graph} {kind other : Kind} {v : VarId} → kind ≡ other → IsOfKind g kind v → IsOfKind g other v
same_kind {g = g} {v = v} same is = subst (λ k. IsOfKind g k v) same is

-- a variable of a function is of its kind
pub local_kind : {g : Graph} {F : Functions} {f : Function} {out x : ℕ} {v : VarId} {s : Stage} {kind : Kind} → F out ≡ Some f → IsMade g (local out x) v s
    → IsVariable (here g f) kind x → Knows g F (variables_of s) → IsOfKind g kind v
local_kind {g = g} {f = f} {out = out} {x = x} {kind = kind} known (is_made {v = v} there lt) is knows =
    let suits = knows.each v.0 (local out x) lt there in
    let one : suits.function ≡ f = same_Some _ _ (sym suits.known ∙ known) in
    let found : slice_get f.locals x ≡ Some suits.info = subst (λ (h : Function). slice_get h.locals x ≡ Some suits.info) one suits.there in
    same_kind (same_Some suits.info.kind kind (sym (ap (λ o. option_map (λ (l : Local). l.kind) o) found) ∙ is)) suits.kind

pub result_kind : {g : Graph} {F : Functions} {f : Function} {out : ℕ} {v : VarId} {s : Stage} {kind : Kind} → F out ≡ Some f → IsMade g (result out) v s
    → f.result ≡ Some kind → Knows g F (variables_of s) → IsOfKind g kind v
result_kind {f = f} {out = out} {kind = kind} known (is_made {v = v} there lt) is knows =
    let suits = knows.each v.0 (result out) lt there in
    let one : suits.function ≡ f = same_Some _ _ (sym suits.known ∙ known) in
    same_kind (same_Some suits.result kind (sym suits.there ∙ ap (λ (h : Function). h.result) one ∙ is)) suits.kind

-- ---- operations
pub record IsValueOf (g : Graph) (kind : Kind) (o : Operand) : Type 0 where
  pub is : IsOperand g.flow.vars kind o

pub of_var : {g : Graph} {kind : Kind} {v : VarId} → IsOfKind g kind v → IsValueOf g kind (Var v)
of_var {kind = Int} is = record { is = is.is }
of_var {kind = Ptr} is = record { is = is.is }

constant_in : (vars : List VarInfo) (kind : Kind) (c : ℤ) → IsOperand [] kind (Const c) → IsOperand vars kind (Const c)
constant_in vars Int c is = is
constant_in vars Ptr c is = is

pub of_constant : {g : Graph} {kind : Kind} {c : ℤ} → IsOperand [] kind (Const c) → IsValueOf g kind (Const c)
of_constant {g = g} {kind = kind} {c = c} is = record { is = constant_in g.flow.vars kind c is }

same_value : {g : Graph} {kind other : Kind} {o : Operand} → kind ≡ other → IsValueOf g kind o → IsValueOf g other o
same_value {g = g} {o = o} same is = subst (λ k. IsValueOf g k o) same is

-- what an operation names is of its kind
abbrev pub FitsOperation : Graph → Kind → Operation → Type 0
FitsOperation g kind an_input = kind ≡ Int
FitsOperation g kind (a_field y f) = IsOfKind g Ptr y × IsField g.flow.structs (struct_at f.shape) f.field kind
FitsOperation g kind (a_sum a b) = (kind ≡ Int) × IsValueOf g Int a × IsValueOf g Int b
FitsOperation g kind (a_difference a b) = (kind ≡ Int) × IsValueOf g Int a × IsValueOf g Int b
FitsOperation g kind (a_product a b) = (kind ≡ Int) × IsValueOf g Int a × IsValueOf g Int b

pub operation_fits : (g : Graph) (kind : Kind) (operation : Operation) (v : VarId) → FitsOperation g kind operation → IsOfKind g kind v → (q : PointId) → FitsAs g (sets operation v q)
operation_fits g kind an_input v fits is q = (same_kind fits is).is
operation_fits g kind (a_field y f) v fits is q = (kind, is.is, fits.0.is, fits.1)
operation_fits g kind (a_sum a b) v fits is q = ((same_kind fits.0 is).is, fits.1.is, fits.2.is)
operation_fits g kind (a_difference a b) v fits is q = ((same_kind fits.0 is).is, fits.1.is, fits.2.is)
operation_fits g kind (a_product a b) v fits is q = ((same_kind fits.0 is).is, fits.1.is, fits.2.is)

-- ---- expressions
-- the points fit, the variables are known, and the temporaries are there
pub record Stays (g : Graph) (F : Functions) (s : Stage) (ts : List VarId) (u : Stage) : Type 0 where
  pub fit : AllFit g (points_of s) (points_of u)
  pub knows : Knows g F (variables_of u)
  pub inside : AreInside g ts

taken : {g : Graph} {F : Functions} {place : Place} {kind : Kind} {operation : Operation} {ts us : List VarId} {s u : Stage} {t : VarId} → Takes g place kind operation ts s t us u
    → FitsOperation g kind operation → AreInside g ts → Knows g F (variables_of s) → Stays g F s us u × IsOfKind g kind t
taken {g = g} {F = F} {kind = kind} {operation = operation} {ts = ts} {t = t} (takes uses (appends {b = b} is)) fits inside knows =
    let one = used uses knows in
    (record { fit = used_points uses (one_fits is (operation_fits g kind operation t fits one.1 (point b))); knows = one.0; inside = more_inside ts inside one.1 }, one.1)

walked : {g : Graph} {F : Functions} {place : Place} {y z : VarId} {fs : List FieldAt} {ts us : List VarId} {s u : Stage} {last : FieldAt} {from kind : Kind} → Walks g place y fs ts s z last us u
    → IsOfKind g from y → LeadsTo g.flow.structs from fs kind → AreInside g ts → Knows g F (variables_of s)
    → Stays g F s us u × IsOfKind g Ptr z × IsField g.flow.structs (struct_at last.shape) last.field kind
walked {g = g} (walks_none {f = f}) is leads inside knows =
    (record { fit = none_fit; knows = knows; inside = inside }, same_kind leads.0 is, subst (λ k. IsField g.flow.structs (struct_at f.shape) f.field k) leads.1.2 leads.1.1)
walked {g = g} {kind = kind} (walks {h = h} {fs = fs} {kind = first_kind} there first rest) is leads inside knows =
    let one = taken first (same_kind leads.0 is, there) inside knows in
    let same : leads.1.0 ≡ first_kind = same_Some _ _ (sym leads.1.1 ∙ there) in
    let two = walked rest one.1 (subst (λ k. LeadsTo g.flow.structs k (h ∷ fs) kind) same leads.1.2) one.0.inside one.0.knows in
    (record { fit = both_fit one.0.fit two.0.fit; knows = two.0.knows; inside = two.0.inside }, two.1, two.2)

pub joined : {g : Graph} {F : Functions} {s m u : Stage} {ts us : List VarId} → Stays g F s ts m → Stays g F m us u → Stays g F s us u
joined first second = record { fit = both_fit first.fit second.fit; knows = second.knows; inside = second.inside }

zero_is : IsOperand [] Int (Const (pos 0))
zero_is = (omega (arith, ints), omega (arith, ints))

mutual
  pub evaluated : {g : Graph} {F : Functions} {f : Function} {out : ℕ} {place : Place} {e : Expr} {ts us : List VarId} {s u : Stage} {o : Operand} {kind : Kind} → F out ≡ Some f
      → Evaluates g out place e ts s o us u → IsOf (here g f) kind e → AreInside g ts → Knows g F (variables_of s) → Stays g F s us u × IsValueOf g kind o
  evaluated known of_number is inside knows = (record { fit = none_fit; knows = knows; inside = inside }, of_constant is)
  evaluated known (of_variable made) is inside knows =
      (record { fit = none_fit; knows = knows; inside = inside }, of_var (same_kind is.2 (local_kind known made is.1 knows)))
  evaluated known (of_operation first rest) is inside knows =
      let one = computed known first is inside knows in
      let two = taken rest one.1 one.0.inside one.0.knows in
      (joined one.0 two.0, of_var (same_kind one.2 two.1))

  pub computed : {g : Graph} {F : Functions} {f : Function} {out : ℕ} {place : Place} {e : Expr} {ts us : List VarId} {s u : Stage} {kind wanted : Kind} {operation : Operation} → F out ≡ Some f
      → Computes g out place e ts s kind operation us u → IsOf (here g f) wanted e → AreInside g ts → Knows g F (variables_of s)
      → Stays g F s us u × FitsOperation g kind operation × (kind ≡ wanted)
  computed known of_input is inside knows = (record { fit = none_fit; knows = knows; inside = inside }, refl, sym is)
  computed known (of_field made walk there) is inside knows =
      let one = walked walk (local_kind known made is.1 knows) is.2 inside knows in
      (one.0, (one.1, there), same_Some _ _ (sym there ∙ one.2))
  computed known (of_minus first) is inside knows =
      let one = evaluated known first is.1 inside knows in (one.0, (refl, of_constant zero_is, one.1), sym is.0)
  computed known (of_times first second) is inside knows =
      let one = evaluated known first is.1 inside knows in
      let two = evaluated known second is.2 one.0.inside one.0.knows in
      (joined one.0 two.0, (refl, one.1, two.1), sym is.0)
  computed known (of_plus first second) is inside knows =
      let one = evaluated known first is.1 inside knows in
      let two = evaluated known second is.2 one.0.inside one.0.knows in
      (joined one.0 two.0, (refl, one.1, two.1), sym is.0)
  computed known (of_difference first second) is inside knows =
      let one = evaluated known first is.1 inside knows in
      let two = evaluated known second is.2 one.0.inside one.0.knows in
      (joined one.0 two.0, (refl, one.1, two.1), sym is.0)

abbrev pub IsOfLocal : Graph → Function → Expr → Local → Type 0
IsOfLocal g f e l = IsOf (here g f) l.kind e

-- operands of the kinds of some variables
abbrev pub AreOperands : Graph → List Operand → List Local → Type 0
AreOperands g os ls = AllZip (λ o l. IsValueOf g l.kind o) os ls

pub record Evaluated (g : Graph) (F : Functions) (s : Stage) (ts : List VarId) (u : Stage) (os : List Operand) (ls : List Local) : Type 0 where
  pub stays : Stays g F s ts u
  pub operands : AreOperands g os ls

pub all_evaluated : {g : Graph} {F : Functions} {f : Function} {out : ℕ} {place : Place} {es : List Expr} {ts us : List VarId} {s u : Stage} {os : List Operand} (ls : List Local) → F out ≡ Some f
    → EvaluatesAll g out place es ts s os us u → AllZip (λ e l. IsOf (here g f) l.kind e) es ls → AreInside g ts → Knows g F (variables_of s) → Evaluated g F s us u os ls
all_evaluated [] known evaluates_none are inside knows = record { stays = record { fit = none_fit; knows = knows; inside = inside }; operands = tt }
all_evaluated (l ∷ ls) known evaluates_none are inside knows = absurd are
all_evaluated [] known (evaluates_next first rest) are inside knows = absurd are
all_evaluated (l ∷ ls) known (evaluates_next first rest) are inside knows =
    let one = evaluated known first are.0 inside knows in
    let two = all_evaluated ls known rest are.1 one.0.inside one.0.knows in
    record { stays = joined one.0 two.stays; operands = (one.1, two.operands) }

-- ---- conditions
-- what is compared is of one kind
abbrev pub FitComparison : Graph → Comparison → Operand → Operand → Type 0
FitComparison g Equal a b = (kind : Kind) × IsValueOf g kind a × IsValueOf g kind b
FitComparison g Unequal a b = (kind : Kind) × IsValueOf g kind a × IsValueOf g kind b
FitComparison g Below a b = IsValueOf g Int a × IsValueOf g Int b
FitComparison g AtMost a b = IsValueOf g Int a × IsValueOf g Int b
FitComparison g Above a b = IsValueOf g Int a × IsValueOf g Int b
FitComparison g AtLeast a b = IsValueOf g Int a × IsValueOf g Int b

decision_fits : (g : Graph) (c : Comparison) (a b : Operand) (t f : PointId) → FitComparison g c a b → FitsAs g (decides c a b t f)
decision_fits g Equal a b t f fits = (fits.0, fits.1.is, fits.2.is)
decision_fits g Unequal a b t f fits = (fits.0, fits.1.is, fits.2.is)
decision_fits g Below a b t f fits = (fits.1.is, fits.0.is)
decision_fits g AtMost a b t f fits = (fits.0.is, fits.1.is)
decision_fits g Above a b t f fits = (fits.0.is, fits.1.is)
decision_fits g AtLeast a b t f fits = (fits.1.is, fits.0.is)

pub record StaysTo (g : Graph) (F : Functions) (s : Stage) (n k : ℕ) : Type 0 where
  pub fit : AllFit g (points_of s) n
  pub knows : Knows g F k

pub onto : {g : Graph} {F : Functions} {s m : Stage} {ts : List VarId} {n k : ℕ} → Stays g F s ts m → StaysTo g F m n k → StaysTo g F s n k
onto first second = record { fit = both_fit first.fit second.fit; knows = second.knows }

undefined_variables : {g : Graph} {F : Functions} {place : Place} {vs : List VarId} {s u : Stage} → Undefines g place vs s u → Knows g F (variables_of s) → Knows g F (variables_of u)
undefined_variables undefines_none knows = knows
undefined_variables (undefines (appends is)) knows = knows

pub appended_variables : {g : Graph} {F : Functions} {role : Role} {place : Place} {code : PointId → Instr} {s u : Stage} → Appends g role place code s u → Knows g F (variables_of s) → Knows g F (variables_of u)
appended_variables (appends is) knows = knows

pub point_stays : {g : Graph} {F : Functions} {role : Role} {place : Place} {code : PointId → Instr} {s u : Stage} {ts : List VarId} → Appends g role place code s u → ((q : PointId) → FitsAs g (code q))
    → AreInside g ts → Knows g F (variables_of s) → Stays g F s ts u
point_stays is fits inside knows = record { fit = appended is fits; knows = appended_variables is knows; inside = inside }

pub undefined_stays : {g : Graph} {F : Functions} {place : Place} {vs : List VarId} {s u : Stage} → Undefines g place vs s u → AreInside g vs → Knows g F (variables_of s) → Stays g F s [] u
undefined_stays undone inside knows = record { fit = undefined undone inside; knows = undefined_variables undone knows; inside = none_inside }

compared : {g : Graph} {F : Functions} {place : Place} {c : Comparison} {a b : Operand} {ts : List VarId} {s : Stage} {t f n k : ℕ} → Compares g place c a b ts s t f n k
    → FitComparison g c a b → AreInside g ts → Knows g F (variables_of s) → StaysTo g F s n k
compared {g = g} {c = c} {a = a} {b = b} (compares {y = y} {z = z} is first second) fits inside knows =
    let one = undefined_stays first inside knows in
    let two = undefined_stays second inside one.knows in
    record { fit = both_fit (one_fits is (decision_fits g c a b (point y) (point z) fits)) (both_fit one.fit two.fit); knows = two.knows }

pub zero_of : {g : Graph} (kind : Kind) → IsValueOf g kind (Const (pos 0))
zero_of Int = record { is = zero_is }
zero_of Ptr = record { is = refl }

comparison_fits : (g : Graph) (f : Function) (c : Comparison) (a b : Expr) (o p : Operand) → AreCompared (here g f) c a b
    → ((kind : Kind) → IsOf (here g f) kind a → IsValueOf g kind o) → ((kind : Kind) → IsOf (here g f) kind b → IsValueOf g kind p) → FitComparison g c o p
comparison_fits g f Equal a b o p are first second = (are.0, first are.0 are.1, second are.0 are.2)
comparison_fits g f Unequal a b o p are first second = (are.0, first are.0 are.1, second are.0 are.2)
comparison_fits g f Below a b o p are first second = (first Int are.0, second Int are.1)
comparison_fits g f AtMost a b o p are first second = (first Int are.0, second Int are.1)
comparison_fits g f Above a b o p are first second = (first Int are.0, second Int are.1)
comparison_fits g f AtLeast a b o p are first second = (first Int are.0, second Int are.1)

-- the kinds of two expressions that are compared
compared_kind : (g : Graph) (f : Function) (c : Comparison) (a b : Expr) → AreCompared (here g f) c a b → (first second : Kind) × IsOf (here g f) first a × IsOf (here g f) second b
compared_kind g f Equal a b are = (are.0, are.0, are.1, are.2)
compared_kind g f Unequal a b are = (are.0, are.0, are.1, are.2)
compared_kind g f Below a b are = (Int, Int, are.0, are.1)
compared_kind g f AtMost a b are = (Int, Int, are.0, are.1)
compared_kind g f Above a b are = (Int, Int, are.0, are.1)
compared_kind g f AtLeast a b are = (Int, Int, are.0, are.1)

pub tested : {g : Graph} {F : Functions} {h : Function} {out : ℕ} {c : Cond} {s : Stage} {t f n k : ℕ} → F out ≡ Some h → Tests g out c s t f n k → IsCondition (here g h) c
    → Knows g F (variables_of s) → StaysTo g F s n k
tested known (tests_plain first test) is knows =
    let one = evaluated known first is.1 none_inside knows in
    onto one.0 (compared test (is.0, one.1, zero_of is.0) one.0.inside one.0.knows)
tested {g = g} {h = h} known (tests_compare {c = c} {a = a} {b = b} {o = o} {p = p} first second test) is knows =
    let kinds = compared_kind g h c a b is in
    let one = evaluated known first kinds.2 none_inside knows in
    let two = evaluated known second kinds.3 one.0.inside one.0.knows in
    let fits = comparison_fits g h c a b o p is (λ kind of. (evaluated {kind = kind} known first of none_inside knows).1)
    (λ kind of. (evaluated {kind = kind} known second of one.0.inside one.0.knows).1) in
    onto one.0 (onto two.0 (compared test fits two.0.inside two.0.knows))
tested known (tests_negation test) is knows = tested known test is knows
tested known (tests_both {a = a} {m = m} {j = j} first second) is knows =
    let one = tested known first is.0 knows in
    let two = tested known second is.1 one.knows in
    record { fit = both_fit one.fit two.fit; knows = two.knows }
tested known (tests_either {a = a} {m = m} {j = j} first second) is knows =
    let one = tested known first is.0 knows in
    let two = tested known second is.1 one.knows in
    record { fit = both_fit one.fit two.fit; knows = two.knows }

pub tested_perhaps : {g : Graph} {F : Functions} {h : Function} {out : ℕ} {c : Option Cond} {s : Stage} {t f n k : ℕ} → F out ≡ Some h → TestsPerhaps g out c s t f n k
    → IsConditionPerhaps (here g h) c → Knows g F (variables_of s) → StaysTo g F s n k
tested_perhaps known tests_always is knows = record { fit = none_fit; knows = knows }
tested_perhaps known (tests_once test) is knows = tested known test is knows

-- ---- assignments
copy_fits : {g : Graph} {kind : Kind} {v : VarId} {o : Operand} → IsOfKind g kind v → IsValueOf g kind o → (k : Kind) × IsVar g.flow.vars k v × IsOperand g.flow.vars k o
copy_fits {kind = kind} is value = (kind, is.is, value.is)

pub put : {g : Graph} {F : Functions} {f : Function} {out : ℕ} {place : Place} {l : Left} {o : Operand} {ts : List VarId} {s u : Stage} {kind : Kind} → F out ≡ Some f → Puts g out place l o ts s u
    → IsLeft (here g f) kind l → IsValueOf g kind o → AreInside g ts → Knows g F (variables_of s) → Stays g F s [] u
put known (puts_variable made is undone) left value inside knows =
    let kind = same_kind left.2 (local_kind known made left.1 knows) in
    let one = point_stays is (λ q. copy_fits kind value) inside knows in
    joined one (undefined_stays undone inside one.knows)
put {kind = kind} known (puts_field made walk is undone) left value inside knows =
    let one = walked walk (local_kind known made left.1 knows) left.2 inside knows in
    let two = point_stays is (λ q. (kind, one.1.is, one.2, value.is)) one.0.inside one.0.knows in
    joined one.0 (joined two (undefined_stays undone one.0.inside two.knows))

pub set : {g : Graph} {F : Functions} {f : Function} {out : ℕ} {place : Place} {v : VarId} {right : Right} {s u : Stage} {kind : Kind} → F out ≡ Some f → SetsTo g out place v right s u
    → IsOfKind g kind v → IsRight (here g f) kind right → Knows g F (variables_of s) → Stays g F s [] u
set known (sets_operand value is) variable right knows =
    let one = evaluated known value right none_inside knows in point_stays is (λ q. copy_fits variable one.1) none_inside knows
set {g = g} {v = v} known (sets_computed {kind = found} {operation = operation} value is undone) variable right knows =
    let one = computed known value right none_inside knows in
    let two = point_stays is (operation_fits g found operation v one.1 (same_kind (sym one.2) variable)) one.0.inside one.0.knows in
    joined one.0 (joined two (undefined_stays undone one.0.inside two.knows))
set known (sets_allocated count is) variable right knows = point_stays is (λ q. ((same_kind right.0 variable).is, right.1)) none_inside knows

pub assigned : {g : Graph} {F : Functions} {f : Function} {out : ℕ} {place : Place} {l : Left} {right : Right} {s u : Stage} (kind : Kind) → F out ≡ Some f → Assigns g out place l right s u
    → IsLeft (here g f) kind l → IsRight (here g f) kind right → Knows g F (variables_of s) → Stays g F s [] u
assigned kind known (assigns_variable made sets) left right knows = set known sets (same_kind left.2 (local_kind known made left.1 knows)) right knows
assigned kind known (assigns_field value puts) left right knows =
    let one = evaluated known value right none_inside knows in
    joined one.0 (put known puts left one.1 one.0.inside one.0.knows)
assigned {g = g} {F = F} kind known (assigns_allocated {t = t} count uses is puts) left right knows =
    let one = used uses knows in
    let two = point_stays is (λ q. (one.1.is, right.1)) (one_inside one.1) one.0 in
    let three = put known puts left (same_value (sym right.0) (of_var one.1)) two.inside two.knows in
    record { fit = used_points uses (both_fit two.fit three.fit); knows = three.knows; inside = three.inside }

pub changed : {g : Graph} {F : Functions} {f : Function} {out : ℕ} {place : Place} {operation : Operand → Operand → Operation} {l : Left} {e : Expr} {s u : Stage} → F out ≡ Some f
    → ((a b : Operand) → IsValueOf g Int a → IsValueOf g Int b → FitsOperation g Int (operation a b)) → Changes g out place operation l e s u
    → IsLeft (here g f) Int l → IsOf (here g f) Int e → Knows g F (variables_of s) → Stays g F s [] u
changed {g = g} {operation = operation} known fits (changes_variable {v = v} {o = o} value made is undone) left of knows =
    let one = evaluated known value of none_inside knows in
    let kind = same_kind left.2 (local_kind known made left.1 one.0.knows) in
    let two = point_stays is (operation_fits g Int (operation (Var v) o) v (fits (Var v) o (of_var kind) one.1) kind) one.0.inside one.0.knows in
    joined one.0 (joined two (undefined_stays undone one.0.inside two.knows))
changed {g = g} {operation = operation} known fits (changes_field {old = old} {o = o} value made walk there loads computes is undone) left of knows =
    let one = evaluated known value of none_inside knows in
    let two = walked walk (local_kind known made left.1 one.0.knows) left.2 one.0.inside one.0.knows in
    let three = taken loads (two.1, there) two.0.inside two.0.knows in
    let number_kind = same_kind (same_Some _ _ (sym there ∙ two.2)) three.1 in
    let four = taken computes (fits (Var old) o (of_var number_kind) one.1) three.0.inside three.0.knows in
    let five = point_stays is (λ q. (Int, two.1.is, two.2, four.1.is)) four.0.inside four.0.knows in
    joined one.0 (joined two.0 (joined three.0 (joined four.0 (joined five (undefined_stays undone four.0.inside five.knows)))))
