-- What has to be known before something is lowered: what it names is there, and made by then.
use Rattle.std.specs.Prelude.{◌≡◌, ◌<◌, ◌≤◌, ◌++◌, ◌⊎◌, ℕ, zero, suc, Bool, true, false, List, [], ◌∷◌, Option, Some, None, IsSome, option_and_then, map, Contains, length, slice_get}
use Rattle.mc_base.specs.declared.plain.Kind.{Kind}
use Rattle.mc_flow.specs.declared.defs.rules.Def.{Def}
use Rattle.mc_flow.specs.declared.defs.shapes.Structs.{Structs}
use Rattle.mc_flow.specs.Steps.{field_count}
use Rattle.mc_flow.specs.Valid.{field_kind}
use Rattle.mc_semantics.specs.Resolved.Programs.{FieldAt, Left, Expr, number, input, value, minus, times, plus, difference}
use Rattle.mc_semantics.specs.Resolved.Programs.{Cond, plain, compare, negation, both, either, Call, Right, expression, result_of}
use Rattle.mc_semantics.specs.Resolved.Programs.{allocation, Action, assign, add, subtract, call, Simple, Initial, Argument}
use Rattle.mc_semantics.specs.Resolved.Programs.{variable, constant, Head, Stmt, Stmts, Function}
use Rattle.mc_semantics.specs.Resolved.Views.{action_of, condition_of, function_of, head_of, initial_of, program_of}
use Rattle.mc_semantics.specs.Resolved.Views.{statement_of, stmts_of}
use Rattle.mc_lower_spec.specs.Values.{struct_at}
use Rattle.mc_lower_spec.specs.Scopes.{AreScoped, AreScopedIn, DeclareIn, FinishesIn, IsScopedIn}
use Rattle.mc_lower_laws.specs.Valid.Kinds.{Here, AreDeclared, AreOfKinds, IsConditionPerhaps, IsLast, IsOfKinds, IsWellMade}
use Rattle.mc_lower_spec.specs.Length.Lengths.{all_declared, declared, items_declared}
use Rattle.mc_lower_laws.specs.Lowerable.Lowerable.{AreLowerable, AreLowerableItems, IsLowerable, IsLowerableLast, IsLowerableProgram, IsOnce, TestsOnlyPerhaps}
use Rattle.mc_lower.specs.declared.variables.Owner.{Owner as OwnerCode}
use Rattle.mc_lower.specs.declared.tasks.Context.{Context}
use Rattle.mc_lower.specs.declared.tasks.Task.{Task}
use Rattle.mc_lower.specs.declared.tasks.Turns.{Turns}
use Rattle.mc_lower.specs.declared.values.Work.{Work}
use Rattle.mc_semantics.specs.Resolved.Views.{expression_of}
use Rattle.mc_lower.specs.declared.conditions.Work.{Work as Tested}
use Rattle.mc_lower.specs.declared.calls.Entered.{Entered}
use Rattle.mc_lower.specs.declared.lines.Awaited.{Awaited}
use Rattle.mc_lower.specs.Knowns.{Source, State, Known, IsBounded, IsThere, IsAnswered, IsOpen, with_all, with_result}
use Rattle.mc_lower.specs.Valued.{target_of}

-- ---- values
abbrev pub HasKind : Structs → FieldAt → Type 0
HasKind structs f = (kind : Kind) × (field_kind structs (struct_at f.shape) f.field ≡ Some kind)

abbrev pub HaveKinds : Structs → List FieldAt → Type 0
HaveKinds structs [] = Unit {0}
HaveKinds structs (f ∷ fs) = HasKind structs f × HaveKinds structs fs

-- a variable of an occurrence, and the fields after it
abbrev pub IsNamed : Known → ℕ → Left → Type 0
IsNamed k i l = IsThere k i l.variable × HaveKinds k.source.structs l.fields

abbrev pub IsReady : Known → ℕ → Expr → Type 0
IsReady k i (number n) = Unit {0}
IsReady k i input = Unit {0}
IsReady k i (value l) = IsNamed k i l
IsReady k i (minus e) = IsReady k i e
IsReady k i (times a b) = IsReady k i a × IsReady k i b
IsReady k i (plus a b) = IsReady k i a × IsReady k i b
IsReady k i (difference a b) = IsReady k i a × IsReady k i b

abbrev pub AreReady : Known → ℕ → List Expr → Type 0
AreReady k i [] = Unit {0}
AreReady k i (e ∷ es) = IsReady k i e × AreReady k i es

-- what is still to be evaluated, with so many operands that were made
abbrev pub IsWorkReady : Known → ℕ → List Work → ℕ → Type 0
IsWorkReady k i [] n = 0 < n
IsWorkReady k i (Work.Whole e ∷ more) n = IsReady k i (expression_of e.now) × IsWorkReady k i more (suc n)
IsWorkReady k i (Work.Minus ∷ more) n = (0 < n) × IsWorkReady k i more n
IsWorkReady k i (Work.Join how ∷ more) zero = ⊥
IsWorkReady k i (Work.Join how ∷ more) (suc n) = (0 < n) × IsWorkReady k i more n

abbrev pub IsTestReady : Known → ℕ → Cond → Type 0
IsTestReady k i (plain place e) = IsReady k i e
IsTestReady k i (compare place c a b) = IsReady k i a × IsReady k i b
IsTestReady k i (negation c) = IsTestReady k i c
IsTestReady k i (both c d) = IsTestReady k i c × IsTestReady k i d
IsTestReady k i (either c d) = IsTestReady k i c × IsTestReady k i d

abbrev pub AreTestsReady : Known → ℕ → List Tested → Type 0
AreTestsReady k i [] = Unit {0}
AreTestsReady k i (t ∷ more) = IsTestReady k i (condition_of t.condition.now) × AreTestsReady k i more

abbrev pub IsTestReadyPerhaps : Known → ℕ → Option Cond → Type 0
IsTestReadyPerhaps k i None = Unit {0}
IsTestReadyPerhaps k i (Some c) = IsTestReady k i c

abbrev pub IsArgumentReady : Known → ℕ → Argument → Type 0
IsArgumentReady k i (variable x) = IsThere k i x
IsArgumentReady k i (constant c) = Unit {0}

abbrev pub AreArgumentsReady : Known → ℕ → List Argument → Type 0
AreArgumentsReady k i [] = Unit {0}
AreArgumentsReady k i (a ∷ more) = IsArgumentReady k i a × AreArgumentsReady k i more

-- ---- programs
-- with some definitions of its shapes it is of its kinds, in scope, and can be lowered
pub record IsSound (s : Source) : Type 0 where
  pub defs : List Def
  pub well : IsWellMade s.structs (program_of s.program defs)
  pub scoped : AreScoped (program_of s.program defs)
  pub lowerable : IsLowerableProgram s.structs (program_of s.program defs)

abbrev pub functions_in : Source → List Function
functions_in s = map function_of s.program.functions.items

-- ---- calls and simple statements
pub record IsCallReady (k : Known) (i : ℕ) (result : Option Kind) (c : Call) : Type 0 where
  pub sound : IsSound k.source
  pub bounded : IsBounded k.state
  pub callee : Function
  pub there : slice_get (functions_in k.source) c.function ≡ Some callee
  pub counted : callee.parameters ≤ length callee.locals
  pub many : length c.arguments ≡ callee.parameters
  pub arguments : AreReady k i c.arguments
  pub answers : callee.result ≡ result

-- a right side that is no call's
abbrev pub IsPlainReady : Known → ℕ → Right → Type 0
IsPlainReady k i (expression e) = IsReady k i e
IsPlainReady k i (result_of c) = ⊥
IsPlainReady k i (allocation shape fields) = field_count k.source.structs (struct_at shape) ≡ fields

abbrev pub IsRightReady : Known → ℕ → Right → Type 0
IsRightReady k i (expression e) = IsReady k i e
IsRightReady k i (result_of c) = (kind : Kind) × IsCallReady k i (Some kind) c
IsRightReady k i (allocation shape fields) = field_count k.source.structs (struct_at shape) ≡ fields

abbrev pub IsActionReady : Known → ℕ → Action → Type 0
IsActionReady k i (assign l right) = IsNamed k i l × IsRightReady k i right
IsActionReady k i (add l e) = IsNamed k i l × IsReady k i e
IsActionReady k i (subtract l e) = IsNamed k i l × IsReady k i e
IsActionReady k i (call c) = (result : Option Kind) × IsCallReady k i result c

abbrev pub IsLastReady : Known → ℕ → Option Simple → Type 0
IsLastReady k i None = Unit {0}
IsLastReady k i (Some x) = IsActionReady k i x.action

-- what is returned, where the occurrence has a result
abbrev pub IsReturnReady : Known → ℕ → Option Right → Type 0
IsReturnReady k i None = Unit {0}
IsReturnReady k i (Some right) = IsAnswered k i × IsRightReady k i right

-- ---- statements where they stand
abbrev pub loops : Option Turns → Bool
loops None = false
loops (Some t) = true

abbrev pub HasResult : Known → ℕ → Option Kind → Type 0
HasResult k i None = Unit {0}
HasResult k i (Some kind) = IsAnswered k i

pub record Stands (k : Known) (c : Context) : Type 0 where
  pub sound : IsSound k.source
  pub bounded : IsBounded k.state
  pub occurs : c.occurrence < k.state.occurrences
  pub block : IsOpen k c.block
  pub result : HasResult k c.occurrence (function_of c.function.now).result

abbrev pub here : (k : Known) → Context → IsSound k.source → Here
here k c sound =
    record {
      structs = k.source.structs;
      program = program_of k.source.program sound.defs;
      function = function_of c.function.now;
    }

-- with some variables that are made it can be lowered, it is of its kinds, and in scope; it makes these variables, which are new
pub record Fits (k : Known) (c : Context) (news : List ℕ) (P : List ℕ → Type 0) (Q : Here → Type 0) (R : ℕ → List ℕ → Type 0)
    : Type 0 where
  pub stands : Stands k c
  pub new : (x : ℕ) → Contains news x → IsThere k c.occurrence x → ⊥
  pub once : IsOnce news
  pub made : List ℕ
  pub are_made : (x : ℕ) → Contains made x → IsThere k c.occurrence x
  pub lowerable : P made
  pub kinds : Q (here k c stands.sound)
  pub scope : List ℕ
  pub scoped : R (length (function_of c.function.now).locals) scope

abbrev pub FitsStatement : Known → Context → Stmt → Type 0
FitsStatement k c a =
    Fits k c (declared a) (λ made. IsLowerable k.source.structs (loops c.turns) made a) (λ h. IsOfKinds h a) (λ n s. IsScopedIn n s a)

abbrev pub FitsAll : Known → Context → Stmts → Type 0
FitsAll k c ss =
    Fits k c (all_declared ss) (λ made. AreLowerable k.source.structs (loops c.turns) made ss) (λ h. AreOfKinds h ss)
    (λ n s. AreScopedIn n s ss)

abbrev pub FitsItems : Known → Context → List Initial → Type 0
FitsItems k c items =
    Fits k c (items_declared items) (λ made. AreLowerableItems k.source.structs made items)
    (λ h. AreDeclared h items) (λ n s. DeclareIn n s items)

-- a `for` after its first part
abbrev pub FitsFor : Known → Context → Head → Stmt → Type 0
FitsFor k c h a =
    Fits k c (declared a)
    (λ made. TestsOnlyPerhaps made h.condition × IsLowerableLast k.source.structs made h.last × IsLowerable k.source.structs true made a)
    (λ at. IsConditionPerhaps at h.condition × IsLast at h.last × IsOfKinds at a)
    (λ n s. FinishesIn n s h.last × IsScopedIn n s a)

-- ---- tasks
-- what a task needs when it is next
abbrev pub Needs : Known → Task → Type 0
Needs k (Task.Statements ss c) = FitsAll k c (stmts_of (map statement_of ss.now))
Needs k (Task.Statement a c) = FitsStatement k c (statement_of a.now)
Needs k (Task.Simple x c) = IsActionReady k c.occurrence (action_of x.now.action)
Needs k (Task.Declare place items c) = FitsItems k c (map initial_of items.now)
Needs k (Task.EndBlock xs i) = Unit {0}
Needs k (Task.Otherwise l m) = Unit {0}
Needs k (Task.Merge place l) = Unit {0}
Needs k (Task.EndWhile place begin exit) = Unit {0}
Needs k (Task.EndDo place d begin turns i) = IsTestReady k i (condition_of d.now)
Needs k (Task.For h a c) = FitsFor k c (head_of h.now) (statement_of a.now)
Needs k (Task.ForTurn h begin turns c) = IsLastReady k c.occurrence (head_of h.now).last
Needs k (Task.EndFor h begin exit i) = Unit {0}
Needs k (Task.EndCall place c) = c.occurrence < k.state.occurrences
Needs k (Task.Take place target answer i) = IsNamed k i (target_of target) × IsSome answer
Needs k (Task.Answer place own answer i) = (i < k.state.occurrences) × IsSome answer

-- the variables that a task makes, and the occurrence that they are of
abbrev pub makes : Task → List ℕ
makes (Task.Statements ss c) = all_declared (stmts_of (map statement_of ss.now))
makes (Task.Statement a c) = declared (statement_of a.now)
makes (Task.Simple x c) = []
makes (Task.Declare place items c) = items_declared (map initial_of items.now)
makes (Task.EndBlock xs i) = []
makes (Task.Otherwise l m) = []
makes (Task.Merge place l) = []
makes (Task.EndWhile place begin exit) = []
makes (Task.EndDo place d begin turns i) = []
makes (Task.For h a c) = declared (statement_of a.now)
makes (Task.ForTurn h begin turns c) = []
makes (Task.EndFor h begin exit i) = []
makes (Task.EndCall place c) = []
makes (Task.Take place target answer i) = []
makes (Task.Answer place own answer i) = []

abbrev pub whose : Task → ℕ
whose (Task.Statements ss c) = c.occurrence
whose (Task.Statement a c) = c.occurrence
whose (Task.Simple x c) = c.occurrence
whose (Task.Declare place items c) = c.occurrence
whose (Task.EndBlock xs i) = i
whose (Task.Otherwise l m) = 0
whose (Task.Merge place l) = 0
whose (Task.EndWhile place begin exit) = 0
whose (Task.EndDo place d begin turns i) = i
whose (Task.For h a c) = c.occurrence
whose (Task.ForTurn h begin turns c) = c.occurrence
whose (Task.EndFor h begin exit i) = i
whose (Task.EndCall place c) = c.occurrence
whose (Task.Take place target answer i) = i
whose (Task.Answer place own answer i) = i

-- the labels that wait for a task
abbrev pub takes : Task → List Awaited
takes (Task.Statements ss c) = []
takes (Task.Statement a c) = []
takes (Task.Simple x c) = []
takes (Task.Declare place items c) = []
takes (Task.EndBlock xs i) = []
takes (Task.Otherwise l m) = Awaited.Goal l ∷ []
takes (Task.Merge place l) = Awaited.Goal l ∷ []
takes (Task.EndWhile place begin exit) = Awaited.Goal exit ∷ []
takes (Task.EndDo place d begin turns i) = Awaited.Goal turns.turn ∷ Awaited.Goal turns.exit ∷ []
takes (Task.For h a c) = []
takes (Task.ForTurn h begin turns c) = Awaited.Goal turns.turn ∷ Awaited.Goal turns.exit ∷ []
takes (Task.EndFor h begin exit i) = Awaited.Goal exit ∷ []
takes (Task.EndCall place c) = Awaited.Out c.occurrence ∷ []
takes (Task.Take place target answer i) = []
takes (Task.Answer place own answer i) = []

-- what was made is still there
pub record Still (s t : State) : Type 0 where
  pub owners : (o : OwnerCode) → Contains s.owners o → Contains t.owners o
  pub blocks : s.blocks ≤ t.blocks
  pub occurrences : s.occurrences ≤ t.occurrences
  pub bounded : IsBounded s → IsBounded t

-- what was made is still there, and these variables of an occurrence are there too; of it and of those before, no others are
pub record Grown (s : State) (i : ℕ) (xs : List ℕ) (t : State) : Type 0 where
  pub still : Still s t
  pub made : (x : ℕ) → Contains xs x → Contains t.owners (OwnerCode.Local i x)
  pub only : (j x : ℕ) → j < s.occurrences → Contains t.owners (OwnerCode.Local j x)
      → Contains s.owners (OwnerCode.Local j x) ⊎ ((j ≡ i) × Contains xs x)

abbrev pub in_state : Known → State → Known
in_state k s = record { source = k.source; state = s; waiting = k.waiting }

-- the kind of the entry's result
abbrev pub entry_result : Source → Option Kind
entry_result s = option_and_then (λ f. f.result) (slice_get (functions_in s) s.program.entry)

-- the first occurrence is the entry's, its result, if any, is made, and where its `return` goes waits alone
abbrev pub IsEntered : Known → Type 0
IsEntered k = (0 < k.state.occurrences) × HasResult k 0 (entry_result k.source) × (k.waiting ≡ Awaited.Out 0 ∷ [])

-- each task has what it needs when it is next, and the labels that wait for it wait first then
abbrev pub Ready : Known → List Task → Type 0
Ready k [] = IsEntered k
Ready k (t ∷ ts) =
    Needs k t
    × ((m : Known) × (k ≡ with_all (takes t) m) × ((s : State) → Grown m.state (whose t) (makes t) s → Ready (in_state m s) ts))

-- as soon as these variables of an occurrence are made
abbrev pub Later : Known → ℕ → List ℕ → List Task → Type 0
Later k i xs ts = (s : State) → Grown k.state i xs s → Ready (in_state k s) ts

-- a call whose body is next
pub record IsBegun (k : Known) (c : Call) (e : Entered) (m : Known) : Type 0 where
  pub source : m.source ≡ k.source
  pub grown : (i : ℕ) → Grown k.state i [] m.state
  pub waiting : m.waiting ≡ Awaited.Out e.callee.occurrence ∷ k.waiting
  pub latest : k.state.occurrences ≤ e.callee.occurrence
  pub no_others : (x : ℕ) → IsThere m e.callee.occurrence x → x < e.callee.function.now.parameters
  pub there : slice_get (functions_in k.source) c.function ≡ Some (function_of e.callee.function.now)
  pub occurs : e.callee.occurrence < m.state.occurrences
  pub block : e.callee.block ≡ None
  pub turns : e.callee.turns ≡ None
  pub parameters : (x : ℕ) → x < e.callee.function.now.parameters → IsThere m e.callee.occurrence x
  pub result : HasResult m e.callee.occurrence e.callee.function.now.result
  pub answered : IsSome e.callee.function.now.result → IsSome e.answer

-- the variables that stand for parameters, up to a number
abbrev pub locals_to : ℕ → ℕ → List OwnerCode
locals_to i zero = []
locals_to i (suc n) = locals_to i n ++ OwnerCode.Local i n ∷ []

abbrev pub with_awaited : ℕ → Option Kind → Known → Known
with_awaited i None k = k
with_awaited i (Some kind) k = with_result i k
