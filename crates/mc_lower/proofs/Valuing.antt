-- What values come to in the finished flow graph.
use Rattle.std.proofs.Common.{◌≡◌, ◌<◌, ◌+◌, ◌++◌, ℕ, zero, suc, pos, List, [], ◌∷◌, Some, None, refl, sym, ap, ◌∙◌, subst, length, map, drop, get_or, arith}
use Rattle.std.proofs.lemmas.Option.{same_Some}
use Rattle.std.specs.Prelude.{slice_get}
use Rattle.mc_base.specs.declared.ids.PointId.{PointId}
use Rattle.mc_base.specs.declared.ids.VarId.{VarId}
use Rattle.mc_base.specs.declared.plain.Kind.{Kind}
use Rattle.mc_base.specs.declared.plain.Kind.TheVariants.{Int}
use Rattle.mc_base.specs.declared.text.place.Place.{Place}
use Rattle.mc_flow.specs.declared.instr.Operand.{Operand}
use Rattle.mc_flow.specs.declared.instr.Operand.TheVariants.{Var, Const}
use Rattle.mc_semantics.specs.declared.resolved.program.Argument.{Argument}
use Rattle.mc_semantics.specs.declared.resolved.program.Expression.{Expression}
use Rattle.mc_semantics.specs.declared.resolved.program.FieldAt.{FieldAt as FieldCode}
use Rattle.mc_semantics.specs.Resolved.Programs.{FieldAt, Expr, number, minus, times, plus, difference}
use Rattle.mc_semantics.specs.Resolved.Views.{argument_of, expression_of, field_of}
use Rattle.mc_lower_spec.specs.Graphs.{Graph, plain, Stage, Appends, Uses}
use Rattle.mc_lower_spec.specs.Values.{Operation, an_input, a_field, a_sum, a_difference, a_product, sets, Takes, takes, IsOfKind, Walks, walks_none, walks}
use Rattle.mc_lower_spec.specs.Values.{Evaluates, of_number, of_operation, Computes, of_minus, of_times, of_plus, of_difference, EvaluatesAll, evaluates_next}
use Rattle.mc_lower_spec.specs.Lowering.{IsArgument, AreArguments, are_arguments}
use Rattle.mc_lower.specs.declared.values.How.{How}
use Rattle.mc_lower.specs.declared.values.Value.{Value}
use Rattle.mc_lower.specs.declared.values.Work.{Work}
use Rattle.mc_lower.specs.Valued.{IsValue, IsOperand, JoinsParts, Finishes, joined}
use Rattle.mc_lower.specs.Worlds.{settled, target}

-- labels become points in what sets a variable
pub settled_sets : (at : ℕ → ℕ) (operation : Operation) (x : VarId) (q : PointId) → settled at (sets operation x q) ≡ sets operation x (target at q)
settled_sets at an_input x q = refl
settled_sets at (a_field y f) x q = refl
settled_sets at (a_sum a b) x q = refl
settled_sets at (a_difference a b) x q = refl
settled_sets at (a_product a b) x q = refl

-- a temporary that was used and set is taken
pub taken : (g : Graph) (place : Place) (kind : Kind) (operation : Operation) (ts us : List VarId) (j : ℕ) (s m u : Stage) (t : VarId)
    → j ≡ length ts → us ≡ ts ++ t ∷ [] → Uses g j kind s t m → Appends g plain place (λ q. sets operation t q) m u
    → Takes g place kind operation ts s t us u
taken g place kind operation ts us j s m u t counted more used put =
    subst (λ l. Takes g place kind operation ts s t l u) (sym more) (takes (subst (λ n. Uses g n kind s t m) counted used) put)

-- ---- the value of an expression
-- a value whose operand was made
pub valued : (g : Graph) (out : ℕ) (place : Place) (e : Expr) (v : Value) (o : Operand) (ts us ws : List VarId) (s m u : Stage)
    → IsValue g out place e ts s v us m → IsOperand g place v us m o ws u → Evaluates g out place e ts s o ws u
valued g out place e (Value.Ready p) o ts us ws s m u value is =
    subst (λ x. Evaluates g out place e ts s o x u) (sym (is.1 ∙ value.1))
    (subst (λ x. Evaluates g out place e ts s o ts x) (sym (is.2 ∙ value.2))
    (subst (λ x. Evaluates g out place e ts s x ts s) (sym is.0) value.0))
valued g out place e (Value.Computed kind operation) o ts us ws s m u value is =
    subst (λ x. Evaluates g out place e ts s x ws u) (sym is.2) (of_operation value is.1)

-- an expression was evaluated, and then what was left
abbrev pub Entered : Graph → (out : ℕ) → Place → Expr → List Work → List Operand → List VarId → Stage → Operand → List VarId → Stage → Type 0
Entered g out place e more made ts s o us u =
    (p : Operand) × (vs : List VarId) × (m : Stage) × Evaluates g out place e ts s p vs m × Finishes g out place more (p ∷ made) vs m o us u

pub one_made : (g : Graph) (out : ℕ) (place : Place) (e : Expr) (p : Operand) (more : List Work) (made now : List Operand)
    → (ts vs us : List VarId) (s m u : Stage) (o : Operand) → Evaluates g out place e ts s p vs m → now ≡ p ∷ made
    → Finishes g out place more now vs m o us u → Entered g out place e more made ts s o us u
one_made g out place e p more made now ts vs us s m u o value is rest =
    (p, vs, m, value, subst (λ l. Finishes g out place more l vs m o us u) is rest)

pub number_made : (g : Graph) (out : ℕ) (place : Place) (e : Expr) (n : ℕ) (ts : List VarId) (s : Stage) → e ≡ number n
    → Evaluates g out place e ts s (Const (pos n)) ts s
number_made g out place e n ts s seen = subst (λ x. Evaluates g out place x ts s (Const (pos n)) ts s) (sym seen) of_number

-- the part of `-`, and then `-`
pub minus_made : (g : Graph) (out : ℕ) (place : Place) (e a : Expr) (more : List Work) (made : List Operand) (ts us : List VarId)
    → (s u : Stage) (o : Operand) → e ≡ minus a
    → (p : Operand) × (vs : List VarId) × (m : Stage) × Evaluates g out place a ts s p vs m × Finishes g out place (Work.Minus ∷ more) (p ∷ made) vs m o us u
    → Entered g out place e more made ts s o us u
minus_made g out place e a more made ts us s u o seen f =
    let computed : Computes g out place e ts s Int (a_difference (Const (pos 0)) f.0) f.1 f.2 =
    subst (λ x. Computes g out place x ts s Int (a_difference (Const (pos 0)) f.0) f.1 f.2) (sym seen) (of_minus f.3) in
    (Var f.4.0, f.4.1, f.4.2, of_operation computed f.4.3, f.4.4)

-- the expression that joins two
abbrev pub joined_expression : How → Expr → Expr → Expr
joined_expression How.Times a b = times a b
joined_expression How.Plus a b = plus a b
joined_expression How.Difference a b = difference a b

pub join_computed : (g : Graph) (out : ℕ) (place : Place) (how : How) (a b : Expr) (o p : Operand) (ts us ws : List VarId) (s m u : Stage)
    → Evaluates g out place a ts s o us m → Evaluates g out place b us m p ws u
    → Computes g out place (joined_expression how a b) ts s Int (joined how o p) ws u
join_computed g out place How.Times a b o p ts us ws s m u first second = of_times first second
join_computed g out place How.Plus a b o p ts us ws s m u first second = of_plus first second
join_computed g out place How.Difference a b o p ts us ws s m u first second = of_difference first second

-- both parts, and then what joins them
abbrev pub Joining : Graph → (out : ℕ) → Place → How → Expr → Expr → List Work → List Operand → List VarId → Stage → Operand → List VarId → Stage
    → Type 0
Joining g out place how a b more made ts s o us u =
    (p : Operand) × (vs : List VarId) × (m : Stage) × Evaluates g out place a ts s p vs m
    × ((q : Operand) × (ws : List VarId) × (n : Stage) × Evaluates g out place b vs m q ws n
    × ((t : VarId) × (xs : List VarId) × (r : Stage) × Takes g place Int (joined how p q) ws n t xs r
    × Finishes g out place more (Var t ∷ made) xs r o us u))

pub join_made : (g : Graph) (out : ℕ) (place : Place) (how : How) (e a b : Expr) (more : List Work) (made : List Operand) (ts us : List VarId)
    → (s u : Stage) (o : Operand) → e ≡ joined_expression how a b → Joining g out place how a b more made ts s o us u
    → Entered g out place e more made ts s o us u
join_made g out place how e a b more made ts us s u o seen f =
    let computed : Computes g out place e ts s Int (joined how f.0 f.4.0) f.4.1 f.4.2 =
    subst (λ x. Computes g out place x ts s Int (joined how f.0 f.4.0) f.4.1 f.4.2) (sym seen)
    (join_computed g out place how a b f.0 f.4.0 ts f.1 f.4.1 s f.2 f.4.2 f.3 f.4.3) in
    (Var f.4.4.0, f.4.4.1, f.4.4.2, of_operation computed f.4.4.3, f.4.4.4)

pub join_valued : (g : Graph) (out : ℕ) (place : Place) (how : How) (e a b : Expr) (v : Value) (ts us : List VarId) (s u : Stage)
    → e ≡ joined_expression how a b → JoinsParts g out place how a b ts s v us u → IsValue g out place e ts s v us u
join_valued g out place how e a b v ts us s u seen j =
    subst (λ x. IsValue g out place e ts s x us u) (sym j.6.1)
    (subst (λ op. Computes g out place e ts s Int op us u) (sym j.6.2)
    (subst (λ x. Computes g out place x ts s Int (joined how j.0 j.1) us u) (sym seen) (join_computed g out place how a b j.0 j.1 ts j.2 us s j.3 u j.4 j.5)))

-- ---- fields one after the other
last_alone : (fields : List FieldCode) (at : ℕ) (x : FieldCode) → slice_get fields at ≡ Some x → length fields ≡ at + 1 → drop at fields ≡ x ∷ []
last_alone [] at x there one = absurd (omega arith)
last_alone (f ∷ []) zero x there one = ap (λ y. y ∷ []) (same_Some f x there)
last_alone (f ∷ h ∷ rest) zero x there one = absurd (omega arith)
last_alone (f ∷ rest) (suc at) x there one = last_alone rest at x there (omega arith)

two_left : (fields : List FieldCode) (at n : ℕ) (x : FieldCode) → slice_get fields at ≡ Some x → n < length fields → n ≡ at + 1
    → (h : FieldCode) × (rest : List FieldCode) × (drop at fields ≡ x ∷ h ∷ rest) × (drop n fields ≡ h ∷ rest)
two_left [] at n x there less is = absurd (omega arith)
two_left (f ∷ []) zero n x there less is = absurd (omega arith)
two_left (f ∷ h ∷ rest) zero n x there less is =
    (h, rest, ap (λ y. y ∷ h ∷ rest) (same_Some f x there), ap (λ k. drop k (f ∷ h ∷ rest)) is)
two_left (f ∷ rest) (suc at) zero x there less is = absurd (omega arith)
two_left (f ∷ rest) (suc at) (suc n) x there less is = two_left rest at n x there (omega arith) (omega arith)

-- at the last field
pub walked_to : (g : Graph) (place : Place) (fields : List FieldCode) (at : ℕ) (x : FieldCode) (y : VarId) (ts : List VarId) (s : Stage)
    → slice_get fields at ≡ Some x → length fields ≡ at + 1 → Walks g place y (map field_of (drop at fields)) ts s y (field_of x) ts s
walked_to g place fields at x y ts s there one =
    subst (λ l. Walks g place y (map field_of l) ts s y (field_of x) ts s) (sym (last_alone fields at x there one)) walks_none

-- a field that is not the last one was loaded
pub walked_on : (g : Graph) (place : Place) (fields : List FieldCode) (at n : ℕ) (x : FieldCode) (kind : Kind) (y t z : VarId) (last : FieldAt)
    → (ts us ws : List VarId) (s m u : Stage) → slice_get fields at ≡ Some x → n < length fields → n ≡ at + 1 → IsOfKind g (field_of x) kind
    → Takes g place kind (a_field y (field_of x)) ts s t us m → Walks g place t (map field_of (drop n fields)) us m z last ws u
    → Walks g place y (map field_of (drop at fields)) ts s z last ws u
walked_on g place fields at n x kind y t z last ts us ws s m u there less is of_kind taken_there rest =
    let next = two_left fields at n x there less is in
    subst (λ l. Walks g place y (map field_of l) ts s z last ws u) (sym next.2)
    (walks of_kind taken_there (subst (λ l. Walks g place t (map field_of l) us m z last ws u) next.3 rest))

-- ---- expressions one after the other
begin_left : {A : Type 0} (xs : List A) (at : ℕ) (x : A) → slice_get xs at ≡ Some x → drop at xs ≡ x ∷ drop (suc at) xs
begin_left [] at x there = let never : None ≡ Some x = there in cc
begin_left (h ∷ xs) zero x there = ap (λ y. y ∷ xs) (same_Some h x there)
begin_left (h ∷ xs) (suc at) x there = begin_left xs at x there

pub one_left : {A : Type 0} (xs : List A) (at n : ℕ) (x : A) → n ≡ at + 1 → slice_get xs at ≡ Some x → drop at xs ≡ x ∷ drop n xs
one_left xs at n x is there = let same : suc at ≡ n = omega arith in subst (λ k. drop at xs ≡ x ∷ drop k xs) same (begin_left xs at x there)

pub all_evaluated : (g : Graph) (out : ℕ) (place : Place) (es : List Expression) (at n : ℕ) (x : Expression) (o : Operand) (os : List Operand)
    → (ts us ws : List VarId) (s m u : Stage) → n ≡ at + 1 → slice_get es at ≡ Some x → Evaluates g out place (expression_of x) ts s o us m
    → EvaluatesAll g out place (map expression_of (drop n es)) us m os ws u
    → EvaluatesAll g out place (map expression_of (drop at es)) ts s (o ∷ os) ws u
all_evaluated g out place es at n x o os ts us ws s m u next there value rest =
    subst (λ l. EvaluatesAll g out place (map expression_of l) ts s (o ∷ os) ws u) (sym (one_left es at n x next there)) (evaluates_next value rest)

pub argument_on : (g : Graph) (out : ℕ) (s : Stage) (args : List Argument) (at n : ℕ) (x : Argument) (o : Operand) (os : List Operand) → n ≡ at + 1
    → slice_get args at ≡ Some x → IsArgument g out s (argument_of x) o → AreArguments g out s (map argument_of (drop n args)) os
    → AreArguments g out s (map argument_of (drop at args)) (o ∷ os)
argument_on g out s args at n x o os next there is rest =
    subst (λ l. AreArguments g out s (map argument_of l) (o ∷ os)) (sym (one_left args at n x next there)) (are_arguments is rest)

-- ---- whole expressions
same_head : (o p : Operand) (os ps : List Operand) → o ∷ os ≡ p ∷ ps → o ≡ p
same_head o p os ps is = ap {B = Operand} (λ l. get_or l 0 o) is

pub evaluated : (g : Graph) (out : ℕ) (place : Place) (whole : Work) (e : Expr) (work : List Work) (made : List Operand) (ts us : List VarId) (s u : Stage) (o : Operand)
    → work ≡ whole ∷ [] → made ≡ [] → Finishes g out place work made ts s o us u
    → (Finishes g out place (whole ∷ []) [] ts s o us u → Entered g out place e [] [] ts s o us u) → Evaluates g out place e ts s o us u
evaluated g out place whole e work made ts us s u o is none f opens =
    let x = opens (subst (λ l. Finishes g out place (whole ∷ []) l ts s o us u) none (subst (λ l. Finishes g out place l made ts s o us u) is f)) in
    subst (λ y. Evaluates g out place e ts s y us u) (same_head x.0 o [] x.4.0.0 x.4.0.1)
    (subst (λ y. Evaluates g out place e ts s x.0 y u) x.4.1 (subst (λ y. Evaluates g out place e ts s x.0 x.1 y) x.4.2 x.3))
