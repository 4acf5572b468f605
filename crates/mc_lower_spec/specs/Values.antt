-- The points that compute values, test conditions and assign.
use Rattle.std.specs.Prelude.{◌≡◌, ℕ, suc, pos, List, [], ◌∷◌, ◌++◌, Option, Some, None, length}
use Rattle.mc_base.specs.declared.ids.PointId.{PointId}
use Rattle.mc_base.specs.declared.ids.StructId.{StructId}
use Rattle.mc_base.specs.declared.ids.VarId.{VarId}
use Rattle.mc_base.specs.declared.plain.Kind.{Kind}
use Rattle.mc_base.specs.declared.plain.Kind.TheVariants.{Int}
use Rattle.mc_base.specs.declared.text.place.Place.{Place}
use Rattle.mc_c_syntax.specs.declared.ast.trees.Comparison.{Comparison}
use Rattle.mc_c_syntax.specs.declared.ast.trees.Comparison.TheVariants.{Equal, Unequal, Below, AtMost, Above, AtLeast}
use Rattle.mc_flow.specs.declared.instr.Operand.{Operand}
use Rattle.mc_flow.specs.declared.instr.Operand.TheVariants.{Var, Const}
use Rattle.mc_flow.specs.declared.instr.Instr.{Instr}
use Rattle.mc_flow.specs.declared.instr.Instr.TheVariants.{Copy, Input, Add, Sub, Mul, Load, Store, TestEq, TestLe}
use Rattle.mc_flow.specs.Valid.{field_kind}
use Rattle.mc_semantics.specs.Resolved.Programs.{FieldAt, Left, Expr, number, input, value, minus, times, plus as add_expr}
use Rattle.mc_semantics.specs.Resolved.Programs.{difference}
use Rattle.mc_semantics.specs.Resolved.Programs.{Cond, plain as plain_cond, compare, negation, both, either}
use Rattle.mc_lower_spec.specs.Graphs.{Graph, local, plain, Stage, stage, point, IsPoint, Appends, Undefines, IsMade}
use Rattle.mc_lower_spec.specs.Graphs.{Uses}

abbrev pub struct_at : ℕ → StructId
struct_at s = record { 0 = s }

-- ---- expressions
-- what an instruction sets its variable to: an input, a field after a variable, or what comes of two operands
pub data Operation : Type 0 where
  an_input : Operation
  a_field : VarId → FieldAt → Operation
  a_sum : Operand → Operand → Operation
  a_difference : Operand → Operand → Operation
  a_product : Operand → Operand → Operation

abbrev pub sets : Operation → VarId → PointId → Instr
sets an_input x q = Input x q
sets (a_field y f) x q = Load x y (struct_at f.shape) f.field q
sets (a_sum a b) x q = Add x a b q
sets (a_difference a b) x q = Sub x a b q
sets (a_product a b) x q = Mul x a b q

-- the field is there, and of this kind
abbrev pub IsOfKind : Graph → FieldAt → Kind → Type 0
IsOfKind g f kind = field_kind g.flow.structs (struct_at f.shape) f.field ≡ Some kind

-- the next temporary of a statement gets what an operation comes to
pub data Takes (g : Graph) (place : Place) (kind : Kind) (operation : Operation) : List VarId → Stage → VarId
    → List VarId → Stage → Type 0 where
  takes : {ts : List VarId} {s m u : Stage} {t : VarId} → Uses g (length ts) kind s t m
      → Appends g plain place (λ q. sets operation t q) m u → Takes g place kind operation ts s t (ts ++ t ∷ []) u

-- From a variable the fields but the last one are loaded into temporaries: this variable has the last one. The lists
-- are the temporaries
-- that the statement has used, before and after.
pub data Walks (g : Graph) (place : Place) : VarId → List FieldAt → List VarId → Stage → VarId → FieldAt → List VarId
    → Stage → Type 0 where
  walks_none : {y : VarId} {f : FieldAt} {ts : List VarId} {s : Stage} → Walks g place y (f ∷ []) ts s y f ts s
  walks : {y t z : VarId} {f h last : FieldAt} {fs : List FieldAt} {ts us ws : List VarId} {s m u : Stage}
      → {kind : Kind}
      → IsOfKind g f kind → Takes g place kind (a_field y f) ts s t us m → Walks g place t (h ∷ fs) us m z last ws u
      → Walks g place y (f ∷ h ∷ fs) ts s z last ws u

mutual
  -- the value of an expression, in an occurrence of a function, is an operand
  pub data Evaluates (g : Graph) (out : ℕ) (place : Place) : Expr → List VarId → Stage → Operand → List VarId → Stage
      → Type 0 where
    of_number : {n : ℕ} {ts : List VarId} {s : Stage} → Evaluates g out place (number n) ts s (Const (pos n)) ts s
    of_variable : {x : ℕ} {v : VarId} {ts : List VarId} {s : Stage} → IsMade g (local out x) v s
        → Evaluates g out place (value (record { variable = x; fields = [] })) ts s (Var v) ts s
    of_operation : {e : Expr} {ts us ws : List VarId} {s m u : Stage} {t : VarId} {kind : Kind}
        → {operation : Operation}
        → Computes g out place e ts s kind operation us m → Takes g place kind operation us m t ws u
        → Evaluates g out place e ts s (Var t) ws u

  -- the value of an expression but its last instruction, which does this
  pub data Computes (g : Graph) (out : ℕ) (place : Place) : Expr → List VarId → Stage → Kind → Operation → List VarId
      → Stage → Type 0 where
    of_input : {ts : List VarId} {s : Stage} → Computes g out place input ts s Int an_input ts s
    of_field : {x : ℕ} {y z : VarId} {f last : FieldAt} {fs : List FieldAt} {ts us : List VarId} {s u : Stage}
        → {kind : Kind}
        → IsMade g (local out x) y s → Walks g place y (f ∷ fs) ts s z last us u → IsOfKind g last kind
        → Computes g out place (value (record { variable = x; fields = f ∷ fs })) ts s kind (a_field z last) us u
    of_minus : {e : Expr} {o : Operand} {ts us : List VarId} {s u : Stage} → Evaluates g out place e ts s o us u
        → Computes g out place (minus e) ts s Int (a_difference (Const (pos 0)) o) us u
    of_times : {a b : Expr} {o p : Operand} {ts us ws : List VarId} {s m u : Stage}
        → Evaluates g out place a ts s o us m → Evaluates g out place b us m p ws u
        → Computes g out place (times a b) ts s Int (a_product o p) ws u
    of_plus : {a b : Expr} {o p : Operand} {ts us ws : List VarId} {s m u : Stage}
        → Evaluates g out place a ts s o us m → Evaluates g out place b us m p ws u
        → Computes g out place (add_expr a b) ts s Int (a_sum o p) ws u
    of_difference : {a b : Expr} {o p : Operand} {ts us ws : List VarId} {s m u : Stage}
        → Evaluates g out place a ts s o us m → Evaluates g out place b us m p ws u
        → Computes g out place (difference a b) ts s Int (a_difference o p) ws u

-- expressions from left to right
pub data EvaluatesAll (g : Graph) (out : ℕ) (place : Place) : List Expr → List VarId → Stage → List Operand
    → List VarId → Stage → Type 0 where
  evaluates_none : {ts : List VarId} {s : Stage} → EvaluatesAll g out place [] ts s [] ts s
  evaluates_next : {e : Expr} {es : List Expr} {o : Operand} {os : List Operand} {ts us ws : List VarId}
      → {s m u : Stage}
      → Evaluates g out place e ts s o us m → EvaluatesAll g out place es us m os ws u
      → EvaluatesAll g out place (e ∷ es) ts s (o ∷ os) ws u

-- ---- conditions
-- the test that goes to the first point where the comparison is true, else to the second
abbrev pub decides : Comparison → Operand → Operand → PointId → PointId → Instr
decides Equal a b t f = TestEq a b t f
decides Unequal a b t f = TestEq a b f t
decides AtMost a b t f = TestLe a b t f
decides Above a b t f = TestLe a b f t
decides AtLeast a b t f = TestLe b a t f
decides Below a b t f = TestLe b a f t

-- two operands are compared; after the test the temporaries become undefined, on the true side and then on the false
-- side
pub data Compares (g : Graph) (place : Place) (c : Comparison) (a b : Operand) (ts : List VarId) : Stage
    → (t f points variables : ℕ) → Type 0 where
  compares : {n k y z t f m l : ℕ} → IsPoint g n plain place (decides c a b (point y) (point z))
      → Undefines g place ts (stage y (suc n) k) (stage t m k) → Undefines g place ts (stage z m k) (stage f l k)
      → Compares g place c a b ts (stage n n k) t f l k

-- a condition goes to the first point where it is true and to the second where it is false; so many points and
-- variables there are then
pub data Tests (g : Graph) (out : ℕ) : Cond → Stage → (t f points variables : ℕ) → Type 0 where
  tests_plain : {place : Place} {e : Expr} {o : Operand} {ts : List VarId} {s m : Stage} {t f n k : ℕ}
      → Evaluates g out place e [] s o ts m → Compares g place Unequal o (Const (pos 0)) ts m t f n k
      → Tests g out (plain_cond place e) s t f n k
  tests_compare : {place : Place} {c : Comparison} {a b : Expr} {o p : Operand} {ts us : List VarId} {s m u : Stage}
      → {t f n k : ℕ}
      → Evaluates g out place a [] s o ts m → Evaluates g out place b ts m p us u
      → Compares g place c o p us u t f n k
      → Tests g out (compare place c a b) s t f n k
  tests_negation : {c : Cond} {s : Stage} {t f n k : ℕ} → Tests g out c s f t n k → Tests g out (negation c) s t f n k
  tests_both : {c d : Cond} {s : Stage} {a t f m j n k : ℕ} → Tests g out c s a f m j
      → Tests g out d (stage a m j) t f n k
      → Tests g out (both c d) s t f n k
  tests_either : {c d : Cond} {s : Stage} {a t f m j n k : ℕ} → Tests g out c s t a m j
      → Tests g out d (stage a m j) t f n k
      → Tests g out (either c d) s t f n k

-- a condition that may be missing: it has no point then
pub data TestsPerhaps (g : Graph) (out : ℕ) : Option Cond → Stage → (t f points variables : ℕ) → Type 0 where
  tests_always : {a f n k : ℕ} → TestsPerhaps g out None (stage a n k) a f n k
  tests_once : {c : Cond} {s : Stage} {t f n k : ℕ} → Tests g out c s t f n k → TestsPerhaps g out (Some c) s t f n k

-- ---- assignments
-- an operand is put into a variable or a field, and the temporaries become undefined
pub data Puts (g : Graph) (out : ℕ) (place : Place) : Left → Operand → List VarId → Stage → Stage → Type 0 where
  puts_variable : {x : ℕ} {v : VarId} {o : Operand} {ts : List VarId} {s m u : Stage} → IsMade g (local out x) v s
      → Appends g plain place (λ q. Copy v o q) s m → Undefines g place ts m u
      → Puts g out place (record { variable = x; fields = [] }) o ts s u
  puts_field : {x : ℕ} {y z : VarId} {f last : FieldAt} {fs : List FieldAt} {o : Operand} {ts us : List VarId}
      → {s m r u : Stage}
      → IsMade g (local out x) y s → Walks g place y (f ∷ fs) ts s z last us m
      → Appends g plain place (λ q. Store z (struct_at last.shape) last.field o q) m r → Undefines g place us r u
      → Puts g out place (record { variable = x; fields = f ∷ fs }) o ts s u
