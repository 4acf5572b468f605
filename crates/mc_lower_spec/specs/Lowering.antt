-- The flow graphs of programs, calls inlined.
use Rattle.std.specs.Int.Signed.{◌<ℤ◌}
use Rattle.std.specs.Prelude.{◌≡◌, ◌<◌, ◌++◌, ℕ, zero, suc, ℤ, pos, List, [], ◌∷◌, Option, Some, None, Contains, All}
use Rattle.std.specs.Prelude.{AllPairs, length, slice_get, codes}
use Rattle.mc_base.specs.declared.ids.PointId.{PointId}
use Rattle.mc_base.specs.declared.ids.VarId.{VarId}
use Rattle.mc_base.specs.declared.plain.Kind.{Kind}
use Rattle.mc_base.specs.declared.plain.Kind.TheVariants.{Int, Ptr}
use Rattle.mc_base.specs.declared.plain.VarInfo.{VarInfo}
use Rattle.mc_base.specs.declared.text.place.Place.{Place}
use Rattle.mc_base.specs.declared.ids.PredId.{PredId}
use Rattle.mc_flow.specs.declared.instr.Operand.{Operand}
use Rattle.mc_flow.specs.declared.instr.Operand.TheVariants.{Var, Const}
use Rattle.mc_flow.specs.declared.instr.Instr.{Instr}
use Rattle.mc_flow.specs.declared.instr.Instr.TheVariants.{Skip, Copy, Undef, Input, Add, Sub, Mul, Load, Store}
use Rattle.mc_flow.specs.declared.instr.Instr.TheVariants.{Malloc, Free, TestEq, TestLe, AssumeShape, AssertShape}
use Rattle.mc_flow.specs.declared.instr.Instr.TheVariants.{AssertEmpty, End, Fail}
use Rattle.mc_flow.specs.declared.graph.Point.{Point}
use Rattle.mc_flow.specs.Steps.{field_count}
use Rattle.mc_semantics.specs.Resolved.Programs.{FieldAt, Left, Expr, Cond, Call, Right, expression, result_of, allocation}
use Rattle.mc_semantics.specs.Resolved.Programs.{Action, assign, add, subtract, call}
use Rattle.mc_semantics.specs.Resolved.Programs.{Simple, Initial, Argument, variable, constant, Start, nothing}
use Rattle.mc_semantics.specs.Resolved.Programs.{declares as starts_with, performs as begins_with, Head, Stmt, declaration}
use Rattle.mc_semantics.specs.Resolved.Programs.{block, empty}
use Rattle.mc_semantics.specs.Resolved.Programs.{simple, free, assert, assume, assume_shape, assert_shape, assert_empty}
use Rattle.mc_semantics.specs.Resolved.Programs.{if_only, if_else, while_loop, do_loop, for_loop, break_loop, continue_loop}
use Rattle.mc_semantics.specs.Resolved.Programs.{returns, Stmts, no_more, then}
use Rattle.mc_semantics.specs.Resolved.Programs.{Local, Function}
use Rattle.mc_lower_spec.specs.Graphs.{Graph, Owner, local, result, Role, plain, head, merge, stop, Stage, stage, point}
use Rattle.mc_lower_spec.specs.Graphs.{nowhere, IsPoint, Appends, Undefines, Creates, IsMade, Uses, AreMade, Leaves}
use Rattle.mc_lower_spec.specs.Values.{struct_at, Operation, a_sum, a_difference, a_field, sets, IsOfKind, Takes, Walks}
use Rattle.mc_lower_spec.specs.Values.{Evaluates, Computes, EvaluatesAll, Tests, TestsPerhaps, Puts}

-- where `break` and `continue` of a loop go
pub record Loop : Type 0 where
  pub exit : ℕ
  pub turn : ℕ

-- where a statement stands: in an occurrence of a function, inside blocks with these variables, inside a loop
pub record Around : Type 0 where
  pub function : Function
  pub out : ℕ
  pub blocks : List ℕ
  pub loop : Option Loop

abbrev pub in_block : Around → List ℕ → Around
in_block c xs = record { function = c.function; out = c.out; blocks = xs ++ c.blocks; loop = c.loop }

abbrev pub in_loop : Around → (exit turn : ℕ) → Around
in_loop c exit turn =
    record { function = c.function; out = c.out; blocks = []; loop = Some (record { exit = exit; turn = turn }) }

abbrev pub in_body : Function → ℕ → Around
in_body f out = record { function = f; out = out; blocks = []; loop = None }

-- ---- assignments without a call
-- a variable of the flow graph is set: by the last instruction of a value, by a Copy, or to new memory
pub data SetsTo (g : Graph) (out : ℕ) (place : Place) (v : VarId) : Right → Stage → Stage → Type 0 where
  sets_operand : {e : Expr} {o : Operand} {s u : Stage} → Evaluates g out place e [] s o [] s
      → Appends g plain place (λ q. Copy v o q) s u → SetsTo g out place v (expression e) s u
  sets_computed : {e : Expr} {kind : Kind} {operation : Operation} {ts : List VarId} {s m r u : Stage}
      → Computes g out place e [] s kind operation ts m → Appends g plain place (λ q. sets operation v q) m r
      → Undefines g place ts r u → SetsTo g out place v (expression e) s u
  sets_allocated : {shape fields : ℕ} {s u : Stage} → field_count g.flow.structs (struct_at shape) ≡ fields
      → Appends g plain place (λ q. Malloc v (struct_at shape) q) s u
      → SetsTo g out place v (allocation shape fields) s u

-- a value or new memory is put into a variable or a field
pub data Assigns (g : Graph) (out : ℕ) (place : Place) : Left → Right → Stage → Stage → Type 0 where
  assigns_variable : {x : ℕ} {v : VarId} {right : Right} {s u : Stage} → IsMade g (local out x) v s
      → SetsTo g out place v right s u → Assigns g out place (record { variable = x; fields = [] }) right s u
  assigns_field : {x : ℕ} {f : FieldAt} {fs : List FieldAt} {e : Expr} {o : Operand} {ts : List VarId} {s m u : Stage}
      → Evaluates g out place e [] s o ts m → Puts g out place (record { variable = x; fields = f ∷ fs }) o ts m u
      → Assigns g out place (record { variable = x; fields = f ∷ fs }) (expression e) s u
  assigns_allocated : {x : ℕ} {f : FieldAt} {fs : List FieldAt} {shape fields : ℕ} {t : VarId} {s m r u : Stage}
      → field_count g.flow.structs (struct_at shape) ≡ fields
      → Uses g 0 Ptr s t m → Appends g plain place (λ q. Malloc t (struct_at shape) q) m r
      → Puts g out place (record { variable = x; fields = f ∷ fs }) (Var t) (t ∷ []) r u
      → Assigns g out place (record { variable = x; fields = f ∷ fs }) (allocation shape fields) s u

-- `+=` and `-=`: the value, then the variable, or the field, which is loaded, computed and stored
pub data Changes (g : Graph) (out : ℕ) (place : Place) (operation : Operand → Operand → Operation) : Left → Expr
    → Stage → Stage → Type 0 where
  changes_variable : {x : ℕ} {v : VarId} {e : Expr} {o : Operand} {ts : List VarId} {s m r u : Stage}
      → Evaluates g out place e [] s o ts m → IsMade g (local out x) v m
      → Appends g plain place (λ q. sets (operation (Var v) o) v q) m r → Undefines g place ts r u
      → Changes g out place operation (record { variable = x; fields = [] }) e s u
  changes_field : {x : ℕ} {y z old new : VarId} {f last : FieldAt} {fs : List FieldAt} {e : Expr} {o : Operand}
      → {ts us ws rs : List VarId} {s m n i j r u : Stage} {kind : Kind}
      → Evaluates g out place e [] s o ts m → IsMade g (local out x) y m → Walks g place y (f ∷ fs) ts m z last us n
      → IsOfKind g last kind → Takes g place kind (a_field z last) us n old ws i
      → Takes g place Int (operation (Var old) o) ws i new rs j
      → Appends g plain place (λ q. Store z (struct_at last.shape) last.field (Var new) q) j r
      → Undefines g place rs r u
      → Changes g out place operation (record { variable = x; fields = f ∷ fs }) e s u

-- ---- parts of calls
-- a variable is made for each parameter from this one on
pub data Receives (g : Graph) (f : Function) (out : ℕ) : (x parameters : ℕ) → Stage → List VarId → Stage
    → Type 0 where
  receives_none : {x : ℕ} {s : Stage} → Receives g f out x zero s [] s
  receives : {x more : ℕ} {l : Local} {v : VarId} {vs : List VarId} {s m u : Stage} → slice_get f.locals x ≡ Some l
      → Creates g (local out x) (record { name = l.name; kind = l.kind }) s v m → Receives g f out (suc x) more m vs u
      → Receives g f out x (suc more) s (v ∷ vs) u

-- the arguments are copied to the parameters
pub data Passes (g : Graph) (place : Place) : List VarId → List Operand → Stage → Stage → Type 0 where
  passes_none : {s : Stage} → Passes g place [] [] s s
  passes : {v : VarId} {vs : List VarId} {o : Operand} {os : List Operand} {s m u : Stage}
      → Appends g plain place (λ q. Copy v o q) s m → Passes g place vs os m u → Passes g place (v ∷ vs) (o ∷ os) s u

abbrev pub result_info : Kind → VarInfo
result_info kind = record { name = codes "$ret"; kind = kind }

-- a variable for the result, where the function has one, undefined at the begin
pub data Awaits (g : Graph) (out : ℕ) (place : Place) : Option Kind → Stage → Option VarId → Stage → Type 0 where
  awaits_none : {s : Stage} → Awaits g out place None s None s
  awaits : {kind : Kind} {v : VarId} {s m u : Stage} → Creates g (result out) (result_info kind) s v m
      → Appends g plain place (λ q. Undef (v ∷ []) q) m u → Awaits g out place (Some kind) s (Some v) u

-- ---- shapes
-- the operand of a shape's argument
pub data IsArgument (g : Graph) (out : ℕ) (s : Stage) : Argument → Operand → Type 0 where
  is_variable : {x : ℕ} {v : VarId} → IsMade g (local out x) v s → IsArgument g out s (variable x) (Var v)
  is_constant : {c : ℤ} → IsArgument g out s (constant c) (Const c)

pub data AreArguments (g : Graph) (out : ℕ) (s : Stage) : List Argument → List Operand → Type 0 where
  are_none : AreArguments g out s [] []
  are_arguments : {a : Argument} {more : List Argument} {o : Operand} {os : List Operand}
      → IsArgument g out s a o → AreArguments g out s more os → AreArguments g out s (a ∷ more) (o ∷ os)

mutual
  -- ---- calls
  -- a call's parameters, arguments and body; the variables of this occurrence of the function are undefined after
  -- it, and its result is there
  pub data Calls (g : Graph) : (out : ℕ) → Place → Call → Stage → Option VarId → Stage → Type 0 where
    calls : {out : ℕ} {place : Place} {c : Call} {f : Function} {vs us ts : List VarId} {os : List Operand}
        → {ret : Option VarId} {inner k : ℕ} {s m n i j r u : Stage}
        → slice_get g.program.functions c.function ≡ Some f
        → Receives g f inner 0 f.parameters s vs m
        → EvaluatesAll g out place c.arguments [] m os ts n → Passes g place vs os n i → Undefines g place ts i j
        → Awaits g inner place f.result j ret r
        → LowersAll g (in_body f inner) f.body r (stage inner inner k)
        → AreMade g inner (λ x. x < length f.locals) (stage inner inner k) us
        → Appends g plain place (λ q. Undef us q) (stage inner inner k) u
        → Calls g out place c s ret u

  -- ---- simple statements and declarations
  pub data Performs (g : Graph) : (out : ℕ) → Place → Action → Stage → Stage → Type 0 where
    performs_assign : {out : ℕ} {place : Place} {l : Left} {right : Right} {s u : Stage}
        → Assigns g out place l right s u → Performs g out place (assign l right) s u
    performs_result : {out : ℕ} {place : Place} {l : Left} {c : Call} {ret : VarId} {s m n u : Stage}
        → Calls g out place c s (Some ret) m
        → Puts g out place l (Var ret) [] m n → Undefines g place (ret ∷ []) n u
        → Performs g out place (assign l (result_of c)) s u
    performs_add : {out : ℕ} {place : Place} {l : Left} {e : Expr} {s u : Stage} → Changes g out place a_sum l e s u
        → Performs g out place (add l e) s u
    performs_subtract : {out : ℕ} {place : Place} {l : Left} {e : Expr} {s u : Stage}
        → Changes g out place a_difference l e s u → Performs g out place (subtract l e) s u
    performs_call : {out : ℕ} {place : Place} {c : Call} {ret : Option VarId} {s u : Stage}
        → Calls g out place c s ret u → Performs g out place (call c) s u

  -- declarators make their variables, which are undefined or get a value
  pub data Declares (g : Graph) : Function → (out : ℕ) → Place → List Initial → Stage → Stage → Type 0 where
    declares_none : {f : Function} {out : ℕ} {place : Place} {s : Stage} → Declares g f out place [] s s
    declares_undefined : {f : Function} {out : ℕ} {place : Place} {x : ℕ} {l : Local} {v : VarId}
        → {items : List Initial} {s m n u : Stage} → slice_get f.locals x ≡ Some l
        → Creates g (local out x) (record { name = l.name; kind = l.kind }) s v m
        → Appends g plain place (λ q. Undef (v ∷ []) q) m n
        → Declares g f out place items n u
        → Declares g f out place (record { variable = x; value = None } ∷ items) s u
    declares_value : {f : Function} {out : ℕ} {place : Place} {x : ℕ} {l : Local} {v : VarId} {right : Right}
        → {items : List Initial} {s m n u : Stage} → slice_get f.locals x ≡ Some l
        → Creates g (local out x) (record { name = l.name; kind = l.kind }) s v m
        → Performs g out place (assign (record { variable = x; fields = [] }) right) m n
        → Declares g f out place items n u
        → Declares g f out place (record { variable = x; value = Some right } ∷ items) s u

  -- the first part of a `for`
  pub data Starts (g : Graph) : Function → (out : ℕ) → Start → Stage → Stage → Type 0 where
    starts_nothing : {f : Function} {out : ℕ} {s : Stage} → Starts g f out nothing s s
    starts_declaring : {f : Function} {out : ℕ} {place : Place} {items : List Initial} {s u : Stage}
        → Declares g f out place items s u
        → Starts g f out (starts_with place items) s u
    starts_performing : {f : Function} {out : ℕ} {x : Simple} {s u : Stage} → Performs g out x.place x.action s u
        → Starts g f out (begins_with x) s u

  -- the last part of a `for`
  pub data Finishes (g : Graph) : (out : ℕ) → Option Simple → Stage → Stage → Type 0 where
    finishes_none : {out : ℕ} {s : Stage} → Finishes g out None s s
    finishes : {out : ℕ} {x : Simple} {s u : Stage} → Performs g out x.place x.action s u
        → Finishes g out (Some x) s u

  -- ---- statements
  -- a statement where it stands, from one stage to another
  pub data Lowers (g : Graph) : Around → Stmt → Stage → Stage → Type 0 where
    declarations : {c : Around} {place : Place} {items : List Initial} {s u : Stage}
        → Declares g c.function c.out place items s u → Lowers g c (declaration place items) s u
    blocks : {c : Around} {xs : List ℕ} {ss : Stmts} {s m u : Stage}
        → LowersAll g (in_block c xs) ss s m → Leaves g c.out nowhere xs m u → Lowers g c (block xs ss) s u
    empties : {c : Around} {s : Stage} → Lowers g c empty s s
    simples : {c : Around} {x : Simple} {s u : Stage} → Performs g c.out x.place x.action s u
        → Lowers g c (simple x) s u
    frees : {c : Around} {place : Place} {e : Expr} {o : Operand} {ts : List VarId} {s m n u : Stage}
        → Evaluates g c.out place e [] s o ts m → Appends g plain place (λ q. Free o q) m n → Undefines g place ts n u
        → Lowers g c (free place e) s u
    -- where the condition is false, a Fail stands after it, or an End that is a stop
    asserts : {c : Around} {place : Place} {d : Cond} {s : Stage} {b n k : ℕ}
        → Tests g c.out d s b n n k → IsPoint g n plain place Fail → Lowers g c (assert place d) s (stage b (suc n) k)
    assumes : {c : Around} {place : Place} {d : Cond} {s : Stage} {b n k : ℕ}
        → Tests g c.out d s b n n k → IsPoint g n stop place End → Lowers g c (assume place d) s (stage b (suc n) k)
    shapes_assumed : {c : Around} {place : Place} {predicate : PredId} {x : ℕ} {v : VarId} {args : List Argument}
        → {os : List Operand} {s u : Stage}
        → IsMade g (local c.out x) v s → AreArguments g c.out s args os
        → Appends g plain place (λ q. AssumeShape predicate v os q) s u
        → Lowers g c (assume_shape place predicate x args) s u
    shapes_asserted : {c : Around} {place : Place} {predicate : PredId} {a : Argument} {o : Operand}
        → {args : List Argument} {os : List Operand} {s u : Stage}
        → IsArgument g c.out s a o → AreArguments g c.out s args os
        → Appends g plain place (λ q. AssertShape predicate o os q) s u
        → Lowers g c (assert_shape place predicate a args) s u
    emptiness_asserted : {c : Around} {place : Place} {s u : Stage}
        → Appends g plain place (λ q. AssertEmpty q) s u → Lowers g c (assert_empty place) s u
    -- the ways meet at a Skip
    ifs : {c : Around} {place : Place} {d : Cond} {a : Stmt} {s u : Stage} {t m k n l : ℕ}
        → Tests g c.out d s t n m k → Lowers g c a (stage t m k) (stage n n l)
        → Appends g merge place (λ q. Skip q) (stage n n l) u → Lowers g c (if_only place d a) s u
    ifs_else : {c : Around} {place : Place} {d : Cond} {a b : Stmt} {s u : Stage} {t f m k i j n l : ℕ}
        → Tests g c.out d s t f m k → Lowers g c a (stage t m k) (stage n i j)
        → Lowers g c b (stage f i j) (stage n n l)
        → Appends g merge place (λ q. Skip q) (stage n n l) u → Lowers g c (if_else place d a b) s u
    -- the head at n; the body, which goes to the head; the exit at e
    whiles : {c : Around} {place : Place} {d : Cond} {a : Stmt} {s u : Stage} {n k t m i e j : ℕ}
        → Appends g head place (λ q. Skip q) (stage n n k) s → Tests g c.out d s t e m i
        → Lowers g (in_loop c e n) a (stage t m i) (stage n e j)
        → Appends g plain place (λ q. Skip q) (stage e e j) u → Lowers g c (while_loop place d a) (stage n n k) u
    -- the head at n; the body; the point for `continue` at i; the condition; the exit at e
    dos : {c : Around} {place : Place} {d : Cond} {a : Stmt} {s m u : Stage} {n k i j e l : ℕ}
        → Appends g head place (λ q. Skip q) (stage n n k) s → Lowers g (in_loop c e i) a s (stage i i j)
        → Appends g plain place (λ q. Skip q) (stage i i j) m → Tests g c.out d m n e e l
        → Appends g plain place (λ q. Skip q) (stage e e l) u → Lowers g c (do_loop place a d) (stage n n k) u
    -- the first part; the head at n; the condition; the body; the point for `continue` at i; the last part; the exit
    -- at e
    fors : {c : Around} {h : Head} {a : Stmt} {s m q w u : Stage} {n k t p y i j e l : ℕ}
        → Starts g c.function c.out h.start s (stage n n k) → Appends g head h.place (λ to. Skip to) (stage n n k) m
        → TestsPerhaps g c.out h.condition m t e p y → Lowers g (in_loop c e i) a (stage t p y) (stage i i j)
        → Appends g plain h.place (λ to. Skip to) (stage i i j) q → Finishes g c.out h.last q (stage n e l)
        → Appends g plain h.place (λ to. Skip to) (stage e e l) w → Leaves g c.out nowhere h.variables w u
        → Lowers g c (for_loop h a) s u
    -- what stands after is reached from elsewhere alone
    breaks : {c : Around} {place : Place} {l : Loop} {s : Stage} {b n k : ℕ} → c.loop ≡ Some l
        → Leaves g c.out place c.blocks s (stage l.exit n k) → Lowers g c (break_loop place) s (stage b n k)
    continues : {c : Around} {place : Place} {l : Loop} {s : Stage} {b n k : ℕ} → c.loop ≡ Some l
        → Leaves g c.out place c.blocks s (stage l.turn n k) → Lowers g c (continue_loop place) s (stage b n k)
    returns_nothing : {c : Around} {place : Place} {b n k : ℕ}
        → Lowers g c (returns place None) (stage c.out n k) (stage b n k)
    returns_value : {c : Around} {place : Place} {right : Right} {v : VarId} {s : Stage} {b n k : ℕ}
        → IsMade g (result c.out) v s → SetsTo g c.out place v right s (stage c.out n k)
        → Lowers g c (returns place (Some right)) s (stage b n k)
    returns_result : {c : Around} {place : Place} {d : Call} {v ret : VarId} {s m i : Stage} {b n k : ℕ}
        → IsMade g (result c.out) v s → Calls g c.out place d s (Some ret) m
        → Appends g plain place (λ q. Copy v (Var ret) q) m i
        → Undefines g place (ret ∷ []) i (stage c.out n k)
        → Lowers g c (returns place (Some (result_of d))) s (stage b n k)

  pub data LowersAll (g : Graph) : Around → Stmts → Stage → Stage → Type 0 where
    lowers_none : {c : Around} {s : Stage} → LowersAll g c no_more s s
    lowers_next : {c : Around} {a : Stmt} {more : Stmts} {s m u : Stage}
        → Lowers g c a s m → LowersAll g c more m u → LowersAll g c (then a more) s u

-- ---- programs
-- the result of the entry, where it has one
pub data Answers (g : Graph) (out : ℕ) : Option Kind → Stage → Stage → Type 0 where
  answers_none : {s : Stage} → Answers g out None s s
  answers : {kind : Kind} {v : VarId} {s u : Stage} → Creates g (result out) (result_info kind) s v u
      → Answers g out (Some kind) s u

abbrev pub IsMain : Function → Type 0
IsMain f = (f.name ≡ codes "main") × (f.result ≡ Some Int)

-- after the body of `main` its result is 0
pub data Falls (g : Graph) (f : Function) (out : ℕ) : Stage → Stage → Type 0 where
  falls_in_main : {v : VarId} {s u : Stage} → IsMain f → IsMade g (result out) v s
      → Appends g plain nowhere (λ q. Copy v (Const (pos 0)) q) s u → Falls g f out s u
  falls : {s : Stage} → (IsMain f → ⊥) → Falls g f out s s

-- a Skip, the body of the entry, and an End, where its `return` goes
pub data Makes (g : Graph) (f : Function) : (out variables : ℕ) → Type 0 where
  makes : {s m n : Stage} {out k : ℕ} → Appends g plain nowhere (λ q. Skip q) (stage 0 0 0) s
      → Answers g out f.result s m
      → LowersAll g (in_body f out) f.body m n → Falls g f out n (stage out out k)
      → IsPoint g out plain nowhere End → Makes g f out k

-- the points of a role, ascending
pub record AreOfRole (g : Graph) (role : Role) (ps : List PointId) : Type 0 where
  pub ascending : AllPairs (λ p q. p.0 < q.0) ps
  pub all : (n : ℕ) → slice_get g.roles n ≡ Some role → Contains ps (point n)
  pub only : All (λ p. slice_get g.roles p.0 ≡ Some role) ps

-- the operands of an instruction
abbrev pub operands : Instr → List Operand
operands (Skip q) = []
operands (Copy x o q) = o ∷ []
operands (Undef xs q) = []
operands (Input x q) = []
operands (Add x o p q) = o ∷ p ∷ []
operands (Sub x o p q) = o ∷ p ∷ []
operands (Mul x o p q) = o ∷ p ∷ []
operands (Load x y s f q) = []
operands (Store y s f o q) = o ∷ []
operands (Malloc x s q) = []
operands (Free o q) = o ∷ []
operands (TestEq o p t f) = o ∷ p ∷ []
operands (TestLe o p t f) = o ∷ p ∷ []
operands (AssumeShape predicate x os q) = os
operands (AssertShape predicate o os q) = o ∷ os
operands (AssertEmpty q) = []
operands End = []
operands Fail = []

-- the constants of all operands, ascending
pub record AreThresholds (points : List Point) (cs : List ℤ) : Type 0 where
  pub ascending : AllPairs (λ c d. c <ℤ d) cs
  pub all : (n : ℕ) (p : Point) (c : ℤ) → slice_get points n ≡ Some p → Contains (operands p.code) (Const c)
      → Contains cs c
  pub only : All (λ c. (n : ℕ) × (p : Point) × (slice_get points n ≡ Some p) × Contains (operands p.code) (Const c)) cs

-- the flow graph of a program whose entry has no parameters; no variable is made twice
pub record IsLowering (g : Graph) (entry : Function) (out count : ℕ) : Type 0 where
  pub there : slice_get g.program.functions g.program.entry ≡ Some entry
  pub alone : entry.parameters ≡ 0
  pub made : Makes g entry out count
  pub points : length g.flow.points ≡ suc out
  pub roles : length g.roles ≡ suc out
  pub variables : length g.flow.vars ≡ count
  pub owners : length g.owners ≡ count
  pub once : (owner : Owner) (v w : ℕ) → slice_get g.owners v ≡ Some owner → slice_get g.owners w ≡ Some owner → v ≡ w
  pub heads : AreOfRole g head g.flow.heads
  pub merges : AreOfRole g merge g.flow.merges
  pub stops : AreOfRole g stop g.stops
  pub thresholds : AreThresholds g.flow.points g.flow.thresholds

-- the flow graph has more than 10,000 points
abbrev pub IsTooLong : Graph → Type 0
IsTooLong g = 10000 < length g.flow.points
