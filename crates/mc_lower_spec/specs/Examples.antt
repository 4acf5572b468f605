-- Small programs with their flow graphs, worked out by hand: each form of statement.
use Rattle.std.specs.Prelude.{ℕ, pos, List, [], ◌∷◌, Option, Some, None, codes, map}
use Rattle.mc_base.specs.declared.plain.Kind.{Kind}
use Rattle.mc_base.specs.declared.plain.Kind.TheVariants.{Int, Ptr}
use Rattle.mc_base.specs.declared.plain.VarInfo.{VarInfo}
use Rattle.mc_base.specs.declared.text.place.Place.{Place}
use Rattle.mc_c_syntax.specs.declared.ast.trees.Comparison.TheVariants.{Equal, Below, AtMost, Above}
use Rattle.mc_flow.specs.declared.defs.shapes.StructInfo.{StructInfo}
use Rattle.mc_flow.specs.declared.instr.Instr.{Instr}
use Rattle.mc_flow.specs.declared.instr.Instr.TheVariants.{Skip, Copy, Undef, Input, Add, Sub, Mul, Load, Store}
use Rattle.mc_flow.specs.declared.instr.Instr.TheVariants.{Malloc, Free, TestEq, TestLe, AssumeShape, AssertShape}
use Rattle.mc_flow.specs.declared.instr.Instr.TheVariants.{AssertEmpty, End, Fail}
use Rattle.mc_flow.specs.declared.instr.Operand.{Operand}
use Rattle.mc_flow.specs.declared.instr.Operand.TheVariants.{Var, Const}
use Rattle.mc_semantics.specs.Resolved.Programs.{FieldAt, Left, Expr, number, input, value, minus, times, plus as plus_expr}
use Rattle.mc_semantics.specs.Resolved.Programs.{difference, plain as plain_cond, compare, negation, both, either}
use Rattle.mc_semantics.specs.Resolved.Programs.{Call, Right, expression, result_of, allocation, Action, assign, add, subtract}
use Rattle.mc_semantics.specs.Resolved.Programs.{call, variable, constant, nothing, declares}
use Rattle.mc_semantics.specs.Resolved.Programs.{Stmt, declaration, block, empty, simple, free, assert, assume, assume_shape}
use Rattle.mc_semantics.specs.Resolved.Programs.{assert_shape, assert_empty, if_only, if_else, while_loop, do_loop, for_loop}
use Rattle.mc_semantics.specs.Resolved.Programs.{break_loop, continue_loop, returns}
use Rattle.mc_semantics.specs.Resolved.Programs.{Local, Function, Stmts, no_more, then}
use Rattle.mc_lower_spec.specs.Graphs.{Graph, Owner, local, result, temporary, Role, plain, head, merge, stop, point}
use Rattle.mc_lower_spec.specs.Graphs.{var, nowhere}
use Rattle.mc_lower_spec.specs.Values.{struct_at}

-- ---- how programs and flow graphs are written here
-- the place at the begin of a line
abbrev pub line : ℕ → Place
line n = record { line = n; column = 1 }

-- a point with its role: one that is at a line, or without a place of its own; a head, a merge and a stop at a line
pub record Line : Type 0 where
  pub role : Role
  pub code : Instr
  pub place : Place

abbrev pub at : ℕ → Instr → Line
at n code = record { role = plain; code = code; place = line n }

abbrev pub bare : Instr → Line
bare code = record { role = plain; code = code; place = nowhere }

abbrev pub a_head : ℕ → Instr → Line
a_head n code = record { role = head; code = code; place = line n }

abbrev pub a_merge : ℕ → Instr → Line
a_merge n code = record { role = merge; code = code; place = line n }

abbrev pub a_stop : ℕ → Instr → Line
a_stop n code = record { role = stop; code = code; place = line n }

-- operands, and variables of the flow graph with their owners
abbrev pub v : ℕ → Operand
v n = Var (var n)

abbrev pub c : ℕ → Operand
c n = Const (pos n)

abbrev pub undef : List ℕ → ℕ → Instr
undef xs q = Undef (map var xs) (point q)

abbrev pub named : Owner → List ℕ → Kind → Owner × VarInfo
named owner name kind = (owner, record { name = name; kind = kind })

abbrev pub own : (out x : ℕ) → List ℕ → Kind → Owner × VarInfo
own out x name kind = named (local out x) name kind

abbrev pub ret : (out : ℕ) → Owner × VarInfo
ret out = named (result out) (codes "$ret") Int

abbrev pub temp : (j : ℕ) → Kind → Owner × VarInfo
temp j kind = named (temporary j kind) [] kind

-- `struct node { int data; struct node *next; };`
abbrev pub node : StructInfo
node =
    record {
      name = codes "node";
      fields = record { name = codes "data"; kind = Int } ∷ record { name = codes "next"; kind = Ptr } ∷ [];
    }

abbrev pub data_field : FieldAt
data_field = record { shape = 0; field = 0 }

abbrev pub next_field : FieldAt
next_field = record { shape = 0; field = 1 }

-- functions and programs; function 0 is the entry
abbrev pub function : List ℕ → List Local → ℕ → Option Kind → Stmts → Function
function name locals parameters kind body =
    record { name = name; locals = locals; parameters = parameters; result = kind; body = body }

abbrev pub main_of : List Local → Stmts → Function
main_of locals body = function (codes "main") locals 0 (Some Int) body

abbrev pub some_local : List ℕ → Kind → Local
some_local name kind = record { name = name; place = nowhere; kind = kind }

abbrev pub graph_of : List Function → List Line → List (Owner × VarInfo) → Graph
graph_of functions lines variables =
    record {
      program = record { functions = functions; entry = 0; defs = [] };
      flow =
          record {
            points = map (λ l. record { code = l.code; place = l.place }) lines;
            vars = map (λ w. w.1) variables;
            heads = [];
            merges = [];
            thresholds = [];
            structs = record { list = node ∷ [] };
          };
      owners = map (λ w. w.0) variables;
      roles = map (λ l. l.role) lines;
      stops = [];
    }

-- statements in short
abbrev pub here : ℕ → Expr
here x = value (record { variable = x; fields = [] })

abbrev pub behind : ℕ → List FieldAt → Expr
behind x fs = value (record { variable = x; fields = fs })

abbrev pub left : ℕ → List FieldAt → Left
left x fs = record { variable = x; fields = fs }

abbrev pub does : ℕ → Action → Stmt
does n action = simple (record { place = line n; action = action })

abbrev pub declared : ℕ → ℕ → Option Right → Stmt
declared n x right = declaration (line n) (record { variable = x; value = right } ∷ [])

abbrev pub called : ℕ → List Expr → Call
called f args = record { function = f; arguments = args }

-- ---- values: `int x = input(); int y; y = x + 2 * x; y = -y - 1; x += y;`
abbrev pub values_main : Function
values_main =
    main_of (some_local (codes "x") Int ∷ some_local (codes "y") Int ∷ [])
    (then (declared 2 0 (Some (expression input)))
    (then (declared 3 1 None)
    (then (does 4 (assign (left 1 []) (expression (plus_expr (here 0) (times (number 2) (here 0))))))
    (then (does 5 (assign (left 1 []) (expression (difference (minus (here 1)) (number 1)))))
    (then (does 6 (add (left 0 []) (here 1))) no_more)))))

abbrev pub values_graph : Graph
values_graph =
    graph_of (values_main ∷ [])
    (bare (Skip (point 1))
    ∷ at 2 (Input (var 1) (point 2))
    ∷ at 3 (undef (2 ∷ []) 3)
    ∷ at 4 (Mul (var 3) (c 2) (v 1) (point 4))
    ∷ at 4 (Add (var 2) (v 1) (v 3) (point 5))
    ∷ at 4 (undef (3 ∷ []) 6)
    ∷ at 5 (Sub (var 3) (c 0) (v 2) (point 7))
    ∷ at 5 (Sub (var 2) (v 3) (c 1) (point 8))
    ∷ at 5 (undef (3 ∷ []) 9)
    ∷ at 6 (Add (var 1) (v 1) (v 2) (point 10))
    ∷ bare (Copy (var 0) (c 0) (point 11))
    ∷ bare End
    ∷ [])
    (ret 11 ∷ own 11 0 (codes "x") Int ∷ own 11 1 (codes "y") Int ∷ temp 0 Int ∷ [])

-- ---- fields: `struct node *p = malloc(..); p->next->data = p->data; p->next->next->data -= 3; p->next =
-- malloc(..);`
-- temporary 0 is one variable as an `int` and another as a pointer; temporary 1 is there again
abbrev pub fields_main : Function
fields_main =
    main_of (some_local (codes "p") Ptr ∷ [])
    (then (declared 2 0 (Some (allocation 0 2)))
    (then (does 3 (assign (left 0 (next_field ∷ data_field ∷ [])) (expression (behind 0 (data_field ∷ [])))))
    (then (does 4 (subtract (left 0 (next_field ∷ next_field ∷ data_field ∷ [])) (number 3)))
    (then (does 5 (assign (left 0 (next_field ∷ [])) (allocation 0 2))) no_more))))

abbrev pub fields_graph : Graph
fields_graph =
    graph_of (fields_main ∷ [])
    (bare (Skip (point 1))
    ∷ at 2 (Malloc (var 1) (struct_at 0) (point 2))
    ∷ at 3 (Load (var 2) (var 1) (struct_at 0) 0 (point 3))
    ∷ at 3 (Load (var 3) (var 1) (struct_at 0) 1 (point 4))
    ∷ at 3 (Store (var 3) (struct_at 0) 0 (v 2) (point 5))
    ∷ at 3 (undef (2 ∷ 3 ∷ []) 6)
    ∷ at 4 (Load (var 4) (var 1) (struct_at 0) 1 (point 7))
    ∷ at 4 (Load (var 3) (var 4) (struct_at 0) 1 (point 8))
    ∷ at 4 (Load (var 5) (var 3) (struct_at 0) 0 (point 9))
    ∷ at 4 (Sub (var 6) (v 5) (c 3) (point 10))
    ∷ at 4 (Store (var 3) (struct_at 0) 0 (v 6) (point 11))
    ∷ at 4 (undef (4 ∷ 3 ∷ 5 ∷ 6 ∷ []) 12)
    ∷ at 5 (Malloc (var 4) (struct_at 0) (point 13))
    ∷ at 5 (Store (var 1) (struct_at 0) 1 (v 4) (point 14))
    ∷ at 5 (undef (4 ∷ []) 15)
    ∷ bare (Copy (var 0) (c 0) (point 16))
    ∷ bare End
    ∷ [])
    (ret 16 ∷ own 16 0 (codes "p") Ptr ∷ temp 0 Int ∷ temp 1 Ptr ∷ temp 0 Ptr ∷ temp 2 Int ∷ temp 3 Int ∷ [])

-- ---- conditions: `int x; struct node *p; if (!(x == 0 && p->data) || input() > 2) x = 1; else;`
abbrev pub conditions_main : Function
conditions_main =
    main_of (some_local (codes "x") Int ∷ some_local (codes "p") Ptr ∷ [])
    (then (declared 2 0 None)
    (then (declared 3 1 None)
    (then
    (if_else (line 4)
    (either
    (negation (both (compare (line 5) Equal (here 0) (number 0)) (plain_cond (line 6) (behind 1 (data_field ∷ [])))))
    (compare (line 7) Above input (number 2)))
    (does 8 (assign (left 0 []) (expression (number 1))))
    empty)
    no_more)))

abbrev pub conditions_graph : Graph
conditions_graph =
    graph_of (conditions_main ∷ [])
    (bare (Skip (point 1))
    ∷ at 2 (undef (1 ∷ []) 2)
    ∷ at 3 (undef (2 ∷ []) 3)
    ∷ at 5 (TestEq (v 1) (c 0) (point 4) (point 12))
    ∷ at 6 (Load (var 3) (var 2) (struct_at 0) 0 (point 5))
    ∷ at 6 (TestEq (v 3) (c 0) (point 7) (point 6))
    ∷ at 6 (undef (3 ∷ []) 8)
    ∷ at 6 (undef (3 ∷ []) 12)
    ∷ at 7 (Input (var 3) (point 9))
    ∷ at 7 (TestLe (v 3) (c 2) (point 11) (point 10))
    ∷ at 7 (undef (3 ∷ []) 12)
    ∷ at 7 (undef (3 ∷ []) 13)
    ∷ at 8 (Copy (var 1) (c 1) (point 13))
    ∷ a_merge 4 (Skip (point 14))
    ∷ bare (Copy (var 0) (c 0) (point 15))
    ∷ bare End
    ∷ [])
    (ret 15 ∷ own 15 0 (codes "x") Int ∷ own 15 1 (codes "p") Ptr ∷ temp 0 Int ∷ [])

-- ---- `int x; while (x) { int y; if (y) break; int z; continue; }`: `break` does not name the variable that is
-- declared after it
abbrev pub while_main : Function
while_main =
    main_of (some_local (codes "x") Int ∷ some_local (codes "y") Int ∷ some_local (codes "z") Int ∷ [])
    (then (declared 2 0 None)
    (then
    (while_loop (line 3) (plain_cond (line 4) (here 0))
    (block (2 ∷ 1 ∷ [])
    (then (declared 5 1 None)
    (then (if_only (line 6) (plain_cond (line 7) (here 1)) (break_loop (line 8)))
    (then (declared 9 2 None)
    (then (continue_loop (line 10)) no_more))))))
    no_more))

abbrev pub while_graph : Graph
while_graph =
    graph_of (while_main ∷ [])
    (bare (Skip (point 1))
    ∷ at 2 (undef (1 ∷ []) 2)
    ∷ a_head 3 (Skip (point 3))
    ∷ at 4 (TestEq (v 1) (c 0) (point 11) (point 4))
    ∷ at 5 (undef (2 ∷ []) 5)
    ∷ at 7 (TestEq (v 2) (c 0) (point 7) (point 6))
    ∷ at 8 (undef (2 ∷ []) 11)
    ∷ a_merge 6 (Skip (point 8))
    ∷ at 9 (undef (3 ∷ []) 9)
    ∷ at 10 (undef (2 ∷ 3 ∷ []) 2)
    ∷ bare (undef (2 ∷ 3 ∷ []) 2)
    ∷ at 3 (Skip (point 12))
    ∷ bare (Copy (var 0) (c 0) (point 13))
    ∷ bare End
    ∷ [])
    (ret 13 ∷ own 13 0 (codes "x") Int ∷ own 13 1 (codes "y") Int ∷ own 13 2 (codes "z") Int ∷ [])

-- ---- `do { if (input()) continue; } while (0);`: what is before `continue` goes on where `continue` goes
abbrev pub do_main : Function
do_main =
    main_of []
    (then
    (do_loop (line 2)
    (block [] (then (if_only (line 3) (plain_cond (line 4) input) (continue_loop (line 5))) no_more))
    (plain_cond (line 6) (number 0)))
    no_more)

abbrev pub do_graph : Graph
do_graph =
    graph_of (do_main ∷ [])
    (bare (Skip (point 1))
    ∷ a_head 2 (Skip (point 2))
    ∷ at 4 (Input (var 1) (point 3))
    ∷ at 4 (TestEq (v 1) (c 0) (point 5) (point 4))
    ∷ at 4 (undef (1 ∷ []) 7)
    ∷ at 4 (undef (1 ∷ []) 6)
    ∷ a_merge 3 (Skip (point 7))
    ∷ at 2 (Skip (point 8))
    ∷ at 6 (TestEq (c 0) (c 0) (point 9) (point 1))
    ∷ at 2 (Skip (point 10))
    ∷ bare (Copy (var 0) (c 0) (point 11))
    ∷ bare End
    ∷ [])
    (ret 11 ∷ temp 0 Int ∷ [])

-- ---- `for (int i = 0; i < 2; i++) if (i == 1); else int x = 7; for (;;) break;`
abbrev pub for_main : Function
for_main =
    main_of (some_local (codes "i") Int ∷ some_local (codes "x") Int ∷ [])
    (then
    (for_loop
    (record {
      place = line 2;
      start = declares (line 3) (record { variable = 0; value = Some (expression (number 0)) } ∷ []);
      condition = Some (compare (line 4) Below (here 0) (number 2));
      last = Some (record { place = line 5; action = add (left 0 []) (number 1) });
      variables = 0 ∷ [];
    })
    (if_else (line 6) (compare (line 7) Equal (here 0) (number 1)) empty (declared 8 1 (Some (expression (number 7))))))
    (then
    (for_loop (record { place = line 9; start = nothing; condition = None; last = None; variables = [] })
    (break_loop (line 10)))
    no_more))

abbrev pub for_graph : Graph
for_graph =
    graph_of (for_main ∷ [])
    (bare (Skip (point 1))
    ∷ at 3 (Copy (var 1) (c 0) (point 2))
    ∷ a_head 2 (Skip (point 3))
    ∷ at 4 (TestLe (c 2) (v 1) (point 9) (point 4))
    ∷ at 7 (TestEq (v 1) (c 1) (point 6) (point 5))
    ∷ at 8 (Copy (var 2) (c 7) (point 6))
    ∷ a_merge 6 (Skip (point 7))
    ∷ at 2 (Skip (point 8))
    ∷ at 5 (Add (var 1) (v 1) (c 1) (point 2))
    ∷ at 2 (Skip (point 10))
    ∷ bare (undef (1 ∷ []) 11)
    ∷ a_head 9 (Skip (point 13))
    ∷ at 9 (Skip (point 11))
    ∷ at 9 (Skip (point 14))
    ∷ bare (Copy (var 0) (c 0) (point 15))
    ∷ bare End
    ∷ [])
    (ret 15 ∷ own 15 0 (codes "i") Int ∷ own 15 1 (codes "x") Int ∷ [])

-- ---- `struct node *p; assume_shape(list, p, 5); free(p->next); assert(p); assume(input() <= 3); assert_shape(list,
-- p); assert_empty();`
abbrev pub commands_main : Function
commands_main =
    main_of (some_local (codes "p") Ptr ∷ [])
    (then (declared 2 0 None)
    (then (assume_shape (line 3) (record { 0 = 0 }) 0 (constant (pos 5) ∷ []))
    (then (free (line 4) (behind 0 (next_field ∷ [])))
    (then (assert (line 5) (plain_cond (line 5) (here 0)))
    (then (assume (line 6) (compare (line 6) AtMost input (number 3)))
    (then (assert_shape (line 7) (record { 0 = 0 }) (variable 0) [])
    (then (assert_empty (line 8)) no_more)))))))

abbrev pub commands_graph : Graph
commands_graph =
    graph_of (commands_main ∷ [])
    (bare (Skip (point 1))
    ∷ at 2 (undef (1 ∷ []) 2)
    ∷ at 3 (AssumeShape (record { 0 = 0 }) (var 1) (c 5 ∷ []) (point 3))
    ∷ at 4 (Load (var 2) (var 1) (struct_at 0) 1 (point 4))
    ∷ at 4 (Free (v 2) (point 5))
    ∷ at 4 (undef (2 ∷ []) 6)
    ∷ at 5 (TestEq (v 1) (c 0) (point 7) (point 8))
    ∷ at 5 Fail
    ∷ at 6 (Input (var 3) (point 9))
    ∷ at 6 (TestLe (v 3) (c 3) (point 10) (point 11))
    ∷ at 6 (undef (3 ∷ []) 13)
    ∷ at 6 (undef (3 ∷ []) 12)
    ∷ a_stop 6 End
    ∷ at 7 (AssertShape (record { 0 = 0 }) (v 1) [] (point 14))
    ∷ at 8 (AssertEmpty (point 15))
    ∷ bare (Copy (var 0) (c 0) (point 16))
    ∷ bare End
    ∷ [])
    (ret 16 ∷ own 16 0 (codes "p") Ptr ∷ temp 0 Ptr ∷ temp 0 Int ∷ [])

-- ---- `int f(int a) { int b; while (1) { return a + 1; } }` and in `main` `int x = f(2); f(x);`: two occurrences of
-- f
abbrev pub f_function : Function
f_function =
    function (codes "f") (some_local (codes "a") Int ∷ some_local (codes "b") Int ∷ []) 1 (Some Int)
    (then (declared 20 1 None)
    (then
    (while_loop (line 21) (plain_cond (line 22) (number 1))
    (block [] (then (returns (line 23) (Some (expression (plus_expr (here 0) (number 1))))) no_more)))
    no_more))

abbrev pub calls_main : Function
calls_main =
    main_of (some_local (codes "x") Int ∷ [])
    (then (declared 2 0 (Some (result_of (called 1 (number 2 ∷ [])))))
    (then (does 3 (call (called 1 (here 0 ∷ [])))) no_more))

abbrev pub calls_graph : Graph
calls_graph =
    graph_of (calls_main ∷ f_function ∷ [])
    (bare (Skip (point 1))
    ∷ at 2 (Copy (var 2) (c 2) (point 2))
    ∷ at 2 (undef (3 ∷ []) 3)
    ∷ at 20 (undef (4 ∷ []) 4)
    ∷ a_head 21 (Skip (point 5))
    ∷ at 22 (TestEq (c 1) (c 0) (point 7) (point 6))
    ∷ at 23 (Add (var 3) (v 2) (c 1) (point 8))
    ∷ at 21 (Skip (point 8))
    ∷ at 2 (undef (2 ∷ 4 ∷ []) 9)
    ∷ at 2 (Copy (var 1) (v 3) (point 10))
    ∷ at 2 (undef (3 ∷ []) 11)
    ∷ at 3 (Copy (var 5) (v 1) (point 12))
    ∷ at 3 (undef (6 ∷ []) 13)
    ∷ at 20 (undef (7 ∷ []) 14)
    ∷ a_head 21 (Skip (point 15))
    ∷ at 22 (TestEq (c 1) (c 0) (point 17) (point 16))
    ∷ at 23 (Add (var 6) (v 5) (c 1) (point 18))
    ∷ at 21 (Skip (point 18))
    ∷ at 3 (undef (5 ∷ 7 ∷ []) 19)
    ∷ bare (Copy (var 0) (c 0) (point 20))
    ∷ bare End
    ∷ [])
    (ret 20 ∷ own 20 0 (codes "x") Int ∷ own 8 0 (codes "a") Int ∷ ret 8 ∷ own 8 1 (codes "b") Int
    ∷ own 18 0 (codes "a") Int ∷ ret 18 ∷ own 18 1 (codes "b") Int ∷ [])

-- ---- `int x; { int x = x; } g(); return h(input());` with `void g() { return; }` and `int h(int n) { return n; }`
abbrev pub g_function : Function
g_function = function (codes "g") [] 0 None (then (returns (line 30) None) no_more)

abbrev pub h_function : Function
h_function =
    function (codes "h") (some_local (codes "n") Int ∷ []) 1 (Some Int)
    (then (returns (line 40) (Some (expression (here 0)))) no_more)

abbrev pub returns_main : Function
returns_main =
    main_of (some_local (codes "x") Int ∷ some_local (codes "x") Int ∷ [])
    (then (declared 2 0 None)
    (then (block (1 ∷ []) (then (declared 3 1 (Some (expression (here 1)))) no_more))
    (then (does 4 (call (called 1 [])))
    (then (returns (line 5) (Some (result_of (called 2 (input ∷ []))))) no_more))))

abbrev pub returns_graph : Graph
returns_graph =
    graph_of (returns_main ∷ g_function ∷ h_function ∷ [])
    (bare (Skip (point 1))
    ∷ at 2 (undef (1 ∷ []) 2)
    ∷ at 3 (Copy (var 2) (v 2) (point 3))
    ∷ bare (undef (2 ∷ []) 4)
    ∷ at 4 (undef [] 5)
    ∷ at 5 (Input (var 4) (point 6))
    ∷ at 5 (Copy (var 3) (v 4) (point 7))
    ∷ at 5 (undef (4 ∷ []) 8)
    ∷ at 5 (undef (5 ∷ []) 9)
    ∷ at 40 (Copy (var 5) (v 3) (point 10))
    ∷ at 5 (undef (3 ∷ []) 11)
    ∷ at 5 (Copy (var 0) (v 5) (point 12))
    ∷ at 5 (undef (5 ∷ []) 14)
    ∷ bare (Copy (var 0) (c 0) (point 14))
    ∷ bare End
    ∷ [])
    (ret 14 ∷ own 14 0 (codes "x") Int ∷ own 14 1 (codes "x") Int ∷ own 10 0 (codes "n") Int ∷ temp 0 Int ∷ ret 10 ∷ [])

-- ---- `void run() { }` as the entry
abbrev pub run_function : Function
run_function = function (codes "run") [] 0 None no_more

abbrev pub run_graph : Graph
run_graph = graph_of (run_function ∷ []) (bare (Skip (point 1)) ∷ bare End ∷ []) []

-- ---- a whole flow graph: that of `do` above, with its head, its merge and its threshold
abbrev pub whole_graph : Graph
whole_graph =
    record {
      program = do_graph.program;
      flow =
          record {
            points = do_graph.flow.points;
            vars = do_graph.flow.vars;
            heads = point 1 ∷ [];
            merges = point 6 ∷ [];
            thresholds = pos 0 ∷ [];
            structs = do_graph.flow.structs;
          };
      owners = do_graph.owners;
      roles = do_graph.roles;
      stops = [];
    }
