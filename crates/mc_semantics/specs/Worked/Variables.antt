-- Small programs whose variables hide each other, outlive turns, and are left. The places are the columns of the texts.
use Rattle.std.specs.Prelude.{ℕ, ◌+◌, List, [], ◌∷◌, ◌++◌, Option, Some, None, map, codes}
use Rattle.mc_flow.specs.Runs.{Reaches, Final}
use Rattle.mc_c_syntax.specs.declared.ast.trees.Base.{Base}
use Rattle.mc_c_syntax.specs.declared.ast.trees.Comparison.TheVariants as Comparison
use Rattle.mc_c_syntax.specs.declared.ast.trees.Parameter.{Parameter}
use Rattle.mc_c_syntax.specs.declared.ast.trees.Returned.{Returned}
use Rattle.mc_c_syntax.specs.Ast.Trees.{Expr, minus, Cond, plain, compare, CallTree, Right, expression, result_of}
use Rattle.mc_c_syntax.specs.Ast.Trees.{InitialTree, DeclarationTree, assign, increment, call, declares, Head, Stmt}
use Rattle.mc_c_syntax.specs.Ast.Trees.{declaration, block, empty, simple, assert, if_only, if_else, while_loop, do_loop}
use Rattle.mc_c_syntax.specs.Ast.Trees.{for_loop, break_loop, continue_loop, returns, no_more, then, ParametersTree, listed}
use Rattle.mc_c_syntax.specs.Ast.Trees.{FunctionTree, function, UnitTree}
use Rattle.mc_semantics.specs.Steps.{Step, start, program_of}
use Rattle.mc_semantics.specs.Examples.{at, name, variable, x_word, main_of, var, num, node_struct}
use Rattle.mc_semantics.specs.Worked.Programs.{i_word, y_word}

-- ---- programs of a struct, some functions, and `main`
abbrev pub with_functions : List FunctionTree → List Stmt → UnitTree
with_functions functions ss = node_struct ∷ (map function functions ++ function (main_of ss) ∷ [])

-- without a choice a run of such a program comes to this within so many steps
abbrev pub RunsTo : List FunctionTree → List Stmt → ℕ → Final → Type 0
RunsTo functions ss n f = Reaches (Step (program_of (with_functions functions ss) [])) n
    (start (program_of (with_functions functions ss) []) (main_of ss)) [] f

abbrev pub function_of : Returned → ℕ → List ℕ → ParametersTree → ℕ → List Stmt → FunctionTree
function_of returned n text parameters m ss =
    record {
      static_place = None;
      returned = returned;
      name = name n text;
      parameters = parameters;
      body = Some
          (record { place = at m; statements = ss });
    }

abbrev pub an_int : Returned
an_int = Returned.Value (Base.Int (at 1)) None

abbrev pub parameter : ℕ → ℕ → List ℕ → Parameter
parameter n m text = record { base = Base.Int (at n); declarator = record { pointer = None; name = name m text } }

abbrev pub calls : ℕ → List ℕ → List Expr → CallTree
calls n text es = record { function = name n text; arguments = es }

-- ---- statements
abbrev pub k_word : List ℕ
k_word = codes "k"

abbrev pub item : ℕ → List ℕ → Option Right → InitialTree
item n text value = record { declarator = record { pointer = None; name = name n text }; value = value }

abbrev pub ints : ℕ → List InitialTree → DeclarationTree
ints n items = record { base = Base.Int (at n); items = items }

-- `int x = r;`, `x = e;` and `x == k`
abbrev pub int_of : ℕ → ℕ → List ℕ → Right → Stmt
int_of n m text right = declaration (ints n (item m text (Some right) ∷ []))

abbrev pub sets : ℕ → List ℕ → Expr → Stmt
sets n text e = simple (assign (variable n text) (expression e))

abbrev pub var_is : ℕ → List ℕ → ℕ → ℕ → Cond
var_is n text m k = compare Comparison.Equal (var n text) (num m k)

-- `for (int i = 0; i < k; i++)` at this column
abbrev pub counted : ℕ → ℕ → Head
counted n k =
    record {
      place = at n;
      start = declares (ints (n + 5) (item (n + 9) i_word (Some (expression (num (n + 13) 0))) ∷ []));
      condition = Some (compare Comparison.Below (var (n + 16) i_word) (num (n + 20) k));
      last = Some (increment (variable (n + 23) i_word));
    }

-- ---- values of declarators
-- `int main(){ for (int i = 0; i < 1; i++) int i = -1; assert(0 == 1); return 0; }`:
-- the declarator sets its own variable, and the head's goes on
abbrev pub hidden_by_head : List Stmt
hidden_by_head =
    for_loop (counted 13 1)
    (int_of 41 45 i_word (expression (minus (at 49) (num 50 1))))
    ∷ assert (at 53) (compare Comparison.Equal (num 60 0) (num 65 1))
    ∷ returns (at 69) (Some (expression (num 76 0)))
    ∷ []

-- `int main(){ for (int i = 0; i < 1; i++) int i = -1; assert(i == -1); }`: after the loop its variable is seen
abbrev pub hiding_ends : List Stmt
hiding_ends =
    for_loop (counted 13 1)
    (int_of 41 45 i_word (expression (minus (at 49) (num 50 1))))
    ∷ assert (at 53) (compare Comparison.Equal (var 60 i_word) (minus (at 65) (num 66 1)))
    ∷ []

-- `int same(int x) { return x; }`
abbrev pub same_function : FunctionTree
same_function =
    function_of an_int 5 (codes "same") (listed (parameter 10 14 x_word ∷ [])) 17
    (returns (at 19) (Some (expression (var 26 x_word)))
    ∷ [])

-- `int same(int x) { return x; } int main(){ for (int i = 0; i < 1; i++) int i = same(5); assert(i == 5); }`:
-- the result of a call goes there too
abbrev pub hidden_result : List Stmt
hidden_result =
    for_loop (counted 43 1)
    (int_of 71 75 i_word (result_of (calls 79 (codes "same") (num 84 5 ∷ []))))
    ∷ assert (at 88) (var_is 95 i_word 100 5)
    ∷ []

-- `int main(){ for (int i = 0; i < 2; i++) if (i == 1) int x = x; else x = 7; assert(x == 7); }`:
-- a declarator with a value is an assignment: x keeps its 7
abbrev pub own_value : List Stmt
own_value =
    for_loop (counted 13 2)
    (if_else (at 41) (var_is 45 i_word 50 1) (int_of 53 57 x_word (expression (var 61 x_word)))
    (sets 69 x_word (num 73 7)))
    ∷ assert (at 76) (var_is 83 x_word 88 7)
    ∷ []

-- `int main(){ int x = 1; { int x = x; } }`: the value of the inner x is that x, not the outer one
abbrev pub own_undefined : List Stmt
own_undefined =
    int_of 13 17 x_word (expression (num 21 1))
    ∷ block (at 24) (then (int_of 26 30 x_word (expression (var 34 x_word)))
    no_more)
    ∷ []

-- `int main(){ int x = 3, y = x; assert(y == 3); }`
abbrev pub one_after_other : List Stmt
one_after_other =
    declaration
    (ints 13 (item 17 x_word (Some (expression (num 21 3))) ∷ item 24 y_word (Some (expression (var 28 x_word))) ∷ []))
    ∷ assert (at 31) (var_is 38 y_word 43 3)
    ∷ []

-- ---- names that hide names
-- `int main(){ int x = 1; { int x = 2; assert(x == 2); } assert(x == 1); }`
abbrev pub hiding_outer : List Stmt
hiding_outer =
    int_of 13 17 x_word (expression (num 21 1))
    ∷ block (at 24) (then (int_of 26 30 x_word (expression (num 34 2)))
    (then (assert (at 37) (var_is 44 x_word 49 2))
    no_more))
    ∷ assert (at 55) (var_is 62 x_word 67 1)
    ∷ []

-- `int main(){ int i = 7; for (int i = 0; i < 1; i++) ; assert(i == 7); }`
abbrev pub hiding_head : List Stmt
hiding_head =
    int_of 13 17 i_word (expression (num 21 7))
    ∷ for_loop (counted 24 1)
    (empty (at 52))
    ∷ assert (at 54) (var_is 61 i_word 66 7)
    ∷ []

-- `int inner(int x) { { int x = 1; x++; } return x; }`
abbrev pub inner_function : FunctionTree
inner_function =
    function_of an_int 5 (codes "inner") (listed (parameter 11 15 x_word ∷ [])) 18
    (block (at 20) (then (int_of 22 26 x_word (expression (num 30 1)))
    (then (simple (increment (variable 33 x_word)))
    no_more))
    ∷ returns (at 40) (Some (expression (var 47 x_word)))
    ∷ [])

-- `int inner(int x) { { int x = 1; x++; } return x; } int main(){ int y = inner(7); assert(y == 7); }`
abbrev pub hiding_parameter : List Stmt
hiding_parameter =
    int_of 64 68 y_word (result_of (calls 72 (codes "inner") (num 78 7 ∷ [])))
    ∷ assert (at 82) (var_is 89 y_word 94 7)
    ∷ []

-- ---- variables that outlive statements
-- `int main(){ for (int i = 0; i < 2; i++) if (i == 1) { } else int x = 7; assert(x == 7); return 0; }`:
-- an empty block undefines nothing, nor does the end of a turn
abbrev pub kept_in_turns : List Stmt
kept_in_turns =
    for_loop (counted 13 2)
    (if_else (at 41) (var_is 45 i_word 50 1) (block (at 53) no_more) (int_of 62 66 x_word (expression (num 70 7))))
    ∷ assert (at 73) (var_is 80 x_word 85 7)
    ∷ returns (at 89) (Some (expression (num 96 0)))
    ∷ []

-- `int main(){ do int x = 0; while (x); assert(x == 0); }`
abbrev pub kept_for_condition : List Stmt
kept_for_condition =
    do_loop (at 13) (int_of 16 20 x_word (expression (num 24 0))) (plain (var 34 x_word))
    ∷ assert (at 38) (var_is 45 x_word 50 0)
    ∷ []

-- `int main(){ if (0) int x = 1; assert(x == 1); }`: x is visible, and undefined
abbrev pub never_reached : List Stmt
never_reached =
    if_only (at 13) (plain (num 17 0)) (int_of 20 24 x_word (expression (num 28 1)))
    ∷ assert (at 31) (var_is 38 x_word 43 1)
    ∷ []

-- ---- variables of blocks that are left
-- `int main(){ int k = 0; while (k < 2) { while (1) { if (k == 0) int x = 5; assert(x == 5); break; } k++; } }`:
-- `break` leaves the block of x
abbrev pub left_by_break : List Stmt
left_by_break =
    int_of 13 17 k_word (expression (num 21 0))
    ∷ while_loop (at 24) (compare Comparison.Below (var 31 k_word) (num 35 2))
    (block (at 38) (then (while_loop (at 40) (plain (num 47 1))
    (block (at 50) (then (if_only (at 52) (var_is 56 k_word 61 0) (int_of 64 68 x_word (expression (num 72 5))))
    (then (assert (at 75) (var_is 82 x_word 87 5))
    (then (break_loop (at 91))
    no_more)))))
    (then (simple (increment (variable 100 k_word)))
    no_more)))
    ∷ []

-- `int main(){ int i = 0; while (i < 2) { if (i == 0) int x = 5; i++; if (i == 1) continue; assert(x == 5); } }`:
-- `continue` leaves the block of x
abbrev pub left_by_continue : List Stmt
left_by_continue =
    int_of 13 17 i_word (expression (num 21 0))
    ∷ while_loop (at 24) (compare Comparison.Below (var 31 i_word) (num 35 2))
    (block (at 38) (then (if_only (at 40) (var_is 44 i_word 49 0) (int_of 52 56 x_word (expression (num 60 5))))
    (then (simple (increment (variable 63 i_word)))
    (then (if_only (at 68) (var_is 72 i_word 77 1) (continue_loop (at 80)))
    (then (assert (at 90) (var_is 97 x_word 102 5))
    no_more)))))
    ∷ []

-- `int main(){ int i = 0; while (i < 2) { if (i == 0) int x = 5; assert(x == 5); i++; } }`
abbrev pub left_at_end : List Stmt
left_at_end =
    int_of 13 17 i_word (expression (num 21 0))
    ∷ while_loop (at 24) (compare Comparison.Below (var 31 i_word) (num 35 2))
    (block (at 38) (then (if_only (at 40) (var_is 44 i_word 49 0) (int_of 52 56 x_word (expression (num 60 5))))
    (then (assert (at 63) (var_is 70 x_word 75 5))
    (then (simple (increment (variable 79 i_word)))
    no_more))))
    ∷ []

-- `int local(int x) { if (x == 0) int y = 1; return y; }`
abbrev pub local_function : FunctionTree
local_function =
    function_of an_int 5 (codes "local") (listed (parameter 11 15 x_word ∷ [])) 18
    (if_only (at 20) (var_is 24 x_word 29 0) (int_of 32 36 y_word (expression (num 40 1)))
    ∷ returns (at 43) (Some (expression (var 50 y_word)))
    ∷ [])

-- `int local(int x) { if (x == 0) int y = 1; return y; } int main(){ for (int i = 0; i < 2; i++) local(i); }`:
-- a function begins with nothing defined, also the second time
abbrev pub left_by_return : List Stmt
left_by_return =
    for_loop (counted 67 2)
    (simple (call (calls 95 (codes "local") (var 101 i_word ∷ []))))
    ∷ []
