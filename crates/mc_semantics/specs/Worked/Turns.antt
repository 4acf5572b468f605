-- Small programs with loops within loops, and with calls. The places are the columns of the texts.
use Rattle.std.specs.Prelude.{ℕ, ◌+◌, List, [], ◌∷◌, Option, Some, None, codes}
use Rattle.mc_c_syntax.specs.declared.ast.trees.Argument.TheVariants as Argument
use Rattle.mc_c_syntax.specs.declared.ast.trees.Base.{Base}
use Rattle.mc_c_syntax.specs.declared.ast.trees.Comparison.TheVariants as Comparison
use Rattle.mc_c_syntax.specs.declared.ast.trees.Returned.TheVariants as Returned
use Rattle.mc_c_syntax.specs.Ast.Trees.{Left, null, value, plus, difference, plain, compare, both, Right, expression}
use Rattle.mc_c_syntax.specs.Ast.Trees.{result_of, increment, call, declares, Stmt, declaration, block, simple, assert}
use Rattle.mc_c_syntax.specs.Ast.Trees.{assume, assert_shape, if_only, while_loop, do_loop, for_loop, break_loop}
use Rattle.mc_c_syntax.specs.Ast.Trees.{continue_loop, returns, no_more, then, unnamed, listed, FunctionTree}
use Rattle.mc_semantics.specs.Examples.{at, name, variable, x_word, p_word, var, num}
use Rattle.mc_semantics.specs.Worked.Programs.{i_word, y_word}
use Rattle.mc_semantics.specs.Worked.Variables.{function_of, an_int, parameter, calls, item, ints, int_of, sets, var_is, counted}

abbrev pub n_word : List ℕ
n_word = codes "n"

abbrev pub a_word : List ℕ
a_word = codes "a"

abbrev pub b_word : List ℕ
b_word = codes "b"

-- `p->f`, and `struct node *p = r;`
abbrev pub behind : ℕ → ℕ → List ℕ → List ℕ → Left
behind n m text field = record { name = name n text; fields = name m field ∷ [] }

abbrev pub nodes : ℕ → ℕ → ℕ → List ℕ → Option Right → Stmt
nodes n star m text right =
    declaration (record {
      base = Base.Struct (at n) (name (n + 7) (codes "node"));
      items = record { declarator = record { pointer = Some (at star); name = name m text }; value = right } ∷ [];
    })

-- ---- turns of loops
-- `int main(){ int i = 0; do { i++; if (i == 1) continue; break; } while (i < 5); assert(i == 2); }`
abbrev pub going_on_in_do : List Stmt
going_on_in_do =
    int_of 13 17 i_word (expression (num 21 0))
    ∷ do_loop (at 24) (block (at 27) (then (simple (increment (variable 29 i_word)))
    (then (if_only (at 34) (var_is 38 i_word 43 1) (continue_loop (at 46)))
    (then (break_loop (at 56))
    no_more)))) (compare Comparison.Below (var 72 i_word) (num 76 5))
    ∷ assert (at 80) (var_is 87 i_word 92 2)
    ∷ []

-- `int main(){ for (int i = 0; i < 2; i++) { if (i == 0) continue; assert(i == 1); } }`
abbrev pub going_on_in_for : List Stmt
going_on_in_for =
    for_loop (counted 13 2)
    (block (at 41) (then (if_only (at 43) (var_is 47 i_word 52 0) (continue_loop (at 55)))
    (then (assert (at 65) (var_is 72 i_word 77 1))
    no_more)))
    ∷ []

-- `int main(){ int n = 0; for (int i = 0; i < 2; i++) { while (n < 1) { n++; continue; } n = 0; } assert(n == 0); }`
abbrev pub going_on_within : List Stmt
going_on_within =
    int_of 13 17 n_word (expression (num 21 0))
    ∷ for_loop (counted 24 2)
    (block (at 52) (then (while_loop (at 54) (compare Comparison.Below (var 61 n_word) (num 65 1))
    (block (at 68) (then (simple (increment (variable 70 n_word)))
    (then (continue_loop (at 75))
    no_more))))
    (then (sets 87 n_word (num 91 0))
    no_more)))
    ∷ assert (at 96) (var_is 103 n_word 108 0)
    ∷ []

-- `int main(){ int n = 0; for (int i = 0; i < 2; i++) { while (1) { n++; break; } } assert(n == 2); }`
abbrev pub broken_within : List Stmt
broken_within =
    int_of 13 17 n_word (expression (num 21 0))
    ∷ for_loop (counted 24 2)
    (block (at 52) (then (while_loop (at 54) (plain (num 61 1))
    (block (at 64) (then (simple (increment (variable 66 n_word)))
    (then (break_loop (at 71))
    no_more))))
    no_more))
    ∷ assert (at 82) (var_is 89 n_word 94 2)
    ∷ []

-- `int main(){ for (int i = 0; ; i++) if (i == 2) break; }`
abbrev pub without_condition : List Stmt
without_condition =
    for_loop
    (record {
      place = at 13;
      start = declares (ints 18 (item 22 i_word (Some (expression (num 26 0))) ∷ []));
      condition = None;
      last = Some (increment (variable 31 i_word));
    })
    (if_only (at 36) (var_is 40 i_word 45 2) (break_loop (at 48)))
    ∷ []

-- ---- calls
-- `int minus(int a, int b) { return a - b; }`
abbrev pub minus_function : FunctionTree
minus_function =
    function_of an_int 5 (codes "minus") (listed (parameter 11 15 a_word ∷ parameter 18 22 b_word ∷ []))
    25
    (returns (at 27) (Some (expression (difference (var 34 a_word) (var 38 b_word))))
    ∷ [])

-- `int minus(int a, int b) { return a - b; }
-- int main(){ int x = 7; int y = minus(x, 2 + 3); assert(y == 2 && x == 7); }`
abbrev pub result_in_order : List Stmt
result_in_order =
    int_of 55 59 x_word (expression (num 63 7))
    ∷ int_of 66 70 y_word (result_of (calls 74 (codes "minus") (var 80 x_word ∷ plus (num 83 2) (num 87 3) ∷ [])))
    ∷ assert (at 91) (both (var_is 98 y_word 103 2) (var_is 108 x_word 113 7))
    ∷ []

-- `int minus(int a, int b) { return a - b; } int main(){ int x; minus(1, x); }`
abbrev pub argument_undefined : List Stmt
argument_undefined =
    declaration (ints 55 (item 59 x_word None ∷ []))
    ∷ simple (call (calls 62 (codes "minus") (num 68 1 ∷ var 71 x_word ∷ [])))
    ∷ []

-- `int minus(int a, int b) { return a - b; } int main(){ struct node *p = NULL; int x; minus(x, p->data); }`:
-- all arguments are evaluated before the first is passed
abbrev pub field_before_argument : List Stmt
field_before_argument =
    nodes 55 67 68 p_word (Some (expression (null (at 72))))
    ∷ declaration (ints 78 (item 82 x_word None ∷ []))
    ∷ simple (call (calls 85 (codes "minus") (var 91 x_word ∷ value (behind 94 97 p_word (codes "data")) ∷ [])))
    ∷ []

-- `int none(int x) { if (x) return 1; }`
abbrev pub none_function : FunctionTree
none_function =
    function_of an_int 5 (codes "none") (listed (parameter 10 14 x_word ∷ [])) 17
    (if_only (at 19) (plain (var 23 x_word)) (returns (at 26) (Some (expression (num 33 1))))
    ∷ [])

-- `int none(int x) { if (x) return 1; } int main(){ none(0); return none(0); }`
abbrev pub returned_without : List Stmt
returned_without =
    simple (call (calls 50 (codes "none") (num 55 0 ∷ [])))
    ∷ returns (at 59) (Some (result_of (calls 66 (codes "none") (num 71 0 ∷ []))))
    ∷ []

-- `void stop(int x) { assume(x == 0); }`
abbrev pub stop_function : FunctionTree
stop_function =
    function_of (Returned.Void (at 1)) 6 (codes "stop") (listed (parameter 11 15 x_word ∷ [])) 18
    (assume (at 20) (var_is 27 x_word 32 0)
    ∷ [])

-- `void stop(int x) { assume(x == 0); } int main(){ stop(0); stop(1); assert(0 == 1); }`
abbrev pub stopped_within : List Stmt
stopped_within =
    simple (call (calls 50 (codes "stop") (num 55 0 ∷ [])))
    ∷ simple (call (calls 59 (codes "stop") (num 64 1 ∷ [])))
    ∷ assert (at 68) (compare Comparison.Equal (num 75 0) (num 80 1))
    ∷ []

-- `void spin() { while (1) break; }`
abbrev pub spin_function : FunctionTree
spin_function =
    function_of (Returned.Void (at 1)) 6 (codes "spin") unnamed 13
    (while_loop (at 15) (plain (num 22 1))
    (break_loop (at 25))
    ∷ [])

-- `void spin() { while (1) break; } int main(){ int n = 0; while (n < 2) { spin(); n++; } assert(n == 2); }`
abbrev pub called_in_turns : List Stmt
called_in_turns =
    int_of 46 50 n_word (expression (num 54 0))
    ∷ while_loop (at 57) (compare Comparison.Below (var 64 n_word) (num 68 2))
    (block (at 71) (then (simple (call (calls 73 (codes "spin") [])))
    (then (simple (increment (variable 81 n_word)))
    no_more)))
    ∷ assert (at 88) (var_is 95 n_word 100 2)
    ∷ []

-- `int find(int n) { for (int i = 0; i < 9; i++) { int x = i; while (1) { if (x == n) return x; break; } } }`
abbrev pub find_function : FunctionTree
find_function =
    function_of an_int 5 (codes "find") (listed (parameter 10 14 n_word ∷ [])) 17
    (for_loop (counted 19 9)
    (block (at 47) (then (int_of 49 53 x_word (expression (var 57 i_word)))
    (then (while_loop (at 60) (plain (num 67 1))
    (block (at 70) (then (if_only (at 72) (compare Comparison.Equal (var 76 x_word) (var 81 n_word))
    (returns (at 84) (Some (expression (var 91 x_word)))))
    (then (break_loop (at 94))
    no_more))))
    no_more)))
    ∷ [])

-- `int find(int n) { for (int i = 0; i < 9; i++) { int x = i; while (1) { if (x == n) return x; break; } } }
-- int main(){ int x = 4; int i = find(1); assert(x == 4 && i == 1); }`
abbrev pub returned_from_loops : List Stmt
returned_from_loops =
    int_of 119 123 x_word (expression (num 127 4))
    ∷ int_of 130 134 i_word (result_of (calls 138 (codes "find") (num 143 1 ∷ [])))
    ∷ assert (at 147) (both (var_is 154 x_word 159 4) (var_is 164 i_word 169 1))
    ∷ []

-- ---- shapes
-- `int main(){ struct node *p = NULL; int x; assert_shape(lenlist, p, x); }`: x is taken before the shape is looked for
abbrev pub asserting_of_undefined : List Stmt
asserting_of_undefined =
    nodes 13 25 26 p_word (Some (expression (null (at 30))))
    ∷ declaration (ints 36 (item 40 x_word None ∷ []))
    ∷ assert_shape (at 43) (name 56 (codes "lenlist")) (Argument.Name (name 65 p_word)) (Argument.Name (name 68 x_word) ∷ [])
    ∷ []
