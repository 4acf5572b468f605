-- Small programs about memory, numbers, blocks and shapes.
use Rattle.std.specs.Prelude.{ℕ, List, [], ◌∷◌, Some, None, codes}
use Rattle.mc_flow.specs.Runs.{Reaches, Final}
use Rattle.mc_flow.specs.Heap.Choices.{Choice}
use Rattle.mc_flow.specs.Defs.Examples.{defs}
use Rattle.mc_c_syntax.specs.declared.ast.trees.Argument.TheVariants as Argument
use Rattle.mc_c_syntax.specs.declared.ast.trees.Base.{Base}
use Rattle.mc_c_syntax.specs.declared.ast.trees.Comparison.TheVariants as Comparison
use Rattle.mc_c_syntax.specs.declared.ast.trees.Returned.TheVariants as Returned
use Rattle.mc_c_syntax.specs.Ast.Trees.{Left, Expr, null, value, minus, parens, times, plus, difference, plain, compare}
use Rattle.mc_c_syntax.specs.Ast.Trees.{both, CallTree, expression, result_of, assign, add, subtract, increment, decrement}
use Rattle.mc_c_syntax.specs.Ast.Trees.{increment_first, decrement_first, call, performs, Stmt, block, simple, free, assert}
use Rattle.mc_c_syntax.specs.Ast.Trees.{assume_shape, assert_shape, assert_empty, if_only, while_loop, for_loop, break_loop}
use Rattle.mc_c_syntax.specs.Ast.Trees.{continue_loop, returns, no_more, then, listed, FunctionTree, function, UnitTree}
use Rattle.mc_semantics.specs.Steps.{Step, start, program_of}
use Rattle.mc_semantics.specs.Examples.{at, name, variable, x_word, p_word, int_is, main_of, var, behind, num, allocates, node_is, unit_of}

-- ---- memory
-- `p->data`
abbrev pub data_at : ℕ → Left
data_at n = behind n p_word (codes "data")

-- `p->data = e;` and `free(p);`
abbrev pub sets_data : ℕ → Expr → Stmt
sets_data n e = simple (assign (data_at n) (expression e))

abbrev pub frees : ℕ → ℕ → Stmt
frees n m = free (at n) (var m p_word)

-- `assert(a == b);`
abbrev pub is_equal : ℕ → Expr → Expr → Stmt
is_equal n a b = assert (at n) (compare Comparison.Equal a b)

-- `struct node *p = malloc(sizeof(struct node)); p->data = 5; int x = p->data; assert(x == 5); free(p);`
abbrev pub keeping : List Stmt
keeping =
    node_is 1 (Some (allocates 2))
    ∷ sets_data 3 (num 4 5)
    ∷ int_is 5 x_word (Some (expression (value (data_at 6))))
    ∷ is_equal 7 (var 8 x_word) (num 9 5)
    ∷ frees 10 11
    ∷ []

-- `struct node *p = malloc(sizeof(struct node)); int x = p->data;`
abbrev pub reading_undefined : List Stmt
reading_undefined = node_is 1 (Some (allocates 2)) ∷ int_is 3 x_word (Some (expression (value (data_at 4)))) ∷ []

-- `struct node *p = malloc(sizeof(struct node)); p->data = 5;`
abbrev pub storing_at_null : List Stmt
storing_at_null = node_is 1 (Some (allocates 2)) ∷ sets_data 3 (num 4 5) ∷ []

-- `struct node *p = malloc(sizeof(struct node)); p->data = 5; free(p); assert(p->data == 5);`
abbrev pub reading_freed : List Stmt
reading_freed =
    node_is 1 (Some (allocates 2)) ∷ sets_data 3 (num 4 5) ∷ frees 5 6 ∷ is_equal 7 (value (data_at 8)) (num 9 5) ∷ []

-- `struct node *p = malloc(sizeof(struct node)); free(p); free(p);`
abbrev pub freeing_twice : List Stmt
freeing_twice = node_is 1 (Some (allocates 2)) ∷ frees 3 4 ∷ frees 5 6 ∷ []

-- `free(NULL);`
abbrev pub freeing_null : List Stmt
freeing_null = free (at 1) (null (at 2)) ∷ []

-- ---- numbers
-- `struct node *p = malloc(sizeof(struct node)); p->data = 5; p->data += 3; p->data++; ++p->data; p->data -= 1; p->data--; --p->data; assert(p->data == 7);`
abbrev pub counting : List Stmt
counting =
    node_is 1 (Some (allocates 2))
    ∷ sets_data 3 (num 4 5)
    ∷ simple (add (data_at 5) (num 6 3))
    ∷ simple (increment (data_at 7))
    ∷ simple (increment_first (at 8) (data_at 9))
    ∷ simple (subtract (data_at 10) (num 11 1))
    ∷ simple (decrement (data_at 12))
    ∷ simple (decrement_first (at 13) (data_at 14))
    ∷ is_equal 15 (value (data_at 16)) (num 17 7)
    ∷ []

-- `int x = 2147483647; x = x + 1; assert(x == -2147483647 - 1); x = x - 1; assert(x == 2147483647);`
abbrev pub wrapping : List Stmt
wrapping =
    int_is 1 x_word (Some (expression (num 2 2147483647)))
    ∷ simple (assign (variable 3 x_word) (expression (plus (var 4 x_word) (num 5 1))))
    ∷ is_equal 6 (var 7 x_word) (difference (minus (at 8) (num 9 2147483647)) (num 10 1))
    ∷ simple (assign (variable 11 x_word) (expression (difference (var 12 x_word) (num 13 1))))
    ∷ is_equal 14 (var 15 x_word) (num 16 2147483647)
    ∷ []

-- `int x = (2 + 3) * -4; assert(x == -20);`
abbrev pub computing : List Stmt
computing =
    int_is 1 x_word (Some (expression (times (parens (at 2) (plus (num 3 2) (num 4 3))) (minus (at 5) (num 6 4)))))
    ∷ is_equal 7 (var 8 x_word) (minus (at 9) (num 10 20))
    ∷ []

-- ---- empty heaps
-- `assert_empty();`
abbrev pub empty_at_first : List Stmt
empty_at_first = assert_empty (at 1) ∷ []

-- `struct node *p = malloc(sizeof(struct node)); assert_empty();`
abbrev pub not_empty : List Stmt
not_empty = node_is 1 (Some (allocates 2)) ∷ assert_empty (at 3) ∷ []

-- `struct node *p = malloc(sizeof(struct node)); free(p); assert_empty();`
abbrev pub empty_again : List Stmt
empty_again = node_is 1 (Some (allocates 2)) ∷ frees 3 4 ∷ assert_empty (at 5) ∷ []

-- ---- blocks
abbrev pub i_word : List ℕ
i_word = codes "i"

abbrev pub y_word : List ℕ
y_word = codes "y"

-- `int i = 0; while (i < 2) { int x; if (i == 0) x = 5; assert(x == 5); i++; }`: the second turn's x is undefined
abbrev pub forgetting : List Stmt
forgetting =
    int_is 1 i_word (Some (expression (num 2 0)))
    ∷ while_loop (at 3) (compare Comparison.Below (var 4 i_word) (num 5 2))
    (block (at 6)
    (then (int_is 7 x_word None)
    (then (if_only (at 8) (compare Comparison.Equal (var 9 i_word) (num 10 0))
    (simple (assign (variable 11 x_word) (expression (num 11 5)))))
    (then (is_equal 12 (var 13 x_word) (num 14 5))
    (then (simple (increment (variable 15 i_word)))
    no_more)))))
    ∷ []

-- `int g(int x) { int y = x; { int x = 7; while (1) { { return x + y; } } } }`
abbrev pub deep : FunctionTree
deep =
    record {
      static_place = None;
      returned = Returned.Value (Base.Int (at 100)) None;
      name = name 100 (codes "g");
      parameters = listed (record { base = Base.Int (at 101); declarator = record { pointer = None; name = name 102 x_word } } ∷ []);
      body = Some (record {
        place = at 103;
        statements =
            int_is 104 y_word (Some (expression (var 105 x_word)))
            ∷ block (at 106)
            (then (int_is 107 x_word (Some (expression (num 108 7))))
            (then (while_loop (at 109) (plain (num 110 1))
            (block (at 111) (then
            (block (at 112)
            (then (returns (at 113)
            (Some (expression (plus (var 114 x_word) (var 115 y_word))))) no_more)) no_more)))
            no_more))
            ∷ [];
      });
    }

-- `int h(int x) { if (x) return 1; }`
abbrev pub perhaps : FunctionTree
perhaps =
    record {
      static_place = None;
      returned = Returned.Value (Base.Int (at 120)) None;
      name = name 120 (codes "h");
      parameters = listed (record { base = Base.Int (at 121); declarator = record { pointer = None; name = name 122 x_word } } ∷ []);
      body = Some (record {
        place = at 123;
        statements = if_only (at 124) (plain (var 125 x_word))
            (returns (at 126) (Some (expression (num 127 1)))) ∷ [];
      });
    }

abbrev pub calls_h : ℕ → Expr → CallTree
calls_h n e = record { function = name n (codes "h"); arguments = e ∷ [] }

-- `h(0); int x = h(0);`: a result that is missing may be dropped, but not taken
abbrev pub missing_result : List Stmt
missing_result = simple (call (calls_h 1 (num 2 0))) ∷ int_is 3 x_word (Some (result_of (calls_h 4 (num 5 0)))) ∷ []

-- `int i; for (i = 0; i < 2; i++) { if (i == 0) continue; break; } assert(i == 1);`
abbrev pub going_on : List Stmt
going_on =
    int_is 1 i_word None
    ∷ for_loop
    (record {
      place = at 2;
      start = performs (assign (variable 3 i_word) (expression (num 4 0)));
      condition = Some (compare Comparison.Below (var 5 i_word) (num 6 2));
      last = Some (increment (variable 7 i_word));
    })
    (block (at 8)
    (then (if_only (at 9) (compare Comparison.Equal (var 10 i_word) (num 11 0)) (continue_loop (at 12)))
    (then (break_loop (at 13))
    no_more)))
    ∷ is_equal 14 (var 15 i_word) (num 16 1)
    ∷ []

-- `int x = 2; int y = g(x); assert(y == 9 && x == 2);`
abbrev pub deeply_returning : List Stmt
deeply_returning =
    int_is 1 x_word (Some (expression (num 2 2)))
    ∷ int_is 3 y_word (Some (result_of (record { function = name 4 (codes "g"); arguments = var 5 x_word ∷ [] })))
    ∷ assert (at 6) (both (compare Comparison.Equal (var 7 y_word) (num 8 9)) (compare Comparison.Equal (var 9 x_word) (num 10 2)))
    ∷ []

-- the items of a program with these two functions and these statements in `main`
abbrev pub deep_unit : List Stmt → UnitTree
deep_unit ss = function deep ∷ function perhaps ∷ function (main_of ss) ∷ []

-- a run of such a program comes to this within so many steps
abbrev pub ComesWithDeep : List Stmt → ℕ → List Choice → Final → Type 0
ComesWithDeep ss n choices f = Reaches (Step (program_of (deep_unit ss) [])) n (start (program_of (deep_unit ss) []) (main_of ss)) choices f

-- ---- shapes
abbrev pub list_word : List ℕ
list_word = codes "list"

-- `struct node *p; assume_shape(list, p); assert_shape(list, p);`
abbrev pub assuming_list : List Stmt
assuming_list =
    node_is 1 None
    ∷ assume_shape (at 2) (name 3 list_word) (name 4 p_word) []
    ∷ assert_shape (at 5) (name 6 list_word) (Argument.Name (name 7 p_word)) []
    ∷ []

-- `struct node *p = malloc(sizeof(struct node)); assert_shape(list, p);`
abbrev pub asserting_no_list : List Stmt
asserting_no_list = node_is 1 (Some (allocates 2)) ∷ assert_shape (at 3) (name 4 list_word) (Argument.Name (name 5 p_word)) [] ∷ []

-- a run comes to this within so many steps where `list` is a list of the program's nodes
abbrev pub ComesWithLists : List Stmt → ℕ → List Choice → Final → Type 0
ComesWithLists ss n choices f = Reaches (Step (program_of (unit_of ss) defs)) n
    (start (program_of (unit_of ss) defs) (main_of ss)) choices f
