-- Small programs with two blocks, and with values that are taken one before the other.
use Rattle.std.specs.Prelude.{ℕ, List, [], ◌∷◌, Some, None, codes}
use Rattle.mc_c_syntax.specs.declared.ast.trees.Argument.TheVariants as Argument
use Rattle.mc_c_syntax.specs.Ast.Trees.{Left, value, expression, result_of, assign, add, Stmt, simple, assume_shape, assert_shape}
use Rattle.mc_semantics.specs.Examples.{at, name, variable, x_word, p_word, int_is, var, num, calls_f, allocates, node_is}
use Rattle.mc_semantics.specs.Worked.Programs.{data_at, frees, is_equal, list_word}

-- `p->next` and `p->next->data`
abbrev pub next_at : ℕ → Left
next_at n = record { name = name n p_word; fields = name n (codes "next") ∷ [] }

abbrev pub next_data_at : ℕ → Left
next_data_at n = record { name = name n p_word; fields = name n (codes "next") ∷ name n (codes "data") ∷ [] }

-- ---- blocks after blocks
-- `struct node *p = malloc(sizeof(struct node)); p->next = malloc(sizeof(struct node)); p->next->data = 3; assert(p->next->data == 3); p = p->next; free(p);`
abbrev pub linking : List Stmt
linking =
    node_is 1 (Some (allocates 2))
    ∷ simple (assign (next_at 3) (allocates 4))
    ∷ simple (assign (next_data_at 5) (expression (num 6 3)))
    ∷ is_equal 7 (value (next_data_at 8)) (num 9 3)
    ∷ simple (assign (variable 10 p_word) (expression (value (next_at 11))))
    ∷ frees 12 13
    ∷ []

-- `struct node *p = malloc(sizeof(struct node)); p->data = f(2); assert(p->data == 2);`
abbrev pub result_in_field : List Stmt
result_in_field =
    node_is 1 (Some (allocates 2))
    ∷ simple (assign (data_at 3) (result_of (calls_f 4 (num 5 2))))
    ∷ is_equal 6 (value (data_at 7)) (num 8 2)
    ∷ []

-- ---- what is taken first
-- `struct node *p = malloc(sizeof(struct node)); int x; p->data = x;`: x is taken before p
abbrev pub storing_undefined : List Stmt
storing_undefined = node_is 1 (Some (allocates 2)) ∷ int_is 3 x_word None ∷ simple (assign (data_at 4) (expression (var 5 x_word))) ∷ []

-- `struct node *p = malloc(sizeof(struct node)); int x; p->next->data = x;`: p->next is read before x is taken
abbrev pub storing_behind : List Stmt
storing_behind = node_is 1 (Some (allocates 2)) ∷ int_is 3 x_word None ∷ simple (assign (next_data_at 4) (expression (var 5 x_word))) ∷ []

-- `struct node *p = malloc(sizeof(struct node)); int x; p->data += x;`: p->data is read before x is taken
abbrev pub adding_undefined : List Stmt
adding_undefined = node_is 1 (Some (allocates 2)) ∷ int_is 3 x_word None ∷ simple (add (data_at 4) (var 5 x_word)) ∷ []

-- `struct node *p; int x; assume_shape(lenlist, p, x);`: x is taken before the shape is chosen
abbrev pub assuming_undefined : List Stmt
assuming_undefined =
    node_is 1 None ∷ int_is 2 x_word None
    ∷ assume_shape (at 3) (name 4 (codes "lenlist")) (name 5 p_word) (Argument.Name (name 6 x_word) ∷ []) ∷ []

-- `struct node *p; assert_shape(list, p);`: p is taken before the shape is looked for
abbrev pub asserting_undefined : List Stmt
asserting_undefined = node_is 1 None ∷ assert_shape (at 2) (name 3 list_word) (Argument.Name (name 4 p_word)) [] ∷ []
