-- Small programs, and what their runs come to.
use Rattle.std.specs.Prelude.{ℕ, List, [], ◌∷◌, Option, Some, None, codes}
use Rattle.mc_base.specs.declared.text.place.Place.{Place}
use Rattle.mc_flow.specs.Runs.{Reaches, Final}
use Rattle.mc_flow.specs.Heap.Choices.{Choice}
use Rattle.mc_c_syntax.specs.declared.ast.trees.Name.{Name}
use Rattle.mc_c_syntax.specs.declared.ast.trees.Base.{Base}
use Rattle.mc_c_syntax.specs.declared.ast.trees.Returned.TheVariants as Returned
use Rattle.mc_c_syntax.specs.declared.ast.trees.Size.TheVariants as Size
use Rattle.mc_c_syntax.specs.declared.ast.trees.Comparison.TheVariants as Comparison
use Rattle.mc_c_syntax.specs.Ast.Trees.{Left, Expr, number, input, value, plus, plain, compare, negation, both, either}
use Rattle.mc_c_syntax.specs.Ast.Trees.{CallTree, Right, expression, result_of, allocation, assign, call, nothing, declares}
use Rattle.mc_c_syntax.specs.Ast.Trees.{Stmt, declaration, block, empty, simple, assert, assume, if_only, if_else}
use Rattle.mc_c_syntax.specs.Ast.Trees.{while_loop, do_loop, for_loop, break_loop, continue_loop, returns, no_more, then}
use Rattle.mc_c_syntax.specs.Ast.Trees.{unnamed, listed, FunctionTree, ItemTree, structure, function, UnitTree}
use Rattle.mc_semantics.specs.Steps.{Step, start, program_of}

-- the place of a token by its number
abbrev pub at : ℕ → Place
at n = record { line = 1; column = n }

abbrev pub name : ℕ → List ℕ → Name
name n text = record { text = text; place = at n }

abbrev pub variable : ℕ → List ℕ → Left
variable n text = record { name = name n text; fields = [] }

-- `int x = e;` and `int x;`
abbrev pub int_is : ℕ → List ℕ → Option Right → Stmt
int_is n text right =
    declaration (record {
      base = Base.Int (at n);
      items = record
          { declarator = record { pointer = None; name = name n text }; value = right } ∷ [];
    })

-- `int main() { .. }`
abbrev pub main_of : List Stmt → FunctionTree
main_of ss =
    record {
      static_place = None;
      returned = Returned.Value (Base.Int (at 0)) None;
      name = name 0
          (codes "main");
      parameters = unnamed;
      body = Some (record { place = at 0; statements = ss });
    }

-- words
abbrev pub x_word : List ℕ
x_word = codes "x"

abbrev pub p_word : List ℕ
p_word = codes "p"

-- `x`, `p->field`, a number and a right side of them
abbrev pub var : ℕ → List ℕ → Expr
var n text = value (variable n text)

abbrev pub behind : ℕ → List ℕ → List ℕ → Left
behind n text field = record { name = name n text; fields = name n field ∷ [] }

abbrev pub num : ℕ → ℕ → Expr
num n k = number k (at n)

-- `int x = 3; x = 4; { ; } return x;`
abbrev pub assigning : List Stmt
assigning =
    int_is 1 x_word (Some (expression (num 2 3)))
    ∷ simple (assign (variable 3 x_word) (expression (num 4 4)))
    ∷ block (at 5) (then (empty (at 6)) no_more)
    ∷ returns (at 7) (Some (expression (var 8 x_word)))
    ∷ []

-- `int x; int y = x;`: y's declarator takes an undefined value
abbrev pub undefined_value : List Stmt
undefined_value = int_is 1 x_word None ∷ int_is 2 (codes "y") (Some (expression (var 3 x_word))) ∷ []

-- `int x = input(); if (x > 5 && x != 7) x = 8; else x = 0; assert(x == 8 || !x);`
abbrev pub choosing : List Stmt
choosing =
    int_is 1 x_word (Some (expression (input (at 2))))
    ∷ if_else (at 3) (both (compare Comparison.Above (var 4 x_word) (num 5 5)) (compare Comparison.Unequal (var 6 x_word) (num 7 7)))
    (simple (assign (variable 8 x_word) (expression (num 9 8)))) (simple (assign (variable 10 x_word) (expression (num 11 0))))
    ∷ assert (at 13) (either (compare Comparison.Equal (var 14 x_word) (num 15 8)) (negation (at 16) (plain (var 17 x_word))))
    ∷ assert (at 18) (compare Comparison.Equal (var 19 x_word) (num 20 8))
    ∷ []

-- `int x; if (0 && x) ; if (1 || x) ; if (!x) ;`: the right sides are left alone, and the last test takes x
abbrev pub stopping_early : List Stmt
stopping_early =
    int_is 1 x_word None
    ∷ if_only (at 2) (both (plain (num 3 0)) (plain (var 4 x_word))) (empty (at 5))
    ∷ if_only (at 6) (either (plain (num 7 1)) (plain (var 8 x_word))) (empty (at 9))
    ∷ if_only (at 10) (negation (at 11) (plain (var 12 x_word))) (empty (at 13))
    ∷ []

-- `assume(1 >= 2); assert(0);`
abbrev pub assuming : List Stmt
assuming = assume (at 1) (compare Comparison.AtLeast (num 2 1) (num 3 2)) ∷ assert (at 4) (plain (num 5 0)) ∷ []

-- `int x = 0; while (x < 2) { if (x == 0) { x = 1; continue; } break; }`
abbrev pub whiling : List Stmt
whiling =
    int_is 1 x_word (Some (expression (num 2 0)))
    ∷ while_loop (at 3) (compare Comparison.Below (var 4 x_word) (num 5 2))
    (block (at 6)
    (then (if_only (at 7) (compare Comparison.Equal (var 8 x_word) (num 9 0))
    (block (at 10) (then (simple (assign (variable 11 x_word) (expression (num 12 1))))
    (then (continue_loop (at 13)) no_more))))
    (then (break_loop (at 14)) no_more)))
    ∷ []

-- `do continue; while (0);`
abbrev pub doing : List Stmt
doing = do_loop (at 1) (continue_loop (at 2)) (plain (num 3 0)) ∷ []

-- `for (int x = 1; x; x = 0) { int x; } for (;;) break;`
abbrev pub turning : List Stmt
turning =
    for_loop
    (record {
      place = at 1;
      start = declares (record {
        base = Base.Int (at 2);
        items = record
            { declarator = record { pointer = None; name = name 3 x_word }; value = Some (expression (num 4 1)) }
            ∷ [];
      });
      condition = Some (plain (var 5 x_word));
      last = Some (assign (variable 6 x_word) (expression (num 6 0)));
    })
    (block (at 7) (then (int_is 8 x_word None) no_more))
    ∷ for_loop (record { place = at 9; start = nothing; condition = None; last = None }) (break_loop (at 10))
    ∷ []

-- ---- calls
-- `int f(int x) { while (1) { return x; } }`
abbrev pub same_again : FunctionTree
same_again =
    record {
      static_place = None;
      returned = Returned.Value (Base.Int (at 100)) None;
      name = name 100 (codes "f");
      parameters = listed (record { base = Base.Int (at 101); declarator = record { pointer = None; name = name 102 x_word } } ∷ []);
      body = Some (record {
        place = at 103;
        statements = while_loop (at 104) (plain (num 105 1))
            (block (at 106) (then (returns (at 107) (Some (expression (var 108 x_word)))) no_more)) ∷ [];
      });
    }

abbrev pub calls_f : ℕ → Expr → CallTree
calls_f n e = record { function = name n (codes "f"); arguments = e ∷ [] }

-- `int x = f(2); f(x); assert(x == 2); return f(x);`
abbrev pub calling : List Stmt
calling =
    int_is 1 x_word (Some (result_of (calls_f 2 (num 3 2))))
    ∷ simple (call (calls_f 4 (var 5 x_word)))
    ∷ assert (at 6) (compare Comparison.Equal (var 7 x_word) (num 8 2))
    ∷ returns (at 9) (Some (result_of (calls_f 10 (var 11 x_word))))
    ∷ []

-- ---- memory
-- `struct node { int data; struct node *next; };`
abbrev pub node_struct : ItemTree
node_struct =
    structure (record {
      place = at 200;
      name = name 200 (codes "node");
      fields =
          record { base = Base.Int (at 201); declarators = record { pointer = None; name = name 202 (codes "data") } ∷ [] }
          ∷ record {
            base = Base.Struct (at 203) (name 204 (codes "node"));
            declarators = record
                { pointer = Some (at 205); name = name 206 (codes "next") } ∷ [];
          }
          ∷ [];
    })

abbrev pub allocates : ℕ → Right
allocates n = allocation (record { cast = None; place = at n; size = Size.OfType (at n) (Base.Struct (at n) (name n (codes "node"))) })

-- `struct node *p = malloc(sizeof(struct node));`
abbrev pub node_is : ℕ → Option Right → Stmt
node_is n right =
    declaration (record {
      base = Base.Struct (at n) (name n (codes "node"));
      items = record { declarator = record { pointer = Some (at n); name = name n p_word }; value = right } ∷ [];
    })

-- `struct node *p = malloc(sizeof(struct node)); int x; x = x + p->data;` with p null: the field is read before x is taken
abbrev pub reading_first : List Stmt
reading_first =
    node_is 1 (Some (allocates 2))
    ∷ int_is 3 x_word None
    ∷ simple (assign (variable 4 x_word) (expression (plus (var 5 x_word) (value (behind 6 p_word (codes "data"))))))
    ∷ []

-- the items of a program with these statements in `main`
abbrev pub unit_of : List Stmt → UnitTree
unit_of ss = node_struct ∷ function same_again ∷ function (main_of ss) ∷ []

-- a run of such a program comes to this within so many steps
abbrev pub Comes : List Stmt → ℕ → List Choice → Final → Type 0
Comes ss n choices f = Reaches (Step (program_of (unit_of ss) [])) n (start (program_of (unit_of ss) []) (main_of ss)) choices f
