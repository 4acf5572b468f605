-- Small programs, and what is left of them when their names are resolved.
use Rattle.std.specs.Prelude.{ℕ, List, [], ◌∷◌, Some, None, codes}
use Rattle.mc_base.specs.declared.plain.Kind.TheVariants.{Int as int_kind, Ptr as pointer_kind}
use Rattle.mc_c_syntax.specs.Ast.Trees as tree
use Rattle.mc_c_types.specs.Tables.{tables_of}
use Rattle.mc_semantics.specs.Examples.{at, x_word, p_word, int_is, var, num, behind, calls_f, allocates, node_is, unit_of}
use Rattle.mc_semantics.specs.Resolved.Programs.{Left, number, value, plain, expression, allocation, assign, call, nothing}
use Rattle.mc_semantics.specs.Resolved.Programs.{declares, declaration, block, simple, while_loop, for_loop, break_loop}
use Rattle.mc_semantics.specs.Resolved.Programs.{returns, Stmts, no_more, then, Local, Function, Program}
use Rattle.mc_semantics.specs.Resolved.Resolving.{resolved_program}

-- the resolved program of these statements in `main`, after a struct of two fields and a function `f`
abbrev pub resolved : List tree.Stmt → Program
resolved ss = resolved_program (tables_of (unit_of ss)) [] (codes "main")

-- a variable, and an `int` of this name at a column
abbrev pub local : ℕ → Left
local x = record { variable = x; fields = [] }

abbrev pub int_at : List ℕ → ℕ → Local
int_at name column = record { name = name; place = at column; kind = int_kind }

-- `int f(int x) { while (1) { return x; } }`
abbrev pub f_function : Function
f_function =
    record {
      name = codes "f";
      locals = int_at x_word 102 ∷ [];
      parameters = 1;
      result = Some int_kind;
      body = then (while_loop (at 104) (plain (at 105) (number 1))
          (block [] (then (returns (at 107) (Some (expression (value (local 0))))) no_more))) no_more;
    }

-- the program with this `main`
abbrev pub with_main : List Local → Stmts → Program
with_main locals body =
    record {
      functions = f_function ∷ record { name = codes "main"; locals = locals; parameters = 0; result = Some int_kind; body = body } ∷ [];
      entry = 1;
      defs = [];
    }

-- `int x = 1; { int x = x; } f(x);`: the inner variable is visible in its own value, and hidden again after its block
abbrev pub hiding : List tree.Stmt
hiding =
    int_is 1 x_word (Some (tree.expression (num 2 1)))
    ∷ tree.block (at 3) (tree.then (int_is 4 x_word (Some (tree.expression (var 5 x_word)))) tree.no_more)
    ∷ tree.simple (tree.call (calls_f 6 (var 7 x_word)))
    ∷ []

abbrev pub hiding_resolved : Program
hiding_resolved =
    with_main (int_at x_word 1 ∷ int_at x_word 4 ∷ [])
    (then (declaration (at 1) (record { variable = 0; value = Some (expression (number 1)) } ∷ []))
    (then (block (1 ∷ []) (then (declaration (at 4) (record { variable = 1; value = Some (expression (value (local 1))) } ∷ [])) no_more))
    (then (simple (record { place = at 6; action = call (record { function = 0; arguments = value (local 0) ∷ [] }) })) no_more)))

-- `for (int x = 1; x; x = 0) { int x; } for (;;) break;`
abbrev pub turning_resolved : Program
turning_resolved =
    with_main (int_at x_word 3 ∷ int_at x_word 8 ∷ [])
    (then
    (for_loop
    (record {
      place = at 1;
      start = declares (at 2) (record { variable = 0; value = Some (expression (number 1)) } ∷ []);
      condition = Some (plain (at 5) (value (local 0)));
      last = Some (record { place = at 6; action = assign (local 0) (expression (number 0)) });
      variables = 0 ∷ [];
    })
    (block (1 ∷ []) (then (declaration (at 8) (record { variable = 1; value = None } ∷ [])) no_more)))
    (then (for_loop (record { place = at 9; start = nothing; condition = None; last = None; variables = [] })
    (break_loop (at 10))) no_more))

-- `struct node *p = malloc(sizeof(struct node)); p->next = p;`
abbrev pub linking : List tree.Stmt
linking =
    node_is 1 (Some (allocates 2))
    ∷ tree.simple (tree.assign (behind 3 p_word (codes "next")) (tree.expression (var 5 p_word)))
    ∷ []

abbrev pub linking_resolved : Program
linking_resolved =
    with_main (record { name = p_word; place = at 1; kind = pointer_kind } ∷ [])
    (then (declaration (at 1) (record { variable = 0; value = Some (allocation 0 2) } ∷ []))
    (then (simple (record {
      place = at 3;
      action = assign
          (record { variable = 0; fields = record { shape = 0; field = 1 } ∷ [] })
          (expression (value (local 0)));
    })) no_more))
