-- A small program, to look at.
use Rattle.std.specs.Prelude.{ℕ, ◌-◌, [], ◌∷◌, Some, None, codes}
use Rattle.mc_base.specs.declared.text.place.Place.{Place}
use Rattle.mc_c_syntax.specs.declared.ast.trees.Base.TheVariants as Base
use Rattle.mc_c_syntax.specs.declared.ast.trees.Declarator.{Declarator}
use Rattle.mc_c_syntax.specs.declared.ast.trees.Returned.TheVariants as Returned
use Rattle.mc_c_syntax.specs.Ast.Trees.{Stmt, declares, declaration, block, plain, input, if_else, for_loop, then, no_more, listed, function, UnitTree}

-- the place of this column in the one line
abbrev pub at : ℕ → Place
at column = record { line = 1; column = column }

-- `x` here
abbrev pub x_at : ℕ → Declarator
x_at column = record { pointer = None; name = record { text = codes "x"; place = at column } }

-- `int x;`
abbrev pub declares_x : ℕ → Stmt
declares_x column = declaration (record
    { base = Base.Int (at (column - 4)); items = record { declarator = x_at column; value = None } ∷ [] })

-- `int f(int x) { if (input()) int x; else { int x; } for (int x;;) int x; }`, with its `x` at these columns
abbrev pub program_at : (parameter first second third fourth : ℕ) → UnitTree
program_at parameter first second third fourth =
    function (record {
      static_place = None;
      returned = Returned.Value (Base.Int (at 1)) None;
      name = record { text = codes "f"; place = at 5 };
      parameters = listed (record { base = Base.Int (at 7); declarator = x_at parameter } ∷ []);
      body = Some (record {
        place = at 14;
        statements =
            if_else (at 16) (plain (input (at 20))) (declares_x first) (block (at 41) (then (declares_x second) no_more))
            ∷ for_loop (record {
              place = at 52;
              start = declares (record {
                base = Base.Int (at 57);
                items = record { declarator = x_at third; value = None } ∷ [];
              });
              condition = None;
              last = None;
            }) (declares_x fourth)
            ∷ [];
      });
    })
    ∷ []
