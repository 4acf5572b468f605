-- A small program, to look at.
use Rattle.std.specs.Prelude.{ℕ, [], ◌∷◌, Some, None, codes}
use Rattle.mc_base.specs.declared.text.place.Place.{Place}
use Rattle.mc_c_syntax.specs.declared.ast.trees.Name.{Name}
use Rattle.mc_c_syntax.specs.declared.ast.trees.Comparison.TheVariants as Comparison
use Rattle.mc_c_syntax.specs.declared.ast.trees.Base.TheVariants as Base
use Rattle.mc_c_syntax.specs.declared.ast.trees.Argument.TheVariants as Argument
use Rattle.mc_c_syntax.specs.declared.ast.trees.Returned.TheVariants as Returned
use Rattle.mc_c_syntax.specs.Ast.Trees.{Left, number, value, minus, compare, expression, result_of, assign, add, performs, declaration, simple, assert_shape, for_loop, returns, unnamed, function, UnitTree}

-- the place of this column in the one line
abbrev pub at : ℕ → Place
at column = record { line = 1; column = column }

-- `x` here, as a name and as a variable
abbrev pub x_at : ℕ → Name
x_at column = record { text = codes "x"; place = at column }

abbrev pub variable_at : ℕ → Left
variable_at column = record { name = x_at column; fields = [] }

-- `int f() { int x = 10; for (x = 20; x < 30;) x += -40; assert_shape(s, x, -50); return f(60); }`, with these numbers in place of its own
abbrev pub program_of : (first second third fourth fifth sixth : ℕ) → UnitTree
program_of first second third fourth fifth sixth =
    function (record {
      static_place = None;
      returned = Returned.Value (Base.Int (at 1)) None;
      name = record { text = codes "f"; place = at 5 };
      parameters = unnamed;
      body = Some (record {
        place = at 9;
        statements =
            declaration (record {
              base = Base.Int (at 11);
              items = record {
                declarator = record { pointer = None; name = x_at 15 };
                value = Some
                    (expression (number first (at 19)));
              } ∷ [];
            })
            ∷ for_loop
            (record {
              place = at 23;
              start = performs (assign (variable_at 28) (expression (number second (at 32))));
              condition = Some (compare Comparison.Below (value (variable_at 36)) (number third (at 40)));
              last = None;
            })
            (simple (add (variable_at 45) (minus (at 50) (number fourth (at 51)))))
            ∷ assert_shape (at 55) (record { text = codes "s"; place = at 68 }) (Argument.Name (x_at 71))
            (Argument.Negative fifth (at 74) ∷ [])
            ∷ returns (at 80) (Some (result_of
            (record {
              function = record { text = codes "f"; place = at 87 };
              arguments = number sixth (at 89)
                  ∷ [];
            })))
            ∷ [];
      });
    })
    ∷ []
