-- Small programs, to look at.
use Rattle.std.specs.Prelude.{ℕ, List, [], ◌∷◌, None}
use Rattle.mc_base.specs.declared.text.place.Place.{Place}
use Rattle.mc_c_syntax.specs.declared.ast.trees.Base.TheVariants as Base
use Rattle.mc_c_syntax.specs.declared.ast.trees.Returned.TheVariants as Returned
use Rattle.mc_c_syntax.specs.Ast.Trees.{unnamed, function, UnitTree}

-- the place of this line and column
abbrev pub at : ℕ → ℕ → Place
at line column = record { line = line; column = column }

-- `int f();` on this line, with this name in place of f
abbrev pub prototype_of : ℕ → List ℕ → UnitTree
prototype_of line name =
    function (record {
      static_place = None;
      returned = Returned.Value (Base.Int (at line 1)) None;
      name = record
          { text = name; place = at line 5 };
      parameters = unnamed;
      body = None;
    }) ∷ []
