-- A tree that no text spells: a typedef names itself.
use Rattle.std.specs.Prelude.{ℕ, List, [], ◌∷◌, Some, None, codes}
use Rattle.mc_base.specs.declared.text.place.Place.{Place}
use Rattle.mc_c_syntax.specs.declared.ast.trees.Name.{Name}
use Rattle.mc_c_syntax.specs.declared.ast.trees.Base.TheVariants as Base
use Rattle.mc_c_syntax.specs.declared.ast.trees.Returned.TheVariants as Returned
use Rattle.mc_c_syntax.specs.Ast.Trees.{value, declaration, free, unnamed, of_base, typedef, function, UnitTree}

-- the place of this column in the one line, and names there
abbrev pub at : ℕ → Place
at column = record { line = 1; column = column }

abbrev pub named : List ℕ → ℕ → Name
named text column = record { text = text; place = at column }

-- `typedef A A; int main() { A x; free(x); }`
abbrev pub names_itself : UnitTree
names_itself =
    typedef (record {
      place = at 1;
      aliased = of_base (Base.Alias (named (codes "A") 9));
      declarators = record
          { pointer = None; name = named (codes "A") 11 } ∷ [];
    })
    ∷ function (record {
      static_place = None;
      returned = Returned.Value (Base.Int (at 14)) None;
      name = named (codes "main") 18;
      parameters = unnamed;
      body = Some (record {
        place = at 25;
        statements =
            declaration (record {
              base = Base.Alias (named (codes "A") 27);
              items = record
                  { declarator = record { pointer = None; name = named (codes "x") 29 }; value = None } ∷ [];
            })
            ∷ free (at 32) (value (record { name = named (codes "x") 37; fields = [] }))
            ∷ [];
      });
    })
    ∷ []
