-- Typedefs that name what stands before them.
use Rattle.std.specs.Prelude.{ℕ, List, [], ◌∷◌, ◌++◌, IsTrue}
use Rattle.mc_c_syntax.specs.declared.ast.trees.Base.{Base}
use Rattle.mc_c_syntax.specs.Ast.Grammar.{introduced}
use Rattle.mc_c_syntax.specs.Ast.Names.{is_in}
use Rattle.mc_c_syntax.specs.Ast.Trees.{AliasedTree, of_base, of_struct, ItemTree, structure, typedef, function, UnitTree}

-- a base that is named is one of these
abbrev pub IsKnownBase : List (List ℕ) → Base → Type 0
IsKnownBase names (Base.Int p) = Unit {0}
IsKnownBase names (Base.Struct p name) = Unit {0}
IsKnownBase names (Base.Alias name) = IsTrue (is_in names name.text)

abbrev pub IsKnownAliased : List (List ℕ) → AliasedTree → Type 0
IsKnownAliased names (of_base base) = IsKnownBase names base
IsKnownAliased names (of_struct s) = Unit {0}

abbrev pub IsKnownItem : List (List ℕ) → ItemTree → Type 0
IsKnownItem names (structure s) = Unit {0}
IsKnownItem names (typedef t) = IsKnownAliased names t.aliased
IsKnownItem names (function f) = Unit {0}

abbrev pub AreKnownItems : List (List ℕ) → List ItemTree → Type 0
AreKnownItems names [] = Unit {0}
AreKnownItems names (item ∷ items) = IsKnownItem names item × AreKnownItems (introduced item ++ names) items

-- what a typedef of a program makes a name of is introduced before it
abbrev pub HasKnownTypedefs : UnitTree → Type 0
HasKnownTypedefs unit = AreKnownItems [] unit
