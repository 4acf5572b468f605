-- What completes a declaration after its base.
use Rattle.std.specs.Prelude.{◌≡◌, ℕ, List, [], ◌∷◌, ◌++◌, Some, None, codes, map}
use Rattle.mc_base.specs.declared.text.token.Token.{Token}
use Rattle.mc_c_syntax.specs.declared.ast.trees.Base.{Base}
use Rattle.mc_c_syntax.specs.declared.ast.trees.Declarator.{Declarator}
use Rattle.mc_c_syntax.specs.Ast.Trees.{InitialTree, DeclarationTree}
use Rattle.mc_c_syntax.specs.Ast.Names.{Tokens, IsMark, IsName, name_of}
use Rattle.mc_c_syntax.specs.Ast.Grammar.{IsInitial, MoreInitials}
use Rattle.mc_c_syntax.specs.Ast.Readers.{Takes, Closes, IsStuckAt}
use Rattle.mc_c_syntax.specs.Ast.Views.{initial_of, declaration_of}
use Rattle.mc_c_parse_simple.specs.declared.declaration.DeclarationReader.{DeclarationReader}
use Rattle.mc_c_parse_simple.specs.declared.declaration.DeclarationState.{DeclarationState}
use Rattle.mc_c_parse_simple.specs.declared.declaration.DeclarationMove.{DeclarationMove}
use Rattle.mc_c_parse_simple.specs.declared.declaration.DeclarationStep.{DeclarationStep}
use Rattle.mc_c_parse_expr.specs.Turns.{InTurn}
use Rattle.mc_c_parse_simple.specs.Phrases.{Next, Either}
use Rattle.mc_c_parse_simple.specs.Rights.{Rights, CompletesRight}

-- after a declarator and its value, with those up to it
pub data BehindInitials (aliases : List (List ℕ)) (base : Base) (is : List InitialTree) : Tokens → Tokens → DeclarationTree → Type 0 where
  behind_initials : {all : List InitialTree} {semicolon : Token} {tokens rest : Tokens}
      → MoreInitials aliases is tokens all (semicolon ∷ rest) → IsMark (codes ";") semicolon
      → BehindInitials aliases base is tokens rest (record { base = base; items = all })

-- a declarator, perhaps with its value
abbrev pub Initials : List (List ℕ) → Tokens → Tokens → InitialTree → Type 0
Initials aliases tokens rest i = IsInitial aliases i tokens rest

-- after one more
abbrev pub BehindInitial : List (List ℕ) → Base → List InitialTree → InitialTree → Tokens → Tokens → DeclarationTree → Type 0
BehindInitial aliases base is i = BehindInitials aliases base (is ++ i ∷ [])

-- after a base, or a `,`
abbrev pub BehindComma : List (List ℕ) → Base → List InitialTree → Tokens → Tokens → DeclarationTree → Type 0
BehindComma aliases base is = InTurn (Initials aliases) (BehindInitial aliases base is)

-- after its base
abbrev pub BehindBase : List (List ℕ) → Base → Tokens → Tokens → DeclarationTree → Type 0
BehindBase aliases base = BehindComma aliases base []

-- after a declarator's name
abbrev pub BehindDeclarator : List (List ℕ) → Base → List InitialTree → Declarator → Tokens → Tokens → DeclarationTree → Type 0
BehindDeclarator aliases base is d = Either (BehindInitial aliases base is (record {
  declarator = d;
  value = None;
})) (Next (IsMark (codes "=")) (λ mark. InTurn (Rights aliases)
    (λ r. BehindInitial aliases base is (record { declarator = d; value = Some r }))))

-- the tokens complete what was read of a declaration
abbrev pub CompletesDeclarationState : List (List ℕ) → Base → List InitialTree → DeclarationState → Tokens → Tokens
    → DeclarationTree → Type 0
CompletesDeclarationState aliases base is DeclarationState.Start = BehindComma aliases base is
CompletesDeclarationState aliases base is (DeclarationState.Pointer place) = Next IsName
    (λ name. BehindDeclarator aliases base is (record { pointer = Some place; name = name_of name }))
CompletesDeclarationState aliases base is (DeclarationState.Named d) = BehindDeclarator aliases base is d
CompletesDeclarationState aliases base is (DeclarationState.Value d reader) = InTurn (CompletesRight aliases reader)
    (λ r. BehindInitial aliases base is (record { declarator = d; value = Some r }))

abbrev pub CompletesDeclaration : List (List ℕ) → DeclarationReader → Tokens → Tokens → DeclarationTree → Type 0
CompletesDeclaration aliases reader = CompletesDeclarationState aliases reader.base (map initial_of reader.items.items) reader.state

-- what is read is the value of a declarator
abbrev pub IsInInitialState : DeclarationState → Type 0
IsInInitialState DeclarationState.Start = ⊥
IsInInitialState (DeclarationState.Pointer place) = ⊥
IsInInitialState (DeclarationState.Named d) = ⊥
IsInInitialState (DeclarationState.Value d reader) = Unit {0}

abbrev pub IsInInitial : DeclarationReader → Type 0
IsInInitial reader = IsInInitialState reader.state

-- what a step by value says
abbrev pub IsDeclarationMove : List (List ℕ) → (Tokens → Tokens → DeclarationTree → Type 0) → Token → DeclarationMove → Type 0
IsDeclarationMove aliases now token (DeclarationMove.Taken reader) = Takes [] now (CompletesDeclaration aliases reader) token
IsDeclarationMove aliases now token (DeclarationMove.Closed d) = Closes now token (declaration_of d)
IsDeclarationMove aliases now token DeclarationMove.Stuck = IsStuckAt now token

-- what a step of the reader says, of what completes it now and after the token
abbrev pub IsDeclarationStep : (Tokens → Tokens → DeclarationTree → Type 0)
    → (Tokens → Tokens → DeclarationTree → Type 0) → Token → DeclarationStep → Type 0
IsDeclarationStep now behind token DeclarationStep.Taken = Takes [] now behind token
IsDeclarationStep now behind token (DeclarationStep.Closed d) = Closes now token (declaration_of d)
IsDeclarationStep now behind token DeclarationStep.Stuck = IsStuckAt now token

-- the step by value, done in place
abbrev pub IsDeclarationPut : DeclarationMove → DeclarationReader → DeclarationStep → Type 0
IsDeclarationPut (DeclarationMove.Taken reader) behind step = (behind ≡ reader) × (step ≡ DeclarationStep.Taken)
IsDeclarationPut (DeclarationMove.Closed d) behind step = step ≡ DeclarationStep.Closed d
IsDeclarationPut DeclarationMove.Stuck behind step = step ≡ DeclarationStep.Stuck
