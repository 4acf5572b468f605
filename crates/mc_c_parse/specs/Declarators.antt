-- What completes declarators.
use Rattle.std.specs.declared.alloc.Global.{Global}
use Rattle.std.specs.Prelude.{Vec, List, [], ◌∷◌, ◌++◌, Option, Some, None, codes}
use Rattle.mc_base.specs.declared.text.place.Place.{Place}
use Rattle.mc_base.specs.declared.text.token.Token.{Token}
use Rattle.mc_c_syntax.specs.declared.ast.trees.Declarator.{Declarator}
use Rattle.mc_c_syntax.specs.Ast.Names.{Tokens, IsMark, IsName, name_of}
use Rattle.mc_c_syntax.specs.Ast.Grammar.{IsDeclarator, MoreDeclarators}
use Rattle.mc_c_parse.specs.declared.step.Step.{Step}
use Rattle.mc_c_parse.specs.declared.declarator.DeclaratorReader.{DeclaratorReader}
use Rattle.mc_c_parse.specs.declared.declarators.DeclaratorsReader.{DeclaratorsReader}
use Rattle.mc_c_parse.specs.Threads.{Then, StepIs}

-- a declarator's name, after the `*` at this place
pub data IsPointed (place : Place) : Tokens → Tokens → Declarator → Type 0 where
  pointed : {name : Token} {rest : Tokens} → IsName name
      → IsPointed place (name ∷ rest) rest (record { pointer = Some place; name = name_of name })

-- the tokens, up to the rest, complete what the reader has read to this declarator
abbrev pub CompletesDeclarator : DeclaratorReader → Tokens → Tokens → Declarator → Type 0
CompletesDeclarator DeclaratorReader.Start tokens rest d = IsDeclarator d tokens rest
CompletesDeclarator (DeclaratorReader.Star place) tokens rest d = IsPointed place tokens rest d

-- after these declarators: more of them, and a `;`
abbrev pub EndsDeclarators : List Declarator → Tokens → Tokens → List Declarator → Type 0
EndsDeclarators ds tokens rest all = (semicolon : Token) × MoreDeclarators ds tokens all (semicolon ∷ rest) × IsMark (codes ";") semicolon

-- after these declarators, and what has been read of another one
abbrev pub DeclaratorsFrom : List Declarator → Option DeclaratorReader → Tokens → Tokens → List Declarator → Type 0
DeclaratorsFrom ds None = EndsDeclarators ds
DeclaratorsFrom ds (Some reader) = Then (CompletesDeclarator reader) (λ d. EndsDeclarators (ds ++ d ∷ []))

-- one declarator or more, and a `;`
abbrev pub IsDeclaratorsEnd : Tokens → Tokens → List Declarator → Type 0
IsDeclaratorsEnd = DeclaratorsFrom [] (Some DeclaratorReader.Start)

abbrev pub CompletesDeclarators : DeclaratorsReader → Tokens → Tokens → List Declarator → Type 0
CompletesDeclarators reader = DeclaratorsFrom reader.done.items reader.current

abbrev pub DeclaratorStepIs : DeclaratorReader → Token → Step DeclaratorReader Declarator → Type 0
DeclaratorStepIs reader token step = StepIs CompletesDeclarator (λ d. d) (CompletesDeclarator reader) token step

abbrev pub DeclaratorsStepIs : List Declarator → Option DeclaratorReader → Token → Step DeclaratorsReader (Vec Declarator Global) → Type 0
DeclaratorsStepIs ds current token step = StepIs CompletesDeclarators (λ v. v.items) (DeclaratorsFrom ds current) token step
