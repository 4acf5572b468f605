-- What completes a function.
use Rattle.std.specs.Prelude.{◌≡◌, ℕ, List, ◌∷◌, Option, Some, codes}
use Rattle.mc_base.specs.declared.text.place.Place.{Place}
use Rattle.mc_base.specs.declared.text.token.Token.{Token}
use Rattle.mc_c_syntax.specs.declared.ast.trees.Name.{Name}
use Rattle.mc_c_syntax.specs.declared.ast.trees.Base.{Base}
use Rattle.mc_c_syntax.specs.declared.ast.trees.Function.{Function}
use Rattle.mc_c_syntax.specs.declared.ast.trees.Returned.{Returned}
use Rattle.mc_c_syntax.specs.Ast.Names.{Tokens, IsMark, IsName, name_of}
use Rattle.mc_c_syntax.specs.Ast.Trees.{ParametersTree, FunctionTree, Stmt}
use Rattle.mc_c_syntax.specs.Ast.Views.{parameters_of, function_of}
use Rattle.mc_c_syntax.specs.Ast.Grammar.{IsStar, IsReturned, IsBody}
use Rattle.mc_c_parse_body.specs.Bodies.{CompletesBody}
use Rattle.mc_c_parse.specs.declared.header.Header.{Header}
use Rattle.mc_c_parse.specs.declared.header.HeaderReader.{HeaderReader}
use Rattle.mc_c_parse.specs.declared.function.FunctionReader.{FunctionReader}
use Rattle.mc_c_parse.specs.declared.step.Step.{Step}
use Rattle.mc_c_parse.specs.declared.step.Took.{Took}
use Rattle.mc_c_parse.specs.Threads.{Then, Gives, StepIs, TookIs}
use Rattle.mc_c_parse.specs.Bases.{CompletesBase}
use Rattle.mc_c_parse.specs.Parameters.{IsParametersEnd, CompletesParameters}

-- what a function gives, its name, and a `(`
pub data IsHeader (aliases : List (List ℕ)) : Tokens → Tokens → Header → Type 0 where
  is_header : {returned : Returned} {name before : Token} {tokens rest : Tokens}
      → IsReturned aliases returned tokens (name ∷ before ∷ rest) → IsName name
      → IsMark (codes "(") before → IsHeader aliases tokens rest (record {
        returned = returned;
        name = name_of name;
      })

-- the same, after the base of what it gives
pub data IsHeaderOf (base : Base) : Tokens → Tokens → Header → Type 0 where
  is_header_of : {pointer : Option Place} {name before : Token} {tokens rest : Tokens}
      → IsStar pointer tokens (name ∷ before ∷ rest) → IsName name
      → IsMark (codes "(") before → IsHeaderOf base tokens rest (record {
        returned = Returned.Value base pointer;
        name = name_of name;
      })

-- the same, after what it gives
pub data IsNamed (returned : Returned) : Tokens → Tokens → Header → Type 0 where
  named : {name before : Token} {rest : Tokens} → IsName name
      → IsMark (codes "(") before → IsNamed returned (name ∷ before ∷ rest) rest
      (record { returned = returned; name = name_of name })

-- the same, after its name
pub data IsOpened (returned : Returned) (name : Name) : Tokens → Tokens → Header → Type 0 where
  opened : {before : Token} {rest : Tokens}
      → IsMark (codes "(") before → IsOpened returned name (before ∷ rest) rest
      (record { returned = returned; name = name })

-- the tokens, up to the rest, complete what the reader has read to this head of a function
abbrev pub CompletesHeader : List (List ℕ) → HeaderReader → Tokens → Tokens → Header → Type 0
CompletesHeader aliases HeaderReader.Start = IsHeader aliases
CompletesHeader aliases (HeaderReader.Base reader) = Then (CompletesBase aliases reader) IsHeaderOf
CompletesHeader aliases (HeaderReader.Value base) = IsHeaderOf base
CompletesHeader aliases (HeaderReader.Returned returned) = IsNamed returned
CompletesHeader aliases (HeaderReader.Named returned name) = IsOpened returned name

abbrev pub HeaderStepIs : List (List ℕ) → HeaderReader → Token → Step HeaderReader Header → Type 0
HeaderStepIs aliases reader token step = StepIs (CompletesHeader aliases) (λ header. header) (CompletesHeader aliases reader) token step

-- the body of a function with this head and these parameters, or the `;` of its prototype
abbrev pub EndsFunction : List (List ℕ) → Option Place → Header → ParametersTree → Tokens → Tokens → FunctionTree → Type 0
EndsFunction aliases static_place header parameters = Then (λ tokens rest body. IsBody aliases body tokens rest)
    (λ body. Gives
    (record
    { static_place = static_place; returned = header.returned; name = header.name; parameters = parameters; body = body }))

-- the parameters and the body
abbrev pub BehindHeader : List (List ℕ) → Option Place → Header → Tokens → Tokens → FunctionTree → Type 0
BehindHeader aliases static_place header = Then (IsParametersEnd aliases)
    (λ parameters. EndsFunction aliases static_place header parameters)

-- the tokens, up to the rest, complete what the reader has read to this function
abbrev pub CompletesFunction : List (List ℕ) → FunctionReader → Tokens → Tokens → FunctionTree → Type 0
CompletesFunction aliases (FunctionReader.Header static_place reader) = Then (CompletesHeader aliases reader)
    (λ header. BehindHeader aliases static_place header)
CompletesFunction aliases (FunctionReader.Parameters static_place header reader) = Then
    (CompletesParameters aliases reader) (λ parameters. EndsFunction aliases static_place header parameters)
CompletesFunction aliases
    (FunctionReader.Behind signature) = EndsFunction aliases signature.static_place signature.header
    (parameters_of signature.parameters)
CompletesFunction aliases (FunctionReader.Body signature place reader) = Then (CompletesBody aliases reader.value)
    (λ ss. Gives (record {
      static_place = signature.static_place;
      returned = signature.header.returned;
      name = signature.header.name;
      parameters = parameters_of signature.parameters;
      body = Some
          (record { place = place; statements = ss });
    }))

abbrev pub FunctionStepIs : List (List ℕ) → FunctionReader → Token → Step FunctionReader Function → Type 0
FunctionStepIs aliases reader token step = StepIs (CompletesFunction aliases) function_of (CompletesFunction aliases reader) token step

abbrev pub FunctionTookIs : List (List ℕ) → (reader behind : FunctionReader) → Token → Took Function → Type 0
FunctionTookIs aliases reader behind token took = TookIs function_of (CompletesFunction aliases reader)
    (CompletesFunction aliases behind) token took

-- the reader is within a body
abbrev pub IsWithinBody : FunctionReader → Type 0
IsWithinBody (FunctionReader.Header static_place reader) = ⊥
IsWithinBody (FunctionReader.Parameters static_place header reader) = ⊥
IsWithinBody (FunctionReader.Behind signature) = ⊥
IsWithinBody (FunctionReader.Body signature place reader) = Unit {0}

-- the function that the reader is within, with these statements as its body
abbrev pub IsBehindBody : FunctionReader → List Stmt → FunctionTree → Type 0
IsBehindBody (FunctionReader.Header static_place reader) ss f = ⊥
IsBehindBody (FunctionReader.Parameters static_place header reader) ss f = ⊥
IsBehindBody (FunctionReader.Behind signature) ss f = ⊥
IsBehindBody (FunctionReader.Body signature place reader) ss f = f
    ≡ record {
      static_place = signature.static_place;
      returned = signature.header.returned;
      name = signature.header.name;
      parameters = parameters_of signature.parameters;
      body = Some (record { place = place; statements = ss });
    }
