-- What completes the parameters of a function.
use Rattle.std.specs.Prelude.{◌≡◌, ℕ, List, [], ◌∷◌, ◌++◌, codes}
use Rattle.mc_base.specs.declared.text.place.Place.{Place}
use Rattle.mc_base.specs.declared.text.token.Token.{Token}
use Rattle.mc_c_syntax.specs.declared.ast.trees.Parameter.{Parameter}
use Rattle.mc_c_syntax.specs.declared.ast.trees.Parameters.{Parameters}
use Rattle.mc_c_syntax.specs.Ast.Views.{parameters_of}
use Rattle.mc_c_syntax.specs.Ast.Names.{Tokens, IsMark}
use Rattle.mc_c_syntax.specs.Ast.Trees.{ParametersTree, void, listed}
use Rattle.mc_c_syntax.specs.Ast.Grammar.{IsDeclarator, MoreParameters, IsParameters}
use Rattle.mc_c_parse.specs.declared.parameter.ParameterReader.{ParameterReader}
use Rattle.mc_c_parse.specs.declared.parameters.ParametersReader.{ParametersReader}
use Rattle.mc_c_parse.specs.declared.step.Step.{Step}
use Rattle.mc_c_parse.specs.Threads.{Then, Gives, StepIs}
use Rattle.mc_c_parse.specs.Bases.{CompletesBase}
use Rattle.mc_c_parse.specs.Declarators.{CompletesDeclarator}

-- the tokens, up to the rest, complete what the reader has read to this parameter
abbrev pub CompletesParameter : List (List ℕ) → ParameterReader → Tokens → Tokens → Parameter → Type 0
CompletesParameter aliases (ParameterReader.Base reader) = Then (CompletesBase aliases reader)
    (λ base. Then (λ tokens rest d. IsDeclarator d tokens rest) (λ d. Gives (record { base = base; declarator = d })))
CompletesParameter aliases (ParameterReader.Declarator base reader) = Then (CompletesDeclarator reader)
    (λ d. Gives (record { base = base; declarator = d }))

-- a `)` after the word `void` at this place
pub data IsVoidEnd (place : Place) : Tokens → Tokens → ParametersTree → Type 0 where
  void_end : {after : Token} {rest : Tokens} → IsMark (codes ")") after → IsVoidEnd place (after ∷ rest) rest (void place)

-- after these parameters: more of them, and a `)`
abbrev pub EndsParameters : List (List ℕ) → List Parameter → Tokens → Tokens → ParametersTree → Type 0
EndsParameters aliases ps tokens rest all = (listed_ones : List Parameter) × (after : Token)
    × MoreParameters aliases ps tokens listed_ones (after ∷ rest) × IsMark (codes ")") after
    × (all ≡ listed listed_ones)

-- parameters, and a `)`
abbrev pub IsParametersEnd : List (List ℕ) → Tokens → Tokens → ParametersTree → Type 0
IsParametersEnd aliases tokens rest all = (after : Token) × IsParameters aliases all tokens (after ∷ rest) × IsMark (codes ")") after

-- the tokens, up to the rest, complete what the reader has read to these parameters, with their `)`
abbrev pub CompletesParameters : List (List ℕ) → ParametersReader → Tokens → Tokens → ParametersTree → Type 0
CompletesParameters aliases ParametersReader.Start = IsParametersEnd aliases
CompletesParameters aliases (ParametersReader.Void place) = IsVoidEnd place
CompletesParameters aliases (ParametersReader.Parameter done reader) = Then (CompletesParameter aliases reader)
    (λ p. EndsParameters aliases (done.items ++ p ∷ []))
CompletesParameters aliases (ParametersReader.Behind done) = EndsParameters aliases done.items

abbrev pub ParameterStepIs : List (List ℕ) → ParameterReader → Token → Step ParameterReader Parameter → Type 0
ParameterStepIs aliases reader token step = StepIs (CompletesParameter aliases) (λ p. p) (CompletesParameter aliases reader) token step

abbrev pub ParametersStepIs : List (List ℕ) → ParametersReader → Token → Step ParametersReader Parameters → Type 0
ParametersStepIs aliases reader token step = StepIs (CompletesParameters aliases) parameters_of
    (CompletesParameters aliases reader) token step
