-- What completes what has been read of the head of a definition.
use Rattle.std.specs.Prelude.{◌≡◌, List, [], ◌∷◌, ◌++◌, codes}
use Rattle.mc_base.specs.declared.plain.Kind.{Kind}
use Rattle.mc_base.specs.declared.text.token.Token.{Token}
use Rattle.mc_c_syntax.specs.declared.ast.trees.Name.{Name}
use Rattle.mc_c_syntax.specs.Ast.Names.{Tokens, name_of}
use Rattle.mc_def_parse.specs.declared.symbols.Symbol.TheVariants as Symbol
use Rattle.mc_def_parse.specs.declared.tree.Parameter.{Parameter}
use Rattle.mc_def_parse.specs.declared.tree.Head.{Head}
use Rattle.mc_def_parse.specs.declared.front.HeadReader.{HeadReader}
use Rattle.mc_def_parse.specs.declared.front.WholeHead.{WholeHead}
use Rattle.mc_def_parse.specs.declared.step.Step.{Step}
use Rattle.mc_def_parse.specs.Grammar.{Is, IsWord, IsKind, MoreParameters, parameter}
use Rattle.mc_def_parse.specs.Steps.{StepIs, First, Gives}

-- after the first parameters: more of them, `)` and `{`
abbrev pub ParametersEnd : Name → List Parameter → Tokens → Tokens → Head → Type 0
ParametersEnd p ps tokens rest head = (all : List Parameter) × (close : Token) × (brace : Token)
    × MoreParameters ps tokens all (close ∷ brace ∷ rest) × Is Symbol.Close close × Is Symbol.OpenBrace brace
    × (head ≡ record { name = p; params = all })

-- one more, and the same: from its name, from its kind
abbrev pub ParameterEnds : Name → List Parameter → Kind → Tokens → Tokens → Head → Type 0
ParameterEnds p ps kind = First (Is Symbol.Name) (λ x. ParametersEnd p (ps ++ parameter kind x ∷ []))

abbrev pub KindEnds : Name → List Parameter → Tokens → Tokens → Head → Type 0
KindEnds p ps [] rest head = ⊥
KindEnds p ps (k ∷ tokens) rest head = (kind : Kind) × IsKind kind k × ParameterEnds p ps kind tokens rest head

abbrev pub ThisEnds : Name → Tokens → Tokens → Head → Type 0
ThisEnds p = First (IsWord (codes "this")) (λ this. ParametersEnd p [])

abbrev pub OpeningEnds : Name → Tokens → Tokens → Head → Type 0
OpeningEnds p = First (Is Symbol.Open) (λ opening. ThisEnds p)

-- the head that the token of its name makes
abbrev pub head_of : WholeHead → Head
head_of head = record { name = name_of head.name.now; params = head.params }

-- the tokens, up to the rest, complete what the reader has read to this head
abbrev pub CompletesHead : HeadReader → Tokens → Tokens → Head → Type 0
CompletesHead HeadReader.Name = First (Is Symbol.Name) (λ p. OpeningEnds (name_of p))
CompletesHead (HeadReader.Opening p) = OpeningEnds (name_of p.now)
CompletesHead (HeadReader.This p) = ThisEnds (name_of p.now)
CompletesHead (HeadReader.Parameters p ps) = ParametersEnd (name_of p.now) ps
CompletesHead (HeadReader.Kind p ps) = KindEnds (name_of p.now) ps
CompletesHead (HeadReader.Parameter p ps kind) = ParameterEnds (name_of p.now) ps kind
CompletesHead (HeadReader.Brace head) = First (Is Symbol.OpenBrace) (λ brace. Gives (head_of head))

abbrev pub HeadStepIs : HeadReader → Token → Step HeadReader WholeHead → Type 0
HeadStepIs reader token step = StepIs CompletesHead head_of (CompletesHead reader) token step
