-- What completes the size that `malloc` is given: `sizeof(struct S)`, `sizeof(*p)`, `sizeof *p`.
use Rattle.std.specs.Prelude.{ℕ, List, [], codes}
use Rattle.mc_base.specs.declared.text.place.Place.{Place}
use Rattle.mc_base.specs.declared.text.token.Token.{Token}
use Rattle.mc_c_syntax.specs.declared.ast.trees.Base.{Base}
use Rattle.mc_c_syntax.specs.declared.ast.trees.Size.{Size}
use Rattle.mc_c_syntax.specs.Ast.Names.{Tokens, IsMark, IsName, name_of}
use Rattle.mc_c_syntax.specs.Ast.Grammar.{IsSize}
use Rattle.mc_c_syntax.specs.Ast.Readers.{Takes, Closes, IsStuckAt}
use Rattle.mc_c_parse_simple.specs.declared.size.SizeReader.{SizeReader}
use Rattle.mc_c_parse_simple.specs.declared.size.SizeStep.{SizeStep}
use Rattle.mc_c_parse_expr.specs.Turns.{InTurn}
use Rattle.mc_c_parse_simple.specs.Phrases.{Ended, Next, Either}
use Rattle.mc_c_parse_simple.specs.Bases.{Bases, CompletesBase}

-- a size
abbrev pub Sizes : List (List ℕ) → Tokens → Tokens → Size → Type 0
Sizes aliases tokens rest size = IsSize aliases size tokens rest

-- the `)` after a size
abbrev pub ClosingSize : Size → Tokens → Tokens → Size → Type 0
ClosingSize size = Next (IsMark (codes ")")) (λ after. Ended size)

-- after `sizeof (int` and the like
abbrev pub BehindType : Place → Base → Tokens → Tokens → Size → Type 0
BehindType place base = ClosingSize (Size.OfType place base)

-- after `sizeof (*`
abbrev pub BehindParensStar : Place → Tokens → Tokens → Size → Type 0
BehindParensStar place = Next IsName (λ name. ClosingSize (Size.OfParens place (name_of name)))

-- after `sizeof *`
abbrev pub BehindStar : Place → Tokens → Tokens → Size → Type 0
BehindStar place = Next IsName (λ name. Ended (Size.OfValue place (name_of name)))

-- after `sizeof (`
abbrev pub BehindParens : List (List ℕ) → Place → Tokens → Tokens → Size → Type 0
BehindParens aliases place = Either (InTurn (Bases aliases) (BehindType place)) (Next (IsMark (codes "*")) (λ star. BehindParensStar place))

-- after `sizeof`
abbrev pub BehindSizeof : List (List ℕ) → Place → Tokens → Tokens → Size → Type 0
BehindSizeof aliases place = Either (Next (IsMark (codes "(")) (λ before. BehindParens aliases place))
    (Next (IsMark (codes "*")) (λ star. BehindStar place))

-- the tokens complete what was read of a size
abbrev pub CompletesSize : List (List ℕ) → SizeReader → Tokens → Tokens → Size → Type 0
CompletesSize aliases SizeReader.Start = Sizes aliases
CompletesSize aliases (SizeReader.Sizeof place) = BehindSizeof aliases place
CompletesSize aliases (SizeReader.Parens place) = BehindParens aliases place
CompletesSize aliases (SizeReader.Base place reader) = InTurn (CompletesBase aliases reader) (BehindType place)
CompletesSize aliases (SizeReader.ParensStar place) = BehindParensStar place
CompletesSize aliases (SizeReader.Star place) = BehindStar place
CompletesSize aliases (SizeReader.Close size) = ClosingSize size

-- what a step of the reader says
abbrev pub IsSizeStep : List (List ℕ) → (Tokens → Tokens → Size → Type 0) → Token → SizeStep → Type 0
IsSizeStep aliases now token (SizeStep.Taken reader) = Takes [] now (CompletesSize aliases reader) token
IsSizeStep aliases now token (SizeStep.Closed size) = Closes now token size
IsSizeStep aliases now token SizeStep.Stuck = IsStuckAt now token
