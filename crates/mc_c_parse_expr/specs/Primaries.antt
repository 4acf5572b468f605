-- Variables, fields and `input()`, of which the first token is read.
use Rattle.std.specs.Prelude.{ℕ, List, [], ◌∷◌, ◌++◌, codes}
use Rattle.mc_base.specs.declared.text.place.Place.{Place}
use Rattle.mc_base.specs.declared.text.token.Token.{Token}
use Rattle.mc_c_syntax.specs.declared.ast.trees.LeftValue.{LeftValue}
use Rattle.mc_c_syntax.specs.Ast.Trees.{Left, Expr, input, value}
use Rattle.mc_c_syntax.specs.Ast.Views.{left_of, expression_of}
use Rattle.mc_c_syntax.specs.Ast.Names.{Tokens, IsMark, IsName, name_of}
use Rattle.mc_c_syntax.specs.Ast.Grammar.{Fields}
use Rattle.mc_c_syntax.specs.Ast.Readers.{Takes, Finds, Closes, IsStuckAt}
use Rattle.mc_c_parse_expr.specs.declared.primary.Primary.{Primary}
use Rattle.mc_c_parse_expr.specs.declared.primary.PrimaryStep.{PrimaryStep}

-- these tokens, up to the rest, complete it
pub data CompletesPrimary : Primary → Tokens → Tokens → Expr → Type 0 where
  behind_left : {l : LeftValue} {all : Left} {tokens rest : Tokens} → Fields (left_of l) tokens all rest
      → CompletesPrimary (Primary.Left l) tokens rest (value all)
  behind_arrow : {l : LeftValue} {all : Left} {name : Token} {tokens rest : Tokens} → IsName name
      → Fields (record { name = l.name; fields = l.fields.items ++ name_of name ∷ [] }) tokens all rest
      → CompletesPrimary (Primary.Arrow l) (name ∷ tokens) rest (value all)
  behind_input : {place : Place} {before after : Token} {tokens : Tokens}
      → IsMark (codes "(") before → IsMark (codes ")") after
      → CompletesPrimary (Primary.Input place) (before ∷ after ∷ tokens) tokens (input place)
  behind_open : {place : Place} {after : Token} {tokens : Tokens} → IsMark (codes ")") after
      → CompletesPrimary (Primary.InputOpen place) (after ∷ tokens) tokens (input place)

-- the marks with which a variable or field goes on
abbrev pub primary_marks : List (List ℕ)
primary_marks = codes "->" ∷ []

-- what a step says of what is read
abbrev pub StepsPrimary : (Tokens → Tokens → Expr → Type 0) → Token → PrimaryStep → Type 0
StepsPrimary now token (PrimaryStep.Taken p) = Takes primary_marks now (CompletesPrimary p) token
StepsPrimary now token (PrimaryStep.Closed e) = Closes now token (expression_of e)
StepsPrimary now token (PrimaryStep.Found e) = Finds now token (expression_of e)
StepsPrimary now token PrimaryStep.Stuck = IsStuckAt now token
