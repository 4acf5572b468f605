-- What completes a simple statement.
use Rattle.std.specs.Prelude.{ℕ, List, [], ◌∷◌, ◌++◌, codes}
use Rattle.mc_base.specs.declared.text.place.Place.{Place}
use Rattle.mc_base.specs.declared.text.token.Token.{Token}
use Rattle.mc_c_syntax.specs.declared.ast.trees.Name.{Name}
use Rattle.mc_c_syntax.specs.Ast.Trees.{Left, Expr, Right, SimpleTree, assign, add, subtract, increment, decrement, increment_first, decrement_first, call}
use Rattle.mc_c_syntax.specs.Ast.Names.{Tokens, IsMark, IsName, name_of}
use Rattle.mc_c_syntax.specs.Ast.Grammar.{Fields, IsSum, IsRight, IsSimple}
use Rattle.mc_c_syntax.specs.Ast.Readers.{Takes, Finds, IsStuckAt}
use Rattle.mc_c_syntax.specs.Ast.Views.{left_of, simple_of}
use Rattle.mc_c_parse_expr.specs.Expressions.{CompletesExpression}
use Rattle.mc_c_parse_simple.specs.declared.simple.SimpleReader.{SimpleReader}
use Rattle.mc_c_parse_simple.specs.declared.simple.SimpleState.{SimpleState}
use Rattle.mc_c_parse_simple.specs.declared.simple.SimpleMove.{SimpleMove}
use Rattle.mc_c_parse_simple.specs.declared.simple.SimpleStep.{SimpleStep}
use Rattle.mc_c_parse_simple.specs.declared.simple.Change.{Change}
use Rattle.mc_c_parse_expr.specs.Turns.{InTurn}
use Rattle.mc_c_parse_simple.specs.Phrases.{Ended, Next, Either}
use Rattle.mc_c_parse_simple.specs.Calls.{BehindCallParens, CompletesCall}
use Rattle.mc_c_parse_simple.specs.Rights.{CompletesRight, right_marks}

-- the marks and words with which a complete simple statement can go on
abbrev pub simple_marks : List (List ℕ)
simple_marks = right_marks

-- `++x` or `--x`
abbrev pub changed_first : Change → Place → Left → SimpleTree
changed_first Change.Increment place l = increment_first place l
changed_first Change.Decrement place l = decrement_first place l

-- `x += e` or `x -= e`
abbrev pub changed_by : Change → Left → Expr → SimpleTree
changed_by Change.Increment l e = add l e
changed_by Change.Decrement l e = subtract l e

-- a simple statement
abbrev pub Simples : List (List ℕ) → Tokens → Tokens → SimpleTree → Type 0
Simples aliases tokens rest s = IsSimple aliases s tokens rest

-- the fields after a variable or field
abbrev pub MoreFields : Left → Tokens → Tokens → Left → Type 0
MoreFields l tokens rest all = Fields l tokens all rest

-- a field more
abbrev pub with_field : Left → Name → Left
with_field l name = record { name = l.name; fields = l.fields ++ name ∷ [] }

-- a name alone
abbrev pub just : Name → Left
just name = record { name = name; fields = [] }

-- after a variable or field
pub data BehindLeft (aliases : List (List ℕ)) (l : Left) : Tokens → Tokens → SimpleTree → Type 0 where
  assigns : {r : Right} {mark : Token} {tokens rest : Tokens} → IsMark (codes "=") mark
      → IsRight aliases r tokens rest → BehindLeft aliases l (mark ∷ tokens) rest (assign l r)
  adds : {e : Expr} {mark : Token} {tokens rest : Tokens} → IsMark (codes "+=") mark → IsSum e tokens rest
      → BehindLeft aliases l (mark ∷ tokens) rest (add l e)
  subtracts : {e : Expr} {mark : Token} {tokens rest : Tokens} → IsMark (codes "-=") mark → IsSum e tokens rest
      → BehindLeft aliases l (mark ∷ tokens) rest (subtract l e)
  increments : {mark : Token} {tokens : Tokens} → IsMark (codes "++") mark → BehindLeft aliases l (mark ∷ tokens) tokens (increment l)
  decrements : {mark : Token} {tokens : Tokens} → IsMark (codes "--") mark → BehindLeft aliases l (mark ∷ tokens) tokens (decrement l)

-- after a name, or a field of it, with which a statement begins
abbrev pub InLeft : List (List ℕ) → Left → Tokens → Tokens → SimpleTree → Type 0
InLeft aliases l = InTurn (MoreFields l) (BehindLeft aliases)

-- after a name with which a statement begins
abbrev pub BehindSimpleName : List (List ℕ) → Name → Tokens → Tokens → SimpleTree → Type 0
BehindSimpleName aliases name = Either (InLeft aliases (just name))
    (Next (IsMark (codes "(")) (λ before. InTurn (BehindCallParens name) (λ c. Ended (call c))))

-- after `++x` or `--x`, or a field of x
abbrev pub InFirst : Change → Place → Left → Tokens → Tokens → SimpleTree → Type 0
InFirst change place l = InTurn (MoreFields l) (λ all. Ended (changed_first change place all))

-- the tokens complete what was read of a simple statement
abbrev pub CompletesSimpleState : List (List ℕ) → SimpleState → Tokens → Tokens → SimpleTree → Type 0
CompletesSimpleState aliases SimpleState.Start = Simples aliases
CompletesSimpleState aliases (SimpleState.First change place) = Next IsName (λ name. InFirst change place (just (name_of name)))
CompletesSimpleState aliases (SimpleState.FirstLeft change place l) = InFirst change place (left_of l)
CompletesSimpleState aliases (SimpleState.FirstArrow change place l) = Next IsName
    (λ name. InFirst change place (with_field (left_of l) (name_of name)))
CompletesSimpleState aliases (SimpleState.Named name) = BehindSimpleName aliases name
CompletesSimpleState aliases (SimpleState.Left l) = InLeft aliases (left_of l)
CompletesSimpleState aliases (SimpleState.Arrow l) = Next IsName (λ name. InLeft aliases (with_field (left_of l) (name_of name)))
CompletesSimpleState aliases (SimpleState.Assign l reader) = InTurn (CompletesRight aliases reader) (λ r. Ended (assign (left_of l) r))
CompletesSimpleState aliases (SimpleState.ChangeBy change l reader) = InTurn (CompletesExpression reader.value)
    (λ e. Ended (changed_by change (left_of l) e))
CompletesSimpleState aliases (SimpleState.Call reader) = InTurn (CompletesCall reader) (λ c. Ended (call c))
CompletesSimpleState aliases (SimpleState.Done simple) = Ended (simple_of simple)

abbrev pub CompletesSimple : List (List ℕ) → SimpleReader → Tokens → Tokens → SimpleTree → Type 0
CompletesSimple aliases reader = CompletesSimpleState aliases reader.state

-- what is read is the right side of an assignment, of a `+=` or of a `-=`
abbrev pub IsInValueState : SimpleState → Type 0
IsInValueState SimpleState.Start = ⊥
IsInValueState (SimpleState.First change place) = ⊥
IsInValueState (SimpleState.FirstLeft change place l) = ⊥
IsInValueState (SimpleState.FirstArrow change place l) = ⊥
IsInValueState (SimpleState.Named name) = ⊥
IsInValueState (SimpleState.Left l) = ⊥
IsInValueState (SimpleState.Arrow l) = ⊥
IsInValueState (SimpleState.Assign l reader) = Unit {0}
IsInValueState (SimpleState.ChangeBy change l reader) = Unit {0}
IsInValueState (SimpleState.Call reader) = ⊥
IsInValueState (SimpleState.Done simple) = ⊥

abbrev pub IsInValue : SimpleReader → Type 0
IsInValue reader = IsInValueState reader.state

-- what a step by value says
abbrev pub IsSimpleMove : List (List ℕ) → (Tokens → Tokens → SimpleTree → Type 0) → Token → SimpleMove → Type 0
IsSimpleMove aliases now token (SimpleMove.Taken reader) = Takes simple_marks now (CompletesSimple aliases reader) token
IsSimpleMove aliases now token (SimpleMove.Found simple) = Finds now token (simple_of simple)
IsSimpleMove aliases now token SimpleMove.Stuck = IsStuckAt now token

-- what a step of the reader says, of what completes it now and after the token
abbrev pub IsSimpleStep : (Tokens → Tokens → SimpleTree → Type 0) → (Tokens → Tokens → SimpleTree → Type 0) → Token → SimpleStep → Type 0
IsSimpleStep now behind token SimpleStep.Taken = Takes simple_marks now behind token
IsSimpleStep now behind token (SimpleStep.Found simple) = Finds now token (simple_of simple)
IsSimpleStep now behind token SimpleStep.Stuck = IsStuckAt now token
