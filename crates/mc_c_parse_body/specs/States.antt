-- What completes a statement of which some tokens are read.
use Rattle.std.specs.Prelude.{ℕ, List, [], ◌∷◌, Option, Some, None}
use Rattle.std.specs.Option.{option_map}
use Rattle.mc_base.specs.declared.text.place.Place.{Place}
use Rattle.mc_c_syntax.specs.declared.ast.class.Class.TheVariants as Class
use Rattle.mc_c_syntax.specs.Ast.Names.{Tokens}
use Rattle.mc_c_syntax.specs.Ast.Trees.{Expr, Cond, Right, SimpleTree, Start, nothing, declares, performs, Stmt, declaration, empty, simple, free, assert, assume, while_loop, do_loop, for_loop, returns}
use Rattle.mc_c_syntax.specs.Ast.Views.{condition_of, statement_of, start_of}
use Rattle.mc_c_parse_expr.specs.Expressions.{CompletesExpression}
use Rattle.mc_c_parse_expr.specs.Conditions.{CompletesCondition}
use Rattle.mc_c_parse_expr.specs.Turns.{InTurn}
use Rattle.mc_c_parse_simple.specs.Phrases.{Either}
use Rattle.mc_c_parse_simple.specs.Rights.{Rights, CompletesRight}
use Rattle.mc_c_parse_simple.specs.Simples.{CompletesSimple}
use Rattle.mc_c_parse_body.specs.Phrases.{Expects, MaybeConditions, MaybeSimples, Statements}
use Rattle.mc_c_parse_body.specs.Shapes.{CompletesShape}
use Rattle.mc_c_parse_body.specs.Lines.{CompletesLine}
use Rattle.mc_c_parse_body.specs.Frames.{BehindFirst, Around, AtStart, frames_of, body_of}
use Rattle.mc_c_parse_body.specs.declared.frames.Nest.{Nest}
use Rattle.mc_c_parse_body.specs.declared.state.LinePurpose.{LinePurpose}
use Rattle.mc_c_parse_body.specs.declared.state.Purpose.{Purpose}
use Rattle.mc_c_parse_body.specs.declared.state.State.{State}

-- the statement that a line is, at its first token
abbrev pub line_of : Place → Start → Stmt
line_of place nothing = empty place
line_of place (declares d) = declaration d
line_of place (performs s) = simple s

-- after the expression of a `free`
abbrev pub BehindFreed : Place → (Stmt → Tokens → Tokens → List Stmt → Type 0) → Expr → Tokens → Tokens → List Stmt → Type 0
BehindFreed place next e = Expects (Class.CloseParen ∷ Class.Semicolon ∷ []) (next (free place e))

-- after the value of a `return`
abbrev pub BehindValue : Place → (Stmt → Tokens → Tokens → List Stmt → Type 0) → Right → Tokens → Tokens → List Stmt → Type 0
BehindValue place next r = Expects (Class.Semicolon ∷ []) (next (returns place (Some r)))

-- after `return`
abbrev pub BehindReturn : List (List ℕ) → Place → (Stmt → Tokens → Tokens → List Stmt → Type 0) → Tokens → Tokens → List Stmt → Type 0
BehindReturn aliases place next = Either (Expects (Class.Semicolon ∷ []) (next (returns place None)))
    (InTurn (Rights aliases) (BehindValue place next))

-- after all that stands in the parentheses of a `for`
abbrev pub BehindLast : List (List ℕ) → Place → Start → Option Cond → (Stmt → Tokens → Tokens → List Stmt → Type 0)
    → Option SimpleTree → Tokens → Tokens → List Stmt → Type 0
BehindLast aliases place start c next last = Expects (Class.CloseParen
    ∷ []) (InTurn (Statements aliases) (λ s. next (for_loop (record {
      place = place;
      start = start;
      condition = c;
      last = last;
    }) s)))

-- at the last part in the parentheses of a `for`
abbrev pub AtLast : List (List ℕ) → Place → Start → (Stmt → Tokens → Tokens → List Stmt → Type 0) → Option Cond
    → Tokens → Tokens → List Stmt → Type 0
AtLast aliases place start next c = InTurn (MaybeSimples aliases) (BehindLast aliases place start c next)

-- after the condition of a `for`
abbrev pub BehindForCondition : List (List ℕ) → Place → Start → (Stmt → Tokens → Tokens → List Stmt → Type 0)
    → Option Cond → Tokens → Tokens → List Stmt → Type 0
BehindForCondition aliases place start next c = Expects (Class.Semicolon ∷ []) (AtLast aliases place start next c)

-- at the condition of a `for`
abbrev pub AtForCondition : List (List ℕ) → Place → (Stmt → Tokens → Tokens → List Stmt → Type 0) → Start → Tokens
    → Tokens → List Stmt → Type 0
AtForCondition aliases place next start = InTurn MaybeConditions (BehindForCondition aliases place start next)

-- after a condition of this purpose
abbrev pub BehindPurpose : List (List ℕ) → Purpose → (Stmt → Tokens → Tokens → List Stmt → Type 0) → Cond → Tokens
    → Tokens → List Stmt → Type 0
BehindPurpose aliases (Purpose.Assert place) next c = Expects (Class.CloseParen ∷ Class.Semicolon ∷ []) (next (assert place c))
BehindPurpose aliases (Purpose.Assume place) next c = Expects (Class.CloseParen ∷ Class.Semicolon ∷ []) (next (assume place c))
BehindPurpose aliases (Purpose.If place) next c = Expects (Class.CloseParen ∷ [])
    (InTurn (Statements aliases) (BehindFirst aliases place c next))
BehindPurpose aliases (Purpose.While place) next c = Expects (Class.CloseParen ∷ [])
    (InTurn (Statements aliases) (λ s. next (while_loop place c s)))
BehindPurpose aliases (Purpose.Do place s) next c = Expects (Class.CloseParen ∷ Class.Semicolon ∷ [])
    (next (do_loop place (statement_of s) c))
BehindPurpose aliases (Purpose.For place start) next c = BehindForCondition aliases place (start_of start) next (Some c)

-- after a line of this purpose
abbrev pub BehindLine : List (List ℕ) → LinePurpose → (Stmt → Tokens → Tokens → List Stmt → Type 0) → Start → Tokens
    → Tokens → List Stmt → Type 0
BehindLine aliases (LinePurpose.Statement place) next start = next (line_of place start)
BehindLine aliases (LinePurpose.For place) next start = AtForCondition aliases place next start

-- after a shape command without its `;`
abbrev pub BehindShape : (Stmt → Tokens → Tokens → List Stmt → Type 0) → Stmt → Tokens → Tokens → List Stmt → Type 0
BehindShape next s = Expects (Class.Semicolon ∷ []) (next s)

-- the tokens complete the body, from this state on
abbrev pub AtState : List (List ℕ) → Nest → State → Tokens → Tokens → List Stmt → Type 0
AtState aliases nest State.Start = AtStart aliases (frames_of nest) (body_of nest)
AtState aliases nest (State.Behind s) = Around aliases nest (statement_of s)
AtState aliases nest (State.Line purpose reader) = InTurn (CompletesLine aliases reader) (BehindLine aliases purpose (Around aliases nest))
AtState aliases nest (State.Freed place reader) = InTurn (CompletesExpression reader.value) (BehindFreed place (Around aliases nest))
AtState aliases nest (State.Condition purpose reader) = InTurn (CompletesCondition reader.value)
    (BehindPurpose aliases purpose (Around aliases nest))
AtState aliases nest (State.Return place) = BehindReturn aliases place (Around aliases nest)
AtState aliases nest (State.Value place reader) = InTurn (CompletesRight aliases reader.value) (BehindValue place (Around aliases nest))
AtState aliases nest (State.ForCondition place start) = AtForCondition aliases place (Around aliases nest) (start_of start)
AtState aliases nest (State.ForLast place start c) = AtLast aliases place (start_of start) (Around aliases nest) (option_map condition_of c)
AtState aliases nest (State.Last place start c reader) = InTurn (CompletesSimple aliases reader.value)
    (λ last. BehindLast aliases place (start_of start) (option_map condition_of c) (Around aliases nest) (Some last))
AtState aliases nest (State.Shape reader) = InTurn (CompletesShape reader) (BehindShape (Around aliases nest))
