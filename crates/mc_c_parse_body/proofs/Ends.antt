-- Each state of a reader can be completed.
use Rattle.std.proofs.Common.{◌≡◌, ℕ, List, [], ◌∷◌, ◌++◌, inl, refl, sym, subst, append_assoc, map, Option, Some, None}
use Rattle.std.specs.Prelude.{codes}
use Rattle.std.specs.Option.{option_map}
use Rattle.std.proofs.Common.{zero-le}
use Rattle.mc_base.specs.declared.text.place.Place.{Place}
use Rattle.mc_base.specs.declared.text.token.Token.{Token}
use Rattle.mc_base.specs.declared.text.token.TokenKind.TheVariants as TokenKind
use Rattle.mc_c_syntax.specs.declared.ast.class.Class.{Class}
use Rattle.mc_c_syntax.specs.declared.ast.trees.Argument.{Argument}
use Rattle.mc_c_syntax.specs.declared.ast.trees.Base.{Base}
use Rattle.mc_c_syntax.specs.Ast.Trees.{Cond, SimpleTree, Start, declares, performs, Stmt, free, assert, assume, returns, block, if_only, if_else, while_loop, do_loop, for_loop, stmts_of}
use Rattle.mc_c_syntax.specs.Ast.Views.{condition_of, statement_of, start_of, head_of}
use Rattle.mc_c_syntax.specs.Ast.Names.{Tokens, IsMark, IsWord, IsName, IsNumber, name_of}
use Rattle.mc_c_syntax.specs.Ast.Grammar.{null_word, product, no_factor, sum_of, no_term, plain_one, all_of, no_both, any_of, no_either, bare, declarator, no_star, last_initial, name_argument, last_argument, starts_empty, no_condition, no_simple, empty_statement, no_statement}
use Rattle.mc_c_syntax.specs.Ast.Readers.{CanEnd}
use Rattle.mc_c_parse_expr.specs.declared.expression.ExpressionReader.{ExpressionReader}
use Rattle.mc_c_parse_expr.specs.declared.condition.ConditionReader.{ConditionReader}
use Rattle.mc_c_parse_expr.specs.Expressions.{CompletesExpression}
use Rattle.mc_c_parse_expr.specs.Conditions.{CompletesCondition}
use Rattle.mc_c_parse_expr.specs.Turns.{InTurn, in_turn}
use Rattle.mc_c_parse_simple.specs.declared.right.RightReader.{RightReader}
use Rattle.mc_c_parse_simple.specs.declared.simple.SimpleReader.{SimpleReader}
use Rattle.mc_c_parse_simple.specs.declared.declaration.DeclarationReader.{DeclarationReader}
use Rattle.mc_c_parse_simple.specs.Rights.{Rights, CompletesRight}
use Rattle.mc_c_parse_simple.specs.Simples.{CompletesSimple}
use Rattle.mc_c_parse_simple.specs.Declarations.{BehindBase, behind_initials, CompletesDeclaration}
use Rattle.mc_c_parse_simple.specs.Phrases.{Next, next, Ended, ended, Either}
use Rattle.mc_c_parse_body.specs.Phrases.{Expects, classes_of, expected_of, Conditions, Statements}
use Rattle.mc_base.specs.Text.Numbers.{as_zero}
use Rattle.mc_c_syntax.specs.declared.ast.trees.Name.{Name}
use Rattle.mc_c_parse_body.specs.Shapes.{shaped, Arguments, BehindMinus, negative, BehindArguments, BehindUse, BehindComma, BehindPredicate, CompletesShape}
use Rattle.mc_c_parse_body.specs.Lines.{BehindSimple, CompletesLine}
use Rattle.mc_c_parse_body.specs.Frames.{InBlock, BehindFirst, only, BehindDo, Behind, AtStart, Around, frames_of, body_of}
use Rattle.mc_c_parse_body.specs.States.{BehindFreed, BehindValue, BehindLast, AtLast, BehindForCondition, AtForCondition, BehindPurpose, BehindLine, BehindShape, AtState, line_of}
use Rattle.mc_c_parse_body.specs.Bodies.{CompletesBody}
use Rattle.mc_c_parse_body.specs.declared.phrase.Phrase.{Phrase}
use Rattle.mc_c_parse_body.specs.declared.shape.Command.{Command}
use Rattle.mc_c_parse_body.specs.declared.shape.Shape.{Shape}
use Rattle.mc_c_parse_body.specs.declared.shape.Use.{Use}
use Rattle.mc_c_parse_body.specs.declared.shape.ShapeReader.{ShapeReader}
use Rattle.mc_c_parse_body.specs.declared.line.LineReader.{LineReader}
use Rattle.mc_c_parse_body.specs.declared.frames.Frame.{Frame}
use Rattle.mc_c_parse_body.specs.declared.frames.Nest.{Nest}
use Rattle.mc_c_parse_body.specs.declared.state.LinePurpose.{LinePurpose}
use Rattle.mc_c_parse_body.specs.declared.state.Purpose.{Purpose}
use Rattle.mc_c_parse_body.specs.declared.state.State.{State}
use Rattle.mc_c_parse_body.specs.declared.state.BodyReader.{BodyReader}

abbrev mark : List ℕ → Token
mark text = record { kind = TokenKind.Mark; text = text; place = record { line = 1; column = 1 } }

abbrev word : List ℕ → Token
word text = record { kind = TokenKind.Name; text = text; place = record { line = 1; column = 1 } }

is_mark : (text : List ℕ) → IsMark text (mark text)
is_mark text = record { kind = refl; text = refl }

is_word : (text : List ℕ) → IsWord text (word text)
is_word text = record { kind = refl; text = refl }

a_name : IsName (word (codes "a"))
a_name = record { kind = refl; free = refl }

abbrev zero_token : Token
zero_token = record { kind = TokenKind.Number; text = codes "0"; place = record { line = 1; column = 1 } }

a_number : IsNumber zero_token 0
a_number = record { kind = refl; spelled = as_zero refl refl; small = zero-le }

can_ended : {Y : Type 0} (y : Y) → CanEnd (Ended y)
can_ended y = record { more = []; tree = y; completes = λ rest. ended }

can_next : {Y : Type 0} {Is : Token → Type 0} {later : Token → Tokens → Tokens → Y → Type 0} (token : Token) → Is token → CanEnd (later token) → CanEnd (Next Is later)
can_next token is c = record { more = token ∷ c.more; tree = c.tree; completes = λ rest. next is (c.completes rest) }

can_then : {X Y : Type 0} {first : Tokens → Tokens → X → Type 0} (behind : X → Tokens → Tokens → Y → Type 0) → CanEnd first → ((x : X) → CanEnd (behind x)) → CanEnd (InTurn first behind)
can_then {X} {Y} {first} behind a f =
    let b = f a.tree in
    record { more = a.more ++ b.more; tree = b.tree; completes = λ rest. subst (λ (tokens : Tokens). InTurn first behind tokens rest b.tree) (sym (append_assoc a.more b.more rest)) (in_turn (a.completes (b.more ++ rest)) (b.completes rest)) }

can_left : {Y : Type 0} (one other : Tokens → Tokens → Y → Type 0) → CanEnd one → CanEnd (Either one other)
can_left one other c = record { more = c.more; tree = c.tree; completes = λ rest. inl (c.completes rest) }

can_expect : {Y : Type 0} {later : Tokens → Tokens → Y → Type 0} (phrase : Phrase) → CanEnd later → CanEnd (Expects (classes_of phrase) later)
can_expect Phrase.Semicolon c = can_next (mark (codes ";")) (is_mark (codes ";")) c
can_expect Phrase.Open c = can_next (mark (codes "(")) (is_mark (codes "(")) c
can_expect Phrase.Close c = can_next (mark (codes ")")) (is_mark (codes ")")) c
can_expect Phrase.CloseSemicolon c = can_next (mark (codes ")")) (is_mark (codes ")")) (can_next (mark (codes ";")) (is_mark (codes ";")) c)
can_expect Phrase.OpenCloseSemicolon c = can_next (mark (codes "(")) (is_mark (codes "(")) (can_next (mark (codes ")")) (is_mark (codes ")")) (can_next (mark (codes ";")) (is_mark (codes ";")) c))
can_expect Phrase.WhileOpen c = can_next (word (codes "while")) (is_word (codes "while")) (can_next (mark (codes "(")) (is_mark (codes "(")) c)

can_condition : CanEnd Conditions
can_condition = record { more = word (codes "NULL") ∷ []; tree = _; completes = λ rest. any_of (all_of (plain_one (sum_of (product (null_word (is_word (codes "NULL"))) no_factor) no_term)) no_both) no_either }

-- it can be completed, with tokens that are no `else`
record Ending (now : Tokens → Tokens → List Stmt → Type 0) : Type 0 where
  pub first : Token
  pub no_else : ¬ IsWord (codes "else") first
  pub more : Tokens
  pub tree : List Stmt
  pub completes : (rest : Tokens) → now (first ∷ (more ++ rest)) rest tree

ending_ends : {now : Tokens → Tokens → List Stmt → Type 0} → Ending now → CanEnd now
ending_ends e = record { more = e.first ∷ e.more; tree = e.tree; completes = e.completes }

close_no_else : ¬ IsWord (codes "else") (mark (codes "}"))
close_no_else w = let e : TokenKind.Mark ≡ TokenKind.Name = w.kind in cc

while_no_else : ¬ IsWord (codes "else") (word (codes "while"))
while_no_else w = let e : codes "while" ≡ codes "else" = w.text in cc

ends_with : {now : Tokens → Tokens → List Stmt → Type 0} (token : Token) → ¬ IsWord (codes "else") token → (c : CanEnd now) → (now' : Tokens → Tokens → List Stmt → Type 0) → ((tokens rest : Tokens) (y : List Stmt) → now tokens rest y → now' (token ∷ tokens) rest y) → Ending now'
ends_with token no_else c now' f = record { first = token; no_else = no_else; more = c.more; tree = c.tree; completes = λ rest. f (c.more ++ rest) rest c.tree (c.completes rest) }

module _ (aliases : List (List ℕ)) where
  block_ends : (before : List Stmt) (goes : List Stmt → Tokens → Tokens → List Stmt → Type 0) → CanEnd (goes before) → Ending (InBlock aliases before goes)
  block_ends before goes c = ends_with (mark (codes "}")) close_no_else c (InBlock aliases before goes) (λ tokens rest y h. in_turn no_statement (next (is_mark (codes "}")) h))

  behind_ends : (frames : List Frame) (body : List Stmt) (s : Stmt) → Ending (Behind aliases frames body s)
  behind_ends [] body s = block_ends (body ++ s ∷ []) Ended (can_ended (body ++ s ∷ []))
  behind_ends (Frame.Block place before ∷ frames) body s = block_ends (map statement_of before.items ++ s ∷ []) (λ ss. Behind aliases frames body (block place (stmts_of ss))) (ending_ends (behind_ends frames body (block place (stmts_of (map statement_of before.items ++ s ∷ [])))))
  behind_ends (Frame.If place c ∷ frames) body s = let e = behind_ends frames body (if_only place (condition_of c) s) in record { first = e.first; no_else = e.no_else; more = e.more; tree = e.tree; completes = λ rest. only e.no_else (e.completes rest) }
  behind_ends (Frame.Else place c first ∷ frames) body s = behind_ends frames body (if_else place (condition_of c) (statement_of first.value) s)
  behind_ends (Frame.While place c ∷ frames) body s = behind_ends frames body (while_loop place (condition_of c) s)
  behind_ends (Frame.Do place ∷ frames) body s =
      ends_with (word (codes "while")) while_no_else
      (can_next {Is = λ t. IsMark (codes "(") t} {later = λ t. InTurn Conditions (λ c. Expects (Class.CloseParen ∷ Class.Semicolon ∷ []) (Behind aliases frames body (do_loop place s c)))} (mark (codes "(")) (is_mark (codes "("))
      (can_then (λ c. Expects (Class.CloseParen ∷ Class.Semicolon ∷ []) (Behind aliases frames body (do_loop place s c))) can_condition (λ c. can_expect Phrase.CloseSemicolon (ending_ends (behind_ends frames body (do_loop place s c))))))
      (BehindDo place (Behind aliases frames body) s)
      (λ tokens rest y h. next (is_word (codes "while")) h)
  behind_ends (Frame.For h ∷ frames) body s = behind_ends frames body (for_loop (head_of h.value) s)

  can_statement : CanEnd (Statements aliases)
  can_statement = record { more = mark (codes ";") ∷ []; tree = _; completes = λ rest. empty_statement (is_mark (codes ";")) }

  can_behind : (frames : List Frame) (body : List Stmt) (s : Stmt) → CanEnd (Behind aliases frames body s)
  can_behind frames body s = ending_ends (behind_ends frames body s)

  can_start : (frames : List Frame) (body : List Stmt) → CanEnd (AtStart aliases frames body)
  can_start [] body = ending_ends (block_ends body Ended (can_ended body))
  can_start (Frame.Block place before ∷ frames) body = ending_ends (block_ends (map statement_of before.items) (λ ss. Behind aliases frames body (block place (stmts_of ss))) (can_behind frames body (block place (stmts_of (map statement_of before.items)))))
  can_start (Frame.If place c ∷ frames) body = can_then (Behind aliases (Frame.If place c ∷ frames) body) can_statement (λ s. can_behind (Frame.If place c ∷ frames) body s)
  can_start (Frame.Else place c first ∷ frames) body = can_then (Behind aliases (Frame.Else place c first ∷ frames) body) can_statement (λ s. can_behind (Frame.Else place c first ∷ frames) body s)
  can_start (Frame.While place c ∷ frames) body = can_then (Behind aliases (Frame.While place c ∷ frames) body) can_statement (λ s. can_behind (Frame.While place c ∷ frames) body s)
  can_start (Frame.Do place ∷ frames) body = can_then (Behind aliases (Frame.Do place ∷ frames) body) can_statement (λ s. can_behind (Frame.Do place ∷ frames) body s)
  can_start (Frame.For h ∷ frames) body = can_then (Behind aliases (Frame.For h ∷ frames) body) can_statement (λ s. can_behind (Frame.For h ∷ frames) body s)

can_declares : (aliases : List (List ℕ)) (base : Base) → CanEnd (BehindBase aliases base)
can_declares aliases base = record { more = word (codes "a") ∷ mark (codes ";") ∷ []; tree = _; completes = λ rest. in_turn (bare (declarator no_star a_name)) (behind_initials last_initial (is_mark (codes ";"))) }

-- given that the readers of parts can end
module _
    (expression_ends : (r : ExpressionReader) → CanEnd (CompletesExpression r))
    (condition_ends : (r : ConditionReader) → CanEnd (CompletesCondition r))
    (right_ends : (aliases : List (List ℕ)) (r : RightReader) → CanEnd (CompletesRight aliases r))
    (simple_ends : (aliases : List (List ℕ)) (r : SimpleReader) → CanEnd (CompletesSimple aliases r))
    (declaration_ends : (aliases : List (List ℕ)) (r : DeclarationReader) → CanEnd (CompletesDeclaration aliases r))
    (aliases : List (List ℕ)) where
  line_ends : (r : LineReader) → CanEnd (CompletesLine aliases r)
  line_ends LineReader.Start = record { more = mark (codes ";") ∷ []; tree = _; completes = λ rest. starts_empty (is_mark (codes ";")) }
  line_ends (LineReader.Struct place) = can_next (word (codes "a")) a_name (can_then (λ d. Ended (declares d)) (can_declares aliases (Base.Struct place (name_of (word (codes "a"))))) (λ d. can_ended (declares d)))
  line_ends (LineReader.Alias known) = can_left _ _ (can_then (λ d. Ended (declares d)) (can_declares aliases (Base.Alias known.name)) (λ d. can_ended (declares d)))
  line_ends (LineReader.Declaration r) = can_then (λ d. Ended (declares d)) (declaration_ends aliases r.value) (λ d. can_ended (declares d))
  line_ends (LineReader.Simple r) = can_then BehindSimple (simple_ends aliases r.value) (λ s. can_expect Phrase.Semicolon (can_ended (performs s)))

  arguments_end : (shape : Shape) (args : List Argument) → CanEnd (BehindArguments shape args)
  arguments_end shape args = can_then (λ all. Expects (Class.CloseParen ∷ []) (Ended (shaped shape all))) (record { more = []; tree = args; completes = λ rest. last_argument }) (λ all. can_expect Phrase.Close (can_ended (shaped shape all)))

  use_ends : (usage : Use) (a : Argument) → CanEnd (BehindUse usage a)
  use_ends (Use.Start place predicate) a = arguments_end (Shape.Assert place predicate a) []
  use_ends (Use.Last shape args) a = arguments_end shape (args.items ++ a ∷ [])

  argument_ends : (usage : Use) → CanEnd (InTurn Arguments (BehindUse usage))
  argument_ends usage = can_then (BehindUse usage) (record { more = word (codes "a") ∷ []; tree = _; completes = λ rest. name_argument a_name }) (λ a. use_ends usage a)

  minus_ends : (usage : Use) (place : Place) → CanEnd (InTurn (BehindMinus place) (BehindUse usage))
  minus_ends usage place = can_then (BehindUse usage) (record { more = zero_token ∷ []; tree = _; completes = λ rest. negative a_number }) (λ a. use_ends usage a)

  comma_ends : (command : Command) (place : Place) (predicate : Name) → CanEnd (BehindComma command place predicate)
  comma_ends Command.Assume place predicate = can_next (word (codes "a")) a_name (arguments_end (Shape.Assume place predicate (name_of (word (codes "a")))) [])
  comma_ends Command.Assert place predicate = argument_ends (Use.Start place predicate)

  predicate_ends : (command : Command) (place : Place) (predicate : Name) → CanEnd (BehindPredicate command place predicate)
  predicate_ends command place predicate = can_next (mark (codes ",")) (is_mark (codes ",")) (comma_ends command place predicate)

  shape_ends : (r : ShapeReader) → CanEnd (CompletesShape r)
  shape_ends (ShapeReader.Predicate command place) = can_next (word (codes "a")) a_name (predicate_ends command place (name_of (word (codes "a"))))
  shape_ends (ShapeReader.Comma command place predicate) = predicate_ends command place predicate
  shape_ends (ShapeReader.Variable place predicate) = comma_ends Command.Assume place predicate
  shape_ends (ShapeReader.Argument usage) = argument_ends usage
  shape_ends (ShapeReader.Negative usage place) = minus_ends usage place
  shape_ends (ShapeReader.Arguments shape args) = arguments_end shape args.items

  module _ (nest : Nest) where
    around : (s : Stmt) → CanEnd (Around aliases nest s)
    around s = can_behind aliases (frames_of nest) (body_of nest) s

    last_ends : (place : Place) (start : Start) (c : Option Cond) (last : Option SimpleTree) → CanEnd (BehindLast aliases place start c (Around aliases nest) last)
    last_ends place start c last = can_expect Phrase.Close (can_then (λ s. Around aliases nest (for_loop (record { place = place; start = start; condition = c; last = last }) s)) (can_statement aliases) (λ s. around (for_loop (record { place = place; start = start; condition = c; last = last }) s)))

    at_last_ends : (place : Place) (start : Start) (c : Option Cond) → CanEnd (AtLast aliases place start (Around aliases nest) c)
    at_last_ends place start c = can_then (BehindLast aliases place start c (Around aliases nest)) (record { more = []; tree = None; completes = λ rest. no_simple }) (λ last. last_ends place start c last)

    for_condition_ends : (place : Place) (start : Start) (c : Option Cond) → CanEnd (BehindForCondition aliases place start (Around aliases nest) c)
    for_condition_ends place start c = can_expect Phrase.Semicolon (at_last_ends place start c)

    at_for_condition_ends : (place : Place) (start : Start) → CanEnd (AtForCondition aliases place (Around aliases nest) start)
    at_for_condition_ends place start = can_then (BehindForCondition aliases place start (Around aliases nest)) (record { more = []; tree = None; completes = λ rest. no_condition }) (λ c. for_condition_ends place start c)

    purpose_ends : (purpose : Purpose) (c : Cond) → CanEnd (BehindPurpose aliases purpose (Around aliases nest) c)
    purpose_ends (Purpose.Assert place) c = can_expect Phrase.CloseSemicolon (around (assert place c))
    purpose_ends (Purpose.Assume place) c = can_expect Phrase.CloseSemicolon (around (assume place c))
    purpose_ends (Purpose.If place) c = can_expect Phrase.Close (can_then (BehindFirst aliases place c (Around aliases nest)) (can_statement aliases) (λ s. first_ends place c s))
      where
        first_ends : (place : Place) (c : Cond) (s : Stmt) → CanEnd (BehindFirst aliases place c (Around aliases nest) s)
        first_ends place c s = let e = behind_ends aliases (frames_of nest) (body_of nest) (if_only place c s) in record { more = e.first ∷ e.more; tree = e.tree; completes = λ rest. only e.no_else (e.completes rest) }
    purpose_ends (Purpose.While place) c = can_expect Phrase.Close (can_then (λ s. Around aliases nest (while_loop place c s)) (can_statement aliases) (λ s. around (while_loop place c s)))
    purpose_ends (Purpose.Do place s) c = can_expect Phrase.CloseSemicolon (around (do_loop place (statement_of s) c))
    purpose_ends (Purpose.For place start) c = for_condition_ends place (start_of start) (Some c)

    line_purpose_ends : (purpose : LinePurpose) (start : Start) → CanEnd (BehindLine aliases purpose (Around aliases nest) start)
    line_purpose_ends (LinePurpose.Statement place) start = around (line_of place start)
    line_purpose_ends (LinePurpose.For place) start = at_for_condition_ends place start

    state_ends : (state : State) → CanEnd (AtState aliases nest state)
    state_ends State.Start = can_start aliases (frames_of nest) (body_of nest)
    state_ends (State.Behind s) = around (statement_of s)
    state_ends (State.Line purpose r) = can_then (BehindLine aliases purpose (Around aliases nest)) (line_ends r) (λ start. line_purpose_ends purpose start)
    state_ends (State.Freed place r) = can_then (BehindFreed place (Around aliases nest)) (expression_ends r.value) (λ e. can_expect Phrase.CloseSemicolon (around (free place e)))
    state_ends (State.Condition purpose r) = can_then (BehindPurpose aliases purpose (Around aliases nest)) (condition_ends r.value) (λ c. purpose_ends purpose c)
    state_ends (State.Return place) = can_left (Expects (Class.Semicolon ∷ []) (Around aliases nest (returns place None))) (InTurn (Rights aliases) (BehindValue place (Around aliases nest))) (can_expect Phrase.Semicolon (around (returns place None)))
    state_ends (State.Value place r) = can_then (BehindValue place (Around aliases nest)) (right_ends aliases r.value) (λ v. can_expect Phrase.Semicolon (around (returns place (Some v))))
    state_ends (State.ForCondition place start) = at_for_condition_ends place (start_of start)
    state_ends (State.ForLast place start c) = at_last_ends place (start_of start) (option_map condition_of c)
    state_ends (State.Last place start c r) = can_then (λ last. BehindLast aliases place (start_of start) (option_map condition_of c) (Around aliases nest) (Some last)) (simple_ends aliases r.value) (λ last. last_ends place (start_of start) (option_map condition_of c) (Some last))
    state_ends (State.Shape r) = can_then (BehindShape (Around aliases nest)) (shape_ends r) (λ s. can_expect Phrase.Semicolon (around s))

  expected_ends : {Y : Type 0} {later : Tokens → Tokens → Y → Type 0} (expected : Option Phrase) → CanEnd later → CanEnd (Expects (expected_of expected) later)
  expected_ends None c = c
  expected_ends (Some phrase) c = can_expect phrase c

  -- a reader of a body can end
  pub body_ends : (r : BodyReader) → CanEnd (CompletesBody aliases r)
  body_ends r = expected_ends r.expected (state_ends r.nest r.state)
