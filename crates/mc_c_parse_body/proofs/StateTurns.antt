-- What a token does to the parts of a statement.
use Rattle.std.proofs.Common.{◌≡◌, ℕ, List, [], ◌∷◌, ◌⊎◌, inl, inr, refl, IsTrue, Option, Some, None}
use Rattle.std.specs.Prelude.{codes}
use Rattle.mc_base.specs.declared.text.place.Place.{Place}
use Rattle.mc_base.specs.declared.text.token.Token.{Token}
use Rattle.mc_c_syntax.specs.declared.ast.class.Class.{Class}
use Rattle.mc_c_syntax.specs.Ast.Trees.{Expr, Cond, Right, Start, Stmt, returns}
use Rattle.mc_c_syntax.specs.Ast.Names.{Tokens, IsMark, is_in}
use Rattle.mc_c_syntax.specs.Ast.Classes.{IsClass}
use Rattle.mc_c_syntax.specs.Ast.Grammar.{named, IsUnary, negative, numeral, null_word, input_call, variable, in_parens, product, IsSum, sum_of, IsBang, bang_bang, bang_variable, bang_input, bang_parens, IsOne, plain_one, comparison, negated, condition_parens, all_of, IsCondition, any_of, without, with_some, no_cast, cast, IsRight, sum, called, allocated, no_condition, condition, no_simple, some_simple}
use Rattle.mc_c_syntax.specs.Ast.Readers.{Takes}
use Rattle.mc_c_parse_expr.specs.Conditions.{condition_marks}
use Rattle.mc_c_parse_expr.specs.Turns.{InTurn, in_turn}
use Rattle.mc_c_parse_simple.specs.Phrases.{next}
use Rattle.mc_c_parse_simple.specs.Rights.{Rights}
use Rattle.mc_c_parse_simple.specs.Simples.{Simples}
use Rattle.mc_c_parse_simple.proofs.Phrases.{SameAt, takes_along, closes_along, stuck_along, then_takes, then_stuck, next_takes, next_stuck, either_left, either_right}
use Rattle.mc_c_parse_body.specs.Phrases.{Conditions}
use Rattle.mc_c_parse_body.specs.States.{BehindValue, BehindReturn, BehindLast, AtLast, BehindForCondition, AtForCondition, BehindPurpose}
use Rattle.mc_c_parse_body.specs.Bodies.{CompletesBody, IsBodyStep}
use Rattle.mc_c_parse_body.specs.declared.state.Purpose.{Purpose}
use Rattle.mc_c_parse_body.specs.declared.state.BodyReader.{BodyReader}
use Rattle.mc_c_parse_body.specs.declared.state.BodyStep.{BodyStep}
use Rattle.mc_c_parse_body.proofs.Unique.{IsMarks, class_of_mark}
use Rattle.mc_c_parse_body.proofs.Tokens.{first_is, rejects}
use Rattle.mc_c_parse_body.proofs.LineTurns as lines

pub body_step_along : (aliases : List (List ℕ)) (reader : BodyReader) {now other : Tokens → Tokens → List Stmt → Type 0} {token : Token} (step : BodyStep) → SameAt now other token → IsBodyStep other (CompletesBody aliases reader) token step → IsBodyStep now (CompletesBody aliases reader) token step
body_step_along aliases reader BodyStep.Taken s h = takes_along s h
body_step_along aliases reader (BodyStep.Closed ss) s h = closes_along s h
body_step_along aliases reader BodyStep.Stuck s h = stuck_along s h

-- the marks after which a part ends
data IsEnd : Class → Type 0 where
  semicolon : IsEnd Class.Semicolon
  close : IsEnd Class.CloseParen

end_marks : {other : Class} → IsEnd other → IsMarks other
end_marks semicolon = tt
end_marks close = tt

clash : {a other : Class} → IsEnd other → (a ≡ Class.Semicolon → ⊥) → (a ≡ Class.CloseParen → ⊥) → a ≡ other → ⊥
clash semicolon f g e = f e
clash close f g e = g e

no_start : (a : Class) {other : Class} (token : Token) → IsEnd other → IsClass token other → (a ≡ Class.Semicolon → ⊥) → (a ≡ Class.CloseParen → ⊥) → IsClass token a → ⊥
no_start a {other} token end is f g h = clash end f g (class_of_mark a other token (end_marks end) h is)

unary_clash : {other : Class} {e : Expr} (token : Token) {tokens rest : Tokens} → IsEnd other → IsClass token other → IsUnary e (token ∷ tokens) rest → ⊥
unary_clash token end is (negative m u) = no_start Class.Minus token end is (λ e. cc) (λ e. cc) m
unary_clash token end is (numeral {n = n} k) = no_start (Class.Number n) token end is (λ e. cc) (λ e. cc) k
unary_clash token end is (null_word w) = no_start Class.Null token end is (λ e. cc) (λ e. cc) w
unary_clash token end is (input_call w b a) = no_start Class.Input token end is (λ e. cc) (λ e. cc) w
unary_clash token end is (variable (named n f)) = no_start Class.Name token end is (λ e. cc) (λ e. cc) n
unary_clash token end is (in_parens b s a) = no_start Class.OpenParen token end is (λ e. cc) (λ e. cc) b

sum_clash : {other : Class} {e : Expr} (token : Token) {tokens rest : Tokens} → IsEnd other → IsClass token other → IsSum e (token ∷ tokens) rest → ⊥
sum_clash token end is (sum_of (product u f) t) = unary_clash token end is u

bang_clash : {other : Class} {c : Cond} (token : Token) {tokens rest : Tokens} → IsEnd other → IsClass token other → IsBang c (token ∷ tokens) rest → ⊥
bang_clash token end is (bang_bang m b) = no_start Class.Bang token end is (λ e. cc) (λ e. cc) m
bang_clash token end is (bang_variable m l) = no_start Class.Bang token end is (λ e. cc) (λ e. cc) m
bang_clash token end is (bang_input m w b a) = no_start Class.Bang token end is (λ e. cc) (λ e. cc) m
bang_clash token end is (bang_parens m b c a) = no_start Class.Bang token end is (λ e. cc) (λ e. cc) m

one_clash : {other : Class} {c : Cond} (token : Token) {tokens rest : Tokens} → IsEnd other → IsClass token other → IsOne c (token ∷ tokens) rest → ⊥
one_clash token end is (plain_one s) = sum_clash token end is s
one_clash token end is (comparison s m t) = sum_clash token end is s
one_clash token end is (negated b) = bang_clash token end is b
one_clash token end is (condition_parens b c a p) = no_start Class.OpenParen token end is (λ e. cc) (λ e. cc) b

condition_clash : {other : Class} {c : Cond} (token : Token) {tokens rest : Tokens} → IsEnd other → IsClass token other → IsCondition c (token ∷ tokens) rest → ⊥
condition_clash token end is (any_of (all_of o b) e) = one_clash token end is o

right_clash : {other : Class} (aliases : List (List ℕ)) {r : Right} (token : Token) {tokens rest : Tokens} → IsEnd other → IsClass token other → IsRight aliases r (token ∷ tokens) rest → ⊥
right_clash aliases token end is (sum s) = sum_clash token end is s
right_clash aliases token end is (called (without n b a)) = no_start Class.Name token end is (λ e. cc) (λ e. cc) n
right_clash aliases token end is (called (with_some n b e m a)) = no_start Class.Name token end is (λ e. cc) (λ e. cc) n
right_clash aliases token end is (allocated no_cast w b s a) = no_start Class.Malloc token end is (λ e. cc) (λ e. cc) w
right_clash aliases token end is (allocated (cast o t p q) w b s a) = no_start Class.OpenParen token end is (λ e. cc) (λ e. cc) o

pub return_semicolon : (aliases : List (List ℕ)) (place : Place) (goes : Stmt → Tokens → Tokens → List Stmt → Type 0) {token : Token} → IsMark (codes ";") token → Takes [] (BehindReturn aliases place goes) (goes (returns place None)) token
return_semicolon aliases place goes {token} is = takes_along (either_left (then_stuck (λ tokens rest r h. right_clash aliases token semicolon is h))) (next_takes is)

pub return_value : (aliases : List (List ℕ)) (place : Place) (goes : Stmt → Tokens → Tokens → List Stmt → Type 0) {token : Token} → ¬ IsMark (codes ";") token → SameAt (BehindReturn aliases place goes) (InTurn (Rights aliases) (BehindValue place goes)) token
return_value aliases place goes {token} isnt = either_right (next_stuck isnt)

module _ (aliases : List (List ℕ)) (place : Place) (start : Start) (goes : Stmt → Tokens → Tokens → List Stmt → Type 0) where
  pub for_no_condition : {token : Token} → IsMark (codes ";") token → Takes [] (AtForCondition aliases place goes start) (AtLast aliases place start goes None) token
  for_no_condition {token} is = record { forward = go; backward = λ tokens rest y h. in_turn no_condition (next is h) }
    where
      go : (tokens rest : Tokens) (y : List Stmt) → AtForCondition aliases place goes start (token ∷ tokens) rest y → AtLast aliases place start goes None tokens rest y ⊎ ((rest ≡ token ∷ tokens) × IsTrue (is_in [] token.text))
      go tokens rest y (in_turn no_condition (next p h)) = inl h
      go tokens rest y (in_turn (condition c) h) = absurd (condition_clash token semicolon is c)

  pub for_condition : {token : Token} → ¬ IsMark (codes ";") token → SameAt (AtForCondition aliases place goes start) (InTurn Conditions (λ c. BehindForCondition aliases place start goes (Some c))) token
  for_condition {token} isnt = record { forward = go; backward = back }
    where
      go : (tokens rest : Tokens) (y : List Stmt) → AtForCondition aliases place goes start (token ∷ tokens) rest y → InTurn Conditions (λ c. BehindForCondition aliases place start goes (Some c)) (token ∷ tokens) rest y
      go tokens rest y (in_turn no_condition h) = absurd (isnt (first_is h))
      go tokens rest y (in_turn (condition c) h) = in_turn c h

      back : (tokens rest : Tokens) (y : List Stmt) → InTurn Conditions (λ c. BehindForCondition aliases place start goes (Some c)) (token ∷ tokens) rest y → AtForCondition aliases place goes start (token ∷ tokens) rest y
      back tokens rest y (in_turn c h) = in_turn (condition c) h

  pub for_no_last : (c : Option Cond) {token : Token} → IsMark (codes ")") token → SameAt (AtLast aliases place start goes c) (BehindLast aliases place start c goes None) token
  for_no_last c {token} is = record { forward = go; backward = λ tokens rest y h. in_turn no_simple h }
    where
      go : (tokens rest : Tokens) (y : List Stmt) → AtLast aliases place start goes c (token ∷ tokens) rest y → BehindLast aliases place start c goes None (token ∷ tokens) rest y
      go tokens rest y (in_turn no_simple h) = h
      go tokens rest y (in_turn (some_simple s) h) = absurd (lines.no_simple Class.CloseParen is (λ e. cc) (λ e. cc) (λ e. cc) s)

  pub for_last : (c : Option Cond) {token : Token} → ¬ IsMark (codes ")") token → SameAt (AtLast aliases place start goes c) (InTurn (Simples aliases) (λ last. BehindLast aliases place start c goes (Some last))) token
  for_last c {token} isnt = record { forward = go; backward = back }
    where
      go : (tokens rest : Tokens) (y : List Stmt) → AtLast aliases place start goes c (token ∷ tokens) rest y → InTurn (Simples aliases) (λ last. BehindLast aliases place start c goes (Some last)) (token ∷ tokens) rest y
      go tokens rest y (in_turn no_simple h) = absurd (isnt (first_is h))
      go tokens rest y (in_turn (some_simple s) h) = in_turn s h

      back : (tokens rest : Tokens) (y : List Stmt) → InTurn (Simples aliases) (λ last. BehindLast aliases place start c goes (Some last)) (token ∷ tokens) rest y → AtLast aliases place start goes c (token ∷ tokens) rest y
      back tokens rest y (in_turn s h) = in_turn (some_simple s) h

purpose_end : (aliases : List (List ℕ)) (purpose : Purpose) (goes : Stmt → Tokens → Tokens → List Stmt → Type 0) (c : Cond) (token : Token) (tokens rest : Tokens) (y : List Stmt) → BehindPurpose aliases purpose goes c (token ∷ tokens) rest y → IsMark (codes ")") token ⊎ IsMark (codes ";") token
purpose_end aliases (Purpose.Assert place) goes c token tokens rest y h = inl (first_is h)
purpose_end aliases (Purpose.Assume place) goes c token tokens rest y h = inl (first_is h)
purpose_end aliases (Purpose.If place) goes c token tokens rest y h = inl (first_is h)
purpose_end aliases (Purpose.While place) goes c token tokens rest y h = inl (first_is h)
purpose_end aliases (Purpose.Do place s) goes c token tokens rest y h = inl (first_is h)
purpose_end aliases (Purpose.For place start) goes c token tokens rest y h = inr (first_is h)

no_condition_mark : {token : Token} → IsMark (codes ")") token ⊎ IsMark (codes ";") token → IsTrue (is_in condition_marks token.text) → ⊥
no_condition_mark {token} (inl m) among = rejects condition_marks (codes ")") token refl m among
no_condition_mark {token} (inr m) among = rejects condition_marks (codes ";") token refl m among

-- within a condition, whatever it is for
pub condition_takes : (aliases : List (List ℕ)) (purpose : Purpose) (goes : Stmt → Tokens → Tokens → List Stmt → Type 0) {first later : Tokens → Tokens → Cond → Type 0} {token : Token} → Takes condition_marks first later token → Takes [] (InTurn first (BehindPurpose aliases purpose goes)) (InTurn later (BehindPurpose aliases purpose goes)) token
condition_takes aliases purpose goes {token = token} t = then_takes t (λ c tokens rest y h among. absurd (no_condition_mark (purpose_end aliases purpose goes c token tokens rest y h) among))
