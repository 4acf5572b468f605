-- What a token does to a call after its `(`.
use Rattle.std.proofs.Common.{◌≡◌, List, [], ◌∷◌, ◌++◌, ◌⊎◌, inl, refl, codes, IsTrue, ap, ◌∙◌, subst}
use Rattle.std.proofs.lemmas.List.{map-append}
use native.Mathlib.Omega.{arith}
use Rattle.mc_base.specs.declared.text.token.Token.{Token}
use Rattle.mc_c_syntax.specs.declared.ast.trees.Name.{Name}
use Rattle.mc_c_syntax.specs.declared.ast.trees.Expression.{Expression}
use Rattle.mc_c_syntax.specs.Ast.Trees.{Expr, CallTree}
use Rattle.mc_c_syntax.specs.Ast.Names.{Tokens, IsMark, is_in}
use Rattle.mc_c_syntax.specs.Ast.Grammar.{last as no_more, next as one_more}
use Rattle.mc_c_syntax.specs.Ast.Readers.{Takes, Finds, Closes, IsStuckAt}
use Rattle.mc_c_syntax.specs.Ast.Views.{expression_of, expressions_of}
use Rattle.mc_c_parse_expr.specs.Expressions.{expression_marks}
use Rattle.mc_c_parse_expr.specs.Turns.{InTurn, in_turn}
use Rattle.mc_c_parse_simple.specs.declared.call.CallStep.{CallStep}
use Rattle.mc_c_parse_simple.specs.Calls.{Sums, BehindArguments, behind_arguments, BehindArgument, FirstArgument, IsCallStep}
use Rattle.mc_c_parse_simple.proofs.Phrases.{SameAt, takes_along, closes_along, stuck_along, either_left, then_stuck, then_finds, next_closes}
use Rattle.mc_c_parse_simple.proofs.Tokens.{no_mark}
use Rattle.mc_c_parse_simple.proofs.Sums.{sums_stuck, close_begins_none}

pub call_step_along : {now other : Tokens → Tokens → CallTree → Type 0} {token : Token} (step : CallStep) → SameAt now other token → IsCallStep other token step → IsCallStep now token step
call_step_along (CallStep.Taken reader) s h = takes_along s h
call_step_along (CallStep.Closed call) s h = closes_along s h
call_step_along CallStep.Stuck s h = stuck_along s h

pub arguments_comma : (name : Name) (es : List Expr) {token : Token} → IsMark (codes ",") token → Takes [] (BehindArguments name es) (InTurn Sums (BehindArgument name es)) token
arguments_comma name es {token} is = record { forward = go; backward = back }
  where
    go : (tokens rest : Tokens) (y : CallTree) → BehindArguments name es (token ∷ tokens) rest y → InTurn Sums (BehindArgument name es) tokens rest y ⊎ ((rest ≡ token ∷ tokens) × IsTrue (is_in [] token.text))
    go tokens rest y (behind_arguments no_more close) = grind arith
    go tokens rest y (behind_arguments (one_more comma sum more) close) = inl (in_turn sum (behind_arguments more close))

    back : (tokens rest : Tokens) (y : CallTree) → InTurn Sums (BehindArgument name es) tokens rest y → BehindArguments name es (token ∷ tokens) rest y
    back tokens rest y (in_turn sum (behind_arguments more close)) = behind_arguments (one_more is sum more) close

pub arguments_close : (name : Name) (es : List Expr) {token : Token} → IsMark (codes ")") token → Closes (BehindArguments name es) token (record { function = name; arguments = es })
arguments_close name es {token} is = record { forward = go; backward = λ tokens. behind_arguments no_more is }
  where
    go : (tokens rest : Tokens) (y : CallTree) → BehindArguments name es (token ∷ tokens) rest y → (rest ≡ tokens) × (y ≡ record { function = name; arguments = es })
    go tokens rest y (behind_arguments no_more close) = (refl, refl)
    go tokens rest y (behind_arguments (one_more comma sum more) close) = grind arith

pub arguments_stuck : (name : Name) (es : List Expr) {token : Token} → ¬ IsMark (codes ",") token → ¬ IsMark (codes ")") token → IsStuckAt (BehindArguments name es) token
arguments_stuck name es no_comma no_close tokens rest y (behind_arguments no_more close) = no_close close
arguments_stuck name es no_comma no_close tokens rest y (behind_arguments (one_more comma sum more) close) = no_comma comma

-- an argument is there, and the token shows what follows it
pub argument_found : (name : Name) (before after : List Expression) (e : Expression) {first : Tokens → Tokens → Expr → Type 0} {token : Token} (step : CallStep) → after ≡ before ++ e ∷ [] → Finds first token (expression_of e) → IsCallStep (BehindArguments name (expressions_of after)) token step → IsCallStep (InTurn first (BehindArgument name (expressions_of before))) token step
argument_found name before after e {first} {token} step is found h =
    let all : expressions_of after ≡ expressions_of before ++ expression_of e ∷ [] = ap expressions_of is ∙ map-append expression_of before (e ∷ []) in
    call_step_along step (then_finds found) (subst (λ es. IsCallStep (BehindArguments name es) token step) all h)

-- no mark of an expression stands after an argument
pub arguments_end : (name : Name) (es : List Expr) {token : Token} {tokens rest : Tokens} {y : CallTree} → BehindArguments name es (token ∷ tokens) rest y → IsTrue (is_in expression_marks token.text) → ⊥
arguments_end name es (behind_arguments no_more close) marks = no_mark expression_marks close refl marks
arguments_end name es (behind_arguments (one_more comma sum more) close) marks = no_mark expression_marks comma refl marks

pub first_close : (name : Name) (es : List Expr) {token : Token} → IsMark (codes ")") token → Closes (FirstArgument name es) token (record { function = name; arguments = es })
first_close name es is = closes_along (either_left (then_stuck (sums_stuck (close_begins_none is)))) (next_closes (λ after. record { function = name; arguments = es }) is)
