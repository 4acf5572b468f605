-- What a token does to a size.
use Rattle.std.proofs.Common.{◌≡◌, ℕ, List, [], ◌∷◌, ◌⊎◌, inl, inr, codes, IsTrue}
use native.Mathlib.Omega.{arith}
use Rattle.mc_base.specs.declared.text.place.Place.{Place}
use Rattle.mc_base.specs.declared.text.token.Token.{Token}
use Rattle.mc_c_syntax.specs.declared.ast.trees.Size.{Size}
use Rattle.mc_c_syntax.specs.Ast.Names.{Tokens, IsMark, IsWord, is_in}
use Rattle.mc_c_syntax.specs.Ast.Grammar.{IsBase, IsSize, of_type, of_parens, of_value}
use Rattle.mc_c_syntax.specs.Ast.Readers.{Takes, IsStuckAt}
use Rattle.mc_c_parse_expr.specs.Turns.{in_turn}
use Rattle.mc_c_parse_simple.specs.declared.size.SizeStep.{SizeStep}
use Rattle.mc_c_parse_simple.specs.Phrases.{next, ended}
use Rattle.mc_c_parse_simple.specs.Sizes.{Sizes, BehindSizeof, BehindParens, BehindParensStar, BehindStar, IsSizeStep}
use Rattle.mc_c_parse_simple.proofs.Phrases.{SameAt, takes_along, closes_along, stuck_along, next_takes, next_stuck, then_stuck, either_left, either_right}
use Rattle.mc_c_parse_simple.proofs.Bases.{base_stuck}
use Rattle.mc_c_parse_simple.proofs.Tokens.{mark_no_word, mark_no_name}

pub size_step_along : (aliases : List (List ℕ)) {now other : Tokens → Tokens → Size → Type 0} {token : Token} (step : SizeStep) → SameAt now other token → IsSizeStep aliases other token step → IsSizeStep aliases now token step
size_step_along aliases (SizeStep.Taken reader) s h = takes_along s h
size_step_along aliases (SizeStep.Closed size) s h = closes_along s h
size_step_along aliases SizeStep.Stuck s h = stuck_along s h

pub size_starts : (aliases : List (List ℕ)) {token : Token} → IsWord (codes "sizeof") token → Takes [] (Sizes aliases) (BehindSizeof aliases token.place) token
size_starts aliases {token} is = record { forward = go; backward = back }
  where
    go : (tokens rest : Tokens) (y : Size) → IsSize aliases y (token ∷ tokens) rest → BehindSizeof aliases token.place tokens rest y ⊎ ((rest ≡ token ∷ tokens) × IsTrue (is_in [] token.text))
    go tokens rest y (of_type w b base a) = inl (inl (next b (inl (in_turn base (next a ended)))))
    go tokens rest y (of_parens w b s n a) = inl (inl (next b (inr (next s (next n (next a ended))))))
    go tokens rest y (of_value w s n) = inl (inr (next s (next n ended)))

    back : (tokens rest : Tokens) (y : Size) → BehindSizeof aliases token.place tokens rest y → IsSize aliases y (token ∷ tokens) rest
    back tokens rest y (inl (next b (inl (in_turn base (next a ended))))) = of_type is b base a
    back tokens rest y (inl (next b (inr (next s (next n (next a ended)))))) = of_parens is b s n a
    back tokens rest y (inr (next s (next n ended))) = of_value is s n

pub size_stuck : (aliases : List (List ℕ)) {token : Token} → ¬ IsWord (codes "sizeof") token → IsStuckAt (Sizes aliases) token
size_stuck aliases isnt tokens rest y (of_type w b base a) = isnt w
size_stuck aliases isnt tokens rest y (of_parens w b s n a) = isnt w
size_stuck aliases isnt tokens rest y (of_value w s n) = isnt w

star_no_open : {token : Token} → IsMark (codes "*") token → IsMark (codes "(") token → ⊥
star_no_open s o = grind arith

pub sizeof_open : (aliases : List (List ℕ)) (place : Place) {token : Token} → IsMark (codes "(") token → Takes [] (BehindSizeof aliases place) (BehindParens aliases place) token
sizeof_open aliases place is = takes_along (either_left (next_stuck (λ s. star_no_open s is))) (next_takes is)

pub sizeof_star : (aliases : List (List ℕ)) (place : Place) {token : Token} → IsMark (codes "*") token → Takes [] (BehindSizeof aliases place) (BehindStar place) token
sizeof_star aliases place is = takes_along (either_right (next_stuck (λ o. star_no_open is o))) (next_takes is)

pub sizeof_stuck : (aliases : List (List ℕ)) (place : Place) {token : Token} → ¬ IsMark (codes "(") token → ¬ IsMark (codes "*") token → IsStuckAt (BehindSizeof aliases place) token
sizeof_stuck aliases place no_open no_star tokens rest y (inl (next i l)) = no_open i
sizeof_stuck aliases place no_open no_star tokens rest y (inr (next i l)) = no_star i

pub star_no_base : (aliases : List (List ℕ)) {token : Token} → IsMark (codes "*") token → IsStuckAt (λ tokens rest base. IsBase aliases base tokens rest) token
star_no_base aliases is = base_stuck aliases (λ w. mark_no_word is w) (λ w. mark_no_word is w) (λ a. mark_no_name is a.name)

pub parens_star : (aliases : List (List ℕ)) (place : Place) {token : Token} → IsMark (codes "*") token → Takes [] (BehindParens aliases place) (BehindParensStar place) token
parens_star aliases place is = takes_along (either_right (then_stuck (star_no_base aliases is))) (next_takes is)
