-- What a token does to an allocation.
use Rattle.std.proofs.Common.{ℕ, List, [], inl, inr, Some, None, codes}
use native.Mathlib.Omega.{arith}
use Rattle.mc_base.specs.declared.text.place.Place.{Place}
use Rattle.mc_base.specs.declared.text.token.Token.{Token}
use Rattle.mc_c_syntax.specs.declared.ast.trees.Base.{Base}
use Rattle.mc_c_syntax.specs.Ast.Names.{IsMark}
use Rattle.mc_c_syntax.specs.Ast.Readers.{Takes, IsStuckAt}
use Rattle.mc_c_parse_simple.specs.Phrases.{next}
use Rattle.mc_c_parse_simple.specs.Allocations.{BehindCast, ClosingCast, BehindCastBase}
use Rattle.mc_c_parse_simple.proofs.Phrases.{takes_along, next_takes, next_stuck, either_left, either_right}

star_no_close : {token : Token} → IsMark (codes "*") token → IsMark (codes ")") token → ⊥
star_no_close s o = grind arith

pub cast_star : (aliases : List (List ℕ)) (place : Place) (base : Base) {token : Token} → IsMark (codes "*") token → Takes [] (BehindCastBase aliases place base) (ClosingCast aliases (record { place = place; base = base; pointer = Some token.place })) token
cast_star aliases place base is = takes_along (either_left (next_stuck (λ s. star_no_close is s))) (next_takes is)

pub cast_close : (aliases : List (List ℕ)) (place : Place) (base : Base) {token : Token} → IsMark (codes ")") token → Takes [] (BehindCastBase aliases place base) (BehindCast aliases (record { place = place; base = base; pointer = None })) token
cast_close aliases place base is = takes_along (either_right (next_stuck (λ s. star_no_close s is))) (next_takes is)

pub cast_stuck : (aliases : List (List ℕ)) (place : Place) (base : Base) {token : Token} → ¬ IsMark (codes "*") token → ¬ IsMark (codes ")") token → IsStuckAt (BehindCastBase aliases place base) token
cast_stuck aliases place base no_star no_close tokens rest y (inl (next i l)) = no_star i
cast_stuck aliases place base no_star no_close tokens rest y (inr (next i l)) = no_close i
