-- The numbers of names.
use Rattle.std.proofs.Common.{◌≡◌, ℕ, ◌+◌, List, ◌++◌, length, true, false, refl}
use Rattle.std.specs.Prelude.{Some, None, position, is_some}
use Rattle.mc_c_syntax.specs.Ast.Names.{is_same}
use Rattle.mc_def_read.specs.Judging.{is_blank, number_in}
use Rattle.mc_def_read.proofs.Positions.{position_front, position_behind, position_none}

pub number_blank : (names : List (List ℕ)) (text : List ℕ) → is_blank text ≡ true → number_in names text ≡ None
number_blank names text e = rw e refl

pub number_front : (front own : List (List ℕ)) (text : List ℕ) (i : ℕ) → is_blank text ≡ false → position (λ name. is_same name text) front ≡ Some i → number_in (front ++ own) text ≡ Some i
number_front front own text i e f = rw e (position_front (λ name. is_same name text) front own i f)

pub number_behind : (front own : List (List ℕ)) (text : List ℕ) (j : ℕ) → is_blank text ≡ false → position (λ name. is_same name text) front ≡ None → position (λ name. is_same name text) own ≡ Some j → number_in (front ++ own) text ≡ Some (length front + j)
number_behind front own text j e f g = rw e (position_behind (λ name. is_same name text) front own j f g)

pub number_none : (front own : List (List ℕ)) (text : List ℕ) → is_blank text ≡ false → position (λ name. is_same name text) front ≡ None → position (λ name. is_same name text) own ≡ None → number_in (front ++ own) text ≡ None
number_none front own text e f g = rw e (position_none (λ name. is_same name text) front own f g)
