-- The tokens of a text stand at ascending places.
use Rattle.std.proofs.Common.{◌≡◌, ◌+◌, ◌<◌, ℕ, zero, suc, Bool, true, false, cond, List, [], ◌∷◌, length, take, refl, sym, subst, arith, ◌||◌, Ok, Err}
use Rattle.std.proofs.lemmas.Bool.{false≢true}
use Rattle.mc_base.specs.declared.text.place.Place.{Place}
use Rattle.mc_base.specs.declared.text.token.Token.{Token}
use Rattle.mc_base.specs.declared.text.token.TokenKind.{TokenKind}
use Rattle.mc_c_syntax.specs.declared.lex.piece.Piece.TheVariants.{Lexeme}
use Rattle.mc_c_syntax.specs.declared.lex.spot.Spot.{Spot}
use Rattle.mc_c_syntax.specs.Lex.Spots.{behind}
use Rattle.mc_c_syntax.specs.Lex.Bytes.{is_letter, is_digit, is_word}
use Rattle.mc_c_syntax.specs.Lex.Pieces.{IsPiece, name, number, mark, word_len}
use Rattle.mc_c_syntax.specs.Lex.Readings.{Reading, Reads, at_end, at_fault, past_gap, past_token, token_at, onto}
use Rattle.mc_c_grammar.specs.Places.Places.{IsBefore}
use Rattle.mc_c_grammar.proofs.PlacesLemmas.Orders.{IsUpTo, up_to_itself, before_is_up_to, up_to_up_to, before_up_to, up_to_behind, before_behind}

-- no token stands before the place
abbrev AreFrom : Place → List Token → Type 0
AreFrom p [] = Unit {0}
AreFrom p (token ∷ tokens) = IsUpTo p token.place × AreFrom p tokens

-- the place stands before each token
abbrev pub AreBehind : Place → List Token → Type 0
AreBehind p [] = Unit {0}
AreBehind p (token ∷ tokens) = IsBefore p token.place × AreBehind p tokens

-- each token stands before all that follow it
abbrev pub AreInOrder : List Token → Type 0
AreInOrder [] = Unit {0}
AreInOrder (token ∷ tokens) = AreBehind token.place tokens × AreInOrder tokens

abbrev IsInOrder : Place → Reading → Type 0
IsInOrder p (Ok tokens) = AreFrom p tokens × AreInOrder tokens
IsInOrder p (Err fault) = Unit {0}

from_earlier : (p q : Place) (tokens : List Token) → IsUpTo p q → AreFrom q tokens → AreFrom p tokens
from_earlier p q [] up from = tt
from_earlier p q (token ∷ tokens) up from = (up_to_up_to p q token.place up from.0, from_earlier p q tokens up from.1)

behind_earlier : (p q : Place) (tokens : List Token) → IsBefore p q → AreFrom q tokens → AreBehind p tokens
behind_earlier p q [] less from = tt
behind_earlier p q (token ∷ tokens) less from = (before_up_to p q token.place less from.0, behind_earlier p q tokens less from.1)

in_order_earlier : (p q : Place) (reading : Reading) → IsUpTo p q → IsInOrder q reading → IsInOrder p reading
in_order_earlier p q (Ok tokens) up is = (from_earlier p q tokens up is.0, is.1)
in_order_earlier p q (Err fault) up is = tt

onto_in_order : (token : Token) (q : Place) (rest : Reading) → IsBefore token.place q → IsInOrder q rest → IsInOrder token.place (onto token rest)
onto_in_order token q (Ok tokens) less is =
    ((up_to_itself token.place, from_earlier token.place q tokens (before_is_up_to token.place q less) is.0), (behind_earlier token.place q tokens less is.0, is.1))
onto_in_order token q (Err fault) less is = tt

-- a token has a byte
some_taken : (n b : ℕ) (text : List ℕ) → 0 < n → 0 < length (take n (b ∷ text))
some_taken zero b text some = absurd (omega arith)
some_taken (suc n) b text some = omega arith

some_prefix : (v : Bool) (m : ℕ) → v ≡ true → 0 < cond v (1 + m) 0
some_prefix true m e = omega arith
some_prefix false m e = absurd (false≢true e)

pub or_left : (p q : Bool) → p ≡ true → (p || q) ≡ true
or_left true q e = refl
or_left false q e = absurd (false≢true e)

pub or_right : (p q : Bool) → q ≡ true → (p || q) ≡ true
or_right true q e = refl
or_right false q e = e

token_has_bytes : {spot : Spot} (text : List ℕ) {kind : TokenKind} {n : ℕ} → IsPiece spot text (Lexeme kind n) → 0 < length (take n text)
token_has_bytes [] (name letter len) = absurd (false≢true letter)
token_has_bytes [] (number digit len spelled small) = absurd (false≢true digit)
token_has_bytes [] (mark some len no_line no_block no_include) = absurd (omega (arith, some, len))
token_has_bytes (b ∷ text) (name {n = n} letter len) =
    let some = some_prefix (is_word b) (word_len text) (or_left (is_letter b) (is_digit b) letter) in
    some_taken n b text (subst (λ k. 0 < k) (sym len) some)
token_has_bytes (b ∷ text) (number {n = n} digit len spelled small) =
    let some = some_prefix (is_word b) (word_len text) (or_right (is_letter b) (is_digit b) digit) in
    some_taken n b text (subst (λ k. 0 < k) (sym len) some)
token_has_bytes (b ∷ text) (mark {n = n} some len no_line no_block no_include) = some_taken n b text some

reading_in_order : {spot : Spot} {text : List ℕ} {reading : Reading} → Reads spot text reading → IsInOrder spot.place reading
reading_in_order (at_end {spot = spot} piece) = ((up_to_itself spot.place, tt), (tt, tt))
reading_in_order (at_fault piece) = tt
reading_in_order (past_gap {spot = spot} {text = text} {n = n} {reading = reading} piece more) =
    in_order_earlier spot.place (behind spot (take n text)).place reading (up_to_behind spot (take n text)) (reading_in_order more)
reading_in_order (past_token {spot = spot} {text = text} {kind = kind} {n = n} {rest = rest} piece more e) =
    let less = before_behind spot (take n text) (token_has_bytes text piece) in
    subst (IsInOrder spot.place) (sym e) (onto_in_order (token_at spot kind (take n text)) (behind spot (take n text)).place rest less (reading_in_order more))

pub tokens_in_order : {spot : Spot} {text : List ℕ} {tokens : List Token} → Reads spot text (Ok tokens) → AreInOrder tokens
tokens_in_order reads = (reading_in_order reads).1
