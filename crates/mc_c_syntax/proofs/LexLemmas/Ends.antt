-- The tokens of a reading end once.
use Rattle.std.proofs.Common.{◌≢◌, ℕ, List, [], ◌∷◌, Ok, Err, refl, sym, subst}
use Rattle.mc_c_syntax.specs.declared.lex.spot.Spot.{Spot}
use Rattle.mc_c_syntax.specs.declared.lex.piece.Piece.TheVariants.{Lexeme}
use Rattle.mc_base.specs.declared.text.token.Token.{Token}
use Rattle.mc_base.specs.declared.text.token.TokenKind.{TokenKind}
use Rattle.mc_base.specs.declared.text.token.TokenKind.TheVariants.{End}
use Rattle.mc_c_syntax.specs.Lex.Pieces.{IsPiece, name, number, mark}
use Rattle.mc_c_syntax.specs.Lex.Readings.{Reading, Reads, at_end, at_fault, past_gap, past_token, onto, EndsOnce}

abbrev Ends : Reading → Type 0
Ends (Ok tokens) = EndsOnce tokens
Ends (Err fault) = Unit {0}

no_end : {spot : Spot} {text : List ℕ} {kind : TokenKind} {n : ℕ} → IsPiece spot text (Lexeme kind n) → kind ≢ End
no_end (name e n) f = cc
no_end (number e n s v) f = cc
no_end (mark m n l b i) f = cc

onto_ends : (token : Token) → token.kind ≢ End → (rest : Reading) → Ends rest → Ends (onto token rest)
onto_ends token other (Ok []) ends = absurd ends
onto_ends token other (Ok (next ∷ tokens)) ends = (other, ends)
onto_ends token other (Err fault) ends = tt

reading_ends : {spot : Spot} {text : List ℕ} {reading : Reading} → Reads spot text reading → Ends reading
reading_ends (at_end p) = refl
reading_ends (at_fault p) = tt
reading_ends (past_gap p r) = reading_ends r
reading_ends (past_token {rest = rest} p r e) = subst Ends (sym e) (onto_ends _ (no_end p) rest (reading_ends r))

pub tokens_end : {spot : Spot} {text : List ℕ} {tokens : List Token} → Reads spot text (Ok tokens) → EndsOnce tokens
tokens_end r = reading_ends r
