-- What a text reads as.
use Rattle.std.specs.Prelude.{◌≡◌, ◌≢◌, ℕ, List, [], ◌∷◌, take, drop, Result, Ok, Err}
use Rattle.mc_base.specs.declared.text.token.Token.{Token}
use Rattle.mc_base.specs.declared.text.token.TokenKind.{TokenKind}
use Rattle.mc_base.specs.declared.text.token.TokenKind.TheVariants.{End as end_kind}
use Rattle.mc_c_syntax.specs.declared.lex.fault.LexFault.{LexFault}
use Rattle.mc_c_syntax.specs.declared.lex.piece.Piece.TheVariants.{End, Gap, Lexeme, Fault}
use Rattle.mc_c_syntax.specs.declared.lex.spot.Spot.{Spot}
use Rattle.mc_c_syntax.specs.Lex.Spots.{start, behind}
use Rattle.mc_c_syntax.specs.Lex.Pieces.{IsPiece}

-- tokens, or a fault
abbrev pub Reading : Type 0
Reading = Result (List Token) LexFault

-- the token that these bytes are at this spot
abbrev pub token_at : Spot → TokenKind → List ℕ → Token
token_at spot kind bytes = record { kind = kind; text = bytes; place = spot.place }

-- a reading with a token before it, which does not matter to a fault
abbrev pub onto : Token → Reading → Reading
onto token (Ok tokens) = Ok (token ∷ tokens)
onto token (Err fault) = Err fault

-- a text reads so from this spot on: piece by piece, up to its end or to its first fault
pub data Reads : Spot → List ℕ → Reading → Type 0 where
  at_end : {spot : Spot} {text : List ℕ} → IsPiece spot text End → Reads spot text (Ok (token_at spot end_kind [] ∷ []))
  at_fault : {spot : Spot} {text : List ℕ} {fault : LexFault} → IsPiece spot text (Fault fault) → Reads spot text (Err fault)
  past_gap : {spot : Spot} {text : List ℕ} {n : ℕ} {reading : Reading} → IsPiece spot text (Gap n)
      → Reads (behind spot (take n text)) (drop n text) reading → Reads spot text reading
  past_token : {spot : Spot} {text : List ℕ} {kind : TokenKind} {n : ℕ} {rest whole : Reading}
      → IsPiece spot text (Lexeme kind n) → Reads (behind spot (take n text)) (drop n text) rest
      → whole ≡ onto (token_at spot kind (take n text)) rest → Reads spot text whole

-- a whole text reads so
abbrev pub Lexes : List ℕ → Reading → Type 0
Lexes text reading = Reads start text reading

-- the last token, and no other, is the end
abbrev pub EndsOnce : List Token → Type 0
EndsOnce [] = ⊥
EndsOnce (token ∷ []) = token.kind ≡ end_kind
EndsOnce (token ∷ next ∷ tokens) = (token.kind ≢ end_kind) × EndsOnce (next ∷ tokens)
