-- A reading after the tokens before it.
use Rattle.std.proofs.Common.{◌≡◌, List, [], ◌∷◌, ◌++◌, Ok, Err, refl, ap}
use Rattle.mc_base.specs.declared.text.token.Token.{Token}
use Rattle.mc_c_syntax.specs.declared.lex.fault.LexFault.{LexFault}
use Rattle.mc_c_syntax.specs.Lex.Readings.{Reading, onto}

-- a reading with these tokens before it
abbrev pub all_onto : List Token → Reading → Reading
all_onto [] reading = reading
all_onto (token ∷ tokens) reading = onto token (all_onto tokens reading)

pub all_onto-push : (tokens : List Token) (token : Token) (reading : Reading) → all_onto (tokens ++ token ∷ []) reading ≡ all_onto tokens (onto token reading)
all_onto-push [] token reading = refl
all_onto-push (first ∷ tokens) token reading = ap (onto first) (all_onto-push tokens token reading)

pub all_onto-tokens : (tokens more : List Token) → all_onto tokens (Ok more) ≡ Ok (tokens ++ more)
all_onto-tokens [] more = refl
all_onto-tokens (first ∷ tokens) more = ap (onto first) (all_onto-tokens tokens more)

pub all_onto-fault : (tokens : List Token) (fault : LexFault) → all_onto tokens (Err fault) ≡ Err fault
all_onto-fault [] fault = refl
all_onto-fault (first ∷ tokens) fault = ap (onto first) (all_onto-fault tokens fault)
