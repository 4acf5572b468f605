-- How a refusal is printed.
use Rattle.std.specs.Prelude.{ℕ, List, ◌++◌, codes}
use Rattle.mc_base.specs.Text.Places.{place_text}
use Rattle.mc_load.specs.declared.read.cause.Cause.{Cause}
use Rattle.mc_load.specs.declared.read.cause.Cause.TheVariants.{BadByte, OpenComment, BadNumber, Unexpected, LeftOut, Unknown, Mismatch, Twice, Recursion, NoEntry, BadSizeof, Arity}
use Rattle.mc_load.specs.declared.read.cause.Refusal.{Refusal}

-- a cause's name, and after it the token that is left out
abbrev pub cause_text : Cause → List ℕ
cause_text BadByte = codes "BadByte"
cause_text OpenComment = codes "OpenComment"
cause_text BadNumber = codes "BadNumber"
cause_text Unexpected = codes "Unexpected"
cause_text (LeftOut token) = codes "LeftOut " ++ token
cause_text Unknown = codes "Unknown"
cause_text Mismatch = codes "Mismatch"
cause_text Twice = codes "Twice"
cause_text Recursion = codes "Recursion"
cause_text NoEntry = codes "NoEntry"
cause_text BadSizeof = codes "BadSizeof"
cause_text Arity = codes "Arity"

-- the cause, and its place
abbrev pub refusal_text : Refusal → List ℕ
refusal_text refusal = cause_text refusal.cause ++ codes " at " ++ place_text refusal.place
