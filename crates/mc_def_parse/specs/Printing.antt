-- How a refusal of definitions is printed.
use Rattle.std.specs.Prelude.{ℕ, List, ◌++◌, codes}
use Rattle.mc_base.specs.Text.Places.{place_text}
use Rattle.mc_def_parse.specs.declared.fault.Cause.{Cause}
use Rattle.mc_def_parse.specs.declared.fault.Cause.TheVariants.{Syntax, UnknownName, Kind, Twice, Unguarded, Undetermined, MissingField, Arity}
use Rattle.mc_def_parse.specs.declared.fault.Refusal.{Refusal}

-- a cause's name
abbrev pub cause_text : Cause → List ℕ
cause_text Syntax = codes "Syntax"
cause_text UnknownName = codes "UnknownName"
cause_text Kind = codes "Kind"
cause_text Twice = codes "Twice"
cause_text Unguarded = codes "Unguarded"
cause_text Undetermined = codes "Undetermined"
cause_text MissingField = codes "MissingField"
cause_text Arity = codes "Arity"

-- the cause, and its place
abbrev pub refusal_text : Refusal → List ℕ
refusal_text refusal = cause_text refusal.cause ++ codes " at " ++ place_text refusal.place
