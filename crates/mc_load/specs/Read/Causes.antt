-- What faults are reported as.
use Rattle.std.specs.Prelude.{Option, Some, None}
use Rattle.mc_c_syntax.specs.declared.lex.fault.LexFault.{LexFault}
use Rattle.mc_c_syntax.specs.declared.lex.fault.LexFault.TheVariants as Lexical
use Rattle.mc_c_parse.specs.declared.fault.ParseFault.{ParseFault}
use Rattle.mc_c_parse.specs.declared.fault.ParseFault.TheVariants as Grammatical
use Rattle.mc_c_types.specs.declared.faults.Fault.{Fault}
use Rattle.mc_c_types.specs.declared.faults.FaultName.{FaultName}
use Rattle.mc_c_types.specs.declared.faults.FaultName.TheVariants as Typing
use Rattle.mc_load.specs.declared.read.cause.Cause.{Cause}
use Rattle.mc_load.specs.declared.read.cause.Cause.TheVariants.{BadByte, OpenComment, BadNumber, Unexpected, LeftOut, Unknown, Mismatch, Twice, Recursion, NoEntry, BadSizeof, Arity}
use Rattle.mc_load.specs.declared.read.cause.Refusal.{Refusal}
use Rattle.mc_load.specs.declared.read.cause.ReadFault.{ReadFault}
use Rattle.mc_load.specs.declared.read.cause.ReadFault.TheVariants.{Refused, NoMemory}

-- what a fault of bytes is known as; out of memory is none
abbrev pub lexical_refusal : LexFault → Option Refusal
lexical_refusal (Lexical.BadByte place) = Some (record { cause = BadByte; place = place })
lexical_refusal (Lexical.OpenComment place) = Some (record { cause = OpenComment; place = place })
lexical_refusal (Lexical.BadNumber place) = Some (record { cause = BadNumber; place = place })
lexical_refusal Lexical.NoMemory = None

-- what a fault of tokens is known as
abbrev pub grammatical_refusal : ParseFault → Option Refusal
grammatical_refusal (Grammatical.Unexpected place) = Some (record { cause = Unexpected; place = place })
grammatical_refusal (Grammatical.LeftOut text place) = Some (record { cause = LeftOut text; place = place })
grammatical_refusal Grammatical.NoMemory = None

-- what a fault of types, or of a shape command, is known as
abbrev pub typing_cause : FaultName → Cause
typing_cause Typing.Unknown = Unknown
typing_cause Typing.Mismatch = Mismatch
typing_cause Typing.Twice = Twice
typing_cause Typing.Recursion = Recursion
typing_cause Typing.NoEntry = NoEntry
typing_cause Typing.BadSizeof = BadSizeof
typing_cause Typing.Arity = Arity

abbrev pub typing_refusal : Fault → Refusal
typing_refusal fault = record { cause = typing_cause fault.name; place = fault.place }

-- a refusal, or out of memory
abbrev pub fault_of : Option Refusal → ReadFault
fault_of (Some refusal) = Refused refusal
fault_of None = NoMemory
