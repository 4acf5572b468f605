-- Why a text is no program.
use Rattle.std.specs.Prelude.{◌≡◌, ℕ, List, Some, Ok, Err}
use Rattle.mc_base.specs.declared.text.token.Token.{Token}
use Rattle.mc_c_syntax.specs.declared.lex.fault.LexFault.{LexFault}
use Rattle.mc_c_syntax.specs.Lex.Readings.{Lexes}
use Rattle.mc_c_syntax.specs.Ast.Trees.{UnitTree}
use Rattle.mc_c_parse.specs.declared.fault.ParseFault.{ParseFault}
use Rattle.mc_c_parse.specs.Faults.{IsFaultOf}
use Rattle.mc_c_types.specs.declared.faults.Fault.{Fault}
use Rattle.mc_c_types.specs.Typing.{IsFirstFault}
use Rattle.mc_load.specs.declared.read.cause.Refusal.{Refusal}
use Rattle.mc_load.specs.declared.read.cause.ReadFault.{ReadFault}
use Rattle.mc_load.specs.declared.read.cause.ReadFault.TheVariants.{Refused, NoMemory}
use Rattle.mc_load.specs.Read.Causes.{lexical_refusal, grammatical_refusal, typing_refusal}
use Rattle.mc_load.specs.Read.Programs.{IsReadAs}

-- the text is refused for this entry: it has no tokens, its tokens spell no tree, or its tree is not well typed; the first fault is known
pub data IsRefused (text entry : List ℕ) (refusal : Refusal) : Type 0 where
  by_bytes : (fault : LexFault) → Lexes text (Err fault) → lexical_refusal fault ≡ Some refusal → IsRefused text entry refusal
  by_tokens : (tokens : List Token) (fault : ParseFault) → Lexes text (Ok tokens) → IsFaultOf tokens fault
      → grammatical_refusal fault ≡ Some refusal → IsRefused text entry refusal
  by_types : (unit : UnitTree) (fault : Fault) → IsReadAs text unit → IsFirstFault unit entry fault
      → typing_refusal fault ≡ refusal → IsRefused text entry refusal

-- a fault tells why the text is refused; memory may always be missing
abbrev pub IsFault : List ℕ → List ℕ → ReadFault → Type 0
IsFault text entry (Refused refusal) = IsRefused text entry refusal
IsFault text entry NoMemory = Unit {0}
