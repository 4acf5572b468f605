-- Faults tell why a text is refused.
use Rattle.std.proofs.Common.{◌≡◌, ◌≢◌, ℕ, List, refl, subst}
use Rattle.std.specs.Prelude.{Ok, Err}
use Rattle.mc_base.specs.declared.text.token.Token.{Token}
use Rattle.mc_c_syntax.specs.declared.lex.fault.LexFault.{LexFault}
use Rattle.mc_c_syntax.specs.declared.lex.fault.LexFault.TheVariants as Lexical
use Rattle.mc_c_syntax.specs.Lex.Readings.{Lexes}
use Rattle.mc_c_parse.specs.declared.fault.ParseFault.{ParseFault}
use Rattle.mc_c_parse.specs.declared.fault.ParseFault.TheVariants as Grammatical
use Rattle.mc_c_parse.specs.Faults.{IsFaultOf}
use Rattle.mc_c_syntax.specs.Ast.Trees.{UnitTree}
use Rattle.mc_c_types.specs.declared.faults.Fault.{Fault}
use Rattle.mc_c_types.specs.declared.faults.TypeFault.{TypeFault}
use Rattle.mc_c_types.specs.declared.faults.TypeFault.TheVariants as Typing
use Rattle.mc_c_types.specs.Typing.{IsFirstFault}
use Rattle.mc_c_check.specs.Programs.{IsRefusal}
use Rattle.mc_load.specs.Read.Causes.{fault_of, lexical_refusal, grammatical_refusal}
use Rattle.mc_load.specs.Read.Refusals.{IsFault, by_bytes, by_tokens}

pub lexical_fault : (text : List ℕ) (fault : LexFault) → (fault ≢ Lexical.NoMemory → Lexes text (Err fault)) → (entry : List ℕ) → IsFault text entry (fault_of (lexical_refusal fault))
lexical_fault text (Lexical.BadByte place) read = λ entry. by_bytes (Lexical.BadByte place) (read (λ e. cc)) refl
lexical_fault text (Lexical.OpenComment place) read = λ entry. by_bytes (Lexical.OpenComment place) (read (λ e. cc)) refl
lexical_fault text (Lexical.BadNumber place) read = λ entry. by_bytes (Lexical.BadNumber place) (read (λ e. cc)) refl
lexical_fault text Lexical.NoMemory read = λ entry. tt

pub grammatical_fault : (text : List ℕ) (tokens : List Token) (fault : ParseFault) → Lexes text (Ok tokens) → IsFaultOf tokens fault → (entry : List ℕ) → IsFault text entry (fault_of (grammatical_refusal fault))
grammatical_fault text tokens (Grammatical.Unexpected place) lexes is = λ entry. by_tokens tokens (Grammatical.Unexpected place) lexes is refl
grammatical_fault text tokens (Grammatical.LeftOut token place) lexes is = λ entry. by_tokens tokens (Grammatical.LeftOut token place) lexes is refl
grammatical_fault text tokens Grammatical.NoMemory lexes is = λ entry. tt

pub first_of : (unit : UnitTree) (entry : List ℕ) (told : TypeFault) (fault : Fault) → told ≡ Typing.Refused fault → IsRefusal unit entry told → IsFirstFault unit entry fault
first_of unit entry (Typing.Refused other) fault e is = let same : other ≡ fault = cc in subst (λ (f : Fault). IsFirstFault unit entry f) same is
first_of unit entry Typing.NoMemory fault e is = cc
