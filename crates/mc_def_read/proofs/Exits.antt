-- How the reading of a text ends.
use Rattle.std.proofs.Common.{◌≡◌, ◌≢◌, ℕ, List, refl, ap, sym, subst}
use Rattle.std.specs.Prelude.{Result, Ok, Err, Some, None, MatchResult}
use Rattle.mc_base.specs.declared.text.place.Place.{Place}
use Rattle.mc_base.specs.declared.text.token.Token.{Token}
use Rattle.mc_c_syntax.specs.declared.lex.fault.LexFault.{LexFault}
use Rattle.mc_c_syntax.specs.declared.lex.fault.LexFault.TheVariants as Lexical
use Rattle.mc_c_syntax.specs.Lex.Readings.{Lexes}
use Rattle.mc_flow.specs.declared.defs.rules.Def.{Def}
use Rattle.mc_flow.specs.declared.defs.shapes.StructInfo.{StructInfo}
use Rattle.mc_def_parse.specs.declared.fault.Cause.{Cause}
use Rattle.mc_def_parse.specs.declared.fault.Cause.TheVariants as Cause
use Rattle.mc_def_parse.specs.declared.fault.Refusal.{Refusal}
use Rattle.mc_def_parse.specs.declared.fault.DefFault.{DefFault}
use Rattle.mc_def_parse.specs.declared.fault.DefFault.TheVariants.{Refused, NoMemory}
use Rattle.mc_def_parse.specs.declared.tree.DefText.{DefText}
use Rattle.mc_def_parse.specs.Faults.{IsOnlyFile, IsSyntaxFault}
use Rattle.mc_def_read.specs.Judging.{Judged, judged, Finds}
use Rattle.mc_def_read.specs.Readings.{ReadsAs, by_bytes, by_tokens, by_items, IsFault, place_of, syntax_at, syntax_fault}

pub at_bytes : (text : List ℕ) (fault : LexFault) (told : DefFault) → told ≡ syntax_fault (place_of fault) → (fault ≢ Lexical.NoMemory → Lexes text (Err fault)) → (structs : List StructInfo) → IsFault text structs told
at_bytes text (Lexical.BadByte place) told e h structs = rw e (by_bytes (Lexical.BadByte place) place (h (λ none. cc)) refl)
at_bytes text (Lexical.OpenComment place) told e h structs = rw e (by_bytes (Lexical.OpenComment place) place (h (λ none. cc)) refl)
at_bytes text (Lexical.BadNumber place) told e h structs = rw e (by_bytes (Lexical.BadNumber place) place (h (λ none. cc)) refl)
at_bytes text Lexical.NoMemory told e h structs = rw e tt

abbrev with_cause : Place → Cause → Refusal
with_cause place cause = record { cause = cause; place = place }

is_syntax : (refusal : Refusal) → refusal.cause ≡ Cause.Syntax → syntax_at refusal.place ≡ refusal
is_syntax refusal e = ap (with_cause refusal.place) (sym e)

pub at_token : (text : List ℕ) (structs : List StructInfo) (tokens : List Token) (fault : DefFault) → Lexes text (Ok tokens) → IsSyntaxFault tokens fault → IsFault text structs fault
at_token text structs tokens (Refused refusal) lexed stop =
    subst (λ (r : Refusal). ReadsAs text structs (Err r)) (is_syntax refusal stop.0) (by_tokens tokens refusal.place lexed stop.1)
at_token text structs tokens NoMemory lexed stop = tt

pub at_item : {B : Type 0} (text : List ℕ) (structs : List StructInfo) (tokens : List Token) (file : List DefText) (of : B → List Def) (fault : DefFault) → Lexes text (Ok tokens) → IsOnlyFile file tokens → Finds (judged structs file) of (Err fault) → IsFault text structs fault
at_item text structs tokens file of (Refused refusal) lexed only found = by_items tokens file lexed only found
at_item text structs tokens file of NoMemory lexed only found = tt

pub at_last : (text : List ℕ) (structs : List StructInfo) (tokens : List Token) (file : List DefText) (result : Result (List Def) DefFault) → Lexes text (Ok tokens) → IsOnlyFile file tokens → Finds (judged structs file) (λ defs. defs) result → MatchResult result (λ defs. ReadsAs text structs (Ok defs)) (λ fault. IsFault text structs fault)
at_last text structs tokens file (Ok defs) lexed only found = by_items tokens file lexed only found
at_last text structs tokens file (Err fault) lexed only found = at_item text structs tokens file (λ (defs : List Def). defs) fault lexed only found
