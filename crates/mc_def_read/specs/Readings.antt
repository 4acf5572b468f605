-- What a text is read as.
use Rattle.std.specs.Prelude.{ℕ, List, Option, Some, None, Ok, Err, ◌≡◌}
use Rattle.mc_base.specs.declared.text.place.Place.{Place}
use Rattle.mc_base.specs.declared.text.token.Token.{Token}
use Rattle.mc_c_syntax.specs.declared.lex.fault.LexFault.{LexFault}
use Rattle.mc_c_syntax.specs.declared.lex.fault.LexFault.TheVariants as Lexical
use Rattle.mc_c_syntax.specs.Lex.Readings.{Lexes}
use Rattle.mc_flow.specs.declared.defs.rules.Def.{Def}
use Rattle.mc_flow.specs.declared.defs.shapes.StructInfo.{StructInfo}
use Rattle.mc_def_parse.specs.declared.fault.Cause.TheVariants as Cause
use Rattle.mc_def_parse.specs.declared.fault.Refusal.{Refusal}
use Rattle.mc_def_parse.specs.declared.fault.DefFault.{DefFault}
use Rattle.mc_def_parse.specs.declared.fault.DefFault.TheVariants.{Refused, NoMemory}
use Rattle.mc_def_parse.specs.declared.tree.DefText.{DefText}
use Rattle.mc_def_parse.specs.Faults.{IsStop, IsOnlyFile}
use Rattle.mc_def_read.specs.Judging.{Judged, judged}

-- the place of a fault of bytes
abbrev pub place_of : LexFault → Option Place
place_of (Lexical.BadByte place) = Some place
place_of (Lexical.OpenComment place) = Some place
place_of (Lexical.BadNumber place) = Some place
place_of Lexical.NoMemory = None

-- the fault of a byte or a token that no file can have there
abbrev pub syntax_at : Place → Refusal
syntax_at place = record { cause = Cause.Syntax; place = place }

-- what a fault of bytes is known as
abbrev pub syntax_fault : Option Place → DefFault
syntax_fault (Some place) = Refused (syntax_at place)
syntax_fault None = NoMemory

-- a text is read as definitions over these structs, or as its first fault: it has no tokens, its tokens spell no file, or
-- its items are judged in their order
pub data ReadsAs (text : List ℕ) (structs : List StructInfo) : Judged (List Def) → Type 0 where
  by_bytes : (fault : LexFault) (place : Place) → Lexes text (Err fault) → place_of fault ≡ Some place
      → ReadsAs text structs (Err (syntax_at place))
  by_tokens : (tokens : List Token) (place : Place) → Lexes text (Ok tokens) → IsStop tokens place
      → ReadsAs text structs (Err (syntax_at place))
  by_items : {reading : Judged (List Def)} (tokens : List Token) (file : List DefText) → Lexes text (Ok tokens)
      → IsOnlyFile file tokens → judged structs file ≡ reading → ReadsAs text structs reading

-- a fault is what the text is read as; memory may always be missing
abbrev pub IsFault : List ℕ → List StructInfo → DefFault → Type 0
IsFault text structs (Refused refusal) = ReadsAs text structs (Err refusal)
IsFault text structs NoMemory = Unit {0}
