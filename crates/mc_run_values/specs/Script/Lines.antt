-- How the lines of scripts are spelled.
use Rattle.std.specs.Prelude.{◌≡◌, ℕ, ℤ, List, [], ◌∷◌, All, Result, Ok, Err, codes, string_bytes}
use Rattle.serde_json.specs.Data.{Data}
use Rattle.mc_lines.specs.declared.cert.fault.LineFault.{LineFault}
use Rattle.mc_lines.specs.declared.cert.fault.LineFault.TheVariants as faults
use Rattle.mc_lines.specs.Cert.Document.{IsJson}
use Rattle.mc_lines.specs.Cert.Entries.{IsSigned, count_data, list_data, named_data, signed_data, values_data, word_data}
use Rattle.mc_run_values.specs.declared.script.line.NamedBlock.{NamedBlock}
use Rattle.mc_run_values.specs.declared.script.line.ScriptLine.{ScriptLine}
use Rattle.mc_run_values.specs.declared.script.line.ScriptLine.TheVariants.{Input, Malloc, Shape}

-- a block is an array of its address, the name of its struct, and its fields
abbrev pub block_data : NamedBlock → Data
block_data b = values_data (count_data b.address ∷ word_data (string_bytes b.shape) ∷ list_data signed_data b.fields ∷ [])

-- the signed numbers of a block have 64 bits
abbrev pub BlockFits : NamedBlock → Type 0
BlockFits b = All IsSigned b.fields

-- the table of forms: a line is an array of its name and its entries
abbrev pub line_data : ScriptLine → Data
line_data (Input v) = named_data (codes "input") (signed_data v ∷ [])
line_data (Malloc n) = named_data (codes "malloc") (count_data n ∷ [])
line_data (Shape v blocks) = named_data (codes "shape") (signed_data v ∷ list_data block_data blocks ∷ [])

-- the signed numbers of a line have 64 bits
abbrev pub LineFits : ScriptLine → Type 0
LineFits (Input v) = IsSigned v
LineFits (Malloc n) = Unit {0}
LineFits (Shape v blocks) = IsSigned v × All BlockFits blocks

-- the bytes are JSON of the line's array
abbrev pub SpellsLine : List ℕ → ScriptLine → Type 0
SpellsLine bytes line = (d : Data) × IsJson bytes d × (d ≡ line_data line) × LineFits line

-- what is read of bytes: their line, or that they spell none; want of memory is free
abbrev pub IsLineRead : List ℕ → Result ScriptLine LineFault → Type 0
IsLineRead bytes (Ok line) = SpellsLine bytes line
IsLineRead bytes (Err faults.NotJson) = (line : ScriptLine) → SpellsLine bytes line → ⊥
IsLineRead bytes (Err faults.Form) = (line : ScriptLine) → SpellsLine bytes line → ⊥
IsLineRead bytes (Err faults.Version) = ⊥
IsLineRead bytes (Err faults.NoMemory) = Unit {0}
