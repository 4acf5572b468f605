-- How documents are written.
use Rattle.std.specs.Prelude.{◌≡◌, ℕ, List, [], ◌∷◌, ◌++◌, map}
use Rattle.std.specs.List.{AllByRecursion, flat_map}
use Rattle.serde_json.specs.Written.{compact_text}
use Rattle.mc_lines.specs.declared.cert.line.Line.{Line}
use Rattle.mc_lines.specs.Cert.Document.{Spells, data_of}
use Rattle.mc_lines.specs.Cert.Lines.{lines_of}

-- a line without blanks
abbrev pub line_text : Line → List ℕ
line_text line = compact_text (data_of line)

-- the lines one after the other, each ended by a line feed
abbrev pub document_text : List Line → List ℕ
document_text lines = flat_map (λ line. line_text line ++ 10 ∷ []) lines

-- the text is that of these lines: what is read of it line by line are their texts, each of which spells its line
pub record IsWritten (lines : List Line) (text : List ℕ) : Type 0 where
  pub is_its : text ≡ document_text lines
  pub lines_are : lines_of text ≡ map line_text lines
  pub spelled : AllByRecursion (λ line. Spells (line_text line) line) lines
