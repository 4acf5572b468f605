-- What is read of a written document.
use Rattle.std.proofs.Common.{◌≡◌, ◌∙◌, ◌++◌, ℕ, Bool, true, false, List, [], ◌∷◌, map, refl, sym, ap, arith, append_assoc, append-nil}
use Rattle.std.specs.Prelude.{if◌then◌else◌, ◌==◌}
use Rattle.std.specs.List.{AllByRecursion}
use Rattle.mc_lines.specs.declared.cert.line.Line.{Line}
use Rattle.mc_lines.specs.Cert.Document.{Spells, data_of}
use Rattle.mc_lines.specs.Cert.Lines.{lines_of, onto_first}
use Rattle.mc_lines.specs.Written.Written.{document_text, line_text}
use Rattle.mc_lines.proofs.WrittenLemmas.OneLine.{IsOneLine, value_line}

-- a line in front, with its line feed
line_first : (bytes rest : List ℕ) → IsOneLine bytes → lines_of (bytes ++ 10 ∷ rest) ≡ bytes ∷ lines_of rest
line_first [] rest line = refl
line_first (b ∷ bs) rest line = go (b == 10) refl (line_first bs rest line.1)
  where
    go : (t : Bool) → (b == 10) ≡ t → lines_of (bs ++ 10 ∷ rest) ≡ bs ∷ lines_of rest
        → (if t then [] ∷ lines_of (bs ++ 10 ∷ rest) else onto_first b (lines_of (bs ++ 10 ∷ rest))) ≡ (b ∷ bs) ∷ lines_of rest
    go true e later = absurd (line.0 (grind (arith, e)))
    go false e later = ap (onto_first b) later

pub lines_written : (lines : List Line) → lines_of (document_text lines) ≡ map line_text lines
lines_written [] = refl
lines_written (l ∷ ls) =
    ap lines_of (append_assoc (line_text l) (10 ∷ []) (document_text ls)) ∙ (line_first (line_text l) (document_text ls) (value_line (data_of l)) ∙ ap (λ rest. line_text l ∷ rest) (lines_written ls))

-- one line more at the end
pub text_more : (lines : List Line) (l : Line) → document_text (lines ++ l ∷ []) ≡ document_text lines ++ (line_text l ++ 10 ∷ [])
text_more [] l = append-nil (line_text l ++ 10 ∷ [])
text_more (x ∷ xs) l = ap (λ rest. (line_text x ++ 10 ∷ []) ++ rest) (text_more xs l) ∙ sym (append_assoc (line_text x ++ 10 ∷ []) (document_text xs) (line_text l ++ 10 ∷ []))

abbrev pub IsSpelled : Line → Type 0
IsSpelled line = Spells (line_text line) line

pub spelled_more : (lines : List Line) (l : Line) → AllByRecursion IsSpelled lines → IsSpelled l → AllByRecursion IsSpelled (lines ++ l ∷ [])
spelled_more [] l all last = (last, tt)
spelled_more (x ∷ xs) l all last = (all.0, spelled_more xs l all.1 last)
