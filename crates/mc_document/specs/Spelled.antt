-- Documents as texts.
use Rattle.std.specs.Prelude.{ℕ, List, [], ◌∷◌}
use Rattle.mc_lines.specs.declared.cert.line.Line.{Line}
use Rattle.mc_lines.specs.Cert.Document.{Spells}

-- each of the texts spells the line in its place
abbrev pub SpellAll : List (List ℕ) → List Line → Type 0
SpellAll [] [] = Unit {0}
SpellAll [] (line ∷ lines) = ⊥
SpellAll (text ∷ texts) [] = ⊥
SpellAll (text ∷ texts) (line ∷ lines) = Spells text line × SpellAll texts lines
