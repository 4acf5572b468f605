-- A written document spells its lines.
use Rattle.std.proofs.Common.{◌≡◌, ℕ, List, [], ◌∷◌, ap, map, refl, subst, sym}
use Rattle.std.specs.List.{AllByRecursion}
use Rattle.mc_lines.specs.declared.cert.line.Line.{Line}
use Rattle.mc_lines.specs.Cert.Document.{Spells}
use Rattle.mc_lines.specs.Cert.Lines.{lines_of}
use Rattle.mc_document.specs.Spelled.{SpellAll}
use Rattle.mc_exact.specs.Marks.{Alarm, unmarked}
use Rattle.mc_kernel.specs.Branches.{Path}
use Rattle.mc_lines.specs.Written.Written.{IsWritten, line_text}

each_spelled : (lines : List Line) → AllByRecursion (λ line. Spells (line_text line) line) lines → SpellAll (map line_text lines) lines
each_spelled [] all = tt
each_spelled (l ∷ lines) all = (all.0, each_spelled lines all.1)

pub spelled : (lines : List Line) (text : List ℕ) → IsWritten lines text → SpellAll (lines_of text) lines
spelled lines text written = subst (λ (texts : List (List ℕ)). SpellAll texts lines) (sym written.lines_are) (each_spelled lines written.spelled)

-- the branches of alarms that are not marked
pub own_branches : (stuck : List Path) → stuck ≡ map (λ (a : Alarm). a.0) (map unmarked stuck)
own_branches [] = refl
own_branches (b ∷ stuck) = ap (λ (bs : List Path). b ∷ bs) (own_branches stuck)
