-- Reports with lines of scripts, line by line.
use Rattle.std.proofs.Common.{◌≡◌, ◌++◌, ◌∙◌, ℕ, List, [], ◌∷◌, inl, inr, map, refl, sym, ap, subst}
use Rattle.std.specs.Prelude.{All, Contains, codes}
use Rattle.std.proofs.lemmas.List.Elements.{All-contains}
use Rattle.std.proofs.lemmas.List.{append-nil, append_assoc}
use Rattle.mc_c_syntax.specs.Ast.Trees.{UnitTree}
use Rattle.mc_flow.specs.declared.defs.rules.Def.{Def}
use Rattle.mc_lines.specs.Cert.Lines.{lines_of}
use Rattle.mc_tries.specs.Found.{IsFound}
use Rattle.mc_tries.specs.declared.found.Found.{Found}
use Rattle.mc_app.specs.Tried.{AreShown, IsAddedBehind, IsAlarmAt, blank_for, parted, script_line}

-- whatever is shown of the lines that are left, behind the text it is shown of the report
abbrev pub SoFar : (report : List ℕ) → List Found → (text rest : List ℕ) → Type 0
SoFar report found text rest =
    (entry : List ℕ) (unit : UnitTree) (defs : List Def) → All (IsFound entry unit defs) found
    → (later : List ℕ) → AreShown entry unit defs (lines_of rest) later → AreShown entry unit defs (lines_of report) (text ++ later)

pub so_far_first : (report : List ℕ) (found : List Found) (text : List ℕ) → text ≡ [] → SoFar report found text report
so_far_first report found text e entry unit defs all later shown = subst (λ (t : List ℕ). AreShown entry unit defs (lines_of report) (t ++ later)) (sym e) shown

pub adds_nothing : (found : List Found) (line before after : List ℕ) → after ≡ before → IsAddedBehind found line before after
adds_nothing found line before after e entry unit defs all = ([], inl refl, e ∙ sym (append-nil before))

pub adds_script : (found : List Found) (line before after : List ℕ) (f : Found) → Contains found f → IsAlarmAt line f.place → after ≡ before ++ script_line f.script.items
    → IsAddedBehind found line before after
adds_script found line before after f among at e entry unit defs all =
    let is = All-contains (IsFound entry unit defs) found f all among in
    (script_line f.script.items, inr (f.script.items, record { place = f.place; at = at; kind = f.kind; faults = is.faults; no_blank = is.no_blank }, refl), e)

glued : (text line feed behind later : List ℕ) → text ++ ((line ++ feed) ++ (behind ++ later)) ≡ (((text ++ line) ++ feed) ++ behind) ++ later
glued text line feed behind later =
    let inner : (line ++ feed) ++ (behind ++ later) ≡ line ++ (feed ++ (behind ++ later)) = append_assoc line feed (behind ++ later) in
    ap (λ (l : List ℕ). text ++ l) inner ∙ sym (append_assoc text line (feed ++ (behind ++ later))) ∙ sym (append_assoc (text ++ line) feed (behind ++ later))
    ∙ sym (append_assoc ((text ++ line) ++ feed) behind later)

pub so_far_next : (report : List ℕ) (found : List Found) (text rest line more before after : List ℕ) → SoFar report found text rest → lines_of rest ≡ line ∷ lines_of more
    → before ≡ (text ++ line) ++ codes "\n" → IsAddedBehind found line before after → SoFar report found after more
so_far_next report found text rest line more before after so_far lines is adds entry unit defs all later shown =
    let added = adds entry unit defs all in
    let whole : AreShown entry unit defs (line ∷ lines_of more) ((line ++ codes "\n") ++ (added.0 ++ later)) = (added.0, later, added.1, shown, refl) in
    let there = subst (λ (ls : List (List ℕ)). AreShown entry unit defs ls ((line ++ codes "\n") ++ (added.0 ++ later))) (sym lines) whole in
    let text_is : after ++ later ≡ (((text ++ line) ++ codes "\n") ++ added.0) ++ later = ap (λ (l : List ℕ). l ++ later) (added.2 ∙ ap (λ (l : List ℕ). l ++ added.0) is) in
    subst (λ (t : List ℕ). AreShown entry unit defs (lines_of report) t) (glued text line (codes "\n") added.0 later ∙ sym text_is)
    (so_far entry unit defs all ((line ++ codes "\n") ++ (added.0 ++ later)) there)

pub so_far_last : (report : List ℕ) (found : List Found) (text rest : List ℕ) → SoFar report found text rest → lines_of rest ≡ []
    → (entry : List ℕ) (unit : UnitTree) (defs : List Def) → All (IsFound entry unit defs) found → AreShown entry unit defs (lines_of report) text
so_far_last report found text rest so_far none entry unit defs all =
    subst (λ (t : List ℕ). AreShown entry unit defs (lines_of report) t) (append-nil text)
    (so_far entry unit defs all [] (subst (λ (ls : List (List ℕ)). AreShown entry unit defs ls []) (sym none) refl))

-- a script that has a line is printed byte by byte
pub parted_of : (script : List ℕ) → (script ≡ [] → ⊥) → parted script ≡ map blank_for script
parted_of [] none = absurd (none refl)
parted_of (b ∷ script) none = refl
