-- Passes that change no state of a cut.
use Rattle.std.proofs.Common.{◌≡◌, ℕ, List, [], ◌∷◌, ◌++◌, Bool, true, false, refl, ap, subst, ◌∙◌}
use Rattle.std.specs.Prelude.{◌||◌}
use Rattle.mc_base.specs.declared.ids.PointId.{PointId}
use Rattle.mc_lines.specs.declared.cert.line.Line.{Line}
use Rattle.mc_lines.specs.declared.cert.line.Line.TheVariants.{C2, C3}
use Rattle.mc_flow.specs.declared.graph.Flow.{Flow}
use Rattle.mc_kernel.specs.Branches.{Head, Path}
use Rattle.mc_kernel.specs.Instances.{IsInstance, Reads}
use Rattle.mc_joins.specs.Parts.{Basis}
use Rattle.mc_joins.specs.Chains.Chains.{changes, changes_some, over, IsPassLine, ReadsPass}

neither : (a b : Bool) → (a || b) ≡ false → (a ≡ false) × (b ≡ false)
neither false b e = (refl, e)
neither true b e = absurd (cc e)

module _ (flow : Flow) (w : Basis) (cuts : List PointId) where
  -- a line that changes nothing is an instance
  line_stays : (round : ℕ) (heads mid : List Head) (line : Line) (b : Path) (next : List Path) → changes line ≡ false
      → IsPassLine flow w round (over cuts heads) line b next mid → IsInstance flow w.defs (over cuts heads) line b next × (mid ≡ heads)
  line_stays round heads mid line b next none i = at line none i
    where
      at : (l : Line) → changes l ≡ false → IsPassLine flow w round (over cuts heads) l b next mid → IsInstance flow w.defs (over cuts heads) l b next
          × (mid ≡ heads)
      at (C2 tries) none i = absurd (cc none)
      at (C3 j steps) none i = absurd (cc none)
      at l none i = (i.0, i.1)

  pub pass_stays : (round : ℕ) (rules : List Line) (bs stuck : List Path) (heads after : List Head) → changes_some rules ≡ false
      → ReadsPass flow w round cuts rules bs stuck heads after → Reads flow w.defs (over cuts heads) rules bs stuck × (after ≡ heads)
  pass_stays round [] bs stuck heads after none r = ((r.0, r.1), r.2)
  pass_stays round (line ∷ rules) [] stuck heads after none r = absurd r
  pass_stays round (line ∷ rules) (b ∷ bs) stuck heads after none (next, mid, later, i, reads, e) =
      let both = neither (changes line) (changes_some rules) none in
      let here = line_stays round heads mid line b next both.0 i in
      let rest = pass_stays round rules (next ++ bs) later heads after both.1
      (subst (λ (hs : List Head). ReadsPass flow w round cuts rules (next ++ bs) later hs after) here.1 reads) in
      ((next, later, here.0, rest.0, e), rest.1)

  -- and back: an instance changes nothing
  instance_passes : (round : ℕ) (heads : List Head) (line : Line) (b : Path) (next : List Path) → IsInstance flow w.defs (over cuts heads) line b next
      → IsPassLine flow w round (over cuts heads) line b next heads × (changes line ≡ false)
  instance_passes round heads line b next i = at line i
    where
      at : (l : Line) → IsInstance flow w.defs (over cuts heads) l b next → IsPassLine flow w round (over cuts heads) l b next heads × (changes l ≡ false)
      at (C2 tries) i = absurd i
      at (C3 j steps) i = absurd i
      at l i = ((i, refl), refl)

  pub rules_pass : (round : ℕ) (rules : List Line) (bs stuck : List Path) (heads : List Head) → Reads flow w.defs (over cuts heads) rules bs stuck
      → ReadsPass flow w round cuts rules bs stuck heads heads × (changes_some rules ≡ false)
  rules_pass round [] bs stuck heads r = ((r.0, r.1, refl), refl)
  rules_pass round (line ∷ rules) [] stuck heads r = absurd r
  rules_pass round (line ∷ rules) (b ∷ bs) stuck heads (next, later, i, reads, e) =
      let here = instance_passes round heads line b next i in
      let rest = rules_pass round rules (next ++ bs) later heads reads in
      ((next, heads, later, here.0, rest.0, e), ap (λ (x : Bool). x || changes_some rules) here.1 ∙ rest.1)
