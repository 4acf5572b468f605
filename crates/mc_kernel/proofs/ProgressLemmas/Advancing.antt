-- Branches advance, or their instructions are unmet.
use Rattle.std.proofs.Common.{◌≡◌, ◌⊎◌, inl, inr, List, [], Option, Some, None, refl, sym, ◌∙◌}
use Rattle.std.specs.Prelude.{option_and_then}
use Rattle.mc_lines.specs.declared.cert.line.Line.{Line}
use Rattle.mc_flow.specs.declared.defs.rules.Def.{Def}
use Rattle.mc_flow.specs.declared.graph.Flow.{Flow}
use Rattle.mc_flow.specs.Valid.{IsValid}
use Rattle.mc_state.specs.Known.{Test}
use Rattle.mc_rules_steps.specs.declared.gap.Gap.{Gap}
use Rattle.mc_rules_steps.specs.Operands.{code_at}
use Rattle.mc_rules_steps.specs.Unmet.{IsUnmet}
use Rattle.mc_kernel.specs.Branches.{MayStep, Path, Setting}
use Rattle.mc_kernel.specs.JudgedLaws.{IsAsked}
use Rattle.mc_kernel.specs.Judges.{Knowledge}
use Rattle.mc_kernel.specs.Reading.Documents.{IsMade}
use Rattle.mc_kernel.specs.Progress.Asked.{CodeLinesAreRight, FirstLinesAreRight, IsRight, at_code, false_or_null}
use Rattle.mc_kernel.specs.Progress.Progress.{Advances, BranchesAdvance, ChainsAdvance, IsInside}
use Rattle.mc_kernel.specs.Oracle.Judges.{JudgesAreThere}

advances_by : (flow : Flow) (defs : List Def) (g : Setting) (b : Path) (asked : Option Line) → IsRight flow defs g b asked → Advances flow defs g b
advances_by flow defs g b asked r = record { line = r.line; is_such = r.is_such; next = r.next; instance = r.instance }

-- what branches ask for is right
pub record Laws : Type 0 where
  pub judges : JudgesAreThere
  pub first : FirstLinesAreRight
  pub code : CodeLinesAreRight

module _ (laws : Laws) (flow : Flow) (defs : List Def) (g : Setting) (b : Path) (valid : IsValid flow defs) (made : IsMade flow defs b) (inside : IsInside flow b)
    (may : MayStep g b) (k : Knowledge) (asked : IsAsked k flow defs b) where
  abbrev know : Test
  know = k.know b.state

  abbrev Answer : Type 0
  Answer = Advances flow defs g b ⊎ ((gap : Gap) × IsUnmet flow defs b.point b.state gap)

  by_gap : false_or_null know b.state.graph.edges ≡ None → (o : Option Gap) → k.gap b.point b.state ≡ o → Answer
  by_gap none (Some gap) e = inr (gap, (asked.gap gap).0 e)
  by_gap none None e =
      inl (advances_by flow defs g b (option_and_then (at_code know defs b.state) (code_at flow b.point))
      (laws.code know flow defs g b valid made inside may asked.given.tells none
      (λ gap unmet. (let two : None ≡ Some gap = sym e ∙ (asked.gap gap).1 unmet in cc two))))

  answer : Answer
  answer = elim (laws.first know flow defs g b made may.open_still asked.given.tells) [
    | inl r ↦ inl (advances_by flow defs g b (false_or_null know b.state.graph.edges) r)
    | inr none ↦ by_gap none (k.gap b.point b.state) refl
  ]

pub branches_advance : Laws → BranchesAdvance
branches_advance laws flow defs g b valid made inside may =
    let judge = laws.judges flow defs valid in
    answer laws flow defs g b valid made inside may judge.0 (judge.2.asked b made)

pub chains_advance : Laws → ChainsAdvance
chains_advance laws flow defs g b valid made inside may chain = elim (branches_advance laws flow defs g b valid made inside may) [
  | inl on ↦ inl on
  | inr u ↦ inr ([], record { chain = chain; plain = may.plain; open_still = may.open_still; gap = u.0; unmet = u.1; gives = refl })
]
