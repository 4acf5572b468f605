-- Laws of verdicts.
use Rattle.std.specs.Prelude.{◌≡◌, ℕ, List}
use Rattle.mc_judge.specs.declared.judge.verdict.Refusal.TheVariants.{EndsEarly}
use Rattle.mc_judge.specs.declared.judge.verdict.Verdict.{Verdict}
use Rattle.mc_judge.specs.declared.judge.verdict.Verdict.TheVariants.{Refused}
use Rattle.mc_judge.specs.Judge.Verdicts.{GoesOn, IsVerdict}
use Rattle.mc_flow.specs.declared.defs.rules.Def.{Def}
use Rattle.mc_flow.specs.declared.graph.Flow.{Flow}
use Rattle.mc_joins.specs.Chains.Judges.{Lore}

-- the verdict on texts that begin a document which goes on is that it ends early
abbrev pub OpenDocumentsEndEarly : Type 0
OpenDocumentsEndEarly =
    (k : Lore) (flow : Flow) (defs : List Def) (texts : List (List ℕ)) (verdict : Verdict)
    → IsVerdict k flow defs texts verdict → GoesOn k flow defs texts → verdict ≡ Refused EndsEarly
