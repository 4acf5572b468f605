-- There is a right lore.
use Rattle.std.proofs.Common.{◌≡◌, ◌↔◌, inl, inr, ℕ, List, Bool, true, false}
use Rattle.mc_flow.specs.declared.defs.rules.Def.{Def}
use Rattle.mc_flow.specs.declared.graph.Flow.{Flow}
use Rattle.mc_state.specs.Facts.{IsTidy}
use Rattle.mc_state.specs.State.{State}
use Rattle.mc_state.specs.declared.raw_state.RawState.{RawState}
use Rattle.mc_kernel.specs.Branches.{begins}
use Rattle.mc_kernel.specs.Judges.{Knowledge}
use Rattle.mc_kernel.specs.Oracle.Judges.{JudgesAreThere}
use Rattle.mc_kernel.specs.Reading.Documents.{IsJudge}
use Rattle.mc_kernel.proofs.OracleLemmas.Decided.{Or, and_or, holds, holds_tells}
use Rattle.mc_kernel.proofs.OracleLemmas.MadeOr.{made_or}
use Rattle.mc_joins.specs.Same.Laws.{FalseRenamed, FollowsRenamed}
use Rattle.mc_joins.specs.Same.Same.{AreSameUnder}
use Rattle.mc_joins.specs.Chains.Chains.{KnowsStates}
use Rattle.mc_joins.specs.Chains.Judges.{Lore}
use Rattle.mc_joins.specs.Chains.Laws.{IsRight, JointIsThere, Made}
use Rattle.mc_joins.specs.Chains.ReadLaws.{LoresAreThere}
use Rattle.mc_joins.proofs.ChainsLemmas.SameOr.{same_state_or}
use Rattle.mc_joins.proofs.ChainsLemmas.TidyOr.{TidyLaws, tidy_or}

-- what is used of states
pub record LoreLaws : Type 0 where
  pub judges : JudgesAreThere
  pub joint : JointIsThere
  pub tidy : TidyLaws
  pub follows : FollowsRenamed
  pub wrong : FalseRenamed

-- what is decided where something holds, as a test that is false where it does not
where_holds : {M P : Type 0} → Or M → (M → Or P) → Bool
where_holds (inl m) p = holds (p m)
where_holds (inr never) p = false

where_tells : {M P : Type 0} (o : Or M) (p : M → Or P) → M → (where_holds o p ≡ true) ↔ P
unfolding where_holds
where_tells (inl m) p is = holds_tells (p m)
where_tells (inr never) p is = absurd (never is)

module _ (laws : LoreLaws) (flow : Flow) (defs : List Def) (k : Knowledge) (formed : RawState → Bool) (judge : IsJudge k formed flow defs) where
  knows : KnowsStates flow defs k.know
  knows s made = (judge.asked (begins (record { 0 = 0 }) s) made).given.tells

  made : (s : State) → Or (Made flow defs s)
  made s = made_or defs flow.vars flow.structs.list s

  tidy_test : State → Bool
  tidy_test s = where_holds (made s) (λ m. tidy_or laws.tidy k.know flow defs knows s m)

  tidy_tells : (s : State) → Made flow defs s → (tidy_test s ≡ true) ↔ IsTidy s
  unfolding tidy_test
  tidy_tells s m = where_tells (made s) (λ m. tidy_or laws.tidy k.know flow defs knows s m) m

  same_test : State → State → Bool
  same_test s t = where_holds (and_or (made s) (made t)) (λ m. same_state_or laws.follows laws.wrong k.know flow defs knows s t m.0 m.1)

  same_tells : (s t : State) → Made flow defs s → Made flow defs t → (same_test s t ≡ true) ↔ ((f : ℕ → ℕ) × (back : ℕ → ℕ) × AreSameUnder f back s t)
  unfolding same_test
  same_tells s t m m' = where_tells (and_or (made s) (made t)) (λ m. same_state_or laws.follows laws.wrong k.know flow defs knows s t m.0 m.1) (m, m')

  pub lore : (l : Lore) × IsRight l flow defs
  lore =
      let joint = laws.joint k.know flow defs knows in (
        record { lines = k; formed = formed; tidy = tidy_test; joint = joint.0; same = same_test },
        record { knows = knows; asked = judge.asked; formed = judge.formed; tidy = tidy_tells; joint = joint.1; same = same_tells },
      )

pub lores_are_there : LoreLaws → LoresAreThere
lores_are_there laws flow defs valid =
    let judge = laws.judges flow defs valid in
    lore laws flow defs judge.0 judge.1 judge.2
