-- Whether a well-made state is tidy is decided.
use Rattle.std.proofs.Common.{◌≡◌, ◌↔◌, inl, inr, ℕ, List, Bool, true, false, Some, slice_get, refl}
use Rattle.mc_base.specs.declared.ids.EdgeId.{EdgeId}
use Rattle.mc_base.specs.declared.ids.NodeId.{NodeId}
use Rattle.mc_flow.specs.declared.defs.rules.Def.{Def}
use Rattle.mc_flow.specs.declared.graph.Flow.{Flow}
use Rattle.mc_pure.specs.Rows.{nodes_of}
use Rattle.mc_state.specs.declared.graph.edge.Edge.{Edge}
use Rattle.mc_state.specs.Graph.Edges.{start_of}
use Rattle.mc_state.specs.Facts.{IsFalse, IsReached, IsTidy}
use Rattle.mc_state.specs.Known.{Test, is_false}
use Rattle.mc_state.specs.Told.{FalseIsTold}
use Rattle.mc_state.specs.State.{State}
use Rattle.mc_state.proofs.Numbered.{given_or_unmet, judged_unmet}
use Rattle.mc_rules_logic.specs.Fold.ChangeJudges.{is_reached, merging_nodes}
use Rattle.mc_rules_logic.specs.Fold.Changed.{MergesNodes}
use Rattle.mc_rules_logic.specs.Fold.JudgedLaws.{MergeIsJudged, ReachedIsTold}
use Rattle.mc_kernel.proofs.OracleLemmas.Decided.{Or, all_get, all_or, all_put, as_or}
use Rattle.mc_joins.specs.Alike.Tidy.{AllReached, CanBeMerged, NoneMerges, NoneMergesWith}
use Rattle.mc_joins.specs.Chains.Chains.{KnowsStates}
use Rattle.mc_joins.specs.Chains.Laws.{Made}
use Rattle.mc_joins.proofs.AlikeLemmas.Tidiness.{all_reached, none_merges, tidy_from}

-- what a test tells is decided
pub told_or : {P : Type 0} (b : Bool) → (b ≡ true) ↔ P → Or P
told_or true is = inl (is.0 refl)
told_or false is = inr (λ p. let wrong : false ≡ true = is.1 p in cc wrong)

not_or : {P : Type 0} → Or P → Or (P → ⊥)
not_or (inl p) = inr (λ never. never p)
not_or (inr never) = inl never

-- each at a place of a list has it, or one has not
pub places_or : {X : Type 0} (P : X → Type 0) → ((x : X) → Or (P x)) → (xs : List X) → Or ((place : ℕ) (x : X) → slice_get xs place ≡ Some x → P x)
places_or P each xs = as_or (all_get P xs) (all_put P xs) (all_or P each xs)

-- what is used of tests
pub record TidyLaws : Type 0 where
  pub wrong : FalseIsTold
  pub merge : MergeIsJudged
  pub reached : ReachedIsTold

module _ (laws : TidyLaws) (know : State → Test) (flow : Flow) (defs : List Def) (knows : KnowsStates flow defs know) (s : State)
    (made : Made flow defs s) where
  -- two nodes of a state that is not false can be merged where the judge merges them
  merged_or : (IsFalse s → ⊥) → (keep gone : NodeId) → Or (CanBeMerged s keep gone)
  merged_or sound keep gone =
      let judged = laws.merge (know s) keep gone s (knows s made) in
      elim (given_or_unmet (merging_nodes (know s) keep gone s)) [
        | inl given ↦ (let m = (judged given.0).0 given.1 in inl (m.can, m.equal))
        | inr unmet ↦
            inr (λ m. judged_unmet (merging_nodes (know s) keep gone s) (MergesNodes keep gone s) judged unmet.0 unmet.1 _
            (record { consistent = sound; can = m.0; equal = m.1; gives = refl }))
      ]

  none_or : (IsFalse s → ⊥) → Or (NoneMerges s)
  none_or sound =
      places_or (NoneMergesWith s) (λ keep. places_or (λ gone. CanBeMerged s keep gone → ⊥) (λ gone. not_or (merged_or sound keep gone)) (nodes_of s.kinds))
      (nodes_of s.kinds)

  reached_or : Or (AllReached s)
  reached_or =
      places_or (λ (e : EdgeId × Edge). IsReached s (start_of e.1))
      (λ e. told_or (is_reached (know s) s (start_of e.1)) (laws.reached (know s) s (start_of e.1) made.bounded (knows s made))) s.graph.edges

  pub tidy_or : Or (IsTidy s)
  tidy_or = by (told_or (is_false (know s)) (laws.wrong (know s) s (knows s made)))
    where
      by : Or (IsFalse s) → Or (IsTidy s)
      by (inl wrong) = inr (λ t. t.consistent wrong)
      by (inr sound) = both (none_or sound) reached_or
        where
          both : Or (NoneMerges s) → Or (AllReached s) → Or (IsTidy s)
          both (inl none) (inl all) = inl (tidy_from s sound none all)
          both (inr never) all = inr (λ t. never (none_merges s t))
          both (inl none) (inr never) = inr (λ t. never (all_reached s t))
