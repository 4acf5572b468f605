-- Segments that are not joined, and nodes that are not forgotten.
use Rattle.std.proofs.Common.{◌≡◌, pos, Bool, true, false, List, [], ◌∷◌, refl, inl, inr, arith}
use Rattle.std.proofs.lemmas.Int.{ints}
use Rattle.std.specs.Prelude.{Err}
use Rattle.mc_base.specs.declared.plain.Atom.TheVariants.{Eq, Ne}
use Rattle.mc_base.specs.declared.plain.Kind.TheVariants.{Ptr}
use Rattle.mc_base.specs.Nodes.{null}
use Rattle.mc_rules_logic.specs.Fold.ChangeJudges.{is_there}
use Rattle.mc_rules_logic.specs.Fold.JudgedLaws.{FailsAt}
use Rattle.mc_rules_logic.specs.Fold.Judges.{joining_segs}
use Rattle.mc_pure.specs.Derived as pure
use Rattle.mc_pure.specs.Examples.{node}
use Rattle.mc_pure.specs.Laws.{IsTrue, DerivedIsTrue, TrueIsNotFalse}
use Rattle.mc_pure.specs.Pure as known
use Rattle.mc_state.specs.State.{pure_of}
use Rattle.mc_kernel.specs.Examples.{edge}
use Rattle.mc_kernel.specs.Shown.Folds.{lengths_differ, unnamed, false_unnamed, side, NotForgotten}
use Rattle.mc_kernel.proofs.ShownLemmas.Numbers.{valued, numbers_fit, passes, unknown}

pub of_false : NotForgotten (side false_unnamed) (node 1) 2
of_false k tells =
    let wrong : k.know false_unnamed (Ne null null (pos 0)) ≡ true = (tells (Ne null null (pos 0))).1 (inr (pure.empty (omega (arith, ints)) (pure.base (known.written 0 refl)))) in
    rw wrong refl

module _ (truth : DerivedIsTrue) (sound : TrueIsNotFalse) where
  lengths_fit : IsTrue (valued (pos 7 ∷ pos 3 ∷ pos 2 ∷ [])) (pure_of lengths_differ)
  lengths_fit =
      numbers_fit (valued (pos 7 ∷ pos 3 ∷ pos 2 ∷ [])) (pure_of lengths_differ) refl
      ((omega (arith, ints), omega (arith, ints)), ((omega (arith, ints), omega (arith, ints)), ((omega (arith, ints), omega (arith, ints)), tt))) tt tt (omega arith)

  unnamed_fits : IsTrue (valued (pos 7 ∷ pos 3 ∷ [])) (pure_of unnamed)
  unnamed_fits =
      numbers_fit (valued (pos 7 ∷ pos 3 ∷ [])) (pure_of unnamed) refl ((omega (arith, ints), omega (arith, ints)), ((omega (arith, ints), omega (arith, ints)), tt)) tt tt (omega arith)

  pub not_joined : FailsAt lengths_differ (λ know. joining_segs know (edge 0) (edge 1)) 6
  not_joined know tells =
      let start : know (Eq (node 1) (node 1) (pos 0)) ≡ true = (tells (Eq (node 1) (node 1) (pos 0))).1 (inl (pure.itself (Ptr, inr refl))) in
      let differ : know (Eq (node 2) (node 3) (pos 0)) ≡ false =
      unknown truth sound lengths_differ (valued (pos 7 ∷ pos 3 ∷ pos 2 ∷ [])) lengths_fit know tells (Eq (node 2) (node 3) (pos 0)) (λ t. let wrong : pos 3 ≡ pos 2 = t in cc wrong) in
      rw (passes truth sound lengths_differ (valued (pos 7 ∷ pos 3 ∷ pos 2 ∷ [])) lengths_fit know tells) (rw start (rw differ refl))

  pub absent : NotForgotten (side unnamed) (node 3) 3
  unfolding is_there
  absent k tells = rw (passes truth sound unnamed (valued (pos 7 ∷ pos 3 ∷ [])) unnamed_fits (k.know unnamed) tells) refl

  pub goal_at : NotForgotten (side unnamed) (node 1) 4
  unfolding is_there
  goal_at k tells = rw (passes truth sound unnamed (valued (pos 7 ∷ pos 3 ∷ [])) unnamed_fits (k.know unnamed) tells) refl

  pub goal_argument : NotForgotten (side unnamed) (node 2) 4
  unfolding is_there
  goal_argument k tells = rw (passes truth sound unnamed (valued (pos 7 ∷ pos 3 ∷ [])) unnamed_fits (k.know unnamed) tells) refl
