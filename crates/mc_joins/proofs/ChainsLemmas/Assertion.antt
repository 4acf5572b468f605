-- The chain of a loop and an assertion after it.
use Rattle.std.proofs.Common.{◌≡◌, ◌≢◌, ℕ, List, [], ◌∷◌, None, true, refl, subst, arith, inl, inr, pos}
use Rattle.std.proofs.lemmas.Int.{ints}
use Rattle.mc_base.specs.declared.plain.Kind.TheVariants.{Int}
use Rattle.mc_base.specs.declared.plain.Atom.TheVariants.{Eq, Ne}
use Rattle.mc_base.specs.Nodes.{null}
use Rattle.mc_flow.specs.declared.instr.Instr.TheVariants as instr
use Rattle.mc_flow.specs.Valid.{IsSkip}
use Rattle.mc_state.specs.Known.{Test}
use Rattle.mc_pure.specs.Derived as derived
use Rattle.mc_pure.specs.Derived.{IsFalse}
use Rattle.mc_pure.specs.Examples.{node}
use Rattle.mc_pure.specs.Laws.{TrueIsNotFalse}
use Rattle.mc_pure.specs.Pure as known
use Rattle.mc_state.specs.Facts as facts
use Rattle.mc_state.specs.Facts.{IsTidy}
use Rattle.mc_state.specs.State.{State, with_atom}
use Rattle.mc_rules_steps.specs.declared.gap.Gap.TheVariants.{Reached}
use Rattle.mc_rules_steps.specs.Steps.{moved_to}
use Rattle.mc_state.specs.declared.line.Form.TheVariants.{Chain}
use Rattle.mc_kernel.specs.Branches.{Head, MayStep, roots, AreCuts}
use Rattle.mc_kernel.specs.Examples as ex
use Rattle.mc_kernel.specs.Instances.{JumpsTo}
use Rattle.mc_joins.specs.Parts.{Basis}
use Rattle.mc_joins.specs.Chains.Chains.{over, ReadsPass, HasAlarms, IsUnfinished}
use Rattle.mc_joins.specs.Chains.Examples.{assert_flow, assert_document, short_document, first_pass, second_pass}
use Rattle.mc_kernel.proofs.ListExample.{gone, zeros}
use Rattle.mc_kernel.proofs.Lists.{contains_here}
use Rattle.mc_kernel.proofs.LoopStates as loop
use Rattle.mc_kernel.proofs.LoopStates.{head, with_input, at_zero, not_zero, after_zero, after_other, head_sound, input_sound, zero_sound, other_sound}
use Rattle.mc_kernel.proofs.Plain.{contains_one, not_false}

-- ---- states

-- 0 is 0, or not
abbrev fails : State
fails = with_atom (after_zero true) (Eq null null (pos 0))

abbrev passes : State
passes = with_atom (after_zero true) (Ne null null (pos 0))

abbrev heads : List Head
heads = (ex.at 1, head true) ∷ []

abbrev may : (p : ℕ) (s : State) → 1 ≢ p → MayStep (over (ex.at 1 ∷ []) heads) (gone p s)
may = loop.may Chain true

-- the jump to the head, which is whole, from a whole state without an edge
jumps : (s : State) → s.env ≡ None ∷ None ∷ [] → s.whole ≡ true → s.graph.edges ≡ [] → (facts.IsFalse s → ⊥) → JumpsTo (over (ex.at 1 ∷ []) heads) 0 (null ∷ []) [] (gone 1 s) []
jumps s unknown_vars whole none sound = loop.jumps Chain true s unknown_vars (λ e. (whole, none)) sound

module _ (law : TrueIsNotFalse) (know : State → Test) where
  abbrev basis : Basis
  basis = record { know = know; defs = [] }

  fails_sound : facts.IsFalse fails → ⊥
  fails_sound wrong =
      not_false zeros ((node 1, Int) ∷ []) (Eq (node 1) null (pos 0) ∷ Eq null null (pos 0) ∷ []) refl ((omega (arith, ints), omega (arith, ints)), tt) (refl, (refl, tt)) law wrong

  passes_false : facts.IsFalse passes
  passes_false = derived.apart (derived.base (known.written 1 refl))

  tidy_head : IsTidy (head true)
  tidy_head = record {
    consistent = head_sound law true;
    reached = λ place id e there. absurd (cc there);
    merged = λ keep gone can e. elim can.gone_is.1 [ inl is ↦ can.not_null is | inr is ↦ absurd (cc is) ];
  }

  -- the first pass
  opens : ReadsPass assert_flow basis 1 (ex.at 1 ∷ []) first_pass (roots assert_flow []) [] [] heads
  opens = (
    gone 1 (head true) ∷ [],
    [],
    [],
    ((record { plain = refl; open_still = refl; before_cut = inr refl }, (moved_to (ex.at 1) (head true) ∷ [], record { q = ex.at 1; at = refl; consistent = head_sound law true; gives = refl }, refl)), refl),
    (
      [],
      heads,
      [],
      record {
        may = record { chain = refl; cut = record { plain = refl; at_cut = contains_here (ex.at 1) []; has_moved = refl }; open_still = refl };
        consistent = head_sound law true;
        count = refl;
        tidy = record { own = tidy_head; others = tt };
        stuck = tt;
        ends = refl;
        gives = refl;
      },
      (refl, refl, refl),
      refl,
    ),
    refl,
  )

  -- the second pass
  reads : ReadsPass assert_flow basis 2 (ex.at 1 ∷ []) second_pass (roots assert_flow heads) (gone 8 fails ∷ []) heads heads
  reads = (
    gone 1 (head true) ∷ [],
    heads,
    gone 8 fails ∷ [],
    ((record { plain = refl; open_still = refl; before_cut = inr refl }, (moved_to (ex.at 1) (head true) ∷ [], record { q = ex.at 1; at = refl; consistent = head_sound law true; gives = refl }, refl)), refl),
    (
      [],
      heads,
      gone 8 fails ∷ [],
      (jumps (head true) refl refl refl (head_sound law true), refl),
      (
        gone 2 (head true) ∷ [],
        heads,
        gone 8 fails ∷ [],
        ((record { plain = refl; open_still = refl; before_cut = inr refl }, (moved_to (ex.at 2) (head true) ∷ [], record { q = ex.at 2; at = refl; consistent = head_sound law true; gives = refl }, refl)), refl),
        (
          gone 3 (with_input true) ∷ [],
          heads,
          gone 8 fails ∷ [],
          ((may 2 (head true) (omega arith), (moved_to (ex.at 3) (with_input true) ∷ [], record { x = ex.var 1; q = ex.at 3; at = refl; consistent = head_sound law true; gives = refl }, refl)), refl),
          (
            gone 5 (at_zero true) ∷ gone 4 (not_zero true) ∷ [],
            heads,
            gone 8 fails ∷ [],
            (
              (
                may 3 (with_input true) (omega arith),
                (
                  moved_to (ex.at 5) (at_zero true) ∷ moved_to (ex.at 4) (not_zero true) ∷ [],
                  record { o = _; o' = _; t = ex.at 5; f = ex.at 4; at = refl; consistent = input_sound law true; a = node 1; left_known = refl; b = null; right_known = refl; before = with_input true; operands = refl; gives = refl },
                  refl,
                ),
              ),
              refl,
            ),
            (
              gone 6 (after_zero true) ∷ [],
              heads,
              gone 8 fails ∷ [],
              ((may 5 (at_zero true) (omega arith), (moved_to (ex.at 6) (after_zero true) ∷ [], record { xs = ex.var 1 ∷ []; q = ex.at 6; at = refl; consistent = zero_sound law true; gives = refl }, refl)), refl),
              (
                gone 7 (after_zero true) ∷ [],
                heads,
                gone 8 fails ∷ [],
                ((may 6 (after_zero true) (omega arith), (moved_to (ex.at 7) (after_zero true) ∷ [], record { q = ex.at 7; at = refl; consistent = zero_sound law true; gives = refl }, refl)), refl),
                (
                  gone 8 fails ∷ gone 9 passes ∷ [],
                  heads,
                  gone 8 fails ∷ [],
                  (
                    (
                      may 7 (after_zero true) (omega arith),
                      (
                        moved_to (ex.at 8) fails ∷ moved_to (ex.at 9) passes ∷ [],
                        record { o = _; o' = _; t = ex.at 8; f = ex.at 9; at = refl; consistent = zero_sound law true; a = null; left_known = refl; b = null; right_known = refl; before = after_zero true; operands = refl; gives = refl },
                        refl,
                      ),
                    ),
                    refl,
                  ),
                  (
                    [],
                    heads,
                    [],
                    (record { chain = refl; plain = refl; open_still = refl; gap = Reached; unmet = record { consistent = fails_sound; code = instr.Fail; at = refl; lacks = (tt, tt) }; gives = refl }, refl),
                    (
                      [],
                      heads,
                      [],
                      ((refl, passes_false, refl), refl),
                      (
                        gone 1 (after_other true) ∷ [],
                        heads,
                        [],
                        ((may 4 (not_zero true) (omega arith), (moved_to (ex.at 1) (after_other true) ∷ [], record { xs = ex.var 1 ∷ []; q = ex.at 1; at = refl; consistent = other_sound law true; gives = refl }, refl)), refl),
                        ([], heads, [], (jumps (after_other true) refl refl refl (other_sound law true), refl), (refl, refl, refl), refl),
                        refl,
                      ),
                      refl,
                    ),
                    refl,
                  ),
                  refl,
                ),
                refl,
              ),
              refl,
            ),
            refl,
          ),
          refl,
        ),
        refl,
      ),
      refl,
    ),
    refl,
  )

  cuts_are : AreCuts assert_flow (ex.at 1 ∷ [])
  cuts_are = record {
    ascend = tt;
    skips = λ p c. subst (IsSkip assert_flow.points) (contains_one (ex.at 1) p c) (record { next = ex.at 2; skips = refl });
    all_heads = λ p c. c;
  }

  pub has_one_alarm : HasAlarms know assert_flow [] assert_document 1
  has_one_alarm = (
    record {
      cuts = ex.at 1 ∷ [];
      written = [];
      passes = first_pass ∷ second_pass ∷ [];
      spelled = refl;
      cuts_are = cuts_are;
      ordered = tt;
      written_are = tt;
      stuck = gone 8 fails ∷ [];
      heads = heads;
      reads = (refl, [], heads, opens, reads);
    },
    refl,
    refl,
    omega arith,
  )

  pub is_early : IsUnfinished know assert_flow [] short_document
  is_early = (
    record { cuts = ex.at 1 ∷ []; written = []; passes = first_pass ∷ []; spelled = refl; cuts_are = cuts_are; ordered = tt; written_are = tt; stuck = []; heads = heads; reads = opens },
    refl,
  )
