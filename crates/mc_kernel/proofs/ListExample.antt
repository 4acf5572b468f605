-- The certificate of the asserted list is valid.
use Rattle.std.proofs.Common.{ℕ, [], ◌∷◌, Some, None, true, refl, arith, inl, inr, pos}
use Rattle.std.proofs.lemmas.Int.{ints}
use Rattle.mc_base.specs.declared.plain.Kind.TheVariants.{Ptr}
use Rattle.mc_base.specs.Nodes.{Valuation, null}
use Rattle.mc_flow.specs.Defs.Examples.{defs, list_id}
use Rattle.mc_state.specs.declared.graph.edge.Edge.TheVariants.{Ind}
use Rattle.mc_pure.specs.Derived.{itself}
use Rattle.mc_pure.specs.Examples.{node}
use Rattle.mc_pure.specs.Laws.{TrueIsNotFalse}
use Rattle.mc_state.specs.declared.goal.Goal.{Goal}
use Rattle.mc_state.specs.declared.line.Form.TheVariants.{Certificate}
use Rattle.mc_state.specs.Facts.{IsFalse}
use Rattle.mc_state.specs.State.{State, unknown}
use Rattle.mc_rules_steps.specs.Next.{Next}
use Rattle.mc_rules_steps.specs.Steps.{moved_to}
use Rattle.mc_kernel.specs.Branches.{Path, Setting, MayStep, path_of, roots, AreCuts}
use Rattle.mc_kernel.specs.Certificates.{IsValidCertificate}
use Rattle.mc_kernel.specs.Examples as ex
use Rattle.mc_kernel.specs.Instances.{Reads}
use Rattle.mc_kernel.proofs.Lists.{contains_none}
use Rattle.mc_kernel.proofs.Plain.{not_false}

abbrev setting : Setting
setting = record { form = Certificate; cuts = []; heads = [] }

abbrev pub entry : State
entry = unknown 2

-- l is node 1, where a list is
abbrev with_list : State
with_list =
    record {
      env = None ∷ Some (node 1) ∷ [];
      kinds = (node 1, Ptr) ∷ [];
      graph = record { edges = (ex.edge 0, Ind (node 1) list_id []) ∷ []; next = 1 };
      atoms = [];
      next = 2;
      whole = true;
    }

abbrev with_result : State
with_result = record with_list { env = Some null ∷ Some (node 1) ∷ [] }

abbrev goal : Goal
goal = record { pred = list_id; at = node 1; args = [] }

abbrev side : Next
side = record { point = ex.at 3; goal = Some goal; state = with_list }

abbrev pub gone : ℕ → State → Path
gone p s = path_of (moved_to (ex.at p) s)

may : (p : ℕ) (s : State) → MayStep setting (gone p s)
may p s = record { plain = refl; open_still = refl; before_cut = inl (λ c. contains_none (ex.at p) c) }

abbrev pub zeros : Valuation
zeros n = pos 0

module _ (law : TrueIsNotFalse) where
  entry_sound : IsFalse entry → ⊥
  entry_sound wrong = not_false zeros [] [] refl tt tt law wrong

  list_sound : IsFalse with_list → ⊥
  list_sound wrong = not_false zeros ((node 1, Ptr) ∷ []) [] refl ((omega (arith, ints), omega (arith, ints)), tt) tt law wrong

  -- each line with the branches that come of it
  reads : Reads ex.list_flow defs setting ex.list_rules (roots ex.list_flow []) []
  reads = (
    gone 1 entry ∷ [],
    [],
    (record { plain = refl; open_still = refl; before_cut = inr refl }, (moved_to (ex.at 1) entry ∷ [], record { q = ex.at 1; at = refl; consistent = entry_sound; gives = refl }, refl)),
    (
      gone 2 entry ∷ [],
      [],
      (may 1 entry, (moved_to (ex.at 2) entry ∷ [], record { xs = ex.var 1 ∷ []; q = ex.at 2; at = refl; consistent = entry_sound; gives = refl }, refl)),
      (
        gone 3 with_list ∷ [],
        [],
        (
          may 2 entry,
          (
            moved_to (ex.at 3) with_list ∷ [],
            record {
              pred = list_id;
              x = ex.var 1;
              os = [];
              q = ex.at 3;
              at = refl;
              consistent = entry_sound;
              args = [];
              known = tt;
              before = entry;
              operands = refl;
              gives = refl;
            },
            refl,
          ),
        ),
        (
          path_of side ∷ gone 4 with_list ∷ [],
          [],
          (
            may 3 with_list,
            (
              side ∷ moved_to (ex.at 4) with_list ∷ [],
              record {
                pred = list_id;
                o = _;
                os = [];
                q = ex.at 4;
                at = refl;
                consistent = list_sound;
                n = node 1;
                known = refl;
                args = [];
                args_known = tt;
                goal = goal;
                goal_is = refl;
                side = side;
                side_is = refl;
                gives = refl;
              },
              refl,
            ),
          ),
          (
            [],
            [],
            record { goal = goal; side = refl; meets = record { consistent = list_sound; at = node 1; args = []; there = refl; meets = inl (itself (Ptr, inr refl)); args_meet = tt }; gives = refl },
            (
              gone 5 with_result ∷ [],
              [],
              (may 4 with_list, (moved_to (ex.at 5) with_result ∷ [], record { x = ex.var 0; from = _; q = ex.at 5; at = refl; consistent = list_sound; n = null; known = refl; gives = refl }, refl)),
              (
                [],
                [],
                (may 5 with_result, ([], record { at = refl; consistent = list_sound; gives = refl }, refl)),
                (refl, refl),
                refl,
              ),
              refl,
            ),
            refl,
          ),
          refl,
        ),
        refl,
      ),
      refl,
    ),
    refl,
  )

  cuts_are : AreCuts ex.list_flow []
  cuts_are = record { ascend = tt; skips = λ p c. absurd (contains_none p c); all_heads = λ p c. c }

  pub list_is_certified : IsValidCertificate ex.list_flow defs ex.list_document
  list_is_certified = record { cuts = []; heads = []; rules = ex.list_rules; spelled = refl; cuts_are = cuts_are; ordered = tt; heads_are = tt; reads = reads }
