-- A program that fails, and the last pass of its chain, which is stuck where it fails.
use Rattle.std.proofs.Common.{◌≡◌, List, [], ◌∷◌, refl, subst, arith, inl, inr, pos}
use Rattle.mc_base.specs.declared.plain.FaultKind.TheVariants.{Assertion}
use Rattle.mc_base.specs.Nodes.{Valuation, null}
use Rattle.mc_flow.specs.Runs.{Reaches, fault}
use Rattle.mc_flow.specs.Defs.Conditions.{DefsFit}
use Rattle.mc_flow.specs.Defs.Examples.{structs, defs}
use Rattle.mc_flow.specs.declared.instr.Instr.TheVariants as instr
use Rattle.mc_flow.specs.Steps.{Step, start}
use Rattle.mc_flow.specs.Valid.{IsValid, IsSkip}
use Rattle.mc_pure.specs.Laws.{TrueIsNotFalse}
use Rattle.mc_state.specs.declared.line.Form.TheVariants.{Chain}
use Rattle.mc_state.specs.Facts.{IsFalse}
use Rattle.mc_state.specs.Fits.{IsBounded}
use Rattle.mc_state.specs.RawStates.{IsWellFormedRaw, state_of}
use Rattle.mc_state.specs.State.{State, unknown}
use Rattle.mc_rules_steps.specs.declared.gap.Gap.TheVariants.{Reached}
use Rattle.mc_rules_steps.specs.Steps.{moved_to}
use Rattle.mc_kernel.specs.Branches.{Head, path_of, roots, AreCuts}
use Rattle.mc_kernel.specs.Certificates.{IsLastPass}
use Rattle.mc_kernel.specs.Examples as ex
use Rattle.mc_kernel.specs.Examples.{failing_code, failing_flow, failing_state, failing_pass, failing_chain, failing_path}
use Rattle.mc_kernel.specs.Instances.{Reads}
use Rattle.mc_kernel.specs.Jumps.{Jumps}
use Rattle.mc_kernel.specs.Reading.Documents.{IsShortChain}
use Rattle.mc_kernel.proofs.ExampleFlows.{FitFrom, is_valid, to_one, to_none}
use Rattle.mc_kernel.proofs.Lists.{contains_here}
use Rattle.mc_kernel.proofs.Plain.{not_false, contains_one}
use Rattle.mc_rules_steps.proofs.ExampleFlow.{all_none, all_one}

failing_fits : FitFrom failing_flow 0 failing_flow.points
failing_fits = (
  to_one failing_flow 0 1 _ refl (omega arith, inl (omega arith)) tt,
  (
    to_one failing_flow 1 2 _ refl (omega arith, inl (omega arith)) tt,
    (to_none failing_flow 2 _ refl tt, tt),
  ),
)

pub failing_is_valid : DefsFit structs defs → IsValid failing_flow defs
failing_is_valid fit = is_valid [] (ex.at 1 ∷ []) failing_code fit (omega arith) (all_one (IsSkip failing_flow.points) (ex.at 1) (record { next = ex.at 2; skips = refl })) failing_fits

pub failing_jumps : (s : State) → s.env ≡ [] → Jumps s (state_of failing_state) (null ∷ []) []
failing_jumps s none =
    record {
      count = refl;
      null_image = refl;
      kinds = tt;
      vars = rw none tt;
      picked = [];
      left = s.graph.edges;
      picks = (refl, refl);
      match = tt;
      atoms = tt;
      whole = λ e. cc;
    }

abbrev zeros : Valuation
zeros n = pos 0

head_bounded : IsBounded (state_of failing_state)
head_bounded = record { positive = omega arith; kinds = tt; ids = tt; vars = tt; edges = tt; atoms = tt }

pub failing_cuts : AreCuts failing_flow (ex.at 1 ∷ [])
failing_cuts = record {
  ascend = tt;
  skips = λ p c. subst (IsSkip failing_flow.points) (contains_one (ex.at 1) p c) (record { next = ex.at 2; skips = refl });
  all_heads = λ p c. c;
}

pub failing_head : IsWellFormedRaw defs [] structs failing_state
failing_head = record {
  zero = (refl, all_none _);
  made = record {
    bounded = head_bounded;
    atoms = tt;
    fits_defs = tt;
    fits_program = record { vars_fit = tt; blocks_fit = tt };
  };
}

-- to the head, on, and to the fault
pub failing_faults : Reaches (Step failing_flow defs) 3 (start failing_flow) [] (fault Assertion (record { line = 1; column = 1 }))
failing_faults =
    inr (record { point = 1; vars = []; heap = (start failing_flow).heap }, [], refl, inr (record { point = 2; vars = []; heap = (start failing_flow).heap }, [], refl, inl refl))

abbrev failing_heads : List Head
failing_heads = (ex.at 1, state_of failing_state) ∷ []

module _ (law : TrueIsNotFalse) where
  pub entry_sound : IsFalse (unknown 0) → ⊥
  entry_sound wrong = not_false zeros [] [] refl tt tt law wrong

  pub head_sound : IsFalse (state_of failing_state) → ⊥
  head_sound wrong = not_false zeros [] [] refl tt tt law wrong

  reads : Reads failing_flow defs (record { form = Chain; cuts = ex.at 1 ∷ []; heads = failing_heads }) failing_pass (roots failing_flow failing_heads) (failing_path ∷ [])
  reads = (
    path_of (moved_to (ex.at 1) (unknown 0)) ∷ [],
    failing_path ∷ [],
    (record { plain = refl; open_still = refl; before_cut = inr refl }, (moved_to (ex.at 1) (unknown 0) ∷ [], record { q = ex.at 1; at = refl; consistent = entry_sound; gives = refl }, refl)),
    (
      [],
      failing_path ∷ [],
      record {
        may = record { plain = refl; at_cut = contains_here (ex.at 1) []; has_moved = refl };
        consistent = entry_sound;
        head = state_of failing_state;
        there = refl;
        jumps = failing_jumps (unknown 0) refl;
        gives = refl;
      },
      (
        failing_path ∷ [],
        failing_path ∷ [],
        (record { plain = refl; open_still = refl; before_cut = inr refl }, (moved_to (ex.at 2) (state_of failing_state) ∷ [], record { q = ex.at 2; at = refl; consistent = head_sound; gives = refl }, refl)),
        (
          [],
          [],
          record { chain = refl; plain = refl; open_still = refl; gap = Reached; unmet = record { consistent = head_sound; code = instr.Fail; at = refl; lacks = (tt, tt) }; gives = refl },
          (refl, refl),
          refl,
        ),
        refl,
      ),
      refl,
    ),
    refl,
  )

  pub failing_is_stuck : IsLastPass failing_flow defs (ex.at 1 ∷ []) failing_heads failing_pass (failing_path ∷ [])
  failing_is_stuck = record { cuts_are = failing_cuts; at_cuts = (contains_here (ex.at 1) [], tt); bounded = (head_bounded, tt); reads = reads }

  pub failing_is_chain : IsShortChain failing_flow defs failing_chain (failing_path ∷ [])
  failing_is_chain = record {
    cuts = ex.at 1 ∷ [];
    heads = (ex.at 1, failing_state) ∷ [];
    rules = failing_pass;
    spelled = refl;
    ordered = tt;
    heads_are = ((contains_here (ex.at 1) [], failing_head), tt);
    pass = failing_is_stuck;
  }
