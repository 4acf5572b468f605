-- The certificate of the loop is valid.
use Rattle.std.proofs.Common.{◌≡◌, ◌≢◌, ℕ, [], ◌∷◌, Some, None, true, false, refl, subst, arith, inr}
use Rattle.mc_base.specs.Nodes.{null}
use Rattle.mc_flow.specs.Defs.Examples.{structs, defs}
use Rattle.mc_flow.specs.Valid.{IsSkip}
use Rattle.mc_pure.specs.Examples.{node}
use Rattle.mc_pure.specs.Laws.{TrueIsNotFalse}
use Rattle.mc_state.specs.declared.line.Form.TheVariants.{Certificate}
use Rattle.mc_state.specs.declared.line.InstrRule.TheVariants.{S1, S2, S3, S17}
use Rattle.mc_state.specs.RawStates.{IsWellFormedRaw}
use Rattle.mc_state.specs.State.{State}
use Rattle.mc_state.specs.Facts.{IsFalse}
use Rattle.mc_lines.specs.declared.cert.line.Line.TheVariants.{Step, L13}
use Rattle.mc_rules_steps.specs.Steps.{moved_to}
use Rattle.mc_kernel.specs.Branches.{Setting, MayStep, roots, AreCuts}
use Rattle.mc_kernel.specs.Instances.{JumpsTo, Reads}
use Rattle.mc_kernel.specs.Certificates.{IsValidCertificate}
use Rattle.mc_kernel.specs.Examples as ex
use Rattle.mc_kernel.proofs.Lists.{contains_here}
use Rattle.mc_kernel.proofs.Plain.{contains_one}
use Rattle.mc_kernel.proofs.ListExample.{entry, gone}
use Rattle.mc_kernel.proofs.LoopStates as loop
use Rattle.mc_kernel.proofs.LoopStates.{head, with_input, at_zero, not_zero, after_zero, after_other, head_sound, input_sound, zero_sound, other_sound}
use Rattle.mc_rules_steps.proofs.ExampleFlow.{all_none}

abbrev setting : Setting
setting = loop.setting Certificate false

-- the jump to the head, which is not whole
jumps : (s : State) → s.env ≡ None ∷ None ∷ [] → (IsFalse s → ⊥) → JumpsTo setting 0 (null ∷ []) [] (gone 1 s) []
jumps s unknown_vars sound = loop.jumps Certificate false s unknown_vars (λ e. cc) sound

abbrev may : (p : ℕ) (s : State) → 1 ≢ p → MayStep setting (gone p s)
may = loop.may Certificate false

abbrev with_result : State
with_result = let s = after_zero false in record s { env = Some null ∷ None ∷ [] }

-- each line with the branches that come of it
module _ (law : TrueIsNotFalse) where
  -- where the input is not 0, back to the head
  back : Reads ex.loop_flow defs setting (Step S3 ∷ L13 0 (null ∷ []) [] ∷ []) (gone 7 (not_zero false) ∷ []) []
  back = (
    gone 1 (after_other false) ∷ [],
    [],
    (may 7 (not_zero false) (omega arith), (moved_to (ex.at 1) (after_other false) ∷ [], record { xs = ex.var 1 ∷ []; q = ex.at 1; at = refl; consistent = other_sound law false; gives = refl }, refl)),
    ([], [], jumps (after_other false) refl (other_sound law false), (refl, refl), refl),
    refl,
  )

  -- where it is 0, to the end, and then the other way
  out : Reads ex.loop_flow defs setting (Step S3 ∷ Step S1 ∷ Step S2 ∷ Step S17 ∷ Step S3 ∷ L13 0 (null ∷ []) [] ∷ []) (gone 4 (at_zero false) ∷ gone 7 (not_zero false) ∷ []) []
  out = (
    gone 5 (after_zero false) ∷ [],
    [],
    (may 4 (at_zero false) (omega arith), (moved_to (ex.at 5) (after_zero false) ∷ [], record { xs = ex.var 1 ∷ []; q = ex.at 5; at = refl; consistent = zero_sound law false; gives = refl }, refl)),
    (
      gone 6 (after_zero false) ∷ [],
      [],
      (may 5 (after_zero false) (omega arith), (moved_to (ex.at 6) (after_zero false) ∷ [], record { q = ex.at 6; at = refl; consistent = zero_sound law false; gives = refl }, refl)),
      (
        gone 8 with_result ∷ [],
        [],
        (may 6 (after_zero false) (omega arith), (moved_to (ex.at 8) with_result ∷ [], record { x = ex.var 0; from = _; q = ex.at 8; at = refl; consistent = zero_sound law false; n = null; known = refl; gives = refl }, refl)),
        ([], [], (may 8 with_result (omega arith), ([], record { at = refl; consistent = zero_sound law false; gives = refl }, refl)), back, refl),
        refl,
      ),
      refl,
    ),
    refl,
  )

  -- from the entry to the head, and from there to the test
  reads : Reads ex.loop_flow defs setting ex.loop_rules (roots ex.loop_flow setting.heads) []
  reads = (
    gone 1 entry ∷ [],
    [],
    (record { plain = refl; open_still = refl; before_cut = inr refl }, (moved_to (ex.at 1) entry ∷ [], record { q = ex.at 1; at = refl; consistent = head_sound law true; gives = refl }, refl)),
    (
      [],
      [],
      jumps entry refl (head_sound law true),
      (
        gone 2 (head false) ∷ [],
        [],
        (record { plain = refl; open_still = refl; before_cut = inr refl }, (moved_to (ex.at 2) (head false) ∷ [], record { q = ex.at 2; at = refl; consistent = head_sound law false; gives = refl }, refl)),
        (
          gone 3 (with_input false) ∷ [],
          [],
          (may 2 (head false) (omega arith), (moved_to (ex.at 3) (with_input false) ∷ [], record { x = ex.var 1; q = ex.at 3; at = refl; consistent = head_sound law false; gives = refl }, refl)),
          (
            gone 4 (at_zero false) ∷ gone 7 (not_zero false) ∷ [],
            [],
            (
              may 3 (with_input false) (omega arith),
              (
                moved_to (ex.at 4) (at_zero false) ∷ moved_to (ex.at 7) (not_zero false) ∷ [],
                record {
                  o = _;
                  o' = _;
                  t = ex.at 4;
                  f = ex.at 7;
                  at = refl;
                  consistent = input_sound law false;
                  a = node 1;
                  left_known = refl;
                  b = null;
                  right_known = refl;
                  before = with_input false;
                  operands = refl;
                  gives = refl;
                },
                refl,
              ),
            ),
            out,
            refl,
          ),
          refl,
        ),
        refl,
      ),
      refl,
    ),
    refl,
  )

  cuts_are : AreCuts ex.loop_flow (ex.at 1 ∷ [])
  cuts_are = record {
    ascend = tt;
    skips = λ p c. subst (IsSkip ex.loop_flow.points) (contains_one (ex.at 1) p c) (record { next = ex.at 2; skips = refl });
    all_heads = λ p c. c;
  }

  head_is : IsWellFormedRaw defs ex.loop_vars structs ex.loop_state
  head_is = record {
    zero = (refl, all_none _);
    made = record {
      bounded = record { positive = omega arith; kinds = tt; ids = tt; vars = tt; edges = tt; atoms = tt };
      atoms = tt;
      fits_defs = tt;
      fits_program = record { vars_fit = (tt, (tt, tt)); blocks_fit = tt };
    };
  }

  pub loop_is_certified : IsValidCertificate ex.loop_flow defs ex.loop_document
  loop_is_certified = record {
    cuts = ex.at 1 ∷ [];
    heads = (ex.at 1, ex.loop_state) ∷ [];
    rules = ex.loop_rules;
    spelled = refl;
    cuts_are = cuts_are;
    ordered = tt;
    heads_are = ((contains_here (ex.at 1) [], head_is), tt);
    reads = reads;
  }
