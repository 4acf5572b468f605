-- Where a branch may jump at once, a document is accepted whose program fails; and a loop without a cut is refused.
use Rattle.std.proofs.Common.{◌≡◌, List, [], ◌∷◌, ◌++◌, map, refl, subst, inr}
use Rattle.std.specs.Prelude.{Contains}
use Rattle.mc_base.specs.declared.ids.PointId.{PointId}
use Rattle.mc_base.specs.Nodes.{null}
use Rattle.mc_flow.specs.Defs.Examples.{defs}
use Rattle.mc_pure.specs.Laws.{TrueIsNotFalse}
use Rattle.mc_state.specs.declared.line.Form.TheVariants.{Certificate}
use Rattle.mc_lines.specs.declared.cert.line.Line.{Line}
use Rattle.mc_state.specs.declared.line.InstrRule.TheVariants.{S1}
use Rattle.mc_lines.specs.declared.cert.line.Line.TheVariants.{Header, Cut, Step, L13}
use Rattle.mc_state.specs.declared.line.Version.TheVariants.{One}
use Rattle.mc_state.specs.RawStates.{state_of}
use Rattle.mc_state.specs.State.{unknown}
use Rattle.mc_rules_steps.specs.Steps.{moved_to}
use Rattle.mc_kernel.specs.Branches.{Setting, path_of, roots}
use Rattle.mc_kernel.specs.Certificates.{IsValidCertificate}
use Rattle.mc_kernel.specs.Examples as ex
use Rattle.mc_kernel.specs.Examples.{failing_flow, failing_state}
use Rattle.mc_kernel.specs.WrongJumps.{ReadsAtOnce, IsCertificateAtOnce, failing_document, uncut_document}
use Rattle.mc_kernel.proofs.FailingExample.{entry_sound, head_sound, failing_jumps, failing_cuts, failing_head}
use Rattle.mc_kernel.proofs.Lists.{contains_here, contains_none}

abbrev setting : Setting
setting = record { form = Certificate; cuts = ex.at 1 ∷ []; heads = (ex.at 1, state_of failing_state) ∷ [] }

module _ (law : TrueIsNotFalse) where
  -- the second jump is from the head's own branch
  reads : ReadsAtOnce failing_flow defs setting (Step S1 ∷ L13 0 (null ∷ []) [] ∷ L13 0 (null ∷ []) [] ∷ []) (roots failing_flow setting.heads)
  reads = (
    path_of (moved_to (ex.at 1) (unknown 0)) ∷ [],
    (record { plain = refl; open_still = refl; before_cut = inr refl }, (moved_to (ex.at 1) (unknown 0) ∷ [], record { q = ex.at 1; at = refl; consistent = entry_sound law; gives = refl }, refl)),
    (
      [],
      record { plain = refl; at_cut = contains_here (ex.at 1) []; consistent = entry_sound law; head = state_of failing_state; there = refl; jumps = failing_jumps (unknown 0) refl; gives = refl },
      (
        [],
        record { plain = refl; at_cut = contains_here (ex.at 1) []; consistent = head_sound law; head = state_of failing_state; there = refl; jumps = failing_jumps (state_of failing_state) refl; gives = refl },
        refl,
      ),
    ),
  )

  pub failing_is_accepted : IsCertificateAtOnce failing_flow defs failing_document
  failing_is_accepted = record {
    cuts = ex.at 1 ∷ [];
    heads = (ex.at 1, failing_state) ∷ [];
    rules = Step S1 ∷ L13 0 (null ∷ []) [] ∷ L13 0 (null ∷ []) [] ∷ [];
    spelled = refl;
    cuts_are = failing_cuts;
    ordered = tt;
    heads_are = ((contains_here (ex.at 1) [], failing_head), tt);
    reads = reads;
  }

-- ---- a loop head that is no cut

no_cuts : (cuts : List PointId) (rest : List Line) → uncut_document ≡ Header One Certificate ∷ (map Cut cuts ++ rest) → cuts ≡ []
no_cuts [] rest e = refl
no_cuts (p ∷ ps) rest e = cc

pub uncut_is_refused : ¬ IsValidCertificate ex.loop_flow defs uncut_document
uncut_is_refused certificate =
    let none : certificate.cuts ≡ [] = no_cuts certificate.cuts _ certificate.spelled in
    contains_none (ex.at 1) (subst (λ (cuts : List PointId). Contains cuts (ex.at 1)) none (certificate.cuts_are.all_heads (ex.at 1) (contains_here (ex.at 1) [])))
