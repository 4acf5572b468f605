use Rattle.std.proofs.Common.{◌≡◌, drop, length}
use Rattle.mc_state.specs.Known.{Test, Tells}
use Rattle.mc_state.specs.Lists.{all_both}
use Rattle.mc_rules_logic.specs.Fold.Judges.{is_named_too}
use Rattle.mc_apply_fold.proofs.fold.contents.are_fields.Given as goal

abbrev pub invariant-loop-i : goal.invariant-loop-i
invariant-loop-i l =
    (length l.contents ≡ length l.fields)
    × ((know : Test) → Tells know l.s → all_both (is_named_too know l.names) l.contents l.fields ≡ all_both (is_named_too know l.names) (drop l.i l.contents) (drop l.i l.fields))
