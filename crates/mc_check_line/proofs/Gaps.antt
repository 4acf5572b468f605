-- What an instruction lacks is known in one way.
use Rattle.std.proofs.Common.{◌≡◌, ◌↔◌, Option, Some, None, refl, sym}
use Rattle.mc_rules_steps.specs.declared.gap.Gap.{Gap}

-- two that are there exactly where the instruction is unmet are one
pub same_gap : (Unmet : Gap → Type 0) (found own : Option Gap) → ((gap : Gap) → (found ≡ Some gap) ↔ Unmet gap)
    → ((gap : Gap) → (own ≡ Some gap) ↔ Unmet gap) → found ≡ own
same_gap Unmet None None here there = refl
same_gap Unmet None (Some gap) here there = (here gap).1 ((there gap).0 refl)
same_gap Unmet (Some gap) None here there = sym ((there gap).1 ((here gap).0 refl))
same_gap Unmet (Some gap) (Some other) here there = sym ((there gap).1 ((here gap).0 refl))
