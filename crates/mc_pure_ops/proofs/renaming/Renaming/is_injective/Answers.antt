use Rattle.std.proofs.Common.{rules}
use Rattle.mc_pure_ops.proofs.RenamingLemmas.Adding.{injective_by}
use Rattle.mc_pure_ops.proofs.renaming.Renaming.is_injective.Goals as goal

pub returns-in-Some : goal.returns-in-Some
returns-in-Some c = ((λ t. injective_by c.args.self.now c.in-Some._back (rw c.in-Some.is at c.in_ok-_back.ensures.back)), λ h. search rules)
