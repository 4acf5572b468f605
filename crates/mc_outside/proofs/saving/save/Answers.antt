use Rattle.std.proofs.Common.{rules}
use Rattle.mc_outside.proofs.SavingLemmas.Saved.{all_added}
use Rattle.mc_outside.proofs.saving.save.Goals as goal

pub returns-in_err-create-clause-saved : goal.returns-in_err-create-clause-saved
returns-in_err-create-clause-saved g c = search rules

pub returns-in_err-append-clause-saved : goal.returns-in_err-append-clause-saved
returns-in_err-append-clause-saved g c = search rules

pub returns-clause-saved : goal.returns-clause-saved
returns-clause-saved g c = all_added c.args.name.now c.args.bytes.now _ (g.F.Files.holds c.create.new.self) (g.F.Files.holds c.append.new.self) c.in_ok-create.ensures.empties c.in_ok-append.ensures.adds
