use Rattle.std.proofs.Common.{ℕ, List, sym, subst}
use Rattle.mc_load.specs.declared.read.cause.ReadFault.{ReadFault}
use Rattle.mc_load.specs.Read.Refusals.{IsFault}
use Rattle.mc_load.proofs.ReadLemmas.Faults.{lexical_fault}
use Rattle.mc_load.proofs.read.reading.tokens.Goals as goal

pub returns-in-Err-clause-read : goal.returns-in-Err-clause-read
returns-in-Err-clause-read c =
    let text = c.args.text.now in
    subst (λ (f : ReadFault). (entry : List ℕ) → IsFault text entry f) (sym c.of_lexical.ensures) (lexical_fault text c.in-Err.fault c.in-Err.ensures.reading)
