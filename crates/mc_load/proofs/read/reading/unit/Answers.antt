use Rattle.std.proofs.Common.{ℕ, List, sym, subst}
use Rattle.std.specs.Prelude.{Ok}
use Rattle.mc_base.specs.declared.text.token.Token.{Token}
use Rattle.mc_c_syntax.specs.Lex.Readings.{Lexes}
use Rattle.mc_load.specs.declared.read.cause.ReadFault.{ReadFault}
use Rattle.mc_load.specs.Read.Refusals.{IsFault}
use Rattle.mc_load.proofs.ReadLemmas.Faults.{grammatical_fault}
use Rattle.mc_load.proofs.read.reading.unit.Goals as goal

pub returns : goal.returns
returns c =
    let text = c.args.text.now in
    let tokens = c.deref.result.now in
    let lexes = subst (λ (ts : List Token). Lexes text (Ok ts)) (sym c.deref.ensures.value) c.in_ok-tokens.ensures.read in
    subst (λ (f : ReadFault). (entry : List ℕ) → IsFault text entry f) (sym c.of_grammatical.ensures) (grammatical_fault text tokens c.in-Err.fault lexes c.in-Err.ensures.refused)
