use Rattle.std.proofs.Common.{◌∙◌, ℕ, List, subst}
use Rattle.std.specs.Prelude.{MatchResult}
use Rattle.mc_c_syntax.specs.Ast.Views.{unit_of}
use Rattle.mc_load.specs.Inputs.Texts.{AreDefinitions, IsUndefined}
use Rattle.mc_load.proofs.InputsLemmas.Picking.{at_some}
use Rattle.mc_load.proofs.inputs.reading.definitions_in.Goals as goal

pub returns-in_ok-read-in-Some-clause-told : goal.returns-in_ok-read-in-Some-clause-told
returns-in_ok-read-in-Some-clause-told g c = λ bytes h.
    let got = at_some c.in_ok-text.field-0 c.in-Some.bytes _ _ c.in-Some.is (c.in_ok-text.ensures.told bytes h) in
    let same = c.deref.ensures.value ∙ got.0 in
    let unit = unit_of c.args.typed.now.unit in
    subst (λ (bs : List ℕ). MatchResult c.in_ok-read-in-Some.read (λ defs. AreDefinitions unit defs bs) (λ cause. IsUndefined unit cause bs)) same c.in_ok-read-in-Some.ensures.read
