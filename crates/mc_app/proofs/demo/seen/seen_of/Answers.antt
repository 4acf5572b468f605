use Rattle.std.proofs.Common.{ℕ, List, inl, inr, refl, subst}
use Rattle.mc_c_syntax.specs.Ast.Views.{unit_of}
use Rattle.mc_load.specs.Inputs.Pairs.{ArePair, AreRefused}
use Rattle.mc_app.specs.Demo.Seen.{start}
use Rattle.mc_app.proofs.demo.seen.seen_of.Goals as goal
use Rattle.mc_load.proofs.InputsLemmas.Picking.{at_err, at_ok}

pub returns-in-Err : goal.returns-in-Err
returns-in-Err c =
    let text = c.args.text.now in
    let refused = at_err c.in_ok-read_pair.field-0 c.in-Err.field-0 _ _ c.in-Err.is c.in_ok-read_pair.ensures.read in
    inl (refl, (c.in-Err.field-0, subst (λ (defs : List ℕ). AreRefused start text defs c.in-Err.field-0) c.definitions.ensures refused))

pub returns : goal.returns
returns c =
    let text = c.args.text.now in
    let bound = c.in-Ok.bound in
    let unit = unit_of bound.typed.unit in
    let pair = at_ok c.in_ok-read_pair.field-0 bound _ _ c.in-Ok.is c.in_ok-read_pair.ensures.read in
    inr (unit, bound.defs, subst (λ (defs : List ℕ). ArePair start text defs unit bound.defs) c.definitions.ensures pair, c.in_ok-seen-in-Ok.ensures)
