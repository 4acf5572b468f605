use Rattle.std.proofs.Common.{◌≡◌, sym, ◌∙◌}
use Rattle.mc_c_parse_simple.specs.declared.declaration.DeclarationState.TheVariants as DeclarationState
use Rattle.mc_c_parse_simple.proofs.Declarations.{one_item}
use Rattle.mc_c_parse_simple.proofs.declaration.DeclarationReader.with_value.Goals as goal

pub returns-in_ok-push-in-Value : goal.returns-in_ok-push-in-Value
returns-in_ok-push-in-Value c = λ declarator reader is aliases.
    let both : DeclarationState.Value c.in-Value.declarator c.in-Value.field-1 ≡ DeclarationState.Value declarator reader = sym c.in-Value.is ∙ is in
    let same : c.in-Value.declarator ≡ declarator = cc in
    rw (← same) (one_item aliases _ _ _ _ _ _ c.in_ok-push-in-Value.ensures.items (c.behind_initial.ensures aliases))
