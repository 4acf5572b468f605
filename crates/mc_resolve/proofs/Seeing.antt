-- The variable that a name means, as the code finds it.
use Rattle.std.proofs.Common.{◌≡◌, ℕ, Bool, true, false, cond, List, [], ◌∷◌, Option, Some, None, map, reverse, length, refl, ap, ◌∙◌}
use Rattle.std.specs.Prelude.{find, option_map, unwrap_or}
use Rattle.std.specs.Option.{option_map_or}
use Rattle.mc_c_syntax.specs.declared.ast.trees.Name.{Name}
use Rattle.mc_c_syntax.specs.Ast.Names.{is_same}
use Rattle.mc_c_types.specs.Tables.{Variable}
use Rattle.mc_c_types.specs.Held.{variable_held, variables_held}
use Rattle.mc_c_types.specs.declared.scope.Named.{Named}
use Rattle.mc_c_types.specs.declared.types.VariableType.TheVariants.{Anything}
use Rattle.mc_c_types.specs.Faults.{variable_type}
use Rattle.mc_semantics.specs.Values.{variable_of}
use Rattle.mc_semantics.specs.Resolved.Resolving.{Naming, number_in, numbers_in, resolved_variable}

pub number_found : (n : Naming) (vs : List Variable) (name : Name) (found : Option Variable) → found ≡ variable_of vs name
    → option_map_or (λ v. number_in n.locals v.place) found (length n.locals) ≡ resolved_variable n vs name
number_found n vs name found e = ap (λ o. option_map_or (λ v. number_in n.locals v.place) o (length n.locals)) e

pub type_found : (vs : List Variable) (name : Name) (found : Option Variable) → found ≡ variable_of vs name → unwrap_or (option_map (λ v. v.type) found) Anything ≡ variable_type vs name
type_found vs name found e = ap (λ o. unwrap_or (option_map (λ v. v.type) o) Anything) e

numbers_in_row : (locals : List Variable) (vs : List Named) → map (λ v. number_in locals v.place) vs ≡ numbers_in locals (map variable_held vs)
numbers_in_row locals [] = refl
numbers_in_row locals (v ∷ vs) = ap (λ ns. number_in locals v.place ∷ ns) (numbers_in_row locals vs)

pub numbers_held : (locals : List Variable) (vs : List Named) → map (λ v. number_in locals v.place) (reverse vs) ≡ numbers_in locals (variables_held vs)
numbers_held locals vs = numbers_in_row locals (reverse vs)
