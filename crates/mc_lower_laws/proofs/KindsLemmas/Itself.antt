-- A program with a typedef that names itself is not of its kinds.
use Rattle.std.proofs.Common.{◌≡◌, refl, ◌∙◌, ap, [], Some}
use Rattle.std.specs.Prelude.{codes, unwrap_or}
use Rattle.mc_base.specs.declared.plain.Kind.{Kind}
use Rattle.mc_base.specs.declared.plain.Kind.TheVariants.{Int, Ptr}
use Rattle.mc_c_types.specs.Tables.{tables_of, struct_infos}
use Rattle.mc_semantics.specs.Resolved.Resolving.{resolved_program}
use Rattle.mc_lower_laws.specs.Valid.Kinds.{IsWellMade}
use Rattle.mc_lower_laws.specs.Kinds.Examples.{names_itself}

same_kind : (a b : Kind) → Some a ≡ Some b → a ≡ b
same_kind a b e = ap (λ o. unwrap_or o a) e

pub itself_wrong : ¬ IsWellMade (record { list = struct_infos names_itself }) (resolved_program (tables_of names_itself) [] (codes "main"))
itself_wrong made =
    let body = made.functions 0 _ refl in
    let freed = body.1.0 in
    let kinds : Int ≡ Ptr = same_kind Int freed.0 freed.1 ∙ freed.2 in
    cc
