use Rattle.std.proofs.Common.{◌≡◌, ◌∙◌, ap, sym, Option, List, ℕ}
use Rattle.std.specs.Prelude.{map, position}
use Rattle.mc_c_syntax.specs.Ast.Names.{is_same}
use Rattle.mc_c_types.specs.Held.{alias_held}
use Rattle.mc_c_syntax.proofs.NamesLemmas.Positions.{position-map}
use Rattle.mc_c_types.proofs.Finds.{find-none, find-some}
use Rattle.mc_c_types.specs.declared.tables.Meaning.{Meaning}
use Rattle.mc_c_types.proofs.aliases.Aliases.find.Goals as goal

placed : (meanings held : List Meaning) (names : List (List ℕ)) (name : List ℕ) (place : Option ℕ) → place ≡ position (λ n. is_same n name) names → names ≡ map (λ m. m.name.now) meanings
    → meanings ≡ held → place ≡ position (λ m. is_same m.name.now name) held
placed meanings held names name place e same is =
    e ∙ ap (λ ns. position (λ n. is_same n name) ns) same ∙ position-map (λ n. is_same n name) (λ m. m.name.now) meanings ∙ ap (λ ms. position (λ m. is_same m.name.now name) ms) is

pub returns-in-None : goal.returns-in-None
returns-in-None c =
    find-none (λ a. is_same a.name c.args.name.now) alias_held c.args.self.now
    (sym c.in-None.is ∙ placed c.self.inside.meanings.items c.args.self.now c.self.inside.names c.args.name.now c.place.result c.place.ensures c.self.invariant c.self.view_is)

pub returns-in-Some : goal.returns-in-Some
returns-in-Some c =
    find-some (λ a. is_same a.name c.args.name.now) alias_held c.args.self.now c.in-Some.place _
    (sym c.in-Some.is ∙ placed c.self.inside.meanings.items c.args.self.now c.self.inside.names c.args.name.now c.place.result c.place.ensures c.self.invariant c.self.view_is)
    c.get.ensures
