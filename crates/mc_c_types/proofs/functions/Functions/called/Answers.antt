use Rattle.std.proofs.Common.{◌≡◌, ◌∙◌, ap, sym, Option, Bor, List, ℕ}
use Rattle.std.specs.Prelude.{filter, position, slice_get}
use Rattle.mc_c_syntax.specs.Ast.Names.{is_same}
use Rattle.mc_c_syntax.specs.Ast.Views.{function_of}
use Rattle.mc_c_syntax.specs.declared.ast.trees.Function.{Function}
use Rattle.mc_c_types.specs.Tables.{is_defined}
use Rattle.mc_c_types.proofs.Finds.{find-filter, find-none, find-some, option_map-copied}
use Rattle.mc_c_types.proofs.functions.Functions.called.Goals as goal

abbrev those_defined : List (Bor Function) → List (Bor Function)
those_defined all = filter (λ f. is_defined (function_of f.now)) all

placed : (defined all held : List (Bor Function)) (name : List ℕ) (place : Option ℕ) → place ≡ position (λ f. is_same f.now.name.text name) defined → defined ≡ those_defined all → all ≡ held
    → place ≡ position (λ f. is_same f.now.name.text name) (those_defined held)
placed defined all held name place e same is = e ∙ ap (λ fs. position (λ f. is_same f.now.name.text name) fs) (same ∙ ap those_defined is)

pub returns-in-None : goal.returns-in-None
returns-in-None c =
    rw (find-filter is_defined (λ f. is_same f.name.text c.args.name.now) (λ f. function_of f.now) c.args.self.now)
    (find-none (λ f. is_same f.name.text c.args.name.now) (λ f. function_of f.now) (those_defined c.args.self.now)
    (sym c.in-None.is ∙ placed c.self.inside.defined c.self.inside.all c.args.self.now c.args.name.now c.place.result c.place.ensures c.self.invariant c.self.view_is))

pub returns-in-Some : goal.returns-in-Some
returns-in-Some c =
    rw (find-filter is_defined (λ f. is_same f.name.text c.args.name.now) (λ f. function_of f.now) c.args.self.now)
    (rw (option_map-copied function_of c.copied.result)
    (find-some (λ f. is_same f.name.text c.args.name.now) (λ f. function_of f.now) (those_defined c.args.self.now) c.in-Some.place c.copied.result
    (sym c.in-Some.is ∙ placed c.self.inside.defined c.self.inside.all c.args.self.now c.args.name.now c.place.result c.place.ensures c.self.invariant c.self.view_is)
    (c.copied.ensures ∙ c.get.ensures ∙ ap (λ fs. slice_get fs c.in-Some.place) (c.self.invariant ∙ ap those_defined c.self.view_is))))
