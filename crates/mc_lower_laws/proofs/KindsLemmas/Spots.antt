-- The places of the variables of a function are those that it declares.
use Rattle.std.proofs.Common.{◌≡◌, List, [], ◌∷◌, ◌++◌, Option, Some, None, map, refl, ap, ap₂, ◌∙◌}
use Rattle.std.specs.Option.{option_map_or}
use Rattle.std.proofs.lemmas.List.{map-append}
use Rattle.mc_base.specs.declared.text.place.Place.{Place}
use Rattle.mc_c_syntax.specs.declared.ast.trees.Parameter.{Parameter}
use Rattle.mc_c_syntax.specs.Ast.Trees as tree
use Rattle.mc_c_types.specs.Tables.{Tables, Variable, parameters_of, listed_parameters, variable_of as declared_variable}
use Rattle.mc_c_grammar.specs.Places.Places.{declaration_places, start_places, statement_places, statements_places, parameters_places, body_places, function_places}
use Rattle.mc_semantics.specs.Resolved.Resolving.{declaration_variables, start_variables, statement_variables, statements_variables, body_statements, function_variables}

pub all_items : (t : Tables) (d : tree.DeclarationTree) (items : List tree.InitialTree)
    → map (λ v. v.place) (map (λ item. declared_variable t d.base item.declarator) items) ≡ map (λ item. item.declarator.name.place) items
all_items t d [] = refl
all_items t d (item ∷ items) = ap (λ places. item.declarator.name.place ∷ places) (all_items t d items)

pub item_places_are : (t : Tables) (d : tree.DeclarationTree) → map (λ v. v.place) (declaration_variables t d) ≡ declaration_places d
item_places_are t d = all_items t d d.items

pub start_places_are : (t : Tables) (start : tree.Start) → map (λ v. v.place) (start_variables t start) ≡ start_places start
start_places_are t tree.nothing = refl
start_places_are t (tree.declares d) = item_places_are t d
start_places_are t (tree.performs x) = refl

pub joined : (xs ys : List Variable) (ps qs : List Place) → map (λ v. v.place) xs ≡ ps → map (λ v. v.place) ys ≡ qs → map (λ v. v.place) (xs ++ ys) ≡ ps ++ qs
joined xs ys ps qs first second = map-append (λ v. v.place) xs ys ∙ ap₂ (λ a b. a ++ b) first second

mutual
  statement_places_are : (t : Tables) (a : tree.Stmt) → map (λ v. v.place) (statement_variables t a) ≡ statement_places a
  statement_places_are t (tree.declaration d) = item_places_are t d
  statement_places_are t (tree.block p ss) = row_places_are t ss
  statement_places_are t (tree.empty p) = refl
  statement_places_are t (tree.simple x) = refl
  statement_places_are t (tree.free p e) = refl
  statement_places_are t (tree.assert p c) = refl
  statement_places_are t (tree.assume p c) = refl
  statement_places_are t (tree.assume_shape p predicate x args) = refl
  statement_places_are t (tree.assert_shape p predicate a args) = refl
  statement_places_are t (tree.assert_empty p) = refl
  statement_places_are t (tree.if_only p c a) = statement_places_are t a
  statement_places_are t (tree.if_else p c a b) =
      joined (statement_variables t a) (statement_variables t b) (statement_places a) (statement_places b) (statement_places_are t a) (statement_places_are t b)
  statement_places_are t (tree.while_loop p c a) = statement_places_are t a
  statement_places_are t (tree.do_loop p a c) = statement_places_are t a
  statement_places_are t (tree.for_loop h a) =
      joined (start_variables t h.start) (statement_variables t a) (start_places h.start) (statement_places a) (start_places_are t h.start) (statement_places_are t a)
  statement_places_are t (tree.break_loop p) = refl
  statement_places_are t (tree.continue_loop p) = refl
  statement_places_are t (tree.returns p r) = refl

  row_places_are : (t : Tables) (ss : tree.Stmts) → map (λ v. v.place) (statements_variables t ss) ≡ statements_places ss
  row_places_are t tree.no_more = refl
  row_places_are t (tree.then a more) =
      joined (statement_variables t a) (statements_variables t more) (statement_places a) (statements_places more) (statement_places_are t a) (row_places_are t more)

pub listed_are : (t : Tables) (ps : List Parameter) → map (λ v. v.place) (map (λ p. declared_variable t p.base p.declarator) ps) ≡ map (λ p. p.declarator.name.place) ps
listed_are t [] = refl
listed_are t (p ∷ ps) = ap (λ places. p.declarator.name.place ∷ places) (listed_are t ps)

pub parameter_places_are : (t : Tables) (ps : tree.ParametersTree) → map (λ v. v.place) (map (λ p. declared_variable t p.base p.declarator) (listed_parameters ps)) ≡ parameters_places ps
parameter_places_are t tree.unnamed = refl
parameter_places_are t (tree.void p) = refl
parameter_places_are t (tree.listed ps) = listed_are t ps

body_places_are : (t : Tables) (body : Option tree.BodyTree) → map (λ v. v.place) (statements_variables t (option_map_or (λ b. tree.stmts_of b.statements) body tree.no_more)) ≡ body_places body
body_places_are t None = refl
body_places_are t (Some body) = row_places_are t (tree.stmts_of body.statements)

pub function_places_are : (t : Tables) (f : tree.FunctionTree) → map (λ v. v.place) (function_variables t f) ≡ function_places f
function_places_are t f =
    joined (parameters_of t f) (statements_variables t (body_statements f)) (parameters_places f.parameters) (body_places f.body)
    (parameter_places_are t f.parameters) (body_places_are t f.body)
