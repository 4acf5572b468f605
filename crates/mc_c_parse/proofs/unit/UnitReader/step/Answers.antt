use Rattle.std.proofs.Common.{[], ◌∷◌, ◌++◌, ◌∙◌, ap, map}
use Rattle.std.proofs.lemmas.List.{map-append}
use Rattle.mc_c_syntax.specs.Ast.Views.{item_of}
use Rattle.mc_c_parse.specs.Units.{types_behind}
use Rattle.mc_c_parse.proofs.UnitLemmas.{item_takes, item_closes, goes_to}
use Rattle.mc_c_parse.proofs.unit.UnitReader.step.Goals as goal

pub returns-in-Taken : goal.returns-in-Taken
returns-in-Taken c = let is = map item_of c.args.self.now.items.items in rw c.in-Some.is (c.requires, item_takes _ _ is (rw c.in-Taken.is at (c.in_ok-step-in-Some.ensures (types_behind [] is) (rw (c.contains-alias.ensures, c.as_slice.ensures) (c.requires c.args.token.now.text)))))

pub returns-in_ok-add-in-Closed : goal.returns-in_ok-add-in-Closed
returns-in_ok-add-in-Closed c = let is = map item_of c.args.self.now.items.items in rw c.in-Some.is (c.in_ok-add-in-Closed.ensures.known, goes_to (is ++ item_of c.in-Closed.item.value ∷ []) _ _ (ap (λ items. map item_of items) c.in_ok-add-in-Closed.ensures.items ∙ map-append item_of c.args.self.now.items.items (c.in-Closed.item.value ∷ [])) c.in_ok-add-in-Closed.ensures.starts (item_closes _ is (item_of c.in-Closed.item.value) (rw c.in-Closed.is at (c.in_ok-step-in-Some.ensures (types_behind [] is) (rw (c.contains-alias.ensures, c.as_slice.ensures) (c.requires c.args.token.now.text))))))

pub returns-in-Stuck : goal.returns-in-Stuck
returns-in-Stuck c = let is = map item_of c.args.self.now.items.items in rw c.in-Some.is (λ more all n. (rw c.in-Stuck.is at (c.in_ok-step-in-Some.ensures (types_behind [] is) (rw (c.contains-alias.ensures, c.as_slice.ensures) (c.requires c.args.token.now.text)))) more n.1 n.0 n.2)
