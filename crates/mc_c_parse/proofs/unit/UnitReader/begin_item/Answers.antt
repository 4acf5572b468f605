use Rattle.std.proofs.Common.{Some, [], ◌∷◌, ◌++◌, ◌∙◌, ap, map}
use Rattle.std.proofs.lemmas.List.{map-append}
use Rattle.mc_c_syntax.specs.Ast.Views.{item_of}
use Rattle.mc_c_parse.specs.Units.{types_behind}
use Rattle.mc_c_parse.specs.declared.item.ItemReader.TheVariants as ItemReader
use Rattle.mc_c_parse.specs.declared.unit.UnitStep.TheVariants as UnitStep
use Rattle.mc_c_parse.proofs.UnitLemmas.{item_takes, item_closes, goes_to, unit_starts}
use Rattle.mc_c_parse.proofs.unit.UnitReader.begin_item.Goals as goal

pub returns-in-Taken : goal.returns-in-Taken
returns-in-Taken c = let is = map item_of c.args.self.now.items.items in let types = types_behind [] is in rw c.requires.between (unit_starts types is c.args.token.now c.args.class c.requires.of c.requires.no_end (record { items = c.args.self.now.items; current = Some c.step.new.self; aliases = c.args.self.now.aliases }) UnitStep.Taken (c.requires.known, item_takes ItemReader.Start _ is (rw c.in-Taken.is at (c.in_ok-step.ensures types (c.requires.known c.args.token.now.text ∙ c.requires.alias)))))

pub returns-in_ok-add-in-Closed : goal.returns-in_ok-add-in-Closed
returns-in_ok-add-in-Closed c = let is = map item_of c.args.self.now.items.items in let types = types_behind [] is in rw c.requires.between (unit_starts types is c.args.token.now c.args.class c.requires.of c.requires.no_end c.add.new.self UnitStep.Taken (c.in_ok-add-in-Closed.ensures.known, goes_to (is ++ item_of c.in-Closed.item.value ∷ []) _ _ (ap (λ items. map item_of items) c.in_ok-add-in-Closed.ensures.items ∙ map-append item_of c.args.self.now.items.items (c.in-Closed.item.value ∷ [])) c.in_ok-add-in-Closed.ensures.starts (item_closes ItemReader.Start is (item_of c.in-Closed.item.value) (rw c.in-Closed.is at (c.in_ok-step.ensures types (c.requires.known c.args.token.now.text ∙ c.requires.alias))))))

pub returns-in-Stuck : goal.returns-in-Stuck
returns-in-Stuck c = let is = map item_of c.args.self.now.items.items in let types = types_behind [] is in rw c.requires.between (unit_starts types is c.args.token.now c.args.class c.requires.of c.requires.no_end c.args.self.now UnitStep.Stuck (λ more all n. (rw c.in-Stuck.is at (c.in_ok-step.ensures types (c.requires.known c.args.token.now.text ∙ c.requires.alias))) more n.1 n.0 n.2))
