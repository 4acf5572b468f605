use Rattle.std.proofs.Common.{[], ◌∷◌, map}
use Rattle.std.proofs.lemmas.List.{map-append}
use Rattle.mc_c_syntax.specs.Ast.Views.{item_of}
use Rattle.mc_c_parse.proofs.UnitLemmas.{known_more}
use Rattle.mc_c_parse.proofs.unit.UnitReader.add.Goals as goal

pub returns-clause-known : goal.returns-clause-known
returns-clause-known c = rw (c.in_ok-push.ensures.items, map-append item_of c.args.self.now.items.items (c.into_inner-item.result ∷ [])) (known_more (map item_of c.args.self.now.items.items) (item_of c.into_inner-item.result) c.args.self.now.aliases c.introduce.new.aliases c.requires c.in_ok-introduce.ensures)
