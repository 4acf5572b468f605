use Rattle.std.proofs.Common.{◌≡◌, map, drop}
use Rattle.mc_c_syntax.specs.Ast.Views.{item_of}
use Rattle.mc_c_types.specs.Held.{alias_held}
use Rattle.mc_c_types.specs.Tables.{aliases_of}
use Rattle.mc_c_check.specs.Collected.{structs_held}
use Rattle.mc_c_check.proofs.collect.add_aliases.Given as goal

abbrev pub invariant-loop-item : goal.invariant-loop-item
invariant-loop-item l = record {
  kept : l.tables.structs ≡ l.initial.tables.structs;
  same : l.tables.functions ≡ l.initial.tables.functions;
  added : aliases_of (structs_held l.initial.tables.structs) (map alias_held l.tables.aliases) (map item_of (drop l.item-index l.items)) ≡ aliases_of (structs_held l.initial.tables.structs) (map alias_held l.initial.tables.aliases) (map item_of l.items);
}
