use Rattle.std.proofs.Common.{◌≡◌, ◌++◌, map, drop}
use Rattle.mc_c_types.specs.Held.{alias_held}
use Rattle.mc_c_types.specs.Tables.{alias_meaning}
use Rattle.mc_c_check.proofs.collect.add_typedef.Given as goal

abbrev pub invariant-loop-declarator : goal.invariant-loop-declarator
invariant-loop-declarator l = record {
  kept : l.tables.structs ≡ l.initial.tables.structs;
  same : l.tables.functions ≡ l.initial.tables.functions;
  added : map alias_held l.tables.aliases ++ map (λ d. record { name = d.name.text; meaning = alias_meaning l.meaning d.pointer }) (drop l.declarator-index l.tree.declarators.items) ≡ map alias_held l.initial.tables.aliases ++ map (λ d. record { name = d.name.text; meaning = alias_meaning l.meaning d.pointer }) l.tree.declarators.items;
}
