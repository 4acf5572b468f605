-- The numbers of programs that were read are small.
use Rattle.std.proofs.Common.{ℕ, List, Option}
use Rattle.mc_c_syntax.specs.Ast.Trees.{BodyTree, ItemTree, UnitTree}
use Rattle.mc_c_syntax.specs.Ast.Names.{Tokens}
use Rattle.mc_c_syntax.specs.Ast.Grammar.{IsBody, prototype, body, defined, IsItem, struct_item, typedef_item, function_item, MoreItems, no_item, next_item, IsUnit}
use Rattle.mc_c_grammar.specs.Numbers.Numbers.{maybe_numbers, body_numbers, item_numbers, unit_numbers, HasSmallNumbers}
use Rattle.mc_c_grammar.proofs.NumbersLemmas.Small.{AreSmall, no_number, all_small, behind_small}
use Rattle.mc_c_grammar.proofs.NumbersLemmas.SmallStatements.{row_small, statements_small}

body_small : {aliases : List (List ℕ)} {x : Option BodyTree} {ts rest : Tokens} → IsBody aliases x ts rest → AreSmall (maybe_numbers body_numbers x)
body_small (prototype is) = no_number
body_small (body {ss = ss} before inner after) = row_small ss (statements_small inner no_number)

item_small : {aliases : List (List ℕ)} {x : ItemTree} {ts rest : Tokens} → IsItem aliases x ts rest → AreSmall (item_numbers x)
item_small (struct_item inner is) = no_number
item_small (typedef_item inner) = no_number
item_small (function_item (defined static result name before ps after inner)) = body_small inner

items_small : {aliases : List (List ℕ)} {es all : List ItemTree} {ts : Tokens} → MoreItems aliases es ts all → AreSmall (unit_numbers es) → AreSmall (unit_numbers all)
items_small (no_item is) small = small
items_small {es = es} (next_item {i = x} one path) small = items_small path (behind_small item_numbers es x small (item_small one))

pub unit_small : {unit : UnitTree} {tokens : Tokens} → IsUnit unit tokens → HasSmallNumbers unit
unit_small is = all_small (items_small is no_number)
