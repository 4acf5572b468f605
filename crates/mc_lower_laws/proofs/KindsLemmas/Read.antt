-- Typedefs of programs that were read name what stands before them.
use Rattle.std.proofs.Common.{◌≡◌, ℕ, List, [], ◌∷◌, ◌++◌, sym, subst, ◌∙◌, append_assoc, append-nil}
use Rattle.mc_c_syntax.specs.declared.ast.trees.Base.{Base}
use Rattle.mc_c_syntax.specs.Ast.Grammar.{IsBase, int, tagged, alias, IsAliased, base_aliased, struct_aliased, introduces, IsItem, struct_item, typedef_item, function_item, MoreItems, no_item, next_item, IsUnit}
use Rattle.mc_c_syntax.specs.Ast.Names.{Tokens}
use Rattle.mc_c_syntax.specs.Ast.Trees.{AliasedTree, ItemTree, UnitTree}
use Rattle.mc_lower_laws.specs.Kinds.Typedefs.{IsKnownBase, IsKnownAliased, IsKnownItem, AreKnownItems, HasKnownTypedefs}

base_known : {names : List (List ℕ)} {x : Base} {ts rest : Tokens} → IsBase names x ts rest → IsKnownBase names x
base_known (int is) = tt
base_known (tagged is name) = tt
base_known (alias is) = is.known

aliased_known : {names : List (List ℕ)} {x : AliasedTree} {ts rest : Tokens} → IsAliased names x ts rest → IsKnownAliased names x
aliased_known (base_aliased is) = base_known is
aliased_known (struct_aliased is) = tt

item_known : {names : List (List ℕ)} {x : ItemTree} {ts rest : Tokens} → IsItem names x ts rest → IsKnownItem names x
item_known (struct_item inner is) = tt
item_known (typedef_item (introduces word inner ds mark)) = aliased_known inner
item_known (function_item inner) = tt

-- the items that are still to come
record Later (names : List (List ℕ)) (es all : List ItemTree) : Type 0 where
  later : List ItemTree
  same : all ≡ es ++ later
  known : AreKnownItems names later

items_known : {names : List (List ℕ)} {es all : List ItemTree} {ts : Tokens} → MoreItems names es ts all → Later names es all
items_known {es = es} (no_item is) = record { later = []; same = sym (append-nil es); known = tt }
items_known {es = es} (next_item {i = x} one path) =
    let rest = items_known path in
    record { later = x ∷ rest.later; same = rest.same ∙ append_assoc es (x ∷ []) rest.later; known = (item_known one, rest.known) }

pub unit_known : (unit : UnitTree) (tokens : Tokens) → IsUnit unit tokens → HasKnownTypedefs unit
unit_known unit tokens is = let all = items_known is in subst (AreKnownItems []) (sym all.same) all.known
