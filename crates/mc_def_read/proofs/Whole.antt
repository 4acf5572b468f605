-- What files from texts have: small numbers, and definitions with rules.
use Rattle.std.proofs.Common.{◌≡◌, ◌≢◌, ℕ, ◌≤◌, List, [], ◌∷◌, ◌++◌, refl}
use Rattle.mc_c_syntax.specs.Ast.Names.{Tokens}
use Rattle.mc_def_parse.specs.declared.tree.Number.{Number}
use Rattle.mc_def_parse.specs.declared.tree.Sum.{Sum}
use Rattle.mc_def_parse.specs.declared.tree.Sum.TheVariants as Sum
use Rattle.mc_def_parse.specs.declared.tree.Item.{Item}
use Rattle.mc_def_parse.specs.declared.tree.Item.TheVariants.{Call, Relates, Bounds}
use Rattle.mc_def_parse.specs.declared.tree.RuleText.{RuleText}
use Rattle.mc_def_parse.specs.declared.tree.DefText.{DefText}
use Rattle.mc_def_parse.specs.Grammar.{IsNum, unsigned, signed, IsSum, number, name, added, taken, IsItem, call, fixes, relates, bounds, MoreItems, last_item, next_item, IsRuleBody, bare, with_block, IsRule, rule, MoreRules, last_rule, next_rule, IsDef, definition, MoreDefs, end_defs, next_def}

-- P of each item
abbrev pub Each : {X : Type 0} → (X → Type 0) → List X → Type 0
Each P [] = Unit {0}
Each P (x ∷ xs) = P x × Each P xs

abbrev pub IsSmall : Number → Type 0
IsSmall n = n.value ≤ 2147483647

abbrev pub IsSmallSum : Sum → Type 0
IsSmallSum (Sum.Number n) = IsSmall n
IsSmallSum (Sum.Name x) = Unit {0}
IsSmallSum (Sum.Moved x n) = IsSmall n

abbrev pub IsSmallItem : Item → Type 0
IsSmallItem (Call p xs) = Unit {0}
IsSmallItem (Relates x r s) = IsSmallSum s
IsSmallItem (Bounds x b n) = IsSmall n

abbrev pub IsSmallRule : RuleText → Type 0
IsSmallRule r = Each IsSmallItem r.items

pub record IsWhole (d : DefText) : Type 0 where
  pub some : d.rules ≢ []
  pub small : Each IsSmallRule d.rules

pub each_push : {X : Type 0} (P : X → Type 0) (xs : List X) (x : X) → Each P xs → P x → Each P (xs ++ x ∷ [])
each_push P [] x a p = (p, tt)
each_push P (y ∷ xs) x a p = (a.0, each_push P xs x a.1 p)

small_num : {n : Number} {tokens rest : Tokens} → IsNum n tokens rest → IsSmall n
small_num (unsigned h) = h.small
small_num (signed m h) = h.small

small_sum : {s : Sum} {tokens rest : Tokens} → IsSum s tokens rest → IsSmallSum s
small_sum (number m) = small_num m
small_sum (name x) = tt
small_sum (added x p h) = h.small
small_sum (taken x p h) = h.small

small_item : {i : Item} {tokens rest : Tokens} → IsItem i tokens rest → IsSmallItem i
small_item (call p o x more c s) = tt
small_item (fixes k x e s stop) = small_sum s
small_item (relates x e s stop) = small_sum s
small_item (bounds x e n stop) = small_num n

small_items : (is : List Item) {all : List Item} {tokens rest : Tokens} → Each IsSmallItem is → MoreItems is tokens all rest → Each IsSmallItem all
small_items is a last_item = a
small_items is a (next_item {item = i} one more) = small_items (is ++ i ∷ []) (each_push IsSmallItem is i a (small_item one)) more

small_body : {r : RuleText} {tokens rest : Tokens} → IsRuleBody r tokens rest → IsSmallRule r
small_body (bare more) = small_items [] tt more
small_body (with_block b more) = small_items [] tt more

small_rule : {r : RuleText} {tokens rest : Tokens} → IsRule r tokens rest → IsSmallRule r
small_rule (rule w o body c) = small_body body

small_rules : (rs : List RuleText) {all : List RuleText} {tokens rest : Tokens} → Each IsSmallRule rs → MoreRules rs tokens all rest → Each IsSmallRule all
small_rules rs a last_rule = a
small_rules rs a (next_rule {r = r} one more) = small_rules (rs ++ r ∷ []) (each_push IsSmallRule rs r a (small_rule one)) more

push_some : {X : Type 0} (xs : List X) (x : X) → xs ++ x ∷ [] ≢ []
push_some [] x e = cc
push_some (y ∷ xs) x e = cc

some_rules : (rs : List RuleText) {all : List RuleText} {tokens rest : Tokens} → rs ≢ [] → MoreRules rs tokens all rest → all ≢ []
some_rules rs a last_rule = a
some_rules rs a (next_rule {r = r} one more) = some_rules (rs ++ r ∷ []) (push_some rs r) more

whole_def : {d : DefText} {tokens rest : Tokens} → IsDef d tokens rest → IsWhole d
whole_def (definition {r = r} h one more c) = record { some = some_rules (r ∷ []) (λ e. cc) more; small = small_rules (r ∷ []) (small_rule one, tt) more }

whole_defs : (ds : List DefText) {all : List DefText} {tokens rest : Tokens} → Each IsWhole ds → MoreDefs ds tokens rest all → Each IsWhole all
whole_defs ds a (end_defs e) = a
whole_defs ds a (next_def {d = d} one more) = whole_defs (ds ++ d ∷ []) (each_push IsWhole ds d a (whole_def one)) more

pub whole_file : {file : List DefText} {tokens : Tokens} → MoreDefs [] tokens [] file → Each IsWhole file
whole_file defs = whole_defs [] tt defs
