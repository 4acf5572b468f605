-- The transitions of whole programs.
use native.Mathlib.Omega.{arith}
use Rattle.std.proofs.Common.{◌≡◌, ℕ, List, [], ◌∷◌, ◌++◌, Some, None, Option, refl, subst, inl, inr}
use Rattle.mc_base.specs.declared.text.place.Place.{Place}
use Rattle.mc_base.specs.declared.text.token.Token.{Token}
use Rattle.mc_base.specs.declared.text.token.TokenKind.TheVariants as TokenKind
use Rattle.mc_c_syntax.specs.declared.ast.class.Class.{Class}
use Rattle.mc_c_syntax.specs.declared.ast.trees.Base.{Base}
use Rattle.mc_c_syntax.specs.Ast.Names.{Tokens, is_in, is_same}
use Rattle.mc_c_syntax.specs.Ast.Trees.{ItemTree, UnitTree, FunctionTree}
use Rattle.mc_c_syntax.specs.Ast.Classes.{IsClass}
use Rattle.mc_c_syntax.specs.Ast.Readers.{Takes, Closes}
use Rattle.mc_c_syntax.specs.Ast.Grammar.{introduced, IsBase, int, tagged, alias, gives_nothing, gives_value, IsStatic, static_place, not_static, struct, introduces, IsItem, struct_item, typedef_item, function_item, MoreItems, no_item, next_item}
use Rattle.mc_c_parse.specs.declared.item.ItemReader.{ItemReader}
use Rattle.mc_c_parse.specs.declared.unit.UnitReader.{UnitReader}
use Rattle.mc_c_parse.specs.declared.unit.UnitStep.{UnitStep}
use Rattle.mc_c_parse.specs.declared.unit.UnitStep.TheVariants.{Taken, Done, Stuck}
use Rattle.mc_c_parse.specs.Functions.{is_header}
use Rattle.mc_c_parse.specs.Items.{CompletesItem}
use Rattle.mc_c_parse.specs.Units.{types_behind, ItemsFrom, Knows, Goes, IsDone, UnitStepIs}
use Rattle.mc_c_parse.proofs.Threads.{none_goes_on}
use Rattle.mc_c_parse.proofs.Marks.{only_end}
use Rattle.mc_c_parse.proofs.AliasLemmas.{any_of_both}
use Rattle.mc_c_parse.proofs.FunctionLemmas.{FunctionBehind, function_splits}

pub types_more : (aliases : List (List ℕ)) (is : List ItemTree) (i : ItemTree) → types_behind aliases (is ++ i ∷ []) ≡ introduced i ++ types_behind aliases is
types_more aliases [] i = refl
types_more aliases (j ∷ is) i = types_more (introduced j ++ aliases) is i

pub known_more : (is : List ItemTree) (i : ItemTree) (old new : List (List ℕ)) → Knows old is → ((name : List ℕ) → is_in new name ≡ is_in (introduced i ++ old) name) → Knows new (is ++ i ∷ [])
known_more is i old new known added = λ name. rw (types_more [] is i, added name, any_of_both (is_same name) (introduced i) (types_behind [] is), any_of_both (is_same name) (introduced i) old, known name) refl

pub item_takes : (reader behind : ItemReader) (is : List ItemTree) {token : Token} → Takes [] (CompletesItem (types_behind [] is) reader) (CompletesItem (types_behind [] is) behind) token → Goes (ItemsFrom (types_behind [] is) is (Some reader)) (ItemsFrom (types_behind [] is) is (Some behind)) token
item_takes reader behind is {token} t = record {
  forward = λ more all n. (n.0, n.1, left more n.1 n.0 n.2, n.3);
  backward = λ more all n. (n.0, n.1, t.backward more n.1 n.0 n.2, n.3);
} where
  left : (more mid : Tokens) (i : ItemTree) → CompletesItem (types_behind [] is) reader (token ∷ more) mid i → CompletesItem (types_behind [] is) behind more mid i
  left more mid i n = elim (t.forward more mid i n) [ inl l ↦ l | inr e ↦ absurd (none_goes_on token.text e.1) ]

closing : (aliases : List (List ℕ)) (reader : ItemReader) (is : List ItemTree) {token : Token} (i : ItemTree) → Closes (CompletesItem aliases reader) token i → Goes (ItemsFrom aliases is (Some reader)) (ItemsFrom (introduced i ++ aliases) (is ++ i ∷ []) None) token
closing aliases reader is {token} i c = record {
  forward = λ more all n. let e = c.forward more n.1 n.0 n.2 in subst (λ j. MoreItems (introduced j ++ aliases) (is ++ j ∷ []) more all) e.1 (subst (λ mid. MoreItems (introduced n.0 ++ aliases) (is ++ n.0 ∷ []) mid all) e.0 n.3);
  backward = λ more all n. (i, more, c.backward more, n);
}

pub item_closes : (reader : ItemReader) (is : List ItemTree) {token : Token} (i : ItemTree) → Closes (CompletesItem (types_behind [] is) reader) token i → Goes (ItemsFrom (types_behind [] is) is (Some reader)) (ItemsFrom (types_behind [] (is ++ i ∷ [])) (is ++ i ∷ []) None) token
item_closes reader is i c = rw (types_more [] is i) (closing (types_behind [] is) reader is i c)

pub goes_to : {now : Tokens → UnitTree → Type 0} {token : Token} (is js : List ItemTree) (current : Option ItemReader) → js ≡ is → current ≡ None → Goes now (ItemsFrom (types_behind [] is) is None) token → Goes now (ItemsFrom (types_behind [] js) js current) token
goes_to is js current e f g = rw (e, f) g

-- no item begins at the end of the text
end_no_base : {aliases : List (List ℕ)} {base : Base} {token : Token} {tokens rest : Tokens} → token.kind ≡ TokenKind.End → IsBase aliases base (token ∷ tokens) rest → ⊥
end_no_base w (int v) = grind arith
end_no_base w (tagged v n) = grind arith
end_no_base w (alias a) = grind arith

end_no_function : (aliases : List (List ℕ)) {place : Option Place} (f : FunctionTree) {token : Token} {tokens mid : Tokens} (rest : Tokens) → token.kind ≡ TokenKind.End → IsStatic place (token ∷ tokens) mid → FunctionBehind aliases place mid rest f → ⊥
end_no_function aliases f rest w (static_place v) b = grind arith
end_no_function aliases f rest w not_static (h, behind, is_header (gives_nothing v) n k, more) = grind arith
end_no_function aliases f rest w not_static (h, behind, is_header (gives_value b s) n k, more) = end_no_base w b

end_no_item : {aliases : List (List ℕ)} {i : ItemTree} {token : Token} {tokens rest : Tokens} → token.kind ≡ TokenKind.End → IsItem aliases i (token ∷ tokens) rest → ⊥
end_no_item w (struct_item (struct v n k f more after) semicolon) = grind arith
end_no_item w (typedef_item (introduces v a ds k)) = grind arith
end_no_item w (function_item f) = let s = function_splits f in end_no_function _ _ _ w s.2 s.3

at_end : {aliases : List (List ℕ)} {is all : List ItemTree} {token : Token} {more : Tokens} → token.kind ≡ TokenKind.End → MoreItems aliases is (token ∷ more) all → (more ≡ []) × (all ≡ is)
at_end w (no_item e) = (refl, refl)
at_end w (next_item i items) = absurd (end_no_item w i)

pub unit_done : (aliases : List (List ℕ)) (is : List ItemTree) {token : Token} → token.kind ≡ TokenKind.End → IsDone (ItemsFrom aliases is None) token is
unit_done aliases is w = record { end = w; forward = λ more all n. at_end w n; backward = no_item w }

starts : {aliases : List (List ℕ)} {is all : List ItemTree} {token : Token} {more : Tokens} (class : Class) → IsClass token class → (class ≡ Class.End → ⊥) → MoreItems aliases is (token ∷ more) all → ItemsFrom aliases is (Some ItemReader.Start) (token ∷ more) all
starts class c other (no_item e) = absurd (other (only_end _ class c e))
starts class c other (next_item i items) = (_, _, i, items)

pub unit_starts : (aliases : List (List ℕ)) (is : List ItemTree) (token : Token) (class : Class) → IsClass token class → (class ≡ Class.End → ⊥) → (behind : UnitReader) (step : UnitStep) → UnitStepIs (ItemsFrom aliases is (Some ItemReader.Start)) behind token step → UnitStepIs (ItemsFrom aliases is None) behind token step
unit_starts aliases is token class c other behind Taken s = (s.0, record { forward = λ more all n. s.1.forward more all (starts class c other n); backward = λ more all n. let o = s.1.backward more all n in next_item o.2 o.3 })
unit_starts aliases is token class c other behind (Done u) s = record { end = s.end; forward = λ more all n. s.forward more all (starts class c other n); backward = let o = s.backward in next_item o.2 o.3 }
unit_starts aliases is token class c other behind Stuck s = λ more all n. s more all (starts class c other n)
