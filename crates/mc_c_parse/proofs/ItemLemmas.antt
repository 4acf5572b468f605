-- The transitions of structs, typedefs and items.
use native.Mathlib.Omega.{arith}
use Rattle.std.proofs.Common.{◌≡◌, ℕ, List, [], ◌∷◌, Some, None, Option, refl, inl, subst, ap}
use Rattle.std.specs.Prelude.{codes, false}
use Rattle.mc_base.specs.declared.text.place.Place.{Place}
use Rattle.mc_base.specs.declared.text.token.Token.{Token}
use Rattle.mc_c_syntax.specs.declared.ast.class.Class.{Class}
use Rattle.mc_c_syntax.specs.declared.ast.trees.Base.{Base}
use Rattle.mc_c_syntax.specs.Ast.Names.{Tokens, IsMark, IsWord, IsName, IsAlias, name_of, is_in}
use Rattle.mc_c_syntax.specs.Ast.Classes.{IsClass}
use Rattle.mc_c_syntax.specs.Ast.Readers.{Takes, Closes, IsStuckAt}
use Rattle.mc_c_syntax.specs.declared.ast.trees.Name.{Name}
use Rattle.mc_c_syntax.specs.declared.ast.trees.Declarator.{Declarator}
use Rattle.mc_c_syntax.specs.Ast.Trees.{StructTree, AliasedTree, of_base, TypedefTree, ItemTree, structure, typedef, function, FunctionTree}
use Rattle.mc_c_parse.specs.declared.header.Header.{Header}
use Rattle.mc_c_syntax.specs.Ast.Grammar.{star, no_star, IsDeclarator, declarator, declarators, IsBase, int, tagged, alias, gives_nothing, gives_value, IsStatic, static_place, not_static, struct, IsAliased, base_aliased, struct_aliased, introduces, IsItem, struct_item, typedef_item, function_item}
use Rattle.mc_c_parse.specs.declared.function.FunctionReader.{FunctionReader}
use Rattle.mc_c_parse.specs.declared.item.ItemReader.{ItemReader}
use Rattle.mc_c_parse.specs.Threads.{Then, Gives}
use Rattle.mc_c_parse.specs.Fields.{FieldsFrom}
use Rattle.mc_c_parse.specs.Functions.{is_header, IsHeaderOf, is_header_of, BehindHeader}
use Rattle.mc_c_parse.specs.Items.{IsTagged, with_fields, without_fields, IsTagOf, tag_of, EndsTypedef, TaggedTypedef, IsStructEnd, struct_end, IsFunctionOf, TaggedItem, IsWithinFunction}
use Rattle.mc_c_parse.proofs.Threads.{SameAt}
use Rattle.mc_c_parse.proofs.Marks.{only_struct, only_typedef, only_static, only_name, only_open_brace, only_semicolon}
use Rattle.mc_c_parse.proofs.Bases.{no_base, static_no_base, typedef_no_base, behind_int, behind_alias}
use Rattle.mc_c_parse.proofs.FunctionLemmas.{FunctionBehind, function_splits, function_joins}

-- what is read after `struct`
behind_tag : {X : Type 0} {after_tag : Name → Tokens → Tokens → X → Type 0} {token : Token} {tokens rest : Tokens} {x : X} → IsTagOf after_tag (token ∷ tokens) rest x → after_tag (name_of token) tokens rest x
behind_tag (tag_of n t) = t

pub tag_name : {X : Type 0} (after_tag : Name → Tokens → Tokens → X → Type 0) {token : Token} → IsName token → Takes [] (IsTagOf after_tag) (after_tag (name_of token)) token
tag_name after_tag w = record { forward = λ tokens rest x n. inl (behind_tag n); backward = λ tokens rest x t. tag_of w t }

no_tag : {X : Type 0} {after_tag : Name → Tokens → Tokens → X → Type 0} {token : Token} {tokens rest : Tokens} {x : X} (class : Class) → IsClass token class → (class ≡ Class.Name → ⊥) → IsTagOf after_tag (token ∷ tokens) rest x → ⊥
no_tag class c not_name (tag_of n t) = not_name (only_name class c n)

pub tag_stuck : {X : Type 0} (after_tag : Name → Tokens → Tokens → X → Type 0) {token : Token} (class : Class) → IsClass token class → (class ≡ Class.Name → ⊥) → IsStuckAt (IsTagOf after_tag) token
tag_stuck after_tag class c not_name = λ tokens rest x n. no_tag class c not_name n

-- the fields of a struct and what goes on after them
abbrev pub Within : List (List ℕ) → Place → Name → {X : Type 0} → (StructTree → Tokens → Tokens → X → Type 0) → Tokens → Tokens → X → Type 0
Within aliases place name goes_on = Then (Then (FieldsFrom aliases [] None) (λ fs. Gives (record { place = place; name = name; fields = fs }))) goes_on

enters : {aliases : List (List ℕ)} {place : Place} {name : Name} {X : Type 0} {goes_on : StructTree → Tokens → Tokens → X → Type 0} {bare : Tokens → Tokens → X → Type 0} {token : Token} {tokens rest : Tokens} {x : X} → IsMark (codes "{") token → IsStuckAt bare token → IsTagged aliases place name goes_on bare (token ∷ tokens) rest x → Within aliases place name goes_on tokens rest x
enters w stuck (with_fields v (fs, mid, fields, more)) = (_, mid, (fs, mid, fields, (refl, refl)), more)
enters w stuck (without_fields b) = absurd (stuck _ _ _ b)

leaves : {aliases : List (List ℕ)} {place : Place} {name : Name} {X : Type 0} {goes_on : StructTree → Tokens → Tokens → X → Type 0} {bare : Tokens → Tokens → X → Type 0} {token : Token} {tokens rest : Tokens} {x : X} → IsMark (codes "{") token → Within aliases place name goes_on tokens rest x → IsTagged aliases place name goes_on bare (token ∷ tokens) rest x
leaves {goes_on = goes_on} {rest = rest} {x = x} w (s, mid, (fs, behind, fields, e), more) = with_fields w (fs, behind, fields, subst (λ t. goes_on t behind rest x) e.1 (subst (λ m. goes_on s m rest x) e.0 more))

pub tagged_opens : (aliases : List (List ℕ)) (place : Place) (name : Name) {X : Type 0} (goes_on : StructTree → Tokens → Tokens → X → Type 0) (bare : Tokens → Tokens → X → Type 0) {token : Token} → IsMark (codes "{") token → IsStuckAt bare token → Takes [] (IsTagged aliases place name goes_on bare) (Within aliases place name goes_on) token
tagged_opens aliases place name goes_on bare w stuck = record { forward = λ tokens rest x n. inl (enters w stuck n); backward = λ tokens rest x n. leaves w n }

unopened : {aliases : List (List ℕ)} {place : Place} {name : Name} {X : Type 0} {goes_on : StructTree → Tokens → Tokens → X → Type 0} {bare : Tokens → Tokens → X → Type 0} {token : Token} {tokens rest : Tokens} {x : X} (class : Class) → IsClass token class → (class ≡ Class.OpenBrace → ⊥) → IsTagged aliases place name goes_on bare (token ∷ tokens) rest x → bare (token ∷ tokens) rest x
unopened class c other (with_fields v more) = absurd (other (only_open_brace class c v))
unopened class c other (without_fields b) = b

pub tagged_bare : (aliases : List (List ℕ)) (place : Place) (name : Name) {X : Type 0} (goes_on : StructTree → Tokens → Tokens → X → Type 0) (bare : Tokens → Tokens → X → Type 0) {token : Token} (class : Class) → IsClass token class → (class ≡ Class.OpenBrace → ⊥) → SameAt (IsTagged aliases place name goes_on bare) bare token
tagged_bare aliases place name goes_on bare class c other = record { forward = λ tokens rest x n. unopened class c other n; backward = λ tokens rest x b. without_fields b }

-- what a typedef gives names to
aliased_int : {aliases : List (List ℕ)} {a : AliasedTree} {token : Token} {tokens rest : Tokens} → IsWord (codes "int") token → IsAliased aliases a (token ∷ tokens) rest → (rest ≡ tokens) × (a ≡ of_base (Base.Int token.place))
aliased_int w (base_aliased b) = let e = behind_int w b in (e.0, ap of_base e.1)
aliased_int w (struct_aliased (struct v n k f more after)) = grind arith

pub typedef_int : (aliases : List (List ℕ)) {token : Token} → IsWord (codes "int") token → Closes (λ tokens rest (a : AliasedTree). IsAliased aliases a tokens rest) token (of_base (Base.Int token.place))
typedef_int aliases w = record { forward = λ tokens rest a n. aliased_int w n; backward = λ tokens. base_aliased (int w) }

aliased_name : {aliases : List (List ℕ)} {a : AliasedTree} {token : Token} {tokens rest : Tokens} → IsName token → IsAliased aliases a (token ∷ tokens) rest → (rest ≡ tokens) × (a ≡ of_base (Base.Alias (name_of token)))
aliased_name w (base_aliased b) = let e = behind_alias w b in (e.0, ap of_base e.1)
aliased_name w (struct_aliased (struct v n k f more after)) = grind arith

pub typedef_alias : (aliases : List (List ℕ)) {token : Token} → IsAlias aliases token → Closes (λ tokens rest (a : AliasedTree). IsAliased aliases a tokens rest) token (of_base (Base.Alias (name_of token)))
typedef_alias aliases w = record { forward = λ tokens rest a n. aliased_name w.name n; backward = λ tokens. base_aliased (alias w) }

no_aliased : {aliases : List (List ℕ)} {a : AliasedTree} {token : Token} {tokens rest : Tokens} (class : Class) → IsClass token class → (class ≡ Class.Int → ⊥) → (class ≡ Class.Struct → ⊥) → (class ≡ Class.Name → is_in aliases token.text ≡ false) → IsAliased aliases a (token ∷ tokens) rest → ⊥
no_aliased class c not_int not_struct not_alias (base_aliased b) = no_base class c not_int not_struct not_alias b
no_aliased class c not_int not_struct not_alias (struct_aliased (struct v n k f more after)) = not_struct (only_struct class c v)

pub typedef_stuck : (aliases : List (List ℕ)) {token : Token} (class : Class) → IsClass token class → (class ≡ Class.Int → ⊥) → (class ≡ Class.Struct → ⊥) → (class ≡ Class.Name → is_in aliases token.text ≡ false) → IsStuckAt (λ tokens rest (a : AliasedTree). IsAliased aliases a tokens rest) token
typedef_stuck aliases class c not_int not_struct not_alias = λ tokens rest a n. no_aliased class c not_int not_struct not_alias n

aliased_struct : {aliases : List (List ℕ)} {word : Place} {a : AliasedTree} {t : TypedefTree} {token : Token} {tokens mid rest : Tokens} → IsWord (codes "struct") token → IsAliased aliases a (token ∷ tokens) mid → EndsTypedef word a mid rest t → IsTagOf (λ name. TaggedTypedef aliases word token.place name) tokens rest t
aliased_struct w (base_aliased (int v)) e = grind arith
aliased_struct w (base_aliased (tagged v n)) e = tag_of n (without_fields e)
aliased_struct w (base_aliased (alias v)) e = grind arith
aliased_struct w (struct_aliased (struct v n k f more after)) e = tag_of n (with_fields k (_, _, (_, _, f, (_, more, after)), e))

from_tag : {aliases : List (List ℕ)} {word : Place} {t : TypedefTree} {token : Token} {tokens rest : Tokens} → IsWord (codes "struct") token → IsTagOf (λ name. TaggedTypedef aliases word token.place name) tokens rest t → Then (λ tokens rest a. IsAliased aliases a tokens rest) (λ a. EndsTypedef word a) (token ∷ tokens) rest t
from_tag w (tag_of n (with_fields k (fs, mid, (f, behind, one, (after, more, close)), e))) = (_, _, struct_aliased (struct w n k one more close), e)
from_tag w (tag_of n (without_fields e)) = (_, _, base_aliased (tagged w n), e)

pub typedef_struct : (aliases : List (List ℕ)) (word : Place) {token : Token} → IsWord (codes "struct") token → Takes [] (Then (λ tokens rest a. IsAliased aliases a tokens rest) (λ a. EndsTypedef word a)) (IsTagOf (λ name. TaggedTypedef aliases word token.place name)) token
typedef_struct aliases word w = record { forward = λ tokens rest t n. inl (aliased_struct w n.2 n.3); backward = λ tokens rest t n. from_tag w n }

-- a `;` after a struct
ends_struct : {s : StructTree} {token : Token} {tokens rest : Tokens} {i : ItemTree} → IsStructEnd s (token ∷ tokens) rest i → (rest ≡ tokens) × (i ≡ structure s)
ends_struct (struct_end k) = (refl, refl)

pub struct_semicolon : (s : StructTree) {token : Token} → IsMark (codes ";") token → Closes (IsStructEnd s) token (structure s)
struct_semicolon s w = record { forward = λ tokens rest i n. ends_struct n; backward = λ tokens. struct_end w }

no_struct_end : {s : StructTree} {token : Token} {tokens rest : Tokens} {i : ItemTree} (class : Class) → IsClass token class → (class ≡ Class.Semicolon → ⊥) → IsStructEnd s (token ∷ tokens) rest i → ⊥
no_struct_end class c other (struct_end k) = other (only_semicolon class c k)

pub struct_stuck : (s : StructTree) {token : Token} (class : Class) → IsClass token class → (class ≡ Class.Semicolon → ⊥) → IsStuckAt (IsStructEnd s) token
struct_stuck s class c other = λ tokens rest i n. no_struct_end class c other n

-- items by their first word
abbrev pub FunctionItem : List (List ℕ) → Option Place → Tokens → Tokens → ItemTree → Type 0
FunctionItem aliases place = Then (FunctionBehind aliases place) (λ f. Gives (function f))

struct_function : (aliases : List (List ℕ)) {place : Option Place} {f : FunctionTree} {token : Token} {tokens mid rest : Tokens} → IsWord (codes "struct") token → IsStatic place (token ∷ tokens) mid → FunctionBehind aliases place mid rest f → IsTagOf (λ name. TaggedItem aliases token.place name) tokens rest (function f)
struct_function aliases w (static_place v) b = grind arith
struct_function aliases w not_static (h, behind, is_header (gives_nothing v) n k, more) = grind arith
struct_function aliases w not_static (h, behind, is_header (gives_value (int v) s) n k, more) = grind arith
struct_function aliases w not_static (h, behind, is_header (gives_value (tagged v m) s) n k, more) = tag_of m (without_fields (_, _, (_, _, is_header_of s n k, more), (refl, refl)))
struct_function aliases w not_static (h, behind, is_header (gives_value (alias v) s) n k, more) = grind arith

item_struct_in : {aliases : List (List ℕ)} {i : ItemTree} {token : Token} {tokens rest : Tokens} → IsWord (codes "struct") token → IsItem aliases i (token ∷ tokens) rest → IsTagOf (λ name. TaggedItem aliases token.place name) tokens rest i
item_struct_in w (struct_item (struct v n k f more after) semicolon) = tag_of n (with_fields k (_, _, (_, _, f, (_, more, after)), struct_end semicolon))
item_struct_in w (typedef_item (introduces v a ds k)) = grind arith
item_struct_in w (function_item f) = let s = function_splits f in struct_function _ w s.2 s.3

valued_function : {aliases : List (List ℕ)} {base : Base} {h : Header} {f : FunctionTree} {before tokens mid rest : Tokens} → IsBase aliases base before tokens → IsHeaderOf base tokens mid h → BehindHeader aliases None h mid rest f → IsItem aliases (function f) before rest
valued_function b (is_header_of s n k) more = function_item (function_joins _ not_static (_, _, is_header (gives_value b s) n k, more))

item_struct_out : {aliases : List (List ℕ)} {i : ItemTree} {token : Token} {tokens rest : Tokens} → IsWord (codes "struct") token → IsTagOf (λ name. TaggedItem aliases token.place name) tokens rest i → IsItem aliases i (token ∷ tokens) rest
item_struct_out w (tag_of n (with_fields k (fs, mid, (f, behind, one, (after, more, close)), struct_end semicolon))) = struct_item (struct w n k one more close) semicolon
item_struct_out w (tag_of n (without_fields (f, mid, (h, behind, head, more), e))) = rw (e.0, e.1) (valued_function (tagged w n) head more)

pub item_struct : (aliases : List (List ℕ)) {token : Token} → IsWord (codes "struct") token → Takes [] (λ tokens rest (i : ItemTree). IsItem aliases i tokens rest) (IsTagOf (λ name. TaggedItem aliases token.place name)) token
item_struct aliases w = record { forward = λ tokens rest i n. inl (item_struct_in w n); backward = λ tokens rest i n. item_struct_out w n }

-- after the word `typedef`
abbrev pub TypedefItem : List (List ℕ) → Place → Tokens → Tokens → ItemTree → Type 0
TypedefItem aliases place = Then (Then (λ tokens rest a. IsAliased aliases a tokens rest) (λ a. EndsTypedef place a)) (λ t. Gives (typedef t))

typedef_function : (aliases : List (List ℕ)) {place : Option Place} (f : FunctionTree) {token : Token} {tokens mid : Tokens} (rest : Tokens) → IsWord (codes "typedef") token → IsStatic place (token ∷ tokens) mid → FunctionBehind aliases place mid rest f → ⊥
typedef_function aliases f rest w (static_place v) b = grind arith
typedef_function aliases f rest w not_static (h, behind, is_header (gives_nothing v) n k, more) = grind arith
typedef_function aliases f rest w not_static (h, behind, is_header (gives_value b s) n k, more) = typedef_no_base w b

item_typedef_in : {aliases : List (List ℕ)} {i : ItemTree} {token : Token} {tokens rest : Tokens} → IsWord (codes "typedef") token → IsItem aliases i (token ∷ tokens) rest → TypedefItem aliases token.place tokens rest i
item_typedef_in w (struct_item (struct v n k f more after) semicolon) = grind arith
item_typedef_in w (typedef_item (introduces v a (declarators d more) k)) = (_, _, (_, _, a, (_, _, (_, _, d, (_, more, k)), (refl, refl))), (refl, refl))
item_typedef_in w (function_item f) = let s = function_splits f in absurd (typedef_function _ _ _ w s.2 s.3)

item_typedef_out : {aliases : List (List ℕ)} {i : ItemTree} {token : Token} {tokens rest : Tokens} → IsWord (codes "typedef") token → TypedefItem aliases token.place tokens rest i → IsItem aliases i (token ∷ tokens) rest
item_typedef_out w (t, mid, (a, behind, aliased, (ds, end, (d, last, one, (semicolon, more, k)), e)), f) = rw (f.0, f.1, e.0, e.1) (typedef_item (introduces w aliased (declarators one more) k))

pub item_typedef : (aliases : List (List ℕ)) {token : Token} → IsWord (codes "typedef") token → Takes [] (λ tokens rest (i : ItemTree). IsItem aliases i tokens rest) (TypedefItem aliases token.place) token
item_typedef aliases w = record { forward = λ tokens rest i n. inl (item_typedef_in w n); backward = λ tokens rest i n. item_typedef_out w n }

-- after the word `static`
static_function : (aliases : List (List ℕ)) {place : Option Place} {f : FunctionTree} {token : Token} {tokens mid rest : Tokens} → IsWord (codes "static") token → IsStatic place (token ∷ tokens) mid → FunctionBehind aliases place mid rest f → FunctionItem aliases (Some token.place) tokens rest (function f)
static_function aliases w (static_place v) b = (_, _, b, (refl, refl))
static_function aliases w not_static (h, behind, is_header (gives_nothing v) n k, more) = grind arith
static_function aliases w not_static (h, behind, is_header (gives_value b s) n k, more) = absurd (static_no_base w b)

item_static_in : {aliases : List (List ℕ)} {i : ItemTree} {token : Token} {tokens rest : Tokens} → IsWord (codes "static") token → IsItem aliases i (token ∷ tokens) rest → FunctionItem aliases (Some token.place) tokens rest i
item_static_in w (struct_item (struct v n k f more after) semicolon) = grind arith
item_static_in w (typedef_item (introduces v a ds k)) = grind arith
item_static_in w (function_item f) = let s = function_splits f in static_function _ w s.2 s.3

pub item_static : (aliases : List (List ℕ)) {token : Token} → IsWord (codes "static") token → Takes [] (λ tokens rest (i : ItemTree). IsItem aliases i tokens rest) (FunctionItem aliases (Some token.place)) token
item_static aliases w = record { forward = λ tokens rest i n. inl (item_static_in w n); backward = λ tokens rest i n. rw (n.3.0, n.3.1) (function_item (function_joins _ (static_place w) n.2)) }

-- at any other token
other_function : (aliases : List (List ℕ)) {place : Option Place} {f : FunctionTree} {token : Token} {tokens mid rest : Tokens} (class : Class) → IsClass token class → (class ≡ Class.Static → ⊥) → IsStatic place (token ∷ tokens) mid → FunctionBehind aliases place mid rest f → FunctionItem aliases None (token ∷ tokens) rest (function f)
other_function aliases class c no_static (static_place v) b = absurd (no_static (only_static class c v))
other_function aliases class c no_static not_static b = (_, _, b, (refl, refl))

item_other_in : {aliases : List (List ℕ)} {i : ItemTree} {token : Token} {tokens rest : Tokens} (class : Class) → IsClass token class → (class ≡ Class.Struct → ⊥) → (class ≡ Class.Typedef → ⊥) → (class ≡ Class.Static → ⊥) → IsItem aliases i (token ∷ tokens) rest → FunctionItem aliases None (token ∷ tokens) rest i
item_other_in class c not_struct not_typedef no_static (struct_item (struct v n k f more after) semicolon) = absurd (not_struct (only_struct class c v))
item_other_in class c not_struct not_typedef no_static (typedef_item (introduces v a ds k)) = absurd (not_typedef (only_typedef class c v))
item_other_in class c not_struct not_typedef no_static (function_item f) = let s = function_splits f in other_function _ class c no_static s.2 s.3

pub item_other : (aliases : List (List ℕ)) {token : Token} (class : Class) → IsClass token class → (class ≡ Class.Struct → ⊥) → (class ≡ Class.Typedef → ⊥) → (class ≡ Class.Static → ⊥) → SameAt (λ tokens rest (i : ItemTree). IsItem aliases i tokens rest) (FunctionItem aliases None) token
item_other aliases class c not_struct not_typedef no_static = record { forward = λ tokens rest i n. item_other_in class c not_struct not_typedef no_static n; backward = λ tokens rest i n. rw (n.3.0, n.3.1) (function_item (function_joins _ not_static n.2)) }

-- neither names nor functions begin with `{`
brace_no_declarator : {d : Declarator} {token : Token} {tokens rest : Tokens} → IsMark (codes "{") token → IsDeclarator d (token ∷ tokens) rest → ⊥
brace_no_declarator w (declarator (star v) n) = grind arith
brace_no_declarator w (declarator no_star n) = grind arith

pub brace_no_typedef : (word : Place) (a : AliasedTree) {token : Token} → IsMark (codes "{") token → IsStuckAt (EndsTypedef word a) token
brace_no_typedef word a w = λ tokens rest t n. brace_no_declarator w n.2.2

brace_no_header : {base : Base} {h : Header} {token : Token} {tokens rest : Tokens} → IsMark (codes "{") token → IsHeaderOf base (token ∷ tokens) rest h → ⊥
brace_no_header w (is_header_of (star v) n k) = grind arith
brace_no_header w (is_header_of no_star n k) = grind arith

pub brace_no_function : (aliases : List (List ℕ)) (base : Base) {token : Token} → IsMark (codes "{") token → IsStuckAt (IsFunctionOf aliases base) token
brace_no_function aliases base w = λ tokens rest i n. brace_no_header w n.2.2

pub not_in_function : (reader : ItemReader) → ((function : FunctionReader) → reader ≡ ItemReader.Function function → ⊥) → IsWithinFunction reader → ⊥
not_in_function ItemReader.Start other within = within
not_in_function (ItemReader.Tag place) other within = within
not_in_function (ItemReader.Tagged place name) other within = within
not_in_function (ItemReader.Struct reader) other within = within
not_in_function (ItemReader.Closing s) other within = within
not_in_function (ItemReader.Typedef reader) other within = within
not_in_function (ItemReader.Function f) other within = other f refl
