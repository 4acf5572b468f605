-- Programs are spelled once.
use Rattle.std.proofs.Common.{◌≡◌, ℕ, List, [], ◌∷◌, ◌++◌, Option, Some, refl, ap}
use Rattle.std.specs.Prelude.{codes}
use native.Mathlib.Omega.{arith}
use Rattle.mc_base.specs.declared.text.place.Place.{Place}
use Rattle.mc_base.specs.declared.text.token.Token.{Token}
use Rattle.mc_base.specs.declared.text.token.TokenKind.TheVariants as TokenKind
use Rattle.mc_c_syntax.specs.declared.ast.trees.Name.{Name}
use Rattle.mc_c_syntax.specs.declared.ast.trees.Base.{Base}
use Rattle.mc_c_syntax.specs.declared.ast.trees.Declarator.{Declarator}
use Rattle.mc_c_syntax.specs.declared.ast.trees.Returned.{Returned}
use Rattle.mc_c_syntax.specs.declared.ast.trees.Parameter.{Parameter}
use Rattle.mc_c_syntax.specs.Ast.Trees.{FieldTree, StructTree, AliasedTree, of_base, of_struct, TypedefTree, ParametersTree, listed, BodyTree, FunctionTree, ItemTree, structure, typedef, function, Stmt}
use Rattle.mc_c_syntax.specs.Ast.Names.{Tokens, IsMark, IsWord, IsName, name_of, is_in}
use Rattle.mc_c_syntax.specs.Ast.Grammar.{IsBase, int, tagged, alias, IsStar, star, no_star, IsDeclarator, declarator}
use Rattle.mc_c_syntax.specs.Ast.Grammar.{MoreDeclarators, last_declarator, next_declarator, IsDeclarators, declarators, IsField, field, MoreFields, no_field, next_field, IsStruct, struct, IsAliased, base_aliased, struct_aliased, IsTypedef, introduces, IsReturned, gives_nothing, gives_value, IsParameter, parameter, MoreParameters, last_parameter, next_parameter, IsParameters, no_parameters, void_parameters, some_parameters, IsStatic, static_place, not_static, IsBody, prototype, body, IsFunction, defined, IsItem, struct_item, typedef_item, function_item, introduced, MoreItems, no_item, next_item}
use Rattle.mc_c_grammar.proofs.SpellingLemmas.Agree.{Agree, same, early, late, agree_all, conflict, never, lift, close_one}
use Rattle.mc_c_grammar.proofs.SpellingLemmas.UniqueSimples.{one_base, one_declarator}
use Rattle.mc_c_grammar.proofs.SpellingLemmas.UniqueStatements.{one_statements, not_free}

abbrev pub comma_mark : List (List ℕ)
comma_mark = codes "," ∷ []

one_more_declarators : {ds x y : List Declarator} {ts r s : Tokens} → MoreDeclarators ds ts x r → MoreDeclarators ds ts y s → Agree comma_mark x r y s
one_more_declarators last_declarator last_declarator = same
one_more_declarators last_declarator (next_declarator is one path) = early (ap (is_in comma_mark) is.text)
one_more_declarators (next_declarator is one path) last_declarator = late (ap (is_in comma_mark) is.text)
one_more_declarators {ds} {x} {y} {ts} {r} {s} (next_declarator is one path) (next_declarator is' one' path') =
    agree_all (λ d mid. MoreDeclarators (ds ++ d ∷ []) mid y s) (λ d mid. Agree comma_mark x r y s) (one_declarator one one') (λ q. one_more_declarators path q) path'

one_declarators : {x y : List Declarator} {ts r s : Tokens} → IsDeclarators x ts r → IsDeclarators y ts s → Agree comma_mark x r y s
one_declarators {x} {y} {ts} {r} {s} (declarators one path) (declarators one' path') =
    agree_all (λ d mid. MoreDeclarators (d ∷ []) mid y s) (λ d mid. Agree comma_mark x r y s) (one_declarator one one') (λ q. one_more_declarators path q) path'

abbrev field_tree : Base → List Declarator → FieldTree
field_tree base ds = record { base = base; declarators = ds }

one_field : {aliases : List (List ℕ)} {x y : FieldTree} {ts r s : Tokens} → IsField aliases x ts r → IsField aliases y ts s → Agree [] x r y s
one_field (field {base = base} {ds = ds} {rest = r} is_base ds_is is) (field {ds = ds'} {semicolon = last'} {rest = s} is_base' ds_is' is') =
    agree_all (λ b mid. IsDeclarators ds' mid (last' ∷ s)) (λ b mid. Agree {X = FieldTree} [] (record { base = base; declarators = ds }) r (record { base = b; declarators = ds' }) s) (one_base is_base is_base')
    (λ q. close_one comma_mark (field_tree base) refl is is' (one_declarators ds_is q)) ds_is'

no_brace_base : {aliases : List (List ℕ)} {b : Base} {t : Token} {ts r : Tokens} {m : List ℕ} → IsBase aliases b (t ∷ ts) r → IsMark m t → ⊥
no_brace_base (int is) mark = absurd (grind arith)
no_brace_base (tagged is name) mark = absurd (grind arith)
no_brace_base (alias is) mark = absurd (let n = is.name in grind arith)

one_fields : {aliases : List (List ℕ)} {fs x y : List FieldTree} {a b : Token} {ts r s : Tokens} → MoreFields aliases fs ts x (a ∷ r) → IsMark (codes "}") a → MoreFields aliases fs ts y (b ∷ s) → IsMark (codes "}") b → Agree [] x (a ∷ r) y (b ∷ s)
one_fields no_field is no_field is' = same
one_fields no_field is (next_field (field base ds semi) path) is' = absurd (no_brace_base base is)
one_fields (next_field (field base ds semi) path) is no_field is' = absurd (no_brace_base base is')
one_fields {aliases} {fs} {x} {y} {a} {b} {ts} {r} {s} (next_field one path) is (next_field one' path') is' =
    agree_all (λ f mid. MoreFields aliases (fs ++ f ∷ []) mid y (b ∷ s)) (λ f mid. Agree [] x (a ∷ r) y (b ∷ s)) (one_field one one') (λ q. one_fields path is q is') path'

struct_ends : (place : Place) (name : Name) {x y : List FieldTree} {a b : Token} {r s : Tokens} → Agree [] x (a ∷ r) y (b ∷ s) → Agree {X = StructTree} [] (record { place = place; name = name; fields = x }) r (record { place = place; name = name; fields = y }) s
struct_ends place name same = same
struct_ends place name (early {r = r} b) = absurd (never r b)
struct_ends place name (late {s = s} b) = absurd (never s b)

one_struct : {aliases : List (List ℕ)} {x y : StructTree} {ts r s : Tokens} → IsStruct aliases x ts r → IsStruct aliases y ts s → Agree [] x r y s
one_struct {aliases} (struct {fs = fs} {word = word} {name = name} {after = a} {rest = r} is is_name before one path after) (struct {fs = fs'} {after = b} {rest = s} is' is_name' before' one' path' after') =
    struct_ends word.place (name_of name) (agree_all (λ f mid. MoreFields aliases (f ∷ []) mid fs' (b ∷ s)) (λ f mid. Agree [] fs (a ∷ r) fs' (b ∷ s)) (one_field one one') (λ q. one_fields path after q after') path')

-- what a declarator begins with is no brace
no_brace_declarator : {ds : List Declarator} {t : Token} {ts r : Tokens} → IsDeclarators ds (t ∷ ts) r → IsMark (codes "{") t → ⊥
no_brace_declarator (declarators (declarator (star is) name) path) mark = absurd (grind arith)
no_brace_declarator (declarators (declarator no_star name) path) mark = absurd (grind arith)

-- declarators stand after both
sure_aliased : {aliases : List (List ℕ)} {x y : AliasedTree} {ts r s : Tokens} {ds es : List Declarator} {m n : Tokens} → IsAliased aliases x ts r → IsAliased aliases y ts s → IsDeclarators ds r m → IsDeclarators es s n → Agree [] x r y s
sure_aliased (base_aliased b) (base_aliased b') ds es = lift of_base (one_base b b')
sure_aliased (base_aliased (int is)) (struct_aliased (struct is' name before one path after)) ds es = absurd (grind arith)
sure_aliased (base_aliased (tagged is name)) (struct_aliased (struct is' name' before one path after)) ds es = absurd (no_brace_declarator ds before)
sure_aliased (base_aliased (alias is)) (struct_aliased (struct is' name before one path after)) ds es = absurd (not_free is.name is' refl)
sure_aliased (struct_aliased (struct is' name before one path after)) (base_aliased (int is)) ds es = absurd (grind arith)
sure_aliased (struct_aliased (struct is' name' before one path after)) (base_aliased (tagged is name)) ds es = absurd (no_brace_declarator es before)
sure_aliased (struct_aliased (struct is' name before one path after)) (base_aliased (alias is)) ds es = absurd (not_free is.name is' refl)
sure_aliased (struct_aliased t) (struct_aliased t') ds es = lift of_struct (one_struct t t')

typedef_ends : (place : Place) (x : AliasedTree) {ds es : List Declarator} {a b : Token} {r s : Tokens} → Agree comma_mark ds (a ∷ r) es (b ∷ s) → IsMark (codes ";") a → IsMark (codes ";") b → Agree {X = TypedefTree} [] (record { place = place; aliased = x; declarators = ds }) r (record { place = place; aliased = x; declarators = es }) s
typedef_ends place x same is is' = same
typedef_ends place x (early {r = a ∷ r} so) is is' = absurd (conflict comma_mark a refl is.text so)
typedef_ends place x (late {s = b ∷ s} so) is is' = absurd (conflict comma_mark b refl is'.text so)

typedef_behind : (place : Place) {x y : AliasedTree} {ds es : List Declarator} {a b : Token} {m n r s : Tokens} → Agree [] x m y n → IsDeclarators ds m (a ∷ r) → IsDeclarators es n (b ∷ s) → IsMark (codes ";") a → IsMark (codes ";") b → Agree {X = TypedefTree} [] (record { place = place; aliased = x; declarators = ds }) r (record { place = place; aliased = y; declarators = es }) s
typedef_behind place {x = x} same ds es is is' = typedef_ends place x (one_declarators ds es) is is'
typedef_behind place (early {r = r} b) ds es is is' = absurd (never r b)
typedef_behind place (late {s = s} b) ds es is is' = absurd (never s b)

one_typedef : {aliases : List (List ℕ)} {x y : TypedefTree} {ts r s : Tokens} → IsTypedef aliases x ts r → IsTypedef aliases y ts s → Agree [] x r y s
one_typedef (introduces {word = word} is a ds semi) (introduces is' a' ds' semi') = typedef_behind word.place (sure_aliased a a' ds ds') ds ds' semi semi'

star_name : {p q : Option Place} {a b : Token} {ts r s : Tokens} → IsStar p ts (a ∷ r) → IsStar q ts (b ∷ s) → IsName a → IsName b → Agree [] p (a ∷ r) q (b ∷ s)
star_name (star is) (star is') n n' = same
star_name (star is) no_star n n' = absurd (grind arith)
star_name no_star (star is) n n' = absurd (grind arith)
star_name no_star no_star n n' = same

returned_behind : {x y : Base} {p q : Option Place} {a b : Token} {m n r s : Tokens} → Agree [] x m y n → IsStar p m (a ∷ r) → IsStar q n (b ∷ s) → IsName a → IsName b → Agree [] (Returned.Value x p) (a ∷ r) (Returned.Value y q) (b ∷ s)
returned_behind {x = x} same p q n n' = lift (Returned.Value x) (star_name p q n n')
returned_behind (early {r = r} b) p q n n' = absurd (never r b)
returned_behind (late {s = s} b) p q n n' = absurd (never s b)

one_returned : {aliases : List (List ℕ)} {x y : Returned} {a b : Token} {ts r s : Tokens} → IsReturned aliases x ts (a ∷ r) → IsReturned aliases y ts (b ∷ s) → IsName a → IsName b → Agree [] x (a ∷ r) y (b ∷ s)
one_returned (gives_nothing is) (gives_nothing is') n n' = same
one_returned (gives_nothing is) (gives_value (int is') p) n n' = absurd (grind arith)
one_returned (gives_nothing is) (gives_value (tagged is' name) p) n n' = absurd (grind arith)
one_returned (gives_nothing is) (gives_value (alias is') p) n n' = absurd (not_free is'.name is refl)
one_returned (gives_value (int is') p) (gives_nothing is) n n' = absurd (grind arith)
one_returned (gives_value (tagged is' name) p) (gives_nothing is) n n' = absurd (grind arith)
one_returned (gives_value (alias is') p) (gives_nothing is) n n' = absurd (not_free is'.name is refl)
one_returned (gives_value base p) (gives_value base' p') n n' = returned_behind (one_base base base') p p' n n'

parameter_behind : {x y : Base} {d e : Declarator} {m n r s : Tokens} → Agree [] x m y n → IsDeclarator d m r → IsDeclarator e n s → Agree {X = Parameter} [] (record { base = x; declarator = d }) r (record { base = y; declarator = e }) s
parameter_behind {x = x} same d e = parameter_ends x (one_declarator d e)
  where
    parameter_ends : (x : Base) {d e : Declarator} {r s : Tokens} → Agree [] d r e s → Agree {X = Parameter} [] (record { base = x; declarator = d }) r (record { base = x; declarator = e }) s
    parameter_ends x same = same
    parameter_ends x (early {r = r} b) = absurd (never r b)
    parameter_ends x (late {s = s} b) = absurd (never s b)
parameter_behind (early {r = r} b) d e = absurd (never r b)
parameter_behind (late {s = s} b) d e = absurd (never s b)

one_parameter : {aliases : List (List ℕ)} {x y : Parameter} {ts r s : Tokens} → IsParameter aliases x ts r → IsParameter aliases y ts s → Agree [] x r y s
one_parameter (parameter base d) (parameter base' d') = parameter_behind (one_base base base') d d'

more_parameters : {aliases : List (List ℕ)} {ps x y : List Parameter} {ts r s : Tokens} → MoreParameters aliases ps ts x r → MoreParameters aliases ps ts y s → Agree comma_mark x r y s
more_parameters last_parameter last_parameter = same
more_parameters last_parameter (next_parameter is one path) = early (ap (is_in comma_mark) is.text)
more_parameters (next_parameter is one path) last_parameter = late (ap (is_in comma_mark) is.text)
more_parameters {aliases} {ps} {x} {y} {ts} {r} {s} (next_parameter is one path) (next_parameter is' one' path') =
    agree_all (λ p mid. MoreParameters aliases (ps ++ p ∷ []) mid y s) (λ p mid. Agree comma_mark x r y s) (one_parameter one one') (λ q. more_parameters path q) path'

parameters_end : {x y : List Parameter} {a b : Token} {r s : Tokens} → Agree comma_mark x (a ∷ r) y (b ∷ s) → IsMark (codes ")") a → IsMark (codes ")") b → Agree [] (listed x) (a ∷ r) (listed y) (b ∷ s)
parameters_end same is is' = same
parameters_end {a = a} (early so) is is' = absurd (conflict comma_mark a refl is.text so)
parameters_end {b = b} (late so) is is' = absurd (conflict comma_mark b refl is'.text so)

void_base : {aliases : List (List ℕ)} {b : Base} {t : Token} {ts r : Tokens} → IsBase aliases b (t ∷ ts) r → IsWord (codes "void") t → ⊥
void_base (int is) word = absurd (grind arith)
void_base (tagged is name) word = absurd (grind arith)
void_base (alias is) word = not_free is.name word refl

one_parameters : {aliases : List (List ℕ)} {x y : ParametersTree} {a b : Token} {ts r s : Tokens} → IsParameters aliases x ts (a ∷ r) → IsParameters aliases y ts (b ∷ s) → IsMark (codes ")") a → IsMark (codes ")") b → Agree [] x (a ∷ r) y (b ∷ s)
one_parameters no_parameters no_parameters is is' = same
one_parameters no_parameters (void_parameters word) is is' = absurd (grind arith)
one_parameters no_parameters (some_parameters (parameter base d) path) is is' = absurd (no_brace_base base is)
one_parameters (void_parameters word) no_parameters is is' = absurd (grind arith)
one_parameters (void_parameters word) (void_parameters word') is is' = same
one_parameters (void_parameters word) (some_parameters (parameter base d) path) is is' = absurd (void_base base word)
one_parameters (some_parameters (parameter base d) path) no_parameters is is' = absurd (no_brace_base base is')
one_parameters (some_parameters (parameter base d) path) (void_parameters word) is is' = absurd (void_base base word)
one_parameters {aliases} {a = a} {b = b} {r = r} {s = s} (some_parameters {ps = x} one path) (some_parameters {ps = y} one' path') is is' =
    parameters_end (agree_all (λ p mid. MoreParameters aliases (p ∷ []) mid y (b ∷ s)) (λ p mid. Agree comma_mark x (a ∷ r) y (b ∷ s)) (one_parameter one one') (λ q. more_parameters path q) path') is is'

static_returned : {aliases : List (List ℕ)} {v : Returned} {t : Token} {ts r : Tokens} → IsReturned aliases v (t ∷ ts) r → IsWord (codes "static") t → ⊥
static_returned (gives_nothing is) word = absurd (grind arith)
static_returned (gives_value (int is) p) word = absurd (grind arith)
static_returned (gives_value (tagged is name) p) word = absurd (grind arith)
static_returned (gives_value (alias is) p) word = not_free is.name word refl

one_static : {aliases : List (List ℕ)} {x y : Option Place} {u v : Returned} {ts r s m n : Tokens} → IsStatic x ts r → IsStatic y ts s → IsReturned aliases u r m → IsReturned aliases v s n → Agree [] x r y s
one_static (static_place is) (static_place is') u v = same
one_static (static_place is) not_static u v = absurd (static_returned v is)
one_static not_static (static_place is) u v = absurd (static_returned u is)
one_static not_static not_static u v = same

body_ends : (place : Place) {x y : List Stmt} {a b : Token} {r s : Tokens} → Agree [] x (a ∷ r) y (b ∷ s) → Agree {X = Option BodyTree} [] (Some (record { place = place; statements = x })) r (Some (record { place = place; statements = y })) s
body_ends place same = same
body_ends place (early {r = r} b) = absurd (never r b)
body_ends place (late {s = s} b) = absurd (never s b)

one_body : {aliases : List (List ℕ)} {x y : Option BodyTree} {ts r s : Tokens} → IsBody aliases x ts r → IsBody aliases y ts s → Agree [] x r y s
one_body (prototype is) (prototype is') = same
one_body (prototype is) (body is' path after) = absurd (grind arith)
one_body (body is path after) (prototype is') = absurd (grind arith)
one_body (body {before = before} is path after) (body is' path' after') = body_ends before.place (one_statements path after path' after')

-- the parts of a function, one after the other
module _ (aliases : List (List ℕ)) where
  with_body : (f : Option Place) (v : Returned) (n : Name) (ps : ParametersTree) {x y : Option BodyTree} {r s : Tokens} → Agree [] x r y s → Agree {X = FunctionTree} [] (record { static_place = f; returned = v; name = n; parameters = ps; body = x }) r (record { static_place = f; returned = v; name = n; parameters = ps; body = y }) s
  with_body f v n ps same = same
  with_body f v n ps (early {r = r} b) = absurd (never r b)
  with_body f v n ps (late {s = s} b) = absurd (never s b)

  with_parameters : (f : Option Place) (v : Returned) (n : Name) {ps qs : ParametersTree} {x y : Option BodyTree} {a b : Token} {k l r s : Tokens} → Agree [] ps (a ∷ k) qs (b ∷ l) → IsBody aliases x k r → IsBody aliases y l s → Agree {X = FunctionTree} [] (record { static_place = f; returned = v; name = n; parameters = ps; body = x }) r (record { static_place = f; returned = v; name = n; parameters = qs; body = y }) s
  with_parameters f v n {ps = ps} same x y = with_body f v n ps (one_body x y)
  with_parameters f v n (early {r = r} b) x y = absurd (never r b)
  with_parameters f v n (late {s = s} b) x y = absurd (never s b)

  with_returned : (f : Option Place) {v w : Returned} {ps qs : ParametersTree} {x y : Option BodyTree} {n n' o o' a b : Token} {g h k l r s : Tokens} → Agree [] v (n ∷ o ∷ g) w (n' ∷ o' ∷ h) → IsParameters aliases ps g (a ∷ k) → IsParameters aliases qs h (b ∷ l) → IsMark (codes ")") a → IsMark (codes ")") b → IsBody aliases x k r → IsBody aliases y l s → Agree {X = FunctionTree} [] (record { static_place = f; returned = v; name = name_of n; parameters = ps; body = x }) r (record { static_place = f; returned = w; name = name_of n'; parameters = qs; body = y }) s
  with_returned f {v = v} {n = n} same ps qs is is' x y = with_parameters f v (name_of n) (one_parameters ps qs is is') x y
  with_returned f (early {r = r} b) ps qs is is' x y = absurd (never r b)
  with_returned f (late {s = s} b) ps qs is is' x y = absurd (never s b)

  with_static : {f f' : Option Place} {v w : Returned} {ps qs : ParametersTree} {x y : Option BodyTree} {n n' o o' a b : Token} {c d g h k l r s : Tokens} → Agree [] f c f' d → IsReturned aliases v c (n ∷ o ∷ g) → IsReturned aliases w d (n' ∷ o' ∷ h) → IsName n → IsName n' → IsParameters aliases ps g (a ∷ k) → IsParameters aliases qs h (b ∷ l) → IsMark (codes ")") a → IsMark (codes ")") b → IsBody aliases x k r → IsBody aliases y l s → Agree {X = FunctionTree} [] (record { static_place = f; returned = v; name = name_of n; parameters = ps; body = x }) r (record { static_place = f'; returned = w; name = name_of n'; parameters = qs; body = y }) s
  with_static {f = f} same v w n n' ps qs is is' x y = with_returned f (one_returned v w n n') ps qs is is' x y
  with_static (early {r = r} b) v w n n' ps qs is is' x y = absurd (never r b)
  with_static (late {s = s} b) v w n n' ps qs is is' x y = absurd (never s b)

one_function : {aliases : List (List ℕ)} {x y : FunctionTree} {ts r s : Tokens} → IsFunction aliases x ts r → IsFunction aliases y ts s → Agree [] x r y s
one_function {aliases} (defined f v n open_one ps is x) (defined f' w n' open_two qs is' y) = with_static aliases (one_static f f' v w) v w n n' ps qs is is' x y

struct_no_function : {aliases : List (List ℕ)} {t : StructTree} {f : FunctionTree} {ts r s : Tokens} → IsStruct aliases t ts r → IsFunction aliases f ts s → ⊥
struct_no_function (struct is name before one path after) (defined (static_place is') v n o ps p x) = absurd (grind arith)
struct_no_function (struct is name before one path after) (defined not_static (gives_nothing is') n o ps p x) = absurd (grind arith)
struct_no_function (struct is name before one path after) (defined not_static (gives_value (int is') pointer) n o ps p x) = absurd (grind arith)
struct_no_function (struct is name before one path after) (defined not_static (gives_value (alias is') pointer) n o ps p x) = absurd (not_free is'.name is refl)
struct_no_function (struct is name before one path after) (defined not_static (gives_value (tagged is' name') (star mark)) n o ps p x) = absurd (grind arith)
struct_no_function (struct is name before one path after) (defined not_static (gives_value (tagged is' name') no_star) n o ps p x) = absurd (grind arith)

typedef_no_function : {aliases : List (List ℕ)} {t : TypedefTree} {f : FunctionTree} {ts r s : Tokens} → IsTypedef aliases t ts r → IsFunction aliases f ts s → ⊥
typedef_no_function (introduces is a ds semi) (defined (static_place is') v n o ps p x) = absurd (grind arith)
typedef_no_function (introduces is a ds semi) (defined not_static (gives_nothing is') n o ps p x) = absurd (grind arith)
typedef_no_function (introduces is a ds semi) (defined not_static (gives_value (int is') pointer) n o ps p x) = absurd (grind arith)
typedef_no_function (introduces is a ds semi) (defined not_static (gives_value (tagged is' name') pointer) n o ps p x) = absurd (grind arith)
typedef_no_function (introduces is a ds semi) (defined not_static (gives_value (alias is') pointer) n o ps p x) = absurd (not_free is'.name is refl)

one_item : {aliases : List (List ℕ)} {x y : ItemTree} {ts r s : Tokens} → IsItem aliases x ts r → IsItem aliases y ts s → Agree [] x r y s
one_item (struct_item t semi) (struct_item t' semi') = lift structure (taken_off (one_struct t t'))
  where
    taken_off : {x y : StructTree} {a b : Token} {r s : Tokens} → Agree [] x (a ∷ r) y (b ∷ s) → Agree [] x r y s
    taken_off same = same
    taken_off (early {r = r} b) = absurd (never r b)
    taken_off (late {s = s} b) = absurd (never s b)
one_item (struct_item (struct is name before one path after) semi) (typedef_item (introduces is' a ds semi')) = absurd (grind arith)
one_item (struct_item t semi) (function_item f) = absurd (struct_no_function t f)
one_item (typedef_item (introduces is' a ds semi')) (struct_item (struct is name before one path after) semi) = absurd (grind arith)
one_item (typedef_item t) (typedef_item t') = lift typedef (one_typedef t t')
one_item (typedef_item t) (function_item f) = absurd (typedef_no_function t f)
one_item (function_item f) (struct_item t semi) = absurd (struct_no_function t f)
one_item (function_item f) (typedef_item t) = absurd (typedef_no_function t f)
one_item (function_item f) (function_item f') = lift function (one_function f f')

end_no_item : {aliases : List (List ℕ)} {x : ItemTree} {t : Token} {ts r : Tokens} → IsItem aliases x (t ∷ ts) r → t.kind ≡ TokenKind.End → ⊥
end_no_item (struct_item (struct is name before one path after) semi) end = absurd (grind arith)
end_no_item (typedef_item (introduces is a ds semi)) end = absurd (grind arith)
end_no_item (function_item (defined (static_place is) v n o ps p x)) end = absurd (grind arith)
end_no_item (function_item (defined not_static (gives_nothing is) n o ps p x)) end = absurd (grind arith)
end_no_item (function_item (defined not_static (gives_value (int is) pointer) n o ps p x)) end = absurd (grind arith)
end_no_item (function_item (defined not_static (gives_value (tagged is name) pointer) n o ps p x)) end = absurd (grind arith)
end_no_item (function_item (defined not_static (gives_value (alias is) pointer) n o ps p x)) end = absurd (let m = is.name in grind arith)

pub one_unit : {aliases : List (List ℕ)} {is x y : List ItemTree} {ts : Tokens} → MoreItems aliases is ts x → MoreItems aliases is ts y → x ≡ y
one_unit (no_item end) (no_item end') = refl
one_unit (no_item end) (next_item i path) = absurd (end_no_item i end)
one_unit (next_item i path) (no_item end) = absurd (end_no_item i end)
one_unit {aliases} {is} {x} {y} (next_item i path) (next_item j path') =
    agree_all (λ k mid. MoreItems (introduced k ++ aliases) (is ++ k ∷ []) mid y) (λ k mid. x ≡ y) (one_item i j) (λ q. one_unit path q) path'
