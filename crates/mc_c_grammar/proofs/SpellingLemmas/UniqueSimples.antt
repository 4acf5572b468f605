-- Right sides, declarations and simple statements are spelled once.
use Rattle.std.proofs.Common.{◌≡◌, ℕ, List, [], ◌∷◌, ◌++◌, Option, Some, None, false, refl, ap, sym, ◌∙◌, subst}
use Rattle.std.specs.Prelude.{codes}
use native.Mathlib.Omega.{arith}
use Rattle.mc_base.specs.declared.text.place.Place.{Place}
use Rattle.mc_base.specs.declared.text.token.Token.{Token}
use Rattle.mc_c_syntax.specs.declared.ast.trees.Name.{Name}
use Rattle.mc_c_syntax.specs.declared.ast.trees.Base.{Base}
use Rattle.mc_c_syntax.specs.declared.ast.trees.Declarator.{Declarator}
use Rattle.mc_c_syntax.specs.declared.ast.trees.Cast.{Cast}
use Rattle.mc_c_syntax.specs.declared.ast.trees.Size.{Size}
use Rattle.mc_c_syntax.specs.declared.ast.trees.Argument.{Argument}
use Rattle.mc_c_syntax.specs.Ast.Trees.{Left, Expr, CallTree, Right, expression, result_of, allocation, InitialTree, DeclarationTree, SimpleTree, assign, add, subtract, increment, decrement, increment_first, decrement_first, call}
use Rattle.mc_c_syntax.specs.Ast.Names.{Tokens, IsMark, IsWord, IsName, name_of, is_in}
use Rattle.mc_c_syntax.specs.Ast.Grammar.{Fields, none, more, IsLeft, named, IsUnary, negative, numeral, null_word, input_call, variable, in_parens, Factors, no_factor, factor, product, Terms, no_term, added, taken, IsSum, sum_of}
use Rattle.mc_c_syntax.specs.Ast.Grammar.{MoreExpressions, last, next, IsCall, without, with_some, IsBase, int, tagged, alias, IsStar, star, no_star, IsDeclarator, declarator, IsCast, no_cast, cast, IsSize, of_type, of_parens, of_value, IsRight, sum, called, allocated, IsInitial, bare, with_value, MoreInitials, last_initial, next_initial, IsDeclaration, declared, IsSimple, assigned, adding, subtracting, incremented, decremented, incremented_first, decremented_first, performed, IsArgument, name_argument, null_argument, number_argument, negative_argument, MoreArguments, last_argument, next_argument}
use Rattle.mc_c_grammar.proofs.SpellingLemmas.Agree.{Begins, Agree, same, early, late, agree_then, wider, conflict, never}
use Rattle.mc_c_grammar.proofs.SpellingLemmas.UniqueExpressions.{unary_marks, sum_marks, one_left, one_sum}
use Rattle.mc_c_grammar.proofs.SpellingLemmas.UniqueConditions.{unary_to_sum}
use Rattle.mc_c_syntax.proofs.AstLemmas.Numbers.{one_number}

abbrev pub list_marks : List (List ℕ)
list_marks = codes "," ∷ sum_marks

abbrev pub right_marks : List (List ℕ)
right_marks = codes "malloc" ∷ codes "(" ∷ sum_marks

abbrev pub initial_marks : List (List ℕ)
initial_marks = codes "=" ∷ right_marks

abbrev pub declaration_marks : List (List ℕ)
declaration_marks = codes "," ∷ initial_marks

pub sum_to_right : (ts : Tokens) → Begins sum_marks ts → Begins right_marks ts
sum_to_right ts b = wider (codes "malloc") (codes "(" ∷ sum_marks) ts (wider (codes "(") sum_marks ts b)

pub unary_to_right : (ts : Tokens) → Begins unary_marks ts → Begins right_marks ts
unary_to_right ts b = sum_to_right ts (unary_to_sum ts b)

-- two readings that end at marks which can't go on are the same
pub settle : (marks : List (List ℕ)) {m n : List ℕ} {X : Type 0} {x y : X} {a b : Token} {r s : Tokens} {R : Type 0} → is_in marks m ≡ false → is_in marks n ≡ false → IsMark m a → IsMark n b → (Agree [] x (a ∷ r) y (b ∷ s) → R) → Agree marks x (a ∷ r) y (b ∷ s) → R
settle marks none_m none_n is is' go same = go same
settle marks {a = a} none_m none_n is is' go (early so) = absurd (conflict marks a none_m is.text so)
settle marks {b = b} none_m none_n is is' go (late so) = absurd (conflict marks b none_n is'.text so)

two_marks : (marks : List (List ℕ)) {m n : List ℕ} {X : Type 0} {x y : X} {a b : Token} {r s : Tokens} → is_in marks m ≡ false → is_in marks n ≡ false → Agree marks x (a ∷ r) y (b ∷ s) → IsMark m a → IsMark n b → m ≡ n
two_marks marks none_m none_n same is is' = sym is.text ∙ is'.text
two_marks marks {a = a} none_m none_n (early so) is is' = absurd (conflict marks a none_m is.text so)
two_marks marks {b = b} none_m none_n (late so) is is' = absurd (conflict marks b none_n is'.text so)

stays_list : {a e : List Expr} {ts r : Tokens} → MoreExpressions a ts e r → Begins sum_marks ts → Begins list_marks r
stays_list {ts = ts} last b = wider (codes ",") sum_marks ts b
stays_list (next {comma = comma} is one path) b = absurd (conflict sum_marks comma refl is.text b)

pub one_list : {es x y : List Expr} {ts r s : Tokens} → MoreExpressions es ts x r → MoreExpressions es ts y s → Agree list_marks x r y s
one_list last last = same
one_list last (next is one path) = early (ap (is_in list_marks) is.text)
one_list (next is one path) last = late (ap (is_in list_marks) is.text)
one_list {es = es} {y = y} {s = s} (next is one path) (next is' one' path') =
    agree_then (λ e mid. MoreExpressions (es ++ e ∷ []) mid y s) (one_sum one one') (λ q. one_list path q) (λ begins. early (stays_list path begins)) (λ begins q. late (stays_list q begins)) path'

no_closing : {e : Expr} {t : Token} {ts r : Tokens} → IsSum e (t ∷ ts) r → IsMark (codes ")") t → ⊥
no_closing (sum_of (product (negative is inner) path) terms) after = absurd (grind arith)
no_closing (sum_of (product (numeral is) path) terms) after = absurd (grind arith)
no_closing (sum_of (product (null_word is) path) terms) after = absurd (grind arith)
no_closing (sum_of (product (input_call is one two) path) terms) after = absurd (grind arith)
no_closing (sum_of (product (variable (named is path')) path) terms) after = absurd (grind arith)
no_closing (sum_of (product (in_parens is inner two) path) terms) after = absurd (grind arith)

call_ends : (f : Name) {x y : List Expr} {a b : Token} {r s : Tokens} → Agree list_marks x (a ∷ r) y (b ∷ s) → IsMark (codes ")") a → IsMark (codes ")") b → Agree {X = CallTree} [] (record { function = f; arguments = x }) r (record { function = f; arguments = y }) s
call_ends f same is is' = same
call_ends f {a = a} (early so) is is' = absurd (conflict list_marks a refl is.text so)
call_ends f {b = b} (late so) is is' = absurd (conflict list_marks b refl is'.text so)

pub one_call : {x y : CallTree} {ts r s : Tokens} → IsCall x ts r → IsCall y ts s → Agree [] x r y s
one_call (without is before after) (without is' before' after') = same
one_call (without is before after) (with_some is' before' e path after') = absurd (no_closing e after)
one_call (with_some is before e path after) (without is' before' after') = absurd (no_closing e after')
one_call {s = s} (with_some {es = es} {name = name} is before e path after) (with_some {es = es'} {after = last_one} is' before' e' path' after') =
    call_ends (name_of name) (agree_then (λ a mid. MoreExpressions (a ∷ []) mid es' (last_one ∷ s)) (one_sum e e') (λ q. one_list path q) (λ begins. early (stays_list path begins)) (λ begins q. late (stays_list q begins)) path') after after'

pub one_base : {aliases : List (List ℕ)} {x y : Base} {ts r s : Tokens} → IsBase aliases x ts r → IsBase aliases y ts s → Agree [] x r y s
one_base (int is) (int is') = same
one_base (int is) (tagged is' name) = absurd (grind arith)
one_base (int is) (alias is') = absurd (let n = is'.name in grind arith)
one_base (tagged is name) (int is') = absurd (grind arith)
one_base (tagged is name) (tagged is' name') = same
one_base (tagged is name) (alias is') = absurd (let n = is'.name in grind arith)
one_base (alias is) (int is') = absurd (let n = is.name in grind arith)
one_base (alias is) (tagged is' name) = absurd (let n = is.name in grind arith)
one_base (alias is) (alias is') = same

pub one_declarator : {x y : Declarator} {ts r s : Tokens} → IsDeclarator x ts r → IsDeclarator y ts s → Agree [] x r y s
one_declarator (declarator (star is) name) (declarator (star is') name') = same
one_declarator (declarator (star is) name) (declarator no_star name') = absurd (grind arith)
one_declarator (declarator no_star name) (declarator (star is) name') = absurd (grind arith)
one_declarator (declarator no_star name) (declarator no_star name') = same

-- a star, or none, before a token that is no star
pub one_star : {x y : Option Place} {ts r s : Tokens} {a b : Token} {m : List ℕ} → IsStar x ts (a ∷ r) → IsStar y ts (b ∷ s) → IsMark m a → IsMark m b → is_in (codes "*" ∷ []) m ≡ false → Agree [] x (a ∷ r) y (b ∷ s)
one_star (star is) (star is') after after' other = same
one_star (star {token = token} is) no_star after after' other = absurd (conflict (codes "*" ∷ []) token other after'.text (ap (is_in (codes "*" ∷ [])) is.text))
one_star no_star (star {token = token} is) after after' other = absurd (conflict (codes "*" ∷ []) token other after.text (ap (is_in (codes "*" ∷ [])) is.text))
one_star no_star no_star after after' other = same

cast_ends : (place : Place) (base : Base) {x y : Option Place} {a b : Token} {r s : Tokens} → Agree [] x (a ∷ r) y (b ∷ s) → Agree {X = Option Cast} [] (Some (record { place = place; base = base; pointer = x })) r (Some (record { place = place; base = base; pointer = y })) s
cast_ends place base same = same
cast_ends place base (early {r = r} b) = absurd (never r b)
cast_ends place base (late {s = s} b) = absurd (never s b)

behind_base : (place : Place) {base base' : Base} {p q : Option Place} {mid mid' r s : Tokens} {a b : Token} → Agree [] base mid base' mid' → IsStar p mid (a ∷ r) → IsStar q mid' (b ∷ s) → IsMark (codes ")") a → IsMark (codes ")") b → Agree {X = Option Cast} [] (Some (record { place = place; base = base; pointer = p })) r (Some (record { place = place; base = base'; pointer = q })) s
behind_base place {base = base} same one other is is' = cast_ends place base (one_star one other is is' refl)
behind_base place (early {r = r} b) one other is is' = absurd (never r b)
behind_base place (late {s = s} b) one other is is' = absurd (never s b)

pub one_cast : {aliases : List (List ℕ)} {x y : Option Cast} {ts r s : Tokens} {a b : Token} → IsCast aliases x ts (a ∷ r) → IsCast aliases y ts (b ∷ s) → IsWord (codes "malloc") a → IsWord (codes "malloc") b → Agree [] x (a ∷ r) y (b ∷ s)
one_cast no_cast no_cast is is' = same
one_cast no_cast (cast before base pointer after) is is' = absurd (grind arith)
one_cast (cast before base pointer after) no_cast is is' = absurd (grind arith)
one_cast (cast {before = paren} before base pointer after) (cast before' base' pointer' after') is is' = behind_base paren.place (one_base base base') pointer pointer' after after'

size_ends : (place : Place) {x y : Base} {a b : Token} {r s : Tokens} → Agree [] x (a ∷ r) y (b ∷ s) → Agree [] (Size.OfType place x) r (Size.OfType place y) s
size_ends place same = same
size_ends place (early {r = r} b) = absurd (never r b)
size_ends place (late {s = s} b) = absurd (never s b)

pub one_size : {aliases : List (List ℕ)} {x y : Size} {ts r s : Tokens} → IsSize aliases x ts r → IsSize aliases y ts s → Agree [] x r y s
one_size (of_type {word = word} is before base after) (of_type is' before' base' after') = size_ends word.place (one_base base base')
one_size (of_type is before (int word) after) (of_parens is' before' times_mark name after') = absurd (grind arith)
one_size (of_type is before (tagged word tag) after) (of_parens is' before' times_mark name after') = absurd (grind arith)
one_size (of_type is before (alias known) after) (of_parens is' before' times_mark name after') = absurd (let n = known.name in grind arith)
one_size (of_type is before base after) (of_value is' times_mark name) = absurd (grind arith)
one_size (of_parens is before times_mark name after) (of_type is' before' (int word) after') = absurd (grind arith)
one_size (of_parens is before times_mark name after) (of_type is' before' (tagged word tag) after') = absurd (grind arith)
one_size (of_parens is before times_mark name after) (of_type is' before' (alias known) after') = absurd (let n = known.name in grind arith)
one_size (of_parens is before times_mark name after) (of_parens is' before' times_mark' name' after') = same
one_size (of_parens is before times_mark name after) (of_value is' times_mark' name') = absurd (grind arith)
one_size (of_value is times_mark name) (of_type is' before base after) = absurd (grind arith)
one_size (of_value is times_mark name) (of_parens is' before times_mark' name' after) = absurd (grind arith)
one_size (of_value is times_mark name) (of_value is' times_mark' name') = same

as_expression : {x y : Expr} {r s : Tokens} → Agree sum_marks x r y s → Agree right_marks (expression x) r (expression y) s
as_expression same = same
as_expression {r = r} (early b) = early (sum_to_right r b)
as_expression {s = s} (late b) = late (sum_to_right s b)

as_result : {x y : CallTree} {r s : Tokens} → Agree [] x r y s → Agree right_marks (result_of x) r (result_of y) s
as_result same = same
as_result (early {r = r} b) = absurd (never r b)
as_result (late {s = s} b) = absurd (never s b)

-- an expression that begins with a name before a parenthesis is this name
pub before_parens : {e : Expr} {n a : Token} {ts r : Tokens} → IsSum e (n ∷ a ∷ ts) r → IsName n → IsMark (codes "(") a → Begins right_marks r
before_parens (sum_of (product (negative is inner) path) terms) name paren = absurd (grind arith)
before_parens (sum_of (product (numeral is) path) terms) name paren = absurd (grind arith)
before_parens (sum_of (product (null_word is) path) terms) name paren = absurd (grind arith)
before_parens (sum_of (product (input_call is one two) path) terms) name paren = absurd (grind arith)
before_parens (sum_of (product (in_parens is inner two) path) terms) name paren = absurd (grind arith)
before_parens (sum_of (product (variable (named is (more arrow field path'))) path) terms) name paren = absurd (grind arith)
before_parens (sum_of (product (variable (named is none)) (factor times_mark unary path)) terms) name paren = absurd (grind arith)
before_parens (sum_of (product (variable (named is none)) no_factor) (added mark term path)) name paren = absurd (grind arith)
before_parens (sum_of (product (variable (named is none)) no_factor) (taken mark term path)) name paren = absurd (grind arith)
before_parens (sum_of (product (variable (named is none)) no_factor) no_term) name paren = ap (is_in right_marks) paren.text

call_first : {c : CallTree} {e : Expr} {ts r s : Tokens} → IsCall c ts s → IsSum e ts r → Begins right_marks r
call_first (without is before after) e = before_parens e is before
call_first (with_some is before inner path after) e = before_parens e is before

-- an expression after which `malloc` stands
chain_before : {a e : Expr} {t : Token} {ts r : Tokens} → Terms a (t ∷ ts) e r → IsWord (codes "malloc") t → Begins right_marks r
chain_before no_term is = ap (is_in right_marks) is.text
chain_before (added mark term path) is = absurd (grind arith)
chain_before (taken mark term path) is = absurd (grind arith)

factors_before : {a b e : Expr} {t : Token} {ts m r : Tokens} → Factors a (t ∷ ts) b m → Terms b m e r → IsWord (codes "malloc") t → Begins right_marks r
factors_before no_factor terms is = chain_before terms is
factors_before (factor times_mark unary path) terms is = absurd (grind arith)

-- what is in the parentheses of a cast is no expression, but a name
pub data OnlyName : Tokens → Token → Tokens → Type 0 where
  only_name : {n a : Token} {r : Tokens} → OnlyName (n ∷ a ∷ r) a r

base_no_sum : {aliases : List (List ℕ)} {base : Base} {p : Option Place} {e : Expr} {ts mid r s : Tokens} {a b : Token} → IsBase aliases base ts mid → IsStar p mid (a ∷ r) → IsMark (codes ")") a → IsSum e ts (b ∷ s) → IsMark (codes ")") b → (r ≡ s)
base_no_sum (int is) pointer after (sum_of (product (negative mark inner) path) terms) after' = absurd (grind arith)
base_no_sum (int is) pointer after (sum_of (product (numeral mark) path) terms) after' = absurd (grind arith)
base_no_sum (int is) pointer after (sum_of (product (null_word mark) path) terms) after' = absurd (grind arith)
base_no_sum (int is) pointer after (sum_of (product (input_call mark one two) path) terms) after' = absurd (grind arith)
base_no_sum (int is) pointer after (sum_of (product (variable (named mark path')) path) terms) after' = absurd (grind arith)
base_no_sum (int is) pointer after (sum_of (product (in_parens mark inner two) path) terms) after' = absurd (grind arith)
base_no_sum (tagged is name) pointer after (sum_of (product (negative mark inner) path) terms) after' = absurd (grind arith)
base_no_sum (tagged is name) pointer after (sum_of (product (numeral mark) path) terms) after' = absurd (grind arith)
base_no_sum (tagged is name) pointer after (sum_of (product (null_word mark) path) terms) after' = absurd (grind arith)
base_no_sum (tagged is name) pointer after (sum_of (product (input_call mark one two) path) terms) after' = absurd (grind arith)
base_no_sum (tagged is name) pointer after (sum_of (product (variable (named mark path')) path) terms) after' = absurd (grind arith)
base_no_sum (tagged is name) pointer after (sum_of (product (in_parens mark inner two) path) terms) after' = absurd (grind arith)
base_no_sum (alias is) pointer after (sum_of (product (negative mark inner) path) terms) after' = absurd (let n = is.name in grind arith)
base_no_sum (alias is) pointer after (sum_of (product (numeral mark) path) terms) after' = absurd (let n = is.name in grind arith)
base_no_sum (alias is) pointer after (sum_of (product (null_word mark) path) terms) after' = absurd (let n = is.name in grind arith)
base_no_sum (alias is) pointer after (sum_of (product (input_call mark one two) path) terms) after' = absurd (let n = is.name in grind arith)
base_no_sum (alias is) pointer after (sum_of (product (in_parens mark inner two) path) terms) after' = absurd (let n = is.name in grind arith)
base_no_sum (alias is) (star mark_star) after (sum_of (product (variable (named mark none)) no_factor) no_term) after' = absurd (grind arith)
base_no_sum (alias is) (star mark_star) after (sum_of (product (variable (named mark none)) no_factor) (added plus_mark term path)) after' = absurd (grind arith)
base_no_sum (alias is) (star mark_star) after (sum_of (product (variable (named mark none)) no_factor) (taken minus_mark term path)) after' = absurd (grind arith)
base_no_sum (alias is) (star mark_star) after (sum_of (product (variable (named mark none)) (factor star_mark unary path)) terms) after' = absurd (no_unary unary after)
  where
    no_unary : {e : Expr} {t : Token} {ts r : Tokens} → IsUnary e (t ∷ ts) r → IsMark (codes ")") t → ⊥
    no_unary (negative is inner) after = absurd (grind arith)
    no_unary (numeral is) after = absurd (grind arith)
    no_unary (null_word is) after = absurd (grind arith)
    no_unary (input_call is one two) after = absurd (grind arith)
    no_unary (variable (named is path')) after = absurd (grind arith)
    no_unary (in_parens is inner two) after = absurd (grind arith)
base_no_sum (alias is) (star mark_star) after (sum_of (product (variable (named mark (more arrow field path'))) path) terms) after' = absurd (grind arith)
base_no_sum (alias is) no_star after (sum_of (product (variable (named mark none)) no_factor) no_term) after' = refl
base_no_sum (alias is) no_star after (sum_of (product (variable (named mark none)) no_factor) (added plus_mark term path)) after' = absurd (grind arith)
base_no_sum (alias is) no_star after (sum_of (product (variable (named mark none)) no_factor) (taken minus_mark term path)) after' = absurd (grind arith)
base_no_sum (alias is) no_star after (sum_of (product (variable (named mark none)) (factor star_mark unary path)) terms) after' = absurd (grind arith)
base_no_sum (alias is) no_star after (sum_of (product (variable (named mark (more arrow field path'))) path) terms) after' = absurd (grind arith)

-- where a cast stands, an expression stops before `malloc`
pub cast_first : {aliases : List (List ℕ)} {c : Option Cast} {e : Expr} {ts r s : Tokens} {a : Token} → IsCast aliases c ts (a ∷ s) → IsWord (codes "malloc") a → IsSum e ts r → Begins right_marks r
cast_first no_cast is (sum_of (product (negative mark inner) path) terms) = absurd (grind arith)
cast_first no_cast is (sum_of (product (numeral mark) path) terms) = absurd (grind arith)
cast_first no_cast is (sum_of (product (null_word mark) path) terms) = absurd (grind arith)
cast_first no_cast is (sum_of (product (input_call mark one two) path) terms) = absurd (grind arith)
cast_first no_cast is (sum_of (product (variable (named mark path')) path) terms) = absurd (grind arith)
cast_first no_cast is (sum_of (product (in_parens mark inner two) path) terms) = absurd (grind arith)
cast_first (cast before base pointer after) is (sum_of (product (negative mark inner) path) terms) = absurd (grind arith)
cast_first (cast before base pointer after) is (sum_of (product (numeral mark) path) terms) = absurd (grind arith)
cast_first (cast before base pointer after) is (sum_of (product (null_word mark) path) terms) = absurd (grind arith)
cast_first (cast before base pointer after) is (sum_of (product (input_call mark one two) path) terms) = absurd (grind arith)
cast_first (cast before base pointer after) is (sum_of (product (variable (named mark path')) path) terms) = absurd (grind arith)
cast_first (cast before base pointer after) is (sum_of (product {a = u} {e = t} {rest = behind} (in_parens mark inner two) path) (terms)) =
    factors_before (subst (λ m. Factors u m t behind) (sym (base_no_sum base pointer after inner two)) path) terms is

malloc_ends : (place : Place) (c : Option Cast) {x y : Size} {a b : Token} {r s : Tokens} → Agree [] x (a ∷ r) y (b ∷ s) → Agree right_marks (allocation (record { cast = c; place = place; size = x })) r (allocation (record { cast = c; place = place; size = y })) s
malloc_ends place c same = same
malloc_ends place c (early {r = r} b) = absurd (never r b)
malloc_ends place c (late {s = s} b) = absurd (never s b)

behind_cast : {aliases : List (List ℕ)} {c d : Option Cast} {x y : Size} {w v o p a b : Token} {m n r s : Tokens} → Agree [] c (w ∷ o ∷ m) d (v ∷ p ∷ n) → IsSize aliases x m (a ∷ r) → IsSize aliases y n (b ∷ s) → Agree right_marks (allocation (record { cast = c; place = w.place; size = x })) r (allocation (record { cast = d; place = v.place; size = y })) s
behind_cast {c = c} {w = w} same size size' = malloc_ends w.place c (one_size size size')
behind_cast (early {r = r} b) size size' = absurd (never r b)
behind_cast (late {s = s} b) size size' = absurd (never s b)

name_no_cast : {aliases : List (List ℕ)} {f : CallTree} {c : Option Cast} {ts r s : Tokens} {a : Token} → IsCall f ts r → IsCast aliases c ts (a ∷ s) → IsWord (codes "malloc") a → ⊥
name_no_cast (without is before after) no_cast word = absurd (grind arith)
name_no_cast (without is before after) (cast before' base pointer after') word = absurd (grind arith)
name_no_cast (with_some is before e path after) no_cast word = absurd (grind arith)
name_no_cast (with_some is before e path after) (cast before' base pointer after') word = absurd (grind arith)

pub one_right : {aliases : List (List ℕ)} {x y : Right} {ts r s : Tokens} → IsRight aliases x ts r → IsRight aliases y ts s → Agree right_marks x r y s
one_right (sum e) (sum e') = as_expression (one_sum e e')
one_right (sum e) (called c) = early (call_first c e)
one_right (sum e) (allocated c word before size after) = early (cast_first c word e)
one_right (called c) (sum e) = late (call_first c e)
one_right (called c) (called c') = as_result (one_call c c')
one_right (called f) (allocated c word before size after) = absurd (name_no_cast f c word)
one_right (allocated c word before size after) (sum e) = late (cast_first c word e)
one_right (allocated c word before size after) (called f) = absurd (name_no_cast f c word)
one_right (allocated c word before size after) (allocated c' word' before' size' after') = behind_cast (one_cast c c' word word') size size'

bare_initial : (d : Declarator) {x y : Right} {r s : Tokens} → Agree right_marks x r y s → Agree {X = InitialTree} initial_marks (record { declarator = d; value = Some x }) r (record { declarator = d; value = Some y }) s
bare_initial d same = same
bare_initial d {r = r} (early b) = early (wider (codes "=") right_marks r b)
bare_initial d {s = s} (late b) = late (wider (codes "=") right_marks s b)

both_bare : {d e : Declarator} {r s : Tokens} → Agree [] d r e s → Agree {X = InitialTree} initial_marks (record { declarator = d; value = None }) r (record { declarator = e; value = None }) s
both_bare same = same
both_bare (early {r = r} b) = absurd (never r b)
both_bare (late {s = s} b) = absurd (never s b)

bare_first : {d e : Declarator} {v : Right} {r m t : Tokens} {a : Token} → Agree [] d r e (a ∷ m) → IsMark (codes "=") a → Agree {X = InitialTree} initial_marks (record { declarator = d; value = None }) r (record { declarator = e; value = Some v }) t
bare_first same is = early (ap (is_in initial_marks) is.text)
bare_first (early {r = r} b) is = absurd (never r b)
bare_first (late {s = s} b) is = absurd (never s b)

bare_second : {d e : Declarator} {v : Right} {r m t : Tokens} {a : Token} → Agree [] d (a ∷ m) e r → IsMark (codes "=") a → Agree {X = InitialTree} initial_marks (record { declarator = d; value = Some v }) t (record { declarator = e; value = None }) r
bare_second same is = late (ap (is_in initial_marks) is.text)
bare_second (early {r = r} b) is = absurd (never r b)
bare_second (late {s = s} b) is = absurd (never s b)

both_valued : {aliases : List (List ℕ)} {d e : Declarator} {x y : Right} {a b : Token} {m n r s : Tokens} → Agree [] d (a ∷ m) e (b ∷ n) → IsRight aliases x m r → IsRight aliases y n s → Agree {X = InitialTree} initial_marks (record { declarator = d; value = Some x }) r (record { declarator = e; value = Some y }) s
both_valued {d = d} same right right' = bare_initial d (one_right right right')
both_valued (early {r = r} b) right right' = absurd (never r b)
both_valued (late {s = s} b) right right' = absurd (never s b)

pub one_initial : {aliases : List (List ℕ)} {x y : InitialTree} {ts r s : Tokens} → IsInitial aliases x ts r → IsInitial aliases y ts s → Agree initial_marks x r y s
one_initial (bare d) (bare d') = both_bare (one_declarator d d')
one_initial (bare d) (with_value d' is right) = bare_first (one_declarator d d') is
one_initial (with_value d is right) (bare d') = bare_second (one_declarator d d') is
one_initial (with_value d is right) (with_value d' is' right') = both_valued (one_declarator d d') right right'

stays_initials : {aliases : List (List ℕ)} {a e : List InitialTree} {ts r : Tokens} → MoreInitials aliases a ts e r → Begins initial_marks ts → Begins declaration_marks r
stays_initials {ts = ts} last_initial b = wider (codes ",") initial_marks ts b
stays_initials (next_initial {comma = comma} is one path) b = absurd (conflict initial_marks comma refl is.text b)

pub one_initials : {aliases : List (List ℕ)} {is x y : List InitialTree} {ts r s : Tokens} → MoreInitials aliases is ts x r → MoreInitials aliases is ts y s → Agree declaration_marks x r y s
one_initials last_initial last_initial = same
one_initials last_initial (next_initial is one path) = early (ap (is_in declaration_marks) is.text)
one_initials (next_initial is one path) last_initial = late (ap (is_in declaration_marks) is.text)
one_initials {aliases} {is = before} {y = y} {s = s} (next_initial is one path) (next_initial is' one' path') =
    agree_then (λ i mid. MoreInitials aliases (before ++ i ∷ []) mid y s) (one_initial one one') (λ q. one_initials path q) (λ begins. early (stays_initials path begins)) (λ begins q. late (stays_initials q begins)) path'

declaration_ends : (base : Base) {x y : List InitialTree} {a b : Token} {r s : Tokens} → Agree declaration_marks x (a ∷ r) y (b ∷ s) → IsMark (codes ";") a → IsMark (codes ";") b → Agree {X = DeclarationTree} [] (record { base = base; items = x }) r (record { base = base; items = y }) s
declaration_ends base same is is' = same
declaration_ends base (early {r = a ∷ r} so) is is' = absurd (conflict declaration_marks a refl is.text so)
declaration_ends base (late {s = b ∷ s} so) is is' = absurd (conflict declaration_marks b refl is'.text so)

behind_declared : {aliases : List (List ℕ)} {base base' : Base} {i j : InitialTree} {x y : List InitialTree} {a b : Token} {m n m' n' r s : Tokens} → Agree [] base m base' n → IsInitial aliases i m m' → IsInitial aliases j n n' → MoreInitials aliases (i ∷ []) m' x (a ∷ r) → MoreInitials aliases (j ∷ []) n' y (b ∷ s) → IsMark (codes ";") a → IsMark (codes ";") b → Agree {X = DeclarationTree} [] (record { base = base; items = x }) r (record { base = base'; items = y }) s
behind_declared {aliases} {base = base} {y = y} {b = b} {s = s} same one one' path path' is is' =
    declaration_ends base (agree_then (λ i mid. MoreInitials aliases (i ∷ []) mid y (b ∷ s)) (one_initial one one') (λ q. one_initials path q) (λ begins. early (stays_initials path begins)) (λ begins q. late (stays_initials q begins)) path') is is'
behind_declared (early {r = r} b) one one' path path' is is' = absurd (never r b)
behind_declared (late {s = s} b) one one' path path' is is' = absurd (never s b)

pub one_declaration : {aliases : List (List ℕ)} {x y : DeclarationTree} {ts r s : Tokens} → IsDeclaration aliases x ts r → IsDeclaration aliases y ts s → Agree [] x r y s
one_declaration (declared base one path is) (declared base' one' path' is') = behind_declared (one_base base base') one one' path path' is is'

right_side : (l : Left) {x y : Right} {r s : Tokens} → Agree right_marks x r y s → Agree right_marks (assign l x) r (assign l y) s
right_side l same = same
right_side l (early b) = early b
right_side l (late b) = late b

added_side : (l : Left) {x y : Expr} {r s : Tokens} → Agree sum_marks x r y s → Agree right_marks (add l x) r (add l y) s
added_side l same = same
added_side l {r = r} (early b) = early (sum_to_right r b)
added_side l {s = s} (late b) = late (sum_to_right s b)

taken_side : (l : Left) {x y : Expr} {r s : Tokens} → Agree sum_marks x r y s → Agree right_marks (subtract l x) r (subtract l y) s
taken_side l same = same
taken_side l {r = r} (early b) = early (sum_to_right r b)
taken_side l {s = s} (late b) = late (sum_to_right s b)

both_assigned : {aliases : List (List ℕ)} {l k : Left} {x y : Right} {a b : Token} {m n r s : Tokens} → Agree unary_marks l (a ∷ m) k (b ∷ n) → IsMark (codes "=") a → IsMark (codes "=") b → IsRight aliases x m r → IsRight aliases y n s → Agree right_marks (assign l x) r (assign k y) s
both_assigned {l = l} same is is' right right' = right_side l (one_right right right')
both_assigned {a = a} (early so) is is' right right' = absurd (conflict unary_marks a refl is.text so)
both_assigned {b = b} (late so) is is' right right' = absurd (conflict unary_marks b refl is'.text so)

both_added : {l k : Left} {x y : Expr} {a b : Token} {m n r s : Tokens} → Agree unary_marks l (a ∷ m) k (b ∷ n) → IsMark (codes "+=") a → IsMark (codes "+=") b → IsSum x m r → IsSum y n s → Agree right_marks (add l x) r (add k y) s
both_added {l = l} same is is' e e' = added_side l (one_sum e e')
both_added {a = a} (early so) is is' e e' = absurd (conflict unary_marks a refl is.text so)
both_added {b = b} (late so) is is' e e' = absurd (conflict unary_marks b refl is'.text so)

both_taken : {l k : Left} {x y : Expr} {a b : Token} {m n r s : Tokens} → Agree unary_marks l (a ∷ m) k (b ∷ n) → IsMark (codes "-=") a → IsMark (codes "-=") b → IsSum x m r → IsSum y n s → Agree right_marks (subtract l x) r (subtract k y) s
both_taken {l = l} same is is' e e' = taken_side l (one_sum e e')
both_taken {a = a} (early so) is is' e e' = absurd (conflict unary_marks a refl is.text so)
both_taken {b = b} (late so) is is' e e' = absurd (conflict unary_marks b refl is'.text so)

both_incremented : {l k : Left} {a b : Token} {m n : Tokens} → Agree unary_marks l (a ∷ m) k (b ∷ n) → IsMark (codes "++") a → IsMark (codes "++") b → Agree right_marks (increment l) m (increment k) n
both_incremented same is is' = same
both_incremented {a = a} (early so) is is' = absurd (conflict unary_marks a refl is.text so)
both_incremented {b = b} (late so) is is' = absurd (conflict unary_marks b refl is'.text so)

both_decremented : {l k : Left} {a b : Token} {m n : Tokens} → Agree unary_marks l (a ∷ m) k (b ∷ n) → IsMark (codes "--") a → IsMark (codes "--") b → Agree right_marks (decrement l) m (decrement k) n
both_decremented same is is' = same
both_decremented {a = a} (early so) is is' = absurd (conflict unary_marks a refl is.text so)
both_decremented {b = b} (late so) is is' = absurd (conflict unary_marks b refl is'.text so)

first_incremented : (place : Place) {l k : Left} {r s : Tokens} → Agree unary_marks l r k s → Agree right_marks (increment_first place l) r (increment_first place k) s
first_incremented place same = same
first_incremented place {r = r} (early b) = early (unary_to_right r b)
first_incremented place {s = s} (late b) = late (unary_to_right s b)

first_decremented : (place : Place) {l k : Left} {r s : Tokens} → Agree unary_marks l r k s → Agree right_marks (decrement_first place l) r (decrement_first place k) s
first_decremented place same = same
first_decremented place {r = r} (early b) = early (unary_to_right r b)
first_decremented place {s = s} (late b) = late (unary_to_right s b)

as_performed : {x y : CallTree} {r s : Tokens} → Agree [] x r y s → Agree right_marks (call x) r (call y) s
as_performed same = same
as_performed (early {r = r} b) = absurd (never r b)
as_performed (late {s = s} b) = absurd (never s b)

path_no_call : {l k : Left} {ts r more_tokens : Tokens} {a b : Token} {m : List ℕ} → Fields l ts k (a ∷ r) → IsMark m a → is_in (codes "(" ∷ []) m ≡ false → ts ≡ b ∷ more_tokens → IsMark (codes "(") b → ⊥
path_no_call {a = a} none is other e paren = let f : a.text ≡ codes "(" = cc in conflict (codes "(" ∷ []) a other is.text (ap (is_in (codes "(" ∷ [])) f)
path_no_call (more arrow field path') is other e paren = absurd (grind arith)

left_no_call : {l : Left} {c : CallTree} {ts r s : Tokens} {a : Token} {m : List ℕ} → IsLeft l ts (a ∷ r) → IsMark m a → is_in (codes "(" ∷ []) m ≡ false → IsCall c ts s → ⊥
left_no_call (named name path) is other (without name' before after) = path_no_call path is other refl before
left_no_call (named name path) is other (with_some name' before e path' after) = path_no_call path is other refl before

pub one_simple : {aliases : List (List ℕ)} {x y : SimpleTree} {ts r s : Tokens} → IsSimple aliases x ts r → IsSimple aliases y ts s → Agree right_marks x r y s
one_simple (assigned l is right) (assigned l' is' right') = both_assigned (one_left l l') is is' right right'
one_simple (assigned l is right) (adding l' is' e') = absurd (let equal = two_marks unary_marks refl refl (one_left l l') is is' in grind arith)
one_simple (assigned l is right) (subtracting l' is' e') = absurd (let equal = two_marks unary_marks refl refl (one_left l l') is is' in grind arith)
one_simple (assigned l is right) (incremented l' is') = absurd (let equal = two_marks unary_marks refl refl (one_left l l') is is' in grind arith)
one_simple (assigned l is right) (decremented l' is') = absurd (let equal = two_marks unary_marks refl refl (one_left l l') is is' in grind arith)
one_simple (assigned (named name path) is right) (incremented_first first left) = absurd (grind arith)
one_simple (incremented_first first left) (assigned (named name path) is right) = absurd (grind arith)
one_simple (assigned (named name path) is right) (decremented_first first left) = absurd (grind arith)
one_simple (decremented_first first left) (assigned (named name path) is right) = absurd (grind arith)
one_simple (assigned l is right) (performed c) = absurd (left_no_call l is refl c)
one_simple (performed c) (assigned l is right) = absurd (left_no_call l is refl c)
one_simple (adding l is e) (assigned l' is' right') = absurd (let equal = two_marks unary_marks refl refl (one_left l l') is is' in grind arith)
one_simple (adding l is e) (adding l' is' e') = both_added (one_left l l') is is' e e'
one_simple (adding l is e) (subtracting l' is' e') = absurd (let equal = two_marks unary_marks refl refl (one_left l l') is is' in grind arith)
one_simple (adding l is e) (incremented l' is') = absurd (let equal = two_marks unary_marks refl refl (one_left l l') is is' in grind arith)
one_simple (adding l is e) (decremented l' is') = absurd (let equal = two_marks unary_marks refl refl (one_left l l') is is' in grind arith)
one_simple (adding (named name path) is e) (incremented_first first left) = absurd (grind arith)
one_simple (incremented_first first left) (adding (named name path) is e) = absurd (grind arith)
one_simple (adding (named name path) is e) (decremented_first first left) = absurd (grind arith)
one_simple (decremented_first first left) (adding (named name path) is e) = absurd (grind arith)
one_simple (adding l is e) (performed c) = absurd (left_no_call l is refl c)
one_simple (performed c) (adding l is e) = absurd (left_no_call l is refl c)
one_simple (subtracting l is e) (assigned l' is' right') = absurd (let equal = two_marks unary_marks refl refl (one_left l l') is is' in grind arith)
one_simple (subtracting l is e) (adding l' is' e') = absurd (let equal = two_marks unary_marks refl refl (one_left l l') is is' in grind arith)
one_simple (subtracting l is e) (subtracting l' is' e') = both_taken (one_left l l') is is' e e'
one_simple (subtracting l is e) (incremented l' is') = absurd (let equal = two_marks unary_marks refl refl (one_left l l') is is' in grind arith)
one_simple (subtracting l is e) (decremented l' is') = absurd (let equal = two_marks unary_marks refl refl (one_left l l') is is' in grind arith)
one_simple (subtracting (named name path) is e) (incremented_first first left) = absurd (grind arith)
one_simple (incremented_first first left) (subtracting (named name path) is e) = absurd (grind arith)
one_simple (subtracting (named name path) is e) (decremented_first first left) = absurd (grind arith)
one_simple (decremented_first first left) (subtracting (named name path) is e) = absurd (grind arith)
one_simple (subtracting l is e) (performed c) = absurd (left_no_call l is refl c)
one_simple (performed c) (subtracting l is e) = absurd (left_no_call l is refl c)
one_simple (incremented l is) (assigned l' is' right') = absurd (let equal = two_marks unary_marks refl refl (one_left l l') is is' in grind arith)
one_simple (incremented l is) (adding l' is' e') = absurd (let equal = two_marks unary_marks refl refl (one_left l l') is is' in grind arith)
one_simple (incremented l is) (subtracting l' is' e') = absurd (let equal = two_marks unary_marks refl refl (one_left l l') is is' in grind arith)
one_simple (incremented l is) (incremented l' is') = both_incremented (one_left l l') is is'
one_simple (incremented l is) (decremented l' is') = absurd (let equal = two_marks unary_marks refl refl (one_left l l') is is' in grind arith)
one_simple (incremented (named name path) is) (incremented_first first left) = absurd (grind arith)
one_simple (incremented_first first left) (incremented (named name path) is) = absurd (grind arith)
one_simple (incremented (named name path) is) (decremented_first first left) = absurd (grind arith)
one_simple (decremented_first first left) (incremented (named name path) is) = absurd (grind arith)
one_simple (incremented l is) (performed c) = absurd (left_no_call l is refl c)
one_simple (performed c) (incremented l is) = absurd (left_no_call l is refl c)
one_simple (decremented l is) (assigned l' is' right') = absurd (let equal = two_marks unary_marks refl refl (one_left l l') is is' in grind arith)
one_simple (decremented l is) (adding l' is' e') = absurd (let equal = two_marks unary_marks refl refl (one_left l l') is is' in grind arith)
one_simple (decremented l is) (subtracting l' is' e') = absurd (let equal = two_marks unary_marks refl refl (one_left l l') is is' in grind arith)
one_simple (decremented l is) (incremented l' is') = absurd (let equal = two_marks unary_marks refl refl (one_left l l') is is' in grind arith)
one_simple (decremented l is) (decremented l' is') = both_decremented (one_left l l') is is'
one_simple (decremented (named name path) is) (incremented_first first left) = absurd (grind arith)
one_simple (incremented_first first left) (decremented (named name path) is) = absurd (grind arith)
one_simple (decremented (named name path) is) (decremented_first first left) = absurd (grind arith)
one_simple (decremented_first first left) (decremented (named name path) is) = absurd (grind arith)
one_simple (decremented l is) (performed c) = absurd (left_no_call l is refl c)
one_simple (performed c) (decremented l is) = absurd (left_no_call l is refl c)
one_simple (incremented_first {mark = mark} is l) (incremented_first is' l') = first_incremented mark.place (one_left l l')
one_simple (incremented_first is l) (decremented_first is' l') = absurd (grind arith)
one_simple (decremented_first is l) (incremented_first is' l') = absurd (grind arith)
one_simple (decremented_first {mark = mark} is l) (decremented_first is' l') = first_decremented mark.place (one_left l l')
one_simple (incremented_first is l) (performed (without name before after)) = absurd (grind arith)
one_simple (incremented_first is l) (performed (with_some name before e path after)) = absurd (grind arith)
one_simple (decremented_first is l) (performed (without name before after)) = absurd (grind arith)
one_simple (decremented_first is l) (performed (with_some name before e path after)) = absurd (grind arith)
one_simple (performed (without name before after)) (incremented_first is l) = absurd (grind arith)
one_simple (performed (with_some name before e path after)) (incremented_first is l) = absurd (grind arith)
one_simple (performed (without name before after)) (decremented_first is l) = absurd (grind arith)
one_simple (performed (with_some name before e path after)) (decremented_first is l) = absurd (grind arith)
one_simple (performed c) (performed c') = as_performed (one_call c c')

number_argument_same : (place : Place) (ts : Tokens) {m n : ℕ} → m ≡ n → Agree [] (Argument.Number m place) ts (Argument.Number n place) ts
number_argument_same place ts {m} e = subst (λ k. Agree [] (Argument.Number m place) ts (Argument.Number k place) ts) e same

negative_argument_same : (place : Place) (ts : Tokens) {m n : ℕ} → m ≡ n → Agree [] (Argument.Negative m place) ts (Argument.Negative n place) ts
negative_argument_same place ts {m} e = subst (λ k. Agree [] (Argument.Negative m place) ts (Argument.Negative k place) ts) e same

pub one_argument : {x y : Argument} {ts r s : Tokens} → IsArgument x ts r → IsArgument y ts s → Agree [] x r y s
one_argument (name_argument is) (name_argument is') = same
one_argument (name_argument is) (null_argument is') = absurd (grind arith)
one_argument (name_argument is) (number_argument is') = absurd (grind arith)
one_argument (name_argument is) (negative_argument is' n) = absurd (grind arith)
one_argument (null_argument is) (name_argument is') = absurd (grind arith)
one_argument (null_argument is) (null_argument is') = same
one_argument (null_argument is) (number_argument is') = absurd (grind arith)
one_argument (null_argument is) (negative_argument is' n) = absurd (grind arith)
one_argument (number_argument is) (name_argument is') = absurd (grind arith)
one_argument (number_argument is) (null_argument is') = absurd (grind arith)
one_argument (number_argument {token = token} {tokens = ts} is) (number_argument is') = number_argument_same token.place ts (one_number is is')
one_argument (number_argument is) (negative_argument is' n) = absurd (grind arith)
one_argument (negative_argument is n) (name_argument is') = absurd (grind arith)
one_argument (negative_argument is n) (null_argument is') = absurd (grind arith)
one_argument (negative_argument is n) (number_argument is') = absurd (grind arith)
one_argument (negative_argument {mark = mark} {tokens = ts} is n) (negative_argument is' n') = negative_argument_same mark.place ts (one_number n n')

stays_arguments : {a e : List Argument} {ts r : Tokens} → MoreArguments a ts e r → Begins [] ts → Begins (codes "," ∷ []) r
stays_arguments {ts = ts} path b = absurd (never ts b)

pub one_arguments : {args x y : List Argument} {ts r s : Tokens} → MoreArguments args ts x r → MoreArguments args ts y s → Agree (codes "," ∷ []) x r y s
one_arguments last_argument last_argument = same
one_arguments last_argument (next_argument is one path) = early (ap (is_in (codes "," ∷ [])) is.text)
one_arguments (next_argument is one path) last_argument = late (ap (is_in (codes "," ∷ [])) is.text)
one_arguments {args = args} {y = y} {s = s} (next_argument is one path) (next_argument is' one' path') =
    agree_then (λ a mid. MoreArguments (args ++ a ∷ []) mid y s) (one_argument one one') (λ q. one_arguments path q) (λ begins. early (stays_arguments path begins)) (λ begins q. late (stays_arguments q begins)) path'
