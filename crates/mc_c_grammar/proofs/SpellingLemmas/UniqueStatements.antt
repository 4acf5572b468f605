-- Statements are spelled once.
use Rattle.std.proofs.Common.{◌≡◌, ℕ, List, [], ◌∷◌, ◌++◌, Option, Some, true, false, refl, ap, ◌∙◌}
use Rattle.std.specs.Prelude.{codes}
use native.Mathlib.Omega.{arith}
use Rattle.mc_base.specs.declared.text.place.Place.{Place}
use Rattle.mc_base.specs.declared.text.token.Token.{Token}
use Rattle.mc_c_syntax.specs.Ast.Trees.{Left, Expr, Cond, Right, DeclarationTree, SimpleTree, Start, declares, performs, Head, Stmt, declaration, block, simple, free, assert, assume, assume_shape, assert_shape, if_only, if_else, while_loop, do_loop, for_loop, returns, stmts_of}
use Rattle.mc_c_syntax.specs.Ast.Names.{Tokens, IsMark, IsWord, IsName, IsNoElse, name_of, is_in, is_reserved}
use Rattle.mc_c_syntax.specs.Ast.Grammar.{Fields, none, more, named, negative, numeral, null_word, input_call, variable, in_parens, product, IsSum, sum_of, bang_bang, bang_variable, bang_input, bang_parens, plain_one, comparison, negated, condition_parens, all_of, IsCondition, any_of}
use Rattle.mc_c_syntax.specs.Ast.Grammar.{without, with_some, int, tagged, alias, star, no_star, declarator, no_cast, cast, IsRight, sum, called, allocated, bare, with_value, IsDeclaration, declared, IsSimple, assigned, adding, subtracting, incremented, decremented, incremented_first, decremented_first, performed, MoreArguments}
use Rattle.mc_c_syntax.specs.Ast.Grammar.{IsStart, starts_empty, starts_declaring, starts_performing, IsMaybeCondition, no_condition, condition, IsMaybeSimple, no_simple, some_simple, IsHead, head, IsStatement, MoreStatements, no_statement, next_statement}
use Rattle.mc_c_syntax.specs.Ast.Grammar.{declares_statement, block_statement, empty_statement, simple_statement, free_statement, assert_statement, assume_statement, assume_shape_statement, assert_shape_statement, assert_empty_statement, if_statement, if_else_statement, while_statement, do_statement, for_statement, break_statement, continue_statement, return_statement, return_value}
use Rattle.mc_c_grammar.proofs.SpellingLemmas.Agree.{Agree, same, early, late, agree_all, agree_at, conflict, never, lift, close_one, close_two, Behind}
use Rattle.mc_c_grammar.proofs.SpellingLemmas.UniqueExpressions.{sum_marks, one_sum}
use Rattle.mc_c_grammar.proofs.SpellingLemmas.UniqueConditions.{condition_marks, one_condition}
use Rattle.mc_c_grammar.proofs.SpellingLemmas.UniqueSimples.{right_marks, one_right, one_declaration, one_simple, one_argument, one_arguments}

path_star : {l k : Left} {a b : Token} {ts r : Tokens} {m : List ℕ} → Fields l (b ∷ ts) k (a ∷ r) → IsMark m a → is_in (codes "*" ∷ []) m ≡ false → IsMark (codes "*") b → ⊥
path_star {a = a} none is other times_mark = conflict (codes "*" ∷ []) a other is.text (ap (is_in (codes "*" ∷ [])) times_mark.text)
path_star (more arrow field path) is other times_mark = absurd (grind arith)

path_name : {l k : Left} {a b : Token} {ts r : Tokens} {m : List ℕ} → Fields l (b ∷ ts) k (a ∷ r) → IsMark m a → IsName b → ⊥
path_name none is name = absurd (grind arith)
path_name (more arrow field path) is name = absurd (grind arith)

pub no_star_second : {aliases : List (List ℕ)} {t : SimpleTree} {n b : Token} {ts r : Tokens} → IsSimple aliases t (n ∷ b ∷ ts) r → IsName n → IsMark (codes "*") b → ⊥
no_star_second (assigned (named name path) is right) first second = path_star path is refl second
no_star_second (adding (named name path) is e) first second = path_star path is refl second
no_star_second (subtracting (named name path) is e) first second = path_star path is refl second
no_star_second (incremented (named name path) is) first second = path_star path is refl second
no_star_second (decremented (named name path) is) first second = path_star path is refl second
no_star_second (incremented_first is l) first second = absurd (grind arith)
no_star_second (decremented_first is l) first second = absurd (grind arith)
no_star_second (performed (without name before after)) first second = absurd (grind arith)
no_star_second (performed (with_some name before e path after)) first second = absurd (grind arith)

pub no_name_second : {aliases : List (List ℕ)} {t : SimpleTree} {n b : Token} {ts r : Tokens} → IsSimple aliases t (n ∷ b ∷ ts) r → IsName n → IsName b → ⊥
no_name_second (assigned (named name path) is right) first second = path_name path is second
no_name_second (adding (named name path) is e) first second = path_name path is second
no_name_second (subtracting (named name path) is e) first second = path_name path is second
no_name_second (incremented (named name path) is) first second = path_name path is second
no_name_second (decremented (named name path) is) first second = path_name path is second
no_name_second (incremented_first is l) first second = absurd (grind arith)
no_name_second (decremented_first is l) first second = absurd (grind arith)
no_name_second (performed (without name before after)) first second = absurd (grind arith)
no_name_second (performed (with_some name before e path after)) first second = absurd (grind arith)

pub not_free : {t : Token} {w : List ℕ} → IsName t → IsWord w t → is_reserved w ≡ true → ⊥
not_free name word reserved = let e = ap is_reserved word.text ∙ reserved in let f = name.free in cc

pub no_word_first : {aliases : List (List ℕ)} {t : SimpleTree} {n : Token} {ts r : Tokens} {w : List ℕ} → IsSimple aliases t (n ∷ ts) r → IsWord w n → is_reserved w ≡ true → ⊥
no_word_first (assigned (named name path) is right) word reserved = not_free name word reserved
no_word_first (adding (named name path) is e) word reserved = not_free name word reserved
no_word_first (subtracting (named name path) is e) word reserved = not_free name word reserved
no_word_first (incremented (named name path) is) word reserved = not_free name word reserved
no_word_first (decremented (named name path) is) word reserved = not_free name word reserved
no_word_first (performed (without name before after)) word reserved = not_free name word reserved
no_word_first (performed (with_some name before e path after)) word reserved = not_free name word reserved
no_word_first (incremented_first is l) word reserved = absurd (grind arith)
no_word_first (decremented_first is l) word reserved = absurd (grind arith)

pub no_mark_first : {aliases : List (List ℕ)} {t : SimpleTree} {n : Token} {ts r : Tokens} {m : List ℕ} → IsSimple aliases t (n ∷ ts) r → IsMark m n → is_in (codes "++" ∷ codes "--" ∷ []) m ≡ false → ⊥
no_mark_first (assigned (named name path) is right) mark other = absurd (grind arith)
no_mark_first (adding (named name path) is e) mark other = absurd (grind arith)
no_mark_first (subtracting (named name path) is e) mark other = absurd (grind arith)
no_mark_first (incremented (named name path) is) mark other = absurd (grind arith)
no_mark_first (decremented (named name path) is) mark other = absurd (grind arith)
no_mark_first (performed (without name before after)) mark other = absurd (grind arith)
no_mark_first (performed (with_some name before e path after)) mark other = absurd (grind arith)
no_mark_first (incremented_first {mark = a} is l) mark other = conflict (codes "++" ∷ codes "--" ∷ []) a other mark.text (ap (is_in (codes "++" ∷ codes "--" ∷ [])) is.text)
no_mark_first (decremented_first {mark = a} is l) mark other = conflict (codes "++" ∷ codes "--" ∷ []) a other mark.text (ap (is_in (codes "++" ∷ codes "--" ∷ [])) is.text)

pub declares_no_simple : {aliases : List (List ℕ)} {d : DeclarationTree} {t : SimpleTree} {ts r s : Tokens} → IsDeclaration aliases d ts r → IsSimple aliases t ts s → ⊥
declares_no_simple (declared (int is) one path end) t = no_word_first t is refl
declares_no_simple (declared (tagged is name) one path end) t = no_word_first t is refl
declares_no_simple (declared (alias is) (bare (declarator (star mark) name)) path end) t = no_star_second t is.name mark
declares_no_simple (declared (alias is) (bare (declarator no_star name)) path end) t = no_name_second t is.name name
declares_no_simple (declared (alias is) (with_value (declarator (star mark) name) equals right) path end) t = no_star_second t is.name mark
declares_no_simple (declared (alias is) (with_value (declarator no_star name) equals right) path end) t = no_name_second t is.name name

pub declaration_no_mark : {aliases : List (List ℕ)} {d : DeclarationTree} {n : Token} {ts r : Tokens} {m : List ℕ} → IsDeclaration aliases d (n ∷ ts) r → IsMark m n → ⊥
declaration_no_mark (declared (int is) one path end) mark = absurd (grind arith)
declaration_no_mark (declared (tagged is name) one path end) mark = absurd (grind arith)
declaration_no_mark (declared (alias is) one path end) mark = absurd (let n = is.name in grind arith)

pub declaration_no_word : {aliases : List (List ℕ)} {d : DeclarationTree} {n : Token} {ts r : Tokens} {w : List ℕ} → IsDeclaration aliases d (n ∷ ts) r → IsWord w n → is_reserved w ≡ true → is_in (codes "int" ∷ codes "struct" ∷ []) w ≡ false → ⊥
declaration_no_word (declared (int {token = a} is) one path end) word reserved other = conflict (codes "int" ∷ codes "struct" ∷ []) a other word.text (ap (is_in (codes "int" ∷ codes "struct" ∷ [])) is.text)
declaration_no_word (declared (tagged {token = a} is name) one path end) word reserved other = conflict (codes "int" ∷ codes "struct" ∷ []) a other word.text (ap (is_in (codes "int" ∷ codes "struct" ∷ [])) is.text)
declaration_no_word (declared (alias is) one path end) word reserved other = not_free is.name word reserved

no_semicolon_sum : {e : Expr} {t : Token} {ts r : Tokens} → IsSum e (t ∷ ts) r → IsMark (codes ";") t → ⊥
no_semicolon_sum (sum_of (product (negative is inner) path) terms) mark = absurd (grind arith)
no_semicolon_sum (sum_of (product (numeral is) path) terms) mark = absurd (grind arith)
no_semicolon_sum (sum_of (product (null_word is) path) terms) mark = absurd (grind arith)
no_semicolon_sum (sum_of (product (input_call is one two) path) terms) mark = absurd (grind arith)
no_semicolon_sum (sum_of (product (variable (named is path')) path) terms) mark = absurd (grind arith)
no_semicolon_sum (sum_of (product (in_parens is inner two) path) terms) mark = absurd (grind arith)

no_semicolon : {c : Cond} {t : Token} {ts r : Tokens} → IsCondition c (t ∷ ts) r → IsMark (codes ";") t → ⊥
no_semicolon (any_of (all_of (plain_one e) path) eithers) mark = no_semicolon_sum e mark
no_semicolon (any_of (all_of (comparison e is e2) path) eithers) mark = no_semicolon_sum e mark
no_semicolon (any_of (all_of (negated (bang_bang is inner)) path) eithers) mark = absurd (grind arith)
no_semicolon (any_of (all_of (negated (bang_variable is l)) path) eithers) mark = absurd (grind arith)
no_semicolon (any_of (all_of (negated (bang_input is word one two)) path) eithers) mark = absurd (grind arith)
no_semicolon (any_of (all_of (negated (bang_parens is one inner two)) path) eithers) mark = absurd (grind arith)
no_semicolon (any_of (all_of (condition_parens is inner two proper) path) eithers) mark = absurd (grind arith)

started : {x y : DeclarationTree} {r s : Tokens} → Agree [] x r y s → Agree [] (declares x) r (declares y) s
started same = same
started (early {r = r} b) = absurd (never r b)
started (late {s = s} b) = absurd (never s b)

performing : {x y : SimpleTree} {a b : Token} {r s : Tokens} → Agree right_marks x (a ∷ r) y (b ∷ s) → IsMark (codes ";") a → IsMark (codes ";") b → Agree [] (performs x) r (performs y) s
performing same is is' = same
performing {a = a} (early so) is is' = absurd (conflict right_marks a refl is.text so)
performing {b = b} (late so) is is' = absurd (conflict right_marks b refl is'.text so)

pub one_start : {aliases : List (List ℕ)} {x y : Start} {ts r s : Tokens} → IsStart aliases x ts r → IsStart aliases y ts s → Agree [] x r y s
one_start (starts_empty is) (starts_empty is') = same
one_start (starts_empty is) (starts_declaring d) = absurd (declaration_no_mark d is)
one_start (starts_empty is) (starts_performing t is') = absurd (no_mark_first t is refl)
one_start (starts_declaring d) (starts_empty is) = absurd (declaration_no_mark d is)
one_start (starts_declaring d) (starts_declaring d') = started (one_declaration d d')
one_start (starts_declaring d) (starts_performing t is) = absurd (declares_no_simple d t)
one_start (starts_performing t is) (starts_empty is') = absurd (no_mark_first t is' refl)
one_start (starts_performing t is) (starts_declaring d) = absurd (declares_no_simple d t)
one_start (starts_performing t is) (starts_performing t' is') = performing (one_simple t t') is is'

maybe_condition : {x y : Cond} {a b : Token} {r s : Tokens} → Agree condition_marks x (a ∷ r) y (b ∷ s) → IsMark (codes ";") a → IsMark (codes ";") b → Agree [] (Some x) (a ∷ r) (Some y) (b ∷ s)
maybe_condition same is is' = same
maybe_condition {a = a} (early so) is is' = absurd (conflict condition_marks a refl is.text so)
maybe_condition {b = b} (late so) is is' = absurd (conflict condition_marks b refl is'.text so)

one_maybe_condition : {x y : Option Cond} {a b : Token} {ts r s : Tokens} → IsMaybeCondition x ts (a ∷ r) → IsMaybeCondition y ts (b ∷ s) → IsMark (codes ";") a → IsMark (codes ";") b → Agree [] x (a ∷ r) y (b ∷ s)
one_maybe_condition no_condition no_condition is is' = same
one_maybe_condition no_condition (condition c) is is' = absurd (no_semicolon c is)
one_maybe_condition (condition c) no_condition is is' = absurd (no_semicolon c is')
one_maybe_condition (condition c) (condition c') is is' = maybe_condition (one_condition c c') is is'

maybe_simple : {x y : SimpleTree} {a b : Token} {r s : Tokens} → Agree right_marks x (a ∷ r) y (b ∷ s) → IsMark (codes ")") a → IsMark (codes ")") b → Agree [] (Some x) (a ∷ r) (Some y) (b ∷ s)
maybe_simple same is is' = same
maybe_simple {a = a} (early so) is is' = absurd (conflict right_marks a refl is.text so)
maybe_simple {b = b} (late so) is is' = absurd (conflict right_marks b refl is'.text so)

one_maybe_simple : {aliases : List (List ℕ)} {x y : Option SimpleTree} {a b : Token} {ts r s : Tokens} → IsMaybeSimple aliases x ts (a ∷ r) → IsMaybeSimple aliases y ts (b ∷ s) → IsMark (codes ")") a → IsMark (codes ")") b → Agree [] x (a ∷ r) y (b ∷ s)
one_maybe_simple no_simple no_simple is is' = same
one_maybe_simple no_simple (some_simple t) is is' = absurd (no_mark_first t is refl)
one_maybe_simple (some_simple t) no_simple is is' = absurd (no_mark_first t is' refl)
one_maybe_simple (some_simple t) (some_simple t') is is' = maybe_simple (one_simple t t') is is'

head_ends : (place : Place) (start : Start) (c : Option Cond) {x y : Option SimpleTree} {a b : Token} {r s : Tokens} → Agree [] x (a ∷ r) y (b ∷ s) → Agree {X = Head} [] (record { place = place; start = start; condition = c; last = x }) r (record { place = place; start = start; condition = c; last = y }) s
head_ends place start c same = same
head_ends place start c (early {r = r} b) = absurd (never r b)
head_ends place start c (late {s = s} b) = absurd (never s b)

head_condition : {aliases : List (List ℕ)} (place : Place) (start : Start) {c d : Option Cond} {x y : Option SimpleTree} {p q a b : Token} {m n r s : Tokens} → Agree [] c (p ∷ m) d (q ∷ n) → IsMaybeSimple aliases x m (a ∷ r) → IsMaybeSimple aliases y n (b ∷ s) → IsMark (codes ")") a → IsMark (codes ")") b → Agree {X = Head} [] (record { place = place; start = start; condition = c; last = x }) r (record { place = place; start = start; condition = d; last = y }) s
head_condition place start {c = c} same last last' is is' = head_ends place start c (one_maybe_simple last last' is is')
head_condition place start (early {r = r} b) last last' is is' = absurd (never r b)
head_condition place start (late {s = s} b) last last' is is' = absurd (never s b)

head_start : {aliases : List (List ℕ)} (place : Place) {u v : Start} {c d : Option Cond} {x y : Option SimpleTree} {p q a b : Token} {k l m n r s : Tokens} → Agree [] u k v l → IsMaybeCondition c k (p ∷ m) → IsMaybeCondition d l (q ∷ n) → IsMark (codes ";") p → IsMark (codes ";") q → IsMaybeSimple aliases x m (a ∷ r) → IsMaybeSimple aliases y n (b ∷ s) → IsMark (codes ")") a → IsMark (codes ")") b → Agree {X = Head} [] (record { place = place; start = u; condition = c; last = x }) r (record { place = place; start = v; condition = d; last = y }) s
head_start place {u = u} same c d p q last last' is is' = head_condition place u (one_maybe_condition c d p q) last last' is is'
head_start place (early {r = r} b) c d p q last last' is is' = absurd (never r b)
head_start place (late {s = s} b) c d p q last last' is is' = absurd (never s b)

pub one_head : {aliases : List (List ℕ)} {x y : Head} {ts r s : Tokens} → IsHead aliases x ts r → IsHead aliases y ts s → Agree [] x r y s
one_head (head {word = word} is before start c semicolon last after) (head is' before' start' c' semicolon' last' after') = head_start word.place (one_start start start') c c' semicolon semicolon' last last' after after'

right_no_semicolon : {aliases : List (List ℕ)} {v : Right} {t : Token} {ts r : Tokens} → IsRight aliases v (t ∷ ts) r → IsMark (codes ";") t → ⊥
right_no_semicolon (sum e) mark = no_semicolon_sum e mark
right_no_semicolon (called (without name before after)) mark = absurd (grind arith)
right_no_semicolon (called (with_some name before e path after)) mark = absurd (grind arith)
right_no_semicolon (allocated no_cast word before size after) mark = absurd (grind arith)
right_no_semicolon (allocated (cast is base pointer two) word before size after) mark = absurd (grind arith)

no_brace : {aliases : List (List ℕ)} {s : Stmt} {t : Token} {ts r : Tokens} → IsStatement aliases s (t ∷ ts) r → IsMark (codes "}") t → ⊥
no_brace (declares_statement d) mark = declaration_no_mark d mark
no_brace (block_statement is path after) mark = absurd (grind arith)
no_brace (empty_statement is) mark = absurd (grind arith)
no_brace (simple_statement t semi) mark = no_mark_first t mark refl
no_brace (free_statement is before e after semi) mark = absurd (grind arith)
no_brace (assert_statement is before c after semi) mark = absurd (grind arith)
no_brace (assume_statement is before c after semi) mark = absurd (grind arith)
no_brace (assume_shape_statement is before predicate comma var path after semi) mark = absurd (grind arith)
no_brace (assert_shape_statement is before predicate comma one path after semi) mark = absurd (grind arith)
no_brace (assert_empty_statement is before after semi) mark = absurd (grind arith)
no_brace (if_statement is before c after st alone) mark = absurd (grind arith)
no_brace (if_else_statement is before c after st otherwise st2) mark = absurd (grind arith)
no_brace (while_statement is before c after st) mark = absurd (grind arith)
no_brace (do_statement is st again before c after semi) mark = absurd (grind arith)
no_brace (for_statement (head is before start c semi last after) st) mark = absurd (grind arith)
no_brace (break_statement is semi) mark = absurd (grind arith)
no_brace (continue_statement is semi) mark = absurd (grind arith)
no_brace (return_statement is semi) mark = absurd (grind arith)
no_brace (return_value is right semi) mark = absurd (grind arith)

not_alone : {x y : Stmt} {t : Token} {r s : Tokens} → Agree [] x r y (t ∷ s) → IsNoElse r → IsWord (codes "else") t → ⊥
not_alone same alone otherwise = alone otherwise
not_alone (early {r = r} b) alone otherwise = never r b
not_alone (late {s = s} b) alone otherwise = never s b

not_otherwise : {x y : Stmt} {t : Token} {r s : Tokens} → Agree [] x (t ∷ r) y s → IsWord (codes "else") t → IsNoElse s → ⊥
not_otherwise same otherwise alone = alone otherwise
not_otherwise (early {r = r} b) otherwise alone = never r b
not_otherwise (late {s = s} b) otherwise alone = never s b

brace_taken : {x y : List Stmt} {a b : Token} {r s : Tokens} → Agree [] x (a ∷ r) y (b ∷ s) → Agree [] x r y s
brace_taken same = same
brace_taken (early {r = r} b) = absurd (never r b)
brace_taken (late {s = s} b) = absurd (never s b)

kinds_differ : {t : Token} {m w : List ℕ} → IsMark m t → IsWord w t → ⊥
kinds_differ mark word = absurd (grind arith)

mutual
  -- a statement is spelled once
  pub one_statement : {aliases : List (List ℕ)} {x y : Stmt} {ts r s : Tokens} → IsStatement aliases x ts r → IsStatement aliases y ts s → Agree [] x r y s
  one_statement (declares_statement d) (declares_statement d') = lift declaration (one_declaration d d')
  one_statement (declares_statement d) (block_statement is' path' after') = absurd (declaration_no_mark d is')
  one_statement (declares_statement d) (empty_statement is') = absurd (declaration_no_mark d is')
  one_statement (declares_statement d) (simple_statement t' semi') = absurd (declares_no_simple d t')
  one_statement (declares_statement d) (free_statement is' before' e' after' semi') = absurd (declaration_no_word d is' refl refl)
  one_statement (declares_statement d) (assert_statement is' before' c' after' semi') = absurd (declaration_no_word d is' refl refl)
  one_statement (declares_statement d) (assume_statement is' before' c' after' semi') = absurd (declaration_no_word d is' refl refl)
  one_statement (declares_statement d) (assume_shape_statement is' before' predicate' comma' var' path' after' semi') = absurd (declaration_no_word d is' refl refl)
  one_statement (declares_statement d) (assert_shape_statement is' before' predicate' comma' one' path' after' semi') = absurd (declaration_no_word d is' refl refl)
  one_statement (declares_statement d) (assert_empty_statement is' before' after' semi') = absurd (declaration_no_word d is' refl refl)
  one_statement (declares_statement d) (if_statement is' before' c' after' st' alone') = absurd (declaration_no_word d is' refl refl)
  one_statement (declares_statement d) (if_else_statement is' before' c' after' st' otherwise' st2') = absurd (declaration_no_word d is' refl refl)
  one_statement (declares_statement d) (while_statement is' before' c' after' st') = absurd (declaration_no_word d is' refl refl)
  one_statement (declares_statement d) (do_statement is' st' again' before' c' after' semi') = absurd (declaration_no_word d is' refl refl)
  one_statement (declares_statement d) (for_statement (head is' before' start' c' semi' last' after') st') = absurd (declaration_no_word d is' refl refl)
  one_statement (declares_statement d) (break_statement is' semi') = absurd (declaration_no_word d is' refl refl)
  one_statement (declares_statement d) (continue_statement is' semi') = absurd (declaration_no_word d is' refl refl)
  one_statement (declares_statement d) (return_statement is' semi') = absurd (declaration_no_word d is' refl refl)
  one_statement (declares_statement d) (return_value is' right' semi') = absurd (declaration_no_word d is' refl refl)
  one_statement (block_statement is path after) (declares_statement d') = absurd (declaration_no_mark d' is)
  one_statement (block_statement {before = word} is path after) (block_statement is' path' after') = lift (λ ss. block word.place (stmts_of ss)) (brace_taken (one_statements path after path' after'))
  one_statement (block_statement is path after) (empty_statement is') = absurd (grind arith)
  one_statement (block_statement is path after) (simple_statement t' semi') = absurd (no_mark_first t' is refl)
  one_statement (block_statement is path after) (free_statement is' before' e' after' semi') = absurd (kinds_differ is is')
  one_statement (block_statement is path after) (assert_statement is' before' c' after' semi') = absurd (kinds_differ is is')
  one_statement (block_statement is path after) (assume_statement is' before' c' after' semi') = absurd (kinds_differ is is')
  one_statement (block_statement is path after) (assume_shape_statement is' before' predicate' comma' var' path' after' semi') = absurd (kinds_differ is is')
  one_statement (block_statement is path after) (assert_shape_statement is' before' predicate' comma' one' path' after' semi') = absurd (kinds_differ is is')
  one_statement (block_statement is path after) (assert_empty_statement is' before' after' semi') = absurd (kinds_differ is is')
  one_statement (block_statement is path after) (if_statement is' before' c' after' st' alone') = absurd (kinds_differ is is')
  one_statement (block_statement is path after) (if_else_statement is' before' c' after' st' otherwise' st2') = absurd (kinds_differ is is')
  one_statement (block_statement is path after) (while_statement is' before' c' after' st') = absurd (kinds_differ is is')
  one_statement (block_statement is path after) (do_statement is' st' again' before' c' after' semi') = absurd (kinds_differ is is')
  one_statement (block_statement is path after) (for_statement (head is' before' start' c' semi' last' after') st') = absurd (kinds_differ is is')
  one_statement (block_statement is path after) (break_statement is' semi') = absurd (kinds_differ is is')
  one_statement (block_statement is path after) (continue_statement is' semi') = absurd (kinds_differ is is')
  one_statement (block_statement is path after) (return_statement is' semi') = absurd (kinds_differ is is')
  one_statement (block_statement is path after) (return_value is' right' semi') = absurd (kinds_differ is is')
  one_statement (empty_statement is) (declares_statement d') = absurd (declaration_no_mark d' is)
  one_statement (empty_statement is) (block_statement is' path' after') = absurd (grind arith)
  one_statement (empty_statement is) (empty_statement is') = same
  one_statement (empty_statement is) (simple_statement t' semi') = absurd (no_mark_first t' is refl)
  one_statement (empty_statement is) (free_statement is' before' e' after' semi') = absurd (kinds_differ is is')
  one_statement (empty_statement is) (assert_statement is' before' c' after' semi') = absurd (kinds_differ is is')
  one_statement (empty_statement is) (assume_statement is' before' c' after' semi') = absurd (kinds_differ is is')
  one_statement (empty_statement is) (assume_shape_statement is' before' predicate' comma' var' path' after' semi') = absurd (kinds_differ is is')
  one_statement (empty_statement is) (assert_shape_statement is' before' predicate' comma' one' path' after' semi') = absurd (kinds_differ is is')
  one_statement (empty_statement is) (assert_empty_statement is' before' after' semi') = absurd (kinds_differ is is')
  one_statement (empty_statement is) (if_statement is' before' c' after' st' alone') = absurd (kinds_differ is is')
  one_statement (empty_statement is) (if_else_statement is' before' c' after' st' otherwise' st2') = absurd (kinds_differ is is')
  one_statement (empty_statement is) (while_statement is' before' c' after' st') = absurd (kinds_differ is is')
  one_statement (empty_statement is) (do_statement is' st' again' before' c' after' semi') = absurd (kinds_differ is is')
  one_statement (empty_statement is) (for_statement (head is' before' start' c' semi' last' after') st') = absurd (kinds_differ is is')
  one_statement (empty_statement is) (break_statement is' semi') = absurd (kinds_differ is is')
  one_statement (empty_statement is) (continue_statement is' semi') = absurd (kinds_differ is is')
  one_statement (empty_statement is) (return_statement is' semi') = absurd (kinds_differ is is')
  one_statement (empty_statement is) (return_value is' right' semi') = absurd (kinds_differ is is')
  one_statement (simple_statement t semi) (declares_statement d') = absurd (declares_no_simple d' t)
  one_statement (simple_statement t semi) (block_statement is' path' after') = absurd (no_mark_first t is' refl)
  one_statement (simple_statement t semi) (empty_statement is') = absurd (no_mark_first t is' refl)
  one_statement (simple_statement t semi) (simple_statement t' semi') = close_one right_marks simple refl semi semi' (one_simple t t')
  one_statement (simple_statement t semi) (free_statement is' before' e' after' semi') = absurd (no_word_first t is' refl)
  one_statement (simple_statement t semi) (assert_statement is' before' c' after' semi') = absurd (no_word_first t is' refl)
  one_statement (simple_statement t semi) (assume_statement is' before' c' after' semi') = absurd (no_word_first t is' refl)
  one_statement (simple_statement t semi) (assume_shape_statement is' before' predicate' comma' var' path' after' semi') = absurd (no_word_first t is' refl)
  one_statement (simple_statement t semi) (assert_shape_statement is' before' predicate' comma' one' path' after' semi') = absurd (no_word_first t is' refl)
  one_statement (simple_statement t semi) (assert_empty_statement is' before' after' semi') = absurd (no_word_first t is' refl)
  one_statement (simple_statement t semi) (if_statement is' before' c' after' st' alone') = absurd (no_word_first t is' refl)
  one_statement (simple_statement t semi) (if_else_statement is' before' c' after' st' otherwise' st2') = absurd (no_word_first t is' refl)
  one_statement (simple_statement t semi) (while_statement is' before' c' after' st') = absurd (no_word_first t is' refl)
  one_statement (simple_statement t semi) (do_statement is' st' again' before' c' after' semi') = absurd (no_word_first t is' refl)
  one_statement (simple_statement t semi) (for_statement (head is' before' start' c' semi' last' after') st') = absurd (no_word_first t is' refl)
  one_statement (simple_statement t semi) (break_statement is' semi') = absurd (no_word_first t is' refl)
  one_statement (simple_statement t semi) (continue_statement is' semi') = absurd (no_word_first t is' refl)
  one_statement (simple_statement t semi) (return_statement is' semi') = absurd (no_word_first t is' refl)
  one_statement (simple_statement t semi) (return_value is' right' semi') = absurd (no_word_first t is' refl)
  one_statement (free_statement is before e after semi) (declares_statement d') = absurd (declaration_no_word d' is refl refl)
  one_statement (free_statement is before e after semi) (block_statement is' path' after') = absurd (kinds_differ is' is)
  one_statement (free_statement is before e after semi) (empty_statement is') = absurd (kinds_differ is' is)
  one_statement (free_statement is before e after semi) (simple_statement t' semi') = absurd (no_word_first t' is refl)
  one_statement (free_statement {word = word} is before e after semi) (free_statement is' before' e' after' semi') = close_two sum_marks (free word.place) refl after after' (one_sum e e')
  one_statement (free_statement is before e after semi) (assert_statement is' before' c' after' semi') = absurd (grind arith)
  one_statement (free_statement is before e after semi) (assume_statement is' before' c' after' semi') = absurd (grind arith)
  one_statement (free_statement is before e after semi) (assume_shape_statement is' before' predicate' comma' var' path' after' semi') = absurd (grind arith)
  one_statement (free_statement is before e after semi) (assert_shape_statement is' before' predicate' comma' one' path' after' semi') = absurd (grind arith)
  one_statement (free_statement is before e after semi) (assert_empty_statement is' before' after' semi') = absurd (grind arith)
  one_statement (free_statement is before e after semi) (if_statement is' before' c' after' st' alone') = absurd (grind arith)
  one_statement (free_statement is before e after semi) (if_else_statement is' before' c' after' st' otherwise' st2') = absurd (grind arith)
  one_statement (free_statement is before e after semi) (while_statement is' before' c' after' st') = absurd (grind arith)
  one_statement (free_statement is before e after semi) (do_statement is' st' again' before' c' after' semi') = absurd (grind arith)
  one_statement (free_statement is before e after semi) (for_statement (head is' before' start' c' semi' last' after') st') = absurd (grind arith)
  one_statement (free_statement is before e after semi) (break_statement is' semi') = absurd (grind arith)
  one_statement (free_statement is before e after semi) (continue_statement is' semi') = absurd (grind arith)
  one_statement (free_statement is before e after semi) (return_statement is' semi') = absurd (grind arith)
  one_statement (free_statement is before e after semi) (return_value is' right' semi') = absurd (grind arith)
  one_statement (assert_statement is before c after semi) (declares_statement d') = absurd (declaration_no_word d' is refl refl)
  one_statement (assert_statement is before c after semi) (block_statement is' path' after') = absurd (kinds_differ is' is)
  one_statement (assert_statement is before c after semi) (empty_statement is') = absurd (kinds_differ is' is)
  one_statement (assert_statement is before c after semi) (simple_statement t' semi') = absurd (no_word_first t' is refl)
  one_statement (assert_statement is before c after semi) (free_statement is' before' e' after' semi') = absurd (grind arith)
  one_statement (assert_statement {word = word} is before c after semi) (assert_statement is' before' c' after' semi') = close_two condition_marks (assert word.place) refl after after' (one_condition c c')
  one_statement (assert_statement is before c after semi) (assume_statement is' before' c' after' semi') = absurd (grind arith)
  one_statement (assert_statement is before c after semi) (assume_shape_statement is' before' predicate' comma' var' path' after' semi') = absurd (grind arith)
  one_statement (assert_statement is before c after semi) (assert_shape_statement is' before' predicate' comma' one' path' after' semi') = absurd (grind arith)
  one_statement (assert_statement is before c after semi) (assert_empty_statement is' before' after' semi') = absurd (grind arith)
  one_statement (assert_statement is before c after semi) (if_statement is' before' c' after' st' alone') = absurd (grind arith)
  one_statement (assert_statement is before c after semi) (if_else_statement is' before' c' after' st' otherwise' st2') = absurd (grind arith)
  one_statement (assert_statement is before c after semi) (while_statement is' before' c' after' st') = absurd (grind arith)
  one_statement (assert_statement is before c after semi) (do_statement is' st' again' before' c' after' semi') = absurd (grind arith)
  one_statement (assert_statement is before c after semi) (for_statement (head is' before' start' c' semi' last' after') st') = absurd (grind arith)
  one_statement (assert_statement is before c after semi) (break_statement is' semi') = absurd (grind arith)
  one_statement (assert_statement is before c after semi) (continue_statement is' semi') = absurd (grind arith)
  one_statement (assert_statement is before c after semi) (return_statement is' semi') = absurd (grind arith)
  one_statement (assert_statement is before c after semi) (return_value is' right' semi') = absurd (grind arith)
  one_statement (assume_statement is before c after semi) (declares_statement d') = absurd (declaration_no_word d' is refl refl)
  one_statement (assume_statement is before c after semi) (block_statement is' path' after') = absurd (kinds_differ is' is)
  one_statement (assume_statement is before c after semi) (empty_statement is') = absurd (kinds_differ is' is)
  one_statement (assume_statement is before c after semi) (simple_statement t' semi') = absurd (no_word_first t' is refl)
  one_statement (assume_statement is before c after semi) (free_statement is' before' e' after' semi') = absurd (grind arith)
  one_statement (assume_statement is before c after semi) (assert_statement is' before' c' after' semi') = absurd (grind arith)
  one_statement (assume_statement {word = word} is before c after semi) (assume_statement is' before' c' after' semi') = close_two condition_marks (assume word.place) refl after after' (one_condition c c')
  one_statement (assume_statement is before c after semi) (assume_shape_statement is' before' predicate' comma' var' path' after' semi') = absurd (grind arith)
  one_statement (assume_statement is before c after semi) (assert_shape_statement is' before' predicate' comma' one' path' after' semi') = absurd (grind arith)
  one_statement (assume_statement is before c after semi) (assert_empty_statement is' before' after' semi') = absurd (grind arith)
  one_statement (assume_statement is before c after semi) (if_statement is' before' c' after' st' alone') = absurd (grind arith)
  one_statement (assume_statement is before c after semi) (if_else_statement is' before' c' after' st' otherwise' st2') = absurd (grind arith)
  one_statement (assume_statement is before c after semi) (while_statement is' before' c' after' st') = absurd (grind arith)
  one_statement (assume_statement is before c after semi) (do_statement is' st' again' before' c' after' semi') = absurd (grind arith)
  one_statement (assume_statement is before c after semi) (for_statement (head is' before' start' c' semi' last' after') st') = absurd (grind arith)
  one_statement (assume_statement is before c after semi) (break_statement is' semi') = absurd (grind arith)
  one_statement (assume_statement is before c after semi) (continue_statement is' semi') = absurd (grind arith)
  one_statement (assume_statement is before c after semi) (return_statement is' semi') = absurd (grind arith)
  one_statement (assume_statement is before c after semi) (return_value is' right' semi') = absurd (grind arith)
  one_statement (assume_shape_statement is before predicate comma var path after semi) (declares_statement d') = absurd (declaration_no_word d' is refl refl)
  one_statement (assume_shape_statement is before predicate comma var path after semi) (block_statement is' path' after') = absurd (kinds_differ is' is)
  one_statement (assume_shape_statement is before predicate comma var path after semi) (empty_statement is') = absurd (kinds_differ is' is)
  one_statement (assume_shape_statement is before predicate comma var path after semi) (simple_statement t' semi') = absurd (no_word_first t' is refl)
  one_statement (assume_shape_statement is before predicate comma var path after semi) (free_statement is' before' e' after' semi') = absurd (grind arith)
  one_statement (assume_shape_statement is before predicate comma var path after semi) (assert_statement is' before' c' after' semi') = absurd (grind arith)
  one_statement (assume_shape_statement is before predicate comma var path after semi) (assume_statement is' before' c' after' semi') = absurd (grind arith)
  one_statement (assume_shape_statement {word = word} {predicate = p} {variable = v} is before predicate comma var path after semi) (assume_shape_statement is' before' predicate' comma' var' path' after' semi') = close_two (codes "," ∷ []) (assume_shape word.place (name_of p) (name_of v)) refl after after' (one_arguments path path')
  one_statement (assume_shape_statement is before predicate comma var path after semi) (assert_shape_statement is' before' predicate' comma' one' path' after' semi') = absurd (grind arith)
  one_statement (assume_shape_statement is before predicate comma var path after semi) (assert_empty_statement is' before' after' semi') = absurd (grind arith)
  one_statement (assume_shape_statement is before predicate comma var path after semi) (if_statement is' before' c' after' st' alone') = absurd (grind arith)
  one_statement (assume_shape_statement is before predicate comma var path after semi) (if_else_statement is' before' c' after' st' otherwise' st2') = absurd (grind arith)
  one_statement (assume_shape_statement is before predicate comma var path after semi) (while_statement is' before' c' after' st') = absurd (grind arith)
  one_statement (assume_shape_statement is before predicate comma var path after semi) (do_statement is' st' again' before' c' after' semi') = absurd (grind arith)
  one_statement (assume_shape_statement is before predicate comma var path after semi) (for_statement (head is' before' start' c' semi' last' after') st') = absurd (grind arith)
  one_statement (assume_shape_statement is before predicate comma var path after semi) (break_statement is' semi') = absurd (grind arith)
  one_statement (assume_shape_statement is before predicate comma var path after semi) (continue_statement is' semi') = absurd (grind arith)
  one_statement (assume_shape_statement is before predicate comma var path after semi) (return_statement is' semi') = absurd (grind arith)
  one_statement (assume_shape_statement is before predicate comma var path after semi) (return_value is' right' semi') = absurd (grind arith)
  one_statement (assert_shape_statement is before predicate comma one path after semi) (declares_statement d') = absurd (declaration_no_word d' is refl refl)
  one_statement (assert_shape_statement is before predicate comma one path after semi) (block_statement is' path' after') = absurd (kinds_differ is' is)
  one_statement (assert_shape_statement is before predicate comma one path after semi) (empty_statement is') = absurd (kinds_differ is' is)
  one_statement (assert_shape_statement is before predicate comma one path after semi) (simple_statement t' semi') = absurd (no_word_first t' is refl)
  one_statement (assert_shape_statement is before predicate comma one path after semi) (free_statement is' before' e' after' semi') = absurd (grind arith)
  one_statement (assert_shape_statement is before predicate comma one path after semi) (assert_statement is' before' c' after' semi') = absurd (grind arith)
  one_statement (assert_shape_statement is before predicate comma one path after semi) (assume_statement is' before' c' after' semi') = absurd (grind arith)
  one_statement (assert_shape_statement is before predicate comma one path after semi) (assume_shape_statement is' before' predicate' comma' var' path' after' semi') = absurd (grind arith)
  one_statement {aliases} (assert_shape_statement {a = one_tree} {args = all} {word = word} {predicate = p} {rest = rest} is before predicate comma one path after semi) (assert_shape_statement {args = args'} {after = close'} {semicolon = last'} {rest = rest'} is' before' predicate' comma' one' path' after' semi') = agree_all (λ a mid. MoreArguments [] mid args' (close' ∷ last' ∷ rest')) (λ a mid. Agree [] (assert_shape word.place (name_of p) one_tree all) rest (assert_shape word.place (name_of p) a args') rest') (one_argument one one')
      (λ q. close_two (codes "," ∷ []) (assert_shape word.place (name_of p) one_tree) refl after after' (one_arguments path q)) path'
  one_statement (assert_shape_statement is before predicate comma one path after semi) (assert_empty_statement is' before' after' semi') = absurd (grind arith)
  one_statement (assert_shape_statement is before predicate comma one path after semi) (if_statement is' before' c' after' st' alone') = absurd (grind arith)
  one_statement (assert_shape_statement is before predicate comma one path after semi) (if_else_statement is' before' c' after' st' otherwise' st2') = absurd (grind arith)
  one_statement (assert_shape_statement is before predicate comma one path after semi) (while_statement is' before' c' after' st') = absurd (grind arith)
  one_statement (assert_shape_statement is before predicate comma one path after semi) (do_statement is' st' again' before' c' after' semi') = absurd (grind arith)
  one_statement (assert_shape_statement is before predicate comma one path after semi) (for_statement (head is' before' start' c' semi' last' after') st') = absurd (grind arith)
  one_statement (assert_shape_statement is before predicate comma one path after semi) (break_statement is' semi') = absurd (grind arith)
  one_statement (assert_shape_statement is before predicate comma one path after semi) (continue_statement is' semi') = absurd (grind arith)
  one_statement (assert_shape_statement is before predicate comma one path after semi) (return_statement is' semi') = absurd (grind arith)
  one_statement (assert_shape_statement is before predicate comma one path after semi) (return_value is' right' semi') = absurd (grind arith)
  one_statement (assert_empty_statement is before after semi) (declares_statement d') = absurd (declaration_no_word d' is refl refl)
  one_statement (assert_empty_statement is before after semi) (block_statement is' path' after') = absurd (kinds_differ is' is)
  one_statement (assert_empty_statement is before after semi) (empty_statement is') = absurd (kinds_differ is' is)
  one_statement (assert_empty_statement is before after semi) (simple_statement t' semi') = absurd (no_word_first t' is refl)
  one_statement (assert_empty_statement is before after semi) (free_statement is' before' e' after' semi') = absurd (grind arith)
  one_statement (assert_empty_statement is before after semi) (assert_statement is' before' c' after' semi') = absurd (grind arith)
  one_statement (assert_empty_statement is before after semi) (assume_statement is' before' c' after' semi') = absurd (grind arith)
  one_statement (assert_empty_statement is before after semi) (assume_shape_statement is' before' predicate' comma' var' path' after' semi') = absurd (grind arith)
  one_statement (assert_empty_statement is before after semi) (assert_shape_statement is' before' predicate' comma' one' path' after' semi') = absurd (grind arith)
  one_statement (assert_empty_statement is before after semi) (assert_empty_statement is' before' after' semi') = same
  one_statement (assert_empty_statement is before after semi) (if_statement is' before' c' after' st' alone') = absurd (grind arith)
  one_statement (assert_empty_statement is before after semi) (if_else_statement is' before' c' after' st' otherwise' st2') = absurd (grind arith)
  one_statement (assert_empty_statement is before after semi) (while_statement is' before' c' after' st') = absurd (grind arith)
  one_statement (assert_empty_statement is before after semi) (do_statement is' st' again' before' c' after' semi') = absurd (grind arith)
  one_statement (assert_empty_statement is before after semi) (for_statement (head is' before' start' c' semi' last' after') st') = absurd (grind arith)
  one_statement (assert_empty_statement is before after semi) (break_statement is' semi') = absurd (grind arith)
  one_statement (assert_empty_statement is before after semi) (continue_statement is' semi') = absurd (grind arith)
  one_statement (assert_empty_statement is before after semi) (return_statement is' semi') = absurd (grind arith)
  one_statement (assert_empty_statement is before after semi) (return_value is' right' semi') = absurd (grind arith)
  one_statement (if_statement is before c after st alone) (declares_statement d') = absurd (declaration_no_word d' is refl refl)
  one_statement (if_statement is before c after st alone) (block_statement is' path' after') = absurd (kinds_differ is' is)
  one_statement (if_statement is before c after st alone) (empty_statement is') = absurd (kinds_differ is' is)
  one_statement (if_statement is before c after st alone) (simple_statement t' semi') = absurd (no_word_first t' is refl)
  one_statement (if_statement is before c after st alone) (free_statement is' before' e' after' semi') = absurd (grind arith)
  one_statement (if_statement is before c after st alone) (assert_statement is' before' c' after' semi') = absurd (grind arith)
  one_statement (if_statement is before c after st alone) (assume_statement is' before' c' after' semi') = absurd (grind arith)
  one_statement (if_statement is before c after st alone) (assume_shape_statement is' before' predicate' comma' var' path' after' semi') = absurd (grind arith)
  one_statement (if_statement is before c after st alone) (assert_shape_statement is' before' predicate' comma' one' path' after' semi') = absurd (grind arith)
  one_statement (if_statement is before c after st alone) (assert_empty_statement is' before' after' semi') = absurd (grind arith)
  one_statement {aliases} (if_statement {c = cond} {s = inner} {word = word} {rest = rest} is before c after st alone) (if_statement {s = inner'} {rest = rest'} is' before' c' after' st' alone') = agree_at condition_marks (λ d. Behind (λ mid. IsStatement aliases inner' mid rest')) (λ d mid. Agree [] (if_only word.place cond inner) rest (if_only word.place d inner') rest') refl after after' (one_condition c c')
      (λ q. lift (if_only word.place cond) (one_statement st q)) st'
  one_statement {aliases} (if_statement is before c after st alone) (if_else_statement {s = first'} {otherwise = mark'} {behind = behind'} is' before' c' after' st' otherwise' st2') =
      absurd (agree_at condition_marks (λ d. Behind (λ mid. IsStatement aliases first' mid (mark' ∷ behind'))) (λ d mid. ⊥) refl after after' (one_condition c c')
      (λ q. not_alone (one_statement st q) alone otherwise') st')
  one_statement (if_statement is before c after st alone) (while_statement is' before' c' after' st') = absurd (grind arith)
  one_statement (if_statement is before c after st alone) (do_statement is' st' again' before' c' after' semi') = absurd (grind arith)
  one_statement (if_statement is before c after st alone) (for_statement (head is' before' start' c' semi' last' after') st') = absurd (grind arith)
  one_statement (if_statement is before c after st alone) (break_statement is' semi') = absurd (grind arith)
  one_statement (if_statement is before c after st alone) (continue_statement is' semi') = absurd (grind arith)
  one_statement (if_statement is before c after st alone) (return_statement is' semi') = absurd (grind arith)
  one_statement (if_statement is before c after st alone) (return_value is' right' semi') = absurd (grind arith)
  one_statement (if_else_statement is before c after st otherwise st2) (declares_statement d') = absurd (declaration_no_word d' is refl refl)
  one_statement (if_else_statement is before c after st otherwise st2) (block_statement is' path' after') = absurd (kinds_differ is' is)
  one_statement (if_else_statement is before c after st otherwise st2) (empty_statement is') = absurd (kinds_differ is' is)
  one_statement (if_else_statement is before c after st otherwise st2) (simple_statement t' semi') = absurd (no_word_first t' is refl)
  one_statement (if_else_statement is before c after st otherwise st2) (free_statement is' before' e' after' semi') = absurd (grind arith)
  one_statement (if_else_statement is before c after st otherwise st2) (assert_statement is' before' c' after' semi') = absurd (grind arith)
  one_statement (if_else_statement is before c after st otherwise st2) (assume_statement is' before' c' after' semi') = absurd (grind arith)
  one_statement (if_else_statement is before c after st otherwise st2) (assume_shape_statement is' before' predicate' comma' var' path' after' semi') = absurd (grind arith)
  one_statement (if_else_statement is before c after st otherwise st2) (assert_shape_statement is' before' predicate' comma' one' path' after' semi') = absurd (grind arith)
  one_statement (if_else_statement is before c after st otherwise st2) (assert_empty_statement is' before' after' semi') = absurd (grind arith)
  one_statement {aliases} (if_else_statement is before c after st otherwise st2) (if_statement {s = first'} {rest = rest'} is' before' c' after' st' alone') =
      absurd (agree_at condition_marks (λ d. Behind (λ mid. IsStatement aliases first' mid rest')) (λ d mid. ⊥) refl after after' (one_condition c c')
      (λ q. not_otherwise (one_statement st q) otherwise alone') st')
  one_statement {aliases} (if_else_statement {c = cond} {s = first_tree} {t = second_tree} {word = word} {rest = rest} is before c after st otherwise st2) (if_else_statement {s = first'} {t = second'} {otherwise = mark'} {behind = behind'} {rest = rest'} is' before' c' after' st' otherwise' st2') =
      agree_at condition_marks (λ d. Behind (λ mid. IsStatement aliases first' mid (mark' ∷ behind'))) (λ d mid. Agree [] (if_else word.place cond first_tree second_tree) rest (if_else word.place d first' second') rest') refl after after' (one_condition c c')
      (λ q. agree_all (λ t. Behind (λ mid. IsStatement aliases second' mid rest')) (λ t mid. Agree [] (if_else word.place cond first_tree second_tree) rest (if_else word.place cond t second') rest') (one_statement st q)
      (λ w. lift (if_else word.place cond first_tree) (one_statement st2 w)) st2')
      st'
  one_statement (if_else_statement is before c after st otherwise st2) (while_statement is' before' c' after' st') = absurd (grind arith)
  one_statement (if_else_statement is before c after st otherwise st2) (do_statement is' st' again' before' c' after' semi') = absurd (grind arith)
  one_statement (if_else_statement is before c after st otherwise st2) (for_statement (head is' before' start' c' semi' last' after') st') = absurd (grind arith)
  one_statement (if_else_statement is before c after st otherwise st2) (break_statement is' semi') = absurd (grind arith)
  one_statement (if_else_statement is before c after st otherwise st2) (continue_statement is' semi') = absurd (grind arith)
  one_statement (if_else_statement is before c after st otherwise st2) (return_statement is' semi') = absurd (grind arith)
  one_statement (if_else_statement is before c after st otherwise st2) (return_value is' right' semi') = absurd (grind arith)
  one_statement (while_statement is before c after st) (declares_statement d') = absurd (declaration_no_word d' is refl refl)
  one_statement (while_statement is before c after st) (block_statement is' path' after') = absurd (kinds_differ is' is)
  one_statement (while_statement is before c after st) (empty_statement is') = absurd (kinds_differ is' is)
  one_statement (while_statement is before c after st) (simple_statement t' semi') = absurd (no_word_first t' is refl)
  one_statement (while_statement is before c after st) (free_statement is' before' e' after' semi') = absurd (grind arith)
  one_statement (while_statement is before c after st) (assert_statement is' before' c' after' semi') = absurd (grind arith)
  one_statement (while_statement is before c after st) (assume_statement is' before' c' after' semi') = absurd (grind arith)
  one_statement (while_statement is before c after st) (assume_shape_statement is' before' predicate' comma' var' path' after' semi') = absurd (grind arith)
  one_statement (while_statement is before c after st) (assert_shape_statement is' before' predicate' comma' one' path' after' semi') = absurd (grind arith)
  one_statement (while_statement is before c after st) (assert_empty_statement is' before' after' semi') = absurd (grind arith)
  one_statement (while_statement is before c after st) (if_statement is' before' c' after' st' alone') = absurd (grind arith)
  one_statement (while_statement is before c after st) (if_else_statement is' before' c' after' st' otherwise' st2') = absurd (grind arith)
  one_statement {aliases} (while_statement {c = cond} {s = inner} {word = word} {rest = rest} is before c after st) (while_statement {s = inner'} {rest = rest'} is' before' c' after' st') = agree_at condition_marks (λ d. Behind (λ mid. IsStatement aliases inner' mid rest')) (λ d mid. Agree [] (while_loop word.place cond inner) rest (while_loop word.place d inner') rest') refl after after' (one_condition c c')
      (λ q. lift (while_loop word.place cond) (one_statement st q)) st'
  one_statement (while_statement is before c after st) (do_statement is' st' again' before' c' after' semi') = absurd (grind arith)
  one_statement (while_statement is before c after st) (for_statement (head is' before' start' c' semi' last' after') st') = absurd (grind arith)
  one_statement (while_statement is before c after st) (break_statement is' semi') = absurd (grind arith)
  one_statement (while_statement is before c after st) (continue_statement is' semi') = absurd (grind arith)
  one_statement (while_statement is before c after st) (return_statement is' semi') = absurd (grind arith)
  one_statement (while_statement is before c after st) (return_value is' right' semi') = absurd (grind arith)
  one_statement (do_statement is st again before c after semi) (declares_statement d') = absurd (declaration_no_word d' is refl refl)
  one_statement (do_statement is st again before c after semi) (block_statement is' path' after') = absurd (kinds_differ is' is)
  one_statement (do_statement is st again before c after semi) (empty_statement is') = absurd (kinds_differ is' is)
  one_statement (do_statement is st again before c after semi) (simple_statement t' semi') = absurd (no_word_first t' is refl)
  one_statement (do_statement is st again before c after semi) (free_statement is' before' e' after' semi') = absurd (grind arith)
  one_statement (do_statement is st again before c after semi) (assert_statement is' before' c' after' semi') = absurd (grind arith)
  one_statement (do_statement is st again before c after semi) (assume_statement is' before' c' after' semi') = absurd (grind arith)
  one_statement (do_statement is st again before c after semi) (assume_shape_statement is' before' predicate' comma' var' path' after' semi') = absurd (grind arith)
  one_statement (do_statement is st again before c after semi) (assert_shape_statement is' before' predicate' comma' one' path' after' semi') = absurd (grind arith)
  one_statement (do_statement is st again before c after semi) (assert_empty_statement is' before' after' semi') = absurd (grind arith)
  one_statement (do_statement is st again before c after semi) (if_statement is' before' c' after' st' alone') = absurd (grind arith)
  one_statement (do_statement is st again before c after semi) (if_else_statement is' before' c' after' st' otherwise' st2') = absurd (grind arith)
  one_statement (do_statement is st again before c after semi) (while_statement is' before' c' after' st') = absurd (grind arith)
  one_statement {aliases} (do_statement {c = cond} {s = inner} {word = word} {rest = rest} is st again before c after semi) (do_statement {c = cond'} {after = close'} {semicolon = last'} {rest = rest'} is' st' again' before' c' after' semi') = agree_all (λ t. Behind (Behind (λ mid. IsCondition cond' mid (close' ∷ last' ∷ rest')))) (λ t mid. Agree [] (do_loop word.place inner cond) rest (do_loop word.place t cond') rest') (one_statement st st')
      (λ q. close_two condition_marks (do_loop word.place inner) refl after after' (one_condition c q)) c'
  one_statement (do_statement is st again before c after semi) (for_statement (head is' before' start' c' semi' last' after') st') = absurd (grind arith)
  one_statement (do_statement is st again before c after semi) (break_statement is' semi') = absurd (grind arith)
  one_statement (do_statement is st again before c after semi) (continue_statement is' semi') = absurd (grind arith)
  one_statement (do_statement is st again before c after semi) (return_statement is' semi') = absurd (grind arith)
  one_statement (do_statement is st again before c after semi) (return_value is' right' semi') = absurd (grind arith)
  one_statement (for_statement (head is before start c semi last after) st) (declares_statement d') = absurd (declaration_no_word d' is refl refl)
  one_statement (for_statement (head is before start c semi last after) st) (block_statement is' path' after') = absurd (kinds_differ is' is)
  one_statement (for_statement (head is before start c semi last after) st) (empty_statement is') = absurd (kinds_differ is' is)
  one_statement (for_statement (head is before start c semi last after) st) (simple_statement t' semi') = absurd (no_word_first t' is refl)
  one_statement (for_statement (head is before start c semi last after) st) (free_statement is' before' e' after' semi') = absurd (grind arith)
  one_statement (for_statement (head is before start c semi last after) st) (assert_statement is' before' c' after' semi') = absurd (grind arith)
  one_statement (for_statement (head is before start c semi last after) st) (assume_statement is' before' c' after' semi') = absurd (grind arith)
  one_statement (for_statement (head is before start c semi last after) st) (assume_shape_statement is' before' predicate' comma' var' path' after' semi') = absurd (grind arith)
  one_statement (for_statement (head is before start c semi last after) st) (assert_shape_statement is' before' predicate' comma' one' path' after' semi') = absurd (grind arith)
  one_statement (for_statement (head is before start c semi last after) st) (assert_empty_statement is' before' after' semi') = absurd (grind arith)
  one_statement (for_statement (head is before start c semi last after) st) (if_statement is' before' c' after' st' alone') = absurd (grind arith)
  one_statement (for_statement (head is before start c semi last after) st) (if_else_statement is' before' c' after' st' otherwise' st2') = absurd (grind arith)
  one_statement (for_statement (head is before start c semi last after) st) (while_statement is' before' c' after' st') = absurd (grind arith)
  one_statement (for_statement (head is before start c semi last after) st) (do_statement is' st' again' before' c' after' semi') = absurd (grind arith)
  one_statement {aliases} (for_statement {h = h} {s = inner} {rest = rest} at st) (for_statement {s = inner'} {rest = rest'} at' st') =
      agree_all (λ g mid. IsStatement aliases inner' mid rest') (λ g mid. Agree [] (for_loop h inner) rest (for_loop g inner') rest') (one_head at at')
      (λ q. lift (for_loop h) (one_statement st q)) st'
  one_statement (for_statement (head is before start c semi last after) st) (break_statement is' semi') = absurd (grind arith)
  one_statement (for_statement (head is before start c semi last after) st) (continue_statement is' semi') = absurd (grind arith)
  one_statement (for_statement (head is before start c semi last after) st) (return_statement is' semi') = absurd (grind arith)
  one_statement (for_statement (head is before start c semi last after) st) (return_value is' right' semi') = absurd (grind arith)
  one_statement (break_statement is semi) (declares_statement d') = absurd (declaration_no_word d' is refl refl)
  one_statement (break_statement is semi) (block_statement is' path' after') = absurd (kinds_differ is' is)
  one_statement (break_statement is semi) (empty_statement is') = absurd (kinds_differ is' is)
  one_statement (break_statement is semi) (simple_statement t' semi') = absurd (no_word_first t' is refl)
  one_statement (break_statement is semi) (free_statement is' before' e' after' semi') = absurd (grind arith)
  one_statement (break_statement is semi) (assert_statement is' before' c' after' semi') = absurd (grind arith)
  one_statement (break_statement is semi) (assume_statement is' before' c' after' semi') = absurd (grind arith)
  one_statement (break_statement is semi) (assume_shape_statement is' before' predicate' comma' var' path' after' semi') = absurd (grind arith)
  one_statement (break_statement is semi) (assert_shape_statement is' before' predicate' comma' one' path' after' semi') = absurd (grind arith)
  one_statement (break_statement is semi) (assert_empty_statement is' before' after' semi') = absurd (grind arith)
  one_statement (break_statement is semi) (if_statement is' before' c' after' st' alone') = absurd (grind arith)
  one_statement (break_statement is semi) (if_else_statement is' before' c' after' st' otherwise' st2') = absurd (grind arith)
  one_statement (break_statement is semi) (while_statement is' before' c' after' st') = absurd (grind arith)
  one_statement (break_statement is semi) (do_statement is' st' again' before' c' after' semi') = absurd (grind arith)
  one_statement (break_statement is semi) (for_statement (head is' before' start' c' semi' last' after') st') = absurd (grind arith)
  one_statement (break_statement is semi) (break_statement is' semi') = same
  one_statement (break_statement is semi) (continue_statement is' semi') = absurd (grind arith)
  one_statement (break_statement is semi) (return_statement is' semi') = absurd (grind arith)
  one_statement (break_statement is semi) (return_value is' right' semi') = absurd (grind arith)
  one_statement (continue_statement is semi) (declares_statement d') = absurd (declaration_no_word d' is refl refl)
  one_statement (continue_statement is semi) (block_statement is' path' after') = absurd (kinds_differ is' is)
  one_statement (continue_statement is semi) (empty_statement is') = absurd (kinds_differ is' is)
  one_statement (continue_statement is semi) (simple_statement t' semi') = absurd (no_word_first t' is refl)
  one_statement (continue_statement is semi) (free_statement is' before' e' after' semi') = absurd (grind arith)
  one_statement (continue_statement is semi) (assert_statement is' before' c' after' semi') = absurd (grind arith)
  one_statement (continue_statement is semi) (assume_statement is' before' c' after' semi') = absurd (grind arith)
  one_statement (continue_statement is semi) (assume_shape_statement is' before' predicate' comma' var' path' after' semi') = absurd (grind arith)
  one_statement (continue_statement is semi) (assert_shape_statement is' before' predicate' comma' one' path' after' semi') = absurd (grind arith)
  one_statement (continue_statement is semi) (assert_empty_statement is' before' after' semi') = absurd (grind arith)
  one_statement (continue_statement is semi) (if_statement is' before' c' after' st' alone') = absurd (grind arith)
  one_statement (continue_statement is semi) (if_else_statement is' before' c' after' st' otherwise' st2') = absurd (grind arith)
  one_statement (continue_statement is semi) (while_statement is' before' c' after' st') = absurd (grind arith)
  one_statement (continue_statement is semi) (do_statement is' st' again' before' c' after' semi') = absurd (grind arith)
  one_statement (continue_statement is semi) (for_statement (head is' before' start' c' semi' last' after') st') = absurd (grind arith)
  one_statement (continue_statement is semi) (break_statement is' semi') = absurd (grind arith)
  one_statement (continue_statement is semi) (continue_statement is' semi') = same
  one_statement (continue_statement is semi) (return_statement is' semi') = absurd (grind arith)
  one_statement (continue_statement is semi) (return_value is' right' semi') = absurd (grind arith)
  one_statement (return_statement is semi) (declares_statement d') = absurd (declaration_no_word d' is refl refl)
  one_statement (return_statement is semi) (block_statement is' path' after') = absurd (kinds_differ is' is)
  one_statement (return_statement is semi) (empty_statement is') = absurd (kinds_differ is' is)
  one_statement (return_statement is semi) (simple_statement t' semi') = absurd (no_word_first t' is refl)
  one_statement (return_statement is semi) (free_statement is' before' e' after' semi') = absurd (grind arith)
  one_statement (return_statement is semi) (assert_statement is' before' c' after' semi') = absurd (grind arith)
  one_statement (return_statement is semi) (assume_statement is' before' c' after' semi') = absurd (grind arith)
  one_statement (return_statement is semi) (assume_shape_statement is' before' predicate' comma' var' path' after' semi') = absurd (grind arith)
  one_statement (return_statement is semi) (assert_shape_statement is' before' predicate' comma' one' path' after' semi') = absurd (grind arith)
  one_statement (return_statement is semi) (assert_empty_statement is' before' after' semi') = absurd (grind arith)
  one_statement (return_statement is semi) (if_statement is' before' c' after' st' alone') = absurd (grind arith)
  one_statement (return_statement is semi) (if_else_statement is' before' c' after' st' otherwise' st2') = absurd (grind arith)
  one_statement (return_statement is semi) (while_statement is' before' c' after' st') = absurd (grind arith)
  one_statement (return_statement is semi) (do_statement is' st' again' before' c' after' semi') = absurd (grind arith)
  one_statement (return_statement is semi) (for_statement (head is' before' start' c' semi' last' after') st') = absurd (grind arith)
  one_statement (return_statement is semi) (break_statement is' semi') = absurd (grind arith)
  one_statement (return_statement is semi) (continue_statement is' semi') = absurd (grind arith)
  one_statement (return_statement is semi) (return_statement is' semi') = same
  one_statement (return_statement is semi) (return_value is' right' semi') = absurd (right_no_semicolon right' semi)
  one_statement (return_value is right semi) (declares_statement d') = absurd (declaration_no_word d' is refl refl)
  one_statement (return_value is right semi) (block_statement is' path' after') = absurd (kinds_differ is' is)
  one_statement (return_value is right semi) (empty_statement is') = absurd (kinds_differ is' is)
  one_statement (return_value is right semi) (simple_statement t' semi') = absurd (no_word_first t' is refl)
  one_statement (return_value is right semi) (free_statement is' before' e' after' semi') = absurd (grind arith)
  one_statement (return_value is right semi) (assert_statement is' before' c' after' semi') = absurd (grind arith)
  one_statement (return_value is right semi) (assume_statement is' before' c' after' semi') = absurd (grind arith)
  one_statement (return_value is right semi) (assume_shape_statement is' before' predicate' comma' var' path' after' semi') = absurd (grind arith)
  one_statement (return_value is right semi) (assert_shape_statement is' before' predicate' comma' one' path' after' semi') = absurd (grind arith)
  one_statement (return_value is right semi) (assert_empty_statement is' before' after' semi') = absurd (grind arith)
  one_statement (return_value is right semi) (if_statement is' before' c' after' st' alone') = absurd (grind arith)
  one_statement (return_value is right semi) (if_else_statement is' before' c' after' st' otherwise' st2') = absurd (grind arith)
  one_statement (return_value is right semi) (while_statement is' before' c' after' st') = absurd (grind arith)
  one_statement (return_value is right semi) (do_statement is' st' again' before' c' after' semi') = absurd (grind arith)
  one_statement (return_value is right semi) (for_statement (head is' before' start' c' semi' last' after') st') = absurd (grind arith)
  one_statement (return_value is right semi) (break_statement is' semi') = absurd (grind arith)
  one_statement (return_value is right semi) (continue_statement is' semi') = absurd (grind arith)
  one_statement (return_value is right semi) (return_statement is' semi') = absurd (right_no_semicolon right semi')
  one_statement (return_value {word = word} is right semi) (return_value is' right' semi') = close_one right_marks (λ v. returns word.place (Some v)) refl semi semi' (one_right right right')

  -- statements up to a brace are spelled once
  pub one_statements : {aliases : List (List ℕ)} {ss x y : List Stmt} {a b : Token} {ts r s : Tokens} → MoreStatements aliases ss ts x (a ∷ r) → IsMark (codes "}") a → MoreStatements aliases ss ts y (b ∷ s) → IsMark (codes "}") b → Agree [] x (a ∷ r) y (b ∷ s)
  one_statements no_statement is no_statement is' = same
  one_statements no_statement is (next_statement st path) is' = absurd (no_brace st is)
  one_statements (next_statement st path) is no_statement is' = absurd (no_brace st is')
  one_statements {aliases} {ss} {x} {y} {a} {b} {ts} {r} {s} (next_statement st path) is (next_statement st' path') is' =
      agree_all (λ t mid. MoreStatements aliases (ss ++ t ∷ []) mid y (b ∷ s)) (λ t mid. Agree [] x (a ∷ r) y (b ∷ s)) (one_statement st st')
      (λ q. one_statements path is q is') path'
