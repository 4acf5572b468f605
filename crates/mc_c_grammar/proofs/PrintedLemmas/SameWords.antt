-- Places are not printed.
use Rattle.std.proofs.Common.{◌≡◌, ℕ, List, [], ◌∷◌, Option, Some, None, refl, ap, sym, ◌∙◌, map}
use Rattle.std.specs.Prelude.{codes}
use Rattle.std.specs.Option.{option_map}
use Rattle.mc_base.specs.declared.text.place.Place.{Place}
use Rattle.mc_c_syntax.specs.declared.ast.trees.Name.{Name}
use Rattle.mc_c_syntax.specs.declared.ast.trees.Base.{Base}
use Rattle.mc_c_syntax.specs.declared.ast.trees.Declarator.{Declarator}
use Rattle.mc_c_syntax.specs.declared.ast.trees.Cast.{Cast}
use Rattle.mc_c_syntax.specs.declared.ast.trees.Size.{Size}
use Rattle.mc_c_syntax.specs.declared.ast.trees.Size.TheVariants.{OfType, OfParens, OfValue}
use Rattle.mc_c_syntax.specs.declared.ast.trees.Malloc.{Malloc}
use Rattle.mc_c_syntax.specs.declared.ast.trees.Argument.{Argument}
use Rattle.mc_c_syntax.specs.declared.ast.trees.Returned.{Returned}
use Rattle.mc_c_syntax.specs.declared.ast.trees.Parameter.{Parameter}
use Rattle.mc_c_syntax.specs.Ast.Trees.{Left, Expr, number, null, input, value, minus, parens, times, plus, difference, Cond, plain, compare, negation, enclosed, both, either, CallTree, Right, expression, result_of, allocation}
use Rattle.mc_c_syntax.specs.Ast.Trees.{InitialTree, DeclarationTree, SimpleTree, assign, add, subtract, increment, decrement, increment_first, decrement_first, call, Start, nothing, declares, performs, Head, Stmt, declaration, block, empty, simple, free, assert, assume, assume_shape, assert_shape, assert_empty, if_only, if_else, while_loop, do_loop, for_loop, break_loop, continue_loop, returns, Stmts, no_more, then, stmts_of, FieldTree, StructTree, AliasedTree, of_base, of_struct, TypedefTree, ParametersTree, unnamed, void, listed, BodyTree, FunctionTree, ItemTree, structure, typedef, function, UnitTree}
use Rattle.mc_c_syntax.specs.Ast.Names.{mark_of}
use Rattle.mc_c_grammar.specs.Spelling.Words.{Words, field_words, left_words, expression_words, condition_words, more_words, listed_words, all_words, maybe_words, call_words, base_words, star_words, declarator_words, cast_words, size_words, malloc_words, right_words, value_words, initial_words, declaration_words, simple_words, argument_words, start_words, head_words, statement_words, statements_words, field_list_words, struct_words, aliased_words, typedef_words, static_words, returned_words, parameter_words, parameters_words, body_words, function_words, item_words, unit_words}
use Rattle.mc_c_grammar.specs.Printed.Aside.{name_aside, left_aside, expression_aside, condition_aside, call_aside, base_aside, star_aside, declarator_aside, cast_aside, size_aside, malloc_aside, right_aside, initial_aside, declaration_aside, simple_aside, argument_aside, start_aside, head_aside, statement_aside, statements_aside, field_aside, struct_aside, aliased_aside, typedef_aside, returned_aside, parameter_aside, parameters_aside, body_aside, function_aside, item_aside, unit_aside}
use Rattle.mc_c_grammar.proofs.PrintedLemmas.AlikeStatements.{same_statements}

-- the same word before
after_word : (word : List ℕ) {a b : Words} → a ≡ b → word ∷ a ≡ word ∷ b
after_word word e = ap (λ w. word ∷ w) e

-- the same words before
join : {p : Words → Words} (q : Words → Words) {a b : Words} → ((w : Words) → p w ≡ q w) → a ≡ b → p a ≡ q b
join q {a = a} h e = h a ∙ ap q e

module _ {X : Type 0} (f : X → X) (g : X → Words → Words) (h : (x : X) (w : Words) → g (f x) w ≡ g x w) where
  more_same : (xs : List X) (w : Words) → more_words g (map f xs) w ≡ more_words g xs w
  more_same [] w = refl
  more_same (x ∷ xs) w = after_word (codes ",") (join (g x) (h x) (more_same xs w))

  listed_same : (xs : List X) (w : Words) → listed_words g (map f xs) w ≡ listed_words g xs w
  listed_same [] w = refl
  listed_same (x ∷ xs) w = join (g x) (h x) (more_same xs w)

  all_same : (xs : List X) (w : Words) → all_words g (map f xs) w ≡ all_words g xs w
  all_same [] w = refl
  all_same (x ∷ xs) w = join (g x) (h x) (all_same xs w)

  maybe_same : (x : Option X) (w : Words) → maybe_words g (option_map f x) w ≡ maybe_words g x w
  maybe_same None w = refl
  maybe_same (Some x) w = h x w

fields_same : (fields : List Name) (w : Words) → field_words (map name_aside fields) w ≡ field_words fields w
fields_same [] w = refl
fields_same (field ∷ fields) w = after_word (codes "->") (after_word field.text (fields_same fields w))

left_same : (l : Left) (w : Words) → left_words (left_aside l) w ≡ left_words l w
left_same l w = after_word l.name.text (fields_same l.fields w)

expression_same : (e : Expr) (w : Words) → expression_words (expression_aside e) w ≡ expression_words e w
expression_same (number n p) w = refl
expression_same (null p) w = refl
expression_same (input p) w = refl
expression_same (value l) w = left_same l w
expression_same (minus p e) w = after_word (codes "-") (expression_same e w)
expression_same (parens p e) w = after_word (codes "(") (expression_same e (codes ")" ∷ w))
expression_same (times a b) w = join (expression_words a) (expression_same a) (after_word (codes "*") (expression_same b w))
expression_same (plus a b) w = join (expression_words a) (expression_same a) (after_word (codes "+") (expression_same b w))
expression_same (difference a b) w = join (expression_words a) (expression_same a) (after_word (codes "-") (expression_same b w))

condition_same : (c : Cond) (w : Words) → condition_words (condition_aside c) w ≡ condition_words c w
condition_same (plain e) w = expression_same e w
condition_same (compare mark a b) w = join (expression_words a) (expression_same a) (after_word (mark_of mark) (expression_same b w))
condition_same (negation p c) w = after_word (codes "!") (condition_same c w)
condition_same (enclosed p c) w = after_word (codes "(") (condition_same c (codes ")" ∷ w))
condition_same (both a b) w = join (condition_words a) (condition_same a) (after_word (codes "&&") (condition_same b w))
condition_same (either a b) w = join (condition_words a) (condition_same a) (after_word (codes "||") (condition_same b w))

call_same : (c : CallTree) (w : Words) → call_words (call_aside c) w ≡ call_words c w
call_same c w = after_word c.function.text (after_word (codes "(") (listed_same expression_aside expression_words expression_same c.arguments (codes ")" ∷ w)))

base_same : (b : Base) (w : Words) → base_words (base_aside b) w ≡ base_words b w
base_same (Base.Int p) w = refl
base_same (Base.Struct p name) w = refl
base_same (Base.Alias name) w = refl

star_same : (p : Option Place) (w : Words) → star_words (star_aside p) w ≡ star_words p w
star_same None w = refl
star_same (Some p) w = refl

declarator_same : (d : Declarator) (w : Words) → declarator_words (declarator_aside d) w ≡ declarator_words d w
declarator_same d w = star_same d.pointer (d.name.text ∷ w)

cast_same : (c : Cast) (w : Words) → cast_words (cast_aside c) w ≡ cast_words c w
cast_same c w = after_word (codes "(") (join (base_words c.base) (base_same c.base) (star_same c.pointer (codes ")" ∷ w)))

size_same : (s : Size) (w : Words) → size_words (size_aside s) w ≡ size_words s w
size_same (OfType p base) w = after_word (codes "sizeof") (after_word (codes "(") (base_same base (codes ")" ∷ w)))
size_same (OfParens p name) w = refl
size_same (OfValue p name) w = refl

malloc_same : (m : Malloc) (w : Words) → malloc_words (malloc_aside m) w ≡ malloc_words m w
malloc_same m w =
    join (maybe_words cast_words m.cast) (maybe_same cast_aside cast_words cast_same m.cast) (after_word (codes "malloc") (after_word (codes "(") (size_same m.size (codes ")" ∷ w))))

right_same : (r : Right) (w : Words) → right_words (right_aside r) w ≡ right_words r w
right_same (expression e) w = expression_same e w
right_same (result_of c) w = call_same c w
right_same (allocation m) w = malloc_same m w

value_same : (r : Option Right) (w : Words) → value_words (option_map right_aside r) w ≡ value_words r w
value_same None w = refl
value_same (Some r) w = after_word (codes "=") (right_same r w)

initial_same : (i : InitialTree) (w : Words) → initial_words (initial_aside i) w ≡ initial_words i w
initial_same i w = join (declarator_words i.declarator) (declarator_same i.declarator) (value_same i.value w)

declaration_same : (d : DeclarationTree) (w : Words) → declaration_words (declaration_aside d) w ≡ declaration_words d w
declaration_same d w = join (base_words d.base) (base_same d.base) (listed_same initial_aside initial_words initial_same d.items (codes ";" ∷ w))

simple_same : (s : SimpleTree) (w : Words) → simple_words (simple_aside s) w ≡ simple_words s w
simple_same (assign l r) w = join (left_words l) (left_same l) (after_word (codes "=") (right_same r w))
simple_same (add l e) w = join (left_words l) (left_same l) (after_word (codes "+=") (expression_same e w))
simple_same (subtract l e) w = join (left_words l) (left_same l) (after_word (codes "-=") (expression_same e w))
simple_same (increment l) w = left_same l (codes "++" ∷ w)
simple_same (decrement l) w = left_same l (codes "--" ∷ w)
simple_same (increment_first p l) w = after_word (codes "++") (left_same l w)
simple_same (decrement_first p l) w = after_word (codes "--") (left_same l w)
simple_same (call c) w = call_same c w

argument_same : (a : Argument) (w : Words) → argument_words (argument_aside a) w ≡ argument_words a w
argument_same (Argument.Name name) w = refl
argument_same (Argument.Null p) w = refl
argument_same (Argument.Number n p) w = refl
argument_same (Argument.Negative n p) w = refl

start_same : (s : Start) (w : Words) → start_words (start_aside s) w ≡ start_words s w
start_same nothing w = refl
start_same (declares d) w = declaration_same d w
start_same (performs s) w = simple_same s (codes ";" ∷ w)

head_same : (h : Head) (w : Words) → head_words (head_aside h) w ≡ head_words h w
head_same h w =
    after_word (codes "for") (after_word (codes "(") (join (start_words h.start) (start_same h.start)
    (join (maybe_words condition_words h.condition) (maybe_same condition_aside condition_words condition_same h.condition)
    (after_word (codes ";") (maybe_same simple_aside simple_words simple_same h.last (codes ")" ∷ w))))))

-- a condition in parentheses, and what follows it
test_same : (c : Cond) {a b : Words} → a ≡ b → codes "(" ∷ condition_words (condition_aside c) (codes ")" ∷ a) ≡ codes "(" ∷ condition_words c (codes ")" ∷ b)
test_same c e = after_word (codes "(") (join (condition_words c) (condition_same c) (after_word (codes ")") e))

arguments_same : (args : List Argument) (w : Words) → more_words argument_words (map argument_aside args) w ≡ more_words argument_words args w
arguments_same = more_same argument_aside argument_words argument_same

mutual
  statement_same : (s : Stmt) (w : Words) → statement_words (statement_aside s) w ≡ statement_words s w
  statement_same (declaration d) w = declaration_same d w
  statement_same (block p ss) w = after_word (codes "{") (statements_same ss (codes "}" ∷ w))
  statement_same (empty p) w = refl
  statement_same (simple s) w = simple_same s (codes ";" ∷ w)
  statement_same (free p e) w = after_word (codes "free") (after_word (codes "(") (expression_same e (codes ")" ∷ codes ";" ∷ w)))
  statement_same (assert p c) w = after_word (codes "assert") (test_same c refl)
  statement_same (assume p c) w = after_word (codes "assume") (test_same c refl)
  statement_same (assume_shape p predicate variable args) w =
      ap (λ w. codes "assume_shape" ∷ codes "(" ∷ predicate.text ∷ codes "," ∷ variable.text ∷ w) (arguments_same args (codes ")" ∷ codes ";" ∷ w))
  statement_same (assert_shape p predicate start args) w =
      ap (λ w. codes "assert_shape" ∷ codes "(" ∷ predicate.text ∷ codes "," ∷ w) (join (argument_words start) (argument_same start) (arguments_same args (codes ")" ∷ codes ";" ∷ w)))
  statement_same (assert_empty p) w = refl
  statement_same (if_only p c s) w = after_word (codes "if") (test_same c (statement_same s w))
  statement_same (if_else p c s t) w = after_word (codes "if") (test_same c (join (statement_words s) (statement_same s) (after_word (codes "else") (statement_same t w))))
  statement_same (while_loop p c s) w = after_word (codes "while") (test_same c (statement_same s w))
  statement_same (do_loop p s c) w = after_word (codes "do") (join (statement_words s) (statement_same s) (after_word (codes "while") (test_same c refl)))
  statement_same (for_loop h s) w = join (head_words h) (head_same h) (statement_same s w)
  statement_same (break_loop p) w = refl
  statement_same (continue_loop p) w = refl
  statement_same (returns p r) w = after_word (codes "return") (maybe_same right_aside right_words right_same r (codes ";" ∷ w))

  statements_same : (ss : Stmts) (w : Words) → statements_words (statements_aside ss) w ≡ statements_words ss w
  statements_same no_more w = refl
  statements_same (then s ss) w = join (statement_words s) (statement_same s) (statements_same ss w)

-- the same of a list of statements
list_same : (ss : List Stmt) (w : Words) → statements_words (stmts_of (map statement_aside ss)) w ≡ statements_words (stmts_of ss) w
list_same ss w = ap (λ t. statements_words t w) (sym (same_statements ss)) ∙ statements_same (stmts_of ss) w

declarators_same : (ds : List Declarator) (w : Words) → listed_words declarator_words (map declarator_aside ds) w ≡ listed_words declarator_words ds w
declarators_same = listed_same declarator_aside declarator_words declarator_same

field_same : (f : FieldTree) (w : Words) → field_list_words (field_aside f) w ≡ field_list_words f w
field_same f w = join (base_words f.base) (base_same f.base) (declarators_same f.declarators (codes ";" ∷ w))

struct_same : (s : StructTree) (w : Words) → struct_words (struct_aside s) w ≡ struct_words s w
struct_same s w = after_word (codes "struct") (after_word s.name.text (after_word (codes "{") (all_same field_aside field_list_words field_same s.fields (codes "}" ∷ w))))

aliased_same : (a : AliasedTree) (w : Words) → aliased_words (aliased_aside a) w ≡ aliased_words a w
aliased_same (of_base b) w = base_same b w
aliased_same (of_struct s) w = struct_same s w

typedef_same : (t : TypedefTree) (w : Words) → typedef_words (typedef_aside t) w ≡ typedef_words t w
typedef_same t w = after_word (codes "typedef") (join (aliased_words t.aliased) (aliased_same t.aliased) (declarators_same t.declarators (codes ";" ∷ w)))

static_same : (p : Option Place) (w : Words) → static_words (star_aside p) w ≡ static_words p w
static_same None w = refl
static_same (Some p) w = refl

returned_same : (r : Returned) (w : Words) → returned_words (returned_aside r) w ≡ returned_words r w
returned_same (Returned.Void p) w = refl
returned_same (Returned.Value base pointer) w = join (base_words base) (base_same base) (star_same pointer w)

parameter_same : (p : Parameter) (w : Words) → parameter_words (parameter_aside p) w ≡ parameter_words p w
parameter_same p w = join (base_words p.base) (base_same p.base) (declarator_same p.declarator w)

parameters_same : (p : ParametersTree) (w : Words) → parameters_words (parameters_aside p) w ≡ parameters_words p w
parameters_same unnamed w = refl
parameters_same (void p) w = refl
parameters_same (listed ps) w = listed_same parameter_aside parameter_words parameter_same ps w

body_same : (b : Option BodyTree) (w : Words) → body_words (option_map body_aside b) w ≡ body_words b w
body_same None w = refl
body_same (Some b) w = after_word (codes "{") (list_same b.statements (codes "}" ∷ w))

function_same : (f : FunctionTree) (w : Words) → function_words (function_aside f) w ≡ function_words f w
function_same f w =
    join (static_words f.static_place) (static_same f.static_place) (join (returned_words f.returned) (returned_same f.returned)
    (after_word f.name.text (after_word (codes "(") (join (parameters_words f.parameters) (parameters_same f.parameters) (after_word (codes ")") (body_same f.body w))))))

item_same : (i : ItemTree) (w : Words) → item_words (item_aside i) w ≡ item_words i w
item_same (structure s) w = struct_same s (codes ";" ∷ w)
item_same (typedef t) w = typedef_same t w
item_same (function f) w = function_same f w

unit_same : (unit : UnitTree) (w : Words) → unit_words (unit_aside unit) w ≡ unit_words unit w
unit_same unit w = all_same item_aside item_words item_same unit w

-- trees that are the same but for their places have the same words
pub same_words : (one other : UnitTree) → unit_aside one ≡ unit_aside other → unit_words one [] ≡ unit_words other []
same_words one other e = sym (unit_same one []) ∙ ap (λ unit. unit_words unit []) e ∙ unit_same other []
