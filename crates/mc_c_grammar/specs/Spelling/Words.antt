-- The words of a tree, before those that follow it, and the text that they make.
use Rattle.std.specs.Prelude.{◌≡◌, ℕ, List, [], ◌∷◌, ◌++◌, Option, Some, None, codes}
use Rattle.std.proofs.Common.{cond}
use Rattle.std.specs.Fmt.{decimal}
use Rattle.mc_base.specs.declared.text.place.Place.{Place}
use Rattle.mc_c_syntax.specs.declared.ast.trees.Name.{Name}
use Rattle.mc_c_syntax.specs.Ast.Names.{mark_of, is_in}
use Rattle.mc_c_syntax.specs.declared.ast.trees.Base.{Base}
use Rattle.mc_c_syntax.specs.declared.ast.trees.Declarator.{Declarator}
use Rattle.mc_c_syntax.specs.declared.ast.trees.Cast.{Cast}
use Rattle.mc_c_syntax.specs.declared.ast.trees.Size.{Size}
use Rattle.mc_c_syntax.specs.declared.ast.trees.Size.TheVariants.{OfType, OfParens, OfValue}
use Rattle.mc_c_syntax.specs.declared.ast.trees.Malloc.{Malloc}
use Rattle.mc_c_syntax.specs.declared.ast.trees.Argument.{Argument}
use Rattle.mc_c_syntax.specs.declared.ast.trees.Returned.{Returned}
use Rattle.mc_c_syntax.specs.declared.ast.trees.Parameter.{Parameter}
use Rattle.mc_c_syntax.specs.Ast.Trees.{Left, Expr, number, null, input, value, minus, parens, times, plus, difference, Cond}
use Rattle.mc_c_syntax.specs.Ast.Trees.{plain, compare, negation, enclosed, both, either, CallTree, Right, expression}
use Rattle.mc_c_syntax.specs.Ast.Trees.{result_of, allocation}
use Rattle.mc_c_syntax.specs.Ast.Trees.{InitialTree, DeclarationTree, SimpleTree, assign, add, subtract, increment}
use Rattle.mc_c_syntax.specs.Ast.Trees.{decrement, increment_first, decrement_first, call, Start, nothing, declares}
use Rattle.mc_c_syntax.specs.Ast.Trees.{performs, Head, Stmt, declaration, block, empty, simple, free, assert, assume}
use Rattle.mc_c_syntax.specs.Ast.Trees.{assume_shape, assert_shape, assert_empty, if_only, if_else, while_loop, do_loop}
use Rattle.mc_c_syntax.specs.Ast.Trees.{for_loop, break_loop, continue_loop, returns, Stmts, no_more, then, stmts_of}
use Rattle.mc_c_syntax.specs.Ast.Trees.{FieldTree, StructTree, AliasedTree, of_base, of_struct, TypedefTree, ParametersTree}
use Rattle.mc_c_syntax.specs.Ast.Trees.{unnamed, void, listed, BodyTree, FunctionTree, ItemTree, structure, typedef}
use Rattle.mc_c_syntax.specs.Ast.Trees.{function, UnitTree}

abbrev pub Words : Type 0
Words = List (List ℕ)

-- the words after which a line ends
abbrev pub line_ends : Words
line_ends = codes ";" ∷ codes "{" ∷ codes "}" ∷ []

-- what stands after a word: a line feed or a blank
abbrev pub gap : List ℕ → ℕ
gap word = cond (is_in line_ends word) 10 32

-- the text of words
unfoldable pub text_of : Words → List ℕ
text_of [] = []
text_of (word ∷ words) = word ++ gap word ∷ text_of words

-- with these words, whatever follows, the text before becomes the text after
abbrev pub Prints : List ℕ → (Words → Words) → List ℕ → Type 0
Prints before words after = (more : Words) → before ++ text_of (words more) ≡ after ++ text_of more

abbrev pub field_words : List Name → Words → Words
field_words [] more = more
field_words (field ∷ fields) more = codes "->" ∷ field.text ∷ field_words fields more

abbrev pub left_words : Left → Words → Words
left_words l more = l.name.text ∷ field_words l.fields more

abbrev pub expression_words : Expr → Words → Words
expression_words (number n p) more = decimal n ∷ more
expression_words (null p) more = codes "NULL" ∷ more
expression_words (input p) more = codes "input" ∷ codes "(" ∷ codes ")" ∷ more
expression_words (value l) more = left_words l more
expression_words (minus p e) more = codes "-" ∷ expression_words e more
expression_words (parens p e) more = codes "(" ∷ expression_words e (codes ")" ∷ more)
expression_words (times a b) more = expression_words a (codes "*" ∷ expression_words b more)
expression_words (plus a b) more = expression_words a (codes "+" ∷ expression_words b more)
expression_words (difference a b) more = expression_words a (codes "-" ∷ expression_words b more)

abbrev pub condition_words : Cond → Words → Words
condition_words (plain e) more = expression_words e more
condition_words (compare mark a b) more = expression_words a (mark_of mark ∷ expression_words b more)
condition_words (negation p c) more = codes "!" ∷ condition_words c more
condition_words (enclosed p c) more = codes "(" ∷ condition_words c (codes ")" ∷ more)
condition_words (both a b) more = condition_words a (codes "&&" ∷ condition_words b more)
condition_words (either a b) more = condition_words a (codes "||" ∷ condition_words b more)

-- what was to be printed after the text before is what is still to be printed after the text now
abbrev pub Continues : List ℕ → (Words → Words) → List ℕ → (Words → Words) → Type 0
Continues before all now left = (more : Words) → before ++ text_of (all more) ≡ now ++ text_of (left more)

-- the words of each of a list, with a `,` before each
abbrev pub more_words : {X : Type 0} → (X → Words → Words) → List X → Words → Words
more_words words [] more = more
more_words words (x ∷ xs) more = codes "," ∷ words x (more_words words xs more)

-- the words of each of a list, with a `,` between each two
abbrev pub listed_words : {X : Type 0} → (X → Words → Words) → List X → Words → Words
listed_words words [] more = more
listed_words words (x ∷ xs) more = words x (more_words words xs more)

-- the words of each of a list
abbrev pub all_words : {X : Type 0} → (X → Words → Words) → List X → Words → Words
all_words words [] more = more
all_words words (x ∷ xs) more = words x (all_words words xs more)

-- the words of what may be missing
abbrev pub maybe_words : {X : Type 0} → (X → Words → Words) → Option X → Words → Words
maybe_words words None more = more
maybe_words words (Some x) more = words x more

abbrev pub call_words : CallTree → Words → Words
call_words c more = c.function.text ∷ codes "(" ∷ listed_words expression_words c.arguments (codes ")" ∷ more)

abbrev pub base_words : Base → Words → Words
base_words (Base.Int p) more = codes "int" ∷ more
base_words (Base.Struct p name) more = codes "struct" ∷ name.text ∷ more
base_words (Base.Alias name) more = name.text ∷ more

abbrev pub star_words : Option Place → Words → Words
star_words None more = more
star_words (Some p) more = codes "*" ∷ more

abbrev pub declarator_words : Declarator → Words → Words
declarator_words d more = star_words d.pointer (d.name.text ∷ more)

abbrev pub cast_words : Cast → Words → Words
cast_words c more = codes "(" ∷ base_words c.base (star_words c.pointer (codes ")" ∷ more))

abbrev pub size_words : Size → Words → Words
size_words (OfType p base) more = codes "sizeof" ∷ codes "(" ∷ base_words base (codes ")" ∷ more)
size_words (OfParens p name) more = codes "sizeof" ∷ codes "(" ∷ codes "*" ∷ name.text ∷ codes ")" ∷ more
size_words (OfValue p name) more = codes "sizeof" ∷ codes "*" ∷ name.text ∷ more

abbrev pub malloc_words : Malloc → Words → Words
malloc_words m more = maybe_words cast_words m.cast (codes "malloc" ∷ codes "(" ∷ size_words m.size (codes ")" ∷ more))

abbrev pub right_words : Right → Words → Words
right_words (expression e) more = expression_words e more
right_words (result_of c) more = call_words c more
right_words (allocation m) more = malloc_words m more

abbrev pub value_words : Option Right → Words → Words
value_words None more = more
value_words (Some r) more = codes "=" ∷ right_words r more

abbrev pub initial_words : InitialTree → Words → Words
initial_words i more = declarator_words i.declarator (value_words i.value more)

abbrev pub declaration_words : DeclarationTree → Words → Words
declaration_words d more = base_words d.base (listed_words initial_words d.items (codes ";" ∷ more))

abbrev pub simple_words : SimpleTree → Words → Words
simple_words (assign l r) more = left_words l (codes "=" ∷ right_words r more)
simple_words (add l e) more = left_words l (codes "+=" ∷ expression_words e more)
simple_words (subtract l e) more = left_words l (codes "-=" ∷ expression_words e more)
simple_words (increment l) more = left_words l (codes "++" ∷ more)
simple_words (decrement l) more = left_words l (codes "--" ∷ more)
simple_words (increment_first p l) more = codes "++" ∷ left_words l more
simple_words (decrement_first p l) more = codes "--" ∷ left_words l more
simple_words (call c) more = call_words c more

abbrev pub argument_words : Argument → Words → Words
argument_words (Argument.Name name) more = name.text ∷ more
argument_words (Argument.Null p) more = codes "NULL" ∷ more
argument_words (Argument.Number n p) more = decimal n ∷ more
argument_words (Argument.Negative n p) more = codes "-" ∷ decimal n ∷ more

abbrev pub start_words : Start → Words → Words
start_words nothing more = codes ";" ∷ more
start_words (declares d) more = declaration_words d more
start_words (performs s) more = simple_words s (codes ";" ∷ more)

abbrev pub head_words : Head → Words → Words
head_words h more = codes "for" ∷ codes "("
    ∷ start_words h.start (maybe_words condition_words h.condition
    (codes ";" ∷ maybe_words simple_words h.last (codes ")" ∷ more)))

abbrev mutual
  pub statement_words : Stmt → Words → Words
  statement_words (declaration d) more = declaration_words d more
  statement_words (block p ss) more = codes "{" ∷ statements_words ss (codes "}" ∷ more)
  statement_words (empty p) more = codes ";" ∷ more
  statement_words (simple s) more = simple_words s (codes ";" ∷ more)
  statement_words (free p e) more = codes "free" ∷ codes "(" ∷ expression_words e (codes ")" ∷ codes ";" ∷ more)
  statement_words (assert p c) more = codes "assert" ∷ codes "(" ∷ condition_words c (codes ")" ∷ codes ";" ∷ more)
  statement_words (assume p c) more = codes "assume" ∷ codes "(" ∷ condition_words c (codes ")" ∷ codes ";" ∷ more)
  statement_words (assume_shape p predicate variable args) more = codes "assume_shape"
      ∷ codes "(" ∷ predicate.text ∷ codes "," ∷ variable.text ∷ more_words argument_words args (codes ")"
      ∷ codes ";" ∷ more)
  statement_words (assert_shape p predicate start args) more = codes "assert_shape"
      ∷ codes "(" ∷ predicate.text ∷ codes ","
      ∷ argument_words start (more_words argument_words args (codes ")" ∷ codes ";" ∷ more))
  statement_words (assert_empty p) more = codes "assert_empty" ∷ codes "(" ∷ codes ")" ∷ codes ";" ∷ more
  statement_words (if_only p c s) more = codes "if" ∷ codes "(" ∷ condition_words c (codes ")" ∷ statement_words s more)
  statement_words (if_else p c s t) more = codes "if"
      ∷ codes "(" ∷ condition_words c (codes ")" ∷ statement_words s (codes "else" ∷ statement_words t more))
  statement_words (while_loop p c s) more = codes "while" ∷ codes "(" ∷ condition_words c (codes ")" ∷ statement_words s more)
  statement_words (do_loop p s c) more = codes "do"
      ∷ statement_words s (codes "while" ∷ codes "(" ∷ condition_words c (codes ")" ∷ codes ";" ∷ more))
  statement_words (for_loop h s) more = head_words h (statement_words s more)
  statement_words (break_loop p) more = codes "break" ∷ codes ";" ∷ more
  statement_words (continue_loop p) more = codes "continue" ∷ codes ";" ∷ more
  statement_words (returns p r) more = codes "return" ∷ maybe_words right_words r (codes ";" ∷ more)

  pub statements_words : Stmts → Words → Words
  statements_words no_more more = more
  statements_words (then s ss) more = statement_words s (statements_words ss more)

abbrev pub field_list_words : FieldTree → Words → Words
field_list_words f more = base_words f.base (listed_words declarator_words f.declarators (codes ";" ∷ more))

abbrev pub struct_words : StructTree → Words → Words
struct_words s more = codes "struct" ∷ s.name.text ∷ codes "{" ∷ all_words field_list_words s.fields (codes "}" ∷ more)

abbrev pub aliased_words : AliasedTree → Words → Words
aliased_words (of_base b) more = base_words b more
aliased_words (of_struct s) more = struct_words s more

abbrev pub typedef_words : TypedefTree → Words → Words
typedef_words t more = codes "typedef" ∷ aliased_words t.aliased (listed_words declarator_words t.declarators (codes ";" ∷ more))

abbrev pub static_words : Option Place → Words → Words
static_words None more = more
static_words (Some p) more = codes "static" ∷ more

abbrev pub returned_words : Returned → Words → Words
returned_words (Returned.Void p) more = codes "void" ∷ more
returned_words (Returned.Value base pointer) more = base_words base (star_words pointer more)

abbrev pub parameter_words : Parameter → Words → Words
parameter_words p more = base_words p.base (declarator_words p.declarator more)

abbrev pub parameters_words : ParametersTree → Words → Words
parameters_words unnamed more = more
parameters_words (void p) more = codes "void" ∷ more
parameters_words (listed ps) more = listed_words parameter_words ps more

abbrev pub body_words : Option BodyTree → Words → Words
body_words None more = codes ";" ∷ more
body_words (Some b) more = codes "{" ∷ statements_words (stmts_of b.statements) (codes "}" ∷ more)

abbrev pub function_words : FunctionTree → Words → Words
function_words f more = static_words f.static_place
    (returned_words f.returned (f.name.text
    ∷ codes "(" ∷ parameters_words f.parameters (codes ")" ∷ body_words f.body more)))

abbrev pub item_words : ItemTree → Words → Words
item_words (structure s) more = struct_words s (codes ";" ∷ more)
item_words (typedef t) more = typedef_words t more
item_words (function f) more = function_words f more

abbrev pub unit_words : UnitTree → Words → Words
unit_words unit more = all_words item_words unit more
