-- Whatever is begun can be completed.
use Rattle.std.proofs.Common.{ℕ, List, [], ◌∷◌, ◌++◌, inl, inr, append_assoc, refl, sym, subst, codes, map, Option, Some}
use Rattle.mc_base.specs.declared.text.place.Place.{Place}
use Rattle.mc_base.specs.declared.text.token.Token.{Token}
use Rattle.mc_base.specs.declared.text.token.TokenKind.TheVariants as TokenKind
use Rattle.mc_c_syntax.specs.declared.ast.trees.Name.{Name}
use Rattle.mc_c_syntax.specs.declared.ast.trees.Base.{Base}
use Rattle.mc_c_syntax.specs.declared.ast.trees.Cast.{Cast}
use Rattle.mc_c_syntax.specs.declared.ast.trees.Malloc.{Malloc}
use Rattle.mc_c_syntax.specs.declared.ast.trees.Size.{Size}
use Rattle.mc_c_syntax.specs.Ast.Trees.{Left, Expr, null, parens, expression, result_of, allocation, InitialTree, assign, call}
use Rattle.mc_c_syntax.specs.Ast.Views.{expressions_of, left_of, right_of, simple_of, initial_of}
use Rattle.mc_c_syntax.specs.Ast.Names.{Tokens, IsMark, IsWord, IsName}
use Rattle.mc_c_syntax.specs.Ast.Grammar.{none, IsUnary, null_word, product, no_factor, no_term, sum_of, last as no_more, int, of_value, no_star, declarator, bare, last_initial, sum, named, incremented}
use Rattle.mc_c_syntax.specs.Ast.Readers.{CanEnd}
use Rattle.mc_c_parse_expr.specs.Expressions.{CompletesExpression, BehindOperand, BehindName}
use Rattle.mc_c_parse_expr.specs.declared.expression.ExpressionReader.{ExpressionReader}
use Rattle.mc_c_parse_expr.specs.Turns.{InTurn, in_turn}
use Rattle.mc_c_parse_simple.specs.declared.base.BaseReader.{BaseReader}
use Rattle.mc_c_parse_simple.specs.declared.size.SizeReader.{SizeReader}
use Rattle.mc_c_parse_simple.specs.declared.allocation.AllocationReader.{AllocationReader}
use Rattle.mc_c_parse_simple.specs.declared.call.CallReader.{CallReader}
use Rattle.mc_c_parse_simple.specs.declared.call.CallState.{CallState}
use Rattle.mc_c_parse_simple.specs.declared.right.RightReader.{RightReader}
use Rattle.mc_c_parse_simple.specs.declared.right.RightState.{RightState}
use Rattle.mc_c_parse_simple.specs.declared.simple.SimpleReader.{SimpleReader}
use Rattle.mc_c_parse_simple.specs.declared.simple.SimpleState.{SimpleState}
use Rattle.mc_c_parse_simple.specs.declared.simple.Change.{Change}
use Rattle.mc_c_parse_simple.specs.declared.declaration.DeclarationReader.{DeclarationReader}
use Rattle.mc_c_parse_simple.specs.declared.declaration.DeclarationState.{DeclarationState}
use Rattle.mc_c_parse_simple.specs.Phrases.{Ended, ended, Next, next, Either}
use Rattle.mc_c_parse_simple.specs.Bases.{CompletesBase}
use Rattle.mc_c_parse_simple.specs.Sizes.{Sizes, ClosingSize, BehindParensStar, BehindStar, CompletesSize}
use Rattle.mc_c_parse_simple.specs.Allocations.{ClosingMalloc, BehindMalloc, BehindCast, ClosingCast, BehindCastBase, CompletesAllocation}
use Rattle.mc_c_parse_simple.specs.Calls.{Sums, BehindArguments, behind_arguments, CompletesArguments, CompletesCall}
use Rattle.mc_c_parse_simple.specs.Rights.{InParens, CompletesRightState, CompletesRight}
use Rattle.mc_c_parse_simple.specs.Simples.{MoreFields, just, changed_first, changed_by, increments, InLeft, InFirst, CompletesSimpleState, CompletesSimple}
use Rattle.mc_c_parse_simple.specs.Declarations.{BehindInitials, behind_initials, BehindComma, CompletesDeclarationState, CompletesDeclaration}
use Rattle.mc_c_parse_expr.proofs.Ends.{is_mark, mark_token, somewhere}

abbrev word_token : List ℕ → Token
word_token word = record { kind = TokenKind.Name; text = word; place = somewhere }

is_word : (word : List ℕ) → IsWord word (word_token word)
is_word word = record { kind = refl; text = refl }

x_is_name : IsName (word_token (codes "x"))
x_is_name = record { kind = refl; free = refl }

-- phrases that are put together
ended_ends : {Y : Type 0} (y : Y) → CanEnd (Ended y)
ended_ends y = record { more = []; tree = y; completes = λ rest. ended }

next_ends : {Y : Type 0} {Is : Token → Type 0} {later : Token → Tokens → Tokens → Y → Type 0} (token : Token) → Is token → CanEnd (later token) → CanEnd (Next Is later)
next_ends token is e = record { more = token ∷ e.more; tree = e.tree; completes = λ rest. next is (e.completes rest) }

mark_ends : {Y : Type 0} (mark : List ℕ) {later : Token → Tokens → Tokens → Y → Type 0} → CanEnd (later (mark_token mark)) → CanEnd (Next (IsMark mark) later)
mark_ends mark e = next_ends (mark_token mark) (is_mark mark) e

name_ends : {Y : Type 0} {later : Token → Tokens → Tokens → Y → Type 0} → CanEnd (later (word_token (codes "x"))) → CanEnd (Next IsName later)
name_ends e = next_ends (word_token (codes "x")) x_is_name e

turn_ends : {X Y : Type 0} {first : Tokens → Tokens → X → Type 0} {behind : X → Tokens → Tokens → Y → Type 0} → (f : CanEnd first) → CanEnd (behind f.tree) → CanEnd (InTurn first behind)
turn_ends {first = first} {behind = behind} f n = record {
  more = f.more ++ n.more;
  tree = n.tree;
  completes = λ rest. let P : Tokens → Type 0 = λ tokens. InTurn first behind tokens rest n.tree in subst P (sym (append_assoc f.more n.more rest)) (in_turn (f.completes (n.more ++ rest)) (n.completes rest));
}

made_ends : {X Y : Type 0} {first : Tokens → Tokens → X → Type 0} (f : X → Y) → CanEnd first → CanEnd (InTurn first (λ x. Ended (f x)))
made_ends f e = turn_ends e (ended_ends (f e.tree))

left_ends : {Y : Type 0} {one other : Tokens → Tokens → Y → Type 0} → CanEnd one → CanEnd (Either one other)
left_ends e = record { more = e.more; tree = e.tree; completes = λ rest. inl (e.completes rest) }

right_ends : {Y : Type 0} {one other : Tokens → Tokens → Y → Type 0} → CanEnd other → CanEnd (Either one other)
right_ends e = record { more = e.more; tree = e.tree; completes = λ rest. inr (e.completes rest) }

-- bases and sizes
pub base_can_end : (aliases : List (List ℕ)) (reader : BaseReader) → CanEnd (CompletesBase aliases reader)
base_can_end aliases BaseReader.Start = record { more = word_token (codes "int") ∷ []; tree = Base.Int somewhere; completes = λ rest. int (is_word (codes "int")) }
base_can_end aliases (BaseReader.Struct place) = name_ends (ended_ends _)

close_size_ends : (size : Size) → CanEnd (ClosingSize size)
close_size_ends size = mark_ends (codes ")") (ended_ends size)

sizes_end : (aliases : List (List ℕ)) → CanEnd (Sizes aliases)
sizes_end aliases = record { more = word_token (codes "sizeof") ∷ mark_token (codes "*") ∷ word_token (codes "x") ∷ []; tree = _; completes = λ rest. of_value (is_word (codes "sizeof")) (is_mark (codes "*")) x_is_name }

parens_star_ends : (place : Place) → CanEnd (BehindParensStar place)
parens_star_ends place = name_ends (close_size_ends _)

star_ends : (place : Place) → CanEnd (BehindStar place)
star_ends place = name_ends (ended_ends _)

size_can_end : (aliases : List (List ℕ)) (reader : SizeReader) → CanEnd (CompletesSize aliases reader)
size_can_end aliases SizeReader.Start = sizes_end aliases
size_can_end aliases (SizeReader.Sizeof place) = right_ends (mark_ends (codes "*") (star_ends place))
size_can_end aliases (SizeReader.Parens place) = right_ends (mark_ends (codes "*") (parens_star_ends place))
size_can_end aliases (SizeReader.Base place reader) = turn_ends (base_can_end aliases reader) (close_size_ends _)
size_can_end aliases (SizeReader.ParensStar place) = parens_star_ends place
size_can_end aliases (SizeReader.Star place) = star_ends place
size_can_end aliases (SizeReader.Close size) = close_size_ends size

-- allocations
close_malloc_ends : (malloc : Malloc) → CanEnd (ClosingMalloc malloc)
close_malloc_ends malloc = mark_ends (codes ")") (ended_ends malloc)

malloc_ends : (aliases : List (List ℕ)) (cast : Option Cast) (place : Place) → CanEnd (BehindMalloc aliases cast place)
malloc_ends aliases cast place = mark_ends (codes "(") (turn_ends (sizes_end aliases) (close_malloc_ends _))

cast_ends : (aliases : List (List ℕ)) (cast : Cast) → CanEnd (BehindCast aliases cast)
cast_ends aliases cast = next_ends (word_token (codes "malloc")) (is_word (codes "malloc")) (malloc_ends aliases (Some cast) somewhere)

cast_end_ends : (aliases : List (List ℕ)) (cast : Cast) → CanEnd (ClosingCast aliases cast)
cast_end_ends aliases cast = mark_ends (codes ")") (cast_ends aliases cast)

cast_base_ends : (aliases : List (List ℕ)) (place : Place) (base : Base) → CanEnd (BehindCastBase aliases place base)
cast_base_ends aliases place base = right_ends (cast_end_ends aliases _)

allocation_can_end : (aliases : List (List ℕ)) (reader : AllocationReader) → CanEnd (CompletesAllocation aliases reader)
allocation_can_end aliases (AllocationReader.Base place reader) = let b = base_can_end aliases reader in turn_ends b (cast_base_ends aliases place b.tree)
allocation_can_end aliases (AllocationReader.CastBase place base) = cast_base_ends aliases place base
allocation_can_end aliases (AllocationReader.CastEnd cast) = cast_end_ends aliases cast
allocation_can_end aliases (AllocationReader.Cast cast) = cast_ends aliases cast
allocation_can_end aliases (AllocationReader.Malloc cast place) = malloc_ends aliases cast place
allocation_can_end aliases (AllocationReader.Size cast place reader) = turn_ends (size_can_end aliases reader) (close_malloc_ends _)
allocation_can_end aliases (AllocationReader.Close malloc) = close_malloc_ends malloc

-- expressions, where the readers of mc_c_parse_expr can end
unary_ends : CanEnd (λ tokens rest u. IsUnary u tokens rest)
unary_ends = record { more = word_token (codes "NULL") ∷ []; tree = null somewhere; completes = λ rest. null_word (is_word (codes "NULL")) }

operand_ends : (u : Expr) → CanEnd (BehindOperand u)
operand_ends u = record { more = []; tree = u; completes = λ rest. in_turn no_factor no_term }

name_can_end : (name : Name) → CanEnd (BehindName name)
name_can_end name = record { more = []; tree = _; completes = λ rest. in_turn none (in_turn no_factor no_term) }

sums_end : CanEnd Sums
sums_end = record { more = word_token (codes "NULL") ∷ []; tree = null somewhere; completes = λ rest. sum_of (product (null_word (is_word (codes "NULL"))) no_factor) no_term }

in_parens_ends : (place : Place) {inner : Tokens → Tokens → Expr → Type 0} → CanEnd inner → CanEnd (InParens place inner)
in_parens_ends place e = turn_ends e (mark_ends (codes ")") (operand_ends (parens place e.tree)))

-- calls
arguments_end : (name : Name) (es : List Expr) → CanEnd (BehindArguments name es)
arguments_end name es = record { more = mark_token (codes ")") ∷ []; tree = _; completes = λ rest. behind_arguments no_more (is_mark (codes ")")) }

module _ (expressions : (r : ExpressionReader) → CanEnd (CompletesExpression r)) where
  arguments_can_end : (name : Name) (es : List Expr) (state : CallState) → CanEnd (CompletesArguments name es state)
  arguments_can_end name es CallState.First = left_ends (mark_ends (codes ")") (ended_ends _))
  arguments_can_end name es (CallState.Argument reader) = turn_ends (expressions reader.value) (arguments_end name _)

  pub call_can_end : (reader : CallReader) → CanEnd (CompletesCall reader)
  call_can_end reader = arguments_can_end reader.function (expressions_of reader.arguments.items) reader.state

  right_state_can_end : (aliases : List (List ℕ)) (state : RightState) → CanEnd (CompletesRightState aliases state)
  right_state_can_end aliases RightState.Start = record { more = sums_end.more; tree = expression sums_end.tree; completes = λ rest. sum (sums_end.completes rest) }
  right_state_can_end aliases (RightState.Named name) = left_ends (made_ends expression (name_can_end name))
  right_state_can_end aliases (RightState.Opened place) = left_ends (made_ends expression (in_parens_ends place sums_end))
  right_state_can_end aliases (RightState.OpenedAlias place name) = left_ends (made_ends expression (in_parens_ends place (name_can_end name)))
  right_state_can_end aliases (RightState.OpenedStar place name star) = left_ends (made_ends expression (in_parens_ends place (turn_ends unary_ends (operand_ends _))))
  right_state_can_end aliases (RightState.Enclosed place name) = left_ends (made_ends expression (operand_ends _))
  right_state_can_end aliases (RightState.Parens place reader) = made_ends expression (in_parens_ends place (expressions reader.value))
  right_state_can_end aliases (RightState.Sum reader) = made_ends expression (expressions reader.value)
  right_state_can_end aliases (RightState.Call reader) = made_ends result_of (call_can_end reader)
  right_state_can_end aliases (RightState.Allocation reader) = made_ends allocation (allocation_can_end aliases reader)
  right_state_can_end aliases (RightState.Done right) = ended_ends (right_of right)

  pub right_can_end : (aliases : List (List ℕ)) (reader : RightReader) → CanEnd (CompletesRight aliases reader)
  right_can_end aliases reader = right_state_can_end aliases reader.state

  -- simple statements
  fields_end : (l : Left) → CanEnd (MoreFields l)
  fields_end l = record { more = []; tree = l; completes = λ rest. none }

  left_can_end : (aliases : List (List ℕ)) (l : Left) → CanEnd (InLeft aliases l)
  left_can_end aliases l = record { more = mark_token (codes "++") ∷ []; tree = _; completes = λ rest. in_turn none (increments (is_mark (codes "++"))) }

  first_can_end : (change : Change) (place : Place) (l : Left) → CanEnd (InFirst change place l)
  first_can_end change place l = made_ends (changed_first change place) (fields_end l)

  simple_state_can_end : (aliases : List (List ℕ)) (state : SimpleState) → CanEnd (CompletesSimpleState aliases state)
  simple_state_can_end aliases SimpleState.Start = record { more = word_token (codes "x") ∷ mark_token (codes "++") ∷ []; tree = _; completes = λ rest. incremented (named x_is_name none) (is_mark (codes "++")) }
  simple_state_can_end aliases (SimpleState.First change place) = name_ends (first_can_end change place _)
  simple_state_can_end aliases (SimpleState.FirstLeft change place l) = first_can_end change place (left_of l)
  simple_state_can_end aliases (SimpleState.FirstArrow change place l) = name_ends (first_can_end change place _)
  simple_state_can_end aliases (SimpleState.Named name) = left_ends (left_can_end aliases (just name))
  simple_state_can_end aliases (SimpleState.Left l) = left_can_end aliases (left_of l)
  simple_state_can_end aliases (SimpleState.Arrow l) = name_ends (left_can_end aliases _)
  simple_state_can_end aliases (SimpleState.Assign l reader) = made_ends (assign (left_of l)) (right_can_end aliases reader)
  simple_state_can_end aliases (SimpleState.ChangeBy change l reader) = made_ends (changed_by change (left_of l)) (expressions reader.value)
  simple_state_can_end aliases (SimpleState.Call reader) = made_ends call (call_can_end reader)
  simple_state_can_end aliases (SimpleState.Done simple) = ended_ends (simple_of simple)

  pub simple_can_end : (aliases : List (List ℕ)) (reader : SimpleReader) → CanEnd (CompletesSimple aliases reader)
  simple_can_end aliases reader = simple_state_can_end aliases reader.state

  -- declarations
  initials_end : (aliases : List (List ℕ)) (base : Base) (is : List InitialTree) → CanEnd (BehindInitials aliases base is)
  initials_end aliases base is = record { more = mark_token (codes ";") ∷ []; tree = _; completes = λ rest. behind_initials last_initial (is_mark (codes ";")) }

  comma_ends : (aliases : List (List ℕ)) (base : Base) (is : List InitialTree) → CanEnd (BehindComma aliases base is)
  comma_ends aliases base is = record { more = word_token (codes "x") ∷ mark_token (codes ";") ∷ []; tree = _; completes = λ rest. in_turn (bare (declarator no_star x_is_name)) (behind_initials last_initial (is_mark (codes ";"))) }

  declaration_state_can_end : (aliases : List (List ℕ)) (base : Base) (is : List InitialTree) (state : DeclarationState) → CanEnd (CompletesDeclarationState aliases base is state)
  declaration_state_can_end aliases base is DeclarationState.Start = comma_ends aliases base is
  declaration_state_can_end aliases base is (DeclarationState.Pointer place) = name_ends (left_ends (initials_end aliases base _))
  declaration_state_can_end aliases base is (DeclarationState.Named d) = left_ends (initials_end aliases base _)
  declaration_state_can_end aliases base is (DeclarationState.Value d reader) = turn_ends (right_can_end aliases reader) (initials_end aliases base _)

  pub declaration_can_end : (aliases : List (List ℕ)) (reader : DeclarationReader) → CanEnd (CompletesDeclaration aliases reader)
  declaration_can_end aliases reader = declaration_state_can_end aliases reader.base (map initial_of reader.items.items) reader.state
