-- How trees are spelled. `IsSum e tokens rest`: the tokens begin with those of the sum e, and go on with the rest.
use Rattle.std.specs.Prelude.{◌≡◌, ℕ, List, [], ◌∷◌, ◌++◌, Option, Some, None, codes, map}
use Rattle.mc_base.specs.declared.text.place.Place.{Place}
use Rattle.mc_base.specs.declared.text.token.Token.{Token}
use Rattle.mc_base.specs.declared.text.token.TokenKind.TheVariants as TokenKind
use Rattle.mc_c_syntax.specs.declared.ast.trees.Comparison.{Comparison}
use Rattle.mc_c_syntax.specs.declared.ast.trees.Base.{Base}
use Rattle.mc_c_syntax.specs.declared.ast.trees.Declarator.{Declarator}
use Rattle.mc_c_syntax.specs.declared.ast.trees.Cast.{Cast}
use Rattle.mc_c_syntax.specs.declared.ast.trees.Size.{Size}
use Rattle.mc_c_syntax.specs.declared.ast.trees.Argument.{Argument}
use Rattle.mc_c_syntax.specs.declared.ast.trees.Returned.{Returned}
use Rattle.mc_c_syntax.specs.declared.ast.trees.Parameter.{Parameter}
use Rattle.mc_c_syntax.specs.Ast.Trees.{Left, Expr, number, null, input, value, minus, parens, times, plus, difference, Cond}
use Rattle.mc_c_syntax.specs.Ast.Trees.{plain, compare, negation, enclosed, both, either, CallTree, Right, expression}
use Rattle.mc_c_syntax.specs.Ast.Trees.{result_of, allocation}
use Rattle.mc_c_syntax.specs.Ast.Trees.{InitialTree, DeclarationTree, SimpleTree, assign, add, subtract, increment}
use Rattle.mc_c_syntax.specs.Ast.Trees.{decrement, increment_first, decrement_first, call, Start, nothing, declares}
use Rattle.mc_c_syntax.specs.Ast.Trees.{performs, Head, Stmt, declaration, block, empty, simple, free, assert, assume}
use Rattle.mc_c_syntax.specs.Ast.Trees.{assume_shape, assert_shape, assert_empty, if_only, if_else, while_loop, do_loop}
use Rattle.mc_c_syntax.specs.Ast.Trees.{for_loop, break_loop, continue_loop, returns, stmts_of, FieldTree, StructTree}
use Rattle.mc_c_syntax.specs.Ast.Trees.{AliasedTree, of_base, of_struct, TypedefTree, ParametersTree, unnamed, void, listed}
use Rattle.mc_c_syntax.specs.Ast.Trees.{BodyTree, FunctionTree, ItemTree, structure, typedef, function, UnitTree}
use Rattle.mc_c_syntax.specs.Ast.Names.{Tokens, IsMark, IsWord, IsName, IsNumber, IsAlias, name_of, mark_of, IsNoElse}

-- `->` and names, after a variable or field
pub data Fields : Left → Tokens → Left → Tokens → Type 0 where
  none : {l : Left} {tokens : Tokens} → Fields l tokens l tokens
  more : {l all : Left} {arrow name : Token} {tokens rest : Tokens} → IsMark (codes "->") arrow → IsName name
      → Fields (record { name = l.name; fields = l.fields ++ name_of name ∷ [] }) tokens all rest
      → Fields l (arrow ∷ name ∷ tokens) all rest

-- a variable, or a field after it
pub data IsLeft : Left → Tokens → Tokens → Type 0 where
  named : {l : Left} {name : Token} {tokens rest : Tokens} → IsName name
      → Fields (record { name = name_of name; fields = [] }) tokens l rest → IsLeft l (name ∷ tokens) rest

mutual
  -- a number, `NULL`, `input()`, a variable or field, one of these after `-`, or an expression in parentheses
  pub data IsUnary : Expr → Tokens → Tokens → Type 0 where
    negative : {e : Expr} {token : Token} {tokens rest : Tokens} → IsMark (codes "-") token → IsUnary e tokens rest
        → IsUnary (minus token.place e) (token ∷ tokens) rest
    numeral : {n : ℕ} {token : Token} {tokens : Tokens} → IsNumber token n → IsUnary (number n token.place) (token ∷ tokens) tokens
    null_word : {token : Token} {tokens : Tokens} → IsWord (codes "NULL") token → IsUnary (null token.place) (token ∷ tokens) tokens
    input_call : {token before after : Token} {tokens : Tokens} → IsWord (codes "input") token
        → IsMark (codes "(") before → IsMark (codes ")") after
        → IsUnary (input token.place) (token ∷ before ∷ after ∷ tokens) tokens
    variable : {l : Left} {tokens rest : Tokens} → IsLeft l tokens rest → IsUnary (value l) tokens rest
    in_parens : {e : Expr} {before after : Token} {tokens rest : Tokens}
        → IsMark (codes "(") before → IsSum e tokens (after ∷ rest) → IsMark (codes ")") after
        → IsUnary (parens before.place e) (before ∷ tokens) rest

  -- `*` and what it multiplies by, as often as one likes, from the left
  pub data Factors : Expr → Tokens → Expr → Tokens → Type 0 where
    no_factor : {e : Expr} {tokens : Tokens} → Factors e tokens e tokens
    factor : {a b e : Expr} {star : Token} {tokens mid rest : Tokens} → IsMark (codes "*") star
        → IsUnary b tokens mid → Factors (times a b) mid e rest → Factors a (star ∷ tokens) e rest

  -- a product
  pub data IsTerm : Expr → Tokens → Tokens → Type 0 where
    product : {a e : Expr} {tokens mid rest : Tokens} → IsUnary a tokens mid → Factors a mid e rest → IsTerm e tokens rest

  -- `+` or `-` and what is added or taken away, as often as one likes, from the left
  pub data Terms : Expr → Tokens → Expr → Tokens → Type 0 where
    no_term : {e : Expr} {tokens : Tokens} → Terms e tokens e tokens
    added : {a b e : Expr} {mark : Token} {tokens mid rest : Tokens} → IsMark (codes "+") mark → IsTerm b tokens mid
        → Terms (plus a b) mid e rest → Terms a (mark ∷ tokens) e rest
    taken : {a b e : Expr} {mark : Token} {tokens mid rest : Tokens} → IsMark (codes "-") mark → IsTerm b tokens mid
        → Terms (difference a b) mid e rest → Terms a (mark ∷ tokens) e rest

  -- a sum, which is an expression
  pub data IsSum : Expr → Tokens → Tokens → Type 0 where
    sum_of : {a e : Expr} {tokens mid rest : Tokens} → IsTerm a tokens mid → Terms a mid e rest → IsSum e tokens rest

-- a condition that is no plain expression
abbrev pub IsProper : Cond → Type 0
IsProper (plain e) = ⊥
IsProper (compare c a b) = Unit {0}
IsProper (negation p c) = Unit {0}
IsProper (enclosed p c) = Unit {0}
IsProper (both c d) = Unit {0}
IsProper (either c d) = Unit {0}

mutual
  -- `!` before a `!`, a variable or field, `input()`, or a condition in parentheses
  pub data IsBang : Cond → Tokens → Tokens → Type 0 where
    bang_bang : {c : Cond} {token : Token} {tokens rest : Tokens} → IsMark (codes "!") token → IsBang c tokens rest
        → IsBang (negation token.place c) (token ∷ tokens) rest
    bang_variable : {l : Left} {token : Token} {tokens rest : Tokens} → IsMark (codes "!") token
        → IsLeft l tokens rest → IsBang (negation token.place (plain (value l))) (token ∷ tokens) rest
    bang_input : {token word before after : Token} {tokens : Tokens} → IsMark (codes "!") token
        → IsWord (codes "input") word → IsMark (codes "(") before → IsMark (codes ")") after
        → IsBang (negation token.place (plain (input word.place))) (token ∷ word ∷ before ∷ after ∷ tokens) tokens
    bang_parens : {c : Cond} {token before after : Token} {tokens rest : Tokens} → IsMark (codes "!") token
        → IsMark (codes "(") before → IsCondition c tokens (after ∷ rest) → IsMark (codes ")") after
        → IsBang (negation token.place (enclosed before.place c)) (token ∷ before ∷ tokens) rest

  -- what `&&` and `||` join; parentheses that can be read both ways are an expression
  pub data IsOne : Cond → Tokens → Tokens → Type 0 where
    plain_one : {e : Expr} {tokens rest : Tokens} → IsSum e tokens rest → IsOne (plain e) tokens rest
    comparison : {a b : Expr} {c : Comparison} {mark : Token} {tokens mid rest : Tokens}
        → IsSum a tokens (mark ∷ mid) → IsMark (mark_of c) mark → IsSum b mid rest → IsOne (compare c a b) tokens rest
    negated : {c : Cond} {tokens rest : Tokens} → IsBang c tokens rest → IsOne c tokens rest
    condition_parens : {c : Cond} {before after : Token} {tokens rest : Tokens}
        → IsMark (codes "(") before → IsCondition c tokens (after ∷ rest) → IsMark (codes ")") after → IsProper c
        → IsOne (enclosed before.place c) (before ∷ tokens) rest

  -- `&&` and a condition, as often as one likes, from the left
  pub data Boths : Cond → Tokens → Cond → Tokens → Type 0 where
    no_both : {c : Cond} {tokens : Tokens} → Boths c tokens c tokens
    one_more : {a b c : Cond} {mark : Token} {tokens mid rest : Tokens} → IsMark (codes "&&") mark
        → IsOne b tokens mid → Boths (both a b) mid c rest → Boths a (mark ∷ tokens) c rest

  -- conditions joined by `&&`
  pub data IsBoth : Cond → Tokens → Tokens → Type 0 where
    all_of : {a c : Cond} {tokens mid rest : Tokens} → IsOne a tokens mid → Boths a mid c rest → IsBoth c tokens rest

  -- `||` and a condition, as often as one likes, from the left
  pub data Eithers : Cond → Tokens → Cond → Tokens → Type 0 where
    no_either : {c : Cond} {tokens : Tokens} → Eithers c tokens c tokens
    or_else : {a b c : Cond} {mark : Token} {tokens mid rest : Tokens} → IsMark (codes "||") mark
        → IsBoth b tokens mid → Eithers (either a b) mid c rest → Eithers a (mark ∷ tokens) c rest

  -- a condition
  pub data IsCondition : Cond → Tokens → Tokens → Type 0 where
    any_of : {a c : Cond} {tokens mid rest : Tokens} → IsBoth a tokens mid → Eithers a mid c rest → IsCondition c tokens rest

-- `,` and an expression, as often as one likes; es are those before
pub data MoreExpressions : List Expr → Tokens → List Expr → Tokens → Type 0 where
  last : {es : List Expr} {tokens : Tokens} → MoreExpressions es tokens es tokens
  next : {e : Expr} {es all : List Expr} {comma : Token} {tokens mid rest : Tokens} → IsMark (codes ",") comma
      → IsSum e tokens mid → MoreExpressions (es ++ e ∷ []) mid all rest
      → MoreExpressions es (comma ∷ tokens) all rest

-- a call
pub data IsCall : CallTree → Tokens → Tokens → Type 0 where
  without : {name before after : Token} {tokens : Tokens} → IsName name
      → IsMark (codes "(") before → IsMark (codes ")") after
      → IsCall (record { function = name_of name; arguments = [] }) (name ∷ before ∷ after ∷ tokens) tokens
  with_some : {e : Expr} {es : List Expr} {name before after : Token} {tokens mid rest : Tokens} → IsName name
      → IsMark (codes "(") before → IsSum e tokens mid → MoreExpressions (e ∷ []) mid es (after ∷ rest)
      → IsMark (codes ")") after → IsCall (record { function = name_of name; arguments = es }) (name ∷ before
      ∷ tokens) rest

-- `int`, `struct S`, or a name that a typedef introduced
pub data IsBase (aliases : List (List ℕ)) : Base → Tokens → Tokens → Type 0 where
  int : {token : Token} {tokens : Tokens} → IsWord (codes "int") token → IsBase aliases (Base.Int token.place) (token ∷ tokens) tokens
  tagged : {token name : Token} {tokens : Tokens} → IsWord (codes "struct") token → IsName name
      → IsBase aliases (Base.Struct token.place (name_of name)) (token ∷ name ∷ tokens) tokens
  alias : {token : Token} {tokens : Tokens} → IsAlias aliases token → IsBase aliases (Base.Alias (name_of token)) (token ∷ tokens) tokens

-- `*`, or nothing
pub data IsStar : Option Place → Tokens → Tokens → Type 0 where
  star : {token : Token} {tokens : Tokens} → IsMark (codes "*") token → IsStar (Some token.place) (token ∷ tokens) tokens
  no_star : {tokens : Tokens} → IsStar None tokens tokens

-- a name, perhaps after a `*`
pub data IsDeclarator : Declarator → Tokens → Tokens → Type 0 where
  declarator : {pointer : Option Place} {name : Token} {tokens rest : Tokens} → IsStar pointer tokens (name ∷ rest)
      → IsName name → IsDeclarator (record { pointer = pointer; name = name_of name }) tokens rest

-- a cast before `malloc`, or nothing
pub data IsCast (aliases : List (List ℕ)) : Option Cast → Tokens → Tokens → Type 0 where
  no_cast : {tokens : Tokens} → IsCast aliases None tokens tokens
  cast : {base : Base} {pointer : Option Place} {before after : Token} {tokens mid rest : Tokens}
      → IsMark (codes "(") before → IsBase aliases base tokens mid → IsStar pointer mid (after ∷ rest)
      → IsMark (codes ")") after → IsCast aliases (Some (record {
        place = before.place;
        base = base;
        pointer = pointer;
      })) (before ∷ tokens) rest

-- what `malloc` allocates
pub data IsSize (aliases : List (List ℕ)) : Size → Tokens → Tokens → Type 0 where
  of_type : {base : Base} {word before after : Token} {tokens rest : Tokens} → IsWord (codes "sizeof") word
      → IsMark (codes "(") before → IsBase aliases base tokens (after ∷ rest) → IsMark (codes ")") after
      → IsSize aliases (Size.OfType word.place base) (word ∷ before ∷ tokens) rest
  of_parens : {word before star name after : Token} {rest : Tokens} → IsWord (codes "sizeof") word
      → IsMark (codes "(") before → IsMark (codes "*") star → IsName name → IsMark (codes ")") after
      → IsSize aliases (Size.OfParens word.place (name_of name)) (word ∷ before ∷ star ∷ name ∷ after ∷ rest) rest
  of_value : {word star name : Token} {rest : Tokens} → IsWord (codes "sizeof") word → IsMark (codes "*") star
      → IsName name → IsSize aliases (Size.OfValue word.place (name_of name)) (word ∷ star ∷ name ∷ rest) rest

-- the right side of an assignment, or a value that is returned
pub data IsRight (aliases : List (List ℕ)) : Right → Tokens → Tokens → Type 0 where
  sum : {e : Expr} {tokens rest : Tokens} → IsSum e tokens rest → IsRight aliases (expression e) tokens rest
  called : {c : CallTree} {tokens rest : Tokens} → IsCall c tokens rest → IsRight aliases (result_of c) tokens rest
  allocated : {cast : Option Cast} {size : Size} {word before after : Token} {tokens mid rest : Tokens}
      → IsCast aliases cast tokens (word ∷ before ∷ mid) → IsWord (codes "malloc") word
      → IsMark (codes "(") before → IsSize aliases size mid (after ∷ rest) → IsMark (codes ")") after
      → IsRight aliases (allocation (record { cast = cast; place = word.place; size = size })) tokens rest

-- a declarator, perhaps with its value
pub data IsInitial (aliases : List (List ℕ)) : InitialTree → Tokens → Tokens → Type 0 where
  bare : {d : Declarator} {tokens rest : Tokens} → IsDeclarator d tokens rest
      → IsInitial aliases (record { declarator = d; value = None }) tokens rest
  with_value : {d : Declarator} {r : Right} {mark : Token} {tokens mid rest : Tokens}
      → IsDeclarator d tokens (mark ∷ mid) → IsMark (codes "=") mark → IsRight aliases r mid rest
      → IsInitial aliases (record { declarator = d; value = Some r }) tokens rest

-- `,` and a declarator, as often as one likes
pub data MoreInitials (aliases : List (List ℕ)) : List InitialTree → Tokens → List InitialTree → Tokens → Type 0 where
  last_initial : {is : List InitialTree} {tokens : Tokens} → MoreInitials aliases is tokens is tokens
  next_initial : {i : InitialTree} {is all : List InitialTree} {comma : Token} {tokens mid rest : Tokens}
      → IsMark (codes ",") comma → IsInitial aliases i tokens mid
      → MoreInitials aliases (is ++ i ∷ []) mid all rest → MoreInitials aliases is (comma ∷ tokens) all rest

-- a declaration with its `;`
pub data IsDeclaration (aliases : List (List ℕ)) : DeclarationTree → Tokens → Tokens → Type 0 where
  declared : {base : Base} {i : InitialTree} {is : List InitialTree} {semicolon : Token}
      {tokens mid behind rest : Tokens} → IsBase aliases base tokens mid → IsInitial aliases i mid behind
      → MoreInitials aliases (i ∷ []) behind is (semicolon ∷ rest) → IsMark (codes ";") semicolon
      → IsDeclaration aliases (record { base = base; items = is }) tokens rest

-- a simple statement without its `;`
pub data IsSimple (aliases : List (List ℕ)) : SimpleTree → Tokens → Tokens → Type 0 where
  assigned : {l : Left} {r : Right} {mark : Token} {tokens mid rest : Tokens} → IsLeft l tokens (mark ∷ mid)
      → IsMark (codes "=") mark → IsRight aliases r mid rest → IsSimple aliases (assign l r) tokens rest
  adding : {l : Left} {e : Expr} {mark : Token} {tokens mid rest : Tokens} → IsLeft l tokens (mark ∷ mid)
      → IsMark (codes "+=") mark → IsSum e mid rest → IsSimple aliases (add l e) tokens rest
  subtracting : {l : Left} {e : Expr} {mark : Token} {tokens mid rest : Tokens} → IsLeft l tokens (mark ∷ mid)
      → IsMark (codes "-=") mark → IsSum e mid rest → IsSimple aliases (subtract l e) tokens rest
  incremented : {l : Left} {mark : Token} {tokens rest : Tokens} → IsLeft l tokens (mark ∷ rest)
      → IsMark (codes "++") mark → IsSimple aliases (increment l) tokens rest
  decremented : {l : Left} {mark : Token} {tokens rest : Tokens} → IsLeft l tokens (mark ∷ rest)
      → IsMark (codes "--") mark → IsSimple aliases (decrement l) tokens rest
  incremented_first : {l : Left} {mark : Token} {tokens rest : Tokens} → IsMark (codes "++") mark
      → IsLeft l tokens rest → IsSimple aliases (increment_first mark.place l) (mark ∷ tokens) rest
  decremented_first : {l : Left} {mark : Token} {tokens rest : Tokens} → IsMark (codes "--") mark
      → IsLeft l tokens rest → IsSimple aliases (decrement_first mark.place l) (mark ∷ tokens) rest
  performed : {c : CallTree} {tokens rest : Tokens} → IsCall c tokens rest → IsSimple aliases (call c) tokens rest

-- an argument of a shape command
pub data IsArgument : Argument → Tokens → Tokens → Type 0 where
  name_argument : {token : Token} {tokens : Tokens} → IsName token → IsArgument (Argument.Name (name_of token)) (token ∷ tokens) tokens
  null_argument : {token : Token} {tokens : Tokens} → IsWord (codes "NULL") token
      → IsArgument (Argument.Null token.place) (token ∷ tokens) tokens
  number_argument : {n : ℕ} {token : Token} {tokens : Tokens} → IsNumber token n
      → IsArgument (Argument.Number n token.place) (token ∷ tokens) tokens
  negative_argument : {n : ℕ} {mark token : Token} {tokens : Tokens} → IsMark (codes "-") mark → IsNumber token n
      → IsArgument (Argument.Negative n mark.place) (mark ∷ token ∷ tokens) tokens

-- `,` and an argument, as often as one likes
pub data MoreArguments : List Argument → Tokens → List Argument → Tokens → Type 0 where
  last_argument : {args : List Argument} {tokens : Tokens} → MoreArguments args tokens args tokens
  next_argument : {a : Argument} {args all : List Argument} {comma : Token} {tokens mid rest : Tokens}
      → IsMark (codes ",") comma → IsArgument a tokens mid → MoreArguments (args ++ a ∷ []) mid all rest
      → MoreArguments args (comma ∷ tokens) all rest

-- what a `for` begins with, with its first `;`
pub data IsStart (aliases : List (List ℕ)) : Start → Tokens → Tokens → Type 0 where
  starts_empty : {semicolon : Token} {tokens : Tokens} → IsMark (codes ";") semicolon → IsStart aliases nothing (semicolon ∷ tokens) tokens
  starts_declaring : {d : DeclarationTree} {tokens rest : Tokens} → IsDeclaration aliases d tokens rest
      → IsStart aliases (declares d) tokens rest
  starts_performing : {s : SimpleTree} {semicolon : Token} {tokens rest : Tokens}
      → IsSimple aliases s tokens (semicolon ∷ rest) → IsMark (codes ";") semicolon
      → IsStart aliases (performs s) tokens rest

-- a condition, or nothing
pub data IsMaybeCondition : Option Cond → Tokens → Tokens → Type 0 where
  no_condition : {tokens : Tokens} → IsMaybeCondition None tokens tokens
  condition : {c : Cond} {tokens rest : Tokens} → IsCondition c tokens rest → IsMaybeCondition (Some c) tokens rest

-- a simple statement, or nothing
pub data IsMaybeSimple (aliases : List (List ℕ)) : Option SimpleTree → Tokens → Tokens → Type 0 where
  no_simple : {tokens : Tokens} → IsMaybeSimple aliases None tokens tokens
  some_simple : {s : SimpleTree} {tokens rest : Tokens} → IsSimple aliases s tokens rest → IsMaybeSimple aliases (Some s) tokens rest

-- the parentheses of a `for`, from its word on
pub data IsHead (aliases : List (List ℕ)) : Head → Tokens → Tokens → Type 0 where
  head : {start : Start} {condition : Option Cond} {last : Option SimpleTree} {word before semicolon after : Token}
      {tokens mid behind rest : Tokens} → IsWord (codes "for") word
      → IsMark (codes "(") before → IsStart aliases start tokens mid → IsMaybeCondition condition mid (semicolon ∷ behind)
      → IsMark (codes ";") semicolon → IsMaybeSimple aliases last behind (after ∷ rest) → IsMark (codes ")") after
      → IsHead aliases (record { place = word.place; start = start; condition = condition; last = last })
      (word ∷ before ∷ tokens) rest

mutual
  -- a statement; an `else` belongs to the nearest `if`
  pub data IsStatement (aliases : List (List ℕ)) : Stmt → Tokens → Tokens → Type 0 where
    declares_statement : {d : DeclarationTree} {tokens rest : Tokens} → IsDeclaration aliases d tokens rest
        → IsStatement aliases (declaration d) tokens rest
    block_statement : {ss : List Stmt} {before after : Token} {tokens rest : Tokens}
        → IsMark (codes "{") before → MoreStatements aliases [] tokens ss (after ∷ rest) → IsMark (codes "}") after
        → IsStatement aliases (block before.place (stmts_of ss)) (before ∷ tokens) rest
    empty_statement : {semicolon : Token} {rest : Tokens} → IsMark (codes ";") semicolon
        → IsStatement aliases (empty semicolon.place) (semicolon ∷ rest) rest
    simple_statement : {s : SimpleTree} {semicolon : Token} {tokens rest : Tokens}
        → IsSimple aliases s tokens (semicolon ∷ rest) → IsMark (codes ";") semicolon
        → IsStatement aliases (simple s) tokens rest
    free_statement : {e : Expr} {word before after semicolon : Token} {tokens rest : Tokens}
        → IsWord (codes "free") word → IsMark (codes "(") before → IsSum e tokens (after ∷ semicolon ∷ rest)
        → IsMark (codes ")") after → IsMark (codes ";") semicolon
        → IsStatement aliases (free word.place e) (word ∷ before ∷ tokens) rest
    assert_statement : {c : Cond} {word before after semicolon : Token} {tokens rest : Tokens}
        → IsWord (codes "assert") word
        → IsMark (codes "(") before → IsCondition c tokens (after ∷ semicolon ∷ rest) → IsMark (codes ")") after
        → IsMark (codes ";") semicolon → IsStatement aliases (assert word.place c) (word ∷ before ∷ tokens) rest
    assume_statement : {c : Cond} {word before after semicolon : Token} {tokens rest : Tokens}
        → IsWord (codes "assume") word
        → IsMark (codes "(") before → IsCondition c tokens (after ∷ semicolon ∷ rest) → IsMark (codes ")") after
        → IsMark (codes ";") semicolon → IsStatement aliases (assume word.place c) (word ∷ before ∷ tokens) rest
    assume_shape_statement : {args : List Argument} {word before predicate comma variable after semicolon : Token}
        {tokens rest : Tokens} → IsWord (codes "assume_shape") word
        → IsMark (codes "(") before → IsName predicate → IsMark (codes ",") comma → IsName variable
        → MoreArguments [] tokens args (after ∷ semicolon ∷ rest) → IsMark (codes ")") after
        → IsMark (codes ";") semicolon → IsStatement aliases (assume_shape word.place (name_of predicate)
        (name_of variable) args) (word ∷ before ∷ predicate ∷ comma ∷ variable ∷ tokens) rest
    assert_shape_statement : {a : Argument} {args : List Argument}
        {word before predicate comma after semicolon : Token} {tokens mid rest : Tokens}
        → IsWord (codes "assert_shape") word → IsMark (codes "(") before → IsName predicate → IsMark (codes ",") comma
        → IsArgument a tokens mid → MoreArguments [] mid args (after ∷ semicolon ∷ rest) → IsMark (codes ")") after
        → IsMark (codes ";") semicolon → IsStatement aliases (assert_shape word.place (name_of predicate) a args)
        (word ∷ before ∷ predicate ∷ comma ∷ tokens) rest
    assert_empty_statement : {word before after semicolon : Token} {rest : Tokens}
        → IsWord (codes "assert_empty") word → IsMark (codes "(") before → IsMark (codes ")") after
        → IsMark (codes ";") semicolon
        → IsStatement aliases (assert_empty word.place) (word ∷ before ∷ after ∷ semicolon ∷ rest) rest
    if_statement : {c : Cond} {s : Stmt} {word before after : Token} {tokens mid rest : Tokens}
        → IsWord (codes "if") word → IsMark (codes "(") before → IsCondition c tokens (after ∷ mid)
        → IsMark (codes ")") after → IsStatement aliases s mid rest → IsNoElse rest
        → IsStatement aliases (if_only word.place c s) (word ∷ before ∷ tokens) rest
    if_else_statement : {c : Cond} {s t : Stmt} {word before after otherwise : Token}
        {tokens mid behind rest : Tokens} → IsWord (codes "if") word
        → IsMark (codes "(") before → IsCondition c tokens (after ∷ mid) → IsMark (codes ")") after
        → IsStatement aliases s mid (otherwise ∷ behind) → IsWord (codes "else") otherwise
        → IsStatement aliases t behind rest → IsStatement aliases (if_else word.place c s t)
        (word ∷ before ∷ tokens) rest
    while_statement : {c : Cond} {s : Stmt} {word before after : Token} {tokens mid rest : Tokens}
        → IsWord (codes "while") word → IsMark (codes "(") before → IsCondition c tokens (after ∷ mid)
        → IsMark (codes ")") after → IsStatement aliases s mid rest
        → IsStatement aliases (while_loop word.place c s) (word ∷ before ∷ tokens) rest
    do_statement : {c : Cond} {s : Stmt} {word again before after semicolon : Token} {tokens mid rest : Tokens}
        → IsWord (codes "do") word → IsStatement aliases s tokens (again ∷ before ∷ mid)
        → IsWord (codes "while") again
        → IsMark (codes "(") before → IsCondition c mid (after ∷ semicolon ∷ rest) → IsMark (codes ")") after
        → IsMark (codes ";") semicolon → IsStatement aliases (do_loop word.place s c) (word ∷ tokens) rest
    for_statement : {h : Head} {s : Stmt} {tokens mid rest : Tokens} → IsHead aliases h tokens mid
        → IsStatement aliases s mid rest → IsStatement aliases (for_loop h s) tokens rest
    break_statement : {word semicolon : Token} {rest : Tokens} → IsWord (codes "break") word
        → IsMark (codes ";") semicolon → IsStatement aliases (break_loop word.place) (word ∷ semicolon ∷ rest) rest
    continue_statement : {word semicolon : Token} {rest : Tokens} → IsWord (codes "continue") word
        → IsMark (codes ";") semicolon
        → IsStatement aliases (continue_loop word.place) (word ∷ semicolon ∷ rest) rest
    return_statement : {word semicolon : Token} {rest : Tokens} → IsWord (codes "return") word
        → IsMark (codes ";") semicolon
        → IsStatement aliases (returns word.place None) (word ∷ semicolon ∷ rest) rest
    return_value : {r : Right} {word semicolon : Token} {tokens rest : Tokens} → IsWord (codes "return") word
        → IsRight aliases r tokens (semicolon ∷ rest) → IsMark (codes ";") semicolon
        → IsStatement aliases (returns word.place (Some r)) (word ∷ tokens) rest

  -- statements, as many as one likes, after those that are there
  pub data MoreStatements (aliases : List (List ℕ)) : List Stmt → Tokens → List Stmt → Tokens → Type 0 where
    no_statement : {ss : List Stmt} {tokens : Tokens} → MoreStatements aliases ss tokens ss tokens
    next_statement : {s : Stmt} {ss all : List Stmt} {tokens mid rest : Tokens} → IsStatement aliases s tokens mid
        → MoreStatements aliases (ss ++ s ∷ []) mid all rest → MoreStatements aliases ss tokens all rest

-- `,` and a declarator, as often as one likes
pub data MoreDeclarators : List Declarator → Tokens → List Declarator → Tokens → Type 0 where
  last_declarator : {ds : List Declarator} {tokens : Tokens} → MoreDeclarators ds tokens ds tokens
  next_declarator : {d : Declarator} {ds all : List Declarator} {comma : Token} {tokens mid rest : Tokens}
      → IsMark (codes ",") comma → IsDeclarator d tokens mid → MoreDeclarators (ds ++ d ∷ []) mid all rest
      → MoreDeclarators ds (comma ∷ tokens) all rest

-- one declarator or more
pub data IsDeclarators : List Declarator → Tokens → Tokens → Type 0 where
  declarators : {d : Declarator} {ds : List Declarator} {tokens mid rest : Tokens} → IsDeclarator d tokens mid
      → MoreDeclarators (d ∷ []) mid ds rest → IsDeclarators ds tokens rest

-- fields of one base
pub data IsField (aliases : List (List ℕ)) : FieldTree → Tokens → Tokens → Type 0 where
  field : {base : Base} {ds : List Declarator} {semicolon : Token} {tokens mid rest : Tokens}
      → IsBase aliases base tokens mid → IsDeclarators ds mid (semicolon ∷ rest) → IsMark (codes ";") semicolon
      → IsField aliases (record { base = base; declarators = ds }) tokens rest

-- fields, as many as one likes, after those that are there
pub data MoreFields (aliases : List (List ℕ)) : List FieldTree → Tokens → List FieldTree → Tokens → Type 0 where
  no_field : {fs : List FieldTree} {tokens : Tokens} → MoreFields aliases fs tokens fs tokens
  next_field : {f : FieldTree} {fs all : List FieldTree} {tokens mid rest : Tokens} → IsField aliases f tokens mid
      → MoreFields aliases (fs ++ f ∷ []) mid all rest → MoreFields aliases fs tokens all rest

-- a struct with its fields, one at least
pub data IsStruct (aliases : List (List ℕ)) : StructTree → Tokens → Tokens → Type 0 where
  struct : {f : FieldTree} {fs : List FieldTree} {word name before after : Token} {tokens mid rest : Tokens}
      → IsWord (codes "struct") word → IsName name
      → IsMark (codes "{") before → IsField aliases f tokens mid
      → MoreFields aliases (f ∷ []) mid fs (after ∷ rest) → IsMark (codes "}") after
      → IsStruct aliases (record { place = word.place; name = name_of name; fields = fs }) (word ∷ name ∷ before
      ∷ tokens) rest

-- what a typedef gives names to
pub data IsAliased (aliases : List (List ℕ)) : AliasedTree → Tokens → Tokens → Type 0 where
  base_aliased : {base : Base} {tokens rest : Tokens} → IsBase aliases base tokens rest → IsAliased aliases (of_base base) tokens rest
  struct_aliased : {s : StructTree} {tokens rest : Tokens} → IsStruct aliases s tokens rest → IsAliased aliases (of_struct s) tokens rest

-- a typedef with its `;`
pub data IsTypedef (aliases : List (List ℕ)) : TypedefTree → Tokens → Tokens → Type 0 where
  introduces : {a : AliasedTree} {ds : List Declarator} {word semicolon : Token} {tokens mid rest : Tokens}
      → IsWord (codes "typedef") word → IsAliased aliases a tokens mid → IsDeclarators ds mid (semicolon ∷ rest)
      → IsMark (codes ";") semicolon → IsTypedef aliases (record {
        place = word.place;
        aliased = a;
        declarators = ds;
      }) (word ∷ tokens) rest

-- what a function gives
pub data IsReturned (aliases : List (List ℕ)) : Returned → Tokens → Tokens → Type 0 where
  gives_nothing : {word : Token} {rest : Tokens} → IsWord (codes "void") word
      → IsReturned aliases (Returned.Void word.place) (word ∷ rest) rest
  gives_value : {base : Base} {pointer : Option Place} {tokens mid rest : Tokens} → IsBase aliases base tokens mid
      → IsStar pointer mid rest → IsReturned aliases (Returned.Value base pointer) tokens rest

-- a parameter
pub data IsParameter (aliases : List (List ℕ)) : Parameter → Tokens → Tokens → Type 0 where
  parameter : {base : Base} {d : Declarator} {tokens mid rest : Tokens} → IsBase aliases base tokens mid
      → IsDeclarator d mid rest → IsParameter aliases (record { base = base; declarator = d }) tokens rest

-- `,` and a parameter, as often as one likes
pub data MoreParameters (aliases : List (List ℕ)) : List Parameter → Tokens → List Parameter → Tokens → Type 0 where
  last_parameter : {ps : List Parameter} {tokens : Tokens} → MoreParameters aliases ps tokens ps tokens
  next_parameter : {p : Parameter} {ps all : List Parameter} {comma : Token} {tokens mid rest : Tokens}
      → IsMark (codes ",") comma → IsParameter aliases p tokens mid
      → MoreParameters aliases (ps ++ p ∷ []) mid all rest → MoreParameters aliases ps (comma ∷ tokens) all rest

-- the parameters of a function
pub data IsParameters (aliases : List (List ℕ)) : ParametersTree → Tokens → Tokens → Type 0 where
  no_parameters : {tokens : Tokens} → IsParameters aliases unnamed tokens tokens
  void_parameters : {word : Token} {tokens : Tokens} → IsWord (codes "void") word
      → IsParameters aliases (void word.place) (word ∷ tokens) tokens
  some_parameters : {p : Parameter} {ps : List Parameter} {tokens mid rest : Tokens}
      → IsParameter aliases p tokens mid → MoreParameters aliases (p ∷ []) mid ps rest
      → IsParameters aliases (listed ps) tokens rest

-- `static`, or nothing
pub data IsStatic : Option Place → Tokens → Tokens → Type 0 where
  static_place : {word : Token} {tokens : Tokens} → IsWord (codes "static") word → IsStatic (Some word.place) (word ∷ tokens) tokens
  not_static : {tokens : Tokens} → IsStatic None tokens tokens

-- the block of a function, or the `;` of a prototype
pub data IsBody (aliases : List (List ℕ)) : Option BodyTree → Tokens → Tokens → Type 0 where
  prototype : {semicolon : Token} {rest : Tokens} → IsMark (codes ";") semicolon → IsBody aliases None (semicolon ∷ rest) rest
  body : {ss : List Stmt} {before after : Token} {tokens rest : Tokens}
      → IsMark (codes "{") before → MoreStatements aliases [] tokens ss (after ∷ rest) → IsMark (codes "}") after
      → IsBody aliases (Some (record { place = before.place; statements = ss })) (before ∷ tokens) rest

-- a function, or its prototype
pub data IsFunction (aliases : List (List ℕ)) : FunctionTree → Tokens → Tokens → Type 0 where
  defined : {static_place : Option Place} {returned : Returned} {parameters : ParametersTree}
      {body : Option BodyTree} {name before after : Token} {tokens mid more behind rest : Tokens}
      → IsStatic static_place tokens mid → IsReturned aliases returned mid (name ∷ before ∷ more) → IsName name
      → IsMark (codes "(") before → IsParameters aliases parameters more (after ∷ behind)
      → IsMark (codes ")") after → IsBody aliases body behind rest → IsFunction aliases (record {
        static_place = static_place;
        returned = returned;
        name = name_of name;
        parameters = parameters;
        body = body;
      }) tokens rest

-- a struct with its `;`, a typedef or a function
pub data IsItem (aliases : List (List ℕ)) : ItemTree → Tokens → Tokens → Type 0 where
  struct_item : {s : StructTree} {semicolon : Token} {tokens rest : Tokens}
      → IsStruct aliases s tokens (semicolon ∷ rest) → IsMark (codes ";") semicolon
      → IsItem aliases (structure s) tokens rest
  typedef_item : {t : TypedefTree} {tokens rest : Tokens} → IsTypedef aliases t tokens rest → IsItem aliases (typedef t) tokens rest
  function_item : {f : FunctionTree} {tokens rest : Tokens} → IsFunction aliases f tokens rest → IsItem aliases (function f) tokens rest

-- the names that an item introduces as types
abbrev pub introduced : ItemTree → List (List ℕ)
introduced (structure s) = []
introduced (typedef t) = map (λ d. d.name.text) t.declarators
introduced (function f) = []

-- items up to the end of the text, after those that are there
pub data MoreItems : List (List ℕ) → List ItemTree → Tokens → List ItemTree → Type 0 where
  no_item : {aliases : List (List ℕ)} {is : List ItemTree} {end : Token} → end.kind ≡ TokenKind.End → MoreItems aliases is (end ∷ []) is
  next_item : {aliases : List (List ℕ)} {i : ItemTree} {is all : List ItemTree} {tokens mid : Tokens}
      → IsItem aliases i tokens mid → MoreItems (introduced i ++ aliases) (is ++ i ∷ []) mid all
      → MoreItems aliases is tokens all

-- the tokens of a whole text spell this program
abbrev pub IsUnit : UnitTree → Tokens → Type 0
IsUnit unit tokens = MoreItems [] [] tokens unit
