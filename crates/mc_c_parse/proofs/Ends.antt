-- A program has its end at its last token, and nowhere else.
use native.Mathlib.Omega.{arith}
use Rattle.std.proofs.Common.{◌≡◌, ℕ, List, [], ◌∷◌, ◌++◌, Option, refl}
use Rattle.mc_base.specs.declared.text.place.Place.{Place}
use Rattle.mc_base.specs.declared.text.token.Token.{Token}
use Rattle.mc_base.specs.declared.text.token.TokenKind.TheVariants as TokenKind
use Rattle.mc_c_syntax.specs.Lex.Readings.{EndsOnce}
use Rattle.mc_c_syntax.specs.declared.ast.trees.Base.{Base}
use Rattle.mc_c_syntax.specs.declared.ast.trees.Declarator.{Declarator}
use Rattle.mc_c_syntax.specs.declared.ast.trees.Cast.{Cast}
use Rattle.mc_c_syntax.specs.declared.ast.trees.Size.{Size}
use Rattle.mc_c_syntax.specs.declared.ast.trees.Argument.{Argument}
use Rattle.mc_c_syntax.specs.declared.ast.trees.Returned.{Returned}
use Rattle.mc_c_syntax.specs.declared.ast.trees.Parameter.{Parameter}
use Rattle.mc_c_syntax.specs.Ast.Names.{Tokens, IsMark, IsWord, IsName, IsNumber}
use Rattle.mc_c_syntax.specs.Ast.Trees.{Left, Expr, Cond, CallTree, Right, InitialTree, DeclarationTree, SimpleTree, Start, Head, Stmt, FieldTree, StructTree, AliasedTree, TypedefTree, ParametersTree, BodyTree, FunctionTree, ItemTree}
use Rattle.mc_c_syntax.specs.Ast.Grammar.{Boths, Eithers, Factors, Fields, IsAliased, IsArgument, IsBang, IsBase, IsBody, IsBoth, IsCall, IsCast, IsCondition, IsDeclaration, IsDeclarator, IsDeclarators, IsField, IsStatic, IsFunction, IsHead, IsInitial, IsItem, IsLeft, IsMaybeCondition, IsMaybeSimple, IsOne, IsParameter, IsParameters, IsReturned, IsRight, IsSimple, IsSize, IsStar, IsStart, IsStatement, IsStruct, IsSum, IsTerm, IsTypedef, IsUnary, MoreArguments, MoreDeclarators, MoreExpressions, MoreFields, MoreInitials, MoreItems, MoreParameters, MoreStatements, Terms}
use Rattle.mc_c_syntax.specs.Ast.Grammar.{added, adding, alias, all_of, allocated, any_of, assert_empty_statement, assert_shape_statement, assert_statement, assigned, assume_shape_statement, assume_statement, bang_bang, bang_input, bang_parens, bang_variable, bare, base_aliased, block_statement, body, break_statement, called, cast, comparison, condition, condition_parens, continue_statement, declarator, declarators, declared, declares_statement, decremented, decremented_first, defined, do_statement, empty_statement, factor, field, static_place, for_statement, free_statement, function_item, gives_nothing, gives_value, head, if_else_statement, if_statement, in_parens, incremented, incremented_first, input_call, int, introduces, last, last_argument, last_declarator, last_initial, last_parameter, more, name_argument, named, negated, negative, negative_argument, next, next_argument, next_declarator, next_field, next_initial, next_parameter, next_statement, no_both, no_cast, no_condition, no_either, no_factor, no_field, no_parameters, no_simple, no_star, no_statement, no_term, none, not_static, null_argument, null_word, number_argument, numeral, of_parens, of_type, of_value, one_more, or_else, parameter, performed, plain_one, product, prototype, return_statement, return_value, simple_statement, some_parameters, some_simple, star, starts_declaring, starts_empty, starts_performing, struct, struct_aliased, struct_item, subtracting, sum, sum_of, tagged, taken, typedef_item, variable, void_parameters, while_statement, with_some, with_value, without, no_item, next_item}

-- no token before the rest is the end
pub data Clear : Tokens → Tokens → Type 0 where
  here : {rest : Tokens} → Clear rest rest
  past : {token : Token} {tokens rest : Tokens} → (token.kind ≡ TokenKind.End → ⊥) → Clear tokens rest → Clear (token ∷ tokens) rest

through : {tokens mid rest : Tokens} → Clear tokens mid → Clear mid rest → Clear tokens rest
through here d = d
through (past other c) d = past other (through c d)

mark_ends : {mark : List ℕ} {token : Token} → IsMark mark token → token.kind ≡ TokenKind.End → ⊥
mark_ends w e = let k = w.kind in grind arith

word_ends : {word : List ℕ} {token : Token} → IsWord word token → token.kind ≡ TokenKind.End → ⊥
word_ends w e = let k = w.kind in grind arith

name_ends : {token : Token} → IsName token → token.kind ≡ TokenKind.End → ⊥
name_ends w e = let k = w.kind in grind arith

number_ends : {token : Token} {n : ℕ} → IsNumber token n → token.kind ≡ TokenKind.End → ⊥
number_ends w e = let k = w.kind in grind arith

clear_fields : {before all : Left} {tokens rest : Tokens} → Fields before tokens all rest → Clear tokens rest
clear_fields none = here
clear_fields (more a0 a1 a2) = past (mark_ends a0) (past (name_ends a1) (clear_fields a2))

clear_is_left : {tree : Left} {tokens rest : Tokens} → IsLeft tree tokens rest → Clear tokens rest
clear_is_left (named a0 a1) = past (name_ends a0) (clear_fields a1)

mutual
  clear_is_unary : {tree : Expr} {tokens rest : Tokens} → IsUnary tree tokens rest → Clear tokens rest
  clear_is_unary (negative a0 a1) = past (mark_ends a0) (clear_is_unary a1)
  clear_is_unary (numeral a0) = past (number_ends a0) here
  clear_is_unary (null_word a0) = past (word_ends a0) here
  clear_is_unary (input_call a0 a1 a2) = past (word_ends a0) (past (mark_ends a1) (past (mark_ends a2) here))
  clear_is_unary (variable a0) = clear_is_left a0
  clear_is_unary (in_parens a0 a1 a2) = past (mark_ends a0) (through (clear_is_sum a1) (past (mark_ends a2) here))

  clear_factors : {before all : Expr} {tokens rest : Tokens} → Factors before tokens all rest → Clear tokens rest
  clear_factors no_factor = here
  clear_factors (factor a0 a1 a2) = past (mark_ends a0) (through (clear_is_unary a1) (clear_factors a2))

  clear_is_term : {tree : Expr} {tokens rest : Tokens} → IsTerm tree tokens rest → Clear tokens rest
  clear_is_term (product a0 a1) = through (clear_is_unary a0) (clear_factors a1)

  clear_terms : {before all : Expr} {tokens rest : Tokens} → Terms before tokens all rest → Clear tokens rest
  clear_terms no_term = here
  clear_terms (added a0 a1 a2) = past (mark_ends a0) (through (clear_is_term a1) (clear_terms a2))
  clear_terms (taken a0 a1 a2) = past (mark_ends a0) (through (clear_is_term a1) (clear_terms a2))

  clear_is_sum : {tree : Expr} {tokens rest : Tokens} → IsSum tree tokens rest → Clear tokens rest
  clear_is_sum (sum_of a0 a1) = through (clear_is_term a0) (clear_terms a1)

mutual
  clear_is_bang : {tree : Cond} {tokens rest : Tokens} → IsBang tree tokens rest → Clear tokens rest
  clear_is_bang (bang_bang a0 a1) = past (mark_ends a0) (clear_is_bang a1)
  clear_is_bang (bang_variable a0 a1) = past (mark_ends a0) (clear_is_left a1)
  clear_is_bang (bang_input a0 a1 a2 a3) = past (mark_ends a0) (past (word_ends a1) (past (mark_ends a2) (past (mark_ends a3) here)))
  clear_is_bang (bang_parens a0 a1 a2 a3) = past (mark_ends a0) (past (mark_ends a1) (through (clear_is_condition a2) (past (mark_ends a3) here)))

  clear_is_one : {tree : Cond} {tokens rest : Tokens} → IsOne tree tokens rest → Clear tokens rest
  clear_is_one (plain_one a0) = clear_is_sum a0
  clear_is_one (comparison a0 a1 a2) = through (clear_is_sum a0) (past (mark_ends a1) (clear_is_sum a2))
  clear_is_one (negated a0) = clear_is_bang a0
  clear_is_one (condition_parens a0 a1 a2 _) = past (mark_ends a0) (through (clear_is_condition a1) (past (mark_ends a2) here))

  clear_boths : {before all : Cond} {tokens rest : Tokens} → Boths before tokens all rest → Clear tokens rest
  clear_boths no_both = here
  clear_boths (one_more a0 a1 a2) = past (mark_ends a0) (through (clear_is_one a1) (clear_boths a2))

  clear_is_both : {tree : Cond} {tokens rest : Tokens} → IsBoth tree tokens rest → Clear tokens rest
  clear_is_both (all_of a0 a1) = through (clear_is_one a0) (clear_boths a1)

  clear_eithers : {before all : Cond} {tokens rest : Tokens} → Eithers before tokens all rest → Clear tokens rest
  clear_eithers no_either = here
  clear_eithers (or_else a0 a1 a2) = past (mark_ends a0) (through (clear_is_both a1) (clear_eithers a2))

  clear_is_condition : {tree : Cond} {tokens rest : Tokens} → IsCondition tree tokens rest → Clear tokens rest
  clear_is_condition (any_of a0 a1) = through (clear_is_both a0) (clear_eithers a1)

clear_more_expressions : {before all : List Expr} {tokens rest : Tokens} → MoreExpressions before tokens all rest → Clear tokens rest
clear_more_expressions last = here
clear_more_expressions (next a0 a1 a2) = past (mark_ends a0) (through (clear_is_sum a1) (clear_more_expressions a2))

clear_is_call : {tree : CallTree} {tokens rest : Tokens} → IsCall tree tokens rest → Clear tokens rest
clear_is_call (without a0 a1 a2) = past (name_ends a0) (past (mark_ends a1) (past (mark_ends a2) here))
clear_is_call (with_some a0 a1 a2 a3 a4) = past (name_ends a0) (past (mark_ends a1) (through (clear_is_sum a2) (through (clear_more_expressions a3) (past (mark_ends a4) here))))

clear_is_base : {aliases : List (List ℕ)} {tree : Base} {tokens rest : Tokens} → IsBase aliases tree tokens rest → Clear tokens rest
clear_is_base (int a0) = past (word_ends a0) here
clear_is_base (tagged a0 a1) = past (word_ends a0) (past (name_ends a1) here)
clear_is_base (alias a0) = past (name_ends a0.name) here

clear_is_star : {tree : Option Place} {tokens rest : Tokens} → IsStar tree tokens rest → Clear tokens rest
clear_is_star (star a0) = past (mark_ends a0) here
clear_is_star no_star = here

clear_is_declarator : {tree : Declarator} {tokens rest : Tokens} → IsDeclarator tree tokens rest → Clear tokens rest
clear_is_declarator (declarator a0 a1) = through (clear_is_star a0) (past (name_ends a1) here)

clear_is_cast : {aliases : List (List ℕ)} {tree : Option Cast} {tokens rest : Tokens} → IsCast aliases tree tokens rest → Clear tokens rest
clear_is_cast no_cast = here
clear_is_cast (cast a0 a1 a2 a3) = past (mark_ends a0) (through (clear_is_base a1) (through (clear_is_star a2) (past (mark_ends a3) here)))

clear_is_size : {aliases : List (List ℕ)} {tree : Size} {tokens rest : Tokens} → IsSize aliases tree tokens rest → Clear tokens rest
clear_is_size (of_type a0 a1 a2 a3) = past (word_ends a0) (past (mark_ends a1) (through (clear_is_base a2) (past (mark_ends a3) here)))
clear_is_size (of_parens a0 a1 a2 a3 a4) = past (word_ends a0) (past (mark_ends a1) (past (mark_ends a2) (past (name_ends a3) (past (mark_ends a4) here))))
clear_is_size (of_value a0 a1 a2) = past (word_ends a0) (past (mark_ends a1) (past (name_ends a2) here))

clear_is_right : {aliases : List (List ℕ)} {tree : Right} {tokens rest : Tokens} → IsRight aliases tree tokens rest → Clear tokens rest
clear_is_right (sum a0) = clear_is_sum a0
clear_is_right (called a0) = clear_is_call a0
clear_is_right (allocated a0 a1 a2 a3 a4) = through (clear_is_cast a0) (past (word_ends a1) (past (mark_ends a2) (through (clear_is_size a3) (past (mark_ends a4) here))))

clear_is_initial : {aliases : List (List ℕ)} {tree : InitialTree} {tokens rest : Tokens} → IsInitial aliases tree tokens rest → Clear tokens rest
clear_is_initial (bare a0) = clear_is_declarator a0
clear_is_initial (with_value a0 a1 a2) = through (clear_is_declarator a0) (past (mark_ends a1) (clear_is_right a2))

clear_more_initials : {aliases : List (List ℕ)} {before all : List InitialTree} {tokens rest : Tokens} → MoreInitials aliases before tokens all rest → Clear tokens rest
clear_more_initials last_initial = here
clear_more_initials (next_initial a0 a1 a2) = past (mark_ends a0) (through (clear_is_initial a1) (clear_more_initials a2))

clear_is_declaration : {aliases : List (List ℕ)} {tree : DeclarationTree} {tokens rest : Tokens} → IsDeclaration aliases tree tokens rest → Clear tokens rest
clear_is_declaration (declared a0 a1 a2 a3) = through (clear_is_base a0) (through (clear_is_initial a1) (through (clear_more_initials a2) (past (mark_ends a3) here)))

clear_is_simple : {aliases : List (List ℕ)} {tree : SimpleTree} {tokens rest : Tokens} → IsSimple aliases tree tokens rest → Clear tokens rest
clear_is_simple (assigned a0 a1 a2) = through (clear_is_left a0) (past (mark_ends a1) (clear_is_right a2))
clear_is_simple (adding a0 a1 a2) = through (clear_is_left a0) (past (mark_ends a1) (clear_is_sum a2))
clear_is_simple (subtracting a0 a1 a2) = through (clear_is_left a0) (past (mark_ends a1) (clear_is_sum a2))
clear_is_simple (incremented a0 a1) = through (clear_is_left a0) (past (mark_ends a1) here)
clear_is_simple (decremented a0 a1) = through (clear_is_left a0) (past (mark_ends a1) here)
clear_is_simple (incremented_first a0 a1) = past (mark_ends a0) (clear_is_left a1)
clear_is_simple (decremented_first a0 a1) = past (mark_ends a0) (clear_is_left a1)
clear_is_simple (performed a0) = clear_is_call a0

clear_is_argument : {tree : Argument} {tokens rest : Tokens} → IsArgument tree tokens rest → Clear tokens rest
clear_is_argument (name_argument a0) = past (name_ends a0) here
clear_is_argument (null_argument a0) = past (word_ends a0) here
clear_is_argument (number_argument a0) = past (number_ends a0) here
clear_is_argument (negative_argument a0 a1) = past (mark_ends a0) (past (number_ends a1) here)

clear_more_arguments : {before all : List Argument} {tokens rest : Tokens} → MoreArguments before tokens all rest → Clear tokens rest
clear_more_arguments last_argument = here
clear_more_arguments (next_argument a0 a1 a2) = past (mark_ends a0) (through (clear_is_argument a1) (clear_more_arguments a2))

clear_is_start : {aliases : List (List ℕ)} {tree : Start} {tokens rest : Tokens} → IsStart aliases tree tokens rest → Clear tokens rest
clear_is_start (starts_empty a0) = past (mark_ends a0) here
clear_is_start (starts_declaring a0) = clear_is_declaration a0
clear_is_start (starts_performing a0 a1) = through (clear_is_simple a0) (past (mark_ends a1) here)

clear_is_maybe_condition : {tree : Option Cond} {tokens rest : Tokens} → IsMaybeCondition tree tokens rest → Clear tokens rest
clear_is_maybe_condition no_condition = here
clear_is_maybe_condition (condition a0) = clear_is_condition a0

clear_is_maybe_simple : {aliases : List (List ℕ)} {tree : Option SimpleTree} {tokens rest : Tokens} → IsMaybeSimple aliases tree tokens rest → Clear tokens rest
clear_is_maybe_simple no_simple = here
clear_is_maybe_simple (some_simple a0) = clear_is_simple a0

clear_is_head : {aliases : List (List ℕ)} {tree : Head} {tokens rest : Tokens} → IsHead aliases tree tokens rest → Clear tokens rest
clear_is_head (head a0 a1 a2 a3 a4 a5 a6) = past (word_ends a0) (past (mark_ends a1) (through (clear_is_start a2) (through (clear_is_maybe_condition a3) (past (mark_ends a4) (through (clear_is_maybe_simple a5) (past (mark_ends a6) here))))))

mutual
  clear_is_statement : {aliases : List (List ℕ)} {tree : Stmt} {tokens rest : Tokens} → IsStatement aliases tree tokens rest → Clear tokens rest
  clear_is_statement (declares_statement a0) = clear_is_declaration a0
  clear_is_statement (block_statement a0 a1 a2) = past (mark_ends a0) (through (clear_more_statements a1) (past (mark_ends a2) here))
  clear_is_statement (empty_statement a0) = past (mark_ends a0) here
  clear_is_statement (simple_statement a0 a1) = through (clear_is_simple a0) (past (mark_ends a1) here)
  clear_is_statement (free_statement a0 a1 a2 a3 a4) = past (word_ends a0) (past (mark_ends a1) (through (clear_is_sum a2) (past (mark_ends a3) (past (mark_ends a4) here))))
  clear_is_statement (assert_statement a0 a1 a2 a3 a4) = past (word_ends a0) (past (mark_ends a1) (through (clear_is_condition a2) (past (mark_ends a3) (past (mark_ends a4) here))))
  clear_is_statement (assume_statement a0 a1 a2 a3 a4) = past (word_ends a0) (past (mark_ends a1) (through (clear_is_condition a2) (past (mark_ends a3) (past (mark_ends a4) here))))
  clear_is_statement (assume_shape_statement a0 a1 a2 a3 a4 a5 a6 a7) = past (word_ends a0) (past (mark_ends a1) (past (name_ends a2) (past (mark_ends a3) (past (name_ends a4) (through (clear_more_arguments a5) (past (mark_ends a6) (past (mark_ends a7) here)))))))
  clear_is_statement (assert_shape_statement a0 a1 a2 a3 a4 a5 a6 a7) = past (word_ends a0) (past (mark_ends a1) (past (name_ends a2) (past (mark_ends a3) (through (clear_is_argument a4) (through (clear_more_arguments a5) (past (mark_ends a6) (past (mark_ends a7) here)))))))
  clear_is_statement (assert_empty_statement a0 a1 a2 a3) = past (word_ends a0) (past (mark_ends a1) (past (mark_ends a2) (past (mark_ends a3) here)))
  clear_is_statement (if_statement a0 a1 a2 a3 a4 _) = past (word_ends a0) (past (mark_ends a1) (through (clear_is_condition a2) (past (mark_ends a3) (clear_is_statement a4))))
  clear_is_statement (if_else_statement a0 a1 a2 a3 a4 a5 a6) = past (word_ends a0) (past (mark_ends a1) (through (clear_is_condition a2) (past (mark_ends a3) (through (clear_is_statement a4) (past (word_ends a5) (clear_is_statement a6))))))
  clear_is_statement (while_statement a0 a1 a2 a3 a4) = past (word_ends a0) (past (mark_ends a1) (through (clear_is_condition a2) (past (mark_ends a3) (clear_is_statement a4))))
  clear_is_statement (do_statement a0 a1 a2 a3 a4 a5 a6) = past (word_ends a0) (through (clear_is_statement a1) (past (word_ends a2) (past (mark_ends a3) (through (clear_is_condition a4) (past (mark_ends a5) (past (mark_ends a6) here))))))
  clear_is_statement (for_statement a0 a1) = through (clear_is_head a0) (clear_is_statement a1)
  clear_is_statement (break_statement a0 a1) = past (word_ends a0) (past (mark_ends a1) here)
  clear_is_statement (continue_statement a0 a1) = past (word_ends a0) (past (mark_ends a1) here)
  clear_is_statement (return_statement a0 a1) = past (word_ends a0) (past (mark_ends a1) here)
  clear_is_statement (return_value a0 a1 a2) = past (word_ends a0) (through (clear_is_right a1) (past (mark_ends a2) here))

  clear_more_statements : {aliases : List (List ℕ)} {before all : List Stmt} {tokens rest : Tokens} → MoreStatements aliases before tokens all rest → Clear tokens rest
  clear_more_statements no_statement = here
  clear_more_statements (next_statement a0 a1) = through (clear_is_statement a0) (clear_more_statements a1)

clear_more_declarators : {before all : List Declarator} {tokens rest : Tokens} → MoreDeclarators before tokens all rest → Clear tokens rest
clear_more_declarators last_declarator = here
clear_more_declarators (next_declarator a0 a1 a2) = past (mark_ends a0) (through (clear_is_declarator a1) (clear_more_declarators a2))

clear_is_declarators : {tree : List Declarator} {tokens rest : Tokens} → IsDeclarators tree tokens rest → Clear tokens rest
clear_is_declarators (declarators a0 a1) = through (clear_is_declarator a0) (clear_more_declarators a1)

clear_is_field : {aliases : List (List ℕ)} {tree : FieldTree} {tokens rest : Tokens} → IsField aliases tree tokens rest → Clear tokens rest
clear_is_field (field a0 a1 a2) = through (clear_is_base a0) (through (clear_is_declarators a1) (past (mark_ends a2) here))

clear_more_fields : {aliases : List (List ℕ)} {before all : List FieldTree} {tokens rest : Tokens} → MoreFields aliases before tokens all rest → Clear tokens rest
clear_more_fields no_field = here
clear_more_fields (next_field a0 a1) = through (clear_is_field a0) (clear_more_fields a1)

clear_is_struct : {aliases : List (List ℕ)} {tree : StructTree} {tokens rest : Tokens} → IsStruct aliases tree tokens rest → Clear tokens rest
clear_is_struct (struct a0 a1 a2 a3 a4 a5) = past (word_ends a0) (past (name_ends a1) (past (mark_ends a2) (through (clear_is_field a3) (through (clear_more_fields a4) (past (mark_ends a5) here)))))

clear_is_aliased : {aliases : List (List ℕ)} {tree : AliasedTree} {tokens rest : Tokens} → IsAliased aliases tree tokens rest → Clear tokens rest
clear_is_aliased (base_aliased a0) = clear_is_base a0
clear_is_aliased (struct_aliased a0) = clear_is_struct a0

clear_is_typedef : {aliases : List (List ℕ)} {tree : TypedefTree} {tokens rest : Tokens} → IsTypedef aliases tree tokens rest → Clear tokens rest
clear_is_typedef (introduces a0 a1 a2 a3) = past (word_ends a0) (through (clear_is_aliased a1) (through (clear_is_declarators a2) (past (mark_ends a3) here)))

clear_is_returned : {aliases : List (List ℕ)} {tree : Returned} {tokens rest : Tokens} → IsReturned aliases tree tokens rest → Clear tokens rest
clear_is_returned (gives_nothing a0) = past (word_ends a0) here
clear_is_returned (gives_value a0 a1) = through (clear_is_base a0) (clear_is_star a1)

clear_is_parameter : {aliases : List (List ℕ)} {tree : Parameter} {tokens rest : Tokens} → IsParameter aliases tree tokens rest → Clear tokens rest
clear_is_parameter (parameter a0 a1) = through (clear_is_base a0) (clear_is_declarator a1)

clear_more_parameters : {aliases : List (List ℕ)} {before all : List Parameter} {tokens rest : Tokens} → MoreParameters aliases before tokens all rest → Clear tokens rest
clear_more_parameters last_parameter = here
clear_more_parameters (next_parameter a0 a1 a2) = past (mark_ends a0) (through (clear_is_parameter a1) (clear_more_parameters a2))

clear_is_parameters : {aliases : List (List ℕ)} {tree : ParametersTree} {tokens rest : Tokens} → IsParameters aliases tree tokens rest → Clear tokens rest
clear_is_parameters no_parameters = here
clear_is_parameters (void_parameters a0) = past (word_ends a0) here
clear_is_parameters (some_parameters a0 a1) = through (clear_is_parameter a0) (clear_more_parameters a1)

clear_is_static : {tree : Option Place} {tokens rest : Tokens} → IsStatic tree tokens rest → Clear tokens rest
clear_is_static (static_place a0) = past (word_ends a0) here
clear_is_static not_static = here

clear_is_body : {aliases : List (List ℕ)} {tree : Option BodyTree} {tokens rest : Tokens} → IsBody aliases tree tokens rest → Clear tokens rest
clear_is_body (prototype a0) = past (mark_ends a0) here
clear_is_body (body a0 a1 a2) = past (mark_ends a0) (through (clear_more_statements a1) (past (mark_ends a2) here))

clear_is_function : {aliases : List (List ℕ)} {tree : FunctionTree} {tokens rest : Tokens} → IsFunction aliases tree tokens rest → Clear tokens rest
clear_is_function (defined a0 a1 a2 a3 a4 a5 a6) = through (clear_is_static a0) (through (clear_is_returned a1) (past (name_ends a2) (past (mark_ends a3) (through (clear_is_parameters a4) (past (mark_ends a5) (clear_is_body a6))))))

clear_is_item : {aliases : List (List ℕ)} {tree : ItemTree} {tokens rest : Tokens} → IsItem aliases tree tokens rest → Clear tokens rest
clear_is_item (struct_item a0 a1) = through (clear_is_struct a0) (past (mark_ends a1) here)
clear_is_item (typedef_item a0) = clear_is_typedef a0
clear_is_item (function_item a0) = clear_is_function a0

clear_items : {aliases : List (List ℕ)} {is all : List ItemTree} {tokens : Tokens} → MoreItems aliases is tokens all → (end : Token) × Clear tokens (end ∷ [])
clear_items (no_item e) = (_, here)
clear_items (next_item i items) = let c = clear_items items in (c.0, through (clear_is_item i) c.1)

none_behind : (tokens : Tokens) {behind : Tokens} {end : Token} → EndsOnce tokens → Clear (tokens ++ behind) (end ∷ []) → behind ≡ []
none_behind [] ends c = absurd ends
none_behind (token ∷ []) ends here = refl
none_behind (token ∷ []) ends (past other c) = absurd (other ends)
none_behind (token ∷ second ∷ tokens) ends (past other c) = none_behind (second ∷ tokens) ends.1 c

-- after a whole text a program has no tokens
pub nothing_behind : {aliases : List (List ℕ)} {is all : List ItemTree} (tokens : Tokens) (behind : Tokens) → EndsOnce tokens → MoreItems aliases is (tokens ++ behind) all → behind ≡ []
nothing_behind tokens behind ends items = none_behind tokens ends (clear_items items).1
