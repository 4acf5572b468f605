-- What each reader has read can be completed.
use Rattle.std.proofs.Common.{◌≡◌, ℕ, List, [], ◌∷◌, ◌++◌, Some, None, Option, refl, sym, subst, map, append_assoc}
use Rattle.std.specs.Prelude.{codes}
use Rattle.mc_base.specs.declared.text.place.Place.{Place}
use Rattle.mc_base.specs.declared.text.token.Token.{Token}
use Rattle.mc_base.specs.declared.text.token.TokenKind.TheVariants as TokenKind
use Rattle.mc_c_syntax.specs.declared.ast.trees.Name.{Name}
use Rattle.mc_c_syntax.specs.declared.ast.trees.Base.{Base}
use Rattle.mc_c_syntax.specs.declared.ast.trees.Declarator.{Declarator}
use Rattle.mc_c_syntax.specs.declared.ast.trees.Parameter.{Parameter}
use Rattle.mc_c_syntax.specs.declared.ast.trees.Returned.TheVariants as Returned
use Rattle.mc_c_syntax.specs.Ast.Names.{Tokens, IsMark, IsWord, IsName, name_of}
use Rattle.mc_c_syntax.specs.Ast.Trees.{FieldTree, StructTree, AliasedTree, of_base, of_struct, ParametersTree, unnamed, void, listed, BodyTree, ItemTree, UnitTree, function, structure, typedef}
use Rattle.mc_c_syntax.specs.Ast.Views.{parameters_of, aliased_of, struct_of, field_of, item_of}
use Rattle.mc_c_syntax.specs.Ast.Grammar.{int, no_star, declarator, last_declarator, IsField, field, declarators, no_field, gives_nothing, not_static, defined, no_parameters, last_parameter, prototype, IsBody, IsAliased, base_aliased, function_item, no_item}
use Rattle.mc_c_syntax.specs.Ast.Readers.{CanEnd}
use Rattle.mc_c_parse_body.specs.declared.state.BodyReader.{BodyReader}
use Rattle.mc_c_parse_body.specs.Bodies.{CompletesBody}
use Rattle.mc_c_parse.specs.declared.base.BaseReader.{BaseReader}
use Rattle.mc_c_parse.specs.declared.declarator.DeclaratorReader.{DeclaratorReader}
use Rattle.mc_c_parse.specs.declared.field.FieldReader.{FieldReader}
use Rattle.mc_c_parse.specs.declared.structure.StructReader.{StructReader}
use Rattle.mc_c_parse.specs.declared.parameter.ParameterReader.{ParameterReader}
use Rattle.mc_c_parse.specs.declared.parameters.ParametersReader.{ParametersReader}
use Rattle.mc_c_parse.specs.declared.header.Header.{Header}
use Rattle.mc_c_parse.specs.declared.header.HeaderReader.{HeaderReader}
use Rattle.mc_c_parse.specs.declared.function.FunctionReader.{FunctionReader}
use Rattle.mc_c_parse.specs.declared.typedef.TypedefPart.{TypedefPart}
use Rattle.mc_c_parse.specs.declared.item.ItemReader.{ItemReader}
use Rattle.mc_c_parse.specs.declared.unit.UnitReader.{UnitReader}
use Rattle.mc_c_parse.specs.Threads.{Then, Gives}
use Rattle.mc_c_parse.specs.Bases.{CompletesBase, tag}
use Rattle.mc_c_parse.specs.Declarators.{CompletesDeclarator, pointed, EndsDeclarators, DeclaratorsFrom, IsDeclaratorsEnd}
use Rattle.mc_c_parse.specs.Fields.{CompletesField, EndsFields, FieldsFrom, CompletesStruct}
use Rattle.mc_c_parse.specs.Parameters.{CompletesParameter, void_end, EndsParameters, IsParametersEnd, CompletesParameters}
use Rattle.mc_c_parse.specs.Functions.{is_header, IsHeaderOf, is_header_of, named, opened, CompletesHeader, EndsFunction, BehindHeader, CompletesFunction}
use Rattle.mc_c_parse.specs.Items.{without_fields, tag_of, EndsTypedef, TaggedTypedef, TypedefFrom, IsStructEnd, struct_end, TaggedItem, CompletesItem}
use Rattle.mc_c_parse.specs.Units.{types_behind, ItemsFrom, CompletesUnit}

abbrev at_start : Place
at_start = record { line = 1; column = 1 }

abbrev mark : List ℕ → Token
mark text = record { kind = TokenKind.Mark; text = text; place = at_start }

abbrev word : List ℕ → Token
word text = record { kind = TokenKind.Name; text = text; place = at_start }

abbrev some_name : Token
some_name = word (codes "a")

is_mark : (text : List ℕ) → IsMark text (mark text)
is_mark text = record { kind = refl; text = refl }

is_word : (text : List ℕ) → IsWord text (word text)
is_word text = record { kind = refl; text = refl }

is_name : IsName some_name
is_name = record { kind = refl; free = refl }

can_then : {A X : Type 0} {first : Tokens → Tokens → A → Type 0} {second : A → Tokens → Tokens → X → Type 0} → CanEnd first → ((a : A) → CanEnd (second a)) → CanEnd (Then first second)
can_then {first = first} f s = let g = s f.tree in record {
  more = f.more ++ g.more;
  tree = g.tree;
  completes = λ rest. (f.tree, g.more ++ rest, subst (λ t. first t (g.more ++ rest) f.tree) (sym (append_assoc f.more g.more rest)) (f.completes (g.more ++ rest)), g.completes rest);
}

can_give : {X : Type 0} (x : X) → CanEnd (Gives x)
can_give x = record { more = []; tree = x; completes = λ rest. (refl, refl) }

can_base : (aliases : List (List ℕ)) (reader : BaseReader) → CanEnd (CompletesBase aliases reader)
can_base aliases BaseReader.Start = record { more = word (codes "int") ∷ []; tree = Base.Int at_start; completes = λ rest. int (is_word (codes "int")) }
can_base aliases (BaseReader.Tag place) = record { more = some_name ∷ []; tree = Base.Struct place (name_of some_name); completes = λ rest. tag is_name }

can_declarator : (reader : DeclaratorReader) → CanEnd (CompletesDeclarator reader)
can_declarator DeclaratorReader.Start = record { more = some_name ∷ []; tree = record { pointer = None; name = name_of some_name }; completes = λ rest. declarator no_star is_name }
can_declarator (DeclaratorReader.Star place) = record { more = some_name ∷ []; tree = record { pointer = Some place; name = name_of some_name }; completes = λ rest. pointed is_name }

can_end_declarators : (ds : List Declarator) → CanEnd (EndsDeclarators ds)
can_end_declarators ds = record { more = mark (codes ";") ∷ []; tree = ds; completes = λ rest. (mark (codes ";"), last_declarator, is_mark (codes ";")) }

can_declarators : (ds : List Declarator) (current : Option DeclaratorReader) → CanEnd (DeclaratorsFrom ds current)
can_declarators ds None = can_end_declarators ds
can_declarators ds (Some reader) = can_then (can_declarator reader) (λ d. can_end_declarators (ds ++ d ∷ []))

can_names : CanEnd IsDeclaratorsEnd
can_names = can_declarators [] (Some DeclaratorReader.Start)

can_field : (aliases : List (List ℕ)) (reader : FieldReader) → CanEnd (CompletesField aliases reader)
can_field aliases (FieldReader.Base reader) = can_then (can_base aliases reader) (λ base. can_then can_names (λ ds. can_give (record { base = base; declarators = ds })))
can_field aliases (FieldReader.Declarators base reader) = can_then (can_declarators reader.done.items reader.current) (λ ds. can_give (record { base = base; declarators = ds }))

can_end_fields : (aliases : List (List ℕ)) (fs : List FieldTree) → CanEnd (EndsFields aliases fs)
can_end_fields aliases fs = record { more = mark (codes "}") ∷ []; tree = fs; completes = λ rest. (mark (codes "}"), no_field, is_mark (codes "}")) }

can_one_field : (aliases : List (List ℕ)) → CanEnd (λ tokens rest (f : FieldTree). IsField aliases f tokens rest)
can_one_field aliases = record {
  more = word (codes "int") ∷ some_name ∷ mark (codes ";") ∷ [];
  tree = record { base = Base.Int at_start; declarators = record { pointer = None; name = name_of some_name } ∷ [] };
  completes = λ rest. field (int (is_word (codes "int"))) (declarators (declarator no_star is_name) last_declarator) (is_mark (codes ";"));
}

can_fields : (aliases : List (List ℕ)) (fs : List FieldTree) (current : Option FieldReader) → CanEnd (FieldsFrom aliases fs current)
can_fields aliases [] None = can_then (can_one_field aliases) (λ f. can_end_fields aliases (f ∷ []))
can_fields aliases (f ∷ fs) None = can_end_fields aliases (f ∷ fs)
can_fields aliases [] (Some reader) = can_then (can_field aliases reader) (λ f. can_end_fields aliases (f ∷ []))
can_fields aliases (g ∷ fs) (Some reader) = can_then (can_field aliases reader) (λ f. can_end_fields aliases (g ∷ (fs ++ f ∷ [])))

can_struct : (aliases : List (List ℕ)) (reader : StructReader) → CanEnd (CompletesStruct aliases reader)
can_struct aliases reader = can_then (can_fields aliases (map field_of reader.fields.done.items) reader.fields.current) (λ fs. can_give (record { place = reader.place; name = reader.name; fields = fs }))

can_parameter : (aliases : List (List ℕ)) (reader : ParameterReader) → CanEnd (CompletesParameter aliases reader)
can_parameter aliases (ParameterReader.Base reader) = can_then (can_base aliases reader) (λ base. can_then (can_declarator DeclaratorReader.Start) (λ d. can_give (record { base = base; declarator = d })))
can_parameter aliases (ParameterReader.Declarator base reader) = can_then (can_declarator reader) (λ d. can_give (record { base = base; declarator = d }))

can_end_parameters : (aliases : List (List ℕ)) (ps : List Parameter) → CanEnd (EndsParameters aliases ps)
can_end_parameters aliases ps = record { more = mark (codes ")") ∷ []; tree = listed ps; completes = λ rest. (ps, mark (codes ")"), last_parameter, is_mark (codes ")"), refl) }

can_start_parameters : (aliases : List (List ℕ)) → CanEnd (IsParametersEnd aliases)
can_start_parameters aliases = record { more = mark (codes ")") ∷ []; tree = unnamed; completes = λ rest. (mark (codes ")"), no_parameters, is_mark (codes ")")) }

can_parameters : (aliases : List (List ℕ)) (reader : ParametersReader) → CanEnd (CompletesParameters aliases reader)
can_parameters aliases ParametersReader.Start = can_start_parameters aliases
can_parameters aliases (ParametersReader.Void place) = record { more = mark (codes ")") ∷ []; tree = void place; completes = λ rest. void_end (is_mark (codes ")")) }
can_parameters aliases (ParametersReader.Parameter done reader) = can_then (can_parameter aliases reader) (λ p. can_end_parameters aliases (done.items ++ p ∷ []))
can_parameters aliases (ParametersReader.Behind done) = can_end_parameters aliases done.items

can_header_of : (base : Base) → CanEnd (IsHeaderOf base)
can_header_of base = record { more = some_name ∷ mark (codes "(") ∷ []; tree = record { returned = Returned.Value base None; name = name_of some_name }; completes = λ rest. is_header_of no_star is_name (is_mark (codes "(")) }

can_header : (aliases : List (List ℕ)) (reader : HeaderReader) → CanEnd (CompletesHeader aliases reader)
can_header aliases HeaderReader.Start = record { more = word (codes "void") ∷ some_name ∷ mark (codes "(") ∷ []; tree = record { returned = Returned.Void at_start; name = name_of some_name }; completes = λ rest. is_header (gives_nothing (is_word (codes "void"))) is_name (is_mark (codes "(")) }
can_header aliases (HeaderReader.Base reader) = can_then (can_base aliases reader) (λ base. can_header_of base)
can_header aliases (HeaderReader.Value base) = can_header_of base
can_header aliases (HeaderReader.Returned returned) = record { more = some_name ∷ mark (codes "(") ∷ []; tree = record { returned = returned; name = name_of some_name }; completes = λ rest. named is_name (is_mark (codes "(")) }
can_header aliases (HeaderReader.Named returned name) = record { more = mark (codes "(") ∷ []; tree = record { returned = returned; name = name }; completes = λ rest. opened (is_mark (codes "(")) }

can_body : (aliases : List (List ℕ)) → CanEnd (λ tokens rest (b : Option BodyTree). IsBody aliases b tokens rest)
can_body aliases = record { more = mark (codes ";") ∷ []; tree = None; completes = λ rest. prototype (is_mark (codes ";")) }

can_end_function : (aliases : List (List ℕ)) (static_place : Option Place) (head : Header) (ps : ParametersTree) → CanEnd (EndsFunction aliases static_place head ps)
can_end_function aliases static_place head ps = can_then (can_body aliases) (λ body. can_give (record { static_place = static_place; returned = head.returned; name = head.name; parameters = ps; body = body }))

can_behind_header : (aliases : List (List ℕ)) (static_place : Option Place) (head : Header) → CanEnd (BehindHeader aliases static_place head)
can_behind_header aliases static_place head = can_then (can_start_parameters aliases) (λ ps. can_end_function aliases static_place head ps)

-- the law of the reader of bodies
abbrev pub Bodies : Type 0
Bodies = (aliases : List (List ℕ)) (reader : BodyReader) → CanEnd (CompletesBody aliases reader)

can_function : Bodies → (aliases : List (List ℕ)) (reader : FunctionReader) → CanEnd (CompletesFunction aliases reader)
can_function bodies aliases (FunctionReader.Header static_place reader) = can_then (can_header aliases reader) (λ head. can_behind_header aliases static_place head)
can_function bodies aliases (FunctionReader.Parameters static_place head reader) = can_then (can_parameters aliases reader) (λ ps. can_end_function aliases static_place head ps)
can_function bodies aliases (FunctionReader.Behind signature) = can_end_function aliases signature.static_place signature.header (parameters_of signature.parameters)
can_function bodies aliases (FunctionReader.Body signature place reader) = can_then (bodies aliases reader.value) (λ ss. can_give (record { static_place = signature.static_place; returned = signature.header.returned; name = signature.header.name; parameters = parameters_of signature.parameters; body = Some (record { place = place; statements = ss }) }))

can_end_typedef : (place : Place) (aliased : AliasedTree) → CanEnd (EndsTypedef place aliased)
can_end_typedef place aliased = can_then can_names (λ ds. can_give (record { place = place; aliased = aliased; declarators = ds }))

can_aliased : (aliases : List (List ℕ)) → CanEnd (λ tokens rest (a : AliasedTree). IsAliased aliases a tokens rest)
can_aliased aliases = record { more = word (codes "int") ∷ []; tree = of_base (Base.Int at_start); completes = λ rest. base_aliased (int (is_word (codes "int"))) }

can_tagged_typedef : (aliases : List (List ℕ)) (place struct : Place) (name : Name) → CanEnd (TaggedTypedef aliases place struct name)
can_tagged_typedef aliases place struct name = let e = can_end_typedef place (of_base (Base.Struct struct name)) in record { more = e.more; tree = e.tree; completes = λ rest. without_fields (e.completes rest) }

can_typedef : (aliases : List (List ℕ)) (place : Place) (part : TypedefPart) → CanEnd (TypedefFrom aliases place part)
can_typedef aliases place TypedefPart.Start = can_then (can_aliased aliases) (λ a. can_end_typedef place a)
can_typedef aliases place (TypedefPart.Tag struct) = let e = can_tagged_typedef aliases place struct (name_of some_name) in record { more = some_name ∷ e.more; tree = e.tree; completes = λ rest. tag_of is_name (e.completes rest) }
can_typedef aliases place (TypedefPart.Tagged struct name) = can_tagged_typedef aliases place struct name
can_typedef aliases place (TypedefPart.Struct reader) = can_then (can_struct aliases reader) (λ s. can_end_typedef place (of_struct s))
can_typedef aliases place (TypedefPart.Declarators aliased reader) = can_then (can_declarators reader.done.items reader.current) (λ ds. can_give (record { place = place; aliased = aliased_of aliased; declarators = ds }))

can_struct_end : (s : StructTree) → CanEnd (IsStructEnd s)
can_struct_end s = record { more = mark (codes ";") ∷ []; tree = structure s; completes = λ rest. struct_end (is_mark (codes ";")) }

can_tagged_item : (aliases : List (List ℕ)) (place : Place) (name : Name) → CanEnd (TaggedItem aliases place name)
can_tagged_item aliases place name = let e = can_then {second = λ f. Gives (function f)} (can_then {second = λ head. BehindHeader aliases None head} (can_header_of (Base.Struct place name)) (λ head. can_behind_header aliases None head)) (λ f. can_give (function f)) in record { more = e.more; tree = e.tree; completes = λ rest. without_fields (e.completes rest) }

can_item : Bodies → (aliases : List (List ℕ)) (reader : ItemReader) → CanEnd (CompletesItem aliases reader)
can_item bodies aliases ItemReader.Start = record {
  more = word (codes "void") ∷ some_name ∷ mark (codes "(") ∷ mark (codes ")") ∷ mark (codes ";") ∷ [];
  tree = function (record { static_place = None; returned = Returned.Void at_start; name = name_of some_name; parameters = unnamed; body = None });
  completes = λ rest. function_item (defined not_static (gives_nothing (is_word (codes "void"))) is_name (is_mark (codes "(")) no_parameters (is_mark (codes ")")) (prototype (is_mark (codes ";"))));
}
can_item bodies aliases (ItemReader.Tag place) = let e = can_tagged_item aliases place (name_of some_name) in record { more = some_name ∷ e.more; tree = e.tree; completes = λ rest. tag_of is_name (e.completes rest) }
can_item bodies aliases (ItemReader.Tagged place name) = can_tagged_item aliases place name
can_item bodies aliases (ItemReader.Struct reader) = can_then (can_struct aliases reader) (λ s. can_struct_end s)
can_item bodies aliases (ItemReader.Closing s) = can_struct_end (struct_of s)
can_item bodies aliases (ItemReader.Typedef reader) = can_then (can_typedef aliases reader.place reader.part) (λ t. can_give (typedef t))
can_item bodies aliases (ItemReader.Function reader) = can_then (can_function bodies aliases reader) (λ f. can_give (function f))

-- some tokens complete what the reader has read to a program
pub record CanFinish (now : Tokens → UnitTree → Type 0) : Type 0 where
  pub more : Tokens
  pub tree : UnitTree
  pub completes : now more tree
  pub some : more ≡ [] → ⊥

abbrev end : Token
end = record { kind = TokenKind.End; text = []; place = at_start }

not_none : (tokens : Tokens) → tokens ++ end ∷ [] ≡ [] → ⊥
not_none [] e = cc
not_none (token ∷ tokens) e = cc

can_items : Bodies → (aliases : List (List ℕ)) (is : List ItemTree) (current : Option ItemReader) → CanFinish (ItemsFrom aliases is current)
can_items bodies aliases is None = record { more = end ∷ []; tree = is; completes = no_item refl; some = not_none [] }
can_items bodies aliases is (Some reader) = let e = can_item bodies aliases reader in record { more = e.more ++ end ∷ []; tree = is ++ e.tree ∷ []; completes = (e.tree, end ∷ [], e.completes (end ∷ []), no_item refl); some = not_none e.more }

pub can_unit : Bodies → (reader : UnitReader) → CanFinish (CompletesUnit reader)
can_unit bodies reader = let is = map item_of reader.items.items in can_items bodies (types_behind [] is) is reader.current
