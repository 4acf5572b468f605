-- What completes a struct, a typedef or a function.
use Rattle.std.specs.Prelude.{ℕ, List, [], ◌∷◌, None, codes}
use Rattle.mc_base.specs.declared.text.place.Place.{Place}
use Rattle.mc_base.specs.declared.text.token.Token.{Token}
use Rattle.mc_c_syntax.specs.declared.ast.trees.Name.{Name}
use Rattle.mc_c_syntax.specs.declared.ast.trees.Base.{Base}
use Rattle.mc_c_syntax.specs.declared.ast.trees.Typedef.{Typedef}
use Rattle.mc_c_syntax.specs.declared.ast.trees.Item.{Item}
use Rattle.mc_c_syntax.specs.Ast.Names.{Tokens, IsMark, IsName, name_of}
use Rattle.mc_c_syntax.specs.Ast.Trees.{StructTree, AliasedTree, of_base, of_struct, TypedefTree, ItemTree, structure, typedef, function}
use Rattle.mc_c_syntax.specs.Ast.Views.{aliased_of, struct_of, typedef_of, item_of}
use Rattle.mc_c_syntax.specs.Ast.Grammar.{IsAliased, IsItem}
use Rattle.mc_c_parse.specs.declared.typedef.TypedefReader.{TypedefReader}
use Rattle.mc_c_parse.specs.declared.typedef.TypedefPart.{TypedefPart}
use Rattle.mc_c_parse.specs.declared.item.ItemReader.{ItemReader}
use Rattle.mc_c_parse.specs.declared.step.Step.{Step}
use Rattle.mc_c_parse.specs.declared.step.Took.{Took}
use Rattle.mc_c_parse.specs.Threads.{Then, Gives, StepIs, TookIs}
use Rattle.mc_c_parse.specs.Declarators.{IsDeclaratorsEnd, CompletesDeclarators}
use Rattle.mc_c_parse.specs.Fields.{FieldsFrom, CompletesStruct}
use Rattle.mc_c_parse.specs.Functions.{IsHeaderOf, BehindHeader, CompletesFunction}

-- after `struct S`: its fields and what goes on after them, or what goes on where it is a base
pub data IsTagged {X : Type 0} (aliases : List (List ℕ)) (place : Place) (name : Name) (struct : StructTree
    → Tokens → Tokens → X → Type 0) (bare : Tokens → Tokens → X → Type 0) : Tokens → Tokens → X → Type 0 where
  with_fields : {before : Token} {tokens rest : Tokens} {x : X}
      → IsMark (codes "{") before → Then (FieldsFrom aliases [] None) (λ fs. struct (record {
        place = place;
        name = name;
        fields = fs;
      })) tokens rest x → IsTagged aliases place name struct bare (before ∷ tokens) rest x
  without_fields : {tokens rest : Tokens} {x : X} → bare tokens rest x → IsTagged aliases place name struct bare tokens rest x

-- after `struct`: a name and the same
pub data IsTagOf {X : Type 0} (tagged : Name → Tokens → Tokens → X → Type 0) : Tokens → Tokens → X → Type 0 where
  tag_of : {name : Token} {tokens rest : Tokens} {x : X} → IsName name → tagged (name_of name) tokens rest x
      → IsTagOf tagged (name ∷ tokens) rest x

-- after what a typedef gives names to
abbrev pub EndsTypedef : Place → AliasedTree → Tokens → Tokens → TypedefTree → Type 0
EndsTypedef place aliased = Then IsDeclaratorsEnd (λ ds. Gives (record { place = place; aliased = aliased; declarators = ds }))

abbrev pub TaggedTypedef : List (List ℕ) → (word : Place) → (struct : Place) → Name → Tokens → Tokens → TypedefTree → Type 0
TaggedTypedef aliases word struct name = IsTagged aliases struct name (λ s. EndsTypedef word (of_struct s))
    (EndsTypedef word (of_base (Base.Struct struct name)))

abbrev pub TypedefFrom : List (List ℕ) → Place → TypedefPart → Tokens → Tokens → TypedefTree → Type 0
TypedefFrom aliases place TypedefPart.Start = Then (λ tokens rest a. IsAliased aliases a tokens rest) (λ a. EndsTypedef place a)
TypedefFrom aliases place (TypedefPart.Tag struct) = IsTagOf (λ name. TaggedTypedef aliases place struct name)
TypedefFrom aliases place (TypedefPart.Tagged struct name) = TaggedTypedef aliases place struct name
TypedefFrom aliases place (TypedefPart.Struct reader) = Then (CompletesStruct aliases reader) (λ s. EndsTypedef place (of_struct s))
TypedefFrom aliases place (TypedefPart.Declarators aliased reader) = Then (CompletesDeclarators reader)
    (λ ds. Gives (record { place = place; aliased = aliased_of aliased; declarators = ds }))

abbrev pub CompletesTypedef : List (List ℕ) → TypedefReader → Tokens → Tokens → TypedefTree → Type 0
CompletesTypedef aliases reader = TypedefFrom aliases reader.place reader.part

-- a `;` after a struct
pub data IsStructEnd (s : StructTree) : Tokens → Tokens → ItemTree → Type 0 where
  struct_end : {semicolon : Token} {rest : Tokens} → IsMark (codes ";") semicolon → IsStructEnd s (semicolon ∷ rest) rest (structure s)

-- a function whose result has this base
abbrev pub IsFunctionOf : List (List ℕ) → Base → Tokens → Tokens → ItemTree → Type 0
IsFunctionOf aliases base = Then (Then (IsHeaderOf base) (λ header. BehindHeader aliases None header)) (λ f. Gives (function f))

abbrev pub TaggedItem : List (List ℕ) → Place → Name → Tokens → Tokens → ItemTree → Type 0
TaggedItem aliases place name = IsTagged aliases place name IsStructEnd (IsFunctionOf aliases (Base.Struct place name))

-- the tokens, up to the rest, complete what the reader has read to this item
abbrev pub CompletesItem : List (List ℕ) → ItemReader → Tokens → Tokens → ItemTree → Type 0
CompletesItem aliases ItemReader.Start = λ tokens rest i. IsItem aliases i tokens rest
CompletesItem aliases (ItemReader.Tag place) = IsTagOf (λ name. TaggedItem aliases place name)
CompletesItem aliases (ItemReader.Tagged place name) = TaggedItem aliases place name
CompletesItem aliases (ItemReader.Struct reader) = Then (CompletesStruct aliases reader) IsStructEnd
CompletesItem aliases (ItemReader.Closing s) = IsStructEnd (struct_of s)
CompletesItem aliases (ItemReader.Typedef reader) = Then (CompletesTypedef aliases reader) (λ t. Gives (typedef t))
CompletesItem aliases (ItemReader.Function reader) = Then (CompletesFunction aliases reader) (λ f. Gives (function f))

abbrev pub TypedefStepIs : List (List ℕ) → Place → TypedefPart → Token → Step TypedefReader Typedef → Type 0
TypedefStepIs aliases place part token step = StepIs (CompletesTypedef aliases) typedef_of (TypedefFrom aliases place part) token step

abbrev pub ItemStepIs : List (List ℕ) → ItemReader → Token → Step ItemReader Item → Type 0
ItemStepIs aliases reader token step = StepIs (CompletesItem aliases) item_of (CompletesItem aliases reader) token step

abbrev pub ItemTookIs : List (List ℕ) → (reader behind : ItemReader) → Token → Took Item → Type 0
ItemTookIs aliases reader behind token took = TookIs item_of (CompletesItem aliases reader) (CompletesItem aliases behind) token took

-- the reader is within a function
abbrev pub IsWithinFunction : ItemReader → Type 0
IsWithinFunction ItemReader.Start = ⊥
IsWithinFunction (ItemReader.Tag place) = ⊥
IsWithinFunction (ItemReader.Tagged place name) = ⊥
IsWithinFunction (ItemReader.Struct reader) = ⊥
IsWithinFunction (ItemReader.Closing s) = ⊥
IsWithinFunction (ItemReader.Typedef reader) = ⊥
IsWithinFunction (ItemReader.Function reader) = Unit {0}
