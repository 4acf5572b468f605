-- What completes the fields of a struct.
use Rattle.std.specs.declared.alloc.Global.{Global}
use Rattle.std.specs.Prelude.{Vec, ℕ, List, [], ◌∷◌, ◌++◌, Option, Some, None, codes, map}
use Rattle.mc_base.specs.declared.text.token.Token.{Token}
use Rattle.mc_c_syntax.specs.declared.ast.trees.Field.{Field}
use Rattle.mc_c_syntax.specs.declared.ast.trees.Struct.{Struct}
use Rattle.mc_c_syntax.specs.Ast.Names.{Tokens, IsMark}
use Rattle.mc_c_syntax.specs.Ast.Trees.{FieldTree, StructTree}
use Rattle.mc_c_syntax.specs.Ast.Views.{field_of, struct_of}
use Rattle.mc_c_syntax.specs.Ast.Grammar.{IsField, MoreFields}
use Rattle.mc_c_parse.specs.declared.field.FieldReader.{FieldReader}
use Rattle.mc_c_parse.specs.declared.fields.FieldsReader.{FieldsReader}
use Rattle.mc_c_parse.specs.declared.structure.StructReader.{StructReader}
use Rattle.mc_c_parse.specs.declared.step.Step.{Step}
use Rattle.mc_c_parse.specs.Threads.{Then, Gives, StepIs}
use Rattle.mc_c_parse.specs.Bases.{CompletesBase}
use Rattle.mc_c_parse.specs.Declarators.{IsDeclaratorsEnd, CompletesDeclarators}

-- the tokens, up to the rest, complete what the reader has read to these fields of one base
abbrev pub CompletesField : List (List ℕ) → FieldReader → Tokens → Tokens → FieldTree → Type 0
CompletesField aliases (FieldReader.Base reader) = Then (CompletesBase aliases reader)
    (λ base. Then IsDeclaratorsEnd (λ ds. Gives (record { base = base; declarators = ds })))
CompletesField aliases (FieldReader.Declarators base reader) = Then (CompletesDeclarators reader)
    (λ ds. Gives (record { base = base; declarators = ds }))

-- after these fields: more of them, and a `}`
abbrev pub EndsFields : List (List ℕ) → List FieldTree → Tokens → Tokens → List FieldTree → Type 0
EndsFields aliases fs tokens rest all = (after : Token) × MoreFields aliases fs tokens all (after ∷ rest) × IsMark (codes "}") after

-- after these fields, and what has been read of another one: a struct has one at least
abbrev pub FieldsFrom : List (List ℕ) → List FieldTree → Option FieldReader → Tokens → Tokens → List FieldTree → Type 0
FieldsFrom aliases [] None = Then (λ tokens rest f. IsField aliases f tokens rest) (λ f. EndsFields aliases (f ∷ []))
FieldsFrom aliases (f ∷ fs) None = EndsFields aliases (f ∷ fs)
FieldsFrom aliases fs (Some reader) = Then (CompletesField aliases reader) (λ f. EndsFields aliases (fs ++ f ∷ []))

abbrev pub CompletesFields : List (List ℕ) → FieldsReader → Tokens → Tokens → List FieldTree → Type 0
CompletesFields aliases reader = FieldsFrom aliases (map field_of reader.done.items) reader.current

-- after `struct S {`
abbrev pub CompletesStruct : List (List ℕ) → StructReader → Tokens → Tokens → StructTree → Type 0
CompletesStruct aliases reader = Then (CompletesFields aliases reader.fields)
    (λ fs. Gives (record { place = reader.place; name = reader.name; fields = fs }))

abbrev pub FieldStepIs : List (List ℕ) → FieldReader → Token → Step FieldReader Field → Type 0
FieldStepIs aliases reader token step = StepIs (CompletesField aliases) field_of (CompletesField aliases reader) token step

abbrev pub FieldsStepIs : List (List ℕ) → List FieldTree → Option FieldReader → Token → Step FieldsReader (Vec Field Global) → Type 0
FieldsStepIs aliases fs current token step = StepIs (CompletesFields aliases) (λ v. map field_of v.items)
    (FieldsFrom aliases fs current) token step

abbrev pub StructStepIs : List (List ℕ) → StructReader → Token → Step StructReader Struct → Type 0
StructStepIs aliases reader token step = StepIs (CompletesStruct aliases) struct_of (CompletesStruct aliases reader) token step
