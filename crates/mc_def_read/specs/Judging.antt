-- What the items of a file say, in their order: the definitions, or the first fault.
use Rattle.std.specs.Prelude.{◌≡◌, ℕ, zero, suc, ◌-◌, ◌==◌, ℤ, pos, neg_ℤ, Bool, true, false, Option, Some, None, Result, Ok, Err, List, [], ◌∷◌, ◌++◌, map, length, position, slice_get, slice_set, replicate, is_some, is_none, codes, if◌then◌else◌}
use Rattle.mc_base.specs.declared.ids.StructId.{StructId}
use Rattle.mc_base.specs.declared.plain.Kind.{Kind}
use Rattle.mc_base.specs.declared.plain.Kind.TheVariants.{Int, Ptr}
use Rattle.mc_base.specs.declared.text.place.Place.{Place}
use Rattle.mc_c_syntax.specs.declared.ast.trees.Name.{Name}
use Rattle.mc_c_syntax.specs.Ast.Names.{is_same}
use Rattle.mc_flow.specs.declared.defs.rules.Call.{Call}
use Rattle.mc_flow.specs.declared.defs.rules.Def.{Def}
use Rattle.mc_flow.specs.declared.defs.rules.Rule.{Rule}
use Rattle.mc_flow.specs.declared.defs.rules.DefAtom.{DefAtom}
use Rattle.mc_flow.specs.declared.defs.rules.DefAtom.TheVariants.{Eq, Ne, In}
use Rattle.mc_flow.specs.declared.defs.shapes.StructInfo.{StructInfo}
use Rattle.mc_flow.specs.Defs.Conditions.{numbers_from}
use Rattle.mc_def_parse.specs.declared.fault.Cause.{Cause}
use Rattle.mc_def_parse.specs.declared.fault.Cause.TheVariants as Cause
use Rattle.mc_def_parse.specs.declared.fault.Refusal.{Refusal}
use Rattle.mc_def_parse.specs.declared.fault.DefFault.{DefFault}
use Rattle.mc_def_parse.specs.declared.fault.DefFault.TheVariants.{Refused, NoMemory}
use Rattle.mc_def_parse.specs.declared.tree.Number.{Number}
use Rattle.mc_def_parse.specs.declared.tree.Sum.{Sum}
use Rattle.mc_def_parse.specs.declared.tree.Sum.TheVariants as Sum
use Rattle.mc_def_parse.specs.declared.tree.Relation.TheVariants.{Fixes, Equals, Differs}
use Rattle.mc_def_parse.specs.declared.tree.Bound.TheVariants.{AtMost, AtLeast}
use Rattle.mc_def_parse.specs.declared.tree.Item.{Item}
use Rattle.mc_def_parse.specs.declared.tree.Item.TheVariants as Item
use Rattle.mc_def_parse.specs.declared.tree.Content.{Content}
use Rattle.mc_def_parse.specs.declared.tree.Block.{Block}
use Rattle.mc_def_parse.specs.declared.tree.RuleText.{RuleText}
use Rattle.mc_def_parse.specs.declared.tree.Parameter.{Parameter}
use Rattle.mc_def_parse.specs.declared.tree.DefText.{DefText}
use Rattle.mc_def_read.specs.declared.scope.Added.{Added}
use Rattle.mc_def_read.specs.declared.scope.Known.{Known}
use Rattle.mc_flow.specs.declared.defs.shapes.FieldInfo.{FieldInfo}

-- what is said, or the fault
abbrev pub Judged : Type 0 → Type 0
Judged X = Result X Refusal

infixl 10 ◌>>=◌
abbrev pub ◌>>=◌ : {A B : Type 0} → Judged A → (A → Judged B) → Judged B
Ok a >>= f = f a
Err e >>= f = Err e

-- the fault of a name
abbrev pub at : Cause → Name → Refusal
at cause x = record { cause = cause; place = x.place }

-- what is there, or a fault
abbrev pub need : {A : Type 0} → Option A → Refusal → Judged A
need (Some a) fault = Ok a
need None fault = Err fault

-- ---- names. `_` introduces a name that can't be used
abbrev pub is_blank : List ℕ → Bool
is_blank text = is_same text (codes "_")

abbrev pub number_in : List (List ℕ) → List ℕ → Option ℕ
number_in names text = if is_blank text then None else position (λ name. is_same name text) names

-- the names of a rule up to a place, by their numbers, and their kinds
pub record Scope : Type 0 where
  pub names : List (List ℕ)
  pub kinds : List Kind

abbrev pub same_kind : Kind → Kind → Bool
same_kind Int Int = true
same_kind Int Ptr = false
same_kind Ptr Int = false
same_kind Ptr Ptr = true

-- a name that is introduced before
abbrev pub known : Scope → Name → Judged Known
known scope x = do
  i ← need (number_in scope.names x.text) (at Cause.Undetermined x)
  kind ← need (slice_get scope.kinds i) (at Cause.Undetermined x)
  Ok (record { number = i; kind = kind })

-- the number of such a name, if it is of this kind
abbrev pub of_kind : Kind → Name → Known → Judged ℕ
of_kind kind x k = if same_kind k.kind kind then Ok k.number else Err (at Cause.Kind x)

abbrev pub typed : Scope → Kind → Name → Judged ℕ
typed scope kind x = do
  k ← known scope x
  of_kind kind x k

-- a name is introduced once
abbrev pub introduced : Scope → Kind → Name → Judged Scope
introduced scope kind x =
    if is_some (number_in scope.names x.text) then Err (at Cause.Twice x)
    else Ok (record { names = scope.names ++ x.text ∷ []; kinds = scope.kinds ++ kind ∷ [] })

-- ---- sums
abbrev pub value_of : Number → ℤ
value_of n = if n.minus then neg_ℤ (pos n.value) else pos n.value

-- the fault of a number
abbrev pub at_number : Number → Refusal
at_number n = record { cause = Cause.Kind; place = n.place }

-- a number alone: of pointers the only one is 0
abbrev pub constant : Kind → Number → Judged ℤ
constant Int n = Ok (value_of n)
constant Ptr n = if n.value == 0 then Ok (pos 0) else Err (at_number n)

-- what is added to a name: nothing to a pointer
abbrev pub offset : Kind → Number → Judged ℤ
offset Int n = Ok (value_of n)
offset Ptr n = Err (at_number n)

-- a sum of a kind
abbrev pub sum : Scope → Kind → Sum → Judged Added
sum scope kind (Sum.Number n) = do
  z ← constant kind n
  Ok (record { base = None; add = z })
sum scope kind (Sum.Name x) = do
  i ← typed scope kind x
  Ok (record { base = Some i; add = pos 0 })
sum scope kind (Sum.Moved x n) = do
  i ← typed scope kind x
  z ← offset kind n
  Ok (record { base = Some i; add = z })

-- ---- items
-- what the rules of a file may speak of: structs, predicates and the kinds of their parameters
pub record Context : Type 0 where
  pub structs : List StructInfo
  pub shapes : List (List ℕ)
  pub preds : List (List ℕ)
  pub params : List (List Kind)

-- what a rule says up to an item
pub record Body : Type 0 where
  pub scope : Scope
  pub calls : List Call
  pub atoms : List DefAtom

-- one name for each kind, of that kind
abbrev pub arguments : Scope → List Kind → List Name → Judged (List ℕ)
arguments scope (kind ∷ kinds) (x ∷ xs) = do
  i ← typed scope kind x
  numbers ← arguments scope kinds xs
  Ok (i ∷ numbers)
arguments scope [] xs = Ok []
arguments scope (kind ∷ kinds) [] = Ok []

-- a call: its predicate is there, the rule has a block, and there are arguments for a pointer and the parameters
abbrev pub call_at : Scope → ℕ → List Kind → Name → List Name → Judged Call
call_at scope pred params x xs = do
  i ← typed scope Ptr x
  numbers ← arguments scope params xs
  Ok (record { pred = record { 0 = pred }; at = i; args = numbers })

abbrev pub call_with : Scope → ℕ → List Kind → Name → List Name → Judged Call
call_with scope pred params p [] = Err (at Cause.Arity p)
call_with scope pred params p (x ∷ xs) =
    if length xs == length params then call_at scope pred params x xs else Err (at Cause.Arity p)

abbrev pub call : Context → Bool → Scope → Name → List Name → Judged Call
call context guarded scope p xs = do
  pred ← need (position (λ name. is_same name p.text) context.preds) (at Cause.UnknownName p)
  params ← need (slice_get context.params pred) (at Cause.UnknownName p)
  if guarded then call_with scope pred params p xs else Err (at Cause.Unguarded p)

-- an atom of a body, which may introduce its name
abbrev pub with_atom : Body → Scope → DefAtom → Body
with_atom body scope atom = record body { scope = scope; atoms = body.atoms ++ atom ∷ [] }

abbrev pub bounded : Scope → Name → ℤ → ℤ → Judged DefAtom
bounded scope x lo hi = do
  i ← typed scope Int x
  Ok (In i lo hi)

abbrev pub item : Context → Bool → Body → Item → Judged Body
item context guarded body (Item.Call p xs) = do
  c ← call context guarded body.scope p xs
  Ok (record body { calls = body.calls ++ c ∷ [] })
item context guarded body (Item.Relates x (Fixes kind) s) = do
  scope ← introduced body.scope kind x
  a ← sum body.scope kind s
  Ok (with_atom body scope (Eq (length body.scope.kinds) a.base a.add true))
item context guarded body (Item.Relates x Equals s) = do
  k ← known body.scope x
  a ← sum body.scope k.kind s
  Ok (with_atom body body.scope (Eq k.number a.base a.add false))
item context guarded body (Item.Relates x Differs s) = do
  k ← known body.scope x
  a ← sum body.scope k.kind s
  Ok (with_atom body body.scope (Ne k.number a.base a.add))
item context guarded body (Item.Bounds x AtMost n) = do
  atom ← bounded body.scope x (neg_ℤ (pos 2147483648)) (value_of n)
  Ok (with_atom body body.scope atom)
item context guarded body (Item.Bounds x AtLeast n) = do
  atom ← bounded body.scope x (value_of n) (pos 2147483647)
  Ok (with_atom body body.scope atom)

abbrev pub items : Context → Bool → Body → List Item → Judged Body
items context guarded body [] = Ok body
items context guarded body (one ∷ more) = do
  next ← item context guarded body one
  items context guarded next more

-- ---- blocks
-- what a block says up to a content: the names of the rule, and for each field which content names it
pub record Held : Type 0 where
  pub names : List (List ℕ)
  pub fields : List (Option ℕ)

-- a field that is there holds one content
abbrev pub held_by : Held → Option (Option ℕ) → ℕ → ℕ → Content → Judged Held
held_by held None i number c = Err (at Cause.UnknownName c.field)
held_by held (Some (Some other)) i number c = Err (at Cause.Twice c.field)
held_by held (Some None) i number c =
    if is_some (number_in held.names c.name.text) then Err (at Cause.Twice c.name)
    else Ok (record { names = held.names ++ c.name.text ∷ []; fields = slice_set held.fields i (Some number) })

-- the content of this number names a field which no content before names, and introduces a name
abbrev pub holds : List (List ℕ) → Held → ℕ → Content → Judged Held
holds fields held number c = do
  i ← need (position (λ name. is_same name c.field.text) fields) (at Cause.UnknownName c.field)
  held_by held (slice_get held.fields i) i number c

abbrev pub contents : List (List ℕ) → Held → ℕ → List Content → Judged Held
contents fields held number [] = Ok held
contents fields held number (c ∷ cs) = do
  next ← holds fields held number c
  contents fields next (suc number) cs

-- the names of the contents come in the struct's order, and each field has one
abbrev pub at_end : Block → Refusal
at_end b = record { cause = Cause.MissingField; place = b.end }

abbrev pub placed : Block → Scope → List FieldInfo → List (Option ℕ) → Judged Scope
placed b scope [] held = Ok scope
placed b scope (field ∷ fields) [] = Err (at_end b)
placed b scope (field ∷ fields) (one ∷ held) = do
  number ← need one (at_end b)
  c ← need (slice_get b.contents number) (at_end b)
  placed b (record { names = scope.names ++ c.name.text ∷ []; kinds = scope.kinds ++ field.kind ∷ [] }) fields held

abbrev pub nothing_held : Scope → StructInfo → Held
nothing_held scope info = record { names = scope.names; fields = replicate (length info.fields) None }

-- for each field of its struct, which content of a block names it
abbrev pub holders : Scope → StructInfo → Block → Judged (List (Option ℕ))
holders scope info b = do
  held ← contents (map (λ field. field.name) info.fields) (nothing_held scope info) 0 b.contents
  Ok held.fields

abbrev pub block_of : Scope → StructInfo → Block → Judged Scope
block_of scope info b = do
  held ← holders scope info b
  placed b scope info.fields held

-- ---- rules
abbrev pub with_scope : Scope → Body
with_scope scope = record { scope = scope; calls = []; atoms = [] }

abbrev pub rule_with : Option StructId → List ℕ → Body → Rule
rule_with shape held body = record { block = shape; contents = held; names = body.scope.kinds; calls = body.calls; atoms = body.atoms }

abbrev pub bare_rule : Context → Scope → List Item → Judged Rule
bare_rule context scope is = do
  body ← items context false (with_scope scope) is
  Ok (rule_with None [] body)

abbrev pub block_rule : Context → Scope → Block → List Item → Judged Rule
block_rule context scope b is = do
  shape ← need (position (λ name. is_same name b.shape.text) context.shapes) (at Cause.UnknownName b.shape)
  info ← need (slice_get context.structs shape) (at Cause.UnknownName b.shape)
  inner ← block_of scope info b
  body ← items context true (with_scope inner) is
  Ok (rule_with (Some (record { 0 = shape })) (numbers_from (length scope.kinds) (length inner.kinds - length scope.kinds)) body)

abbrev pub rule_by : Context → Scope → Option Block → List Item → Judged Rule
rule_by context scope None is = bare_rule context scope is
rule_by context scope (Some b) is = block_rule context scope b is

abbrev pub rule : Context → Scope → RuleText → Judged Rule
rule context scope r = rule_by context scope r.block r.items

abbrev pub rules : Context → Scope → List RuleText → Judged (List Rule)
rules context scope [] = Ok []
rules context scope (r ∷ rs) = do
  one ← rule context scope r
  more ← rules context scope rs
  Ok (one ∷ more)

-- ---- definitions
abbrev pub parameters : Scope → List Parameter → Judged Scope
parameters scope [] = Ok scope
parameters scope (p ∷ ps) = do
  next ← introduced scope p.kind p.name
  parameters next ps

abbrev pub this_alone : Scope
this_alone = record { names = codes "this" ∷ []; kinds = Ptr ∷ [] }

abbrev pub kinds_of : List Parameter → List Kind
kinds_of ps = map (λ p. p.kind) ps

abbrev pub definition_of : Context → DefText → Judged Def
definition_of context d = do
  scope ← parameters this_alone d.head.params
  rs ← rules context scope d.rules
  Ok (record { name = d.head.name.text; params = kinds_of d.head.params; rules = rs })

-- the definition of this number, of which none before has the name
abbrev pub definition : Context → ℕ → DefText → Judged Def
definition context number d = do
  first ← need (position (λ name. is_same name d.head.name.text) context.preds) (at Cause.Twice d.head.name)
  if first == number then definition_of context d else Err (at Cause.Twice d.head.name)

abbrev pub definitions : Context → ℕ → List DefText → Judged (List Def)
definitions context number [] = Ok []
definitions context number (d ∷ ds) = do
  one ← definition context number d
  more ← definitions context (suc number) ds
  Ok (one ∷ more)

abbrev pub context_of : List StructInfo → List DefText → Context
context_of structs file = record {
  structs = structs;
  shapes = map (λ info. info.name) structs;
  preds = map
      (λ d. d.head.name.text) file;
  params = map (λ d. kinds_of d.head.params) file;
}

-- what a file says of these structs
abbrev pub judged : List StructInfo → List DefText → Judged (List Def)
judged structs file = definitions (context_of structs file) 0 file

-- ---- what calls answer
-- what is said, or a fault; memory may be missing
abbrev pub Finds : {A B : Type 0} → Judged A → (B → A) → Result B DefFault → Type 0
Finds judged of (Ok b) = judged ≡ Ok (of b)
Finds judged of (Err (Refused refusal)) = judged ≡ Err refusal
Finds judged of (Err NoMemory) = Unit {0}
