-- Variables and fields have the kinds of their types.
use Rattle.std.proofs.Common.{◌≡◌, ◌<◌, ◌+◌, ℕ, suc, Bool, true, false, cond, not, List, [], ◌∷◌, map, length, Option, Some, None, option_map, is_some, find, refl, ap, ◌∙◌, arith}
use Rattle.std.specs.Option.{option_map_or}
use Rattle.std.specs.List.{position_or_len}
use Rattle.std.specs.Prelude.{slice_get, unwrap_or, position, option_and_then}
use Rattle.std.proofs.lemmas.Bool.{lt-ltb}
use Rattle.mc_base.specs.declared.plain.Kind.{Kind}
use Rattle.mc_base.specs.declared.plain.Kind.TheVariants.{Ptr}
use Rattle.mc_c_syntax.specs.declared.ast.trees.Name.{Name}
use Rattle.mc_c_syntax.specs.Ast.Names.{is_same}
use Rattle.mc_c_syntax.specs.Ast.Trees as tree
use Rattle.mc_flow.specs.declared.defs.shapes.StructInfo.{StructInfo}
use Rattle.mc_flow.specs.declared.defs.shapes.FieldInfo.{FieldInfo}
use Rattle.mc_flow.specs.Valid.{IsField, field_kind}
use Rattle.mc_lower_spec.specs.Values.{struct_at}
use Rattle.mc_semantics.specs.Values.{struct_behind, field_number}
use Rattle.mc_c_types.specs.Tables.{Tables, Variable, type_in, kind_of, fields_of}
use Rattle.mc_c_types.specs.Faults.{field_in, variable_faults, variable_type, left_faults, left_type, field_faults, behind_fields, unless}
use Rattle.mc_c_types.specs.declared.types.VariableType.{VariableType}
use Rattle.mc_c_types.specs.declared.types.VariableType.TheVariants.{Int, Pointer, Anything}
use Rattle.mc_c_types.specs.declared.faults.FaultName.TheVariants.{Unknown}
use Rattle.mc_semantics.specs.Resolved.Resolving.{Naming, number_in, resolved_variable, resolved_fields, resolved_left}
use Rattle.mc_lower_laws.specs.Valid.Kinds.{Here, IsVariable, LeadsTo, IsLeft}
use Rattle.mc_lower_laws.proofs.ScopedLemmas.Faultless.{none_left, none_right}
use Rattle.mc_lower_laws.proofs.KindsLemmas.Types.{Each, IsProper, false_true, kept}

-- ---- fields
abbrev pub field_of : Variable → FieldInfo
field_of v = record { name = v.name; kind = kind_of v.type }

abbrev pub info_of : Tables → tree.StructTree → StructInfo
info_of t s = record { name = s.name.text; fields = map field_of (fields_of t s) }

-- the fields of a struct have known types
pub record IsShaped (t : Tables) (h : Here) (s : ℕ) (shape : tree.StructTree) : Type 0 where
  pub proper : Each (λ v. IsProper (length t.structs) v.type) (fields_of t shape)
  pub there : slice_get h.structs.list s ≡ Some (info_of t shape)

pub record AreShaped (t : Tables) (h : Here) : Type 0 where
  pub each : (s : ℕ) (shape : tree.StructTree) → slice_get t.structs s ≡ Some shape → IsShaped t h s shape

-- the first one of a name has the type
pub proper_in : (count : ℕ) (vs : List Variable) (name : List ℕ) → Each (λ v. IsProper count v.type) vs → is_some (type_in vs name) ≡ true → IsProper count (unwrap_or (type_in vs name) Anything)
proper_in count [] name all e = absurd (false_true e)
proper_in count (v ∷ vs) name all e = at (is_same v.name name) (find (λ w. is_same w.name name) vs) (λ more. proper_in count vs name all.1 more) e
  where
    at : (b : Bool) (rest : Option Variable) → (is_some (option_map (λ w. w.type) rest) ≡ true → IsProper count (unwrap_or (option_map (λ w. w.type) rest) Anything))
        → is_some (option_map (λ w. w.type) (cond b (Some v) rest)) ≡ true → IsProper count (unwrap_or (option_map (λ w. w.type) (cond b (Some v) rest)) Anything)
    at true rest later f = all.0
    at false rest later f = later f

abbrev kind_at : List Variable → ℕ → Option Kind
kind_at vs i = option_map (λ f. f.kind) (slice_get (map field_of vs) i)

one_more : (v : Variable) (vs : List Variable) (k : ℕ) → kind_at (v ∷ vs) (1 + k) ≡ kind_at vs k
one_more v vs k = let e : 1 + k ≡ suc k = omega arith in ap (λ i. kind_at (v ∷ vs) i) e

first_in : (vs : List Variable) (name : List ℕ) → is_some (type_in vs name) ≡ true
    → (position_or_len (λ v. is_same v.name name) vs < length vs) × (kind_at vs (position_or_len (λ v. is_same v.name name) vs) ≡ Some (kind_of (unwrap_or (type_in vs name) Anything)))
first_in [] name e = absurd (false_true e)
first_in (v ∷ vs) name e = at (is_same v.name name) (find (λ w. is_same w.name name) vs) (position_or_len (λ w. is_same w.name name) vs) (λ more. first_in vs name more) e
  where
    at : (b : Bool) (rest : Option Variable) (k : ℕ)
        → (is_some (option_map (λ w. w.type) rest) ≡ true → (k < length vs) × (kind_at vs k ≡ Some (kind_of (unwrap_or (option_map (λ w. w.type) rest) Anything))))
        → is_some (option_map (λ w. w.type) (cond b (Some v) rest)) ≡ true
        → (cond (not b) (1 + k) 0 < length (v ∷ vs)) × (kind_at (v ∷ vs) (cond (not b) (1 + k) 0) ≡ Some (kind_of (unwrap_or (option_map (λ w. w.type) (cond b (Some v) rest)) Anything)))
    at true rest k later f = (omega arith, refl)
    at false rest k later f = let r = later f in (omega (arith, r.0), one_more v vs k ∙ r.1)

number_of : (vs : List Variable) (name : List ℕ) → is_some (type_in vs name) ≡ true
    → kind_at vs (unwrap_or (position (λ v. is_same v.name name) vs) 0) ≡ Some (kind_of (unwrap_or (type_in vs name) Anything))
number_of vs name e =
    let r = first_in vs name e in
    ap (λ b. kind_at vs (unwrap_or (cond b (Some (position_or_len (λ v. is_same v.name name) vs)) None) 0)) (lt-ltb (position_or_len (λ v. is_same v.name name) vs) (length vs) r.0) ∙ r.1

-- a field after a pointer
pub record IsBehind (t : Tables) (h : Here) (type : VariableType) (field : Name) : Type 0 where
  pub pointer : kind_of type ≡ Ptr
  pub proper : IsProper (length t.structs) (unwrap_or (field_in t type field.text) Anything)
  pub is : IsField h.structs (struct_at (struct_behind type)) (field_number t type field) (kind_of (unwrap_or (field_in t type field.text) Anything))

pub behind : (t : Tables) (h : Here) (type : VariableType) (field : Name) → AreShaped t h → IsProper (length t.structs) type → is_some (field_in t type field.text) ≡ true → IsBehind t h type field
behind t h Int field shaped proper e = absurd (false_true e)
behind t h Anything field shaped proper e = absurd proper
behind t h (Pointer s) field shaped proper e = let r = at (slice_get t.structs s.0) refl e in record { pointer = refl; proper = r.0; is = r.1 }
  where
    at : (o : Option tree.StructTree) → slice_get t.structs s.0 ≡ o → is_some (option_and_then (λ shape. type_in (fields_of t shape) field.text) o) ≡ true
        → IsProper (length t.structs) (unwrap_or (option_and_then (λ shape. type_in (fields_of t shape) field.text) o) Anything)
        × (field_kind h.structs (struct_at s.0) (unwrap_or (position (λ v. is_same v.name field.text) (option_map_or (fields_of t) o [])) 0)
        ≡ Some (kind_of (unwrap_or (option_and_then (λ shape. type_in (fields_of t shape) field.text) o) Anything)))
    at None same some = absurd (false_true some)
    at (Some shape) same some =
        let is = shaped.each s.0 shape same in (
          proper_in (length t.structs) (fields_of t shape) field.text is.proper some,
          ap (λ (o : Option StructInfo). option_and_then (λ (info : StructInfo). option_map (λ (f : FieldInfo). f.kind) (slice_get info.fields (unwrap_or (position (λ v. is_same v.name field.text) (fields_of t shape)) 0))) o) is.there
              ∙ number_of (fields_of t shape) field.text some,
        )

-- ---- fields one after the other
pub record IsLed (t : Tables) (h : Here) (type : VariableType) (fields : List Name) : Type 0 where
  pub proper : IsProper (length t.structs) (behind_fields t type fields)
  pub leads : LeadsTo h.structs (kind_of type) (resolved_fields t type fields) (kind_of (behind_fields t type fields))

pub led : (t : Tables) (h : Here) (type : VariableType) (fields : List Name) → AreShaped t h → IsProper (length t.structs) type → field_faults t type fields ≡ [] → IsLed t h type fields
led t h type [] shaped proper e = record { proper = proper; leads = refl }
led t h type (field ∷ fields) shaped proper e =
    let known = kept (is_some (field_in t type field.text)) Unknown field.place
    (none_left (unless (is_some (field_in t type field.text)) Unknown field.place) (field_faults t (unwrap_or (field_in t type field.text) Anything) fields) e) in
    let next = behind t h type field shaped proper known in
    let more = led t h (unwrap_or (field_in t type field.text) Anything) fields shaped next.proper
    (none_right (unless (is_some (field_in t type field.text)) Unknown field.place) (field_faults t (unwrap_or (field_in t type field.text) Anything) fields) e) in
    record { proper = more.proper; leads = (next.pointer, (kind_of (unwrap_or (field_in t type field.text) Anything), next.is, more.leads)) }

-- ---- variables
-- a variable whose type is known, with its number among those of the function
abbrev pub IsSeen : Naming → Here → Variable → Type 0
IsSeen n h v = IsProper (length n.tables.structs) v.type × IsVariable h (kind_of v.type) (number_in n.locals v.place)

abbrev pub AreSeen : Naming → Here → List Variable → Type 0
AreSeen n h vs = Each (IsSeen n h) vs

pub record IsNamed (n : Naming) (h : Here) (vs : List Variable) (name : Name) : Type 0 where
  pub proper : IsProper (length n.tables.structs) (variable_type vs name)
  pub is : IsVariable h (kind_of (variable_type vs name)) (resolved_variable n vs name)

named_in : (n : Naming) (h : Here) (vs : List Variable) (name : List ℕ) → AreSeen n h vs → is_some (type_in vs name) ≡ true
    → IsProper (length n.tables.structs) (unwrap_or (type_in vs name) Anything)
    × IsVariable h (kind_of (unwrap_or (type_in vs name) Anything)) (option_map_or (λ v. number_in n.locals v.place) (find (λ w. is_same w.name name) vs) (length n.locals))
named_in n h [] name all e = absurd (false_true e)
named_in n h (v ∷ vs) name all e = at (is_same v.name name) (find (λ w. is_same w.name name) vs) (λ more. named_in n h vs name all.1 more) e
  where
    at : (b : Bool) (rest : Option Variable)
        → (is_some (option_map (λ w. w.type) rest) ≡ true → IsProper (length n.tables.structs) (unwrap_or (option_map (λ w. w.type) rest) Anything)
        × IsVariable h (kind_of (unwrap_or (option_map (λ w. w.type) rest) Anything)) (option_map_or (λ v. number_in n.locals v.place) rest (length n.locals)))
        → is_some (option_map (λ w. w.type) (cond b (Some v) rest)) ≡ true
        → IsProper (length n.tables.structs) (unwrap_or (option_map (λ w. w.type) (cond b (Some v) rest)) Anything)
        × IsVariable h (kind_of (unwrap_or (option_map (λ w. w.type) (cond b (Some v) rest)) Anything)) (option_map_or (λ v. number_in n.locals v.place) (cond b (Some v) rest) (length n.locals))
    at true rest later f = (all.0.0, all.0.1)
    at false rest later f = later f

pub named : (n : Naming) (h : Here) (vs : List Variable) (name : Name) → AreSeen n h vs → variable_faults vs name ≡ [] → IsNamed n h vs name
named n h vs name seen e = let r = named_in n h vs name.text seen (kept (is_some (type_in vs name.text)) Unknown name.place e) in record { proper = r.0; is = r.1 }

pub record IsPlaced (n : Naming) (h : Here) (vs : List Variable) (l : tree.Left) : Type 0 where
  pub proper : IsProper (length n.tables.structs) (left_type n.tables vs l)
  pub is : IsLeft h (kind_of (left_type n.tables vs l)) (resolved_left n vs l)

pub placed : (n : Naming) (h : Here) (vs : List Variable) (l : tree.Left) → AreShaped n.tables h → AreSeen n h vs → left_faults n.tables vs l ≡ [] → IsPlaced n h vs l
placed n h vs l shaped seen e =
    let base = named n h vs l.name seen (none_left (variable_faults vs l.name) (field_faults n.tables (variable_type vs l.name) l.fields) e) in
    let more = led n.tables h (variable_type vs l.name) l.fields shaped base.proper (none_right (variable_faults vs l.name) (field_faults n.tables (variable_type vs l.name) l.fields) e) in
    record { proper = more.proper; is = (kind_of (variable_type vs l.name), base.is, more.leads) }
