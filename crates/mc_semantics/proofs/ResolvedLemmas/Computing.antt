-- Expressions have the same values, and assignments change the same.
use Rattle.std.proofs.Common.{◌≡◌, ◌≢◌, ℕ, ℤ, ◌+ℤ◌, ◌-ℤ◌, ◌*ℤ◌, Bool, true, false, cond, List, [], ◌∷◌, Option, Some, None, length, is_some, refl, sym, ap, subst, ◌∙◌, arith, slice_get, unwrap_or}
use Rattle.std.specs.Prelude.{find, if◌then◌else◌, ◌==◌}
use Rattle.std.specs.Option.{option_map_or}
use Rattle.std.proofs.lemmas.List.{get_or-set_other, length-set}
use Rattle.std.proofs.lemmas.Option.{slice_get_past, unwrap_or-slice_get}
use Rattle.mc_base.specs.declared.plain.FaultKind.{FaultKind}
use Rattle.mc_flow.specs.Heap.Heap.{Block, Heap, region_of}
use Rattle.mc_flow.specs.Heap.Access.{block_field}
use Rattle.mc_flow.specs.Heap.Choices.{Choice}
use Rattle.mc_flow.specs.declared.defs.rules.Def.{Def}
use Rattle.mc_flow.specs.Values.{address, wrapped}
use Rattle.mc_c_syntax.specs.declared.ast.trees.Name.{Name}
use Rattle.mc_c_syntax.specs.Ast.Names.{is_same}
use Rattle.mc_c_syntax.specs.Ast.Trees as tree
use Rattle.mc_c_types.specs.Tables.{Tables, Variable}
use Rattle.mc_c_types.specs.declared.types.VariableType.{VariableType}
use Rattle.mc_c_types.specs.Faults.{variable_type, behind_fields}
use Rattle.mc_semantics.specs.Configs as named
use Rattle.mc_semantics.specs.Values as named_values
use Rattle.mc_semantics.specs.Values.{Found, faulty, found, after_found, Evaluated, fault_of, value_of, evaluated, right_operand, AfterLeft, variable_of, struct_behind, field_number}
use Rattle.mc_semantics.specs.Steps.{where_is}
use Rattle.mc_semantics.specs.Resolved.Programs.{FieldAt}
use Rattle.mc_semantics.specs.Resolved.Configs.{Values, held, with_variable}
use Rattle.mc_semantics.specs.Resolved.Values.{behind_value, left_value, Evaluates, Changed, fault_in, changed, written, put, set_variable, behind_base, assigned_behind, assigned, combined}
use Rattle.mc_semantics.specs.Resolved.Resolving.{number_in, resolved_variable, resolved_fields, resolved_left, resolved_expression}
use Rattle.mc_semantics.specs.Resolved.Running.{IsKnown, AreKnown, Agree, naming}
use Rattle.mc_semantics.proofs.ResolvedLemmas.Holding.{set_agree}

-- ---- variables
found_in : (locals : List Variable) (p : Variable → Bool) (vs : List Variable) (v : Variable) → AreKnown locals vs → find p vs ≡ Some v → IsKnown locals v.place
found_in locals p [] v known e = absurd (grind (arith, e))
found_in locals p (x ∷ vs) v known e = go (p x) (found_in locals p vs v known.1) e
  where
    go : (b : Bool) → (find p vs ≡ Some v → IsKnown locals v.place) → cond b (Some x) (find p vs) ≡ Some v → IsKnown locals v.place
    go true later same = let P : Option Variable → Type 0 = λ o. IsKnown locals (unwrap_or o x).place in subst P same known.0
    go false later same = later same

pub past_all : (locals : List Variable) (numbered : Values) → length numbered ≡ length locals → held numbered (length locals) ≡ None
past_all locals numbered same =
    let past : slice_get numbered (length locals) ≡ None = slice_get_past numbered (length locals) (omega (arith, same)) in
    sym (unwrap_or-slice_get numbered (length locals) None) ∙ ap (λ o. unwrap_or o None) past

pub held_alike : (t : Tables) (defs : List Def) (locals vs : List Variable) (values : named.Values) (numbered : Values) (heap : Heap) (name : Name) → Agree locals values numbered → AreKnown locals vs
    → held numbered (resolved_variable (naming t defs locals) vs name) ≡ named_values.held (where_is t vs values heap) name
held_alike t defs locals vs values numbered heap name agree known = go (variable_of vs name) (λ v e. found_in locals (λ x. is_same x.name name.text) vs v known e)
  where
    go : (o : Option Variable) → ((v : Variable) → o ≡ Some v → IsKnown locals v.place)
        → held numbered (option_map_or (λ v. number_in locals v.place) o (length locals)) ≡ option_map_or (λ v. values v.place) o None
    go None is_known = past_all locals numbered agree.same_length
    go (Some v) is_known = agree.same v.place (is_known v refl)

-- ---- fields
after_same : (x : Found) (f g : Option ℤ → Found) → ((w : Option ℤ) → f w ≡ g w) → after_found x f ≡ after_found x g
after_same (faulty kind) f g same = refl
after_same (found v) f g same = same v

pub behind_same : (t : Tables) (heap : Heap) (type : VariableType) (v : Option ℤ) (fields : List Name)
    → behind_value heap v (resolved_fields t type fields) ≡ named_values.behind_value t heap type v fields
behind_same t heap type v [] = refl
behind_same t heap type None (field ∷ fields) = refl
behind_same t heap type (Some p) (field ∷ fields) =
    after_same (named_values.loaded t heap type field (Some p)) _ _ (λ w. behind_same t heap (behind_fields t type (field ∷ [])) w fields)

pub left_same : (t : Tables) (defs : List Def) (locals vs : List Variable) (values : named.Values) (numbered : Values) (heap : Heap) (l : tree.Left) → Agree locals values numbered → AreKnown locals vs
    → left_value numbered heap (resolved_left (naming t defs locals) vs l) ≡ named_values.left_value (where_is t vs values heap) l
left_same t defs locals vs values numbered heap l agree known =
    ap (λ v. behind_value heap v (resolved_fields t (variable_type vs l.name) l.fields)) (held_alike t defs locals vs values numbered heap l.name agree known)
    ∙ behind_same t heap (variable_type vs l.name) (named_values.held (where_is t vs values heap) l.name) l.fields

-- ---- expressions
-- a relation between choices and what comes of them is part of another
abbrev Within : (List Choice → Evaluated → Type 0) → (List Choice → Evaluated → Type 0) → Type 0
Within P Q = (choices : List Choice) (r : Evaluated) → P choices r → Q choices r

after_left : (operation : ℤ → ℤ → ℤ) (P Q : List Choice → Evaluated → Type 0) (one r : Evaluated) → Within P Q → AfterLeft operation P one r → AfterLeft operation Q one r
after_left operation P Q (fault_of kind) r within a = a
after_left operation P Q (value_of v choices) r within (two, p, e) = (two, within choices two p, e)

operated : (operation : ℤ → ℤ → ℤ) (P Q R S : List Choice → Evaluated → Type 0) → Within P Q → Within R S
    → Within (λ choices r. (one : Evaluated) × P choices one × AfterLeft operation R one r) (λ choices r. (one : Evaluated) × Q choices one × AfterLeft operation S one r)
operated operation P Q R S first second choices r (one, p, a) = (one, first choices one p, after_left operation R S one r second a)

pub value_forth : (t : Tables) (defs : List Def) (locals vs : List Variable) (values : named.Values) (numbered : Values) (heap : Heap) → Agree locals values numbered → AreKnown locals vs → (e : tree.Expr)
    → Within (named_values.Evaluates (where_is t vs values heap) e) (Evaluates numbered heap (resolved_expression (naming t defs locals) vs e))
value_forth t defs locals vs values numbered heap agree known (tree.number n p) = λ choices r s. s
value_forth t defs locals vs values numbered heap agree known (tree.null p) = λ choices r s. s
value_forth t defs locals vs values numbered heap agree known (tree.input p) = λ choices r s. s
value_forth t defs locals vs values numbered heap agree known (tree.value l) = λ choices r s. s ∙ ap (λ x. evaluated x choices) (sym (left_same t defs locals vs values numbered heap l agree known))
value_forth t defs locals vs values numbered heap agree known (tree.minus p e) = λ choices r s. (s.0, value_forth t defs locals vs values numbered heap agree known e choices s.0 s.1, s.2)
value_forth t defs locals vs values numbered heap agree known (tree.parens p e) = value_forth t defs locals vs values numbered heap agree known e
value_forth t defs locals vs values numbered heap agree known (tree.times a b) =
    operated (λ x y. x *ℤ y) _ _ _ _ (value_forth t defs locals vs values numbered heap agree known a) (value_forth t defs locals vs values numbered heap agree known b)
value_forth t defs locals vs values numbered heap agree known (tree.plus a b) =
    operated (λ x y. x +ℤ y) _ _ _ _ (value_forth t defs locals vs values numbered heap agree known a) (value_forth t defs locals vs values numbered heap agree known b)
value_forth t defs locals vs values numbered heap agree known (tree.difference a b) =
    operated (λ x y. x -ℤ y) _ _ _ _ (value_forth t defs locals vs values numbered heap agree known a) (value_forth t defs locals vs values numbered heap agree known b)

pub value_back : (t : Tables) (defs : List Def) (locals vs : List Variable) (values : named.Values) (numbered : Values) (heap : Heap) → Agree locals values numbered → AreKnown locals vs → (e : tree.Expr)
    → Within (Evaluates numbered heap (resolved_expression (naming t defs locals) vs e)) (named_values.Evaluates (where_is t vs values heap) e)
value_back t defs locals vs values numbered heap agree known (tree.number n p) = λ choices r s. s
value_back t defs locals vs values numbered heap agree known (tree.null p) = λ choices r s. s
value_back t defs locals vs values numbered heap agree known (tree.input p) = λ choices r s. s
value_back t defs locals vs values numbered heap agree known (tree.value l) = λ choices r s. s ∙ ap (λ x. evaluated x choices) (left_same t defs locals vs values numbered heap l agree known)
value_back t defs locals vs values numbered heap agree known (tree.minus p e) = λ choices r s. (s.0, value_back t defs locals vs values numbered heap agree known e choices s.0 s.1, s.2)
value_back t defs locals vs values numbered heap agree known (tree.parens p e) = value_back t defs locals vs values numbered heap agree known e
value_back t defs locals vs values numbered heap agree known (tree.times a b) =
    operated (λ x y. x *ℤ y) _ _ _ _ (value_back t defs locals vs values numbered heap agree known a) (value_back t defs locals vs values numbered heap agree known b)
value_back t defs locals vs values numbered heap agree known (tree.plus a b) =
    operated (λ x y. x +ℤ y) _ _ _ _ (value_back t defs locals vs values numbered heap agree known a) (value_back t defs locals vs values numbered heap agree known b)
value_back t defs locals vs values numbered heap agree known (tree.difference a b) =
    operated (λ x y. x -ℤ y) _ _ _ _ (value_back t defs locals vs values numbered heap agree known a) (value_back t defs locals vs values numbered heap agree known b)

-- ---- what is changed
pub data SameChange (locals : List Variable) : named_values.Changed → Changed → Type 0 where
  same_fault : {kind : FaultKind} → SameChange locals (named_values.fault_in kind) (fault_in kind)
  same_change : {values : named.Values} {numbered : Values} {heap : Heap} → Agree locals values numbered → SameChange locals (named_values.changed values heap) (changed numbered heap)

pub chosen : (locals : List Variable) (b : Bool) {x y : named_values.Changed} {z w : Changed} → SameChange locals x z → SameChange locals y w → SameChange locals (if b then x else y) (if b then z else w)
chosen locals true first second = first
chosen locals false first second = second

set_past : (locals : List Variable) (values : named.Values) (numbered : Values) (v : Option ℤ) → Agree locals values numbered → Agree locals values (with_variable numbered (length locals) v)
set_past locals values numbered v agree =
    record {
      same_length = length-set numbered (length locals) v ∙ agree.same_length;
      same = λ place known.
          let apart : number_in locals place ≢ length locals = λ same. absurd (omega (arith, same, known)) in
          get_or-set_other numbered (length locals) (number_in locals place) v None apart ∙ agree.same place known;
    }

pub set_alike : (t : Tables) (defs : List Def) (locals vs : List Variable) (values : named.Values) (numbered : Values) (heap : Heap) (name : Name) (v : Option ℤ) → Agree locals values numbered → AreKnown locals vs
    → SameChange locals (named_values.set_variable (where_is t vs values heap) name v) (set_variable numbered heap (resolved_variable (naming t defs locals) vs name) v)
set_alike t defs locals vs values numbered heap name None agree known = same_fault
set_alike t defs locals vs values numbered heap name (Some v) agree known = go (variable_of vs name) (λ x e. found_in locals (λ y. is_same y.name name.text) vs x known e)
  where
    go : (o : Option Variable) → ((x : Variable) → o ≡ Some x → IsKnown locals x.place)
        → SameChange locals (named_values.changed (option_map_or (λ x. named.with_variable values x.place (Some v)) o values) heap) (changed (with_variable numbered (option_map_or (λ x. number_in locals x.place) o (length locals)) (Some v)) heap)
    go None is_known = same_change (set_past locals values numbered (Some v) agree)
    go (Some x) is_known = same_change (set_agree locals values numbered x.place (Some v) agree (is_known x refl))

written_alike : (t : Tables) (locals vs : List Variable) (values : named.Values) (numbered : Values) (heap : Heap) (at : ℕ) (f : FieldAt) (v : ℤ) (b : Option Block) → Agree locals values numbered
    → SameChange locals (named_values.written (where_is t vs values heap) at f.shape f.field v b) (written numbered heap at f v b)
written_alike t locals vs values numbered heap at f v None agree = same_fault
written_alike t locals vs values numbered heap at f v (Some block) agree = chosen locals (is_some (block_field block f.shape f.field)) (same_change agree) same_fault

put_alike : (t : Tables) (locals vs : List Variable) (values : named.Values) (numbered : Values) (heap : Heap) (type : VariableType) (field : Name) (v base : Option ℤ) → Agree locals values numbered
    → SameChange locals (named_values.put (where_is t vs values heap) type field v base) (put numbered heap (record { shape = struct_behind type; field = field_number t type field }) v base)
put_alike t locals vs values numbered heap type field None base agree = same_fault
put_alike t locals vs values numbered heap type field (Some v) None agree = same_fault
put_alike t locals vs values numbered heap type field (Some v) (Some p) agree =
    chosen locals (address p == 0) same_fault
    (written_alike t locals vs values numbered heap (address p) (record { shape = struct_behind type; field = field_number t type field }) v (region_of heap (address p)) agree)

behind_alike : (locals : List Variable) (x : Found) (f : Option ℤ → named_values.Changed) (g : Option ℤ → Changed) → ((w : Option ℤ) → SameChange locals (f w) (g w))
    → SameChange locals (named_values.behind_base x f) (behind_base x g)
behind_alike locals (faulty kind) f g same = same_fault
behind_alike locals (found v) f g same = same v

behind_field_alike : (t : Tables) (locals vs : List Variable) (values : named.Values) (numbered : Values) (heap : Heap) (type : VariableType) (base : Option ℤ) (field : Name) (fields : List Name) (v : Option ℤ) → Agree locals values numbered
    → SameChange locals (named_values.assigned_behind (where_is t vs values heap) type base field fields v)
    (assigned_behind numbered heap base (record { shape = struct_behind type; field = field_number t type field }) (resolved_fields t (behind_fields t type (field ∷ [])) fields) v)
behind_field_alike t locals vs values numbered heap type base field [] v agree = put_alike t locals vs values numbered heap type field v base agree
behind_field_alike t locals vs values numbered heap type None field (next ∷ fields) v agree = same_fault
behind_field_alike t locals vs values numbered heap type (Some p) field (next ∷ fields) v agree =
    behind_alike locals (named_values.loaded t heap type field (Some p)) _ _ (λ w. behind_field_alike t locals vs values numbered heap (behind_fields t type (field ∷ [])) w next fields v agree)

fields_alike : (t : Tables) (defs : List Def) (locals vs : List Variable) (values : named.Values) (numbered : Values) (heap : Heap) (name : Name) (fields : List Name) (v : Option ℤ) → Agree locals values numbered → AreKnown locals vs
    → SameChange locals (named_values.assigned (where_is t vs values heap) (record { name = name; fields = fields }) v)
    (assigned numbered heap (resolved_left (naming t defs locals) vs (record { name = name; fields = fields })) v)
fields_alike t defs locals vs values numbered heap name [] v agree known = set_alike t defs locals vs values numbered heap name v agree known
fields_alike t defs locals vs values numbered heap name (field ∷ fields) v agree known =
    let type : VariableType = variable_type vs name in
    let P : Option ℤ → Type 0 = λ base. SameChange locals (named_values.assigned_behind (where_is t vs values heap) type (named_values.held (where_is t vs values heap) name) field fields v)
    (assigned_behind numbered heap base (record { shape = struct_behind type; field = field_number t type field }) (resolved_fields t (behind_fields t type (field ∷ [])) fields) v) in
    subst P (sym (held_alike t defs locals vs values numbered heap name agree known))
    (behind_field_alike t locals vs values numbered heap type (named_values.held (where_is t vs values heap) name) field fields v agree)

pub assigned_alike : (t : Tables) (defs : List Def) (locals vs : List Variable) (values : named.Values) (numbered : Values) (heap : Heap) (l : tree.Left) (v : Option ℤ) → Agree locals values numbered → AreKnown locals vs
    → SameChange locals (named_values.assigned (where_is t vs values heap) l v) (assigned numbered heap (resolved_left (naming t defs locals) vs l) v)
assigned_alike t defs locals vs values numbered heap l v agree known = fields_alike t defs locals vs values numbered heap l.name l.fields v agree known

pub combined_alike : (operation : ℤ → ℤ → ℤ) (t : Tables) (defs : List Def) (locals vs : List Variable) (values : named.Values) (numbered : Values) (heap : Heap) (l : tree.Left) (v : Option ℤ) → Agree locals values numbered → AreKnown locals vs
    → SameChange locals (named_values.combined operation (where_is t vs values heap) l v) (combined operation numbered heap (resolved_left (naming t defs locals) vs l) v)
combined_alike operation t defs locals vs values numbered heap l v agree known =
    go (named_values.left_value (where_is t vs values heap) l) v refl (left_same t defs locals vs values numbered heap l agree known)
  where
    go : (x : Found) (w : Option ℤ) → named_values.left_value (where_is t vs values heap) l ≡ x → left_value numbered heap (resolved_left (naming t defs locals) vs l) ≡ named_values.left_value (where_is t vs values heap) l
        → SameChange locals (named_values.combined operation (where_is t vs values heap) l w) (combined operation numbered heap (resolved_left (naming t defs locals) vs l) w)
    go (faulty kind) w e same = rw (same, e) same_fault
    go (found None) w e same = rw (same, e) same_fault
    go (found (Some a)) None e same = rw (same, e) same_fault
    go (found (Some a)) (Some b) e same = rw (same, e) (assigned_alike t defs locals vs values numbered heap l (Some (wrapped (operation a b))) agree known)
