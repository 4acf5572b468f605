-- What assignments come to in the finished flow graph.
use Rattle.std.proofs.Common.{◌≡◌, ℕ, List, [], ◌∷◌, refl, subst}
use Rattle.mc_base.specs.declared.ids.VarId.{VarId}
use Rattle.mc_base.specs.declared.plain.Kind.{Kind}
use Rattle.mc_base.specs.declared.plain.Kind.TheVariants.{Int, Ptr}
use Rattle.mc_base.specs.declared.text.place.Place.{Place}
use Rattle.mc_flow.specs.declared.instr.Instr.TheVariants.{Copy, Malloc, Store}
use Rattle.mc_flow.specs.Steps.{field_count}
use Rattle.mc_flow.specs.declared.instr.Operand.{Operand}
use Rattle.mc_flow.specs.declared.instr.Operand.TheVariants.{Var}
use Rattle.mc_semantics.specs.Resolved.Programs.{FieldAt, Expr, value as expression_value, expression, allocation}
use Rattle.mc_lower_spec.specs.Graphs.{Graph, local, plain, Stage, Appends, Undefines, IsMade, Uses}
use Rattle.mc_lower_spec.specs.Values.{Operation, a_field, sets, struct_at, Takes, IsOfKind, Walks, walks_none, walks, Evaluates, Computes, of_field, Puts, puts_field}
use Rattle.mc_lower_spec.specs.Lowering.{SetsTo, sets_operand, sets_computed, Assigns, assigns_field, assigns_allocated, Changes, changes_field}
use Rattle.mc_lower.specs.declared.values.Operation.{Operation as OperationCode}
use Rattle.mc_lower.specs.declared.values.Value.{Value}
use Rattle.mc_lower.specs.Valued.{IsValue, operation_of}

-- a value that is there is copied
pub set_ready : (g : Graph) (out : ℕ) (place : Place) (v : VarId) (e : Expr) (o : Operand) (ts us : List VarId) (s m u : Stage) → ts ≡ []
    → IsValue g out place e ts s (Value.Ready o) us m → Appends g plain place (λ q. Copy v o q) m u → SetsTo g out place v (expression e) s u
set_ready g out place v e o ts us s m u none value copied =
    sets_operand (subst (λ l. Evaluates g out place e l s o l s) none value.0) (subst (λ x. Appends g plain place (λ q. Copy v o q) x u) value.2 copied)

-- the last instruction of a value sets the variable
pub set_computed : (g : Graph) (out : ℕ) (place : Place) (v : VarId) (e : Expr) (kind : Kind) (operation : OperationCode) (ts us : List VarId)
    → (s m r u : Stage) → ts ≡ [] → IsValue g out place e ts s (Value.Computed kind operation) us m
    → Appends g plain place (λ q. sets (operation_of operation) v q) m r → Undefines g place us r u → SetsTo g out place v (expression e) s u
set_computed g out place v e kind operation ts us s m r u none value appended undefined =
    sets_computed (subst (λ l. IsValue g out place e l s (Value.Computed kind operation) us m) none value) appended undefined

-- ---- fields
-- where fields were walked, there are some
pub walked_some : (g : Graph) (place : Place) (y z : VarId) (fields : List FieldAt) (last : FieldAt) (ts us : List VarId) (s m : Stage)
    → Walks g place y fields ts s z last us m → fields ≡ [] → ⊥
walked_some g place _ _ _ _ _ _ _ _ walks_none is = cc
walked_some g place _ _ _ _ _ _ _ _ (walks of_kind taken rest) is = cc

pub field_computed : (g : Graph) (out : ℕ) (place : Place) (x : ℕ) (fields : List FieldAt) (y z : VarId) (last : FieldAt) (kind : Kind) (ts us : List VarId) (s u : Stage)
    → IsMade g (local out x) y s → Walks g place y fields ts s z last us u → IsOfKind g last kind
    → Computes g out place (expression_value (record { variable = x; fields = fields })) ts s kind (a_field z last) us u
field_computed g out place x [] y z last kind ts us s u made walked of_kind = absurd (walked_some g place y z [] last ts us s u walked refl)
field_computed g out place x (f ∷ fs) y z last kind ts us s u made walked of_kind = of_field made walked of_kind

pub field_put : (g : Graph) (out : ℕ) (place : Place) (x : ℕ) (fields : List FieldAt) (y z : VarId) (last : FieldAt) (o : Operand) (ts us : List VarId)
    → (s m r u : Stage) → IsMade g (local out x) y s → Walks g place y fields ts s z last us m
    → Appends g plain place (λ q. Store z (struct_at last.shape) last.field o q) m r → Undefines g place us r u
    → Puts g out place (record { variable = x; fields = fields }) o ts s u
field_put g out place x [] y z last o ts us s m r u made walked stored undefined = absurd (walked_some g place y z [] last ts us s m walked refl)
field_put g out place x (f ∷ fs) y z last o ts us s m r u made walked stored undefined = puts_field made walked stored undefined

pub value_assigned : (g : Graph) (out : ℕ) (place : Place) (x : ℕ) (fields : List FieldAt) (e : Expr) (o : Operand) (empty ts : List VarId) (s m u : Stage)
    → (fields ≡ [] → ⊥) → empty ≡ [] → Evaluates g out place e empty s o ts m → Puts g out place (record { variable = x; fields = fields }) o ts m u
    → Assigns g out place (record { variable = x; fields = fields }) (expression e) s u
value_assigned g out place x [] e o empty ts s m u some none value put = absurd (some refl)
value_assigned g out place x (f ∷ fs) e o empty ts s m u some none value put =
    assigns_field (subst (λ l. Evaluates g out place e l s o ts m) none value) put

pub field_changed : (g : Graph) (out : ℕ) (place : Place) (operation : Operand → Operand → Operation) (x : ℕ) (fields : List FieldAt) (e : Expr) (o : Operand)
    → (y z old new : VarId) (last : FieldAt) (kind : Kind) (ts us ws rs : List VarId) (s m n i j r u : Stage)
    → Evaluates g out place e [] s o ts m → IsMade g (local out x) y m → Walks g place y fields ts m z last us n → IsOfKind g last kind
    → Takes g place kind (a_field z last) us n old ws i → Takes g place Int (operation (Var old) o) ws i new rs j
    → Appends g plain place (λ q. Store z (struct_at last.shape) last.field (Var new) q) j r → Undefines g place rs r u
    → Changes g out place operation (record { variable = x; fields = fields }) e s u
field_changed g out place operation x [] e o y z old new last kind ts us ws rs s m n i j r u value made walked of_kind loaded computed stored undefined =
    absurd (walked_some g place y z [] last ts us m n walked refl)
field_changed g out place operation x (f ∷ fs) e o y z old new last kind ts us ws rs s m n i j r u value made walked of_kind loaded computed stored undefined =
    changes_field value made walked of_kind loaded computed stored undefined

pub allocated_assigned : (g : Graph) (out : ℕ) (place : Place) (x : ℕ) (fields : List FieldAt) (shape count : ℕ) (t : VarId) (ts : List VarId) (s m r u : Stage)
    → (fields ≡ [] → ⊥) → ts ≡ t ∷ [] → field_count g.flow.structs (struct_at shape) ≡ count → Uses g 0 Ptr s t m
    → Appends g plain place (λ q. Malloc t (struct_at shape) q) m r → Puts g out place (record { variable = x; fields = fields }) (Var t) ts r u
    → Assigns g out place (record { variable = x; fields = fields }) (allocation shape count) s u
allocated_assigned g out place x [] shape count t ts s m r u some is counted used allocated put = absurd (some refl)
allocated_assigned g out place x (f ∷ fs) shape count t ts s m r u some is counted used allocated put =
    assigns_allocated counted used allocated (subst (λ l. Puts g out place (record { variable = x; fields = f ∷ fs }) (Var t) l r u) is put)
