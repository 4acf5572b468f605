-- `+=` and `-=` of a field, from their values on.
use Rattle.std.proofs.Common.{◌≡◌, ℕ, ℤ, ◌+ℤ◌, ◌-ℤ◌, List, [], ◌∷◌, Option, length, refl, sym, ap, ◌∙◌}
use Rattle.mc_base.specs.declared.ids.VarId.{VarId}
use Rattle.mc_base.specs.declared.plain.Kind.{Kind}
use Rattle.mc_base.specs.declared.plain.Kind.TheVariants.{Int}
use Rattle.mc_base.specs.declared.text.place.Place.{Place}
use Rattle.mc_flow.specs.Heap.Choices.{Choice}
use Rattle.mc_flow.specs.Values.{value_of as operand_value}
use Rattle.mc_flow.specs.declared.instr.Operand.{Operand}
use Rattle.mc_flow.specs.declared.instr.Operand.TheVariants.{Var}
use Rattle.mc_flow.specs.declared.instr.Instr.TheVariants.{Store}
use Rattle.mc_semantics.specs.Values.{fault_of, value_of}
use Rattle.mc_semantics.specs.Resolved.Configs.{Tasks}
use Rattle.mc_semantics.specs.Resolved.Programs.{FieldAt, Left, Expr}
use Rattle.mc_semantics.specs.Resolved.Steps.{Here, after, Combines}
use Rattle.mc_semantics.specs.Resolved.Values.{combined, Evaluates as Source}
use Rattle.mc_lower_spec.specs.Graphs.{Graph, local, Stage, plain, Appends, Undefines, IsMade, is_made}
use Rattle.mc_lower_spec.specs.Values.{struct_at, a_field, a_sum, a_difference, Walks, Takes, Evaluates}
use Rattle.mc_lower_spec.proofs.Stepping.{Vars}
use Rattle.mc_lower_spec.proofs.Stages.{goal_of}
use Rattle.mc_lower_spec.proofs.Evaluating.{AreTemporaries, no_temporaries, OnlyNew, Agree, agree_later, Leads, Ended, ended_waits, ended_faults, ended_gives, evaluating, temporaries, kept}
use Rattle.mc_lower_spec.proofs.Changing.{IsClean}
use Rattle.mc_lower_spec.proofs.Storing.{IsPut, put_faults, put_gives}
use Rattle.mc_lower_spec.proofs.Performing.{Settable, IsPerformed, performed_waits, performed_faults, performed, nothing_set}
use Rattle.mc_lower_spec.proofs.Adding.{changing_field}

put_combined : (g : Graph) (h : Here) (compute : ℤ → ℤ → ℤ) (l : Left) (e : Expr) (rest : Tasks) (May : Settable) (place : Place) (a m b : ℕ) (vars now : Vars) (choices left : List Choice) (w : Option ℤ)
    → Source h.values h.heap e choices (value_of w left) → Leads g h.heap a vars choices m now left
    → IsPut g (combined compute h.values h.heap l w) h.values place m b vars now h.heap left
    → IsPerformed g (λ r. Combines compute h l e place rest choices r) rest May place a b h.values vars h.heap choices
put_combined g h compute l e rest May place a m b vars now choices left w is leads (put_faults kind change goes) =
    performed_faults kind (value_of w left, is, sym (ap (after rest place left) change)) (leads.goes _ goes)
put_combined g h compute l e rest May place a m b vars now choices left w is leads (put_gives later change goes) =
    performed h.values vars later left (value_of w left, is, sym (ap (after rest place left) change)) (leads.goes _ goes) nothing_set

field_combined : (g : Graph) (h : Here) (compute : ℤ → ℤ → ℤ) (l : Left) (e : Expr) (rest : Tasks) (May : Settable) (place : Place) (o : Operand) (ts : List VarId) (a m b : ℕ) (vars : Vars) (choices : List Choice)
    → ((now : Vars) (left : List Choice) (w : Option ℤ) → OnlyNew [] ts vars now → operand_value now o ≡ w → IsPut g (combined compute h.values h.heap l w) h.values place m b vars now h.heap left)
    → Ended g (λ r. Source h.values h.heap e choices r) place [] ts o a m vars h.heap choices
    → IsPerformed g (λ r. Combines compute h l e place rest choices r) rest May place a b h.values vars h.heap choices
field_combined g h compute l e rest May place o ts a m b vars choices puts (ended_waits none never) = performed_waits (λ r q. none q.0 q.1) never
field_combined g h compute l e rest May place o ts a m b vars choices puts (ended_faults kind comes goes) = performed_faults kind (fault_of kind, comes, refl) goes
field_combined g h compute l e rest May place o ts a m b vars choices puts (ended_gives now w left comes leads new holds) =
    put_combined g h compute l e rest May place a m b vars now choices left w comes leads (puts now left w new holds)

pub adding_field : {g : Graph} {out x : ℕ} {place : Place} {y z old new : VarId} {f last : FieldAt} {fs : List FieldAt} {e : Expr} {o : Operand} {ts us ws rs : List VarId} {s m n i j r u : Stage} {kind : Kind}
    (h : Here) (rest : Tasks) (May : Settable) (vars : Vars) (choices : List Choice)
    → Evaluates g out place e [] s o ts m → IsMade g (local out x) y m → Walks g place y (f ∷ fs) ts m z last us n → Takes g place kind (a_field z last) us n old ws i
    → Takes g place Int (a_sum (Var old) o) ws i new rs j → Appends g plain place (λ q. Store z (struct_at last.shape) last.field (Var new) q) j r → Undefines g place rs r u
    → IsClean g vars → length vars ≡ length g.owners → Agree g out h.values vars
    → IsPerformed g (λ k. Combines (λ a b. a +ℤ b) h (record { variable = x; fields = f ∷ fs }) e place rest choices k) rest May place (goal_of s) (goal_of u) h.values vars h.heap choices
adding_field {g} {out} {x} {place} {y = y} {f = f} {fs = fs} {e = e} {o = o} {ts = ts} {s = s} {m = m} {u = u} h rest May vars choices value (is_made owned earlier) walk loads computes is undone clean long agree =
    let are : AreTemporaries g ts = temporaries value (no_temporaries g) in
    field_combined g h (λ a b. a +ℤ b) (record { variable = x; fields = f ∷ fs }) e rest May place o ts (goal_of s) (goal_of m) (goal_of u) vars choices
    (λ now left w new holds. changing_field o (λ a b. a +ℤ b) h.values w vars now h.heap left (λ mid k c. c) (λ mid k c. c) owned walk loads computes is undone are new clean (new.long ∙ long)
    ((agree_later g out h.values [] ts vars now are new agree).same x y.0 owned) (λ more temps. kept more value temps) holds)
    (evaluating h.values vars h.heap choices value (no_temporaries g) long agree)

pub subtracting_field : {g : Graph} {out x : ℕ} {place : Place} {y z old new : VarId} {f last : FieldAt} {fs : List FieldAt} {e : Expr} {o : Operand} {ts us ws rs : List VarId} {s m n i j r u : Stage} {kind : Kind}
    (h : Here) (rest : Tasks) (May : Settable) (vars : Vars) (choices : List Choice)
    → Evaluates g out place e [] s o ts m → IsMade g (local out x) y m → Walks g place y (f ∷ fs) ts m z last us n → Takes g place kind (a_field z last) us n old ws i
    → Takes g place Int (a_difference (Var old) o) ws i new rs j → Appends g plain place (λ q. Store z (struct_at last.shape) last.field (Var new) q) j r → Undefines g place rs r u
    → IsClean g vars → length vars ≡ length g.owners → Agree g out h.values vars
    → IsPerformed g (λ k. Combines (λ a b. a -ℤ b) h (record { variable = x; fields = f ∷ fs }) e place rest choices k) rest May place (goal_of s) (goal_of u) h.values vars h.heap choices
subtracting_field {g} {out} {x} {place} {y = y} {f = f} {fs = fs} {e = e} {o = o} {ts = ts} {s = s} {m = m} {u = u} h rest May vars choices value (is_made owned earlier) walk loads computes is undone clean long agree =
    let are : AreTemporaries g ts = temporaries value (no_temporaries g) in
    field_combined g h (λ a b. a -ℤ b) (record { variable = x; fields = f ∷ fs }) e rest May place o ts (goal_of s) (goal_of m) (goal_of u) vars choices
    (λ now left w new holds. changing_field o (λ a b. a -ℤ b) h.values w vars now h.heap left (λ mid k c. c) (λ mid k c. c) owned walk loads computes is undone are new clean (new.long ∙ long)
    ((agree_later g out h.values [] ts vars now are new agree).same x y.0 owned) (λ more temps. kept more value temps) holds)
    (evaluating h.values vars h.heap choices value (no_temporaries g) long agree)
