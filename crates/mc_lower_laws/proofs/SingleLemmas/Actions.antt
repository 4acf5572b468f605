-- Assignments and the parts of calls that are made alike.
use Rattle.std.proofs.Common.{◌≡◌, ◌++◌, ℕ, List, [], ◌∷◌, Option, Some, refl, sym, ap, ◌∙◌}
use Rattle.std.proofs.lemmas.Option.{same_Some}
use Rattle.std.specs.Prelude.{slice_get}
use Rattle.mc_base.specs.declared.ids.VarId.{VarId}
use Rattle.mc_base.specs.declared.plain.Kind.{Kind}
use Rattle.mc_base.specs.declared.plain.VarInfo.{VarInfo}
use Rattle.mc_base.specs.declared.text.place.Place.{Place}
use Rattle.mc_flow.specs.declared.instr.Operand.{Operand}
use Rattle.mc_flow.specs.declared.instr.Operand.TheVariants.{Var}
use Rattle.mc_flow.specs.declared.instr.Instr.TheVariants.{Copy, Store, Malloc, Undef}
use Rattle.mc_semantics.specs.Resolved.Programs.{FieldAt, Left, Expr, Right, Argument, Local, Function}
use Rattle.mc_lower_spec.specs.Graphs.{Graph, Stage}
use Rattle.mc_lower_spec.specs.Values.{struct_at, Operation, a_field, sets, Evaluates, of_number, of_variable, of_operation, Computes, Takes, takes}
use Rattle.mc_lower_spec.specs.Lowering.{SetsTo, sets_operand, sets_computed, sets_allocated, Assigns, assigns_variable, assigns_field, assigns_allocated, Changes, changes_variable, changes_field}
use Rattle.mc_lower_spec.specs.Lowering.{Receives, receives_none, receives, Passes, passes_none, passes, Awaits, awaits_none, awaits, IsArgument, is_variable, is_constant, AreArguments, are_none, are_arguments}
use Rattle.mc_lower_laws.proofs.SingleLemmas.Alike.{local_seen, result_seen, Setting, Meets, Goes, on, stays}
use Rattle.mc_lower_laws.proofs.SingleLemmas.Variables.{local_once, appended, undefined, used, created}
use Rattle.mc_lower_laws.proofs.SingleLemmas.Values.{is_computed, kind_once, taken, walked, evaluated, computed, put}

-- the same comes of two steps
pub record Comes (g h : Graph) (out left : ℕ) (Same : Type 0) {X : Type 0} (a b : X) (s u r w : Stage) : Type 0 where
  pub value : a ≡ b
  pub steps : Goes g h out left Same s u r w

-- a value without temporaries is not computed by an instruction
some_more : {X : Type 0} (xs : List X) (x : X) → xs ++ x ∷ [] ≡ [] → ⊥
some_more [] x is = cc is
some_more (h ∷ xs) x is = cc is

none_taken : {g : Graph} {place : Place} {kind : Kind} {operation : Operation} {ts us : List VarId} {s u : Stage} {t : VarId} → us ≡ [] → Takes g place kind operation ts s t us u → ⊥
none_taken none (takes {ts = ts} {t = t} uses is) = some_more ts t none

without : {g h : Graph} {out left : ℕ} {place : Place} {e : Expr} {o : Operand} {ts us vs ws : List VarId} {s u r w : Stage} {kind : Kind} {operation : Operation} → us ≡ [] → Evaluates g out place e ts s o us u
    → Computes h left place e vs r kind operation ws w → ⊥
without none of_number other = is_computed other
without none (of_variable made) other = is_computed other
without none (of_operation first rest) other = none_taken none rest

pub set_to : {g h : Graph} {out left : ℕ} {Same : Type 0} {place : Place} {v x : VarId} {right : Right} {s u r w : Stage} → Setting g h → Meets g h out left s r → v ≡ x → SetsTo g out place v right s u → SetsTo h left place x right r w
    → Goes g h out left Same s u r w
set_to {v = v} {x = x} set m same (sets_operand {o = o} value is) (sets_operand {o = p} value_too is_too) =
    let a = evaluated {Same = Unit {0}} set m refl value value_too in
    appended m (λ q. ap (λ z. Copy z o q) same ∙ ap (λ z. Copy x z q) a.value) is is_too
set_to set m same (sets_operand value is) (sets_computed other is_too undone) = absurd (without refl value other)
set_to set m same (sets_computed other is undone) (sets_operand value is_too) = absurd (without refl value other)
set_to {v = v} {x = x} set m same (sets_computed {operation = operation} value is undone) (sets_computed {operation = second} value_too is_too undone_too) =
    let a = computed set m refl value value_too in
    let b = appended a.steps.meets (λ q. ap (λ z. sets operation z q) same ∙ ap (λ z. sets z x q) a.other) is is_too in
    on a.steps (on b (undefined b.meets a.list undone undone_too))
set_to set m same (sets_allocated {shape = shape} count is) (sets_allocated count_too is_too) = appended m (λ q. ap (λ z. Malloc z (struct_at shape) q) same) is is_too

pub assigned : {g h : Graph} {out left : ℕ} {Same : Type 0} {place : Place} {l : Left} {right : Right} {s u r w : Stage} → Setting g h → Meets g h out left s r → Assigns g out place l right s u → Assigns h left place l right r w
    → Goes g h out left Same s u r w
assigned set m (assigns_variable made sets) (assigns_variable made_too sets_too) = set_to set m (local_once set m made made_too) sets sets_too
assigned set m (assigns_field value puts) (assigns_field value_too puts_too) =
    let a = evaluated set m refl value value_too in
    on a.steps (put set a.steps.meets a.value a.list puts puts_too)
assigned set m (assigns_allocated {shape = shape} count uses is puts) (assigns_allocated count_too uses_too is_too puts_too) =
    let a = used set m refl refl uses uses_too in
    let b = appended a.steps.meets (λ q. ap (λ z. Malloc z (struct_at shape) q) a.variable) is is_too in
    on a.steps (on b (put set b.meets (ap (λ z. Var z) a.variable) (ap (λ z. z ∷ []) a.variable) puts puts_too))

pub changed : {g h : Graph} {out left : ℕ} {Same : Type 0} {place : Place} {operation : Operand → Operand → Operation} {l : Left} {e : Expr} {s u r w : Stage} → Setting g h → Meets g h out left s r
    → Changes g out place operation l e s u → Changes h left place operation l e r w → Goes g h out left Same s u r w
changed {operation = operation} set m (changes_variable {v = v} {o = o} value made is undone) (changes_variable {v = vv} {o = p} value_too made_too is_too undone_too) =
    let a = evaluated set m refl value value_too in
    let same = local_once set a.steps.meets made made_too in
    let b = appended a.steps.meets (λ q. ap (λ z. sets (operation (Var z) o) z q) same ∙ ap (λ z. sets (operation (Var vv) z) vv q) a.value) is is_too in
    on a.steps (on b (undefined b.meets a.list undone undone_too))
changed {operation = operation} set m (changes_field {new = new} {last = last} {o = o} value made walk kind loads computes is undone) (changes_field {z = zz} {old = old} {last = end} value_too made_too walk_too kind_too loads_too computes_too is_too undone_too) =
    let a = evaluated set m refl value value_too in
    let b = walked set a.steps.meets (local_once set a.steps.meets made made_too) a.list walk walk_too in
    let c = taken set b.steps.meets (kind_once set b.other kind kind_too) (ap (λ z. a_field z last) b.value ∙ ap (λ z. a_field zz z) b.other) b.list loads loads_too in
    let d = taken set c.steps.meets refl (ap (λ z. operation (Var z) o) c.value ∙ ap (λ z. operation (Var old) z) a.value) c.list computes computes_too in
    let e = appended d.steps.meets
    (λ q. ap (λ z. Store z (struct_at last.shape) last.field (Var new) q) b.value ∙ ap (λ (z : FieldAt). Store zz (struct_at z.shape) z.field (Var new) q) b.other ∙ ap (λ z. Store zz (struct_at end.shape) end.field (Var z) q) d.value) is is_too in
    on a.steps (on b.steps (on c.steps (on d.steps (on e (undefined e.meets d.list undone undone_too)))))

-- ---- parts of calls
abbrev pub info_of : Local → VarInfo
info_of l = record { name = l.name; kind = l.kind }

-- a variable of a function has one name and one kind
pub info_once : {f e : Function} {l n : Local} (x : ℕ) → f ≡ e → slice_get f.locals x ≡ Some l → slice_get e.locals x ≡ Some n → info_of l ≡ info_of n
info_once {l = l} {n = n} x same is is_too =
    let one : l ≡ n = same_Some l n (sym is ∙ ap (λ (z : Function). slice_get z.locals x) same ∙ is_too) in
    ap info_of one

pub received : {g h : Graph} {out left : ℕ} {Same : Type 0} {f e : Function} {x parameters : ℕ} {s u r w : Stage} {vs us : List VarId} → f ≡ e → Meets g h out left s r → Receives g f out x parameters s vs u
    → Receives h e left x parameters r us w → Comes g h out left Same vs us s u r w
received same m receives_none receives_none = record { value = refl; steps = stays m }
received {out = out} {left = left} {x = x} same m (receives {vs = vs} is makes rest) (receives {v = vv} is_too makes_too rest_too) =
    let a = created m (local_seen out x ∙ sym (local_seen left x)) (info_once x same is is_too) makes makes_too in
    let b = received same a.steps.meets rest rest_too in
    record { value = ap (λ z. z ∷ vs) a.variable ∙ ap (λ z. vv ∷ z) b.value; steps = on a.steps b.steps }

pub passed : {g h : Graph} {out left : ℕ} {Same : Type 0} {place : Place} {vs us : List VarId} {os ps : List Operand} {s u r w : Stage} → Meets g h out left s r → vs ≡ us → os ≡ ps → Passes g place vs os s u → Passes h place us ps r w
    → Goes g h out left Same s u r w
passed m variables operands passes_none passes_none = stays m
passed m variables operands passes_none (passes is rest) = absurd (cc variables)
passed m variables operands (passes is rest) passes_none = absurd (cc variables)
passed m variables operands (passes {v = v} {vs = vs} {o = o} {os = os} is rest) (passes {v = vv} {vs = us} {o = p} {os = ps} is_too rest_too) =
    let a = appended m (λ q. ap (λ z. Copy z o q) (ap (first_or v) variables) ∙ ap (λ z. Copy vv z q) (ap (first_or o) operands)) is is_too in
    on a (passed a.meets (ap rest_of variables) (ap rest_of operands) rest rest_too)
  where
    first_or : {X : Type 0} → X → List X → X
    first_or x [] = x
    first_or x (y ∷ ys) = y

    rest_of : {X : Type 0} → List X → List X
    rest_of [] = []
    rest_of (y ∷ ys) = ys

pub awaited : {g h : Graph} {out left : ℕ} {Same : Type 0} {place : Place} {kind : Option Kind} {s u r w : Stage} {v x : Option VarId} → Meets g h out left s r → Awaits g out place kind s v u → Awaits h left place kind r x w
    → Comes g h out left Same v x s u r w
awaited m awaits_none awaits_none = record { value = refl; steps = stays m }
awaited {out = out} {left = left} m (awaits makes is) (awaits makes_too is_too) =
    let a = created m (result_seen out ∙ sym (result_seen left)) refl makes makes_too in
    record { value = ap (λ z. Some z) a.variable; steps = on a.steps (appended a.steps.meets (λ q. ap (λ z. Undef (z ∷ []) q) a.variable) is is_too) }

-- ---- shapes
pub argument_once : {g h : Graph} {out left : ℕ} {a : Argument} {o p : Operand} {s r : Stage} → Setting g h → Meets g h out left s r → IsArgument g out s a o → IsArgument h left r a p → o ≡ p
argument_once set m (is_variable made) (is_variable made_too) = ap (λ z. Var z) (local_once set m made made_too)
argument_once set m is_constant is_constant = refl

pub arguments_once : {g h : Graph} {out left : ℕ} {s r : Stage} {items : List Argument} {os ps : List Operand} → Setting g h → Meets g h out left s r → AreArguments g out s items os → AreArguments h left r items ps → os ≡ ps
arguments_once set m are_none are_none = refl
arguments_once set m (are_arguments {os = os} first rest) (are_arguments {o = p} first_too rest_too) =
    ap (λ z. z ∷ os) (argument_once set m first first_too) ∙ ap (λ z. p ∷ z) (arguments_once set m rest rest_too)
