-- The points of an expression compute its value, and change temporaries alone.
use Rattle.std.proofs.Common.{◌<◌, ◌≡◌, ◌++◌, inl, inr, ℕ, zero, suc, ℤ, pos, ◌+ℤ◌, ◌-ℤ◌, ◌*ℤ◌, List, [], ◌∷◌, Option, Some, None, length, refl, sym, ap, ◌∙◌, subst, arith}
use Rattle.std.specs.Prelude.{slice_get, slice_index_or, Contains}
use Rattle.std.proofs.lemmas.List.{get_or-set_same, get_or-set_other}
use Rattle.std.proofs.lemmas.List.Elements.{Contains-push, Contains-push_cases, Contains-append_left}
use Rattle.std.proofs.lemmas.Option.{same_Some, slice_get_within}
use Rattle.mc_base.specs.declared.ids.VarId.{VarId}
use Rattle.mc_base.specs.declared.plain.FaultKind.{FaultKind}
use Rattle.mc_base.specs.declared.plain.Kind.{Kind}
use Rattle.mc_flow.specs.Runs.{next, last as finished, fault}
use Rattle.mc_base.specs.declared.text.place.Place.{Place}
use Rattle.mc_flow.specs.Heap.Heap.{Heap}
use Rattle.mc_flow.specs.Heap.Choices.{Choice}
use Rattle.mc_flow.specs.Values.{value_in, value_of as operand_value, with_value}
use Rattle.mc_flow.specs.declared.instr.Operand.{Operand}
use Rattle.mc_flow.specs.declared.instr.Operand.TheVariants.{Var, Const}
use Rattle.mc_flow.specs.Steps.{Result}
use Rattle.mc_semantics.specs.Values.{Evaluated, fault_of, value_of, faulty, found, Found, after_found, evaluated, operated, right_operand, AfterLeft}
use Rattle.mc_semantics.specs.Resolved.Configs.{Values, held}
use Rattle.mc_semantics.specs.Resolved.Programs.{FieldAt, Expr, value, minus}
use Rattle.mc_semantics.specs.Resolved.Values.{loaded, behind_value, Evaluates as Source}
use Rattle.mc_lower_spec.proofs.Stages.{goal_of}
use Rattle.mc_lower_spec.specs.Graphs.{Graph, Owner, local, result, temporary, Stage, stage, appends, creates, is_made, Uses, uses_first, uses_again}
use Rattle.mc_lower_spec.specs.Values.{Operation, a_field, a_sum, a_difference, a_product, Takes, takes, Walks, walks_none, walks, Evaluates, of_number, of_variable, of_operation, Computes, of_input, of_field, of_minus, of_times, of_plus, of_difference}
use Rattle.mc_lower_spec.specs.Runs.{FlowStep}
use Rattle.mc_lower_spec.proofs.Simulating.{Goes, one, more}
use Rattle.mc_semantics.proofs.ResolvedLemmas.Values.{one_value}
use Rattle.mc_lower_spec.proofs.Stepping.{Vars, at, Never, never_behind, Comes, Operates, op_waits, op_faults, op_gives, operates}

-- ---- temporaries in use
-- each of these variables is a temporary, with a number below how many there are
pub record AreTemporaries (g : Graph) (ts : List VarId) : Type 0 where
  pub each : (v : VarId) → Contains ts v → (j : ℕ) × (kind : Kind) × (j < length ts) × (slice_get g.owners v.0 ≡ Some (temporary j kind))

pub no_temporaries : (g : Graph) → AreTemporaries g []
no_temporaries g = record { each = λ v there. absurd (omega (arith, there.1)) }

-- the variables are as before but for temporaries that were not in use
pub record OnlyNew (ts us : List VarId) (vars later : Vars) : Type 0 where
  pub same : (v : VarId) → (Contains us v → Contains ts v) → value_in later v ≡ value_in vars v
  pub long : length later ≡ length vars

pub nothing_new : (ts : List VarId) (vars : Vars) → OnlyNew ts ts vars vars
nothing_new ts vars = record { same = λ v keeps. refl; long = refl }

pub both_new : (ts us ws : List VarId) (vars mid later : Vars) → ((v : VarId) → Contains ts v → Contains us v) → ((v : VarId) → Contains us v → Contains ws v)
    → OnlyNew ts us vars mid → OnlyNew us ws mid later → OnlyNew ts ws vars later
both_new ts us ws vars mid later grow wider first second =
    record {
      same = λ v keeps. second.same v (λ there. grow v (keeps there)) ∙ first.same v (λ there. keeps (wider v there));
      long = second.long ∙ first.long;
    }

pub used_owner : (g : Graph) (j : ℕ) (kind : Kind) (s u : Stage) (v : VarId) → Uses g j kind s v u → slice_get g.owners v.0 ≡ Some (temporary j kind)
used_owner g j kind s u v (uses_first (creates owned info)) = owned
used_owner g j kind s u v (uses_again (is_made owned earlier)) = owned

pub taken_owner : {g : Graph} {place : Place} {kind : Kind} {operation : Operation} {ts us : List VarId} {s u : Stage} {t : VarId}
    → Takes g place kind operation ts s t us u → slice_get g.owners t.0 ≡ Some (temporary (length ts) kind)
taken_owner {g} {place} {kind} {operation} {ts} {us} {s} {u} {t} (takes {m = m} uses is) = used_owner g (length ts) kind s m t uses

abbrev number_of : Owner → ℕ
number_of (local out x) = 0
number_of (result out) = 0
number_of (temporary j kind) = j

fresh : (g : Graph) (ts : List VarId) (t : VarId) (kind : Kind) → AreTemporaries g ts → slice_get g.owners t.0 ≡ Some (temporary (length ts) kind) → Contains ts t → ⊥
fresh g ts t kind are owned there =
    let one : (j : ℕ) × (k : Kind) × (j < length ts) × (slice_get g.owners t.0 ≡ Some (temporary j k)) = are.each t there in
    let same : temporary one.0 one.1 ≡ temporary (length ts) kind = same_Some (temporary one.0 one.1) (temporary (length ts) kind) (sym one.3 ∙ owned) in
    let e : one.0 ≡ length ts = ap number_of same in
    omega (arith, one.2, e)

length_push : (ts : List VarId) (t : VarId) → length (ts ++ t ∷ []) ≡ suc (length ts)
length_push [] t = refl
length_push (v ∷ ts) t = ap suc (length_push ts t)

pub one_more : (g : Graph) (ts : List VarId) (t : VarId) (kind : Kind) → AreTemporaries g ts → slice_get g.owners t.0 ≡ Some (temporary (length ts) kind)
    → AreTemporaries g (ts ++ t ∷ [])
one_more g ts t kind are owned =
    record {
      each = λ v there. elim (Contains-push_cases ts t v there) [
        | inl before ↦ let one : (j : ℕ) × (k : Kind) × (j < length ts) × (slice_get g.owners v.0 ≡ Some (temporary j k)) = are.each v before in
            (one.0, one.1, omega (arith, one.2, length_push ts t), one.3)
        | inr is ↦ (length ts, kind, omega (arith, length_push ts t), subst (λ w. slice_get g.owners w.0 ≡ Some (temporary (length ts) kind)) is owned)
      ];
    }

-- ---- what the temporaries in use become
pub grown : {g : Graph} {place : Place} {kind : Kind} {operation : Operation} {ts us : List VarId} {s u : Stage} {t : VarId}
    → Takes g place kind operation ts s t us u → (v : VarId) → Contains ts v → Contains us v
grown {ts = ts} (takes {t = t} uses is) v there = Contains-append_left ts (t ∷ []) v there

pub taken_temporaries : {g : Graph} {place : Place} {kind : Kind} {operation : Operation} {ts us : List VarId} {s u : Stage} {t : VarId}
    → Takes g place kind operation ts s t us u → AreTemporaries g ts → AreTemporaries g us
taken_temporaries {g} {place} {kind} {operation} {ts} {us} {s} {u} {t} (takes uses is) are = one_more g ts t kind are (used_owner g (length ts) kind s _ t uses)

pub walk_grows : {g : Graph} {place : Place} {y z : VarId} {fs : List FieldAt} {ts us : List VarId} {s u : Stage} {last : FieldAt}
    → Walks g place y fs ts s z last us u → (v : VarId) → Contains ts v → Contains us v
walk_grows walks_none v there = there
walk_grows (walks kind first rest) v there = walk_grows rest v (grown first v there)

pub walk_temporaries : {g : Graph} {place : Place} {y z : VarId} {fs : List FieldAt} {ts us : List VarId} {s u : Stage} {last : FieldAt}
    → Walks g place y fs ts s z last us u → AreTemporaries g ts → AreTemporaries g us
walk_temporaries walks_none are = are
walk_temporaries (walks kind first rest) are = walk_temporaries rest (taken_temporaries first are)

mutual
  pub grows : {g : Graph} {out : ℕ} {place : Place} {e : Expr} {ts us : List VarId} {s u : Stage} {o : Operand}
      → Evaluates g out place e ts s o us u → (v : VarId) → Contains ts v → Contains us v
  grows of_number v there = there
  grows (of_variable made) v there = there
  grows (of_operation computed taken) v there = grown taken v (computes_grows computed v there)

  pub computes_grows : {g : Graph} {out : ℕ} {place : Place} {e : Expr} {ts us : List VarId} {s u : Stage} {kind : Kind} {operation : Operation}
      → Computes g out place e ts s kind operation us u → (v : VarId) → Contains ts v → Contains us v
  computes_grows of_input v there = there
  computes_grows (of_field made walk kind) v there = walk_grows walk v there
  computes_grows (of_minus first) v there = grows first v there
  computes_grows (of_times first second) v there = grows second v (grows first v there)
  computes_grows (of_plus first second) v there = grows second v (grows first v there)
  computes_grows (of_difference first second) v there = grows second v (grows first v there)

mutual
  pub temporaries : {g : Graph} {out : ℕ} {place : Place} {e : Expr} {ts us : List VarId} {s u : Stage} {o : Operand}
      → Evaluates g out place e ts s o us u → AreTemporaries g ts → AreTemporaries g us
  temporaries of_number are = are
  temporaries (of_variable made) are = are
  temporaries (of_operation computed taken) are = taken_temporaries taken (computes_temporaries computed are)

  pub computes_temporaries : {g : Graph} {out : ℕ} {place : Place} {e : Expr} {ts us : List VarId} {s u : Stage} {kind : Kind} {operation : Operation}
      → Computes g out place e ts s kind operation us u → AreTemporaries g ts → AreTemporaries g us
  computes_temporaries of_input are = are
  computes_temporaries (of_field made walk kind) are = walk_temporaries walk are
  computes_temporaries (of_minus first) are = temporaries first are
  computes_temporaries (of_times first second) are = temporaries second (temporaries first are)
  computes_temporaries (of_plus first second) are = temporaries second (temporaries first are)
  computes_temporaries (of_difference first second) are = temporaries second (temporaries first are)

-- ---- steps from one point to another
-- the run comes from one point to another, with the choices that are left
pub record Leads (g : Graph) (heap : Heap) (a : ℕ) (vars : Vars) (choices : List Choice) (b : ℕ) (later : Vars) (left : List Choice) : Type 0 where
  pub goes : (r : Result) → Goes (FlowStep g) (at b later heap) left r → Goes (FlowStep g) (at a vars heap) choices r
  pub never : Never g (at b later heap) left → Never g (at a vars heap) choices

pub stays : (g : Graph) (heap : Heap) (a : ℕ) (vars : Vars) (choices : List Choice) → Leads g heap a vars choices a vars choices
stays g heap a vars choices = record { goes = λ r go. go; never = λ none. none }

pub leads_on : {g : Graph} {heap : Heap} {a b c : ℕ} {vars mid later : Vars} {choices left rest : List Choice}
    → Leads g heap a vars choices b mid left → Leads g heap b mid left c later rest → Leads g heap a vars choices c later rest
leads_on first second = record { goes = λ r go. first.goes r (second.goes r go); never = λ none. first.never (second.never none) }

pub leads_step : {g : Graph} {heap : Heap} {a b : ℕ} {vars later : Vars} {choices left : List Choice}
    → FlowStep g (at a vars heap) choices (next (at b later heap) left) → Leads g heap a vars choices b later left
leads_step {g} {heap} {a} {b} {vars} {later} {choices} {left} step =
    record { goes = λ r go. more step go; never = λ none. never_behind g (at a vars heap) (at b later heap) choices left step none }

-- where the run comes to while the source computes what P says: it waits, it has a fault, or it goes on with a value
pub data Ended (g : Graph) (P : Evaluated → Type 0) (place : Place) (ts us : List VarId) (o : Operand) (a b : ℕ) (vars : Vars) (heap : Heap) (choices : List Choice) : Type 0 where
  ended_waits : ((r : Evaluated) → P r → ⊥) → Never g (at a vars heap) choices → Ended g P place ts us o a b vars heap choices
  ended_faults : (kind : FaultKind) → P (fault_of kind) → Goes (FlowStep g) (at a vars heap) choices (finished (fault kind place)) → Ended g P place ts us o a b vars heap choices
  ended_gives : (later : Vars) (w : Option ℤ) (left : List Choice) → P (value_of w left) → Leads g heap a vars choices b later left → OnlyNew ts us vars later
      → operand_value later o ≡ w → Ended g P place ts us o a b vars heap choices

-- the same before the last instruction
pub data Ready (g : Graph) (P : Evaluated → Type 0) (place : Place) (ts us : List VarId) (operation : Operation) (a b : ℕ) (vars : Vars) (heap : Heap) (choices : List Choice) : Type 0 where
  ready_waits : ((r : Evaluated) → P r → ⊥) → Never g (at a vars heap) choices → Ready g P place ts us operation a b vars heap choices
  ready_faults : (kind : FaultKind) → P (fault_of kind) → Goes (FlowStep g) (at a vars heap) choices (finished (fault kind place)) → Ready g P place ts us operation a b vars heap choices
  ready : (later : Vars) (left : List Choice) → Leads g heap a vars choices b later left → OnlyNew ts us vars later
      → ((r : Evaluated) → Comes operation later heap left r → P r) → ((r : Evaluated) → P r → Comes operation later heap left r)
      → Ready g P place ts us operation a b vars heap choices

pub uses_goal : {g : Graph} {j : ℕ} {kind : Kind} {s u : Stage} {v : VarId} → Uses g j kind s v u → goal_of s ≡ goal_of u
uses_goal (uses_first (creates owned info)) = refl
uses_goal (uses_again made) = refl

-- a temporary gets what an operation comes to
pub data Taken (g : Graph) (place : Place) (operation : Operation) (ts us : List VarId) (t : VarId) (a b : ℕ) (vars : Vars) (heap : Heap) (choices : List Choice) : Type 0 where
  taken_waits : ((r : Evaluated) → Comes operation vars heap choices r → ⊥) → Never g (at a vars heap) choices → Taken g place operation ts us t a b vars heap choices
  taken_faults : (kind : FaultKind) → Comes operation vars heap choices (fault_of kind) → Goes (FlowStep g) (at a vars heap) choices (finished (fault kind place))
      → Taken g place operation ts us t a b vars heap choices
  taken_gives : (later : Vars) (w : ℤ) (left : List Choice) → Comes operation vars heap choices (value_of (Some w) left) → Leads g heap a vars choices b later left
      → OnlyNew ts us vars later → value_in later t ≡ Some w → Taken g place operation ts us t a b vars heap choices

-- one variable is set
pub set_here : (vars : Vars) (x : VarId) (w : Option ℤ) → x.0 < length vars → value_in (with_value vars x w) x ≡ w
set_here vars x w within = get_or-set_same vars x.0 w None within

pub set_elsewhere : (vars : Vars) (x v : VarId) (w : Option ℤ) → (x ≡ v → ⊥) → value_in (with_value vars x w) v ≡ value_in vars v
set_elsewhere vars x v w apart = get_or-set_other vars x.0 v.0 w None (λ e. apart (ap (λ n. record { 0 = n }) (sym e)))

set_length : (vars : Vars) (n : ℕ) (w : Option ℤ) → length (Rattle.std.specs.Prelude.slice_set vars n w) ≡ length vars
set_length [] n w = refl
set_length (x ∷ vars) zero w = refl
set_length (x ∷ vars) (suc n) w = ap suc (set_length vars n w)

pub new_set : (g : Graph) (ts : List VarId) (t : VarId) (kind : Kind) (vars : Vars) (w : Option ℤ) → AreTemporaries g ts → slice_get g.owners t.0 ≡ Some (temporary (length ts) kind)
    → OnlyNew ts (ts ++ t ∷ []) vars (with_value vars t w)
new_set g ts t kind vars w are owned =
    record {
      same = λ v keeps. set_elsewhere vars t v w (λ e. fresh g ts t kind are owned (subst (λ z. Contains ts z) (sym e) (keeps (subst (λ z. Contains (ts ++ t ∷ []) z) e (Contains-push ts t)))));
      long = set_length vars t.0 w;
    }

taken_by : (g : Graph) (place : Place) (operation : Operation) (ts : List VarId) (t : VarId) (kind : Kind) (n b : ℕ) (vars : Vars) (heap : Heap) (choices : List Choice)
    → AreTemporaries g ts → slice_get g.owners t.0 ≡ Some (temporary (length ts) kind) → length vars ≡ length g.owners
    → Operates g n place operation t b vars heap choices → Taken g place operation ts (ts ++ t ∷ []) t n b vars heap choices
taken_by g place operation ts t kind n b vars heap choices are owned long (op_waits none never) = taken_waits none never
taken_by g place operation ts t kind n b vars heap choices are owned long (op_faults fault_kind comes step) = taken_faults fault_kind comes (one step)
taken_by g place operation ts t kind n b vars heap choices are owned long (op_gives w left comes step) =
    let within : t.0 < length g.owners = slice_get_within g.owners t.0 (temporary (length ts) kind) owned in
    let in_vars : t.0 < length vars = omega (arith, within, long) in
    taken_gives (with_value vars t (Some w)) w left comes (leads_step step) (new_set g ts t kind vars (Some w) are owned) (set_here vars t (Some w) in_vars)

pub taking : {g : Graph} {place : Place} {kind : Kind} {operation : Operation} {ts us : List VarId} {s u : Stage} {t : VarId} (vars : Vars) (heap : Heap) (choices : List Choice)
    → Takes g place kind operation ts s t us u → AreTemporaries g ts → length vars ≡ length g.owners → Taken g place operation ts us t (goal_of s) (goal_of u) vars heap choices
taking {g} {place} {kind} {operation} {ts} {us} {s} {u} {t} vars heap choices (takes uses (appends {n = n} {k = k} {b = b} is)) are long =
    subst (λ a. Taken g place operation ts (ts ++ t ∷ []) t a b vars heap choices) (sym (uses_goal uses))
    (taken_by g place operation ts t kind n b vars heap choices are (used_owner g (length ts) kind s (stage n n k) t uses) long (operates g n place operation t b vars heap choices is))

-- ---- the fields before the last one
-- what the variable holds that has the last field
abbrev pub base_value : Heap → Option ℤ → List FieldAt → Found
base_value heap v [] = found v
base_value heap v (f ∷ []) = found v
base_value heap v (f ∷ h ∷ fs) = after_found (loaded heap f v) (λ w. base_value heap w (h ∷ fs))

pub data Walked (g : Graph) (base : Found) (place : Place) (ts us : List VarId) (z : VarId) (a b : ℕ) (vars : Vars) (heap : Heap) (choices : List Choice) : Type 0 where
  walked_faults : (kind : FaultKind) → base ≡ faulty kind → Goes (FlowStep g) (at a vars heap) choices (finished (fault kind place)) → Walked g base place ts us z a b vars heap choices
  walked : (later : Vars) → base ≡ found (value_in later z) → Leads g heap a vars choices b later choices → OnlyNew ts us vars later → Walked g base place ts us z a b vars heap choices

-- what a load came to
pub load_faults : (x : Found) (choices : List Choice) (kind : FaultKind) → fault_of kind ≡ evaluated x choices → x ≡ faulty kind
load_faults (faulty k) choices kind e = ap faulty (fault_in_it (sym e))
  where
    fault_or : Evaluated → FaultKind
    fault_or (fault_of k) = k
    fault_or (value_of w left) = kind

    fault_in_it : fault_of k ≡ fault_of kind → k ≡ kind
    fault_in_it d = ap fault_or d
load_faults (found w) choices kind e = absurd (cc)

abbrev value_or : Option ℤ → Evaluated → Option ℤ
value_or w (fault_of k) = w
value_or w (value_of v left) = v

abbrev choices_or : List Choice → Evaluated → List Choice
choices_or rest (fault_of k) = rest
choices_or rest (value_of v left) = left

pub load_gives : (x : Found) (choices : List Choice) (w : Option ℤ) (left : List Choice) → value_of w left ≡ evaluated x choices → (x ≡ found w) × (left ≡ choices)
load_gives (faulty k) choices w left e = absurd (cc)
load_gives (found v) choices w left e = (ap (λ r. found (value_or w r)) (sym e), ap (choices_or left) e)

walked_behind : (g : Graph) (place : Place) (f h : FieldAt) (fs : List FieldAt) (ts us ws : List VarId) (z : VarId) (a m b : ℕ) (v w : Option ℤ) (vars mid : Vars) (heap : Heap) (choices : List Choice)
    → loaded heap f v ≡ found w → ((x : VarId) → Contains ts x → Contains us x) → ((x : VarId) → Contains us x → Contains ws x)
    → Leads g heap a vars choices m mid choices → OnlyNew ts us vars mid
    → Walked g (base_value heap w (h ∷ fs)) place us ws z m b mid heap choices → Walked g (base_value heap v (f ∷ h ∷ fs)) place ts ws z a b vars heap choices
walked_behind g place f h fs ts us ws z a m b v w vars mid heap choices got grow wider leads new (walked_faults kind e goes) =
    walked_faults kind (ap (λ x. after_found x (λ y. base_value heap y (h ∷ fs))) got ∙ e) (leads.goes _ goes)
walked_behind g place f h fs ts us ws z a m b v w vars mid heap choices got grow wider leads new (walked later e further newer) =
    walked later (ap (λ x. after_found x (λ y. base_value heap y (h ∷ fs))) got ∙ e) (leads_on leads further) (both_new ts us ws vars mid later grow wider new newer)

walked_first : (g : Graph) (place : Place) (y : VarId) (f h : FieldAt) (fs : List FieldAt) (ts us ws : List VarId) (t z : VarId) (a m b : ℕ) (vars : Vars) (heap : Heap) (choices : List Choice)
    → ((x : VarId) → Contains ts x → Contains us x) → ((x : VarId) → Contains us x → Contains ws x) → length vars ≡ length g.owners
    → Taken g place (a_field y f) ts us t a m vars heap choices
    → ((mid : Vars) → length mid ≡ length g.owners → Walked g (base_value heap (value_in mid t) (h ∷ fs)) place us ws z m b mid heap choices)
    → Walked g (base_value heap (value_in vars y) (f ∷ h ∷ fs)) place ts ws z a b vars heap choices
walked_first g place y f h fs ts us ws t z a m b vars heap choices grow wider long (taken_waits none never) rest = absurd (none (evaluated (loaded heap f (value_in vars y)) choices) refl)
walked_first g place y f h fs ts us ws t z a m b vars heap choices grow wider long (taken_faults kind comes goes) rest =
    walked_faults kind (ap (λ x. after_found x (λ w. base_value heap w (h ∷ fs))) (load_faults (loaded heap f (value_in vars y)) choices kind comes)) goes
walked_first g place y f h fs ts us ws t z a m b vars heap choices grow wider long (taken_gives mid w left comes leads new holds) rest =
    let got : (loaded heap f (value_in vars y) ≡ found (Some w)) × (left ≡ choices) = load_gives (loaded heap f (value_in vars y)) choices (Some w) left comes in
    walked_behind g place f h fs ts us ws z a m b (value_in vars y) (value_in mid t) vars mid heap choices (got.0 ∙ ap found (sym holds)) grow wider
    (subst (λ c. Leads g heap a vars choices m mid c) got.1 leads) new (rest mid (new.long ∙ long))

pub walking : {g : Graph} {place : Place} {y z : VarId} {fs : List FieldAt} {ts us : List VarId} {s u : Stage} {last : FieldAt} (vars : Vars) (heap : Heap) (choices : List Choice)
    → Walks g place y fs ts s z last us u → AreTemporaries g ts → length vars ≡ length g.owners
    → Walked g (base_value heap (value_in vars y) fs) place ts us z (goal_of s) (goal_of u) vars heap choices
walking {g} {ts = ts} {s = s} vars heap choices walks_none are long = walked vars refl (stays g heap (goal_of s) vars choices) (nothing_new ts vars)
walking {g} {place} {y} {z} {fs} {ts} {us = ws} {s} {u} vars heap choices (walks {t = t} {f = f} {h = h} {fs = hs} {us = us} {m = m} kind first rest) are long =
    walked_first g place y f h hs ts us ws t z (goal_of s) (goal_of m) (goal_of u) vars heap choices (grown first) (walk_grows rest) long (taking vars heap choices first are long)
    (λ mid mid_long. walking mid heap choices rest (taken_temporaries first are) mid_long)

-- the whole chain is the last field of that variable
after_itself : (x : Found) → after_found x (λ w. found w) ≡ x
after_itself (faulty kind) = refl
after_itself (found w) = refl

after_after : (x : Found) (f h : Option ℤ → Found) → after_found x (λ w. after_found (f w) h) ≡ after_found (after_found x f) h
after_after (faulty kind) f h = refl
after_after (found w) f h = refl

chain : (heap : Heap) (h last : FieldAt) (hs : List FieldAt) (x : Found) → ((w : Option ℤ) → behind_value heap w (h ∷ hs) ≡ after_found (base_value heap w (h ∷ hs)) (λ y. loaded heap last y))
    → after_found x (λ w. behind_value heap w (h ∷ hs)) ≡ after_found (after_found x (λ w. base_value heap w (h ∷ hs))) (λ w. loaded heap last w)
chain heap h last hs (faulty kind) each = refl
chain heap h last hs (found w) each = each w

pub whole_chain : {g : Graph} {place : Place} {y z : VarId} {fs : List FieldAt} {ts us : List VarId} {s u : Stage} {last : FieldAt} (heap : Heap) (v : Option ℤ)
    → Walks g place y fs ts s z last us u → behind_value heap v fs ≡ after_found (base_value heap v fs) (λ w. loaded heap last w)
whole_chain {last = f} heap v walks_none = after_itself (loaded heap f v)
whole_chain {last = last} heap v (walks {f = f} {h = h} {fs = hs} kind first rest) =
    chain heap h last hs (loaded heap f v) (λ w. whole_chain heap w rest)

-- ---- the values of a function's variables
-- each variable of the occurrence has what the flow graph's has
pub record Agree (g : Graph) (out : ℕ) (values : Values) (vars : Vars) : Type 0 where
  pub same : (x v : ℕ) → slice_get g.owners v ≡ Some (local out x) → held values x ≡ slice_index_or vars v None

abbrev is_temporary : Owner → ℕ
is_temporary (local out x) = 0
is_temporary (result out) = 0
is_temporary (temporary j kind) = 1

pub not_temporary : (g : Graph) (ts : List VarId) (v : VarId) (owner : Owner) → AreTemporaries g ts → slice_get g.owners v.0 ≡ Some owner → is_temporary owner ≡ 0 → Contains ts v → ⊥
not_temporary g ts v owner are owned plain there =
    let one : (j : ℕ) × (k : Kind) × (j < length ts) × (slice_get g.owners v.0 ≡ Some (temporary j k)) = are.each v there in
    let e : temporary one.0 one.1 ≡ owner = same_Some (temporary one.0 one.1) owner (sym one.3 ∙ owned) in
    let d : 1 ≡ is_temporary owner = ap is_temporary e in
    omega (arith, d, plain)

pub agree_later : (g : Graph) (out : ℕ) (values : Values) (ts us : List VarId) (vars later : Vars) → AreTemporaries g us → OnlyNew ts us vars later → Agree g out values vars → Agree g out values later
agree_later g out values ts us vars later are new agree =
    record { same = λ x v owned. agree.same x v owned ∙ sym (new.same (record { 0 = v }) (λ there. absurd (not_temporary g us (record { 0 = v }) (local out x) are owned refl there))) }

-- ---- an operand keeps its value
abbrev pub Kept : List VarId → List VarId → Operand → Type 0
Kept us ws (Var v) = Contains ws v → Contains us v
Kept us ws (Const c) = Unit {0}

pub kept : {g : Graph} {out : ℕ} {place : Place} {e : Expr} {ts us : List VarId} {s m : Stage} {o : Operand} (ws : List VarId)
    → Evaluates g out place e ts s o us m → AreTemporaries g ws → Kept us ws o
kept ws of_number are = tt
kept {g} {out} ws (of_variable {x = x} {v = v} (is_made owned earlier)) are = λ there. absurd (not_temporary g ws v (local out x) are owned refl there)
kept ws (of_operation {us = us} {t = t} computed (takes uses is)) are = λ there. Contains-push us t

pub kept_value : (us ws : List VarId) (o : Operand) (vars later : Vars) → Kept us ws o → OnlyNew us ws vars later → operand_value later o ≡ operand_value vars o
kept_value us ws (Var v) vars later keeps new = new.same v keeps
kept_value us ws (Const c) vars later keeps new = refl

-- ---- expressions
finish : {g : Graph} {P : Evaluated → Type 0} {place : Place} {ts us ws : List VarId} {operation : Operation} {a m b : ℕ} {vars : Vars} {heap : Heap} {choices : List Choice} {t : VarId}
    → ((v : VarId) → Contains ts v → Contains us v) → ((v : VarId) → Contains us v → Contains ws v)
    → ((later : Vars) (left : List Choice) → length later ≡ length vars → Taken g place operation us ws t m b later heap left)
    → Ready g P place ts us operation a m vars heap choices → Ended g P place ts ws (Var t) a b vars heap choices
finish grow wider taken (ready_waits none never) = ended_waits none never
finish grow wider taken (ready_faults kind is goes) = ended_faults kind is goes
finish {g} {P} {place} {ts} {us} {ws} {operation} {a} {m} {b} {vars} {heap} {choices} {t} grow wider taken (ready later left leads new into out) = last_of (taken later left new.long)
  where
    last_of : Taken g place operation us ws t m b later heap left → Ended g P place ts ws (Var t) a b vars heap choices
    last_of (taken_waits none never) = ended_waits (λ r is. none r (out r is)) (leads.never never)
    last_of (taken_faults kind comes goes) = ended_faults kind (into (fault_of kind) comes) (leads.goes _ goes)
    last_of (taken_gives final w rest comes further newer holds) =
        ended_gives final (Some w) rest (into (value_of (Some w) rest) comes) (leads_on leads further) (both_new ts us ws vars later final grow wider new newer) holds

field_ready : (g : Graph) (place : Place) (P : Evaluated → Type 0) (ts us : List VarId) (z : VarId) (last : FieldAt) (a b : ℕ) (base whole : Found) (vars : Vars) (heap : Heap) (choices : List Choice)
    → whole ≡ after_found base (λ w. loaded heap last w) → ((r : Evaluated) → r ≡ evaluated whole choices → P r) → ((r : Evaluated) → P r → r ≡ evaluated whole choices)
    → Walked g base place ts us z a b vars heap choices → Ready g P place ts us (a_field z last) a b vars heap choices
field_ready g place P ts us z last a b base whole vars heap choices e into out (walked_faults kind f goes) =
    ready_faults kind (into (fault_of kind) (sym (ap (λ x. evaluated x choices) (e ∙ ap (λ x. after_found x (λ w. loaded heap last w)) f)))) goes
field_ready g place P ts us z last a b base whole vars heap choices e into out (walked later f leads new) =
    let same : evaluated whole choices ≡ evaluated (loaded heap last (value_in later z)) choices = ap (λ x. evaluated x choices) (e ∙ ap (λ x. after_found x (λ w. loaded heap last w)) f) in
    ready later choices leads new (λ r c. into r (c ∙ sym same)) (λ r p. out r p ∙ same)

minus_ready : (g : Graph) (place : Place) (values : Values) (e : Expr) (ts us : List VarId) (o : Operand) (a b : ℕ) (vars : Vars) (heap : Heap) (choices : List Choice)
    → Ended g (λ r. Source values heap e choices r) place ts us o a b vars heap choices
    → Ready g (λ r. Source values heap (minus e) choices r) place ts us (a_difference (Const (pos 0)) o) a b vars heap choices
minus_ready g place values e ts us o a b vars heap choices (ended_waits none never) = ready_waits (λ r is. none is.0 is.1) never
minus_ready g place values e ts us o a b vars heap choices (ended_faults kind is goes) = ready_faults kind (fault_of kind, is, refl) goes
minus_ready g place values e ts us o a b vars heap choices (ended_gives later w left is leads new holds) =
    ready later left leads new
    (λ r c. (value_of w left, is, c ∙ ap (λ z. operated (λ x y. x -ℤ y) (Some (pos 0)) z left) holds))
    (λ r q. q.2 ∙ ap (right_operand (λ x y. x -ℤ y) (Some (pos 0))) (one_value values heap e choices q.0 (value_of w left) q.1 is) ∙ ap (λ z. operated (λ x y. x -ℤ y) (Some (pos 0)) z left) (sym holds))

-- an operation on two values
abbrev Binary : Values → Heap → (ℤ → ℤ → ℤ) → Expr → Expr → List Choice → Evaluated → Type 0
Binary values heap compute a b choices r = (one_of : Evaluated) × Source values heap a choices one_of × AfterLeft compute (λ rest two. Source values heap b rest two) one_of r

second_ready : (g : Graph) (place : Place) (values : Values) (compute : ℤ → ℤ → ℤ) (x y : Expr) (ts us ws : List VarId) (o p : Operand) (a m b : ℕ) (vars mid : Vars) (heap : Heap) (choices left : List Choice) (w : Option ℤ) (operation : Operation)
    → ((later : Vars) (rest : List Choice) (r : Evaluated) → Comes operation later heap rest r → r ≡ operated compute (operand_value later o) (operand_value later p) rest)
    → ((later : Vars) (rest : List Choice) (r : Evaluated) → r ≡ operated compute (operand_value later o) (operand_value later p) rest → Comes operation later heap rest r)
    → ((v : VarId) → Contains ts v → Contains us v) → ((v : VarId) → Contains us v → Contains ws v) → Kept us ws o
    → Source values heap x choices (value_of w left) → Leads g heap a vars choices m mid left → OnlyNew ts us vars mid → operand_value mid o ≡ w
    → Ended g (λ r. Source values heap y left r) place us ws p m b mid heap left
    → Ready g (λ r. Binary values heap compute x y choices r) place ts ws operation a b vars heap choices
second_ready g place values compute x y ts us ws o p a m b vars mid heap choices left w operation into out grow wider keeps is leads new holds (ended_waits none never) =
    ready_waits (λ r q.
    let same : q.0 ≡ value_of w left = one_value values heap x choices q.0 (value_of w left) q.1 is in
    let behind : AfterLeft compute (λ rest two. Source values heap y rest two) (value_of w left) r = subst (λ z. AfterLeft compute (λ rest two. Source values heap y rest two) z r) same q.2 in
    none behind.0 behind.1) (leads.never never)
second_ready g place values compute x y ts us ws o p a m b vars mid heap choices left w operation into out grow wider keeps is leads new holds (ended_faults kind it goes) =
    ready_faults kind (value_of w left, is, (fault_of kind, it, refl)) (leads.goes _ goes)
second_ready g place values compute x y ts us ws o p a m b vars mid heap choices left w operation into out grow wider keeps is leads new holds (ended_gives later u rest it further newer gave) =
    let first : operand_value later o ≡ w = kept_value us ws o mid later keeps newer ∙ holds in
    let same : operated compute (operand_value later o) (operand_value later p) rest ≡ operated compute w u rest =
    ap (λ z. operated compute z (operand_value later p) rest) first ∙ ap (λ z. operated compute w z rest) gave in
    ready later rest (leads_on leads further) (both_new ts us ws vars mid later grow wider new newer)
    (λ r c. (value_of w left, is, (value_of u rest, it, into later rest r c ∙ same)))
    (λ r q.
    let one_is : q.0 ≡ value_of w left = one_value values heap x choices q.0 (value_of w left) q.1 is in
    let behind : AfterLeft compute (λ z two. Source values heap y z two) (value_of w left) r = subst (λ z. AfterLeft compute (λ k two. Source values heap y k two) z r) one_is q.2 in
    out later rest r (behind.2 ∙ ap (right_operand compute w) (one_value values heap y left behind.0 (value_of u rest) behind.1 it) ∙ sym same))

binary_ready : (g : Graph) (place : Place) (values : Values) (compute : ℤ → ℤ → ℤ) (x y : Expr) (ts us ws : List VarId) (o p : Operand) (a m b : ℕ) (vars : Vars) (heap : Heap) (choices : List Choice) (operation : Operation)
    → ((later : Vars) (rest : List Choice) (r : Evaluated) → Comes operation later heap rest r → r ≡ operated compute (operand_value later o) (operand_value later p) rest)
    → ((later : Vars) (rest : List Choice) (r : Evaluated) → r ≡ operated compute (operand_value later o) (operand_value later p) rest → Comes operation later heap rest r)
    → ((v : VarId) → Contains ts v → Contains us v) → ((v : VarId) → Contains us v → Contains ws v) → Kept us ws o
    → Ended g (λ r. Source values heap x choices r) place ts us o a m vars heap choices
    → ((mid : Vars) (left : List Choice) → OnlyNew ts us vars mid → Ended g (λ r. Source values heap y left r) place us ws p m b mid heap left)
    → Ready g (λ r. Binary values heap compute x y choices r) place ts ws operation a b vars heap choices
binary_ready g place values compute x y ts us ws o p a m b vars heap choices operation into out grow wider keeps (ended_waits none never) second = ready_waits (λ r q. none q.0 q.1) never
binary_ready g place values compute x y ts us ws o p a m b vars heap choices operation into out grow wider keeps (ended_faults kind is goes) second = ready_faults kind (fault_of kind, is, refl) goes
binary_ready g place values compute x y ts us ws o p a m b vars heap choices operation into out grow wider keeps (ended_gives mid w left is leads new holds) second =
    second_ready g place values compute x y ts us ws o p a m b vars mid heap choices left w operation into out grow wider keeps is leads new holds (second mid left new)

mutual
  pub evaluating : {g : Graph} {out : ℕ} {place : Place} {e : Expr} {ts us : List VarId} {s u : Stage} {o : Operand} (values : Values) (vars : Vars) (heap : Heap) (choices : List Choice)
      → Evaluates g out place e ts s o us u → AreTemporaries g ts → length vars ≡ length g.owners → Agree g out values vars
      → Ended g (λ r. Source values heap e choices r) place ts us o (goal_of s) (goal_of u) vars heap choices
  evaluating {g} {ts = ts} {s = s} values vars heap choices (of_number {n = n}) are long agree =
      ended_gives vars (Some (pos n)) choices refl (stays g heap (goal_of s) vars choices) (nothing_new ts vars) refl
  evaluating {g} {ts = ts} {s = s} values vars heap choices (of_variable {x = x} {v = v} (is_made owned earlier)) are long agree =
      ended_gives vars (held values x) choices refl (stays g heap (goal_of s) vars choices) (nothing_new ts vars) (sym (agree.same x v.0 owned))
  evaluating {g} values vars heap choices (of_operation computed taken) are long agree =
      finish (computes_grows computed) (grown taken)
      (λ later left same. taking later heap left taken (computes_temporaries computed are) (same ∙ long))
      (computing values vars heap choices computed are long agree)

  pub computing : {g : Graph} {out : ℕ} {place : Place} {e : Expr} {ts us : List VarId} {s u : Stage} {kind : Kind} {operation : Operation} (values : Values) (vars : Vars) (heap : Heap) (choices : List Choice)
      → Computes g out place e ts s kind operation us u → AreTemporaries g ts → length vars ≡ length g.owners → Agree g out values vars
      → Ready g (λ r. Source values heap e choices r) place ts us operation (goal_of s) (goal_of u) vars heap choices
  computing {g} {ts = ts} {s = s} values vars heap choices of_input are long agree =
      ready vars choices (stays g heap (goal_of s) vars choices) (nothing_new ts vars) (λ r c. c) (λ r c. c)
  computing {g} {place = place} {ts = ts} {us = us} {s = s} {u = u} values vars heap choices (of_field {x = x} {y = y} {z = z} {f = f} {last = last} {fs = fs} (is_made owned earlier) walk kind) are long agree =
      let base : held values x ≡ value_in vars y = agree.same x y.0 owned in
      let whole : behind_value heap (held values x) (f ∷ fs) ≡ after_found (base_value heap (value_in vars y) (f ∷ fs)) (λ w. loaded heap last w) =
      ap (λ v. behind_value heap v (f ∷ fs)) base ∙ whole_chain heap (value_in vars y) walk in
      field_ready g place (λ r. Source values heap (value (record { variable = x; fields = f ∷ fs })) choices r) ts us z last (goal_of s) (goal_of u)
      (base_value heap (value_in vars y) (f ∷ fs)) (behind_value heap (held values x) (f ∷ fs)) vars heap choices whole (λ r e. e) (λ r e. e)
      (walking vars heap choices walk are long)
  computing {g} {place = place} {ts = ts} {us = us} {s = s} {u = u} values vars heap choices (of_minus {e = e} {o = o} first) are long agree =
      minus_ready g place values e ts us o (goal_of s) (goal_of u) vars heap choices (evaluating values vars heap choices first are long agree)
  computing {g} {out} {place = place} {ts = ts} {us = ws} {s = s} {u = u} values vars heap choices (of_times {a = a} {b = b} {o = o} {p = p} {us = us} {m = m} first second) are long agree =
      binary_ready g place values (λ x y. x *ℤ y) a b ts us ws o p (goal_of s) (goal_of m) (goal_of u) vars heap choices (a_product o p) (λ later rest r c. c) (λ later rest r c. c)
      (grows first) (grows second) (kept ws first (temporaries second (temporaries first are))) (evaluating values vars heap choices first are long agree)
      (λ mid left new. evaluating values mid heap left second (temporaries first are) (new.long ∙ long) (agree_later g out values ts us vars mid (temporaries first are) new agree))
  computing {g} {out} {place = place} {ts = ts} {us = ws} {s = s} {u = u} values vars heap choices (of_plus {a = a} {b = b} {o = o} {p = p} {us = us} {m = m} first second) are long agree =
      binary_ready g place values (λ x y. x +ℤ y) a b ts us ws o p (goal_of s) (goal_of m) (goal_of u) vars heap choices (a_sum o p) (λ later rest r c. c) (λ later rest r c. c)
      (grows first) (grows second) (kept ws first (temporaries second (temporaries first are))) (evaluating values vars heap choices first are long agree)
      (λ mid left new. evaluating values mid heap left second (temporaries first are) (new.long ∙ long) (agree_later g out values ts us vars mid (temporaries first are) new agree))
  computing {g} {out} {place = place} {ts = ts} {us = ws} {s = s} {u = u} values vars heap choices (of_difference {a = a} {b = b} {o = o} {p = p} {us = us} {m = m} first second) are long agree =
      binary_ready g place values (λ x y. x -ℤ y) a b ts us ws o p (goal_of s) (goal_of m) (goal_of u) vars heap choices (a_difference o p) (λ later rest r c. c) (λ later rest r c. c)
      (grows first) (grows second) (kept ws first (temporaries second (temporaries first are))) (evaluating values vars heap choices first are long agree)
      (λ mid left new. evaluating values mid heap left second (temporaries first are) (new.long ∙ long) (agree_later g out values ts us vars mid (temporaries first are) new agree))
