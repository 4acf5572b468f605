-- What the flow graph's variables hold, beside those of the functions that run.
use Rattle.std.proofs.Common.{◌<◌, ◌≤◌, ◌≡◌, ◌⊎◌, ◌++◌, inl, inr, ℕ, zero, suc, ℤ, List, [], ◌∷◌, Option, Some, None, length, refl, sym, ap, ◌∙◌, subst, arith}
use Rattle.std.specs.Prelude.{slice_get, slice_index_or, slice_set, Contains}
use Rattle.std.proofs.lemmas.List.{get_or-set_same, get_or-set_other}
use Rattle.std.proofs.lemmas.Option.{same_Some, slice_get_within}
use Rattle.mc_base.specs.declared.ids.VarId.{VarId}
use Rattle.mc_base.specs.declared.plain.Kind.{Kind}
use Rattle.mc_flow.specs.Values.{with_value, without as flow_without}
use Rattle.mc_semantics.specs.Resolved.Configs.{Values, held, with_variable, without}
use Rattle.mc_semantics.specs.Resolved.Programs.{Function}
use Rattle.mc_lower_spec.specs.Graphs.{Graph, Owner, local, result, temporary}
use Rattle.mc_lower_spec.specs.Scopes.{IsIn}
use Rattle.mc_lower_spec.proofs.Stepping.{Vars}
use Rattle.mc_lower_spec.proofs.Evaluating.{Agree}
use Rattle.mc_lower_spec.proofs.Changing.{IsClean, length_set, length_without, in_or_not, without_in, without_out, same_number}

-- ---- owners
-- no variable is made twice
abbrev pub AreOnce : Graph → Type 0
AreOnce g = (owner : Owner) (v w : ℕ) → slice_get g.owners v ≡ Some owner → slice_get g.owners w ≡ Some owner → v ≡ w

abbrev pub out_of : Owner → ℕ
out_of (local out x) = out
out_of (result out) = out
out_of (temporary j kind) = j

abbrev variable_of : Owner → ℕ
variable_of (local out x) = x
variable_of (result out) = 0
variable_of (temporary j kind) = 0

abbrev pub sort_of : Owner → ℕ
sort_of (local out x) = 0
sort_of (result out) = 1
sort_of (temporary j kind) = 2

pub one_owner : (g : Graph) (v : ℕ) (a b : Owner) → slice_get g.owners v ≡ Some a → slice_get g.owners v ≡ Some b → a ≡ b
one_owner g v a b e k = same_Some a b (sym e ∙ k)

pub same_out : (g : Graph) (v out x out' x' : ℕ) → slice_get g.owners v ≡ Some (local out x) → slice_get g.owners v ≡ Some (local out' x') → out ≡ out'
same_out g v out x out' x' e k = ap out_of (one_owner g v (local out x) (local out' x') e k)

pub same_local : (g : Graph) (v out x out' x' : ℕ) → slice_get g.owners v ≡ Some (local out x) → slice_get g.owners v ≡ Some (local out' x') → x ≡ x'
same_local g v out x out' x' e k = ap variable_of (one_owner g v (local out x) (local out' x') e k)

pub no_result : (g : Graph) (v u out x o : ℕ) → slice_get g.owners v ≡ Some (local out x) → slice_get g.owners u ≡ Some (result o) → u ≡ v → ⊥
no_result g v u out x o e k same =
    let d : 0 ≡ 1 = ap sort_of (one_owner g v (local out x) (result o) e (subst (λ z. slice_get g.owners z ≡ Some (result o)) same k)) in
    omega (arith, d)

pub no_temporary : (g : Graph) (v u out x j : ℕ) (kind : Kind) → slice_get g.owners v ≡ Some (local out x) → slice_get g.owners u ≡ Some (temporary j kind) → u ≡ v → ⊥
no_temporary g v u out x j kind e k same =
    let d : 0 ≡ 2 = ap sort_of (one_owner g v (local out x) (temporary j kind) e (subst (λ z. slice_get g.owners z ≡ Some (temporary j kind)) same k)) in
    omega (arith, d)

-- ---- what a function that runs holds
-- the flow graph's variables of these from this number on are undefined
pub record Limit : Type 0 where
  pub first : ℕ
  pub variables : List ℕ

abbrev pub limit : ℕ → List ℕ → Limit
limit first variables = record { first = first; variables = variables }

abbrev pub IsLate : Graph → ℕ → Values → Limit → Type 0
IsLate g out values l = (x v : ℕ) → Contains l.variables x → slice_get g.owners v ≡ Some (local out x) → l.first ≤ v → held values x ≡ None

abbrev pub AreLate : Graph → ℕ → Values → List Limit → Type 0
AreLate g out values [] = Unit {0}
AreLate g out values (l ∷ ls) = IsLate g out values l × AreLate g out values ls

-- an occurrence of a function that runs: which of its variables are in scope, and what they hold
pub record Frame : Type 0 where
  pub out : ℕ
  pub function : Function
  pub scope : List ℕ
  pub limits : List Limit
  pub values : Values

pub record FrameHeld (g : Graph) (f : Frame) (vars : Vars) : Type 0 where
  pub agree : Agree g f.out f.values vars
  pub long : length f.values ≡ length f.function.locals
  pub scoped : (x : ℕ) → (Contains f.scope x → ⊥) → held f.values x ≡ None
  pub late : AreLate g f.out f.values f.limits
  pub quiet : (kind : Kind) → f.function.result ≡ Some kind → (v : ℕ) → slice_get g.owners v ≡ Some (result f.out) → slice_index_or vars v None ≡ None

abbrev pub AllHeld : Graph → List Frame → Vars → Type 0
AllHeld g [] vars = Unit {0}
AllHeld g (f ∷ fs) vars = FrameHeld g f vars × AllHeld g fs vars

-- occurrences within others have smaller points
abbrev pub IsInside : ℕ → List Frame → Type 0
IsInside out [] = Unit {0}
IsInside out (f ∷ fs) = (out < f.out) × IsInside out fs

abbrev pub AreNested : List Frame → Type 0
AreNested [] = Unit {0}
AreNested (f ∷ fs) = IsInside f.out fs × AreNested fs

abbrev pub IsNone : ℕ → List Frame → Type 0
IsNone out [] = Unit {0}
IsNone out (f ∷ fs) = (f.out ≡ out → ⊥) × IsNone out fs

pub record Held (g : Graph) (fs : List Frame) (vars : Vars) : Type 0 where
  pub all : AllHeld g fs vars
  pub nested : AreNested fs
  pub clear : (v out x : ℕ) → slice_get g.owners v ≡ Some (local out x) → IsNone out fs → slice_index_or vars v None ≡ None
  pub clean : IsClean g vars
  pub long : length vars ≡ length g.owners

pub inside_none : (out : ℕ) (fs : List Frame) → IsInside out fs → IsNone out fs
inside_none out [] inside = tt
inside_none out (f ∷ fs) inside = (λ e. omega (arith, e, inside.0), inside_none out fs inside.1)

-- ---- lists of numbers
later_in : (y x : ℕ) (xs : List ℕ) → Contains xs x → Contains (y ∷ xs) x
later_in y x xs there = (suc there.0, omega (arith, there.1), there.2)

pub among : (x : ℕ) (xs : List ℕ) → Contains xs x ⊎ (Contains xs x → ⊥)
among x [] = inr (λ there. omega (arith, there.1))
among x (y ∷ xs) = elim (same_number y x) [
  | inl e ↦ inl (0, omega arith, e)
  | inr apart ↦ elim (among x xs) [
    | inl there ↦ inl (later_in y x xs there)
    | inr absent ↦ inr (neither y xs apart absent)
  ]
]
  where
    neither : (y : ℕ) (xs : List ℕ) → (y ≡ x → ⊥) → (Contains xs x → ⊥) → Contains (y ∷ xs) x → ⊥
    neither y xs apart absent (zero, less, e) = apart e
    neither y xs apart absent (suc k, less, e) = absent (k, omega (arith, less), e)

pub neither_in : (ks bs : List ℕ) (x : ℕ) → (Contains ks x → ⊥) → (Contains bs x → ⊥) → Contains (ks ++ bs) x → ⊥
neither_in [] bs x a b there = b there
neither_in (c ∷ ks) bs x a b (zero, less, e) = a (0, omega arith, e)
neither_in (c ∷ ks) bs x a b (suc k, less, e) = neither_in ks bs x (λ is. a (later_in c x ks is)) b (k, omega (arith, less), e)

pub in_right : (ks bs : List ℕ) (x : ℕ) → Contains bs x → Contains (ks ++ bs) x
in_right [] bs x is = is
in_right (c ∷ ks) bs x is = later_in c x (ks ++ bs) (in_right ks bs x is)

pub in_left : (ks bs : List ℕ) (x : ℕ) → Contains ks x → Contains (ks ++ bs) x
in_left [] bs x is = absurd (omega (arith, is.1))
in_left (c ∷ ks) bs x (zero, less, e) = (0, omega arith, e)
in_left (c ∷ ks) bs x (suc k, less, e) = later_in c x (ks ++ bs) (in_left ks bs x (k, omega (arith, less), e))

pub in_either : (ks bs : List ℕ) (x : ℕ) → Contains (ks ++ bs) x → Contains ks x ⊎ Contains bs x
in_either ks bs x there = elim (among x ks) [
  | inl is ↦ inl is
  | inr absent ↦ elim (among x bs) [ inl is ↦ inr is | inr also ↦ absurd (neither_in ks bs x absent also there) ]
]

-- ---- one variable
pub set_at : (values : Values) (x : ℕ) (w : Option ℤ) → x < length values → held (with_variable values x w) x ≡ w
set_at values x w within = get_or-set_same values x w None within

pub set_other : (values : Values) (x y : ℕ) (w : Option ℤ) → (y ≡ x → ⊥) → held (with_variable values x w) y ≡ held values y
set_other values x y w apart = get_or-set_other values x y w None apart

abbrev pub IsUnder : ℕ → List Limit → Type 0
IsUnder v [] = Unit {0}
IsUnder v (l ∷ ls) = (v < l.first) × IsUnder v ls

late_set : (g : Graph) (out : ℕ) (values : Values) (x v : ℕ) (w : Option ℤ) (ls : List Limit) → AreOnce g → slice_get g.owners v ≡ Some (local out x) → IsUnder v ls
    → AreLate g out values ls → AreLate g out (with_variable values x w) ls
late_set g out values x v w [] once owned under late = tt
late_set g out values x v w (l ∷ ls) once owned under late = (
  λ y u there owns from. set_other values x y w (λ e.
      let same : u ≡ v = once (local out x) u v (subst (λ z. slice_get g.owners u ≡ Some (local out z)) e owns) owned in
      omega (arith, same, from, under.0)) ∙ late.0 y u there owns from,
  late_set g out values x v w ls once owned under.1 late.1,
)

agree_set : (g : Graph) (out : ℕ) (values : Values) (vars : Vars) (x v : ℕ) (w : Option ℤ) → AreOnce g → slice_get g.owners v ≡ Some (local out x) → x < length values → v < length vars
    → Agree g out values vars → Agree g out (with_variable values x w) (slice_set vars v w)
agree_set g out values vars x v w once owned within known agree = record {
  same = λ y u owns. elim (same_number u v) [
    | inl e ↦
        let same : y ≡ x = same_local g v out y out x (subst (λ z. slice_get g.owners z ≡ Some (local out y)) e owns) owned in
        ap (held (with_variable values x w)) same ∙ set_at values x w within ∙ sym (ap (λ z. slice_index_or (slice_set vars v w) z None) e ∙ get_or-set_same vars v w None known)
    | inr apart ↦
        set_other values x y w (λ e. apart (once (local out x) u v (subst (λ z. slice_get g.owners u ≡ Some (local out z)) e owns) owned))
        ∙ agree.same y u owns ∙ sym (get_or-set_other vars v u w None apart)
  ];
}

-- a frame with other variables
frame_apart : (g : Graph) (f : Frame) (vars : Vars) (v out x : ℕ) (w : Option ℤ) → slice_get g.owners v ≡ Some (local out x) → (f.out ≡ out → ⊥) → FrameHeld g f vars → FrameHeld g f (slice_set vars v w)
frame_apart g f vars v out x w owned apart h = record {
  agree = record {
    same = λ y u owns. h.agree.same y u owns
        ∙ sym (get_or-set_other vars v u w None (λ e. apart (same_out g v f.out y out x (subst (λ z. slice_get g.owners z ≡ Some (local f.out y)) e owns) owned)));
  };
  long = h.long;
  scoped = h.scoped;
  late = h.late;
  quiet = λ kind is u owns. get_or-set_other vars v u w None (no_result g v u out x f.out owned owns) ∙ h.quiet kind is u owns;
}

pub frames_apart : (g : Graph) (fs : List Frame) (vars : Vars) (v out x : ℕ) (w : Option ℤ) → slice_get g.owners v ≡ Some (local out x) → IsNone out fs → AllHeld g fs vars → AllHeld g fs (slice_set vars v w)
frames_apart g [] vars v out x w owned none all = tt
frames_apart g (f ∷ fs) vars v out x w owned none all = (frame_apart g f vars v out x w owned none.0 all.0, frames_apart g fs vars v out x w owned none.1 all.1)

abbrev pub with_values : Frame → Values → Frame
with_values f values = record { out = f.out; function = f.function; scope = f.scope; limits = f.limits; values = values }

length_put : (values : Values) (x : ℕ) (w : Option ℤ) → length (with_variable values x w) ≡ length values
length_put values x w = length_set values x w

pub set_held : (g : Graph) (f : Frame) (fs : List Frame) (vars : Vars) (x : ℕ) (v : VarId) (w : Option ℤ) → AreOnce g → slice_get g.owners v.0 ≡ Some (local f.out x) → IsIn (length f.function.locals) f.scope x → IsUnder v.0 f.limits
    → Held g (f ∷ fs) vars → Held g (with_values f (with_variable f.values x w) ∷ fs) (with_value vars v w)
set_held g f fs vars x v w once owned is_in under h =
    let known : v.0 < length g.owners = slice_get_within g.owners v.0 (local f.out x) owned in
    let mine : FrameHeld g f vars = h.all.0 in
    record {
      all = (
        record {
          agree = agree_set g f.out f.values vars x v.0 w once owned (omega (arith, is_in.0, mine.long)) (omega (arith, known, h.long)) mine.agree;
          long = length_put f.values x w ∙ mine.long;
          scoped = λ y absent. set_other f.values x y w (λ e. absent (subst (λ z. Contains f.scope z) (sym e) is_in.1)) ∙ mine.scoped y absent;
          late = late_set g f.out f.values x v.0 w f.limits once owned under mine.late;
          quiet = λ kind is u owns. get_or-set_other vars v.0 u w None (no_result g v.0 u f.out x f.out owned owns) ∙ mine.quiet kind is u owns;
        },
        frames_apart g fs vars v.0 f.out x w owned (inside_none f.out fs h.nested.0) h.all.1,
      );
      nested = h.nested;
      clear = λ u out y owns none. get_or-set_other vars v.0 u w None (λ e. none.0 (same_out g v.0 f.out x out y owned (subst (λ z. slice_get g.owners z ≡ Some (local out y)) e owns))) ∙ h.clear u out y owns none;
      clean = λ u j kind owns. get_or-set_other vars v.0 u.0 w None (no_temporary g v.0 u.0 f.out x j kind owned owns) ∙ h.clean u j kind owns;
      long = length_set vars v.0 w ∙ h.long;
    }

-- ---- variables that become undefined
-- these are undefined, and the others hold what they held
pub record AreUndone (xs : List ℕ) (values later : Values) : Type 0 where
  pub none : (x : ℕ) → Contains xs x → held later x ≡ None
  pub same : (x : ℕ) → (Contains xs x → ⊥) → held later x ≡ held values x
  pub long : length later ≡ length values

-- what was undefined stays so
pub stays_undefined : (xs : List ℕ) (values later : Values) (x : ℕ) → AreUndone xs values later → held values x ≡ None → held later x ≡ None
stays_undefined xs values later x undone none = elim (among x xs) [ inl there ↦ undone.none x there | inr absent ↦ undone.same x absent ∙ none ]

late_stays : (g : Graph) (out : ℕ) (xs : List ℕ) (values later : Values) (ls : List Limit) → AreUndone xs values later → AreLate g out values ls → AreLate g out later ls
late_stays g out xs values later [] undone late = tt
late_stays g out xs values later (l ∷ ls) undone late =
    (λ x v there owns from. stays_undefined xs values later x undone (late.0 x v there owns from), late_stays g out xs values later ls undone late.1)

-- the flow graph's variables of these, but for those that are undefined
pub record AreTheirs (g : Graph) (out : ℕ) (values : Values) (xs : List ℕ) (vs : List VarId) : Type 0 where
  pub all : (x : ℕ) (v : VarId) → Contains xs x → slice_get g.owners v.0 ≡ Some (local out x) → Contains vs v ⊎ (held values x ≡ None)
  pub only : (v : VarId) → Contains vs v → (x : ℕ) × Contains xs x × (slice_get g.owners v.0 ≡ Some (local out x))

abbrev pub var_at : ℕ → VarId
var_at v = record { 0 = v }

-- another owner's variable is kept
pub kept_apart : (g : Graph) (out : ℕ) (values : Values) (xs : List ℕ) (vs : List VarId) (vars : Vars) (u : ℕ) → AreTheirs g out values xs vs → ((x : ℕ) → slice_get g.owners u ≡ Some (local out x) → ⊥)
    → slice_index_or (flow_without vars vs) u None ≡ slice_index_or vars u None
kept_apart g out values xs vs vars u theirs other =
    without_out vs vars (var_at u) (λ there. let one = theirs.only (var_at u) there in other one.0 one.2)

frame_kept : (g : Graph) (f : Frame) (out : ℕ) (values : Values) (xs : List ℕ) (vs : List VarId) (vars : Vars) → AreTheirs g out values xs vs → (f.out ≡ out → ⊥) → FrameHeld g f vars → FrameHeld g f (flow_without vars vs)
frame_kept g f out values xs vs vars theirs apart h = record {
  agree = record { same = λ y u owns. h.agree.same y u owns ∙ sym (kept_apart g out values xs vs vars u theirs (λ x owned. apart (same_out g u f.out y out x owns owned))) };
  long = h.long;
  scoped = h.scoped;
  late = h.late;
  quiet = λ kind is u owns. kept_apart g out values xs vs vars u theirs (λ x owned. no_result g u u out x f.out owned owns refl) ∙ h.quiet kind is u owns;
}

pub frames_kept : (g : Graph) (fs : List Frame) (out : ℕ) (values : Values) (xs : List ℕ) (vs : List VarId) (vars : Vars) → AreTheirs g out values xs vs → IsNone out fs → AllHeld g fs vars → AllHeld g fs (flow_without vars vs)
frames_kept g [] out values xs vs vars theirs none all = tt
frames_kept g (f ∷ fs) out values xs vs vars theirs none all = (frame_kept g f out values xs vs vars theirs none.0 all.0, frames_kept g fs out values xs vs vars theirs none.1 all.1)

undone_agree : (g : Graph) (out : ℕ) (values later : Values) (xs : List ℕ) (vs : List VarId) (vars : Vars) → AreTheirs g out values xs vs → AreUndone xs values later → Agree g out values vars
    → Agree g out later (flow_without vars vs)
undone_agree g out values later xs vs vars theirs undone agree = record {
  same = λ y u owns. elim (among y xs) [
    | inl there ↦ undone.none y there ∙ sym (elim (in_or_not (var_at u) vs) [
      | inl is ↦ without_in vs vars (var_at u) is
      | inr absent ↦ without_out vs vars (var_at u) absent ∙ sym (agree.same y u owns) ∙ none_of y u (theirs.all y (var_at u) there owns) absent
    ])
    | inr absent ↦ undone.same y absent ∙ agree.same y u owns
        ∙ sym (kept_apart_in u (λ x is owned. absent (subst (λ z. Contains xs z) (same_local g u out x out y owned owns) is)))
  ];
}
  where
    none_of : (y u : ℕ) → Contains vs (var_at u) ⊎ (held values y ≡ None) → (Contains vs (var_at u) → ⊥) → held values y ≡ None
    none_of y u (inl is) absent = absurd (absent is)
    none_of y u (inr none) absent = none

    kept_apart_in : (u : ℕ) → ((x : ℕ) → Contains xs x → slice_get g.owners u ≡ Some (local out x) → ⊥) → slice_index_or (flow_without vars vs) u None ≡ slice_index_or vars u None
    kept_apart_in u other = without_out vs vars (var_at u) (λ there. let one = theirs.only (var_at u) there in other one.0 one.1 one.2)

pub undone_held : (g : Graph) (f : Frame) (fs : List Frame) (later : Values) (xs : List ℕ) (vs : List VarId) (vars : Vars) → AreTheirs g f.out f.values xs vs → AreUndone xs f.values later
    → Held g (f ∷ fs) vars → Held g (with_values f later ∷ fs) (flow_without vars vs)
undone_held g f fs later xs vs vars theirs undone h =
    let mine : FrameHeld g f vars = h.all.0 in
    record {
      all = (
        record {
          agree = undone_agree g f.out f.values later xs vs vars theirs undone mine.agree;
          long = undone.long ∙ mine.long;
          scoped = λ y absent. stays_undefined xs f.values later y undone (mine.scoped y absent);
          late = late_stays g f.out xs f.values later f.limits undone mine.late;
          quiet = λ kind is u owns. kept_apart g f.out f.values xs vs vars u theirs (λ x owned. no_result g u u f.out x f.out owned owns refl) ∙ mine.quiet kind is u owns;
        },
        frames_kept g fs f.out f.values xs vs vars theirs (inside_none f.out fs h.nested.0) h.all.1,
      );
      nested = h.nested;
      clear = λ u out y owns none. kept_apart g f.out f.values xs vs vars u theirs (λ x owned. none.0 (same_out g u f.out x out y owned owns)) ∙ h.clear u out y owns none;
      clean = λ u j kind owns. kept_apart g f.out f.values xs vs vars u.0 theirs (λ x owned. no_temporary g u.0 u.0 f.out x j kind owned owns refl) ∙ h.clean u j kind owns;
      long = length_without vs vars ∙ h.long;
    }

-- what the source undoes
pub without_undone : (xs : List ℕ) (values : Values) → AreUndone xs values (without xs values)
without_undone [] values = record { none = λ x there. absurd (omega (arith, there.1)); same = λ x absent. refl; long = refl }
without_undone (y ∷ ys) values =
    let rest : AreUndone ys values (without ys values) = without_undone ys values in
    record {
      none = λ x there. elim (same_number x y) [
        | inl e ↦ ap (held (with_variable (without ys values) y None)) e ∙ none_set (without ys values) y
        | inr apart ↦ set_other (without ys values) y x None apart ∙ rest.none x (in_rest x there apart)
      ];
      same = λ x absent. set_other (without ys values) y x None (λ e. absent (0, omega arith, sym e)) ∙ rest.same x (λ there. absent (later_in y x ys there));
      long = length_put (without ys values) y None ∙ rest.long;
    }
  where
    in_rest : (x : ℕ) → Contains (y ∷ ys) x → (x ≡ y → ⊥) → Contains ys x
    in_rest x (zero, less, e) apart = absurd (apart (sym e))
    in_rest x (suc k, less, e) apart = (k, omega (arith, less), e)

    none_set : (some : Values) (n : ℕ) → held (with_variable some n None) n ≡ None
    none_set some n = Rattle.mc_lower_spec.proofs.Changing.set_none some (var_at n)

pub both_undone : (xs ys : List ℕ) (values mid later : Values) → AreUndone xs values mid → AreUndone ys mid later → AreUndone (xs ++ ys) values later
both_undone xs ys values mid later first second = record {
  none = λ x there. elim (among x ys) [
    | inl is ↦ second.none x is
    | inr absent ↦ second.same x absent ∙ elim (among x xs) [
      | inl is ↦ first.none x is
      | inr also ↦ absurd (neither_in xs ys x also absent there)
    ]
  ];
  same = λ x absent. second.same x (λ is. absent (in_right xs ys x is)) ∙ first.same x (λ is. absent (in_left xs ys x is));
  long = second.long ∙ first.long;
}

-- ---- other scopes
abbrev pub with_scope : Frame → List ℕ → List Limit → Frame
with_scope f scope limits = record { out = f.out; function = f.function; scope = scope; limits = limits; values = f.values }

pub rescoped : (g : Graph) (f : Frame) (fs : List Frame) (vars : Vars) (scope : List ℕ) (limits : List Limit) → ((x : ℕ) → (Contains scope x → ⊥) → held f.values x ≡ None) → AreLate g f.out f.values limits
    → Held g (f ∷ fs) vars → Held g (with_scope f scope limits ∷ fs) vars
rescoped g f fs vars scope limits scoped late h = record {
  all = (record { agree = h.all.0.agree; long = h.all.0.long; scoped = scoped; late = late; quiet = h.all.0.quiet }, h.all.1);
  nested = h.nested;
  clear = h.clear;
  clean = h.clean;
  long = h.long;
}
