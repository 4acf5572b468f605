-- Values that are computed alike.
use Rattle.std.proofs.Common.{◌≡◌, ◌++◌, ℕ, suc, pos, List, [], ◌∷◌, Option, length, refl, sym, ap, ◌∙◌, subst, inl, inr, arith}
use Rattle.std.proofs.lemmas.Bool.{cases_lt}
use Rattle.std.proofs.lemmas.Option.{same_Some}
use Rattle.std.specs.Prelude.{⊤}
use Rattle.mc_base.specs.declared.ids.VarId.{VarId}
use Rattle.mc_base.specs.declared.plain.Kind.{Kind}
use Rattle.mc_base.specs.declared.text.place.Place.{Place}
use Rattle.mc_c_syntax.specs.declared.ast.trees.Comparison.{Comparison}
use Rattle.mc_flow.specs.declared.instr.Operand.{Operand}
use Rattle.mc_flow.specs.declared.instr.Operand.TheVariants.{Var, Const}
use Rattle.mc_flow.specs.declared.instr.Instr.TheVariants.{Copy, Store}
use Rattle.mc_flow.specs.Valid.{field_kind}
use Rattle.mc_semantics.specs.Resolved.Programs.{FieldAt, Left, Expr, number, input, value, minus, times, plus as add_expr, difference, Cond}
use Rattle.mc_lower_spec.specs.Graphs.{Graph, plain, Stage, stage, point, IsPoint}
use Rattle.mc_lower_spec.specs.Values.{struct_at, Operation, a_field, a_sum, a_difference, a_product, sets, IsOfKind, decides, Takes, takes, Walks, walks_none, walks, Evaluates, of_number, of_variable, of_operation, Computes, of_input, of_field, of_minus, of_times, of_plus, of_difference}
use Rattle.mc_lower_spec.specs.Values.{EvaluatesAll, evaluates_none, evaluates_next, Compares, compares, Tests, tests_plain, tests_compare, tests_negation, tests_both, tests_either, TestsPerhaps, tests_always, tests_once, Puts, puts_variable, puts_field}
use Rattle.mc_lower_spec.proofs.Stages.{goal_of, points_of}
use Rattle.mc_lower_laws.proofs.SingleLemmas.Alike.{Setting, Meets, SamePoints, Goes, on, stays, same_point}
use Rattle.mc_lower_laws.proofs.SingleLemmas.Variables.{local_once, appended, undefined, used}

-- the same comes of two steps, and the same temporaries are used
pub record Gives (g h : Graph) (out left : ℕ) (Same : Type 0) {X : Type 0} (a b : X) (ts us : List VarId) (s u r w : Stage) : Type 0 where
  pub value : a ≡ b
  pub list : ts ≡ us
  pub steps : Goes g h out left Same s u r w

pub record GivesTwo (g h : Graph) (out left : ℕ) (Same : Type 0) {X Y : Type 0} (a b : X) (c d : Y) (ts us : List VarId) (s u r w : Stage) : Type 0 where
  pub value : a ≡ b
  pub other : c ≡ d
  pub list : ts ≡ us
  pub steps : Goes g h out left Same s u r w

pub kind_once : {g h : Graph} {f e : FieldAt} {kind other : Kind} → Setting g h → f ≡ e → IsOfKind g f kind → IsOfKind h e other → kind ≡ other
kind_once {g = g} {h = h} {f = f} {e = e} {kind = kind} {other = other} set same a b =
    same_Some kind other (sym a ∙ ap (λ z. field_kind z (struct_at f.shape) f.field) set.structs ∙ ap (λ (z : FieldAt). field_kind h.flow.structs (struct_at z.shape) z.field) same ∙ b)

pub taken : {g h : Graph} {out left : ℕ} {Same : Type 0} {place : Place} {kind other : Kind} {operation second : Operation} {ts us vs ws : List VarId} {s u r w : Stage} {t x : VarId} → Setting g h → Meets g h out left s r
    → kind ≡ other → operation ≡ second → ts ≡ vs → Takes g place kind operation ts s t us u → Takes h place other second vs r x ws w → Gives g h out left Same t x us ws s u r w
taken {operation = operation} {second = second} {vs = vs} {t = t} {x = x} set m kinds operations lists (takes uses is) (takes uses_too is_too) =
    let a = used set m (ap length lists) kinds uses uses_too in
    record {
      value = a.variable;
      list = ap (λ z. z ++ t ∷ []) lists ∙ ap (λ z. vs ++ z ∷ []) a.variable;
      steps = on a.steps (appended a.steps.meets (λ q. ap (λ z. sets z t q) operations ∙ ap (λ z. sets second z q) a.variable) is is_too);
    }

pub walked : {g h : Graph} {out left : ℕ} {Same : Type 0} {place : Place} {y z x v : VarId} {fs : List FieldAt} {ts us vs ws : List VarId} {s u r w : Stage} {last end : FieldAt} → Setting g h → Meets g h out left s r
    → y ≡ x → ts ≡ vs → Walks g place y fs ts s z last us u → Walks h place x fs vs r v end ws w → GivesTwo g h out left Same z v last end us ws s u r w
walked set m variables lists walks_none walks_none = record { value = variables; other = refl; list = lists; steps = stays m }
walked set m variables lists (walks {f = f} kind first rest) (walks kind_too first_too rest_too) =
    let a = taken set m (kind_once set refl kind kind_too) (ap (λ z. a_field z f) variables) lists first first_too in
    let b = walked set a.steps.meets a.value a.list rest rest_too in
    record { value = b.value; other = b.other; list = b.list; steps = on a.steps b.steps }

-- ---- expressions
abbrev pub IsSome : List FieldAt → Type 0
IsSome [] = ⊥
IsSome (f ∷ fs) = ⊤

-- these are computed by an instruction
abbrev pub IsComputed : Expr → Type 0
IsComputed (number n) = ⊥
IsComputed input = ⊤
IsComputed (value l) = IsSome l.fields
IsComputed (minus e) = ⊤
IsComputed (times a b) = ⊤
IsComputed (add_expr a b) = ⊤
IsComputed (difference a b) = ⊤

pub is_computed : {g : Graph} {out : ℕ} {place : Place} {e : Expr} {ts us : List VarId} {s u : Stage} {kind : Kind} {operation : Operation} → Computes g out place e ts s kind operation us u → IsComputed e
is_computed of_input = tt
is_computed (of_field made walk kind) = tt
is_computed (of_minus first) = tt
is_computed (of_times first second) = tt
is_computed (of_plus first second) = tt
is_computed (of_difference first second) = tt

mutual
  pub evaluated : {g h : Graph} {out left : ℕ} {Same : Type 0} {place : Place} {e : Expr} {ts us vs ws : List VarId} {s u r w : Stage} {o p : Operand} → Setting g h → Meets g h out left s r → ts ≡ vs
      → Evaluates g out place e ts s o us u → Evaluates h left place e vs r p ws w → Gives g h out left Same o p us ws s u r w
  evaluated set m lists of_number of_number = record { value = refl; list = lists; steps = stays m }
  evaluated set m lists of_number (of_operation first rest) = absurd (is_computed first)
  evaluated set m lists (of_variable made) (of_variable also) = record { value = ap (λ z. Var z) (local_once set m made also); list = lists; steps = stays m }
  evaluated set m lists (of_variable made) (of_operation first rest) = absurd (is_computed first)
  evaluated set m lists (of_operation first rest) of_number = absurd (is_computed first)
  evaluated set m lists (of_operation first rest) (of_variable made) = absurd (is_computed first)
  evaluated set m lists (of_operation first rest) (of_operation first_too rest_too) =
      let a = computed set m lists first first_too in
      let b = taken set a.steps.meets a.value a.other a.list rest rest_too in
      record { value = ap (λ z. Var z) b.value; list = b.list; steps = on a.steps b.steps }

  pub computed : {g h : Graph} {out left : ℕ} {Same : Type 0} {place : Place} {e : Expr} {ts us vs ws : List VarId} {s u r w : Stage} {kind other : Kind} {operation second : Operation} → Setting g h → Meets g h out left s r
      → ts ≡ vs → Computes g out place e ts s kind operation us u → Computes h left place e vs r other second ws w → GivesTwo g h out left Same kind other operation second us ws s u r w
  computed set m lists of_input of_input = record { value = refl; other = refl; list = lists; steps = stays m }
  computed set m lists (of_field {last = last} made walk kind) (of_field {z = v} made_too walk_too kind_too) =
      let a = walked set m (local_once set m made made_too) lists walk walk_too in
      record { value = kind_once set a.other kind kind_too; other = ap (λ z. a_field z last) a.value ∙ ap (λ z. a_field v z) a.other; list = a.list; steps = a.steps }
  computed set m lists (of_minus first) (of_minus first_too) =
      let a = evaluated set m lists first first_too in
      record { value = refl; other = ap (λ z. a_difference (Const (pos 0)) z) a.value; list = a.list; steps = a.steps }
  computed set m lists (of_times {p = second_operand} first second) (of_times {o = first_operand} first_too second_too) =
      let a = evaluated set m lists first first_too in
      let b = evaluated set a.steps.meets a.list second second_too in
      record { value = refl; other = ap (λ z. a_product z second_operand) a.value ∙ ap (λ z. a_product first_operand z) b.value; list = b.list; steps = on a.steps b.steps }
  computed set m lists (of_plus {p = second_operand} first second) (of_plus {o = first_operand} first_too second_too) =
      let a = evaluated set m lists first first_too in
      let b = evaluated set a.steps.meets a.list second second_too in
      record { value = refl; other = ap (λ z. a_sum z second_operand) a.value ∙ ap (λ z. a_sum first_operand z) b.value; list = b.list; steps = on a.steps b.steps }
  computed set m lists (of_difference {p = second_operand} first second) (of_difference {o = first_operand} first_too second_too) =
      let a = evaluated set m lists first first_too in
      let b = evaluated set a.steps.meets a.list second second_too in
      record { value = refl; other = ap (λ z. a_difference z second_operand) a.value ∙ ap (λ z. a_difference first_operand z) b.value; list = b.list; steps = on a.steps b.steps }

pub all_evaluated : {g h : Graph} {out left : ℕ} {Same : Type 0} {place : Place} {es : List Expr} {ts us vs ws : List VarId} {s u r w : Stage} {os ps : List Operand} → Setting g h → Meets g h out left s r → ts ≡ vs
    → EvaluatesAll g out place es ts s os us u → EvaluatesAll h left place es vs r ps ws w → Gives g h out left Same os ps us ws s u r w
all_evaluated set m lists evaluates_none evaluates_none = record { value = refl; list = lists; steps = stays m }
all_evaluated set m lists (evaluates_next {os = os} first rest) (evaluates_next {o = o} first_too rest_too) =
    let a = evaluated set m lists first first_too in
    let b = all_evaluated set a.steps.meets a.list rest rest_too in
    record { value = ap (λ z. z ∷ os) a.value ∙ ap (λ z. o ∷ z) b.value; list = b.list; steps = on a.steps b.steps }

-- ---- conditions
-- two tests from s and r end alike, and where what is after them begins at the same two points, they are the same points
pub record Tells (g h : Graph) (out left : ℕ) (Same : Type 0) (s : Stage) (t f n k : ℕ) (r : Stage) (p q i j : ℕ) : Type 0 where
  pub meets : Meets g h out left (stage t n k) (stage p i j)
  pub back : Same → t ≡ p → f ≡ q → (goal_of s ≡ goal_of r) × SamePoints g h (points_of s) n

pub on_told : {g h : Graph} {out left : ℕ} {Same : Type 0} {s m r l : Stage} {t f n k p q i j : ℕ} → Goes g h out left Same s m r l → Tells g h out left Same m t f n k l p q i j → Tells g h out left Same s t f n k r p q i j
on_told {m = m} first second =
    record {
      meets = second.meets;
      back = λ same true_side false_side.
          let (middle, later) = second.back same true_side false_side in
          let (begin, early) = first.back same middle in (
            begin,
            λ i low high. elim (cases_lt i (points_of m)) [
              | inl before ↦ early i low before
              | inr behind ↦ later i (omega (arith, behind)) high
            ],
          );
    }

compared : {g h : Graph} {out left : ℕ} {Same : Type 0} {place : Place} {c : Comparison} {a b d e : Operand} {ts us : List VarId} {s r : Stage} {t f n k p q i j : ℕ} → Meets g h out left s r → a ≡ d → b ≡ e → ts ≡ us
    → Compares g place c a b ts s t f n k → Compares h place c d e us r p q i j → Tells g h out left Same s t f n k r p q i j
compared {g = g} {h = h} {out = out} {left = left} {Same = Same} {place = place} {c = c} {a = a} {b = b} {d = d} {e = e} {ts = ts} {us = us} m firsts seconds lists (compares {n = n} {k = k} {y = y} {z = z} {t = t} {f = f} {m = i} {l = l} is one two)
    (compares {n = nn} {k = kk} {y = yy} {z = zz} {t = tt_} {f = ff} {m = ii} {l = ll} is_too one_too two_too) =
    let begins : Meets g h out left (stage y (suc n) k) (stage yy (suc nn) kk) = record { points = ap suc m.points; variables = m.variables; alike = m.alike } in
    let x = undefined {Same = Same} begins lists one one_too in
    let middle : Meets g h out left (stage z i k) (stage zz ii kk) = record { points = x.meets.points; variables = x.meets.variables; alike = x.meets.alike } in
    let w = undefined {Same = Same} middle lists two two_too in
    record {
      meets = record { points = w.meets.points; variables = w.meets.variables; alike = w.meets.alike };
      back = λ same true_side false_side.
          let (later, points_later) = w.back same false_side in
          let (early, points_early) = x.back same true_side in
          let codes : decides c a b (point y) (point z) ≡ decides c d e (point yy) (point zz) =
          ap (λ v. decides c v b (point y) (point z)) firsts ∙ ap (λ v. decides c d v (point y) (point z)) seconds ∙ ap (λ v. decides c d e (point v) (point z)) early ∙ ap (λ v. decides c d e (point yy) (point v)) later in (
            m.points,
            λ v low high. elim (cases_lt v (suc n)) [
              | inl here ↦ same_point is (subst (λ u. IsPoint h u plain place (decides c d e (point yy) (point zz))) (sym m.points) is_too) codes (omega (arith, low, here))
              | inr behind ↦ elim (cases_lt v i) [
                | inl before ↦ points_early v (omega (arith, behind)) before
                | inr last ↦ points_later v (omega (arith, last)) high
              ]
            ],
          );
    }

pub tested : {g h : Graph} {out left : ℕ} {Same : Type 0} {c : Cond} {s r : Stage} {t f n k p q i j : ℕ} → Setting g h → Meets g h out left s r → Tests g out c s t f n k → Tests h left c r p q i j
    → Tells g h out left Same s t f n k r p q i j
tested set m (tests_plain first test) (tests_plain first_too test_too) =
    let a = evaluated set m refl first first_too in
    on_told a.steps (compared a.steps.meets a.value refl a.list test test_too)
tested set m (tests_compare first second test) (tests_compare first_too second_too test_too) =
    let a = evaluated set m refl first first_too in
    let b = evaluated set a.steps.meets a.list second second_too in
    on_told a.steps (on_told b.steps (compared b.steps.meets a.value b.value b.list test test_too))
tested set m (tests_negation test) (tests_negation test_too) =
    let a = tested set m test test_too in
    record { meets = record { points = a.meets.points; variables = a.meets.variables; alike = a.meets.alike }; back = λ same t f. a.back same f t }
tested {Same = Same} set m (tests_both {m = i} first second) (tests_both first_too second_too) =
    let a = tested {Same = Same} set m first first_too in
    let b = tested {Same = Same} set a.meets second second_too in
    record {
      meets = b.meets;
      back = λ same t f.
          let (middle, later) = b.back same t f in
          let (begin, early) = a.back same middle f in (
            begin,
            λ v low high. elim (cases_lt v i) [
              | inl before ↦ early v low before
              | inr behind ↦ later v (omega (arith, behind)) high
            ],
          );
    }
tested {g = g} {h = h} {out = out} {left = left} {Same = Same} set m (tests_either {a = y} {m = i} {j = k} first second) (tests_either {a = yy} {m = ii} {j = kk} first_too second_too) =
    let a = tested {Same = Same} set m first first_too in
    let middle_meets : Meets g h out left (stage y i k) (stage yy ii kk) = record { points = a.meets.points; variables = a.meets.variables; alike = a.meets.alike } in
    let b = tested {Same = Same} {s = stage y i k} {r = stage yy ii kk} set middle_meets second second_too in
    record {
      meets = b.meets;
      back = λ same t f.
          let (middle, later) = b.back same t f in
          let (begin, early) = a.back same t middle in (
            begin,
            λ v low high. elim (cases_lt v i) [
              | inl before ↦ early v low before
              | inr behind ↦ later v (omega (arith, behind)) high
            ],
          );
    }

pub tested_perhaps : {g h : Graph} {out left : ℕ} {Same : Type 0} {c : Option Cond} {s r : Stage} {t f n k p q i j : ℕ} → Setting g h → Meets g h out left s r → TestsPerhaps g out c s t f n k → TestsPerhaps h left c r p q i j
    → Tells g h out left Same s t f n k r p q i j
tested_perhaps set m tests_always tests_always = record { meets = m; back = λ same t f. (t, λ i low high. absurd (omega (arith, low, high))) }
tested_perhaps set m (tests_once test) (tests_once test_too) = tested set m test test_too

-- ---- assignments
pub put : {g h : Graph} {out left : ℕ} {Same : Type 0} {place : Place} {l : Left} {o p : Operand} {ts us : List VarId} {s u r w : Stage} → Setting g h → Meets g h out left s r → o ≡ p → ts ≡ us
    → Puts g out place l o ts s u → Puts h left place l p us r w → Goes g h out left Same s u r w
put {o = o} {p = p} set m operands lists (puts_variable made is undone) (puts_variable {v = vv} made_too is_too undone_too) =
    let same = local_once set m made made_too in
    let a = appended m (λ q. ap (λ z. Copy z o q) same ∙ ap (λ z. Copy vv z q) operands) is is_too in
    on a (undefined a.meets lists undone undone_too)
put {o = o} {p = p} set m operands lists (puts_field {z = z} {last = last} made walk is undone) (puts_field {z = zz} {last = end} made_too walk_too is_too undone_too) =
    let a = walked set m (local_once set m made made_too) lists walk walk_too in
    let b = appended a.steps.meets (λ q. ap (λ v. Store v (struct_at last.shape) last.field o q) a.value ∙ ap (λ (v : FieldAt). Store zz (struct_at v.shape) v.field o q) a.other ∙ ap (λ v. Store zz (struct_at end.shape) end.field v q) operands) is is_too in
    on a.steps (on b (undefined b.meets a.list undone undone_too))
