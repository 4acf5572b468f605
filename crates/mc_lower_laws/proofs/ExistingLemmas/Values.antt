-- The points that compute values, test conditions and assign exist.
use Rattle.std.proofs.Common.{◌≡◌, ◌≤◌, ◌+◌, ◌++◌, ◌⊎◌, ℕ, zero, suc, pos, List, [], ◌∷◌, Option, Some, None, length, refl, sym, ap, subst, ◌∙◌, arith, inl, inr, Contains, length-append}
use Rattle.std.proofs.lemmas.Bool.{cases_eq}
use Rattle.std.proofs.lemmas.Option.{same_Some, slice_get_within}
use Rattle.std.specs.List.{AllZip}
use Rattle.std.specs.Prelude.{slice_get}
use Rattle.mc_base.specs.declared.ids.VarId.{VarId}
use Rattle.mc_base.specs.declared.plain.Kind.{Kind}
use Rattle.mc_base.specs.declared.plain.Kind.TheVariants.{Int, Ptr}
use Rattle.mc_base.specs.declared.plain.VarInfo.{VarInfo}
use Rattle.mc_base.specs.declared.text.place.Place.{Place}
use Rattle.mc_base.specs.declared.ids.PointId.{PointId}
use Rattle.mc_c_syntax.specs.declared.ast.trees.Comparison.{Comparison}
use Rattle.mc_c_syntax.specs.declared.ast.trees.Comparison.TheVariants.{Equal, Unequal, Below, AtMost, Above, AtLeast}
use Rattle.mc_flow.specs.declared.defs.shapes.Structs.{Structs}
use Rattle.mc_flow.specs.declared.instr.Operand.{Operand}
use Rattle.mc_flow.specs.declared.instr.Operand.TheVariants.{Var, Const}
use Rattle.mc_flow.specs.declared.instr.Instr.{Instr}
use Rattle.mc_flow.specs.declared.instr.Instr.TheVariants.{Undef}
use Rattle.mc_flow.specs.Valid.{field_kind}
use Rattle.mc_semantics.specs.Resolved.Programs.{FieldAt, Expr, number, input, value, minus, times, plus as add_expr, difference, Cond, plain as plain_cond, compare, negation, both, either, Local}
use Rattle.mc_lower_spec.specs.Graphs.{Graph, Owner, local, result, temporary, Role, plain, Stage, stage, point, var, Appends, appends, Undefines, undefines_none, undefines, Creates, creates, IsMade, is_made, Uses, uses_first, uses_again}
use Rattle.mc_lower_spec.specs.Values.{struct_at, Operation, an_input, a_field, a_sum, a_difference, a_product, sets, IsOfKind, Takes, takes, Walks, walks_none, walks, Evaluates, of_number, of_variable, of_operation, Computes, of_input, of_field, of_minus, of_times, of_plus, of_difference}
use Rattle.mc_lower_spec.specs.Values.{EvaluatesAll, evaluates_none, evaluates_next, decides, Compares, compares, Tests, tests_plain, tests_compare, tests_negation, tests_both, tests_either, TestsPerhaps, tests_always, tests_once}
use Rattle.mc_lower_spec.specs.Length.Lengths.{clearing, operations, all_operations, testing, testing_perhaps, loading}
use Rattle.mc_lower_laws.specs.Lowerable.Lowerable.{NamesOnly, AllNameOnly, TestsOnly, TestsOnlyPerhaps}
use Rattle.mc_lower_laws.specs.Valid.Kinds.{Here, LeadsTo, IsLeft, IsOf, AreCompared, IsCondition, IsConditionPerhaps}
use Rattle.mc_lower_laws.proofs.ExistingLemmas.Tables.{Draft, Owned, Lays, Has, In, Adds, Source, IsOf as IsFrom, Piece, kept_in, lays_both, has_before, runs_up, at_end, one_longer, adds_none, adds_one, adds_on, adds_temporary, nothing, then_on, meant, up_to}

-- ---- points
pub laying : {z : Source} (n : ℕ) (old : List Owned) (role : Role) (place : Place) (code : PointId → Instr) → Piece z n (suc n) [] old (λ g s u. Appends g role place code s u)
laying n old role place code =
    record {
      all = old;
      adds = adds_none n (suc n) old;
      laid = λ goal. record {
        begin = n;
        drafts = (record { role = role; place = place; code = code (point goal) }) ∷ [];
        size = omega arith;
        met = λ g is has lays. appends lays.0;
      };
    }

pub undefining : {z : Source} (n : ℕ) (old : List Owned) (place : Place) (vs : List VarId) → Piece z n (n + clearing (length vs)) [] old (λ g s u. Undefines g place vs s u)
undefining n old place [] = up_to (omega arith) (nothing n old (λ g goal is has. undefines_none))
undefining n old place (v ∷ vs) = up_to (omega arith) (meant (laying n old plain place (λ q. Undef (v ∷ vs) q)) (λ g s u is a. undefines a))

-- what is known of the stage where a piece begins
pub knowing : {z : Source} {n m : ℕ} {mine : List Owner} {old : List Owned} {R : Graph → Stage → Stage → Type 0} {K : Graph → Stage → Type 0}
    → ((g : Graph) (b : ℕ) → IsFrom z g → Has g old → K g (stage b n (length old))) → Piece z n m mine old R → Piece z n m mine old (λ g s u. K g s × R g s u)
knowing {n = n} {m = m} {old = old} known p =
    record {
      all = p.all;
      adds = p.adds;
      laid = λ goal.
          let l = p.laid goal in
          record {
            begin = l.begin;
            drafts = l.drafts;
            size = l.size;
            met = λ g is has lays.
                (known g l.begin is (record { owners = λ i v at. has.owners i v (p.adds.keeps i v at); infos = λ i v at. has.infos i v (p.adds.keeps i v at) }), l.met g is has lays);
          };
    }

-- ---- variables
created : {g : Graph} (goal n : ℕ) (old : List Owned) (o : Owner) (info : VarInfo) → Has g (old ++ (record { owner = o; info = info }) ∷ [])
    → Creates g o info (stage goal n (length old)) (var (length old)) (stage goal n (length (old ++ (record { owner = o; info = info }) ∷ [])))
created {g = g} goal n old o info has =
    let added : Owned = record { owner = o; info = info } in
    subst (λ k. Creates g o info (stage goal n (length old)) (var (length old)) (stage goal n k)) (sym (one_longer old added))
    (creates (has.owners (length old) added (at_end old added)) (has.infos (length old) added (at_end old added)))

pub creating : {z : Source} (n : ℕ) (old : List Owned) (o : Owner) (info : VarInfo) → (In old o → ⊥) → Piece z n n (o ∷ []) old (λ g s u. Creates g o info s (var (length old)) u)
creating n old o info new =
    record {
      all = old ++ (record { owner = o; info = info }) ∷ [];
      adds = adds_one n n old o info new;
      laid = λ goal. record { begin = goal; drafts = []; size = omega arith; met = λ g is has lays. created goal n old o info has };
    }

-- the variable of an owner that was made
pub found : {old : List Owned} {o : Owner} (i : In old o) (g : Graph) (b n : ℕ) → Has g old → IsMade g o (var i.number) (stage b n (length old))
found {old = old} {o = o} i g b n has =
    let at : Owned = record { owner = o; info = i.info } in
    is_made (has.owners i.number at i.there) (slice_get_within old i.number at i.there)

-- ---- temporaries
same_kind : (k l : Kind) → (k ≡ l) ⊎ (k ≡ l → ⊥)
same_kind Int Int = inl refl
same_kind Int Ptr = inr (λ e. cc e)
same_kind Ptr Int = inr (λ e. cc e)
same_kind Ptr Ptr = inl refl

abbrev number_in : Owner → ℕ
number_in (local out x) = x
number_in (result out) = out
number_in (temporary j kind) = j

abbrev kind_in : Owner → Kind
kind_in (local out x) = Int
kind_in (result out) = Int
kind_in (temporary j kind) = kind

is_temporary : (j : ℕ) (kind : Kind) (o : Owner) → (o ≡ temporary j kind) ⊎ (o ≡ temporary j kind → ⊥)
is_temporary j kind (local out x) = inr (λ e. cc e)
is_temporary j kind (result out) = inr (λ e. cc e)
is_temporary j kind (temporary i other) =
    elim (cases_eq i j) [
      | inl same ↦ elim (same_kind other kind) [
        | inl alike ↦ inl (ap (λ z. temporary z other) same ∙ ap (λ z. temporary j z) alike)
        | inr unlike ↦ inr (λ e. unlike (ap kind_in e))
      ]
      | inr apart ↦ inr (λ e. apart (ap number_in e))
    ]

temporary_in : (j : ℕ) (kind : Kind) (old : List Owned) → In old (temporary j kind) ⊎ (In old (temporary j kind) → ⊥)
temporary_in j kind [] = inr (λ i. let at = i.there in cc at)
temporary_in j kind (v ∷ old) =
    elim (is_temporary j kind v.owner) [
      | inl same ↦ inl (record { number = 0; info = v.info; there = ap (λ o. Some (record { owner = o; info = v.info })) same })
      | inr other ↦ elim (temporary_in j kind old) [
        | inl later ↦ inl (record { number = suc later.number; info = later.info; there = later.there })
        | inr none ↦ inr (λ i. not_there i.number i.info i.there other none)
      ]
    ]
  where
    not_there : (k : ℕ) (info : VarInfo) → slice_get (v ∷ old) k ≡ Some (record { owner = temporary j kind; info = info }) → (v.owner ≡ temporary j kind → ⊥) → (In old (temporary j kind) → ⊥) → ⊥
    not_there zero info at other none = other (ap (λ (w : Owned). w.owner) (same_Some v (record { owner = temporary j kind; info = info }) at))
    not_there (suc k) info at other none = none (record { number = k; info = info; there = at })

pub using_one : {z : Source} (n : ℕ) (old : List Owned) (j : ℕ) (kind : Kind) → (t : VarId) × Piece z n n [] old (λ g s u. Uses g j kind s t u)
using_one {z = z} n old j kind =
    elim (temporary_in j kind old) [
      | inl there ↦ (var there.number, nothing n old (λ g goal is has. uses_again (found there g goal n has)))
      | inr new ↦ (
        var (length old),
        record {
          all = old ++ (record { owner = temporary j kind; info = unnamed }) ∷ [];
          adds = adds_temporary n n old (temporary j kind) unnamed refl new;
          laid = λ goal. record { begin = goal; drafts = []; size = omega arith; met = λ g is has lays. uses_first (created goal n old (temporary j kind) unnamed has) };
        },
      )
    ]
  where
    unnamed : VarInfo
    unnamed = record { name = []; kind = kind }

pub taking : {z : Source} (n : ℕ) (old : List Owned) (place : Place) (kind : Kind) (operation : Operation) (ts : List VarId)
    → (t : VarId) × Piece z n (suc n) [] old (λ g s u. Takes g place kind operation ts s t (ts ++ t ∷ []) u)
taking {z = z} n old place kind operation ts =
    let (t, uses) = using_one {z = z} n old (length ts) kind in
    (t, then_on uses (laying n uses.all plain place (λ q. sets operation t q)) (λ g s i u is a b. takes a b))

-- ---- fields
-- fields after a variable, of which all but the last one are loaded
pub record Walked (z : Source) (n : ℕ) (old : List Owned) (place : Place) (y : VarId) (fs : List FieldAt) (ts : List VarId) (kind : Kind) : Type 0 where
  pub variable : VarId
  pub last : FieldAt
  pub of_kind : field_kind z.structs (struct_at last.shape) last.field ≡ Some kind
  pub temporaries : List VarId
  pub many : length temporaries ≡ length ts + loading (length fs)
  pub piece : Piece z n (n + loading (length fs)) [] old (λ g s u. Walks g place y fs ts s variable last temporaries u)

pub of_this_kind : {z : Source} {g : Graph} {kind : Kind} (f : FieldAt) → IsFrom z g → field_kind z.structs (struct_at f.shape) f.field ≡ Some kind → IsOfKind g f kind
of_this_kind {kind = kind} f is at = subst (λ (s : Structs). field_kind s (struct_at f.shape) f.field ≡ Some kind) (sym is.structs) at

pub walking : {z : Source} (n : ℕ) (old : List Owned) (place : Place) (y : VarId) (f : FieldAt) (fs : List FieldAt) (ts : List VarId) (from kind : Kind)
    → LeadsTo z.structs from (f ∷ fs) kind → Walked z n old place y (f ∷ fs) ts kind
walking {z = z} n old place y f [] ts from kind (pointer, (k, at, same)) =
    record {
      variable = y;
      last = f;
      of_kind = at ∙ ap (λ k. Some k) same;
      temporaries = ts;
      many = omega arith;
      piece = up_to (omega arith) (nothing n old (λ g goal is has. walks_none));
    }
walking {z = z} n old place y f (h ∷ fs) ts from kind (pointer, (k, at, rest)) =
    let (t, first) = taking {z = z} n old place k (a_field y f) ts in
    let more = walking {z = z} (suc n) first.all place t h fs (ts ++ t ∷ []) k kind rest in
    let sizes : suc n + length fs ≡ n + suc (length fs) = omega arith in
    record {
      variable = more.variable;
      last = more.last;
      of_kind = more.of_kind;
      temporaries = more.temporaries;
      many = omega (arith, more.many, one_longer ts t);
      piece = up_to sizes (then_on first more.piece (λ g s i u is a b. walks (of_this_kind f is at) a b));
    }

-- ---- expressions
-- each of these variables of an occurrence was made
pub record AreNamed (out : ℕ) (known : List ℕ) (old : List Owned) : Type 0 where
  pub has : (x : ℕ) → Contains known x → In old (local out x)

pub still_named : {out n m : ℕ} {known : List ℕ} {mine : List Owner} {old all : List Owned} → Adds n m mine old all → AreNamed out known old → AreNamed out known all
still_named a named = record { has = λ x among. kept_in a.keeps (named.has x among) }

-- the value of an expression is an operand
pub record Evaluated (z : Source) (out : ℕ) (place : Place) (n : ℕ) (old : List Owned) (e : Expr) (ts : List VarId) : Type 0 where
  pub operand : Operand
  pub temporaries : List VarId
  pub many : length temporaries ≡ length ts + operations e
  pub piece : Piece z n (n + operations e) [] old (λ g s u. Evaluates g out place e ts s operand temporaries u)

-- it has no point, or is computed by points and one more
pub data Valued (z : Source) (out : ℕ) (place : Place) (n : ℕ) (old : List Owned) (e : Expr) (ts : List VarId) : Type 0 where
  at_once : (o : Operand) → operations e ≡ 0 → ((g : Graph) (b : ℕ) → Has g old → Evaluates g out place e ts (stage b n (length old)) o ts (stage b n (length old))) → Valued z out place n old e ts
  by_points : (d : ℕ) (kind : Kind) (operation : Operation) (us : List VarId) → operations e ≡ suc d → length us ≡ length ts + d
      → Piece z n (n + d) [] old (λ g s u. Computes g out place e ts s kind operation us u) → Valued z out place n old e ts

pub operand_of : {z : Source} {out : ℕ} {place : Place} (n : ℕ) (old : List Owned) (e : Expr) (ts : List VarId) → Valued z out place n old e ts → Evaluated z out place n old e ts
operand_of n old e ts (at_once o none meets) =
    record { operand = o; temporaries = ts; many = omega (arith, none); piece = up_to (omega (arith, none)) (nothing n old (λ g goal is has. meets g goal has)) }
operand_of {z = z} {out = out} {place = place} n old e ts (by_points d kind operation us some more p) =
    let (t, takes_it) = taking {z = z} (n + d) p.all place kind operation us in
    record {
      operand = Var t;
      temporaries = us ++ t ∷ [];
      many = omega (arith, some, more, one_longer us t);
      piece = up_to (omega (arith, some)) (then_on p takes_it (λ g s i u is a b. of_operation a b));
    }

joined : {z : Source} {out : ℕ} {place : Place} (n : ℕ) (old : List Owned) (e a b : Expr) (ts : List VarId) (join : Operand → Operand → Operation) → operations e ≡ suc (operations a + operations b)
    → ((g : Graph) (o p : Operand) (us ws : List VarId) (s m u : Stage) → Evaluates g out place a ts s o us m → Evaluates g out place b us m p ws u → Computes g out place e ts s Int (join o p) ws u)
    → (x : Evaluated z out place n old a ts) → Evaluated z out place (n + operations a) x.piece.all b x.temporaries → Valued z out place n old e ts
joined n old e a b ts join some meets x y =
    let p = then_on x.piece y.piece (λ g s i u is c d. meets g x.operand y.operand x.temporaries y.temporaries s i u c d) in
    by_points (operations a + operations b) Int (join x.operand y.operand) y.temporaries some (omega (arith, x.many, y.many)) (up_to (omega arith) p)

left_value : {z : Source} {out : ℕ} {place : Place} (h : Here) (kind : Kind) (n : ℕ) (old : List Owned) (x : ℕ) (fs : List FieldAt) (ts : List VarId) → h.structs ≡ z.structs → In old (local out x)
    → IsLeft h kind (record { variable = x; fields = fs }) → Valued z out place n old (value (record { variable = x; fields = fs })) ts
left_value h kind n old x [] ts same made of = at_once (Var (var made.number)) refl (λ g b has. of_variable (found made g b n has))
left_value {z = z} {out = out} {place = place} h kind n old x (f ∷ fs) ts same made (from, is, leads) =
    let w = walking {z = z} n old place (var made.number) f fs ts from kind (subst (λ (s : Structs). LeadsTo s from (f ∷ fs) kind) same leads) in
    by_points (length fs) kind (a_field w.variable w.last) w.temporaries refl w.many
    (meant (knowing {K = λ g s. IsMade g (local out x) (var made.number) s} (λ g b is has. found made g b n has) w.piece) (λ g s u is (a, b). of_field a b (of_this_kind w.last is w.of_kind)))

pub value_of : {z : Source} {out : ℕ} {place : Place} (h : Here) (known : List ℕ) (kind : Kind) (n : ℕ) (old : List Owned) (e : Expr) (ts : List VarId) → h.structs ≡ z.structs → AreNamed out known old → NamesOnly known e
    → IsOf h kind e → Valued z out place n old e ts
value_of h known kind n old (number k) ts same named names of = at_once (Const (pos k)) refl (λ g b has. of_number)
value_of h known kind n old input ts same named names of = by_points 0 Int an_input ts refl (omega arith) (up_to (omega arith) (nothing n old (λ g goal is has. of_input)))
value_of h known kind n old (value l) ts same named names of = left_value h kind n old l.variable l.fields ts same (named.has l.variable names) of
value_of {z = z} {out = out} {place = place} h known kind n old (minus e) ts same named names of =
    let x = operand_of n old e ts (value_of {z = z} {out = out} {place = place} h known Int n old e ts same named names of.1) in
    by_points (operations e) Int (a_difference (Const (pos 0)) x.operand) x.temporaries refl x.many (meant x.piece (λ g s u is a. of_minus a))
value_of {z = z} {out = out} {place = place} h known kind n old (times a b) ts same named names of =
    let x = operand_of n old a ts (value_of {z = z} {out = out} {place = place} h known Int n old a ts same named names.0 of.1) in
    let y = operand_of (n + operations a) x.piece.all b x.temporaries (value_of {z = z} {out = out} {place = place} h known Int (n + operations a) x.piece.all b x.temporaries same (still_named x.piece.adds named) names.1 of.2) in
    joined n old (times a b) a b ts a_product refl (λ g o p us ws s m u c d. of_times c d) x y
value_of {z = z} {out = out} {place = place} h known kind n old (add_expr a b) ts same named names of =
    let x = operand_of n old a ts (value_of {z = z} {out = out} {place = place} h known Int n old a ts same named names.0 of.1) in
    let y = operand_of (n + operations a) x.piece.all b x.temporaries (value_of {z = z} {out = out} {place = place} h known Int (n + operations a) x.piece.all b x.temporaries same (still_named x.piece.adds named) names.1 of.2) in
    joined n old (add_expr a b) a b ts a_sum refl (λ g o p us ws s m u c d. of_plus c d) x y
value_of {z = z} {out = out} {place = place} h known kind n old (difference a b) ts same named names of =
    let x = operand_of n old a ts (value_of {z = z} {out = out} {place = place} h known Int n old a ts same named names.0 of.1) in
    let y = operand_of (n + operations a) x.piece.all b x.temporaries (value_of {z = z} {out = out} {place = place} h known Int (n + operations a) x.piece.all b x.temporaries same (still_named x.piece.adds named) names.1 of.2) in
    joined n old (difference a b) a b ts a_difference refl (λ g o p us ws s m u c d. of_difference c d) x y

pub evaluating : {z : Source} {out : ℕ} {place : Place} (h : Here) (known : List ℕ) (kind : Kind) (n : ℕ) (old : List Owned) (e : Expr) (ts : List VarId) → h.structs ≡ z.structs → AreNamed out known old → NamesOnly known e
    → IsOf h kind e → Evaluated z out place n old e ts
evaluating h known kind n old e ts same named names of = operand_of n old e ts (value_of h known kind n old e ts same named names of)

-- several expressions, one for each variable that they are for
pub record AllEvaluated (z : Source) (out : ℕ) (place : Place) (n : ℕ) (old : List Owned) (es : List Expr) (ts : List VarId) : Type 0 where
  pub operands : List Operand
  pub temporaries : List VarId
  pub as_many : length operands ≡ length es
  pub many : length temporaries ≡ length ts + all_operations es
  pub piece : Piece z n (n + all_operations es) [] old (λ g s u. EvaluatesAll g out place es ts s operands temporaries u)

pub evaluating_all : {z : Source} {out : ℕ} {place : Place} (h : Here) (known : List ℕ) (ls : List Local) (n : ℕ) (old : List Owned) (es : List Expr) (ts : List VarId) → h.structs ≡ z.structs → AreNamed out known old
    → AllNameOnly known es → AllZip (λ e l. IsOf h l.kind e) es ls → AllEvaluated z out place n old es ts
evaluating_all h known ls n old [] ts same named names of =
    record { operands = []; temporaries = ts; as_many = refl; many = omega arith; piece = up_to (omega arith) (nothing n old (λ g goal is has. evaluates_none)) }
evaluating_all h known [] n old (e ∷ es) ts same named names of = absurd of
evaluating_all {z = z} {out = out} {place = place} h known (l ∷ ls) n old (e ∷ es) ts same named names of =
    let x = evaluating {z = z} {out = out} {place = place} h known l.kind n old e ts same named names.0 of.0 in
    let y = evaluating_all {z = z} {out = out} {place = place} h known ls (n + operations e) x.piece.all es x.temporaries same (still_named x.piece.adds named) names.1 of.1 in
    record {
      operands = x.operand ∷ y.operands;
      temporaries = y.temporaries;
      as_many = ap suc y.as_many;
      many = omega (arith, x.many, y.many);
      piece = up_to (omega arith) (then_on x.piece y.piece (λ g s i u is a b. evaluates_next a b));
    }

-- ---- conditions
-- with the points from n to m, this leads from a stage to two points
pub record Forked (z : Source) (n m : ℕ) (old all : List Owned) (R : Graph → Stage → (t f points variables : ℕ) → Type 0) (t f : ℕ) : Type 0 where
  pub begin : ℕ
  pub drafts : List Draft
  pub size : n + length drafts ≡ m
  pub met : (g : Graph) → IsFrom z g → Has g all → Lays g n drafts → R g (stage begin n (length old)) t f m (length all)

pub record Fork (z : Source) (n m : ℕ) (old : List Owned) (R : Graph → Stage → (t f points variables : ℕ) → Type 0) : Type 0 where
  pub all : List Owned
  pub adds : Adds n m [] old all
  pub laid : (t f : ℕ) → Forked z n m old all R t f

comparing_with : {z : Source} (n : ℕ) (old : List Owned) (place : Place) (c : Comparison) (a b : Operand) (ts : List VarId)
    → Fork z n (n + suc (clearing (length ts) + clearing (length ts))) old (λ g s t f p v. Compares g place c a b ts s t f p v)
comparing_with n old place c a b [] =
    let one : suc n ≡ n + 1 = omega arith in
    record {
      all = old;
      adds = adds_none n (n + 1) old;
      laid = λ t f. record {
        begin = n;
        drafts = (record { role = plain; place = place; code = decides c a b (point t) (point f) }) ∷ [];
        size = refl;
        met = λ g is has lays. subst (λ m. Compares g place c a b [] (stage n n (length old)) t f m (length old)) one (compares lays.0 undefines_none undefines_none);
      };
    }
comparing_with n old place c a b (v ∷ vs) =
    let three : suc (suc (suc n)) ≡ n + 3 = omega arith in
    record {
      all = old;
      adds = adds_none n (n + 3) old;
      laid = λ t f. record {
        begin = n;
        drafts =
            (record { role = plain; place = place; code = decides c a b (point (suc n)) (point (suc (suc n))) })
            ∷ (record { role = plain; place = place; code = Undef (v ∷ vs) (point t) })
            ∷ (record { role = plain; place = place; code = Undef (v ∷ vs) (point f) }) ∷ [];
        size = refl;
        met = λ g is has lays.
            subst (λ m. Compares g place c a b (v ∷ vs) (stage n n (length old)) t f m (length old)) three
            (compares lays.0 (undefines (appends lays.1.0)) (undefines (appends lays.1.1.0)));
      };
    }

pub forks_up : {z : Source} {n m : ℕ} {old : List Owned} {R : Graph → Stage → (t f points variables : ℕ) → Type 0} → Fork z n m old R → n ≤ m
forks_up {n = n} {m = m} p = let l = p.laid 0 0 in let size = l.size in omega (arith, size)

pub fork_to : {z : Source} {n m l : ℕ} {old : List Owned} {R : Graph → Stage → (t f points variables : ℕ) → Type 0} → m ≡ l → Fork z n m old R → Fork z n l old R
fork_to {z = z} {n = n} {old = old} {R = R} same a = subst (λ m. Fork z n m old R) same a

fork_meant : {z : Source} {n m : ℕ} {old : List Owned} {R S : Graph → Stage → (t f points variables : ℕ) → Type 0} → Fork z n m old R
    → ((g : Graph) (s : Stage) (t f p v : ℕ) → R g s t f p v → S g s t f p v) → Fork z n m old S
fork_meant {n = n} {m = m} {old = old} a meets =
    record {
      all = a.all;
      adds = a.adds;
      laid = λ t f.
          let l = a.laid t f in
          record { begin = l.begin; drafts = l.drafts; size = l.size; met = λ g is has lays. meets g (stage l.begin n (length old)) t f m (length a.all) (l.met g is has lays) };
    }

-- a fork after a piece
fork_after : {z : Source} {n m l : ℕ} {old : List Owned} {R : Graph → Stage → Stage → Type 0} {S T : Graph → Stage → (t f points variables : ℕ) → Type 0} (a : Piece z n m [] old R) → Fork z m l a.all S
    → ((g : Graph) (s i : Stage) (t f p v : ℕ) → R g s i → S g i t f p v → T g s t f p v) → Fork z n l old T
fork_after {n = n} {m = m} {l = l} {old = old} a b meets =
    record {
      all = b.all;
      adds = adds_on (runs_up a) (forks_up b) a.adds b.adds;
      laid = λ t f.
          let second = b.laid t f in
          let first = a.laid second.begin in
          record {
            begin = first.begin;
            drafts = first.drafts ++ second.drafts;
            size = omega (arith, first.size, second.size, length-append first.drafts second.drafts);
            met = λ g is has lays.
                let parts = lays_both g n m first.drafts second.drafts first.size lays in
                meets g (stage first.begin n (length old)) (stage second.begin m (length a.all)) t f l (length b.all) (first.met g is (has_before b.adds has) parts.0) (second.met g is has parts.1);
          };
    }

-- a condition after another, where that is true, or where it is false
test_both : {z : Source} {out n m l : ℕ} {old : List Owned} {c d : Cond} (a : Fork z n m old (λ g s t f p v. Tests g out c s t f p v)) → Fork z m l a.all (λ g s t f p v. Tests g out d s t f p v)
    → Fork z n l old (λ g s t f p v. Tests g out (both c d) s t f p v)
test_both {n = n} {m = m} {l = l} {old = old} a b =
    record {
      all = b.all;
      adds = adds_on (forks_up a) (forks_up b) a.adds b.adds;
      laid = λ t f.
          let second = b.laid t f in
          let first = a.laid second.begin f in
          record {
            begin = first.begin;
            drafts = first.drafts ++ second.drafts;
            size = omega (arith, first.size, second.size, length-append first.drafts second.drafts);
            met = λ g is has lays.
                let parts = lays_both g n m first.drafts second.drafts first.size lays in
                tests_both (first.met g is (has_before b.adds has) parts.0) (second.met g is has parts.1);
          };
    }

test_either : {z : Source} {out n m l : ℕ} {old : List Owned} {c d : Cond} (a : Fork z n m old (λ g s t f p v. Tests g out c s t f p v)) → Fork z m l a.all (λ g s t f p v. Tests g out d s t f p v)
    → Fork z n l old (λ g s t f p v. Tests g out (either c d) s t f p v)
test_either {n = n} {m = m} {l = l} {old = old} a b =
    record {
      all = b.all;
      adds = adds_on (forks_up a) (forks_up b) a.adds b.adds;
      laid = λ t f.
          let second = b.laid t f in
          let first = a.laid t second.begin in
          record {
            begin = first.begin;
            drafts = first.drafts ++ second.drafts;
            size = omega (arith, first.size, second.size, length-append first.drafts second.drafts);
            met = λ g is has lays.
                let parts = lays_both g n m first.drafts second.drafts first.size lays in
                tests_either (first.met g is (has_before b.adds has) parts.0) (second.met g is has parts.1);
          };
    }

-- the kind of what is compared
compared_kind : (h : Here) (c : Comparison) (a b : Expr) → AreCompared h c a b → (kind : Kind) × IsOf h kind a × IsOf h kind b
compared_kind h Equal a b of = of
compared_kind h Unequal a b of = of
compared_kind h Below a b of = (Int, of.0, of.1)
compared_kind h AtMost a b of = (Int, of.0, of.1)
compared_kind h Above a b of = (Int, of.0, of.1)
compared_kind h AtLeast a b of = (Int, of.0, of.1)

pub testing_of : {z : Source} {out : ℕ} (h : Here) (known : List ℕ) (n : ℕ) (old : List Owned) (c : Cond) → h.structs ≡ z.structs → AreNamed out known old → TestsOnly known c → IsCondition h c
    → Fork z n (n + testing c) old (λ g s t f p v. Tests g out c s t f p v)
testing_of {z = z} {out = out} h known n old (plain_cond place e) same named names (kind, of) =
    let x = evaluating {z = z} {out = out} {place = place} h known kind n old e [] same named names of in
    let many : length x.temporaries ≡ operations e = omega (arith, x.many) in
    let clear : clearing (length x.temporaries) ≡ clearing (operations e) = ap clearing many in
    let test = comparing_with {z = z} (n + operations e) x.piece.all place Unequal x.operand (Const (pos 0)) x.temporaries in
    fork_to (omega (arith, clear)) (fork_after x.piece test (λ g s i t f p v a b. tests_plain a b))
testing_of {z = z} {out = out} h known n old (compare place c a b) same named names of =
    let (kind, first, second) = compared_kind h c a b of in
    let x = evaluating {z = z} {out = out} {place = place} h known kind n old a [] same named names.0 first in
    let y = evaluating {z = z} {out = out} {place = place} h known kind (n + operations a) x.piece.all b x.temporaries same (still_named x.piece.adds named) names.1 second in
    let many : length y.temporaries ≡ operations a + operations b = omega (arith, x.many, y.many) in
    let clear : clearing (length y.temporaries) ≡ clearing (operations a + operations b) = ap clearing many in
    let pieces : Piece z n ((n + operations a) + operations b) [] old (λ g s u. (i : Stage) × Evaluates g out place a [] s x.operand x.temporaries i × Evaluates g out place b x.temporaries i y.operand y.temporaries u) =
    then_on x.piece y.piece (λ g s i u is e d. (i, e, d)) in
    let test = comparing_with {z = z} ((n + operations a) + operations b) pieces.all place c x.operand y.operand y.temporaries in
    fork_to (omega (arith, clear)) (fork_after pieces test (λ g s i t f p v (j, e, d) k. tests_compare e d k))
testing_of {z = z} {out = out} h known n old (negation c) same named names of =
    let x = testing_of {z = z} {out = out} h known n old c same named names of in
    record {
      all = x.all;
      adds = x.adds;
      laid = λ t f. let l = x.laid f t in record { begin = l.begin; drafts = l.drafts; size = l.size; met = λ g is has lays. tests_negation (l.met g is has lays) };
    }
testing_of {z = z} {out = out} h known n old (both c d) same named names of =
    let x = testing_of {z = z} {out = out} h known n old c same named names.0 of.0 in
    let y = testing_of {z = z} {out = out} h known (n + testing c) x.all d same (still_named x.adds named) names.1 of.1 in
    fork_to (omega arith) (test_both x y)
testing_of {z = z} {out = out} h known n old (either c d) same named names of =
    let x = testing_of {z = z} {out = out} h known n old c same named names.0 of.0 in
    let y = testing_of {z = z} {out = out} h known (n + testing c) x.all d same (still_named x.adds named) names.1 of.1 in
    fork_to (omega arith) (test_either x y)

pub testing_maybe : {z : Source} {out : ℕ} (h : Here) (known : List ℕ) (n : ℕ) (old : List Owned) (c : Option Cond) → h.structs ≡ z.structs → AreNamed out known old → TestsOnlyPerhaps known c → IsConditionPerhaps h c
    → Fork z n (n + testing_perhaps c) old (λ g s t f p v. TestsPerhaps g out c s t f p v)
testing_maybe h known n old None same named names of =
    fork_to (omega arith)
    (record {
      all = old;
      adds = adds_none n n old;
      laid = λ t f. record { begin = t; drafts = []; size = omega arith; met = λ g is has lays. tests_always };
    })
testing_maybe h known n old (Some c) same named names of = fork_meant (testing_of h known n old c same named names of) (λ g s t f p v a. tests_once a)
