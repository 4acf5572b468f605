-- A flow graph has no more points than are counted.
use Rattle.std.proofs.Common.{◌≡◌, ◌≤◌, ◌<◌, ◌+◌, ◌++◌, ℕ, zero, suc, List, [], ◌∷◌, Option, Some, Bool, true, false, cond, eqb, length, refl, sym, ap, subst, ◌∙◌, arith, inl, inr, append_assoc, append-nil, eq-eqb}
use Rattle.std.proofs.lemmas.List.Elements.{Contains-append_left, Contains-push}
use Rattle.std.proofs.lemmas.Bool.{cases_lt}
use Rattle.std.proofs.lemmas.Option.{same_Some}
use Rattle.std.proofs.lemmas.List.Folds.{list_any-from_Any}
use Rattle.std.specs.List.{list_any}
use Rattle.std.specs.Prelude.{All, Contains, slice_get}
use Rattle.mc_base.specs.declared.ids.VarId.{VarId}
use Rattle.mc_base.specs.declared.plain.Kind.{Kind}
use Rattle.mc_base.specs.declared.plain.VarInfo.{VarInfo}
use Rattle.mc_base.specs.declared.text.place.Place.{Place}
use Rattle.mc_semantics.specs.Resolved.Programs.{Call, Right, Action, Simple, Initial, Start, Stmt, Stmts, Function}
use Rattle.mc_lower_spec.specs.Graphs.{Graph, Owner, local, Stage, stage, Creates, creates, IsMade, is_made, Leaves, leaves}
use Rattle.mc_lower_spec.specs.Lowering.{Around, SetsTo, sets_operand, sets_computed, sets_allocated, Receives, receives_none, receives, Awaits, awaits_none, awaits, Calls, calls, Performs, performs_assign, performs_result, performs_add, performs_subtract, performs_call}
use Rattle.mc_lower_spec.specs.Lowering.{Declares, declares_none, declares_undefined, declares_value, Starts, starts_nothing, starts_declaring, starts_performing, Finishes, finishes_none, finishes}
use Rattle.mc_lower_spec.specs.Lowering.{Lowers, declarations, blocks, empties, simples, frees, asserts, assumes, shapes_assumed, shapes_asserted, emptiness_asserted, ifs, ifs_else, whiles, dos, fors, breaks, continues, returns_nothing, returns_value, returns_result, LowersAll, lowers_none, lowers_next}
use Rattle.mc_lower_spec.specs.Length.Lengths.{clearing, leaving, operations, all_operations, calling, acting, declaring, starting, finishing, returning, items_declared, start_declared, declared, all_declared, stretch, stretch_all, below, IsTable}
use Rattle.mc_lower_spec.proofs.Stages.{points_of, variables_of}
use Rattle.mc_lower_spec.proofs.LengthLemmas.Counting.{IsCounted, received, appended, undefined, created, evaluated, all_evaluated, tested, tested_perhaps, put, set, assigned, changed, passed, awaited}
use Rattle.mc_lower_spec.proofs.Owning as owning
use Rattle.mc_lower_spec.proofs.Owning.{IsOwned, occurrence, of_local, locals, on, none}

-- at most c points more, where c is at most 10,000
abbrev pub IsAtMost : (c p n : ℕ) → Type 0
IsAtMost c p n = c ≤ 10000 → n ≤ p + c

abbrev pub AtMost : ℕ → Stage → Stage → Type 0
AtMost c s u = IsAtMost c (points_of s) (points_of u)

pub at_most : {c p v n k : ℕ} → IsCounted c p v n k → IsAtMost c p n
at_most x = λ few. omega (arith, x.points)

-- ---- variables that are made
-- among the first k variables of the flow graph are no others of an occurrence
pub record OnlyMade (g : Graph) (out : ℕ) (made : List ℕ) (k : ℕ) : Type 0 where
  pub only : (i x : ℕ) → slice_get g.owners i ≡ Some (local out x) → i < k → Contains made x

-- no variable made before belongs to an occurrence whose `return` goes to one of these points
pub record IsFree (g : Graph) (low high k : ℕ) : Type 0 where
  pub free : (i o x : ℕ) → slice_get g.owners i ≡ Some (local o x) → i < k → low ≤ o → o < high → ⊥

pub narrow : {g : Graph} {p u v w : ℕ} → IsFree g p u v → w ≤ u → IsFree g p w v
narrow f less = record { free = λ i o x is within low high. f.free i o x is within low (omega (arith, less, high)) }

pub beyond : {g : Graph} {out p v m j u w : ℕ} → IsFree g p u v → IsOwned occurrence g out p v m j → u ≤ out → w ≤ u → IsFree g m w j
beyond {v = v} f before bound less =
    record {
      free = λ i o x is within low high. elim (cases_lt i v) [
        | inl old ↦ f.free i o x is old (omega (arith, low, before.points)) (omega (arith, less, high))
        | inr new ↦ elim (before.owned i o (local o x) is refl new within) [
          | inl own ↦ omega (arith, own, bound, less, high)
          | inr inner ↦ omega (arith, inner.1, low)
        ]
      ];
    }

pub kept : {g : Graph} {out p v n k : ℕ} {made : List ℕ} → OnlyMade g out made v → IsOwned occurrence g (suc out) p v n k → n ≤ out → OnlyMade g out made k
kept {out = out} {v = v} o more bound =
    record {
      only = λ i x is within. elim (cases_lt i v) [
        | inl old ↦ o.only i x is old
        | inr new ↦ elim (more.owned i out (local out x) is refl new within) [
          | inl own ↦ absurd (omega (arith, own))
          | inr inner ↦ absurd (omega (arith, inner.1, bound))
        ]
      ];
    }

pub no_others : {g : Graph} {out : ℕ} {made : List ℕ} {k : ℕ} → OnlyMade g out made k → OnlyMade g out (made ++ []) k
no_others {g = g} {out = out} {made = made} {k = k} m = subst (λ l. OnlyMade g out l k) (sym (append-nil made)) m

pub in_turn : {g : Graph} {out k : ℕ} (made xs ys : List ℕ) → OnlyMade g out ((made ++ xs) ++ ys) k → OnlyMade g out (made ++ (xs ++ ys)) k
in_turn {g = g} {out = out} {k = k} made xs ys m = subst (λ l. OnlyMade g out l k) (append_assoc made xs ys) m

abbrev number_in : Owner → ℕ
number_in (local out x) = x
number_in (Owner.result out) = 0
number_in (Owner.temporary j kind) = 0

pub one_only : {g : Graph} {out x : ℕ} {info : VarInfo} {made : List ℕ} {s u : Stage} {v : VarId} → Creates g (local out x) info s v u
    → OnlyMade g out made (variables_of s) → OnlyMade g out (made ++ x ∷ []) (variables_of u)
one_only {g = g} {out = out} {x = x} {made = made} (creates {k = k} owned info) m =
    record {
      only = λ i y is within. elim (cases_lt i k) [
        | inl old ↦ Contains-append_left made (x ∷ []) y (m.only i y is old)
        | inr new ↦
            let here : i ≡ k = omega (arith, new, within) in
            let there : slice_get g.owners i ≡ Some (local out x) = ap (λ z. slice_get g.owners z) here ∙ owned in
            let same : x ≡ y = ap number_in (same_Some (local out x) (local out y) (sym there ∙ is)) in
            subst (λ z. Contains (made ++ x ∷ []) z) same (Contains-push made x)
      ];
    }

-- ---- blocks that are left
made_within : {g : Graph} {owner : Owner} {v : VarId} (s : Stage) → IsMade g owner v s → (slice_get g.owners v.0 ≡ Some owner) × (v.0 < variables_of s)
made_within (stage a n k) (is_made there within) = (there, within)

none_cleared : {g : Graph} {out : ℕ} (xs made : List ℕ) (s : Stage) (vs : List VarId) → list_any (λ x. list_any (eqb x) made) xs ≡ false → OnlyMade g out made (variables_of s)
    → All (λ v. (x : ℕ) × Contains xs x × IsMade g (local out x) v s) vs → clearing (length vs) ≡ 0
none_cleared xs made s [] is m all = refl
none_cleared xs made s (v ∷ vs) is m all =
    let (x, (i, i_within, i_there), made_by) = all 0 v (omega arith) in
    let (there, within) = made_within s made_by in
    let (j, j_within, j_there) = m.only v.0 x there within in
    let inner : list_any (eqb x) made ≡ true = list_any-from_Any (eqb x) made (j, x, j_within, j_there, eq-eqb x x refl) in
    let outer : list_any (λ y. list_any (eqb y) made) xs ≡ true = list_any-from_Any (λ y. list_any (eqb y) made) xs (i, x, i_within, i_there, inner) in
    absurd (cc (is, outer))

one_cleared : (n : ℕ) → clearing n ≤ 1
one_cleared zero = omega arith
one_cleared (suc n) = omega arith

any_left : {g : Graph} {out : ℕ} {place : Place} {xs : List ℕ} {s u : Stage} (made : List ℕ) (b : Bool) → list_any (λ x. list_any (eqb x) made) xs ≡ b
    → Leaves g out place xs s u → OnlyMade g out made (variables_of s) → points_of u ≤ points_of s + cond b 1 0
any_left made true is (leaves {vs = vs} made_by undone) m = let x = undefined undone in omega (arith, x.points, one_cleared (length vs))
any_left {out = out} {xs = xs} {s = s} made false is (leaves {vs = vs} made_by undone) m =
    let zero_cleared : clearing (length vs) ≡ 0 = none_cleared xs made s vs is m made_by.only in
    let x = undefined undone in omega (arith, x.points, zero_cleared)

pub left : {g : Graph} {out : ℕ} {place : Place} {xs made : List ℕ} {s u : Stage} → Leaves g out place xs s u → OnlyMade g out made (variables_of s) → points_of u ≤ points_of s + leaving xs made
left {xs = xs} {made = made} leave m = any_left made (list_any (λ x. list_any (eqb x) made) xs) refl leave m

-- ---- parameters
pub below_has : (n x : ℕ) → x < n → Contains (below n) x
below_has zero x less = absurd (omega (arith, less))
below_has (suc n) x less =
    elim (cases_lt x n) [
      | inl old ↦ Contains-append_left (below n) (n ∷ []) x (below_has n x old)
      | inr new ↦ let same : n ≡ x = omega (arith, new, less) in subst (λ z. Contains (below n ++ n ∷ []) z) same (Contains-push (below n) n)
    ]

received_only : {g : Graph} {f : Function} {out x parameters : ℕ} {s u : Stage} {vs : List VarId} → Receives g f out x parameters s vs u
    → (i y : ℕ) → slice_get g.owners i ≡ Some (local out y) → variables_of s ≤ i → i < variables_of u → y < x + parameters
received_only receives_none = λ i y is low high. absurd (omega (arith, low, high))
received_only {g = g} {out = out} {x = x} (receives is (creates {k = k} owned info) rest) = λ i y there low high.
    elim (cases_lt k i) [
      | inl later ↦ let less = received_only rest i y there (omega (arith, later)) high in omega (arith, less)
      | inr now ↦
          let here : i ≡ k = omega (arith, low, now) in
          let first : slice_get g.owners i ≡ Some (local out x) = ap (λ z. slice_get g.owners z) here ∙ owned in
          let same : x ≡ y = ap number_in (same_Some (local out x) (local out y) (sym first ∙ there)) in
          omega (arith, same)
    ]

-- where a result is awaited, no variable of a function is made
waited : {g : Graph} {out at : ℕ} {place : Place} {kind : Option Kind} {s u : Stage} {v : Option VarId} → Awaits g at place kind s v u → IsOwned of_local g out (points_of s) (variables_of s) (points_of u) (variables_of u)
waited {s = s} awaits_none = owning.same s
waited (awaits makes is) = on (owning.made (λ o never. absurd (cc never)) makes) (locals (owning.appended is))

-- where a body begins, only the parameters are made
pub parameters_only : {g : Graph} {f : Function} {inner parameters n k high : ℕ} {s u : Stage} {vs : List VarId} → Receives g f inner 0 parameters s vs u → IsFree g (points_of s) high (variables_of s)
    → inner < high → IsOwned of_local g (suc inner) (points_of u) (variables_of u) n k → n ≤ inner → OnlyMade g inner (below parameters) k
parameters_only {inner = inner} {parameters = parameters} {s = s} {u = u} them f within more bound =
    let a = received them in
    record {
      only = λ i x is less. elim (cases_lt i (variables_of u)) [
        | inl early ↦ elim (cases_lt i (variables_of s)) [
          | inl old ↦ absurd (f.free i inner x is old (omega (arith, a.points, more.points, bound)) within)
          | inr new ↦ below_has parameters x (let low = received_only them i x is new early in omega (arith, low))
        ]
        | inr late ↦ elim (more.owned i inner (local inner x) is refl late less) [
          | inl own ↦ absurd (omega (arith, own))
          | inr there ↦ absurd (omega (arith, there.1, bound))
        ]
      ];
    }

-- ---- statements
-- at most c points more, and no other variables are made then
pub record Most (g : Graph) (out : ℕ) (xs : List ℕ) (c p n k : ℕ) : Type 0 where
  pub points : IsAtMost c p n
  pub made : OnlyMade g out xs k

abbrev pub Leads : Graph → (out : ℕ) → List ℕ → ℕ → Stage → Stage → Type 0
Leads g out made c s u = Most g out made c (points_of s) (points_of u) (variables_of u)

-- where nothing is declared
plainly : {g : Graph} {out : ℕ} {made : List ℕ} {c p v n k : ℕ} → IsAtMost c p n → IsOwned occurrence g (suc out) p v n k → n ≤ out → OnlyMade g out made v → Most g out (made ++ []) c p n k
plainly x more bound m = record { points = x; made = no_others (kept m more bound) }

-- a value that is returned
returned : {g : Graph} {out : ℕ} {place : Place} {v : VarId} {right : Right} {a n k : ℕ} {s : Stage} (table : List ℕ) → SetsTo g out place v right s (stage a n k)
    → IsAtMost (returning table (Some right)) (points_of s) n
returned {out = out} table (sets_operand value is) = at_most (set {out = out} table (sets_operand value is))
returned {out = out} table (sets_computed value is undone) = at_most (set {out = out} table (sets_computed value is undone))
returned {out = out} table (sets_allocated count is) = at_most (set {out = out} table (sets_allocated count is))

mutual
  called : {g : Graph} {at : ℕ} {place : Place} {c : Call} {s u : Stage} {ret : Option VarId} (table : List ℕ) → IsTable table g.program.functions → Calls g at place c s ret u
      → IsFree g (points_of s) (points_of u) (variables_of s) → AtMost (calling table c) s u
  called table right (calls {c = c} {f = f} {ts = ts} {os = os} {inner = inner} {k = k} is parameters values copies undone waiting body made ends) free =
      let a = received parameters in
      let b = all_evaluated values in
      let x = b.evaluated in
      let d = passed copies in
      let e = undefined undone in
      let w = awaited waiting in
      let end = owning.ended ends in
      let through = owning.all_lowered body in
      let between = on (locals (on (owning.all_evaluated {out = suc inner} values) (on (owning.passed copies) (owning.undefined undone)))) (waited waiting) in
      let own = parameters_only parameters free (omega (arith, end.0)) between through.points in
      let before = on (owning.received parameters) (on (owning.all_evaluated values) (on (owning.passed copies) (on (owning.undefined undone) (owning.awaited waiting)))) in
      let inside = beyond {u = inner} {w = inner} (narrow {w = inner} free (omega (arith, end.0))) before (omega arith) (omega arith) in
      let i = all_lowered table right (below f.parameters) body own inside (omega arith) in
      let same : length ts ≡ all_operations c.arguments = omega (arith, x.temporaries) in
      let clear : clearing (length ts) ≡ clearing (all_operations c.arguments) = ap clearing same in
      λ few.
      let entry = (right c.function f is).most (omega (arith, few)) in
      let y = i.points (omega (arith, few, entry)) in
      omega (arith, few, a.points, x.points, b.operands, d.points, e.points, w.points, y, entry, clear, end.0)

  performed : {g : Graph} {at : ℕ} {place : Place} {action : Action} {s u : Stage} (table : List ℕ) → IsTable table g.program.functions → Performs g at place action s u
      → IsFree g (points_of s) (points_of u) (variables_of s) → AtMost (acting table action) s u
  performed table right (performs_assign assigns) free = at_most (assigned table assigns)
  performed table right (performs_result inner puts undone) free =
      let b = put puts in
      let d = undefined undone in
      let a = called table right inner (narrow free (omega (arith, b.points, d.points))) in
      λ few. let x = a (omega (arith, few)) in omega (arith, x, b.points, d.points)
  performed table right (performs_add changes) free = at_most (changed changes)
  performed table right (performs_subtract changes) free = at_most (changed changes)
  performed table right (performs_call inner) free = called table right inner free

  declares_most : {g : Graph} {f : Function} {out : ℕ} {place : Place} {items : List Initial} {s u : Stage} (table : List ℕ) → IsTable table g.program.functions → (made : List ℕ)
      → Declares g f out place items s u → OnlyMade g out made (variables_of s) → IsFree g (points_of s) (points_of u) (variables_of s) → points_of u ≤ out
      → Leads g out (made ++ items_declared items) (declaring table items) s u
  declares_most table right made declares_none m free bound = record { points = λ few. omega arith; made = no_others m }
  declares_most table right made (declares_undefined {x = x} {items = items} is makes undone rest) m free bound =
      let a = created makes in
      let b = appended undone in
      let grow = owning.declared rest in
      let now = kept (one_only makes m) (owning.appended undone) (omega (arith, grow.points, bound)) in
      let d = declares_most table right (made ++ x ∷ []) rest now (beyond free (on (owning.made_local makes) (owning.appended undone)) bound (omega arith)) bound in
      record { points = λ few. let y = d.points (omega (arith, few)) in omega (arith, a.points, b.points, y); made = in_turn made (x ∷ []) (items_declared items) d.made }
  declares_most table right made (declares_value {x = x} {items = items} is makes performs rest) m free bound =
      let a = created makes in
      let grow = owning.declared rest in
      let b = performed table right performs (beyond free (owning.made_local makes) bound grow.points) in
      let now = kept (one_only makes m) (owning.performed performs) (omega (arith, grow.points, bound)) in
      let d = declares_most table right (made ++ x ∷ []) rest now (beyond free (on (owning.made_local makes) (owning.performed performs)) bound (omega arith)) bound in
      record {
        points = λ few. let y = d.points (omega (arith, few)) in let z = b (omega (arith, few)) in omega (arith, a.points, y, z);
        made = in_turn made (x ∷ []) (items_declared items) d.made;
      }

  started : {g : Graph} {f : Function} {out : ℕ} {start : Start} {s u : Stage} (table : List ℕ) → IsTable table g.program.functions → (made : List ℕ)
      → Starts g f out start s u → OnlyMade g out made (variables_of s) → IsFree g (points_of s) (points_of u) (variables_of s) → points_of u ≤ out
      → Leads g out (made ++ start_declared start) (starting table start) s u
  started table right made starts_nothing m free bound = record { points = λ few. omega arith; made = no_others m }
  started table right made (starts_declaring declares) m free bound = declares_most table right made declares m free bound
  started table right made (starts_performing performs) m free bound = plainly (performed table right performs free) (owning.performed performs) bound m

  finished : {g : Graph} {at : ℕ} {last : Option Simple} {s u : Stage} (table : List ℕ) → IsTable table g.program.functions → Finishes g at last s u
      → IsFree g (points_of s) (points_of u) (variables_of s) → AtMost (finishing table last) s u
  finished table right finishes_none free = λ few. omega arith
  finished table right (finishes performs) free = performed table right performs free

  lowered : {g : Graph} {c : Around} {a : Stmt} {s u : Stage} (table : List ℕ) → IsTable table g.program.functions → (made : List ℕ) → Lowers g c a s u → OnlyMade g c.out made (variables_of s)
      → IsFree g (points_of s) (points_of u) (variables_of s) → points_of u ≤ c.out → Leads g c.out (made ++ declared a) (stretch table made c.blocks a) s u
  lowered table right made (declarations declares) m free bound = declares_most table right made declares m free bound
  lowered table right made (blocks {c = c} body leave) m free bound =
      let after = owning.left {out = suc c.out} leave in
      let a = all_lowered table right made body m (narrow free after.points) (omega (arith, after.points, bound)) in
      let b = left leave a.made in
      record { points = λ few. let x = a.points (omega (arith, few)) in omega (arith, x, b); made = kept a.made after bound }
  lowered table right made empties m free bound = record { points = λ few. omega arith; made = no_others m }
  lowered table right made (simples performs) m free bound = plainly (performed table right performs free) (owning.performed performs) bound m
  lowered table right made (frees {e = e} {ts = ts} value is undone) m free bound =
      let x = evaluated value in
      let y = appended is in
      let z = undefined undone in
      let same : length ts ≡ operations e = omega (arith, x.temporaries) in
      let clear : clearing (length ts) ≡ clearing (operations e) = ap clearing same in
      plainly (λ few. omega (arith, x.points, y.points, z.points, clear)) (on (owning.evaluated value) (on (owning.appended is) (owning.undefined undone))) bound m
  lowered table right made (asserts test is) m free bound =
      let t = tested test in
      plainly (λ few. omega (arith, t.points)) (on (owning.tested test) (none (omega arith))) bound m
  lowered table right made (assumes test is) m free bound =
      let t = tested test in
      plainly (λ few. omega (arith, t.points)) (on (owning.tested test) (none (omega arith))) bound m
  lowered table right made (shapes_assumed made_by args is) m free bound = plainly (at_most (appended is)) (owning.appended is) bound m
  lowered table right made (shapes_asserted value args is) m free bound = plainly (at_most (appended is)) (owning.appended is) bound m
  lowered table right made (emptiness_asserted is) m free bound = plainly (at_most (appended is)) (owning.appended is) bound m
  lowered table right made (ifs {c = c} {t = t} {m = n} {k = k} test body is) m free bound =
      let x = tested test in
      let y = appended is in
      let grow = owning.lowered body in
      let before = owning.tested {out = suc c.out} test in
      let now = kept m before (omega (arith, grow.points, y.points, bound)) in
      let a = lowered table right made body now (beyond free before (omega (arith, bound)) (omega (arith, y.points))) (omega (arith, y.points, bound)) in
      record { points = λ few. let b = a.points (omega (arith, few)) in omega (arith, x.points, b, y.points); made = kept a.made (owning.appended is) bound }
  lowered table right made (ifs_else {c = c} {a = p} {b = q} {t = t} {f = f} {m = n} {k = k} {i = i} {j = j} test first second is) m free bound =
      let x = tested test in
      let y = appended is in
      let grow = owning.lowered first in
      let more = owning.lowered second in
      let before = owning.tested {out = suc c.out} test in
      let now = kept m before (omega (arith, grow.points, more.points, y.points, bound)) in
      let a = lowered table right made first now (beyond free before (omega (arith, bound)) (omega (arith, more.points, y.points))) (omega (arith, more.points, y.points, bound)) in
      let both = on (owning.tested test) grow in
      let b = lowered table right (made ++ declared p) second a.made (beyond free both bound (omega (arith, y.points))) (omega (arith, y.points, bound)) in
      record {
        points = λ few. let d = a.points (omega (arith, few)) in let e = b.points (omega (arith, few)) in omega (arith, x.points, d, e, y.points);
        made = kept (in_turn made (declared p) (declared q) b.made) (owning.appended is) bound;
      }
  lowered table right made (whiles {c = c} {t = t} {m = n} {i = i} is test body ends) m free bound =
      let w = appended is in
      let x = tested test in
      let y = appended ends in
      let grow = owning.lowered body in
      let before = on (owning.appended {out = suc c.out} is) (owning.tested test) in
      let now = kept m before (omega (arith, grow.points, y.points, bound)) in
      let a = lowered table right made body now (beyond free before (omega (arith, bound)) (omega (arith, y.points))) (omega (arith, y.points, bound)) in
      record { points = λ few. let b = a.points (omega (arith, few)) in omega (arith, w.points, x.points, b, y.points); made = kept a.made (owning.appended ends) bound }
  lowered table right made (dos {c = c} {e = e} {l = l} is body turn test ends) m free bound =
      let w = appended is in
      let r = appended turn in
      let x = tested test in
      let y = appended ends in
      let grow = owning.lowered body in
      let after = on (owning.appended {out = suc c.out} turn) (on (owning.tested test) (owning.appended ends)) in
      let before = owning.appended {out = suc c.out} is in
      let now = kept m before (omega (arith, grow.points, after.points, bound)) in
      let a = lowered table right made body now (beyond free before (omega (arith, bound)) after.points) (omega (arith, after.points, bound)) in
      record { points = λ few. let b = a.points (omega (arith, few)) in omega (arith, w.points, b, r.points, x.points, y.points); made = kept a.made after bound }
  lowered table right made (fors {c = c} {h = h} {a = part} {t = t} {p = p} {y = y} start is test body turn last ends leave) m free bound =
      let w = appended is in
      let x = tested_perhaps test in
      let r = appended turn in
      let e = appended ends in
      let grow = owning.lowered body in
      let middle = on (owning.appended {out = suc c.out} is) (owning.tested_perhaps test) in
      let turns = on (owning.appended {out = suc c.out} turn) (on (owning.finished last) (owning.appended ends)) in
      let out = owning.left {out = suc c.out} leave in
      let ends_last = owning.appended {out = suc c.out} ends in
      let b = started table right made start m (narrow free (omega (arith, middle.points, grow.points, turns.points, out.points))) (omega (arith, middle.points, grow.points, turns.points, out.points, bound)) in
      let now = kept b.made middle (omega (arith, grow.points, turns.points, out.points, bound)) in
      let before = on (owning.started start) (on (owning.appended is) (owning.tested_perhaps test)) in
      let a = lowered table right (made ++ start_declared h.start) body now (beyond free before bound (omega (arith, turns.points, out.points))) (omega (arith, turns.points, out.points, bound)) in
      let later = on before (on grow (owning.appended turn)) in
      let f = finished table right last (beyond free later bound (omega (arith, ends_last.points, out.points))) in
      let there = kept a.made turns (omega (arith, out.points, bound)) in
      let z = left leave there in
      record {
        points = λ few. let i = b.points (omega (arith, few)) in let j = a.points (omega (arith, few)) in let k = f (omega (arith, few)) in omega (arith, w.points, x.points, r.points, e.points, i, j, k, z);
        made = in_turn made (start_declared h.start) (declared part) (kept there out bound);
      }
  lowered table right made (breaks is leave) m free bound =
      let z = left leave m in
      plainly (λ few. z) (owning.left leave) bound m
  lowered table right made (continues is leave) m free bound =
      let z = left leave m in
      plainly (λ few. z) (owning.left leave) bound m
  lowered table right made returns_nothing m free bound = record { points = λ few. omega arith; made = no_others m }
  lowered table right made (returns_value made_by sets) m free bound = plainly (returned table sets) (owning.set sets) bound m
  lowered table right made (returns_result made_by inner is undone) m free bound =
      let b = appended is in
      let d = undefined undone in
      let a = called table right inner (narrow free (omega (arith, b.points, d.points))) in
      plainly (λ few. let x = a (omega (arith, few)) in omega (arith, x, b.points, d.points)) (on (owning.called inner) (on (owning.appended is) (owning.undefined undone))) bound m

  pub all_lowered : {g : Graph} {c : Around} {ss : Stmts} {s u : Stage} (table : List ℕ) → IsTable table g.program.functions → (made : List ℕ) → LowersAll g c ss s u → OnlyMade g c.out made (variables_of s)
      → IsFree g (points_of s) (points_of u) (variables_of s) → points_of u ≤ c.out → Leads g c.out (made ++ all_declared ss) (stretch_all table made c.blocks ss) s u
  all_lowered table right made lowers_none m free bound = record { points = λ few. omega arith; made = no_others m }
  all_lowered table right made (lowers_next {a = a} {more = more} first rest) m free bound =
      let grow = owning.lowered first in
      let tail = owning.all_lowered rest in
      let x = lowered table right made first m (narrow free tail.points) (omega (arith, tail.points, bound)) in
      let y = all_lowered table right (made ++ declared a) rest x.made (beyond free grow bound (omega arith)) bound in
      record { points = λ few. let i = x.points (omega (arith, few)) in let j = y.points (omega (arith, few)) in omega (arith, i, j); made = in_turn made (declared a) (all_declared more) y.made }
