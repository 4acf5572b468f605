-- Calls, statements and programs: each point of a flow graph names what is there and of its kind.
use Rattle.std.proofs.Common.{◌≡◌, ◌<◌, ◌≤◌, ◌==◌, ◌⊎◌, ℕ, zero, suc, Bool, true, false, List, [], ◌∷◌, Option, Some, None, refl, sym, ap, ◌∙◌, subst, length, take, drop, arith, inl, inr}
use Rattle.std.proofs.lemmas.Bool.Decides.{eqb_tells}
use Rattle.std.proofs.lemmas.List.Elements.{All-weaker}
use Rattle.std.proofs.lemmas.Option.{same_Some, slice_get_within}
use Rattle.std.specs.List.{AllZip}
use Rattle.std.specs.Prelude.{slice_get}
use Rattle.mc_base.specs.declared.ids.PointId.{PointId}
use Rattle.mc_base.specs.declared.ids.PredId.{PredId}
use Rattle.mc_base.specs.declared.ids.VarId.{VarId}
use Rattle.mc_base.specs.declared.plain.Kind.{Kind}
use Rattle.mc_base.specs.declared.plain.Kind.TheVariants.{Int, Ptr}
use Rattle.mc_base.specs.declared.plain.VarInfo.{VarInfo}
use Rattle.mc_base.specs.declared.text.place.Place.{Place}
use Rattle.mc_flow.specs.declared.instr.Instr.{Instr}
use Rattle.mc_flow.specs.declared.instr.Operand.{Operand}
use Rattle.mc_flow.specs.Valid.{IsOperand, FitsPredicate}
use Rattle.mc_semantics.specs.Resolved.Programs.{Call, Action, Simple, Initial, Argument, Start, Stmt, Stmts, Local, Function}
use Rattle.mc_lower_spec.specs.Graphs.{Graph, Owner, local, result, temporary, Role, Stage, stage, Appends, appends, Creates, creates, IsMade, is_made, AreMade, Leaves, leaves}
use Rattle.mc_lower_spec.specs.Lowering.{Around, IsArgument as IsArgumentOf, is_variable, is_constant, AreArguments as AreArgumentsOf, are_none, are_arguments}
use Rattle.mc_lower_spec.specs.Lowering.{Receives, receives_none, receives, Passes, passes_none, passes, Awaits, awaits_none, awaits, Calls, calls, Performs, performs_assign, performs_result, performs_add, performs_subtract, performs_call}
use Rattle.mc_lower_spec.specs.Lowering.{Declares, declares_none, declares_undefined, declares_value, Starts, starts_nothing, starts_declaring, starts_performing, Finishes, finishes_none, finishes}
use Rattle.mc_lower_spec.specs.Lowering.{Lowers, declarations, blocks, empties, simples, frees, asserts, assumes, shapes_assumed, shapes_asserted, emptiness_asserted, ifs, ifs_else, whiles, dos, fors, breaks, continues, returns_nothing, returns_value, returns_result, LowersAll, lowers_none, lowers_next}
use Rattle.mc_lower_spec.specs.Lowering.{Answers, answers_none, answers, Falls, falls_in_main, falls, Makes, makes}
use Rattle.mc_lower_spec.proofs.Growing as grown
use Rattle.mc_lower_laws.specs.Valid.Kinds.{IsArgument, AreArguments, IsCall, IsAction, AreDeclared, IsStart, IsLast, IsOf, IsOfKinds, AreOfKinds}
use Rattle.mc_lower_spec.proofs.Stages.{points_of, variables_of}
use Rattle.mc_lower_laws.proofs.ValidLemmas.Kinded.{here, AllFit, both_fit, none_fit, one_fits, appended, AreInside, none_inside, one_inside, Functions, IsOfKind, Suits, Knows, IsValueOf, Stays, StaysTo, AreOperands}
use Rattle.mc_lower_laws.proofs.ValidLemmas.Kinded.{created, local_kind, result_kind, of_var, of_constant, joined, point_stays, undefined_stays, appended_variables, evaluated, all_evaluated, tested, tested_perhaps, put, set, assigned, changed, zero_of}

-- what the whole flow graph and program are
pub record Whole (g : Graph) : Type 0 where
  pub lengths : length g.owners ≡ length g.flow.vars
  pub functions : (n : ℕ) (f : Function) → slice_get g.program.functions n ≡ Some f → AreOfKinds (here g f) f.body

-- ---- one occurrence of a function more
abbrev chosen : Bool → Option Function → Option Function → Option Function
chosen true a b = a
chosen false a b = b

abbrev adding : Functions → ℕ → Function → Functions
adding F inner f = λ i. chosen (i == inner) (Some f) (F i)

added_here : (F : Functions) (inner : ℕ) (f : Function) → adding F inner f inner ≡ Some f
added_here F inner f = elim (eqb_tells inner inner) [
  | inl is ↦ ap (λ b. chosen b (Some f) (F inner)) is.0
  | inr other ↦ absurd (other.1 refl)
]

added_other : (F : Functions) (inner : ℕ) (f : Function) (i : ℕ) (h : Function) → (i ≡ inner → ⊥) → F i ≡ Some h → adding F inner f i ≡ Some h
added_other F inner f i h apart known = elim (eqb_tells i inner) [
  | inl is ↦ absurd (apart is.1)
  | inr other ↦ ap (λ b. chosen b (Some f) (F i)) other.0 ∙ known
]

added_from : (F : Functions) (inner : ℕ) (f : Function) (i : ℕ) (h : Function) → adding F inner f i ≡ Some h → (i ≡ inner) ⊎ (F i ≡ Some h)
added_from F inner f i h known = elim (eqb_tells i inner) [
  | inl is ↦ inl is.1
  | inr other ↦ inr (sym (ap (λ b. chosen b (Some f) (F i)) other.0) ∙ known)
]

-- ---- what is known after some points
pub record Kept (g : Graph) (F : Functions) (s u : Stage) : Type 0 where
  pub functions : Functions
  pub keeps : (i : ℕ) (f : Function) → F i ≡ Some f → functions i ≡ Some f
  pub adds : (i : ℕ) (f : Function) → functions i ≡ Some f → (F i ≡ Some f) ⊎ (i < points_of u)
  pub knows : Knows g functions (variables_of u)
  pub fit : AllFit g (points_of s) (points_of u)

stayed : {g : Graph} {F : Functions} {s u : Stage} {ts : List VarId} → Stays g F s ts u → Kept g F s u
stayed {F = F} is = record { functions = F; keeps = λ i f known. known; adds = λ i f known. inl known; knows = is.knows; fit = is.fit }

stayed_to : {g : Graph} {F : Functions} {s : Stage} {b n m k : ℕ} → StaysTo g F s n k → AllFit g n m → Kept g F s (stage b m k)
stayed_to {F = F} is more = record { functions = F; keeps = λ i f known. known; adds = λ i f known. inl known; knows = is.knows; fit = both_fit is.fit more }

kept_from : {g : Graph} {F : Functions} {s u : Stage} {a n k : ℕ} → StaysTo g F s n k → Kept g F (stage a n k) u → Kept g F s u
kept_from first second = record { functions = second.functions; keeps = second.keeps; adds = second.adds; knows = second.knows; fit = both_fit first.fit second.fit }

elsewhere : {g : Graph} {F : Functions} {s : Stage} {a b n k : ℕ} → Kept g F s (stage a n k) → Kept g F s (stage b n k)
elsewhere is = record { functions = is.functions; keeps = is.keeps; adds = is.adds; knows = is.knows; fit = is.fit }

later : {g : Graph} {F : Functions} {s r u : Stage} → Kept g F r u → AllFit g (points_of s) (points_of r) → Kept g F s u
later is before = record { functions = is.functions; keeps = is.keeps; adds = is.adds; knows = is.knows; fit = both_fit before is.fit }

kept_then : {g : Graph} {F : Functions} {s m u : Stage} (first : Kept g F s m) → Kept g first.functions m u → points_of m ≤ points_of u → Kept g F s u
kept_then first second le =
    record {
      functions = second.functions;
      keeps = λ i f known. second.keeps i f (first.keeps i f known);
      adds = λ i f known. elim (second.adds i f known) [
        | inl before ↦ elim (first.adds i f before) [
          | inl old ↦ inl old
          | inr lt ↦ inr (omega arith)
        ]
        | inr lt ↦ inr lt
      ];
      knows = second.knows;
      fit = both_fit first.fit second.fit;
    }

-- the occurrences that are known have their ends before here, or are around this one
record Apart (F : Functions) (n out : ℕ) : Type 0 where
  is : (i : ℕ) (f : Function) → F i ≡ Some f → (i < n) ⊎ (out ≤ i)

apart_later : {F : Functions} {n m out : ℕ} → n ≤ m → Apart F n out → Apart F m out
apart_later le apart =
    record {
      is = λ i f known. elim (apart.is i f known) [
        | inl lt ↦ inl (omega arith)
        | inr around ↦ inr around
      ];
    }

apart_kept : {g : Graph} {F : Functions} {s u : Stage} {out : ℕ} (kept : Kept g F s u) → points_of s ≤ points_of u → Apart F (points_of s) out → Apart kept.functions (points_of u) out
apart_kept kept le apart =
    record {
      is = λ i f known. elim (kept.adds i f known) [
        | inl old ↦ elim (apart.is i f old) [
          | inl lt ↦ inl (omega arith)
          | inr around ↦ inr around
        ]
        | inr lt ↦ inl lt
      ];
    }

abbrev Extends : Functions → Functions → Type 0
Extends F G = (i : ℕ) (f : Function) → F i ≡ Some f → G i ≡ Some f

suits_extended : (g : Graph) (F G : Functions) → Extends F G → (o : Owner) (v : ℕ) → Suits g F o v → Suits g G o v
suits_extended g F G more (local i x) v is = record { function = is.function; known = more i is.function is.known; info = is.info; there = is.there; kind = is.kind }
suits_extended g F G more (result i) v is = record { function = is.function; known = more i is.function is.known; result = is.result; there = is.there; kind = is.kind }
suits_extended g F G more (temporary j kind) v is = is

extended : {g : Graph} {F : Functions} {k : ℕ} (G : Functions) → Extends F G → Knows g F k → Knows g G k
extended {g = g} {F = F} G more knows = record { each = λ v o lt there. suits_extended g F G more o v (knows.each v o lt there) }

-- ---- variables that are made and left
made_within : {g : Graph} {out x : ℕ} {s : Stage} {v : VarId} → IsMade g (local out x) v s → v.0 < length g.owners
made_within {g = g} (is_made {v = v} there lt) = slice_get_within g.owners v.0 _ there

made_inside : {g : Graph} {out : ℕ} {Meant : ℕ → Type 0} {s : Stage} {vs : List VarId} → Whole g → AreMade g out Meant s vs → AreInside g vs
made_inside {g = g} {out = out} {Meant = Meant} {s = s} {vs = vs} whole made =
    record {
      all = All-weaker (λ v. (x : ℕ) × Meant x × IsMade g (local out x) v s) (λ v. v.0 < length g.flow.vars)
          (λ v is. let lt : v.0 < length g.owners = made_within is.2 in let same = whole.lengths in omega arith) vs made.only;
    }

left : {g : Graph} {F : Functions} {out : ℕ} {place : Place} {xs : List ℕ} {s u : Stage} → Whole g → Leaves g out place xs s u → Knows g F (variables_of s) → Stays g F s [] u
left whole (leaves made undone) knows = undefined_stays undone (made_inside whole made) knows

created_points : {g : Graph} {owner : Owner} {info : VarInfo} {s u : Stage} {v : VarId} {m : ℕ} → Creates g owner info s v u → AllFit g (points_of u) m → AllFit g (points_of s) m
created_points (creates owned is) fit = fit

created_grows : {g : Graph} {owner : Owner} {info : VarInfo} {s u : Stage} {v : VarId} → Creates g owner info s v u → grown.Grows s u
created_grows (creates owned is) = record { points = omega arith; variables = omega arith }

-- ---- parts of calls
abbrev AreVariables : Graph → List VarId → List Local → Type 0
AreVariables g vs ls = AllZip (λ v l. IsOfKind g l.kind v) vs ls

drop_step : (xs : List Local) (x : ℕ) (l : Local) → slice_get xs x ≡ Some l → drop x xs ≡ l ∷ drop (suc x) xs
drop_step [] x l is = absurd (cc is)
drop_step (y ∷ ys) zero l is = ap (λ a. a ∷ ys) (same_Some y l is)
drop_step (y ∷ ys) (suc x) l is = drop_step ys x l is

record Received (g : Graph) (F : Functions) (u : Stage) (vs : List VarId) (ls : List Local) : Type 0 where
  knows : Knows g F (variables_of u)
  variables : AreVariables g vs ls

received : {g : Graph} {F : Functions} {f : Function} {out x parameters : ℕ} {s u : Stage} {vs : List VarId} → Receives g f out x parameters s vs u → F out ≡ Some f → Knows g F (variables_of s)
    → Received g F u vs (take parameters (drop x f.locals))
received receives_none known knows = record { knows = knows; variables = tt }
received {g = g} {f = f} {x = x} (receives {more = more} {l = l} {v = v} {vs = vs} there creating rest) known knows =
    let one = created creating (λ kind. record { function = f; known = known; info = l; there = there; kind = kind }) knows in
    let two = received rest known one.0 in
    record { knows = two.knows; variables = subst (λ ls. AreVariables g (v ∷ vs) (take (suc more) ls)) (sym (drop_step f.locals x l there)) (one.1, two.variables) }

received_points : {g : Graph} {f : Function} {out x parameters : ℕ} {s u : Stage} {vs : List VarId} {m : ℕ} → Receives g f out x parameters s vs u → AllFit g (points_of u) m → AllFit g (points_of s) m
received_points receives_none fit = fit
received_points (receives there creating rest) fit = created_points creating (received_points rest fit)

passed : {g : Graph} {F : Functions} {place : Place} {vs : List VarId} {os : List Operand} {s u : Stage} (ls : List Local) → Passes g place vs os s u → AreVariables g vs ls → AreOperands g os ls
    → Knows g F (variables_of s) → Stays g F s [] u
passed ls passes_none variables operands knows = record { fit = none_fit; knows = knows; inside = none_inside }
passed [] (passes is rest) variables operands knows = absurd variables
passed (l ∷ ls) (passes is rest) variables operands knows =
    let one = point_stays is (λ q. (l.kind, variables.0.is, operands.0.is)) none_inside knows in
    joined one (passed ls rest variables.1 operands.1 one.knows)

-- the result is of its kind
abbrev Returns : Graph → Option Kind → Option VarId → Type 0
Returns g kind ret = (v : VarId) (k : Kind) → ret ≡ Some v → kind ≡ Some k → IsOfKind g k v

record Awaited (g : Graph) (F : Functions) (s u : Stage) (kind : Option Kind) (ret : Option VarId) : Type 0 where
  stays : Stays g F s [] u
  returns : Returns g kind ret

awaited : {g : Graph} {F : Functions} {f : Function} {out : ℕ} {place : Place} {kind : Option Kind} {s u : Stage} {ret : Option VarId} → F out ≡ Some f → f.result ≡ kind → Awaits g out place kind s ret u
    → Knows g F (variables_of s) → Awaited g F s u kind ret
awaited known is awaits_none knows = record { stays = record { fit = none_fit; knows = knows; inside = none_inside }; returns = λ v k there. absurd (cc there) }
awaited {g = g} {f = f} known is (awaits {kind = kind} {v = v} creating undone) knows =
    let one = created creating (λ it. record { function = f; known = known; result = kind; there = is; kind = it }) knows in
    let two = point_stays undone (λ q. (one_inside one.1).all) none_inside one.0 in
    record {
      stays = record { fit = created_points creating two.fit; knows = two.knows; inside = none_inside };
      returns = λ x k there same. subst (λ i. IsOfKind g k i) (same_Some v x there) (subst (λ i. IsOfKind g i v) (same_Some kind k same) one.1);
    }

-- ---- shapes
argument_fits : {g : Graph} {F : Functions} {f : Function} {out : ℕ} {s : Stage} {a : Argument} {o : Operand} (kind : Kind) → F out ≡ Some f → IsArgumentOf g out s a o → IsArgument (here g f) kind a
    → Knows g F (variables_of s) → IsValueOf g kind o
argument_fits kind known (is_variable made) is knows = of_var (local_kind known made is knows)
argument_fits kind known is_constant is knows = of_constant is

arguments_fit : {g : Graph} {F : Functions} {f : Function} {out : ℕ} {s : Stage} {args : List Argument} {os : List Operand} (kinds : List Kind) → F out ≡ Some f → AreArgumentsOf g out s args os
    → AllZip (λ a kind. IsArgument (here g f) kind a) args kinds → Knows g F (variables_of s) → AllZip (λ o kind. IsOperand g.flow.vars kind o) os kinds
arguments_fit [] known are_none are knows = tt
arguments_fit (kind ∷ kinds) known are_none are knows = absurd are
arguments_fit [] known (are_arguments first rest) are knows = absurd are
arguments_fit (kind ∷ kinds) known (are_arguments first rest) are knows =
    ((argument_fits kind known first are.0 knows).is, arguments_fit kinds known rest are.1 knows)

predicate_fits : {g : Graph} {F : Functions} {f : Function} {out : ℕ} {s : Stage} {predicate : PredId} {args : List Argument} {os : List Operand} → F out ≡ Some f → AreArgumentsOf g out s args os
    → AreArguments (here g f) predicate args → Knows g F (variables_of s) → FitsPredicate g.flow.vars g.program.defs predicate os
predicate_fits known given are knows = record { def = are.def; defined = are.defined; args = arguments_fit are.def.params known given are.fit knows }

-- ---- calls and statements
record Called (g : Graph) (F : Functions) (s u : Stage) (kind : Option Kind) (ret : Option VarId) : Type 0 where
  kept : Kept g F s u
  returns : Returns g kind ret

next_point : {g : Graph} {role : Role} {place : Place} {code : PointId → Instr} {r u : Stage} → Appends g role place code r u → points_of u ≡ suc (points_of r)
next_point (appends is) = refl

mutual
  called : {g : Graph} {F : Functions} {f : Function} {out : ℕ} {place : Place} {c : Call} {kind : Option Kind} {s u : Stage} {ret : Option VarId} → Whole g → F out ≡ Some f → Apart F (points_of s) out
      → points_of u ≤ out → IsCall (here g f) kind c → Calls g out place c s ret u → Knows g F (variables_of s) → Called g F s u kind ret
  called {g = g} {F = F} {f = f} {out = out} {c = c} {s = s} {u = u} whole known apart le is
      (calls {f = callee} {vs = vs} {inner = inner} {k = k} {r = r} there parameters values copies undone waiting body made ends) knows =
      let one_callee : is.callee ≡ callee = same_Some _ _ (sym is.there ∙ there) in
      let before : grown.Grows s r =
      grown.on (grown.received parameters) (grown.on (grown.all_evaluated values) (grown.on (grown.passed copies) (grown.on (grown.undefined undone) (grown.awaited waiting)))) in
      let inner_grows = grown.all_lowered body in
      let last : points_of u ≡ suc inner = next_point ends in
      let start : points_of s ≤ points_of r = before.points in
      let end : points_of r ≤ inner = inner_grows.points in
      let more : Extends F (adding F inner callee) = λ i h old. added_other F inner callee i h
      (λ same. elim (apart.is i h old) [
        | inl lt ↦ omega arith
        | inr around ↦ omega arith
      ]) old in
      let their : adding F inner callee inner ≡ Some callee = added_here F inner callee in
      let first = received parameters their (extended (adding F inner callee) more knows) in
      let locals = take callee.parameters callee.locals in
      let given = subst (λ (h : Function). AllZip (λ e l. IsOf (here g f) l.kind e) c.arguments (take h.parameters h.locals)) one_callee is.arguments in
      let second = all_evaluated locals (more out f known) values given none_inside first.knows in
      let third = passed locals copies first.variables second.operands second.stays.knows in
      let fourth = undefined_stays undone second.stays.inside third.knows in
      let fifth = awaited their refl waiting fourth.knows in
      let inner_apart : Apart (adding F inner callee) (points_of r) inner = record {
        is = λ i h found. elim (added_from F inner callee i h found) [
          | inl same ↦ inr (omega arith)
          | inr old ↦ elim (apart.is i h old) [
            | inl lt ↦ inl (omega arith)
            | inr around ↦ inr (omega arith)
          ]
        ];
      } in
      let sixth = all_lowered whole their inner_apart (omega arith) (whole.functions c.function callee there) body fifth.stays.knows in
      let left_inside = made_inside whole made in
      let seventh = appended ends (λ q. left_inside.all) in
      record {
        kept = record {
          functions = sixth.functions;
          keeps = λ i h old. sixth.keeps i h (more i h old);
          adds = λ i h found. elim (sixth.adds i h found) [
            | inl their_own ↦ elim (added_from F inner callee i h their_own) [
              | inl same ↦ inr (omega arith)
              | inr old ↦ inl old
            ]
            | inr lt ↦ inr (omega arith)
          ];
          knows = appended_variables ends sixth.knows;
          fit = received_points parameters (both_fit second.stays.fit (both_fit third.fit (both_fit fourth.fit (both_fit fifth.stays.fit (both_fit sixth.fit seventh)))));
        };
        returns = λ v x found same. fifth.returns v x found (ap (λ (h : Function). h.result) (sym one_callee) ∙ is.answers ∙ same);
      }

  performed : {g : Graph} {F : Functions} {f : Function} {out : ℕ} {place : Place} {action : Action} {s u : Stage} → Whole g → F out ≡ Some f → Apart F (points_of s) out → points_of u ≤ out
      → IsAction (here g f) action → Performs g out place action s u → Knows g F (variables_of s) → Kept g F s u
  performed whole known apart le is (performs_assign assigns) knows = stayed (assigned is.0 known assigns is.1 is.2 knows)
  performed {f = f} {out = out} {u = u} whole known apart le is (performs_result {ret = ret} {m = m} inner puts undone) knows =
      let grows = grown.on (grown.put puts) (grown.undefined undone) in
      let before : points_of m ≤ points_of u = grows.points in
      let one = called whole known apart (omega arith) is.2 inner knows in
      let their = one.returns ret is.0 refl refl in
      let two = put (one.kept.keeps out f known) puts is.1 (of_var their) none_inside one.kept.knows in
      kept_then one.kept (stayed (joined two (undefined_stays undone (one_inside their) two.knows))) before
  performed whole known apart le is (performs_add changes) knows = stayed (changed known (λ a b x y. (refl, x, y)) changes is.0 is.1 knows)
  performed whole known apart le is (performs_subtract changes) knows = stayed (changed known (λ a b x y. (refl, x, y)) changes is.0 is.1 knows)
  performed whole known apart le is (performs_call inner) knows = (called whole known apart le is.1 inner knows).kept

  declared : {g : Graph} {F : Functions} {f : Function} {out : ℕ} {place : Place} {items : List Initial} {s u : Stage} → Whole g → F out ≡ Some f → Apart F (points_of s) out → points_of u ≤ out
      → AreDeclared (here g f) items → Declares g f out place items s u → Knows g F (variables_of s) → Kept g F s u
  declared {F = F} whole known apart le are declares_none knows = record { functions = F; keeps = λ i h old. old; adds = λ i h old. inl old; knows = knows; fit = none_fit }
  declared {g = g} {F = F} {f = f} {s = s} {u = u} whole known apart le are (declares_undefined {l = l} {n = n} there creating undone rest) knows =
      let one = created creating (λ kind. record { function = f; known = known; info = l; there = there; kind = kind }) knows in
      let two = point_stays undone (λ q. (one_inside one.1).all) none_inside one.0 in
      let before : grown.Grows s n = grown.on (created_grows creating) (grown.appended undone) in
      later (declared whole known (apart_later before.points apart) le are.1 rest two.knows) (created_points creating two.fit)
  declared {g = g} {F = F} {f = f} {out = out} {s = s} {u = u} whole known apart le are (declares_value {l = l} {m = m} {n = n} there creating performs rest) knows =
      let one = created creating (λ kind. record { function = f; known = known; info = l; there = there; kind = kind }) knows in
      let before : grown.Grows s m = created_grows creating in
      let middle : grown.Grows m n = grown.performed performs in
      let after : grown.Grows n u = grown.declared rest in
      let upto : points_of n ≤ points_of u = after.points in
      let two = performed whole known (apart_later before.points apart) (omega arith) (are.0.0, (are.0.0, are.0.1, refl), are.0.2) performs one.0 in
      let kept : Kept g F s n = later two (created_points creating none_fit) in
      let whole_way = grown.on before middle in
      kept_then kept (declared whole (kept.keeps out f known) (apart_kept kept whole_way.points apart) le are.1 rest kept.knows) after.points

  started : {g : Graph} {F : Functions} {f : Function} {out : ℕ} {start : Start} {s u : Stage} → Whole g → F out ≡ Some f → Apart F (points_of s) out → points_of u ≤ out
      → IsStart (here g f) start → Starts g f out start s u → Knows g F (variables_of s) → Kept g F s u
  started {F = F} whole known apart le is starts_nothing knows = record { functions = F; keeps = λ i h old. old; adds = λ i h old. inl old; knows = knows; fit = none_fit }
  started whole known apart le is (starts_declaring declares) knows = declared whole known apart le is declares knows
  started whole known apart le is (starts_performing performs) knows = performed whole known apart le is performs knows

  finished : {g : Graph} {F : Functions} {f : Function} {out : ℕ} {last : Option Simple} {s u : Stage} → Whole g → F out ≡ Some f → Apart F (points_of s) out → points_of u ≤ out
      → IsLast (here g f) last → Finishes g out last s u → Knows g F (variables_of s) → Kept g F s u
  finished {F = F} whole known apart le is finishes_none knows = record { functions = F; keeps = λ i h old. old; adds = λ i h old. inl old; knows = knows; fit = none_fit }
  finished whole known apart le is (finishes performs) knows = performed whole known apart le is performs knows

  lowered : {g : Graph} {F : Functions} {c : Around} {a : Stmt} {s u : Stage} → Whole g → F c.out ≡ Some c.function → Apart F (points_of s) c.out → points_of u ≤ c.out
      → IsOfKinds (here g c.function) a → Lowers g c a s u → Knows g F (variables_of s) → Kept g F s u
  lowered whole known apart le is (declarations declares) knows = declared whole known apart le is declares knows
  lowered {c = c} {u = u} whole known apart le is (blocks {m = m} body leave) knows =
      let after : grown.Grows m u = grown.left leave in
      let upto : points_of m ≤ points_of u = after.points in
      let one = all_lowered whole known apart (omega arith) is body knows in
      kept_then one (stayed (left whole leave one.knows)) after.points
  lowered {F = F} whole known apart le is empties knows = record { functions = F; keeps = λ i h old. old; adds = λ i h old. inl old; knows = knows; fit = none_fit }
  lowered whole known apart le is (simples performs) knows = performed whole known apart le is performs knows
  lowered whole known apart le is (frees value at undone) knows =
      let one = evaluated known value is none_inside knows in
      let two = point_stays at (λ q. one.1.is) one.0.inside one.0.knows in
      stayed (joined one.0 (joined two (undefined_stays undone one.0.inside two.knows)))
  lowered whole known apart le is (asserts test at) knows = stayed_to (tested known test is knows) (one_fits at tt)
  lowered whole known apart le is (assumes test at) knows = stayed_to (tested known test is knows) (one_fits at tt)
  lowered whole known apart le is (shapes_assumed made given at) knows =
      let variable = local_kind known made is.0 knows in
      let fits = predicate_fits known given is.1 knows in
      stayed (point_stays at (λ q. (variable.is, fits)) none_inside knows)
  lowered whole known apart le is (shapes_asserted value given at) knows =
      let start = argument_fits Ptr known value is.0 knows in
      let fits = predicate_fits known given is.1 knows in
      stayed (point_stays at (λ q. (start.is, fits)) none_inside knows)
  lowered whole known apart le is (emptiness_asserted at) knows = stayed (point_stays at (λ q. tt) none_inside knows)
  lowered {c = c} {s = s} {u = u} whole known apart le is (ifs {t = t} {m = m} {k = k} {n = n} test body at) knows =
      let one = tested known test is.0 knows in
      let before : points_of s ≤ m = (grown.tested test).points in
      let after : n ≤ points_of u = (grown.appended at).points in
      let two = kept_from one (lowered whole known (apart_later before apart) (omega arith) is.1 body one.knows) in
      kept_then two (stayed (point_stays at (λ q. tt) none_inside two.knows)) after
  lowered {c = c} {s = s} {u = u} whole known apart le is (ifs_else {t = t} {f = f} {m = m} {i = i} {n = n} test first second at) knows =
      let one = tested known test is.0 knows in
      let before : points_of s ≤ m = (grown.tested test).points in
      let first_grows : m ≤ i = (grown.lowered first).points in
      let second_grows : i ≤ n = (grown.lowered second).points in
      let after : n ≤ points_of u = (grown.appended at).points in
      let two = elsewhere {b = f} (kept_from one (lowered whole known (apart_later before apart) (omega arith) is.1 first one.knows)) in
      let three = lowered whole (two.keeps c.out c.function known) (apart_later (omega arith) (apart_kept two (omega arith) apart)) (omega arith) is.2 second two.knows in
      let four = kept_then two three second_grows in
      kept_then four (stayed (point_stays at (λ q. tt) none_inside four.knows)) after
  lowered {c = c} {s = r} {u = u} whole known apart le is (whiles {s = s} {t = t} {m = m} {e = e} at test body ends) knows =
      let zeroth = point_stays at (λ q. tt) none_inside knows in
      let one = tested known test is.0 zeroth.knows in
      let before : grown.GrowsTo r m _ = grown.on (grown.appended at) (grown.tested test) in
      let body_grows : m ≤ e = (grown.lowered body).points in
      let after : e ≤ points_of u = (grown.appended ends).points in
      let two = lowered whole known (apart_later before.points apart) (omega arith) is.1 body one.knows in
      let three = elsewhere {b = e} (later (kept_from one two) zeroth.fit) in
      kept_then three (stayed (point_stays ends (λ q. tt) none_inside three.knows)) after
  lowered {c = c} {s = r} {u = u} whole known apart le is (dos {s = s} {m = m} {i = i} {e = e} at body turn test ends) knows =
      let zeroth = point_stays at (λ q. tt) none_inside knows in
      let before : points_of r ≤ points_of s = (grown.appended at).points in
      let body_grows : points_of s ≤ i = (grown.lowered body).points in
      let turn_grows : i ≤ points_of m = (grown.appended turn).points in
      let test_grows : points_of m ≤ e = (grown.tested test).points in
      let after : e ≤ points_of u = (grown.appended ends).points in
      let one = lowered whole known (apart_later before apart) (omega arith) is.0 body zeroth.knows in
      let two = kept_then one (stayed (point_stays turn (λ q. tt) none_inside one.knows)) turn_grows in
      let three = tested (two.keeps c.out c.function known) test is.1 two.knows in
      let four = kept_then two (stayed_to {b = e} three none_fit) test_grows in
      later (kept_then four (stayed (point_stays ends (λ q. tt) none_inside four.knows)) after) zeroth.fit
  lowered {c = c} {s = r} {u = u} whole known apart le is (fors {m = m} {q = q} {w = w} {n = n} {t = t} {p = p} {i = i} {e = e} start at test body turn last ends leave) knows =
      let start_grows : points_of r ≤ n = (grown.started start).points in
      let at_grows : n ≤ points_of m = (grown.appended at).points in
      let test_grows : points_of m ≤ p = (grown.tested_perhaps test).points in
      let body_grows : p ≤ i = (grown.lowered body).points in
      let turn_grows : i ≤ points_of q = (grown.appended turn).points in
      let last_grows : points_of q ≤ e = (grown.finished last).points in
      let ends_grow : e ≤ points_of w = (grown.appended ends).points in
      let leave_grows : points_of w ≤ points_of u = (grown.left leave).points in
      let one = started whole known apart (omega arith) is.0 start knows in
      let two = kept_then one (stayed (point_stays at (λ to. tt) none_inside one.knows)) at_grows in
      let three = tested_perhaps (two.keeps c.out c.function known) test is.1 two.knows in
      let four = kept_then two (stayed_to {b = t} three none_fit) test_grows in
      let five = lowered whole (four.keeps c.out c.function known) (apart_kept four (omega arith) apart) (omega arith) is.3 body four.knows in
      let six = kept_then four five body_grows in
      let seven = kept_then six (stayed (point_stays turn (λ to. tt) none_inside six.knows)) turn_grows in
      let eight = finished whole (seven.keeps c.out c.function known) (apart_kept seven (omega arith) apart) (omega arith) is.2 last seven.knows in
      let nine = elsewhere {b = e} (kept_then seven eight last_grows) in
      let ten = kept_then nine (stayed (point_stays ends (λ to. tt) none_inside nine.knows)) ends_grow in
      kept_then ten (stayed (left whole leave ten.knows)) leave_grows
  lowered whole known apart le is (breaks there leave) knows = elsewhere (stayed (left whole leave knows))
  lowered whole known apart le is (continues there leave) knows = elsewhere (stayed (left whole leave knows))
  lowered {F = F} whole known apart le is returns_nothing knows = record { functions = F; keeps = λ i h old. old; adds = λ i h old. inl old; knows = knows; fit = none_fit }
  lowered whole known apart le is (returns_value made sets) knows = elsewhere (stayed (set known sets (result_kind known made is.1 knows) is.2 knows))
  lowered {c = c} whole known apart le is (returns_result {v = v} {ret = ret} {m = m} {n = n} made inner at undone) knows =
      let grows = grown.on (grown.appended at) (grown.undefined undone) in
      let before : points_of m ≤ n = grows.points in
      let one = called whole known apart (omega arith) is.2 inner knows in
      let their = one.returns ret is.0 refl refl in
      let own = result_kind known made is.1 knows in
      let two = point_stays at (λ q. (is.0, own.is, (of_var their).is)) none_inside one.kept.knows in
      elsewhere (kept_then one.kept (stayed (joined two (undefined_stays undone (one_inside their) two.knows))) before)

  all_lowered : {g : Graph} {F : Functions} {c : Around} {ss : Stmts} {s u : Stage} → Whole g → F c.out ≡ Some c.function → Apart F (points_of s) c.out → points_of u ≤ c.out
      → AreOfKinds (here g c.function) ss → LowersAll g c ss s u → Knows g F (variables_of s) → Kept g F s u
  all_lowered {F = F} whole known apart le are lowers_none knows = record { functions = F; keeps = λ i h old. old; adds = λ i h old. inl old; knows = knows; fit = none_fit }
  all_lowered {c = c} {s = s} {u = u} whole known apart le are (lowers_next {m = m} first rest) knows =
      let before : points_of s ≤ points_of m = (grown.lowered first).points in
      let after : points_of m ≤ points_of u = (grown.all_lowered rest).points in
      let one = lowered whole known apart (omega arith) are.0 first knows in
      kept_then one (all_lowered whole (one.keeps c.out c.function known) (apart_kept one before apart) le are.1 rest one.knows) after

-- ---- programs

answered : {g : Graph} {F : Functions} {f : Function} {out : ℕ} {kind : Option Kind} {s u : Stage} → F out ≡ Some f → f.result ≡ kind → Answers g out kind s u → Knows g F (variables_of s) → Stays g F s [] u
answered known is answers_none knows = record { fit = none_fit; knows = knows; inside = none_inside }
answered {f = f} known is (answers {kind = kind} creating) knows =
    let one = created creating (λ it. record { function = f; known = known; result = kind; there = is; kind = it }) knows in
    record { fit = created_points creating none_fit; knows = one.0; inside = none_inside }

fallen : {g : Graph} {F : Functions} {f : Function} {out : ℕ} {s u : Stage} → F out ≡ Some f → Falls g f out s u → Knows g F (variables_of s) → Stays g F s [] u
fallen {g = g} known (falls_in_main is made copies) knows =
    let own = result_kind known made is.1 knows in point_stays copies (λ q. (Int, own.is, (zero_of {g = g} Int).is)) none_inside knows
fallen known (falls other) knows = record { fit = none_fit; knows = knows; inside = none_inside }

fallen_grows : {g : Graph} {f : Function} {out : ℕ} {s u : Stage} → Falls g f out s u → points_of s ≤ points_of u
fallen_grows (falls_in_main is made copies) = (grown.appended copies).points
fallen_grows (falls other) = omega arith

pub made_fits : {g : Graph} {f : Function} {out count : ℕ} → Whole g → AreOfKinds (here g f) f.body → Makes g f out count → AllFit g 0 (suc out)
made_fits {g = g} {f = f} {out = out} whole are (makes {s = s} {m = m} {n = n} begins kind body falling is) =
    let F : Functions = adding (λ i. None) out f in
    let own : F out ≡ Some f = added_here (λ i. None) out f in
    let nothing : Knows g F 0 = record { each = λ v o lt there. absurd (omega arith) } in
    let one = point_stays begins (λ q. tt) none_inside nothing in
    let two = answered own refl kind one.knows in
    let apart : Apart F (points_of m) out = record {
      is = λ i h found. elim (added_from (λ i. None) out f i h found) [
        | inl same ↦ inr (omega arith)
        | inr old ↦ absurd (cc old)
      ];
    } in
    let three = all_lowered whole own apart (fallen_grows falling) are body two.knows in
    let four = fallen (three.keeps out f own) falling three.knows in
    both_fit one.fit (both_fit two.fit (both_fit three.fit (both_fit four.fit (one_fits is tt))))
