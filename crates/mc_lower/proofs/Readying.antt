-- What statements and tasks need, and what they leave ready.
use Rattle.std.proofs.Common.{◌≡◌, ◌<◌, ◌≤◌, ◌++◌, ℕ, zero, suc, true, false, List, [], ◌∷◌, Option, Some, None, refl, sym, ap, ◌∙◌, subst, length, map, take, arith, inl, inr, Bor, rules}
use Rattle.std.proofs.lemmas.List.{length-map}
use Rattle.std.proofs.lemmas.List.Elements.{Contains-append_cases, Contains-append_left, Contains-append_right, Contains-push, Contains-push_cases}
use Rattle.std.proofs.lemmas.Option.{same_Some, slice_get_within}
use Rattle.std.proofs.lemmas.Slice.Zip.{AllZip-long}
use Rattle.std.specs.Prelude.{Contains, IsSome, IsTrue, option_and_then, slice_get}
use Rattle.mc_base.specs.declared.plain.Kind.{Kind}
use Rattle.mc_base.specs.declared.ids.VarId.{VarId}
use Rattle.mc_base.specs.declared.text.place.Place.{Place}
use Rattle.mc_semantics.specs.declared.resolved.program.Condition.{Condition}
use Rattle.mc_semantics.specs.declared.resolved.program.ForHead.{ForHead}
use Rattle.mc_semantics.specs.declared.resolved.program.Initial.{Initial as InitialCode}
use Rattle.mc_semantics.specs.declared.resolved.program.Simple.{Simple as SimpleCode}
use Rattle.mc_semantics.specs.declared.resolved.program.Statement.{Statement}
use Rattle.mc_base.specs.declared.ids.PredId.{PredId}
use Rattle.mc_semantics.specs.Resolved.Programs.{Expr, Argument, Cond, Call, Right, expression, result_of, allocation, Action, assign, add, subtract, call, Simple, Initial}
use Rattle.mc_semantics.specs.Resolved.Programs.{declaration, empty, simple, free, assert, assume, assume_shape, assert_shape, assert_empty, break_loop, continue_loop, returns}
use Rattle.mc_semantics.specs.Resolved.Programs.{nothing, declares, performs, Head, Stmt, then, block, if_only, if_else, while_loop, do_loop, for_loop, Function}
use Rattle.mc_semantics.specs.Resolved.Views.{action_of, condition_of, function_of, head_of, initial_of, local_of, program_of, simple_of, statement_of, stmts_of}
use Rattle.mc_lower_spec.specs.Length.Lengths.{all_declared, below, declared, items_declared, start_declared}
use Rattle.mc_lower_spec.specs.Lowering.{IsMain}
use Rattle.mc_lower_spec.specs.Scopes.{AreScopedIn, DeclareIn, FinishesIn, IsScopedIn}
use Rattle.mc_lower_laws.specs.Valid.Kinds.{Here, AreDeclared, AreOfKinds, IsAction, IsCall, IsCondition, IsConditionPerhaps, IsLast, IsOf, IsOfKinds, IsRight}
use Rattle.mc_lower.specs.declared.builder.Label.{Label}
use Rattle.mc_lower.specs.declared.lines.Awaited.{Awaited}
use Rattle.mc_lower.specs.declared.variables.Owner.{Owner as OwnerCode}
use Rattle.mc_lower.specs.declared.calls.Entered.{Entered}
use Rattle.mc_lower.specs.declared.tasks.Context.{Context}
use Rattle.mc_lower.specs.declared.tasks.Task.{Task}
use Rattle.mc_lower.specs.declared.tasks.Turns.{Turns}
use Rattle.mc_lower_laws.specs.Lowerable.Lowerable.{IsOnce, AllNameOnly, AreLowerable, IsLowerableAction, IsLowerableLast, IsLowerableRight, IsLowerableStart, TestsOnly, TestsOnlyPerhaps}
use Rattle.mc_lower.specs.Knowns.{Known, Source, State, IsAnswered, IsBounded, IsOpen, IsThere, IsWithin, with_label, with_local, with_next, with_occurrence, with_owners}
use Rattle.mc_lower.specs.Ready.{Fits, FitsAll, FitsFor, FitsItems, FitsStatement, Grown, HasResult, Still, IsActionReady, IsArgumentReady, AreArgumentsReady, IsBegun, IsCallReady, IsEntered, IsLastReady, IsNamed, IsReady, IsReturnReady, IsRightReady, IsSound, IsTestReady, IsTestReadyPerhaps, Later, Ready, entry_result, functions_in, here, loops, locals_to, makes, with_awaited}
use Rattle.mc_lower.specs.Left.{IsBehind, IsCommand}
use Rattle.mc_lower.specs.Valued.{target_of}
use Rattle.mc_lower.specs.declared.values.Target.{Target}
use Rattle.mc_lower.proofs.Having.{all_ready_waiting, ready_waiting, argument_ready, arguments_ready, expression_ready, expressions_ready, fields_ready, test_ready, test_ready_perhaps}

abbrev pub at : Source → List Awaited → State → Known
at src ws s = record { source = src; state = s; waiting = ws }

-- ---- lists without what stands twice
nothing_in : {A : Type 0} (x : A) → Contains [] x → ⊥
nothing_in x found = let low = found.1 in absurd (omega arith)

only_in : {A : Type 0} (y x : A) → Contains (y ∷ []) x → y ≡ x
only_in y x (zero, low, is) = is
only_in y x (suc k, low, is) = absurd (omega arith)

once_left : (a b : List ℕ) → IsOnce (a ++ b) → IsOnce a
once_left [] b once = tt
once_left (x ∷ a) b once = (λ found. once.0 (Contains-append_left a b x found), once_left a b once.1)

once_right : (a b : List ℕ) → IsOnce (a ++ b) → IsOnce b
once_right [] b once = once
once_right (x ∷ a) b once = once_right a b once.1

once_apart : (a b : List ℕ) (x : ℕ) → IsOnce (a ++ b) → Contains b x → Contains a x → ⊥
once_apart [] b x once right left = nothing_in x left
once_apart (y ∷ a) b x once right left =
    elim (Contains-append_cases (y ∷ []) a x left) [
      | inl here ↦ once.0 (subst (λ z. Contains (a ++ b) z) (sym (only_in y x here)) (Contains-append_right a b x right))
      | inr later ↦ once_apart a b x once.1 right later
    ]

-- some of these variables are none of those
pub record Part (xs some news : List ℕ) : Type 0 where
  pub sub : (x : ℕ) → Contains some x → Contains news x
  pub apart : (x : ℕ) → Contains some x → Contains xs x → ⊥
  pub once : IsOnce some

pub part_all : (a : List ℕ) → IsOnce a → Part [] a a
part_all a once = record { sub = λ x found. found; apart = λ x found none. nothing_in x none; once = once }

pub part_left : (a b : List ℕ) → IsOnce (a ++ b) → Part [] a (a ++ b)
part_left a b once = record { sub = λ x found. Contains-append_left a b x found; apart = λ x found none. nothing_in x none; once = once_left a b once }

pub part_right : (a b : List ℕ) → IsOnce (a ++ b) → Part a b (a ++ b)
part_right a b once = record { sub = λ x found. Contains-append_right a b x found; apart = λ x found left. once_apart a b x once found left; once = once_right a b once }

pub part_none : (xs a : List ℕ) → Part xs [] a
part_none xs a = record { sub = λ x found. absurd (nothing_in x found); apart = λ x found left. nothing_in x found; once = tt }

-- ---- states that grow
pub still_none : (s : State) → Still s s
still_none s = record { owners = λ o there. there; blocks = omega arith; occurrences = omega arith; bounded = λ b. b }

pub still_on : (s t u : State) → Still s t → Still t u → Still s u
still_on s t u f g =
    record {
      owners = λ o there. g.owners o (f.owners o there);
      blocks = let a = f.blocks in let b = g.blocks in omega arith;
      occurrences = let a = f.occurrences in let b = g.occurrences in omega arith;
      bounded = λ b. g.bounded (f.bounded b);
    }

lower_still : (s t : State) (j : ℕ) → Still s t → j < s.occurrences → j < t.occurrences
lower_still s t j f low = let more = f.occurrences in omega arith

pub grown_none : (s : State) (i : ℕ) → Grown s i [] s
grown_none s i = record { still = still_none s; made = λ x found. absurd (nothing_in x found); only = λ j x low there. inl there }

-- what grows so after that
after_none : (s t : State) (i j x : ℕ) → Grown s i [] t → j < s.occurrences → Contains t.owners (OwnerCode.Local j x) → Contains s.owners (OwnerCode.Local j x)
after_none s t i j x f low there = elim (f.only j x low there) [ inl a ↦ a | inr b ↦ absurd (nothing_in x b.1) ]

pub grown_on : (s t u : State) (i j : ℕ) (xs : List ℕ) → Grown s i xs t → Grown t j [] u → Grown s i xs u
grown_on s t u i j xs f g =
    record {
      still = still_on s t u f.still g.still;
      made = λ x found. g.still.owners _ (f.made x found);
      only = λ k x low there. f.only k x low (after_none t u j k x g (lower_still s t k f.still low) there);
    }

pub grown_past : (s t u : State) (i j : ℕ) (ys : List ℕ) → Grown s i [] t → Grown t j ys u → Grown s j ys u
grown_past s t u i j ys f g =
    record {
      still = still_on s t u f.still g.still;
      made = g.made;
      only = λ k x low there. elim (g.only k x (lower_still s t k f.still low) there) [ inl a ↦ inl (after_none s t i k x f low a) | inr b ↦ inr b ];
    }

pub grown_both : (s t u : State) (i : ℕ) (xs ys : List ℕ) → Grown s i xs t → Grown t i ys u → Grown s i (xs ++ ys) u
grown_both s t u i xs ys f g =
    record {
      still = still_on s t u f.still g.still;
      made = λ x found. elim (Contains-append_cases xs ys x found) [ inl a ↦ g.still.owners _ (f.made x a) | inr b ↦ g.made x b ];
      only = λ k x low there. elim (g.only k x (lower_still s t k f.still low) there) [
        | inl a ↦ elim (f.only k x low a) [ inl c ↦ inl c | inr d ↦ inr (d.0, Contains-append_left xs ys x d.1) ]
        | inr b ↦ inr (b.0, Contains-append_right xs ys x b.1)
      ];
    }

-- what grows for an occurrence that was not there before
pub grown_beyond : (s t u : State) (i j : ℕ) (ys : List ℕ) → Grown s i [] t → s.occurrences ≤ j → Grown t j ys u → Grown s i [] u
grown_beyond s t u i j ys f latest g =
    record {
      still = still_on s t u f.still g.still;
      made = λ x found. absurd (nothing_in x found);
      only = λ k x low there. elim (g.only k x (lower_still s t k f.still low) there) [
        | inl a ↦ inl (after_none s t i k x f low a)
        | inr b ↦ let same = b.0 in absurd (omega arith)
      ];
    }

-- ---- what stands somewhere
result_on : (src : Source) (ws vs : List Awaited) (s t : State) (i : ℕ) (o : Option Kind) → Still s t → HasResult (at src ws s) i o → HasResult (at src vs t) i o
result_on src ws vs s t i None still has = tt
result_on src ws vs s t i (Some kind) still has = still.owners _ has

open_on : (src : Source) (ws vs : List Awaited) (s t : State) (o : Option ℕ) → Still s t → IsOpen (at src ws s) o → IsOpen (at src vs t) o
open_on src ws vs s t None still is = tt
open_on src ws vs s t (Some i) still is = let more = still.blocks in omega arith

-- what fits a statement fits a part of it, where it stands, with these variables more
pub fits_in : (src : Source) (ws vs : List Awaited) (s t : State) (c : Context) (b : Option ℕ) (turns : Option Turns) (xs ys some news : List ℕ) (P P' : List ℕ → Type 0) (Q Q' : Here → Type 0) (R R' : ℕ → List ℕ → Type 0)
    → Grown s c.occurrence xs t → IsOpen (at src vs t) b → (IsOnce news → Part xs some news)
    → ((made : List ℕ) → P made → P' (xs ++ made)) → ((h : Here) → Q h → Q' h) → ((n : ℕ) (scope : List ℕ) → R n scope → R' n (ys ++ scope))
    → Fits (at src ws s) c news P Q R → Fits (at src vs t) (record { function = c.function; occurrence = c.occurrence; block = b; turns = turns }) some P' Q' R'
fits_in src ws vs s t c b turns xs ys some news P P' Q Q' R R' grown is_open part p q r fits =
    let here_part = part fits.once in
    record {
      stands =
          record {
            sound = fits.stands.sound;
            bounded = grown.still.bounded fits.stands.bounded;
            occurs = lower_still s t c.occurrence grown.still fits.stands.occurs;
            block = is_open;
            result = result_on src ws vs s t c.occurrence (function_of c.function.now).result grown.still fits.stands.result;
          };
      new = λ x found there. elim (grown.only c.occurrence x fits.stands.occurs there) [ inl a ↦ fits.new x (here_part.sub x found) a | inr e ↦ here_part.apart x found e.1 ];
      once = here_part.once;
      made = xs ++ fits.made;
      are_made = λ x found. elim (Contains-append_cases xs fits.made x found) [ inl a ↦ grown.made x a | inr e ↦ grown.still.owners _ (fits.are_made x e) ];
      lowerable = p fits.made fits.lowerable;
      kinds = q _ fits.kinds;
      scope = ys ++ fits.scope;
      scoped = r _ fits.scope fits.scoped;
    }

pub fits_on : (src : Source) (ws vs : List Awaited) (s t : State) (c : Context) (xs ys some news : List ℕ) (P P' : List ℕ → Type 0) (Q Q' : Here → Type 0) (R R' : ℕ → List ℕ → Type 0)
    → Grown s c.occurrence xs t → (IsOnce news → Part xs some news)
    → ((made : List ℕ) → P made → P' (xs ++ made)) → ((h : Here) → Q h → Q' h) → ((n : ℕ) (scope : List ℕ) → R n scope → R' n (ys ++ scope))
    → Fits (at src ws s) c news P Q R → Fits (at src vs t) c some P' Q' R'
fits_on src ws vs s t c xs ys some news P P' Q Q' R R' grown part p q r fits =
    let here_part = part fits.once in
    record {
      stands =
          record {
            sound = fits.stands.sound;
            bounded = grown.still.bounded fits.stands.bounded;
            occurs = lower_still s t c.occurrence grown.still fits.stands.occurs;
            block = open_on src ws vs s t c.block grown.still fits.stands.block;
            result = result_on src ws vs s t c.occurrence (function_of c.function.now).result grown.still fits.stands.result;
          };
      new = λ x found there. elim (grown.only c.occurrence x fits.stands.occurs there) [ inl a ↦ fits.new x (here_part.sub x found) a | inr e ↦ here_part.apart x found e.1 ];
      once = here_part.once;
      made = xs ++ fits.made;
      are_made = λ x found. elim (Contains-append_cases xs fits.made x found) [ inl a ↦ grown.made x a | inr e ↦ grown.still.owners _ (fits.are_made x e) ];
      lowerable = p fits.made fits.lowerable;
      kinds = q _ fits.kinds;
      scope = ys ++ fits.scope;
      scoped = r _ fits.scope fits.scoped;
    }

-- what makes nothing fits later too
pub fits_still : (src : Source) (ws vs : List Awaited) (s t : State) (c : Context) (news : List ℕ) (P P' : List ℕ → Type 0) (Q Q' : Here → Type 0) (R : ℕ → List ℕ → Type 0) → Still s t
    → ((made : List ℕ) → P made → P' made) → ((h : Here) → Q h → Q' h) → Fits (at src ws s) c news P Q R → Fits (at src vs t) c [] P' Q' (λ n scope. Unit {0})
fits_still src ws vs s t c news P P' Q Q' R still p q fits =
    record {
      stands =
          record {
            sound = fits.stands.sound;
            bounded = still.bounded fits.stands.bounded;
            occurs = lower_still s t c.occurrence still fits.stands.occurs;
            block = open_on src ws vs s t c.block still fits.stands.block;
            result = result_on src ws vs s t c.occurrence (function_of c.function.now).result still fits.stands.result;
          };
      new = λ x found there. nothing_in x found;
      once = tt;
      made = fits.made;
      are_made = λ x found. still.owners _ (fits.are_made x found);
      lowerable = p fits.made fits.lowerable;
      kinds = q _ fits.kinds;
      scope = [];
      scoped = tt;
    }

-- ---- values, calls and actions
abbrev pub Any : ℕ → List ℕ → Type 0
Any n scope = Unit {0}

pub test_fits : (src : Source) (ws : List Awaited) (s : State) (c : Context) (d : Cond) (news : List ℕ) (R : ℕ → List ℕ → Type 0) → Fits (at src ws s) c news (λ made. TestsOnly made d) (λ h. IsCondition h d) R
    → IsTestReady (at src ws s) c.occurrence d
test_fits src ws s c d news R fits = test_ready (at src ws s) c.occurrence fits.made (program_of src.program fits.stands.sound.defs) (function_of c.function.now) d fits.are_made fits.lowerable fits.kinds

pub test_fits_perhaps : (src : Source) (ws : List Awaited) (s : State) (c : Context) (d : Option Cond) (news : List ℕ) (R : ℕ → List ℕ → Type 0)
    → Fits (at src ws s) c news (λ made. TestsOnlyPerhaps made d) (λ h. IsConditionPerhaps h d) R → IsTestReadyPerhaps (at src ws s) c.occurrence d
test_fits_perhaps src ws s c d news R fits = test_ready_perhaps (at src ws s) c.occurrence fits.made (program_of src.program fits.stands.sound.defs) (function_of c.function.now) d fits.are_made fits.lowerable fits.kinds

taken_length : {A : Type 0} (n : ℕ) (xs : List A) → n ≤ length xs → length (take n xs) ≡ n
taken_length zero xs low = refl
taken_length (suc n) [] low = absurd (omega arith)
taken_length (suc n) (x ∷ xs) low = ap suc (taken_length n xs (omega arith))

pub call_fits : (src : Source) (ws : List Awaited) (s : State) (c : Context) (r : Option Kind) (d : Call) (news : List ℕ) (R : ℕ → List ℕ → Type 0)
    → Fits (at src ws s) c news (λ made. AllNameOnly made d.arguments) (λ h. IsCall h r d) R → IsCallReady (at src ws s) c.occurrence r d
call_fits src ws s c r d news R fits =
    let q = fits.kinds in
    let counted : q.callee.parameters ≤ length q.callee.locals = (fits.stands.sound.scoped d.function q.callee q.there).counted in
    record {
      sound = fits.stands.sound;
      bounded = fits.stands.bounded;
      callee = q.callee;
      there = q.there;
      counted = counted;
      many = sym (AllZip-long _ d.arguments (take q.callee.parameters q.callee.locals) q.arguments) ∙ taken_length q.callee.parameters q.callee.locals counted;
      arguments = expressions_ready (at src ws s) c.occurrence fits.made (program_of src.program fits.stands.sound.defs) (function_of c.function.now) d.arguments _ fits.are_made fits.lowerable q.arguments;
      answers = q.answers;
    }

pub right_fits : (src : Source) (ws : List Awaited) (s : State) (c : Context) (kind : Kind) (right : Right) (news : List ℕ) (R : ℕ → List ℕ → Type 0)
    → Fits (at src ws s) c news (λ made. IsLowerableRight src.structs made right) (λ h. IsRight h kind right) R → IsRightReady (at src ws s) c.occurrence right
right_fits src ws s c kind (expression e) news R fits = expression_ready (at src ws s) c.occurrence fits.made (program_of src.program fits.stands.sound.defs) (function_of c.function.now) kind e fits.are_made fits.lowerable fits.kinds
right_fits src ws s c kind (result_of d) news R fits = (kind, call_fits src ws s c (Some kind) d news R fits)
right_fits src ws s c kind (allocation shape fields) news R fits = fits.lowerable

abbrev pub with_kinds : (k : Known) (c : Context) (news : List ℕ) (P : List ℕ → Type 0) (Q Q' : Here → Type 0) (R : ℕ → List ℕ → Type 0) (fits : Fits k c news P Q R) → Q' (here k c fits.stands.sound) → Fits k c news P Q' R
with_kinds k c news P Q Q' R fits q = record { stands = fits.stands; new = fits.new; once = fits.once; made = fits.made; are_made = fits.are_made; lowerable = fits.lowerable; kinds = q; scope = fits.scope; scoped = fits.scoped }

abbrev pub with_lowerable : (k : Known) (c : Context) (news : List ℕ) (P P' : List ℕ → Type 0) (Q : Here → Type 0) (R : ℕ → List ℕ → Type 0) (fits : Fits k c news P Q R) → P' fits.made → Fits k c news P' Q R
with_lowerable k c news P P' Q R fits p = record { stands = fits.stands; new = fits.new; once = fits.once; made = fits.made; are_made = fits.are_made; lowerable = p; kinds = fits.kinds; scope = fits.scope; scoped = fits.scoped }

abbrev FitsAction : Known → Context → Action → List ℕ → (ℕ → List ℕ → Type 0) → Type 0
FitsAction k c a news R = Fits k c news (λ made. IsLowerableAction k.source.structs made a) (λ h. IsAction h a) R

pub action_fits : (src : Source) (ws : List Awaited) (s : State) (c : Context) (a : Action) (news : List ℕ) (R : ℕ → List ℕ → Type 0) → FitsAction (at src ws s) c a news R → IsActionReady (at src ws s) c.occurrence a
action_fits src ws s c (assign l right) news R fits =
    let q = fits.kinds in (
      (fits.are_made l.variable fits.lowerable.0, fields_ready src.structs _ _ l.fields q.1.2),
      right_fits src ws s c q.0 right news R
          (with_kinds (at src ws s) c news _ _ (λ h. IsRight h q.0 right) R (with_lowerable (at src ws s) c news _ (λ made. IsLowerableRight src.structs made right) _ R fits fits.lowerable.1) q.2),
    )
action_fits src ws s c (add l e) news R fits =
    let q = fits.kinds in
    ((fits.are_made l.variable fits.lowerable.0, fields_ready src.structs _ _ l.fields q.0.2), expression_ready (at src ws s) c.occurrence fits.made (program_of src.program fits.stands.sound.defs) (function_of c.function.now) _ e fits.are_made fits.lowerable.1 q.1)
action_fits src ws s c (subtract l e) news R fits =
    let q = fits.kinds in
    ((fits.are_made l.variable fits.lowerable.0, fields_ready src.structs _ _ l.fields q.0.2), expression_ready (at src ws s) c.occurrence fits.made (program_of src.program fits.stands.sound.defs) (function_of c.function.now) _ e fits.are_made fits.lowerable.1 q.1)
action_fits src ws s c (call d) news R fits =
    let q = fits.kinds in
    (q.0, call_fits src ws s c q.0 d news R (with_kinds (at src ws s) c news (λ made. AllNameOnly made d.arguments) (λ h. IsAction h (call d)) (λ h. IsCall h q.0 d) R fits q.1))

pub last_fits : (src : Source) (ws : List Awaited) (s : State) (c : Context) (o : Option Simple) (news : List ℕ) (R : ℕ → List ℕ → Type 0)
    → Fits (at src ws s) c news (λ made. IsLowerableLast src.structs made o) (λ h. IsLast h o) R → IsLastReady (at src ws s) c.occurrence o
last_fits src ws s c None news R fits = tt
last_fits src ws s c (Some x) news R fits = action_fits src ws s c x.action news R fits

-- ---- statements with statements inside
pub ready_if_only : (src : Source) (ws : List Awaited) (s : State) (c : Context) (place : Place) (d : Cond) (a : Bor Statement) (l : Label) (ts : List Task)
    → FitsStatement (at src ws s) c (if_only place d (statement_of a.now)) → Later (at src ws s) c.occurrence (declared (if_only place d (statement_of a.now))) ts
    → Ready (with_label l (at src ws s)) (Task.Statement a c ∷ Task.Merge place l ∷ ts)
ready_if_only src ws s c place d a l ts fits later = (
  fits_on src ws _ s s c [] [] _ _ _ _ _ _ _ _ (grown_none s c.occurrence) (λ o. part_all _ o) (λ made p. p.1) (λ h q. q.1) (λ n scope r. r) fits,
  (with_label l (at src ws s), refl, λ t f. (tt, (at src ws t, refl, λ u g. later u (grown_on s t u c.occurrence 0 _ f g)))),
)

pub ready_if_else : (src : Source) (ws : List Awaited) (s : State) (c : Context) (place : Place) (d : Cond) (a b : Bor Statement) (l m : Label) (ts : List Task)
    → FitsStatement (at src ws s) c (if_else place d (statement_of a.now) (statement_of b.now))
    → Later (at src ws s) c.occurrence (declared (if_else place d (statement_of a.now) (statement_of b.now))) ts
    → Ready (with_label l (with_label m (at src ws s))) (Task.Statement a c ∷ Task.Otherwise l m ∷ Task.Statement b c ∷ Task.Merge place m ∷ ts)
ready_if_else src ws s c place d a b l m ts fits later = (
  fits_on src ws _ s s c [] [] _ _ _ _ _ _ _ _ (grown_none s c.occurrence) (λ o. part_left (declared (statement_of a.now)) (declared (statement_of b.now)) o) (λ made p. p.1) (λ h q. q.1) (λ n scope r. r.0) fits,
  (
    with_label l (with_label m (at src ws s)),
    refl,
    λ t f. (
      tt,
      (
        with_label m (at src ws t),
        refl,
        λ u g.
            let first = grown_on s t u c.occurrence 0 (declared (statement_of a.now)) f g in (
              fits_on src ws _ s u c (declared (statement_of a.now)) [] _ _ _ _ _ _ _ _ first (λ o. part_right (declared (statement_of a.now)) (declared (statement_of b.now)) o) (λ made p. p.2) (λ h q. q.2) (λ n scope r. r.1) fits,
              (
                with_label m (at src ws u),
                refl,
                λ v e. (tt, (at src ws v, refl, λ w i. later w (grown_both s u w c.occurrence _ _ first (grown_on u v w c.occurrence 0 _ e i)))),
              ),
            ),
      ),
    ),
  ),
)

abbrev pub looping : Context → Turns → Context
looping c t = record { function = c.function; occurrence = c.occurrence; block = None; turns = Some t }

pub ready_while : (src : Source) (ws : List Awaited) (s : State) (c e : Context) (place : Place) (d : Cond) (a : Bor Statement) (turns : Turns) (l m : Label) (ts : List Task) → e ≡ looping c turns
    → FitsStatement (at src ws s) c (while_loop place d (statement_of a.now)) → Later (at src ws s) c.occurrence (declared (while_loop place d (statement_of a.now))) ts
    → Ready (with_label m (at src ws s)) (Task.Statement a e ∷ Task.EndWhile place l m ∷ ts)
ready_while src ws s c e place d a turns l m ts is fits later =
    let P : Context → Type 0 = λ x. Ready (with_label m (at src ws s)) (Task.Statement a x ∷ Task.EndWhile place l m ∷ ts) in
    subst P (sym is) (
      fits_in src ws _ s s c None (Some turns) [] [] _ _ _ _ _ _ _ _ (grown_none s c.occurrence) tt (λ o. part_all _ o) (λ made p. p.1) (λ h q. q.1) (λ n scope r. r) fits,
      (with_label m (at src ws s), refl, λ t f. (tt, (at src ws t, refl, λ u g. later u (grown_on s t u c.occurrence 0 _ f g)))),
    )

pub ready_do : (src : Source) (ws : List Awaited) (s : State) (c e : Context) (place : Place) (d : Bor Condition) (a : Bor Statement) (turns : Turns) (l : Label) (ts : List Task) → e ≡ looping c turns
    → FitsStatement (at src ws s) c (do_loop place (statement_of a.now) (condition_of d.now)) → Later (at src ws s) c.occurrence (declared (do_loop place (statement_of a.now) (condition_of d.now))) ts
    → Ready (with_label turns.turn (with_label turns.exit (at src ws s))) (Task.Statement a e ∷ Task.EndDo place d l turns c.occurrence ∷ ts)
ready_do src ws s c e place d a turns l ts is fits later =
    let P : Context → Type 0 = λ x. Ready (with_label turns.turn (with_label turns.exit (at src ws s))) (Task.Statement a x ∷ Task.EndDo place d l turns c.occurrence ∷ ts) in
    subst P (sym is) (
      fits_in src ws _ s s c None (Some turns) [] [] _ _ _ _ _ _ _ _ (grown_none s c.occurrence) tt (λ o. part_all _ o) (λ made p. p.0) (λ h q. q.0) (λ n scope r. r) fits,
      (
        with_label turns.turn (with_label turns.exit (at src ws s)),
        refl,
        λ t f. (
          test_fits src (with_label turns.turn (with_label turns.exit (at src ws s))).waiting t c (condition_of d.now) [] Any (fits_on src ws _ s t c (declared (statement_of a.now)) [] [] _ _ _ _ _ _ Any f (λ o. part_none _ _) (λ made p. p.1) (λ h q. q.1) (λ n scope r. tt) fits),
          (at src ws t, refl, λ u g. later u (grown_on s t u c.occurrence c.occurrence _ f g)),
        ),
      ),
    )

-- ---- `for`
pub ready_for : (src : Source) (ws : List Awaited) (s t : State) (c : Context) (h : Bor ForHead) (a : Bor Statement) (ts : List Task) → Grown s c.occurrence (start_declared (head_of h.now).start) t
    → FitsStatement (at src ws s) c (for_loop (head_of h.now) (statement_of a.now)) → Later (at src ws s) c.occurrence (declared (for_loop (head_of h.now) (statement_of a.now))) ts
    → Ready (at src ws t) (Task.For h a c ∷ ts)
ready_for src ws s t c h a ts f fits later = (
  fits_on src ws _ s t c (start_declared (head_of h.now).start) (head_of h.now).variables _ _ _ _ _ _ _ _ f (λ o. part_right (start_declared (head_of h.now).start) (declared (statement_of a.now)) o) (λ made p. (p.1, p.2, p.3)) (λ e q. (q.1, q.2, q.3)) (λ n scope r. (r.2, r.3)) fits,
  (at src ws t, refl, λ u g. later u (grown_both s t u c.occurrence _ _ f g)),
)

pub ready_for_nothing : (src : Source) (ws : List Awaited) (s : State) (c : Context) (h : Bor ForHead) (a : Bor Statement) (ts : List Task) → (head_of h.now).start ≡ nothing
    → FitsStatement (at src ws s) c (for_loop (head_of h.now) (statement_of a.now)) → Later (at src ws s) c.occurrence (declared (for_loop (head_of h.now) (statement_of a.now))) ts
    → Ready (at src ws s) (Task.For h a c ∷ ts)
ready_for_nothing src ws s c h a ts is fits later =
    ready_for src ws s s c h a ts (subst (λ x. Grown s c.occurrence (start_declared x) s) (sym is) (grown_none s c.occurrence)) fits later

pub ready_for_declaring : (src : Source) (ws : List Awaited) (s : State) (c : Context) (h : Bor ForHead) (a : Bor Statement) (place : Place) (items : Bor (List InitialCode)) (ts : List Task)
    → (head_of h.now).start ≡ declares place (map initial_of items.now)
    → FitsStatement (at src ws s) c (for_loop (head_of h.now) (statement_of a.now)) → Later (at src ws s) c.occurrence (declared (for_loop (head_of h.now) (statement_of a.now))) ts
    → Ready (at src ws s) (Task.Declare place items c ∷ Task.For h a c ∷ ts)
ready_for_declaring src ws s c h a place items ts is fits later = (
  fits_on src ws _ s s c [] (head_of h.now).variables _ _ _ _ _ _ _ _ (grown_none s c.occurrence)
      (λ o. subst (λ x. Part [] (start_declared x) (start_declared (head_of h.now).start ++ declared (statement_of a.now))) is (part_left (start_declared (head_of h.now).start) (declared (statement_of a.now)) o)) (λ made p. subst (λ x. IsLowerableStart src.structs made x) is p.0) (λ e q. subst (λ x. Rattle.mc_lower_laws.specs.Valid.Kinds.IsStart e x) is q.0)
      (λ n scope r. subst (λ x. Rattle.mc_lower_spec.specs.Scopes.StartsIn n ((head_of h.now).variables ++ scope) x) is r.1) fits,
  (at src ws s, refl, λ t f. ready_for src ws s t c h a ts (subst (λ x. Grown s c.occurrence (start_declared x) t) (sym is) f) fits later),
)

pub ready_for_performing : (src : Source) (ws : List Awaited) (s : State) (c : Context) (h : Bor ForHead) (a : Bor Statement) (x : Bor SimpleCode) (ts : List Task)
    → (head_of h.now).start ≡ performs (simple_of x.now)
    → FitsStatement (at src ws s) c (for_loop (head_of h.now) (statement_of a.now)) → Later (at src ws s) c.occurrence (declared (for_loop (head_of h.now) (statement_of a.now))) ts
    → Ready (at src ws s) (Task.Simple x c ∷ Task.For h a c ∷ ts)
ready_for_performing src ws s c h a x ts is fits later = (
  action_fits src ws s c (action_of x.now.action) [] Any
      (fits_on src ws _ s s c [] [] [] _ _ _ _ _ _ Any (grown_none s c.occurrence) (λ o. part_none _ _) (λ made p. subst (λ y. IsLowerableStart src.structs made y) is p.0) (λ e q. subst (λ y. Rattle.mc_lower_laws.specs.Valid.Kinds.IsStart e y) is q.0) (λ n scope r. tt) fits),
  (at src ws s, refl, λ t f. ready_for src ws s t c h a ts (subst (λ y. Grown s c.occurrence (start_declared y) t) (sym is) f) fits later),
)

pub ready_enter_for : (src : Source) (ws : List Awaited) (s : State) (c e : Context) (h : Bor ForHead) (a : Bor Statement) (l : Label) (turns : Turns) (ts : List Task) → e ≡ looping c turns
    → FitsFor (at src ws s) c (head_of h.now) (statement_of a.now) → Later (at src ws s) c.occurrence (declared (statement_of a.now)) ts
    → Ready (with_label turns.turn (with_label turns.exit (at src ws s))) (Task.Statement a e ∷ Task.ForTurn h l turns c ∷ ts)
ready_enter_for src ws s c e h a l turns ts is fits later =
    let P : Context → Type 0 = λ x. Ready (with_label turns.turn (with_label turns.exit (at src ws s))) (Task.Statement a x ∷ Task.ForTurn h l turns c ∷ ts) in
    subst P (sym is) (
      fits_in src ws _ s s c None (Some turns) [] [] _ _ _ _ _ _ _ _ (grown_none s c.occurrence) tt (λ o. part_all _ o) (λ made p. p.2) (λ z q. q.2) (λ n scope r. r.1) fits,
      (
        with_label turns.turn (with_label turns.exit (at src ws s)),
        refl,
        λ t f. (
          last_fits src _ t c (head_of h.now).last [] Any (fits_still src ws _ s t c _ _ _ _ _ _ f.still (λ made p. p.1) (λ z q. q.1) fits),
          (at src ws t, refl, λ u g. later u (grown_on s t u c.occurrence c.occurrence _ f g)),
        ),
      ),
    )

pub for_condition : (src : Source) (ws vs : List Awaited) (s : State) (c : Context) (h : Head) (a : Stmt) → FitsFor (at src ws s) c h a → IsTestReadyPerhaps (at src vs s) c.occurrence h.condition
for_condition src ws vs s c h a fits =
    test_fits_perhaps src vs s c h.condition [] Any (fits_still src ws _ s s c _ _ _ _ _ _ (still_none s) (λ made p. p.0) (λ z q. q.0) fits)

-- ---- blocks and rows of statements
pub ready_block : (src : Source) (ws : List Awaited) (s t : State) (c e : Context) (xs : Bor (List ℕ)) (ss : Bor (List Statement)) (i : ℕ) (ts : List Task)
    → e ≡ record { function = c.function; occurrence = c.occurrence; block = Some i; turns = c.turns } → i < t.blocks → Grown s c.occurrence [] t
    → FitsStatement (at src ws s) c (block xs.now (stmts_of (map statement_of ss.now))) → Later (at src ws s) c.occurrence (declared (block xs.now (stmts_of (map statement_of ss.now)))) ts
    → Ready (at src ws t) (Task.Statements ss e ∷ Task.EndBlock xs c.occurrence ∷ ts)
ready_block src ws s t c e xs ss i ts is low f fits later =
    let P : Context → Type 0 = λ x. Ready (at src ws t) (Task.Statements ss x ∷ Task.EndBlock xs c.occurrence ∷ ts) in
    subst P (sym is) (
      fits_in src ws _ s t c (Some i) c.turns [] xs.now _ _ _ _ _ _ _ _ f low (λ o. part_all _ o) (λ made p. p) (λ h q. q) (λ n scope r. r.1) fits,
      (at src ws t, refl, λ u g. (tt, (at src ws u, refl, λ v d. later v (grown_past s t v c.occurrence c.occurrence _ f (grown_on t u v c.occurrence c.occurrence _ g d))))),
    )

pub ready_statements : (src : Source) (ws : List Awaited) (s : State) (c : Context) (a : Bor Statement) (ss more : Bor (List Statement)) (ts : List Task) → ss.now ≡ a.now ∷ more.now
    → FitsAll (at src ws s) c (stmts_of (map statement_of ss.now)) → Later (at src ws s) c.occurrence (all_declared (stmts_of (map statement_of ss.now))) ts
    → Ready (at src ws s) (Task.Statement a c ∷ Task.Statements more c ∷ ts)
ready_statements src ws s c a ss more ts is fits later =
    let whole : FitsAll (at src ws s) c (then (statement_of a.now) (stmts_of (map statement_of more.now))) = subst (λ l. FitsAll (at src ws s) c (stmts_of (map statement_of l))) is fits in
    let after : Later (at src ws s) c.occurrence (all_declared (then (statement_of a.now) (stmts_of (map statement_of more.now)))) ts =
    subst (λ l. Later (at src ws s) c.occurrence (all_declared (stmts_of (map statement_of l))) ts) is later in (
      fits_on src ws _ s s c [] [] _ _ _ _ _ _ _ _ (grown_none s c.occurrence) (λ o. part_left (declared (statement_of a.now)) (all_declared (stmts_of (map statement_of more.now))) o) (λ made p. p.0) (λ h q. q.0) (λ n scope r. r.0) whole,
      (
        at src ws s,
        refl,
        λ t f. (
          fits_on src ws _ s t c (declared (statement_of a.now)) [] _ _ _ _ _ _ _ _ f (λ o. part_right (declared (statement_of a.now)) (all_declared (stmts_of (map statement_of more.now))) o) (λ made p. p.1) (λ h q. q.1) (λ n scope r. r.1) whole,
          (at src ws t, refl, λ u g. after u (grown_both s t u c.occurrence _ _ f g)),
        ),
      ),
    )

-- ---- declarators
pub later_items : (src : Source) (ws : List Awaited) (s : State) (c : Context) (place : Place) (item : InitialCode) (items : List InitialCode) (more : Bor (List InitialCode)) (ts : List Task) → items ≡ item ∷ more.now
    → FitsItems (at src ws s) c (map initial_of items) → Later (at src ws s) c.occurrence (items_declared (map initial_of items)) ts
    → Later (at src ws s) c.occurrence (item.variable ∷ []) (Task.Declare place more c ∷ ts)
later_items src ws s c place item items more ts is fits later =
    let whole : FitsItems (at src ws s) c (map initial_of (item ∷ more.now)) = subst (λ l. FitsItems (at src ws s) c (map initial_of l)) is fits in
    let after : Later (at src ws s) c.occurrence (items_declared (map initial_of (item ∷ more.now))) ts = subst (λ l. Later (at src ws s) c.occurrence (items_declared (map initial_of l)) ts) is later in
    λ t f. (
      fits_on src ws _ s t c (item.variable ∷ []) [] _ _ _ _ _ _ _ _ f (λ o. part_right (item.variable ∷ []) (items_declared (map initial_of more.now)) o) (λ made p. p.1) (λ h q. q.1) (λ n scope r. r.1) whole,
      (at src ws t, refl, λ u g. after u (grown_both s t u c.occurrence (item.variable ∷ []) _ f g)),
    )

pub first_item : (src : Source) (ws : List Awaited) (s : State) (c : Context) (item : InitialCode) (items more : List InitialCode) → items ≡ item ∷ more → FitsItems (at src ws s) c (map initial_of items)
    → FitsItems (at src ws s) c (initial_of item ∷ [])
first_item src ws s c item items more is fits =
    fits_on src ws _ s s c [] [] _ _ _ _ _ _ _ _ (grown_none s c.occurrence) (λ o. part_left (item.variable ∷ []) (items_declared (map initial_of more)) o) (λ made p. (p.0, tt)) (λ h q. (q.0, tt)) (λ n scope r. (r.0, tt)) (subst (λ l. FitsItems (at src ws s) c (map initial_of l)) is fits)

-- ---- calls
below_in : (n x : ℕ) → Contains (below n) x → x < n
below_in zero x found = let low = found.1 in absurd (omega arith)
below_in (suc n) x found =
    elim (Contains-push_cases (below n) n x found) [ inl before ↦ let low = below_in n x before in omega arith | inr same ↦ omega arith ]

local_in : (i n x : ℕ) → x < n → Contains (locals_to i n) (OwnerCode.Local i x)
local_in i zero x low = absurd (omega arith)
local_in i (suc n) x low =
    elim (Rattle.std.proofs.lemmas.Bool.cases_lt x n) [
      | inl before ↦ Contains-append_left (locals_to i n) (OwnerCode.Local i n ∷ []) (OwnerCode.Local i x) (local_in i n x before)
      | inr past ↦ let same : n ≡ x = omega arith in subst (λ y. Contains (locals_to i n ++ OwnerCode.Local i n ∷ []) (OwnerCode.Local i y)) same (Contains-push (locals_to i n) (OwnerCode.Local i n))
    ]

-- the body of a function that is called fits
pub body_fits : (k : Known) (e : Context) (n : ℕ) → IsSound k.source → slice_get (functions_in k.source) n ≡ Some (function_of e.function.now) → e.occurrence < k.state.occurrences → e.block ≡ None → e.turns ≡ None → IsBounded k.state
    → ((x : ℕ) → x < e.function.now.parameters → IsThere k e.occurrence x) → ((x : ℕ) → IsThere k e.occurrence x → x < e.function.now.parameters) → HasResult k e.occurrence (function_of e.function.now).result
    → FitsAll k e (function_of e.function.now).body
body_fits k e n sound there occurs no_block no_turns bounded parameters no_others result =
    let f = function_of e.function.now in
    let scoped = sound.scoped n f there in
    let lowerable = sound.lowerable.functions n f there in
    record {
      stands = record { sound = sound; bounded = bounded; occurs = occurs; block = subst (λ b. IsOpen k b) (sym no_block) tt; result = result };
      new = λ x found made. let low = no_others x made in let high = lowerable.behind x found in absurd (omega arith);
      once = lowerable.once;
      made = below f.parameters;
      are_made = λ x found. parameters x (below_in f.parameters x found);
      lowerable = subst (λ t. AreLowerable k.source.structs (loops t) (below f.parameters) f.body) (sym no_turns) lowerable.body;
      kinds = sound.well.functions n f there;
      scope = scoped.own;
      scoped = scoped.body;
    }

pub ready_body : (k m : Known) (e : Context) (body : Bor (List Statement)) (place : Place) (ts : List Task) → k ≡ with_next (Awaited.Out e.occurrence) m → body.now ≡ e.function.now.body.items
    → FitsAll k e (function_of e.function.now).body → e.occurrence < k.state.occurrences → Later m e.occurrence (all_declared (function_of e.function.now).body) ts
    → Ready k (Task.Statements body e ∷ Task.EndCall place e ∷ ts)
ready_body k m e body place ts waits is fits occurs later =
    let o : Known = with_next (Awaited.Out e.occurrence) m in
    let P : Known → Type 0 = λ x. Ready x (Task.Statements body e ∷ Task.EndCall place e ∷ ts) in
    subst P (sym waits) (
      subst (λ l. FitsAll o e (stmts_of (map statement_of l))) (sym is) (subst (λ x. FitsAll x e (function_of e.function.now).body) waits fits),
      (
        o,
        refl,
        λ t f. (
          lower_still m.state t e.occurrence f.still (subst (λ (x : Known). e.occurrence < x.state.occurrences) waits occurs),
          (
            at m.source m.waiting t,
            refl,
            λ u g. later u (grown_on m.state t u e.occurrence e.occurrence _ (subst (λ l. Grown m.state e.occurrence (all_declared (stmts_of (map statement_of l))) t) is f) g),
          ),
        ),
      ),
    )

awaited_source : (k : Known) (i : ℕ) (o : Option Kind) → (with_awaited i o k).source ≡ k.source
awaited_source k i None = refl
awaited_source k i (Some kind) = refl

awaited_waiting : (k : Known) (i : ℕ) (o : Option Kind) → (with_awaited i o k).waiting ≡ k.waiting
awaited_waiting k i None = refl
awaited_waiting k i (Some kind) = refl

awaited_result : (k : Known) (i : ℕ) (o : Option Kind) → HasResult (with_awaited i o k) i o
awaited_result k i None = tt
awaited_result k i (Some kind) = Contains-push k.state.owners (OwnerCode.Result i)

within_more : (n m : ℕ) (o : OwnerCode) → n ≤ m → IsWithin n o → IsWithin m o
within_more n m (OwnerCode.Local i x) more low = omega arith
within_more n m (OwnerCode.Result i) more low = omega arith
within_more n m (OwnerCode.Temporary j kind) more low = tt

pub in_locals : (i n : ℕ) (o : OwnerCode) → Contains (locals_to i n) o → (x : ℕ) × (x < n) × (OwnerCode.Local i x ≡ o)
in_locals i zero o found = absurd (nothing_in o found)
in_locals i (suc n) o found =
    elim (Contains-push_cases (locals_to i n) (OwnerCode.Local i n) o found) [
      | inl before ↦ let e = in_locals i n o before in (e.0, let low = e.1 in omega arith, e.2)
      | inr same ↦ (n, omega arith, same)
    ]

occurrence_still : (k : Known) → Still k.state (with_occurrence k).state
occurrence_still k =
    record { owners = λ p there. there; blocks = omega arith; occurrences = omega arith; bounded = λ b o there. within_more k.state.occurrences (suc k.state.occurrences) o (omega arith) (b o there) }

owners_still : (k : Known) (os : List OwnerCode) → ((o : OwnerCode) → Contains os o → IsWithin k.state.occurrences o) → Still k.state (with_owners os k).state
owners_still k os low =
    record {
      owners = λ p there. Contains-append_left k.state.owners os p there;
      blocks = omega arith;
      occurrences = omega arith;
      bounded = λ b o there. elim (Contains-append_cases k.state.owners os o there) [ inl a ↦ b o a | inr e ↦ low o e ];
    }

locals_within : (i n m : ℕ) (o : OwnerCode) → i < m → Contains (locals_to i n) o → IsWithin m o
locals_within i n m o low found = let e = in_locals i n o found in subst (λ p. IsWithin m p) e.2 low

result_within : (i m : ℕ) (o : OwnerCode) → i < m → Contains (OwnerCode.Result i ∷ []) o → IsWithin m o
result_within i m o low found = subst (λ p. IsWithin m p) (only_in (OwnerCode.Result i) o found) low

awaited_still : (k : Known) (i : ℕ) (o : Option Kind) → i < k.state.occurrences → Still k.state (with_awaited i o k).state
awaited_still k i None low = still_none k.state
awaited_still k i (Some kind) low = owners_still k (OwnerCode.Result i ∷ []) (λ o found. result_within i k.state.occurrences o low found)

-- the owners of an occurrence's variables, before its result
awaited_local : (k : Known) (i j x : ℕ) (o : Option Kind) → IsThere (with_awaited i o k) j x → IsThere k j x
awaited_local k i j x None there = there
awaited_local k i j x (Some kind) there =
    elim (Contains-push_cases k.state.owners (OwnerCode.Result i) (OwnerCode.Local j x) there) [ inl a ↦ a | inr same ↦ absurd (cc same) ]

local_number : (i j x y : ℕ) → OwnerCode.Local i x ≡ OwnerCode.Local j y → (i ≡ j) × (x ≡ y)
local_number i j x y same = (cc, cc)

-- the states in which a call begins
pub begun_there : (k o r m : Known) (d : Call) (e : Entered) (i : ℕ) → IsBounded k.state → o ≡ with_occurrence k → i ≡ k.state.occurrences → e.callee.occurrence ≡ i
    → r ≡ with_owners (locals_to i e.callee.function.now.parameters) o → m ≡ with_awaited i e.callee.function.now.result r
    → slice_get (functions_in k.source) d.function ≡ Some (function_of e.callee.function.now) → e.callee.block ≡ None → e.callee.turns ≡ None
    → (IsSome e.callee.function.now.result → IsSome e.answer) → IsBegun k d e m
begun_there k o r m d e i bounded is_o is_i is_e is_r is_m there no_block no_turns answered =
    let p = e.callee.function.now.parameters in
    let kind = e.callee.function.now.result in
    let o2 : Known = with_occurrence k in
    let r2 : Known = with_owners (locals_to i p) o2 in
    let m2 : Known = with_awaited i kind r2 in
    let low : i < o2.state.occurrences = omega (arith, is_i) in
    let still_r : Still o2.state r2.state = owners_still o2 (locals_to i p) (λ z found. locals_within i p o2.state.occurrences z low found) in
    let still_m : Still r2.state m2.state = awaited_still r2 i kind low in
    let still : Still k.state m2.state = still_on k.state r2.state m2.state (still_on k.state o2.state r2.state (occurrence_still k) still_r) still_m in
    let whole : IsBegun k d e m2 =
    record {
      source = awaited_source r2 i kind;
      grown = λ j. record {
        still = still;
        made = λ x found. absurd (nothing_in x found);
        only = λ n x before found. elim (Contains-append_cases k.state.owners (locals_to i p) (OwnerCode.Local n x) (awaited_local r2 i n x kind found)) [
          | inl a ↦ inl a
          | inr q ↦ let z = in_locals i p (OwnerCode.Local n x) q in let same = (local_number i n z.0 x z.2).0 in absurd (omega (arith, before, same, is_i))
        ];
      };
      waiting = awaited_waiting r2 i kind ∙ ap (λ j. Awaited.Out j ∷ k.waiting) (sym is_i ∙ sym is_e);
      latest = omega (arith, is_i, is_e);
      no_others = λ x found. elim (Contains-append_cases k.state.owners (locals_to i p) (OwnerCode.Local i x) (awaited_local r2 i i x kind (subst (λ j. IsThere m2 j x) is_e found))) [
        | inl a ↦ let before = bounded (OwnerCode.Local i x) a in absurd (omega (arith, before, is_i))
        | inr q ↦ let z = in_locals i p (OwnerCode.Local i x) q in let same = (local_number i i z.0 x z.2).1 in let lower = z.1 in omega (arith, same, lower)
      ];
      there = there;
      occurs = let more = still_m.occurrences in omega (arith, is_i, is_e, more);
      block = no_block;
      turns = no_turns;
      parameters = λ x lower. subst (λ j. IsThere m2 j x) (sym is_e) (still_m.owners _ (Contains-append_right o2.state.owners (locals_to i p) _ (local_in i p x lower)));
      result = subst (λ j. HasResult m2 j kind) (sym is_e) (awaited_result r2 i kind);
      answered = answered;
    } in
    subst (λ z. IsBegun k d e z) (sym (is_m ∙ ap (λ z. with_awaited i kind z) (is_r ∙ ap (λ z. with_owners (locals_to i p) z) is_o))) whole

-- an occurrence that is new has no variables
pub none_there : (k m : Known) (i x : ℕ) → IsBounded k.state → i ≡ k.state.occurrences → m ≡ with_occurrence k → IsThere m i x → ⊥
none_there k m i x bounded is_i is_m found =
    let before = bounded (OwnerCode.Local i x) (subst (λ z. IsThere z i x) is_m found) in omega (arith, before, is_i)

pub not_answered : (k r : Known) (i p : ℕ) → IsBounded k.state → i ≡ k.state.occurrences → r ≡ with_owners (locals_to i p) (with_occurrence k) → IsAnswered r i → ⊥
not_answered k r i p bounded is_i is_r found =
    elim (Contains-append_cases k.state.owners (locals_to i p) (OwnerCode.Result i) (subst (λ z. IsAnswered z i) is_r found)) [
      | inl a ↦ let before = bounded (OwnerCode.Result i) a in absurd (omega (arith, before, is_i))
      | inr q ↦ let z = in_locals i p (OwnerCode.Result i) q in absurd (cc z.2)
    ]

-- ---- statements without statements inside
pub ready_declaration : (src : Source) (ws : List Awaited) (s : State) (c : Context) (place : Place) (items : Bor (List InitialCode)) (a : Stmt) (ts : List Task) → a ≡ declaration place (map initial_of items.now)
    → FitsStatement (at src ws s) c a → Later (at src ws s) c.occurrence (declared a) ts → Ready (at src ws s) (Task.Declare place items c ∷ ts)
ready_declaration src ws s c place items a ts is fits later =
    (subst (λ x. FitsStatement (at src ws s) c x) is fits, (at src ws s, refl, subst (λ x. Later (at src ws s) c.occurrence (declared x) ts) is later))

pub ready_simple : (src : Source) (ws : List Awaited) (s : State) (c : Context) (x : Bor SimpleCode) (a : Stmt) (ts : List Task) → a ≡ simple (simple_of x.now)
    → FitsStatement (at src ws s) c a → Later (at src ws s) c.occurrence (declared a) ts → Ready (at src ws s) (Task.Simple x c ∷ ts)
ready_simple src ws s c x a ts is fits later = (
  action_fits src ws s c (action_of x.now.action) [] (λ n scope. IsScopedIn n scope (simple (simple_of x.now))) (subst (λ y. FitsStatement (at src ws s) c y) is fits),
  (at src ws s, refl, subst (λ y. Later (at src ws s) c.occurrence (declared y) ts) is later),
)

-- where nothing is made, what was left is ready
pub ready_left : (src : Source) (ws : List Awaited) (s : State) (i : ℕ) (xs : List ℕ) (ts : List Task) → xs ≡ [] → Later (at src ws s) i xs ts → Ready (at src ws s) ts
ready_left src ws s i xs ts none later = subst (λ l. Later (at src ws s) i l ts) none later s (grown_none s i)

pub needs_free : (src : Source) (ws : List Awaited) (s : State) (c : Context) (place : Place) (e : Expr) (a : Stmt) → a ≡ free place e → FitsStatement (at src ws s) c a → IsReady (at src ws s) c.occurrence e
needs_free src ws s c place e a is whole =
    let fits : FitsStatement (at src ws s) c (free place e) = subst (λ x. FitsStatement (at src ws s) c x) is whole in
    expression_ready (at src ws s) c.occurrence fits.made (program_of src.program fits.stands.sound.defs) (function_of c.function.now) _ e fits.are_made fits.lowerable fits.kinds

pub needs_assert : (src : Source) (ws : List Awaited) (s : State) (c : Context) (place : Place) (d : Cond) (a : Stmt) → a ≡ assert place d → FitsStatement (at src ws s) c a → IsTestReady (at src ws s) c.occurrence d
needs_assert src ws s c place d a is whole =
    let fits : FitsStatement (at src ws s) c (assert place d) = subst (λ x. FitsStatement (at src ws s) c x) is whole in
    test_ready (at src ws s) c.occurrence fits.made (program_of src.program fits.stands.sound.defs) (function_of c.function.now) d fits.are_made fits.lowerable fits.kinds

pub needs_assume : (src : Source) (ws : List Awaited) (s : State) (c : Context) (place : Place) (d : Cond) (a : Stmt) → a ≡ assume place d → FitsStatement (at src ws s) c a → IsTestReady (at src ws s) c.occurrence d
needs_assume src ws s c place d a is whole =
    let fits : FitsStatement (at src ws s) c (assume place d) = subst (λ x. FitsStatement (at src ws s) c x) is whole in
    test_ready (at src ws s) c.occurrence fits.made (program_of src.program fits.stands.sound.defs) (function_of c.function.now) d fits.are_made fits.lowerable fits.kinds

pub needs_assume_shape : (src : Source) (ws : List Awaited) (s : State) (c : Context) (place : Place) (predicate : PredId) (x : ℕ) (args : List Argument) (a : Stmt) → a ≡ assume_shape place predicate x args
    → FitsStatement (at src ws s) c a → IsThere (at src ws s) c.occurrence x × AreArgumentsReady (at src ws s) c.occurrence args
needs_assume_shape src ws s c place predicate x args a is whole =
    let fits : FitsStatement (at src ws s) c (assume_shape place predicate x args) = subst (λ y. FitsStatement (at src ws s) c y) is whole in
    (fits.are_made x fits.lowerable.0, arguments_ready (at src ws s) c.occurrence fits.made args fits.are_made fits.lowerable.1)

pub needs_assert_shape : (src : Source) (ws : List Awaited) (s : State) (c : Context) (place : Place) (predicate : PredId) (start : Argument) (args : List Argument) (a : Stmt) → a ≡ assert_shape place predicate start args
    → FitsStatement (at src ws s) c a → IsArgumentReady (at src ws s) c.occurrence start × AreArgumentsReady (at src ws s) c.occurrence args
needs_assert_shape src ws s c place predicate start args a is whole =
    let fits : FitsStatement (at src ws s) c (assert_shape place predicate start args) = subst (λ y. FitsStatement (at src ws s) c y) is whole in
    (argument_ready (at src ws s) c.occurrence fits.made start fits.are_made fits.lowerable.0, arguments_ready (at src ws s) c.occurrence fits.made args fits.are_made fits.lowerable.1)

turned : (o : Option Turns) → IsTrue (loops o) → IsSome o
turned None is = let never : false ≡ true = is in absurd (cc never)
turned (Some t) is = search rules

pub needs_break : (src : Source) (ws : List Awaited) (s : State) (c : Context) (place : Place) (a : Stmt) → a ≡ break_loop place → FitsStatement (at src ws s) c a → IsSome c.turns
needs_break src ws s c place a is whole =
    let fits : FitsStatement (at src ws s) c (break_loop place) = subst (λ x. FitsStatement (at src ws s) c x) is whole in turned c.turns fits.lowerable

pub needs_continue : (src : Source) (ws : List Awaited) (s : State) (c : Context) (place : Place) (a : Stmt) → a ≡ continue_loop place → FitsStatement (at src ws s) c a → IsSome c.turns
needs_continue src ws s c place a is whole =
    let fits : FitsStatement (at src ws s) c (continue_loop place) = subst (λ x. FitsStatement (at src ws s) c x) is whole in turned c.turns fits.lowerable

returned_fits : (src : Source) (ws : List Awaited) (s : State) (c : Context) (place : Place) (o : Option Right) → FitsStatement (at src ws s) c (returns place o) → IsReturnReady (at src ws s) c.occurrence o
returned_fits src ws s c place None fits = tt
returned_fits src ws s c place (Some right) fits =
    let q = fits.kinds in (
      subst (λ r. HasResult (at src ws s) c.occurrence r) q.1 fits.stands.result,
      right_fits src ws s c q.0 right [] _ (with_kinds (at src ws s) c [] (λ made. IsLowerableRight src.structs made right) _ (λ h. IsRight h q.0 right) _ fits q.2),
    )

pub needs_return : (src : Source) (ws : List Awaited) (s : State) (c : Context) (place : Place) (o : Option Right) (a : Stmt) → a ≡ returns place o → FitsStatement (at src ws s) c a → IsReturnReady (at src ws s) c.occurrence o
needs_return src ws s c place o a is whole = returned_fits src ws s c place o (subst (λ x. FitsStatement (at src ws s) c x) is whole)

-- ---- declarators
pub declared_low : (src : Source) (ws : List Awaited) (s : State) (c : Context) (item : Initial) → FitsItems (at src ws s) c (item ∷ []) → item.variable < length c.function.now.locals.items
declared_low src ws s c item fits = subst (λ n. item.variable < n) (length-map c.function.now.locals.items local_of) fits.scoped.0.0

pub declared_right : (src : Source) (ws : List Awaited) (s t : State) (c : Context) (x : ℕ) (o : Option Right) (right : Right) → o ≡ Some right → Grown s c.occurrence (x ∷ []) t
    → FitsItems (at src ws s) c (record { variable = x; value = o } ∷ []) → IsRightReady (at src ws t) c.occurrence right
declared_right src ws s t c x o right is grown whole =
    let fits : FitsItems (at src ws s) c (record { variable = x; value = Some right } ∷ []) = subst (λ r. FitsItems (at src ws s) c (record { variable = x; value = r } ∷ [])) is whole in
    let q = fits.kinds in
    right_fits src ws t c q.0.0 right [] Any
    (fits_on src ws _ s t c (x ∷ []) [] [] _ (λ made. IsLowerableRight src.structs (x ∷ made) right) (λ made. IsLowerableRight src.structs made right) (λ h. IsRight h q.0.0 right) (λ h. IsRight h q.0.0 right) _ Any grown (λ o. part_none _ _) (λ made p. p) (λ h z. z) (λ n scope r. tt)
    (with_kinds (at src ws s) c _ (λ made. IsLowerableRight src.structs (x ∷ made) right) _ (λ h. IsRight h q.0.0 right) _ (with_lowerable (at src ws s) c _ _ (λ made. IsLowerableRight src.structs (x ∷ made) right) _ _ fits fits.lowerable.0) q.0.2))

-- ---- the same, otherwise found
pub ready_same : (k m : Known) (ts us : List Task) → m ≡ k → us ≡ ts → Ready k ts → Ready m us
ready_same k m ts us e f ready = subst (λ x. Ready x us) (sym e) (subst (λ l. Ready k l) (sym f) ready)

-- the condition of a statement
pub needs_if : (src : Source) (ws vs : List Awaited) (s : State) (c : Context) (place : Place) (d : Cond) (a : Stmt) → FitsStatement (at src ws s) c (if_only place d a) → IsTestReady (at src vs s) c.occurrence d
needs_if src ws vs s c place d a fits = test_fits src vs s c d [] Any (fits_still src ws _ s s c _ _ _ _ _ _ (still_none s) (λ made p. p.0) (λ h q. q.0) fits)

pub needs_if_else : (src : Source) (ws vs : List Awaited) (s : State) (c : Context) (place : Place) (d : Cond) (a b : Stmt) → FitsStatement (at src ws s) c (if_else place d a b) → IsTestReady (at src vs s) c.occurrence d
needs_if_else src ws vs s c place d a b fits = test_fits src vs s c d [] Any (fits_still src ws _ s s c _ _ _ _ _ _ (still_none s) (λ made p. p.0) (λ h q. q.0) fits)

pub needs_while : (src : Source) (ws vs : List Awaited) (s : State) (c : Context) (place : Place) (d : Cond) (a : Stmt) → FitsStatement (at src ws s) c (while_loop place d a) → IsTestReady (at src vs s) c.occurrence d
needs_while src ws vs s c place d a fits = test_fits src vs s c d [] Any (fits_still src ws _ s s c _ _ _ _ _ _ (still_none s) (λ made p. p.0) (λ h q. q.0) fits)

-- ---- under a label that waits
call_under : (k : Known) (ws : List Awaited) (i : ℕ) (r : Option Kind) (d : Call) → IsCallReady k i r d → IsCallReady (at k.source ws k.state) i r d
call_under k ws i r d ready =
    record {
      sound = ready.sound;
      bounded = ready.bounded;
      callee = ready.callee;
      there = ready.there;
      counted = ready.counted;
      many = ready.many;
      arguments = all_ready_waiting k ws i d.arguments ready.arguments;
      answers = ready.answers;
    }

right_under : (k : Known) (ws : List Awaited) (i : ℕ) (right : Right) → IsRightReady k i right → IsRightReady (at k.source ws k.state) i right
right_under k ws i (expression e) ready = ready_waiting k ws i e ready
right_under k ws i (result_of d) ready = (ready.0, call_under k ws i _ d ready.1)
right_under k ws i (allocation shape fields) ready = ready

action_under : (k : Known) (ws : List Awaited) (i : ℕ) (a : Action) → IsActionReady k i a → IsActionReady (at k.source ws k.state) i a
action_under k ws i (assign l right) ready = (ready.0, right_under k ws i right ready.1)
action_under k ws i (add l e) ready = (ready.0, ready_waiting k ws i e ready.1)
action_under k ws i (subtract l e) ready = (ready.0, ready_waiting k ws i e ready.1)
action_under k ws i (call d) ready = (ready.0, call_under k ws i _ d ready.1)

last_waiting : (k : Known) (ws : List Awaited) (i : ℕ) (o : Option Simple) → IsLastReady k i o → IsLastReady (at k.source ws k.state) i o
last_waiting k ws i None ready = tt
last_waiting k ws i (Some x) ready = action_under k ws i x.action ready

pub last_under : (k m : Known) (l : Label) (i : ℕ) (o : Option Simple) → k ≡ with_label l m → IsLastReady k i o → IsLastReady m i o
last_under k m l i o is ready = last_waiting (with_label l m) m.waiting i o (subst (λ x. IsLastReady x i o) is ready)

-- ---- after the body of a `for`
pub ready_turn_none : (src : Source) (ws : List Awaited) (s : State) (i : ℕ) (h : Bor ForHead) (l m : Label) (ts : List Task) → Later (at src ws s) i [] ts → Ready (with_label m (at src ws s)) (Task.EndFor h l m i ∷ ts)
ready_turn_none src ws s i h l m ts later = (tt, (at src ws s, refl, λ t f. later t f))

pub ready_turn : (src : Source) (ws : List Awaited) (s : State) (c : Context) (h : Bor ForHead) (x : Bor SimpleCode) (l m : Label) (ts : List Task) → (head_of h.now).last ≡ Some (simple_of x.now)
    → IsLastReady (with_label m (at src ws s)) c.occurrence (head_of h.now).last → Later (at src ws s) c.occurrence [] ts
    → Ready (with_label m (at src ws s)) (Task.Simple x c ∷ Task.EndFor h l m c.occurrence ∷ ts)
ready_turn src ws s c h x l m ts is last later =
    let k : Known = with_label m (at src ws s) in
    (subst (λ o. IsLastReady k c.occurrence o) is last, (k, refl, λ t f. (tt, (at src ws t, refl, λ u g. later u (grown_on s t u c.occurrence c.occurrence [] f g)))))

-- ---- what makes nothing
pub nothing_declared : (a : Stmt) → IsCommand a → declared a ≡ []
nothing_declared (declaration place items) is = absurd is
nothing_declared (block xs ss) is = absurd is
nothing_declared empty is = refl
nothing_declared (simple x) is = refl
nothing_declared (free place e) is = refl
nothing_declared (assert place d) is = refl
nothing_declared (assume place d) is = refl
nothing_declared (assume_shape place predicate x os) is = refl
nothing_declared (assert_shape place predicate a os) is = refl
nothing_declared (assert_empty place) is = refl
nothing_declared (if_only place d a) is = absurd is
nothing_declared (if_else place d a b) is = absurd is
nothing_declared (while_loop place d a) is = absurd is
nothing_declared (do_loop place a d) is = absurd is
nothing_declared (for_loop h a) is = absurd is
nothing_declared (break_loop place) is = refl
nothing_declared (continue_loop place) is = refl
nothing_declared (returns place right) is = refl

pub nothing_made : (t : Task) → IsBehind t → makes t ≡ []
nothing_made (Task.Statements ss c) is = absurd is
nothing_made (Task.Statement a c) is = absurd is
nothing_made (Task.Simple x c) is = refl
nothing_made (Task.Declare place items c) is = absurd is
nothing_made (Task.EndBlock xs i) is = refl
nothing_made (Task.Otherwise l m) is = refl
nothing_made (Task.Merge place l) is = refl
nothing_made (Task.EndWhile place l m) is = refl
nothing_made (Task.EndDo place d l turns i) is = refl
nothing_made (Task.For h a c) is = absurd is
nothing_made (Task.ForTurn h l turns c) is = refl
nothing_made (Task.EndFor h l m i) is = refl
nothing_made (Task.EndCall place c) is = refl
nothing_made (Task.Take place target answer i) is = refl
nothing_made (Task.Answer place own answer i) is = refl

-- ---- the task that is next
pub ready_next : (k : Known) (t u : Task) (ts : List Task) → t ≡ u → Ready k (t ∷ ts) → Ready k (u ∷ ts)
ready_next k t u ts is ready = subst (λ x. Ready k (x ∷ ts)) is ready

-- where no label waits for a task
pub later_now : (k m : Known) (i : ℕ) (xs : List ℕ) (ts : List Task) → k ≡ m → Later m i xs ts → Later k i xs ts
later_now k m i xs ts is later = subst (λ x. Later x i xs ts) (sym is) later

-- ---- calls
pub ready_call : (src new : Source) (ws : List Awaited) (s t : State) (i j : ℕ) (ys : List ℕ) (ts : List Task) → new ≡ src → ((n : ℕ) → Grown s n [] t) → s.occurrences ≤ j → Later (at src ws s) i [] ts → Later (at new ws t) j ys ts
ready_call src new ws s t i j ys ts is f latest later = λ u g. subst (λ x. Ready (at x ws u) ts) (sym is) (later u (grown_beyond s t u i j ys (f i) latest g))

pub ready_take : (src new : Source) (ws : List Awaited) (s t : State) (i j : ℕ) (ys : List ℕ) (place : Place) (target : Target) (answer : Option VarId) (ts : List Task) → new ≡ src → ((n : ℕ) → Grown s n [] t) → s.occurrences ≤ j
    → IsNamed (at src ws s) i (target_of target) → IsSome answer → Later (at src ws s) i [] ts → Later (at new ws t) j ys (Task.Take place target answer i ∷ ts)
ready_take src new ws s t i j ys place target answer ts is f latest named some later =
    λ u g. subst (λ x. Ready (at x ws u) (Task.Take place target answer i ∷ ts)) (sym is) (
      ((g.still.owners _ ((f i).still.owners _ named.0), named.1), some),
      (at src ws u, refl, λ v d. later v (grown_on s u v i i [] (grown_beyond s t u i j ys (f i) latest g) d)),
    )

pub ready_answer : (src new : Source) (ws : List Awaited) (s t : State) (i j : ℕ) (ys : List ℕ) (place : Place) (own : VarId) (answer : Option VarId) (ts : List Task) → new ≡ src → ((n : ℕ) → Grown s n [] t) → s.occurrences ≤ j
    → i < s.occurrences → IsSome answer → Later (at src ws s) i [] ts → Later (at new ws t) j ys (Task.Answer place own answer i ∷ ts)
ready_answer src new ws s t i j ys place own answer ts is f latest low some later =
    λ u g. subst (λ x. Ready (at x ws u) (Task.Answer place own answer i ∷ ts)) (sym is) (
      (lower_still t u i g.still (lower_still s t i (f i).still low), some),
      (at src ws u, refl, λ v d. later v (grown_on s u v i i [] (grown_beyond s t u i j ys (f i) latest g) d)),
    )

-- the result that is wanted is there
some_kind : (o : Option Kind) (kind : Kind) → o ≡ Some kind → IsSome o
some_kind None kind is = absurd (cc is)
some_kind (Some k) kind is = search rules

pub answered_there : (k : Known) (i : ℕ) (kind : Kind) (d : Call) (f : Function) (answer : Option VarId) → IsCallReady k i (Some kind) d → slice_get (functions_in k.source) d.function ≡ Some f
    → (IsSome f.result → IsSome answer) → IsSome answer
answered_there k i kind d f answer ready there answers =
    let same : ready.callee ≡ f = same_Some ready.callee f (sym ready.there ∙ there) in
    answers (some_kind f.result kind (sym (ap (λ (x : Function). x.result) same) ∙ ready.answers))

-- a call that is ready has as many arguments as the function has parameters
pub call_counts : (k : Known) (i : ℕ) (r : Option Kind) (d : Call) (f : Function) → IsCallReady k i r d → slice_get (functions_in k.source) d.function ≡ Some f
    → (length d.arguments ≡ f.parameters) × (f.parameters ≤ length f.locals)
call_counts k i r d f ready there =
    let same : ready.callee ≡ f = same_Some ready.callee f (sym ready.there ∙ there) in
    subst (λ (x : Function). (length d.arguments ≡ x.parameters) × (x.parameters ≤ length x.locals)) same (ready.many, ready.counted)

-- ---- the entry
pub entered_on : (src : Source) (ws : List Awaited) (s t : State) → Still s t → IsEntered (at src ws s) → IsEntered (at src ws t)
entered_on src ws s t still entered = (lower_still s t 0 still entered.0, result_on src ws ws s t 0 (entry_result src) still entered.1, entered.2)

-- ---- variables that are made
pub block_grown : (s : State) (i : ℕ) → Grown s i [] (record { owners = s.owners; blocks = suc s.blocks; occurrences = s.occurrences })
block_grown s i =
    record {
      still = record { owners = λ o there. there; blocks = omega arith; occurrences = omega arith; bounded = λ b. b };
      made = λ x found. absurd (nothing_in x found);
      only = λ j x low there. inl there;
    }

pub received_still : (k : Known) (i p : ℕ) → i ≡ k.state.occurrences → Still k.state (with_owners (locals_to i p) (with_occurrence k)).state
received_still k i p is =
    still_on k.state (with_occurrence k).state (with_owners (locals_to i p) (with_occurrence k)).state (occurrence_still k)
    (owners_still (with_occurrence k) (locals_to i p) (λ z found. locals_within i p (suc k.state.occurrences) z (omega (arith, is)) found))

pub local_made : (k : Known) (i x : ℕ) → IsThere (with_local i x k) i x
local_made k i x = Contains-push k.state.owners (OwnerCode.Local i x)

pub local_grown : (k : Known) (i x : ℕ) → i < k.state.occurrences → Grown k.state i (x ∷ []) (with_local i x k).state
local_grown k i x low =
    record {
      still = owners_still k (OwnerCode.Local i x ∷ []) (λ o found. subst (λ p. IsWithin k.state.occurrences p) (only_in (OwnerCode.Local i x) o found) low);
      made = λ y found. subst (λ z. Contains (k.state.owners ++ OwnerCode.Local i x ∷ []) (OwnerCode.Local i z)) (only_in x y found) (local_made k i x);
      only = λ j y before found. elim (Contains-push_cases k.state.owners (OwnerCode.Local i x) (OwnerCode.Local j y) found) [
        | inl a ↦ inl a
        | inr same ↦ let both = local_number i j x y same in inr (sym both.0, subst (λ z. Contains (x ∷ []) z) both.1 (0, omega arith, refl))
      ];
    }

pub local_then : (k : Known) (i x : ℕ) (t : State) → i < k.state.occurrences → Grown (with_local i x k).state i [] t → Grown k.state i (x ∷ []) t
local_then k i x t low g = grown_on k.state (with_local i x k).state t i i (x ∷ []) (local_grown k i x low) g

-- what is received one after the other was not there
pub not_received : (k l : Known) (i n : ℕ) → ((x : ℕ) → IsThere k i x → ⊥) → l ≡ with_owners (locals_to i n) k → IsThere l i n → ⊥
not_received k l i n none is found =
    elim (Contains-append_cases k.state.owners (locals_to i n) (OwnerCode.Local i n) (subst (λ z. IsThere z i n) is found)) [
      | inl a ↦ none n a
      | inr q ↦ let z = in_locals i n (OwnerCode.Local i n) q in let same = (local_number i i z.0 n z.2).1 in let low = z.1 in absurd (omega (arith, same, low))
    ]

-- the body of a call that is begun fits
pub begun_fits : (k m : Known) (d : Call) (e : Entered) → IsSound k.source → IsBounded k.state → IsBegun k d e m → FitsAll m e.callee (function_of e.callee.function.now).body
begun_fits k m d e sound bounded b =
    body_fits m e.callee d.function (subst (λ s. IsSound s) (sym b.source) sound) (subst (λ s. slice_get (functions_in s) d.function ≡ Some (function_of e.callee.function.now)) (sym b.source) b.there)
    b.occurs b.block b.turns ((b.grown 0).still.bounded bounded) b.parameters b.no_others b.result

pub ready_two : (k m : Known) (now middle more : List Task) (t v : Task) → m ≡ k → now ≡ t ∷ middle → middle ≡ v ∷ more → Ready k (t ∷ v ∷ more) → Ready m now
ready_two k m now middle more t v e first second ready = ready_same k m (t ∷ v ∷ more) now e (first ∙ ap (λ l. t ∷ l) second) ready

pub entry_alone : (src : Source) (f : Function) → IsSound src → slice_get (functions_in src) src.program.entry ≡ Some f → f.parameters ≡ 0
entry_alone src f sound there =
    let entry = sound.lowerable.entry in
    subst (λ (x : Function). x.parameters ≡ 0) (same_Some entry.0 f (sym entry.1 ∙ there)) entry.2

pub entry_there : (src : Source) → IsSound src → src.program.entry < length (functions_in src)
entry_there src sound = let entry = sound.lowerable.entry in slice_get_within (functions_in src) src.program.entry entry.0 entry.1

pub entry_kind : (src : Source) (f : Function) → slice_get (functions_in src) src.program.entry ≡ Some f → entry_result src ≡ f.result
entry_kind src f there = ap (λ o. option_and_then (λ (x : Function). x.result) o) there

-- where the entry begins, its body fits, and it is entered
pub entry_begins : (k m : Known) (e : Context) → IsSound k.source → k.state.owners ≡ [] → k.state.occurrences ≡ 0 → k.waiting ≡ [] → slice_get (functions_in k.source) k.source.program.entry ≡ Some (function_of e.function.now) → e.occurrence ≡ 0
    → e.block ≡ None → e.turns ≡ None → m ≡ with_awaited e.occurrence e.function.now.result (with_occurrence k) → FitsAll m e (function_of e.function.now).body × IsEntered m
entry_begins k m e sound no_owners no_occurrences none_waits there first no_block no_turns is =
    let o : Known = with_occurrence k in
    let kind = e.function.now.result in
    let m2 : Known = with_awaited e.occurrence kind o in
    let same : m2.source ≡ k.source = awaited_source o e.occurrence kind in
    let low : e.occurrence < o.state.occurrences = omega (arith, first) in
    let still : Still o.state m2.state = awaited_still o e.occurrence kind low in
    let more = still.occurrences in
    let bounded : IsBounded m2.state = still.bounded (λ p found. absurd (nothing_in p (subst (λ l. Contains l p) no_owners found))) in
    let there2 : slice_get (functions_in m2.source) m2.source.program.entry ≡ Some (function_of e.function.now) =
    subst (λ s. slice_get (functions_in s) s.program.entry ≡ Some (function_of e.function.now)) (sym same) there in
    let alone : e.function.now.parameters ≡ 0 = entry_alone k.source (function_of e.function.now) sound there in
    let has = awaited_result o e.occurrence kind in
    let P : Known → Type 0 = λ x. FitsAll x e (function_of e.function.now).body × IsEntered x in
    subst P (sym is) (
      body_fits m2 e m2.source.program.entry (subst (λ s. IsSound s) (sym same) sound) there2 (omega (arith, low, more)) no_block no_turns bounded (λ x lower. absurd (omega (arith, alone, lower)))
          (λ x found. absurd (nothing_in (OwnerCode.Local e.occurrence x) (subst (λ l. Contains l (OwnerCode.Local e.occurrence x)) no_owners (awaited_local o e.occurrence e.occurrence x kind found)))) has,
      (
        omega (arith, more),
        subst (λ r. HasResult m2 0 r) (sym (entry_kind m2.source (function_of e.function.now) there2)) (subst (λ i. HasResult m2 i kind) first has),
        awaited_waiting o e.occurrence kind ∙ ap (λ j. Awaited.Out j ∷ k.waiting) no_occurrences ∙ ap (λ l. Awaited.Out 0 ∷ l) none_waits,
      ),
    )

pub main_answered : (m : Known) (f : Function) (i : ℕ) → IsEntered m → slice_get (functions_in m.source) m.source.program.entry ≡ Some f → i ≡ 0 → IsMain f → IsAnswered m i
main_answered m f i entered there first main =
    subst (λ j. IsAnswered m j) (sym first) (subst (λ r. HasResult m 0 r) (entry_kind m.source f there ∙ main.1) entered.1)

pub source_awaited : (k m b : Known) (i : ℕ) (o : Option Kind) → b.source ≡ m.source → m ≡ with_awaited i o (with_occurrence k) → b.source ≡ k.source
source_awaited k m b i o same is = same ∙ ap (λ x. x.source) is ∙ awaited_source (with_occurrence k) i o

pub one_low : 0 < 1
one_low = omega arith

pub nobody_answered : (k m : Known) (i : ℕ) → k.state.owners ≡ [] → m ≡ with_occurrence k → IsAnswered m i → ⊥
nobody_answered k m i none is found = nothing_in (OwnerCode.Result i) (subst (λ l. Contains l (OwnerCode.Result i)) none (subst (λ z. IsAnswered z i) is found))
