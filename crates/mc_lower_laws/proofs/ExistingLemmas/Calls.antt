-- The points of calls, simple statements and declarations exist.
use Rattle.std.proofs.Common.{◌≡◌, ◌≤◌, ◌<◌, ◌+◌, ◌++◌, ◌⊎◌, ℕ, zero, suc, ltb, List, [], ◌∷◌, Option, Some, None, map, take, length, refl, sym, ap, subst, ◌∙◌, arith, inl, inr, Contains, append-nil, slice_index, length-take-le, ltb-true, lt-ltb}
use Rattle.std.proofs.lemmas.List.Elements.{Contains-append_left, Contains-append_right, Contains-append_cases}
use Rattle.std.proofs.lemmas.Option.{same_Some, slice_get_cases}
use Rattle.std.specs.List.{AllZip}
use Rattle.std.specs.Prelude.{slice_get}
use Rattle.mc_base.specs.declared.ids.VarId.{VarId}
use Rattle.mc_base.specs.declared.plain.Kind.{Kind}
use Rattle.mc_base.specs.declared.text.place.Place.{Place}
use Rattle.mc_flow.specs.declared.defs.shapes.Structs.{Structs}
use Rattle.mc_flow.specs.declared.instr.Operand.{Operand}
use Rattle.mc_flow.specs.declared.instr.Operand.TheVariants.{Var}
use Rattle.mc_flow.specs.declared.instr.Instr.TheVariants.{Undef}
use Rattle.mc_semantics.specs.Resolved.Programs.{Left, Expr, Call, Right, expression, result_of, allocation, Action, assign, add, subtract, call, Simple, Initial, Start, declares as starts_with, performs as begins_with, Function, Local, Stmts, Program}
use Rattle.mc_semantics.specs.Resolved.Programs as source
use Rattle.mc_lower_spec.specs.Graphs.{Graph, Owner, local, result, plain, Stage, stage, point, var, Appends, appends, Undefines, AreMade, Creates}
use Rattle.mc_lower_spec.specs.Values.{a_sum, a_difference, EvaluatesAll, Puts}
use Rattle.mc_lower_spec.specs.Lowering.{in_body, Receives, Passes, Awaits, Calls, calls, Performs, performs_assign, performs_result, performs_add, performs_subtract, performs_call, Declares, declares_none, declares_undefined, declares_value}
use Rattle.mc_lower_spec.specs.Lowering.{Starts, starts_nothing, starts_declaring, starts_performing, Finishes, finishes_none, finishes, LowersAll}
use Rattle.mc_lower_spec.specs.Length.Lengths.{clearing, all_operations, putting, assigning, calling, calling_rest, acting, initializing, declaring, starting, finishing, items_declared, start_declared, all_declared, stretch_all, awaiting, below}
use Rattle.mc_lower_spec.specs.Scopes.{DeclareIn, StartsIn}
use Rattle.mc_lower_laws.specs.Lowerable.Lowerable.{AllNameOnly, IsLowerableRight, IsLowerableValue, IsLowerableAction, AreLowerableItems, IsLowerableStart, IsLowerableLast, IsLowerableFunction, IsOnce}
use Rattle.mc_lower_laws.specs.Valid.Kinds.{Here, IsOf, IsCall, IsLeft, IsAction, IsDeclared, AreDeclared, IsStart, IsLast}
use Rattle.mc_lower_laws.specs.Existing.Ranks.{right_calls, value_calls, action_calls, items_calls, start_calls, last_calls}
use Rattle.mc_lower_laws.proofs.ExistingLemmas.Tables.{Draft, Owned, In, Adds, Source, Piece, kept_in, lays_both, one_longer, among_one, adds_within, nothing, on, then_on, meant, up_to}
use Rattle.mc_lower_laws.proofs.ExistingLemmas.Values.{laying, undefining, creating, AreNamed, still_named, evaluating_all}
use Rattle.mc_lower_laws.proofs.ExistingLemmas.Choosing.{AreExact, picked, are_picked}
use Rattle.mc_lower_laws.proofs.ExistingLemmas.Actions.{putting_in, assigning_expression, assigning_allocation, changing_by, numbers_from, from_low, low_from, receiving, passing, awaited, awaiting_one}
use Rattle.mc_lower_laws.proofs.ScopedLemmas.Lists.{contains_none, mapped, unmapped}
use Rattle.mc_lower_spec.proofs.Owning.{occurrence}
use Rattle.mc_lower_spec.proofs.LengthLemmas.Least.{below_low}
use Rattle.mc_lower_laws.proofs.LowerableLemmas.Wholes.{in_below}

-- ---- numbers
once_left : (xs ys : List ℕ) → IsOnce (xs ++ ys) → IsOnce xs
once_left [] ys once = tt
once_left (x ∷ xs) ys once = (λ among. once.0 (Contains-append_left xs ys x among), once_left xs ys once.1)

once_right : (xs ys : List ℕ) → IsOnce (xs ++ ys) → IsOnce ys
once_right [] ys once = once
once_right (x ∷ xs) ys once = once_right xs ys once.1

once_apart : (xs ys : List ℕ) (y : ℕ) → IsOnce (xs ++ ys) → Contains xs y → Contains ys y → ⊥
once_apart [] ys y once here there = contains_none y here
once_apart (x ∷ xs) ys y once (zero, within, is) there = once.0 (Contains-append_right xs ys x (subst (λ z. Contains ys z) (sym is) there))
once_apart (x ∷ xs) ys y once (suc k, within, is) there = once_apart xs ys y once.1 (k, omega (arith, within), is) there

-- ---- where a part of an occurrence stands
abbrev number_of : Owner → ℕ
number_of (local o y) = y
number_of (result o) = o
number_of (Owner.temporary j kind) = j

-- in an occurrence of a function whose `return` goes to a point that comes later: of its variables exactly these are made, these are new,
-- its result is there, and no variable is of an occurrence whose `return` goes to one of the points that come now
pub record Stands (f : Function) (out : ℕ) (made known : List ℕ) (n m : ℕ) (old : List Owned) (news : List ℕ) : Type 0 where
  pub within : m ≤ out
  pub exact : AreExact out made old
  pub named : AreNamed out known old
  pub free : (o : Owner) (q : ℕ) → occurrence o ≡ Some q → n ≤ q → q < m → In old o → ⊥
  pub answered : (k : Kind) → f.result ≡ Some k → In old (result out)
  pub new : (x : ℕ) → Contains news x → Contains made x → ⊥
  pub once : IsOnce news

-- a first part
pub first : {f : Function} {out n m l : ℕ} {made known : List ℕ} {old : List Owned} (xs ys : List ℕ) → m ≤ l → Stands f out made known n l old (xs ++ ys) → Stands f out made known n m old xs
first xs ys less s =
    let bound = s.within in
    record {
      within = omega (arith, bound, less);
      exact = s.exact;
      named = s.named;
      free = λ o q of low high there. s.free o q of low (omega (arith, high, less)) there;
      answered = s.answered;
      new = λ x among made. s.new x (Contains-append_left xs ys x among) made;
      once = once_left xs ys s.once;
    }

-- what comes after it
pub after : {f : Function} {out n m l : ℕ} {made known : List ℕ} {old all : List Owned} (xs ys : List ℕ) → n ≤ m → m ≤ l → Stands f out made known n l old (xs ++ ys) → Adds n m (map (local out) xs) old all
    → Stands f out (made ++ xs) (xs ++ known) m l all ys
after {out = out} {n = n} {m = m} {l = l} {made = made} {known = known} {old = old} {all = all} xs ys low high s a =
    let bound = s.within in
    record {
      within = bound;
      exact = record {
        has = λ x among. elim (Contains-append_cases made xs x among) [
          | inl early ↦ kept_in a.keeps (s.exact.has x early)
          | inr late ↦ a.has (local out x) (mapped (local out) xs x late)
        ];
        only = λ x there. elim (a.only (local out x) out refl there) [
          | inl early ↦ Contains-append_left made xs x (s.exact.only x early)
          | inr late ↦ elim late [
            | inl own ↦
                let (y, among, same) = unmapped (local out) xs (local out x) own in
                Contains-append_right made xs x (subst (λ z. Contains xs z) (ap number_of same) among)
            | inr inner ↦ absurd (omega (arith, inner.1, high, bound))
          ]
        ];
      };
      named = record {
        has = λ x among. elim (Contains-append_cases xs known x among) [
          | inl late ↦ a.has (local out x) (mapped (local out) xs x late)
          | inr early ↦ kept_in a.keeps (s.named.has x early)
        ];
      };
      free = λ o q of up less there. elim (a.only o q of there) [
        | inl early ↦ s.free o q of (omega (arith, up, low)) less early
        | inr late ↦ elim late [
          | inl own ↦
              let (y, among, same) = unmapped (local out) xs o own in
              let e : Some out ≡ Some q = ap occurrence same ∙ of in
              let here : out ≡ q = same_Some out q e in
              omega (arith, here, less, bound)
          | inr inner ↦ omega (arith, inner.1, up)
        ]
      ];
      answered = λ k is. kept_in a.keeps (s.answered k is);
      new = λ x among there. elim (Contains-append_cases made xs x there) [
        | inl early ↦ s.new x (Contains-append_right xs ys x among) early
        | inr late ↦ once_apart xs ys x s.once late among
      ];
      once = once_right xs ys s.once;
    }

-- after a part that makes no variable of the occurrence
pub still : {f : Function} {out n m l : ℕ} {made known xs : List ℕ} {old all : List Owned} → n ≤ m → m ≤ l → Stands f out made known n l old xs → Adds n m [] old all → Stands f out made known m l all xs
still {f = f} {out = out} {m = m} {l = l} {made = made} {known = known} {xs = xs} {all = all} low high s a =
    subst (λ ys. Stands f out ys known m l all xs) (append-nil made) (after [] xs low high s a)

-- after the last part
pub done : {f : Function} {out n m l : ℕ} {made known : List ℕ} {old all : List Owned} (xs : List ℕ) → n ≤ m → m ≤ l → Stands f out made known n l old xs → Adds n m (map (local out) xs) old all → Stands f out (made ++ xs) (xs ++ known) m l all []
done {f = f} {out = out} {n = n} {l = l} {made = made} {known = known} {old = old} xs low high s a =
    after xs [] low high (subst (λ ys. Stands f out made known n l old ys) (sym (append-nil xs)) s) a

-- ---- calls
-- what is made for another occurrence lasts for none here
hidden : {n m : ℕ} {mine : List Owner} {old all : List Owned} → ((o : Owner) → Contains mine o → (q : ℕ) × (occurrence o ≡ Some q) × (n ≤ q) × (q < m)) → Adds n m mine old all → Adds n m [] old all
hidden {old = old} inner a =
    record {
      keeps = a.keeps;
      once = a.once;
      only = λ o q of there. elim (a.only o q of there) [
        | inl early ↦ inl early
        | inr late ↦ elim late [
          | inl own ↦
              let (p, of_too, low, high) = inner o own in
              let same : p ≡ q = same_Some p q (sym of_too ∙ of) in
              inr (inr (omega (arith, low, same), omega (arith, high, same)))
          | inr within ↦ inr (inr within)
        ]
      ];
      has = λ o among. absurd (contains_none o among);
    }

pub hiding : {z : Source} {n m : ℕ} {mine : List Owner} {old : List Owned} {R : Graph → Stage → Stage → Type 0} → ((o : Owner) → Contains mine o → (q : ℕ) × (occurrence o ≡ Some q) × (n ≤ q) × (q < m)) → Piece z n m mine old R → Piece z n m [] old R
hiding inner p = record { all = p.all; adds = hidden inner p.adds; laid = p.laid }

as_long : {X Y : Type 0} (R : X → Y → Type 0) (xs : List X) (ys : List Y) → AllZip R xs ys → length xs ≡ length ys
as_long R [] [] zipped = refl
as_long R [] (y ∷ ys) zipped = absurd zipped
as_long R (x ∷ xs) [] zipped = absurd zipped
as_long R (x ∷ xs) (y ∷ ys) zipped = ap suc (as_long R xs ys zipped.1)

-- the arguments are evaluated and copied to these variables
record PassesAll (g : Graph) (out : ℕ) (place : Place) (es : List Expr) (vs : List VarId) (s u : Stage) : Type 0 where
  operands : List Operand
  temporaries : List VarId
  evaluated : Stage
  copied : Stage
  evaluates : EvaluatesAll g out place es [] s operands temporaries evaluated
  passes : Passes g place vs operands evaluated copied
  undefines : Undefines g place temporaries copied u

abbrev preparing : List Expr → ℕ
preparing es = all_operations es + length es + clearing (all_operations es)

passing_all : {z : Source} {out : ℕ} (h : Here) (known : List ℕ) (ls : List Local) (n : ℕ) (old : List Owned) (place : Place) (es : List Expr) (vs : List VarId) → h.structs ≡ z.structs → AreNamed out known old → AllNameOnly known es
    → AllZip (λ e l. IsOf h l.kind e) es ls → length vs ≡ length es → Piece z n (n + preparing es) [] old (λ g s u. PassesAll g out place es vs s u)
passing_all {z = z} {out = out} h known ls n old place es vs same named names of fit =
    let x = evaluating_all {z = z} {out = out} {place = place} h known ls n old es [] same named names of in
    let copies = passing {z = z} (n + all_operations es) x.piece.all place vs x.operands (omega (arith, fit, x.as_many)) in
    let clears = undefining {z = z} ((n + all_operations es) + length x.operands) copies.all place x.temporaries in
    let ends : Piece z (n + all_operations es) (((n + all_operations es) + length x.operands) + clearing (length x.temporaries)) [] x.piece.all (λ g s u. (i : Stage) × Passes g place vs x.operands s i × Undefines g place x.temporaries i u) =
    then_on copies clears (λ g s i u is a b. (i, a, b)) in
    let many : length x.temporaries ≡ all_operations es = omega (arith, x.many) in
    let clear : clearing (length x.temporaries) ≡ clearing (all_operations es) = ap clearing many in
    let sizes : ((n + all_operations es) + length x.operands) + clearing (length x.temporaries) ≡ n + preparing es = omega (arith, clear, x.as_many) in
    up_to {R = λ g s u. PassesAll g out place es vs s u} sizes
    (then_on x.piece ends (λ g s i u is a (j, b, c). record { operands = x.operands; temporaries = x.temporaries; evaluated = i; copied = j; evaluates = a; passes = b; undefines = c }))

-- a call up to the body of the function
record Begins (g : Graph) (f : Function) (inner out : ℕ) (place : Place) (es : List Expr) (ret : Option VarId) (s u : Stage) : Type 0 where
  variables : List VarId
  received : Stage
  passed : Stage
  receives : Receives g f inner 0 f.parameters s variables received
  passes : PassesAll g out place es variables received passed
  awaits : Awaits g inner place f.result passed ret u

abbrev mine_of : ℕ → Function → List Owner
mine_of inner f = map (local inner) (numbers_from 0 f.parameters) ++ awaited inner f.result

record Begun (z : Source) (f : Function) (inner out n : ℕ) (place : Place) (old : List Owned) (es : List Expr) : Type 0 where
  ret : Option VarId
  some : (k : Kind) → f.result ≡ Some k → (v : VarId) × (ret ≡ Some v)
  piece : Piece z n ((n + preparing es) + awaiting f.result) (mine_of inner f) old (λ g s u. Begins g f inner out place es ret s u)

result_new : {n m l inner : ℕ} {old all : List Owned} (xs : List ℕ) → ((o : Owner) (q : ℕ) → occurrence o ≡ Some q → n ≤ q → q < m → In old o → ⊥) → n ≤ inner → inner < m → l ≤ inner → Adds n l (map (local inner) xs) old all → In all (result inner) → ⊥
result_new {inner = inner} xs free low high bound a there =
    elim (a.only (result inner) inner refl there) [
      | inl early ↦ free (result inner) inner refl low high early
      | inr late ↦ elim late [
        | inl own ↦ let (x, among, same) = unmapped (local inner) xs (result inner) own in cc same
        | inr within ↦ omega (arith, within.1, bound)
      ]
    ]

local_there : (ls : List Local) (y : ℕ) → y < length ls → (l : Local) × (slice_get ls y ≡ Some l)
local_there ls y less =
    elim ((slice_get_cases ls y).1) [
      | inl here ↦ (here.0, here.2)
      | inr past ↦ absurd (omega (arith, past.0, less))
    ]

beginning : {z : Source} (h : Here) (f : Function) (inner out n m : ℕ) (known : List ℕ) (place : Place) (old : List Owned) (es : List Expr) → h.structs ≡ z.structs → AreNamed out known old → AllNameOnly known es
    → AllZip (λ e l. IsOf h l.kind e) es (take f.parameters f.locals) → f.parameters ≤ length f.locals
    → ((o : Owner) (q : ℕ) → occurrence o ≡ Some q → n ≤ q → q < m → In old o → ⊥) → (n + preparing es) + awaiting f.result ≤ inner → inner < m → Begun z f inner out n place old es
beginning {z = z} h f inner out n m known place old es same named names of counted free low high =
    let (vs, as_many, receives) = receiving {z = z} f inner 0 f.parameters n old (λ y less. local_there f.locals y (omega (arith, less, counted))) (λ y up there. free (local inner y) inner refl (omega (arith, low)) high there) in
    let taken : length (take f.parameters f.locals) ≡ f.parameters = length-take-le f.parameters f.locals counted in
    let zipped : length es ≡ length (take f.parameters f.locals) = as_long (λ e l. IsOf h l.kind e) es (take f.parameters f.locals) of in
    let fit : length vs ≡ length es = omega (arith, as_many, taken, zipped) in
    let passes = passing_all {z = z} {out = out} h known (take f.parameters f.locals) n receives.all place es vs same (still_named receives.adds named) names of fit in
    let before : Piece z n (n + preparing es) (map (local inner) (numbers_from 0 f.parameters)) old (λ g s u. (i : Stage) × Receives g f inner 0 f.parameters s vs i × PassesAll g out place es vs i u) =
    then_on receives passes (λ g s i u is a b. (i, a, b)) in
    let r = awaiting_one {z = z} (n + preparing es) before.all inner place f.result (result_new {all = before.all} (numbers_from 0 f.parameters) free (omega (arith, low)) high (omega (arith, low)) before.adds) in
    record {
      ret = r.ret;
      some = r.some;
      piece = on {S = λ g s u. Awaits g inner place f.result s r.ret u} {T = λ g s u. Begins g f inner out place es r.ret s u} before r.piece (λ g s i u is (j, a, b) c. record { variables = vs; received = j; passed = i; receives = a; passes = b; awaits = c });
    }

-- ---- the body
-- a function that may be called: its count is in the table, and whatever variables were made before, its body has its points
pub record Callable (z : Source) (table : List ℕ) (i : ℕ) (f : Function) : Type 0 where
  pub lowerable : IsLowerableFunction z.structs f
  pub counted : f.parameters ≤ length f.locals
  pub exact : slice_index table i ≡ calling_rest table f
  pub body : (out n : ℕ) (old : List Owned) → Stands f out (below f.parameters) (below f.parameters) n (n + stretch_all table (below f.parameters) [] f.body) old (all_declared f.body)
      → Piece z n (n + stretch_all table (below f.parameters) [] f.body) (map (local out) (all_declared f.body)) old (λ g s u. LowersAll g (in_body f out) f.body s u)

pub awaited_is : (inner : ℕ) (kind : Option Kind) (o : Owner) → Contains (awaited inner kind) o → result inner ≡ o
awaited_is inner None o among = absurd (contains_none o among)
awaited_is inner (Some kind) o among = among_one (result inner) o among

mine_cases : (inner : ℕ) (f : Function) (o : Owner) → Contains (mine_of inner f) o → ((x : ℕ) × (x < f.parameters) × (local inner x ≡ o)) ⊎ (result inner ≡ o)
mine_cases inner f o among =
    elim (Contains-append_cases (map (local inner) (numbers_from 0 f.parameters)) (awaited inner f.result) o among) [
      | inl here ↦ let (x, within, same) = unmapped (local inner) (numbers_from 0 f.parameters) o here in let low = from_low 0 f.parameters x within in inl (x, omega (arith, low.1), same)
      | inr there ↦ inr (awaited_is inner f.result o there)
    ]

mine_is : (inner : ℕ) (f : Function) (o : Owner) → Contains (mine_of inner f) o → occurrence o ≡ Some inner
mine_is inner f o among =
    elim (mine_cases inner f o among) [
      | inl here ↦ sym (ap occurrence here.2)
      | inr there ↦ sym (ap occurrence there)
    ]

pub awaited_in : (inner : ℕ) (kind : Option Kind) (k : Kind) → kind ≡ Some k → Contains (awaited inner kind) (result inner)
awaited_in inner None k is = absurd (cc is)
awaited_in inner (Some kind) k is = (zero, omega arith, refl)

-- where the body of a called function stands
stands_inside : {structs : Structs} {f : Function} {inner n l m : ℕ} {old all : List Owned} → IsLowerableFunction structs f → ((o : Owner) (q : ℕ) → occurrence o ≡ Some q → n ≤ q → q < m → In old o → ⊥)
    → n ≤ l → l ≤ inner → inner < m → Adds n l (mine_of inner f) old all → Stands f inner (below f.parameters) (below f.parameters) l inner all (all_declared f.body)
stands_inside {f = f} {inner = inner} {n = n} {l = l} {m = m} {old = old} {all = all} lowerable free low high bound a =
    let made : (x : ℕ) → Contains (below f.parameters) x → In all (local inner x) = λ x among.
    let less = below_low f.parameters x among in
    a.has (local inner x) (Contains-append_left (map (local inner) (numbers_from 0 f.parameters)) (awaited inner f.result) (local inner x) (mapped (local inner) (numbers_from 0 f.parameters) x (low_from 0 f.parameters x (omega arith) (omega (arith, less))))) in
    record {
      within = omega arith;
      exact = record {
        has = made;
        only = λ x there. elim (a.only (local inner x) inner refl there) [
          | inl early ↦ absurd (free (local inner x) inner refl (omega (arith, low, high)) bound early)
          | inr late ↦ elim late [
            | inl own ↦ elim (mine_cases inner f (local inner x) own) [
              | inl here ↦ let same : here.0 ≡ x = ap number_of here.2 in in_below f.parameters x (omega (arith, here.1, same))
              | inr there ↦ absurd (cc there)
            ]
            | inr within ↦ absurd (omega (arith, within.1, high))
          ]
        ];
      };
      named = record { has = made };
      free = λ o q of up less there. elim (a.only o q of there) [
        | inl early ↦ free o q of (omega (arith, up, low)) (omega (arith, less, bound)) early
        | inr late ↦ elim late [
          | inl own ↦ let same : inner ≡ q = same_Some inner q (sym (mine_is inner f o own) ∙ of) in omega (arith, same, less)
          | inr within ↦ omega (arith, within.1, up)
        ]
      ];
      answered = λ k is. a.has (result inner) (Contains-append_right (map (local inner) (numbers_from 0 f.parameters)) (awaited inner f.result) (result inner) (awaited_in inner f.result k is));
      new = λ x among made_before. let up = lowerable.behind x among in let less = below_low f.parameters x made_before in omega (arith, up, less);
      once = lowerable.once;
    }

-- the body, after which its variables become undefined
record Ends (g : Graph) (f : Function) (inner : ℕ) (place : Place) (s u : Stage) : Type 0 where
  made : List VarId
  count : ℕ
  lowers : LowersAll g (in_body f inner) f.body s (stage inner inner count)
  are_made : AreMade g inner (λ x. x < length f.locals) (stage inner inner count) made
  ends : Appends g plain place (λ q. Undef made q) (stage inner inner count) u

ending : {z : Source} (f : Function) (inner n : ℕ) (place : Place) (old : List Owned) → Piece z n inner (map (local inner) (all_declared f.body)) old (λ g s u. LowersAll g (in_body f inner) f.body s u)
    → Piece z n (suc inner) (map (local inner) (all_declared f.body)) old (λ g s u. Ends g f inner place s u)
ending f inner n place old body =
    let p = picked (λ x. ltb x (length f.locals)) inner body.all in
    record {
      all = body.all;
      adds = adds_within (omega arith) (omega arith) body.adds;
      laid = λ goal.
          let l = body.laid inner in
          let last : Draft = record { role = plain; place = place; code = Undef p.chosen (point goal) } in
          record {
            begin = l.begin;
            drafts = l.drafts ++ last ∷ [];
            size = omega (arith, l.size, one_longer l.drafts last);
            met = λ g is has lays.
                let parts = lays_both g n inner l.drafts (last ∷ []) l.size lays in
                record {
                  made = p.chosen;
                  count = length body.all;
                  lowers = l.met g is has parts.0;
                  are_made = are_picked (λ x. ltb x (length f.locals)) (λ x. x < length f.locals) inner inner inner (λ x less. lt-ltb x (length f.locals) less) (λ x passes. ltb-true x (length f.locals) passes) has p;
                  ends = appends parts.1.0;
                };
          };
    }

pub record Called (z : Source) (n m out : ℕ) (place : Place) (old : List Owned) (d : Call) (result : Option Kind) : Type 0 where
  pub ret : Option VarId
  pub some : (k : Kind) → result ≡ Some k → (v : VarId) × (ret ≡ Some v)
  pub piece : Piece z n m [] old (λ g s u. Calls g out place d s ret u)

pub calling_of : {z : Source} (table : List ℕ) (h : Here) (out n : ℕ) (known : List ℕ) (place : Place) (old : List Owned) (d : Call) (result : Option Kind) → h.structs ≡ z.structs → h.program ≡ z.program → AreNamed out known old
    → AllNameOnly known d.arguments → (of : IsCall h result d) → Callable z table d.function of.callee → ((o : Owner) (q : ℕ) → occurrence o ≡ Some q → n ≤ q → q < n + calling table d → In old o → ⊥)
    → Called z n (n + calling table d) out place old d result
calling_of {z = z} table h out n known place old d wanted same program named names of callable free =
    let f = of.callee in
    let start : ℕ = (n + preparing d.arguments) + awaiting f.result in
    let inner : ℕ = start + stretch_all table (below f.parameters) [] f.body in
    let total : suc inner ≡ n + calling table d = omega (arith, callable.exact) in
    let new : (o : Owner) (q : ℕ) → occurrence o ≡ Some q → n ≤ q → q < suc inner → In old o → ⊥ = λ o q is up less there. free o q is up (omega (arith, less, total)) there in
    let b = beginning {z = z} h f inner out n (suc inner) known place old d.arguments same named names of.arguments callable.counted new (omega arith) (omega arith) in
    let stands = stands_inside callable.lowerable new (omega arith) (omega arith) (omega arith) b.piece.adds in
    let e = ending f inner start place b.piece.all (callable.body inner start b.piece.all stands) in
    let there : slice_get z.program.functions d.function ≡ Some f = ap (λ (p : Program). slice_get p.functions d.function) (sym program) ∙ of.there in
    let whole : Piece z n (suc inner) (mine_of inner f ++ map (local inner) (all_declared f.body)) old (λ g s u. Calls g out place d s b.ret u) =
    on b.piece e (λ g s i u is x y. calls (ap (λ (p : Program). slice_get p.functions d.function) is.program ∙ there) x.receives x.passes.evaluates x.passes.passes x.passes.undefines x.awaits y.lowers y.are_made y.ends) in
    record {
      ret = b.ret;
      some = λ k is. b.some k (of.answers ∙ is);
      piece = up_to total (hiding (λ o among. (inner, all_inner f inner o among, omega arith, omega arith)) whole);
    }
  where
    all_inner : (f : Function) (inner : ℕ) (o : Owner) → Contains (mine_of inner f ++ map (local inner) (all_declared f.body)) o → occurrence o ≡ Some inner
    all_inner f inner o among =
        elim (Contains-append_cases (mine_of inner f) (map (local inner) (all_declared f.body)) o among) [
          | inl early ↦ mine_is inner f o early
          | inr late ↦ let (x, within, same) = unmapped (local inner) (all_declared f.body) o late in sym (ap occurrence same)
        ]

-- ---- simple statements
-- the functions of lower rank may be called
pub record AllCallable (z : Source) (table : List ℕ) (rank : ℕ → ℕ) (bound : ℕ) : Type 0 where
  pub callable : (i : ℕ) (f : Function) → slice_get z.program.functions i ≡ Some f → rank i < bound → Callable z table i f

pub record Fits (z : Source) (h : Here) : Type 0 where
  pub structs : h.structs ≡ z.structs
  pub program : h.program ≡ z.program

-- a call, with what is known of all functions
pub called : {z : Source} {table : List ℕ} {rank : ℕ → ℕ} {bound : ℕ} (all : AllCallable z table rank bound) (h : Here) (out n : ℕ) (known : List ℕ) (place : Place) (old : List Owned) (d : Call) (wanted : Option Kind) → Fits z h
    → AreNamed out known old → AllNameOnly known d.arguments → IsCall h wanted d → rank d.function < bound → ((o : Owner) (q : ℕ) → occurrence o ≡ Some q → n ≤ q → q < n + calling table d → In old o → ⊥)
    → Called z n (n + calling table d) out place old d wanted
called {z = z} {table = table} all h out n known place old d wanted fits named names of low free =
    let there : slice_get z.program.functions d.function ≡ Some of.callee = ap (λ (p : Program). slice_get p.functions d.function) (sym fits.program) ∙ of.there in
    calling_of table h out n known place old d wanted fits.structs fits.program named names of (all.callable d.function of.callee there low) free

pub free_before : {n m l : ℕ} {old : List Owned} → m ≤ l → ((o : Owner) (q : ℕ) → occurrence o ≡ Some q → n ≤ q → q < l → In old o → ⊥) → (o : Owner) (q : ℕ) → occurrence o ≡ Some q → n ≤ q → q < m → In old o → ⊥
free_before less free o q of up high there = free o q of up (omega (arith, high, less)) there

assign_result : {z : Source} (table : List ℕ) (h : Here) (out n : ℕ) (place : Place) (old : List Owned) (l : Left) (kind : Kind) (d : Call) → Fits z h → In old (local out l.variable) → IsLeft h kind l
    → Called z n (n + calling table d) out place old d (Some kind) → Piece z n (n + acting table (assign l (result_of d))) [] old (λ g s u. Performs g out place (assign l (result_of d)) s u)
assign_result {z = z} table h out n place old l kind d fits made left c =
    let (v, is) = c.some kind refl in
    let inner = meant {S = λ g s u. Calls g out place d s (Some v) u} c.piece (λ g s u is_of x. subst (λ r. Calls g out place d s r u) is x) in
    let puts = putting_in {z = z} h kind (n + calling table d) inner.all place l (Var v) [] fits.structs (kept_in inner.adds.keeps made) left in
    let m : ℕ = (n + calling table d) + putting (length l.fields) 0 in
    let ends : Piece z (n + calling table d) (m + 1) [] inner.all (λ g s u. (i : Stage) × Puts g out place l (Var v) [] s i × Undefines g place (v ∷ []) i u) =
    then_on puts (undefining m puts.all place (v ∷ [])) (λ g s i u is a b. (i, a, b)) in
    up_to (omega arith) (then_on inner ends (λ g s i u is a (j, b, c). performs_result a b c))

pub acting_of : {z : Source} {table : List ℕ} {rank : ℕ → ℕ} {bound : ℕ} (all : AllCallable z table rank bound) (h : Here) (out n : ℕ) (known : List ℕ) (place : Place) (old : List Owned) (a : Action) → Fits z h
    → AreNamed out known old → IsLowerableAction z.structs known a → IsAction h a → ((m : ℕ) → Contains (action_calls a) m → rank m < bound) → ((o : Owner) (q : ℕ) → occurrence o ≡ Some q → n ≤ q → q < n + acting table a → In old o → ⊥)
    → Piece z n (n + acting table a) [] old (λ g s u. Performs g out place a s u)
acting_of {table = table} all h out n known place old (assign l (expression e)) fits named lowerable (kind, left, right) low free =
    meant (assigning_expression h known table kind n old place l e fits.structs named (named.has l.variable lowerable.0) lowerable.1 left right) (λ g s u is x. performs_assign x)
acting_of {table = table} all h out n known place old (assign l (allocation shape fields)) fits named lowerable (kind, left, right) low free =
    meant (assigning_allocation h table kind n old place l shape fields fits.structs (named.has l.variable lowerable.0) lowerable.1 left) (λ g s u is x. performs_assign x)
acting_of {table = table} all h out n known place old (assign l (result_of d)) fits named lowerable (kind, left, right) low free =
    let less : n + calling table d ≤ n + acting table (assign l (result_of d)) = omega arith in
    assign_result table h out n place old l kind d fits (named.has l.variable lowerable.0) left
    (called all h out n known place old d (Some kind) fits named lowerable.1 right (low d.function (zero, omega arith, refl)) (free_before less free))
acting_of all h out n known place old (add l e) fits named lowerable of low free =
    meant (changing_by h known n old place a_sum l e fits.structs named (named.has l.variable lowerable.0) lowerable.1 of.0 of.1) (λ g s u is x. performs_add x)
acting_of all h out n known place old (subtract l e) fits named lowerable of low free =
    meant (changing_by h known n old place a_difference l e fits.structs named (named.has l.variable lowerable.0) lowerable.1 of.0 of.1) (λ g s u is x. performs_subtract x)
acting_of all h out n known place old (call d) fits named lowerable (wanted, of) low free =
    let c = called all h out n known place old d wanted fits named lowerable of (low d.function (zero, omega arith, refl)) free in
    meant c.piece (λ g s u is x. performs_call x)

-- ---- declarations
initialized : {z : Source} {table : List ℕ} {rank : ℕ → ℕ} {bound : ℕ} (all : AllCallable z table rank bound) (h : Here) (out n : ℕ) (known : List ℕ) (place : Place) (old : List Owned) (x : ℕ) (right : Right) → Fits z h
    → AreNamed out (x ∷ known) old → IsLowerableRight z.structs (x ∷ known) right → IsDeclared h x (Some right) → ((m : ℕ) → Contains (right_calls right) m → rank m < bound)
    → ((o : Owner) (q : ℕ) → occurrence o ≡ Some q → n ≤ q → q < n + assigning table right 0 → In old o → ⊥)
    → Piece z n (n + assigning table right 0) [] old (λ g s u. Performs g out place (assign (record { variable = x; fields = [] }) right) s u)
initialized all h out n known place old x right fits named lowerable (kind, is, of) low free =
    acting_of all h out n (x ∷ known) place old (assign (record { variable = x; fields = [] }) right) fits named ((zero, omega arith, refl), lowerable) (kind, (kind, is, refl), of) low free

pub ended : {f : Function} {out n m l : ℕ} {made known xs : List ℕ} {old : List Owned} → m ≡ l → Stands f out made known n m old xs → Stands f out made known n l old xs
ended {f = f} {out = out} {n = n} {made = made} {known = known} {xs = xs} {old = old} same s = subst (λ m. Stands f out made known n m old xs) same s

pub shorter : {f : Function} {out n m l : ℕ} {made known xs : List ℕ} {old : List Owned} → m ≤ l → Stands f out made known n l old xs → Stands f out made known n m old xs
shorter less s =
    let bound = s.within in
    record { within = omega (arith, bound, less); exact = s.exact; named = s.named; free = free_before less s.free; answered = s.answered; new = s.new; once = s.once }

-- one declarator
data DeclaresOne (g : Graph) (f : Function) (out : ℕ) (place : Place) (x : ℕ) : Option Right → Stage → Stage → Type 0 where
  undefined_one : {l : Local} {v : VarId} {s m u : Stage} → slice_get f.locals x ≡ Some l → Creates g (local out x) (record { name = l.name; kind = l.kind }) s v m → Appends g plain place (λ q. Undef (v ∷ []) q) m u
      → DeclaresOne g f out place x None s u
  value_one : {l : Local} {v : VarId} {right : Right} {s m u : Stage} → slice_get f.locals x ≡ Some l → Creates g (local out x) (record { name = l.name; kind = l.kind }) s v m
      → Performs g out place (assign (record { variable = x; fields = [] }) right) m u → DeclaresOne g f out place x (Some right) s u

declares_next : {g : Graph} {f : Function} {out : ℕ} {place : Place} {x : ℕ} {value : Option Right} {items : List Initial} {s m u : Stage} → DeclaresOne g f out place x value s m → Declares g f out place items m u
    → Declares g f out place (record { variable = x; value = value } ∷ items) s u
declares_next (undefined_one is makes undone) rest = declares_undefined is makes undone rest
declares_next (value_one is makes performs) rest = declares_value is makes performs rest

declaring_one : {z : Source} {table : List ℕ} {rank : ℕ → ℕ} {bound : ℕ} (all : AllCallable z table rank bound) (h : Here) (out n : ℕ) (made known xs : List ℕ) (place : Place) (old : List Owned) (x : ℕ) (value : Option Right) → Fits z h
    → Stands h.function out made known n (n + initializing table value) old (x ∷ xs) → IsLowerableValue z.structs (x ∷ known) value → IsDeclared h x value → x < length h.function.locals
    → ((m : ℕ) → Contains (value_calls value) m → rank m < bound) → Piece z n (n + initializing table value) (local out x ∷ []) old (λ g s u. DeclaresOne g h.function out place x value s u)
declaring_one {z = z} all h out n made known xs place old x None fits stands lowerable of there low =
    let (l, is) = local_there h.function.locals x there in
    let c = creating {z = z} n old (local out x) (record { name = l.name; kind = l.kind }) (λ early. stands.new x (zero, omega arith, refl) (stands.exact.only x early)) in
    up_to (omega arith) (then_on c (laying n c.all plain place (λ q. Undef (var (length old) ∷ []) q)) (λ g s i u from a b. undefined_one is a b))
declaring_one {z = z} {table = table} all h out n made known xs place old x (Some right) fits stands lowerable of there low =
    let (l, is) = local_there h.function.locals x there in
    let c = creating {z = z} n old (local out x) (record { name = l.name; kind = l.kind }) (λ early. stands.new x (zero, omega arith, refl) (stands.exact.only x early)) in
    let now = after (x ∷ []) xs (omega arith) (omega arith) stands c.adds in
    let sets = initialized all h out n known place c.all x right fits now.named lowerable of low now.free in
    then_on c sets (λ g s i u from a b. value_one is a b)

pub declaring_of : {z : Source} {table : List ℕ} {rank : ℕ → ℕ} {bound : ℕ} (all : AllCallable z table rank bound) (h : Here) (out n : ℕ) (made known scope : List ℕ) (place : Place) (old : List Owned) (items : List Initial) → Fits z h
    → Stands h.function out made known n (n + declaring table items) old (items_declared items) → AreLowerableItems z.structs known items → AreDeclared h items → DeclareIn (length h.function.locals) scope items
    → ((m : ℕ) → Contains (items_calls items) m → rank m < bound) → Piece z n (n + declaring table items) (map (local out) (items_declared items)) old (λ g s u. Declares g h.function out place items s u)
declaring_of all h out n made known scope place old [] fits stands lowerable of scoped low = up_to (omega arith) (nothing n old (λ g goal is has. declares_none))
declaring_of {z = z} {table = table} all h out n made known scope place old (item ∷ items) fits stands lowerable of scoped low =
    let x : ℕ = item.variable in
    let xs : List ℕ = items_declared items in
    let m : ℕ = n + initializing table item.value in
    let total : n + declaring table (item ∷ items) ≡ m + declaring table items = omega arith in
    let part : Stands h.function out made known n m old (x ∷ xs) = shorter (omega arith) stands in
    let one = declaring_one {z = z} {table = table} all h out n made known xs place old x item.value fits part lowerable.0 of.0 scoped.0.0 (λ m among. low m (Contains-append_left (value_calls item.value) (items_calls items) m among)) in
    let now = ended total (after (x ∷ []) xs (omega arith) (omega arith) stands one.adds) in
    let rest = declaring_of {z = z} {table = table} all h out m (made ++ x ∷ []) (x ∷ known) scope place one.all items fits now lowerable.1 of.1 scoped.1 (λ m among. low m (Contains-append_right (value_calls item.value) (items_calls items) m among)) in
    up_to (sym total) (on one rest (λ g s i u is a b. declares_next a b))

-- ---- the parts of a `for`
pub starting_of : {z : Source} {table : List ℕ} {rank : ℕ → ℕ} {bound : ℕ} (all : AllCallable z table rank bound) (h : Here) (out n : ℕ) (made known scope : List ℕ) (old : List Owned) (start : Start) → Fits z h
    → Stands h.function out made known n (n + starting table start) old (start_declared start) → IsLowerableStart z.structs known start → IsStart h start → StartsIn (length h.function.locals) scope start
    → ((m : ℕ) → Contains (start_calls start) m → rank m < bound) → Piece z n (n + starting table start) (map (local out) (start_declared start)) old (λ g s u. Starts g h.function out start s u)
starting_of all h out n made known scope old source.nothing fits stands lowerable of scoped low = up_to (omega arith) (nothing n old (λ g goal is has. starts_nothing))
starting_of all h out n made known scope old (starts_with place items) fits stands lowerable of scoped low =
    meant (declaring_of all h out n made known scope place old items fits stands lowerable of scoped low) (λ g s u is a. starts_declaring a)
starting_of all h out n made known scope old (begins_with x) fits stands lowerable of scoped low =
    meant (acting_of all h out n known x.place old x.action fits stands.named lowerable of low stands.free) (λ g s u is a. starts_performing a)

pub finishing_of : {z : Source} {table : List ℕ} {rank : ℕ → ℕ} {bound : ℕ} (all : AllCallable z table rank bound) (h : Here) (out n : ℕ) (known : List ℕ) (old : List Owned) (last : Option Simple) → Fits z h
    → AreNamed out known old → ((o : Owner) (q : ℕ) → occurrence o ≡ Some q → n ≤ q → q < n + finishing table last → In old o → ⊥) → IsLowerableLast z.structs known last → IsLast h last
    → ((m : ℕ) → Contains (last_calls last) m → rank m < bound) → Piece z n (n + finishing table last) [] old (λ g s u. Finishes g out last s u)
finishing_of all h out n known old None fits named free lowerable of low = up_to (omega arith) (nothing n old (λ g goal is has. finishes_none))
finishing_of all h out n known old (Some x) fits named free lowerable of low =
    meant (acting_of all h out n known x.place old x.action fits named lowerable of low free) (λ g s u is a. finishes a)
