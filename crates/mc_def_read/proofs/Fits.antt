-- What is said of structs fits them.
use native.Mathlib.Omega.{arith}
use Rattle.std.proofs.Common.{◌≡◌, ◌≢◌, ℕ, zero, suc, ◌+◌, ◌-◌, ◌<◌, ◌≤◌, ◌*◌, ◌==◌, ℤ, pos, negsuc, neg_ℤ, ◌≤ℤ◌, List, [], ◌∷◌, ◌++◌, length, take, drop, get_or, refl, ap, sym, ◌∙◌, subst, append_assoc, Bool, true, false, inl, inr, map}
use Rattle.std.specs.Prelude.{Option, Some, None, All, Result, Ok, Err, position, slice_get, slice_set, option_map, is_some, replicate, if◌then◌else◌}
use Rattle.std.proofs.lemmas.Option.{slice_get_within}
use Rattle.std.proofs.lemmas.List.{length-append}
use Rattle.std.proofs.lemmas.Int.{ints}
use Rattle.std.proofs.lemmas.Bool.Decides.{nat_tests}
use Rattle.mc_base.specs.declared.ids.StructId.{StructId}
use Rattle.mc_base.specs.declared.plain.Kind.{Kind}
use Rattle.mc_base.specs.declared.plain.Kind.TheVariants.{Int, Ptr}
use Rattle.mc_c_syntax.specs.declared.ast.trees.Name.{Name}
use Rattle.mc_c_syntax.specs.Ast.Names.{is_same}
use Rattle.mc_flow.specs.declared.defs.rules.Call.{Call}
use Rattle.mc_flow.specs.declared.defs.rules.Def.{Def}
use Rattle.mc_flow.specs.declared.defs.rules.Rule.{Rule}
use Rattle.mc_flow.specs.declared.defs.rules.DefAtom.{DefAtom}
use Rattle.mc_flow.specs.declared.defs.rules.DefAtom.TheVariants.{Eq, Ne, In}
use Rattle.mc_flow.specs.declared.defs.shapes.StructInfo.{StructInfo}
use Rattle.mc_flow.specs.declared.defs.shapes.FieldInfo.{FieldInfo}
use Rattle.mc_flow.specs.Defs.Conditions as Conditions
use Rattle.mc_flow.specs.Defs.Conditions.{content_kinds, numbers_from, IsNumber, IsKnown, BaseFits, OffsetFits, SumFits, AtomFits, known_after, AtomsFit, ArgsFit, CallFits, HasNames, RuleFits, RuleFitsStructs, DefFits, DefsFit}
use Rattle.mc_def_parse.specs.declared.fault.Refusal.{Refusal}
use Rattle.mc_def_parse.specs.declared.fault.Cause.TheVariants as Cause
use Rattle.mc_def_parse.specs.declared.tree.Content.{Content}
use Rattle.mc_def_parse.specs.declared.tree.Number.{Number}
use Rattle.mc_def_parse.specs.declared.tree.Sum.{Sum}
use Rattle.mc_def_parse.specs.declared.tree.Sum.TheVariants as Sum
use Rattle.mc_def_parse.specs.declared.tree.Relation.TheVariants.{Fixes, Equals, Differs}
use Rattle.mc_def_parse.specs.declared.tree.Bound.TheVariants.{AtMost, AtLeast}
use Rattle.mc_def_parse.specs.declared.tree.Item.{Item}
use Rattle.mc_def_parse.specs.declared.tree.Item.TheVariants as Item
use Rattle.mc_def_parse.specs.declared.tree.Block.{Block}
use Rattle.mc_def_parse.specs.declared.tree.RuleText.{RuleText}
use Rattle.mc_def_parse.specs.declared.tree.Parameter.{Parameter}
use Rattle.mc_def_parse.specs.declared.tree.DefText.{DefText}
use Rattle.mc_def_read.specs.declared.scope.Added.{Added}
use Rattle.mc_def_read.specs.declared.scope.Known.{Known}
use Rattle.mc_def_read.specs.Judging.{Judged, ◌>>=◌, need, at, number_in, at_end, rule_with, Scope, same_kind, of_kind, known, typed, introduced, value_of, constant, offset, sum, Context, Body, arguments, call_at, call_with, call, with_atom, bounded, item, items, placed, block_of, holders, with_scope, rule, rule_by, this_alone, bare_rule, block_rule, rules, parameters, kinds_of, definition_of, definition, definitions, context_of, judged}
use Rattle.mc_def_read.proofs.Positions.{get_front}
use Rattle.mc_def_read.proofs.Whole.{Each, each_push, IsSmall, IsSmallSum, IsSmallItem, IsSmallRule, IsWhole}

-- ---- what is said
bind_ok : {A B : Type 0} (a : Judged A) (f : A → Judged B) (b : B) → (a >>= f) ≡ Ok b → (x : A) × (a ≡ Ok x) × (f x ≡ Ok b)
bind_ok (Ok x) f b e = (x, refl, e)
bind_ok (Err r) f b e = absurd (cc)

-- what is needed is there
needs_ok : {A B : Type 0} (o : Option A) (r : Refusal) (f : A → Judged B) (b : B) → (need o r >>= f) ≡ Ok b → (x : A) × (o ≡ Some x) × (f x ≡ Ok b)
needs_ok (Some x) r f b e = (x, refl, e)
needs_ok None r f b e = absurd (cc)

then_ok : {A : Type 0} (t : Bool) (a : Judged A) (r : Refusal) (b : A) → (if t then a else Err r) ≡ Ok b → (t ≡ true) × (a ≡ Ok b)
then_ok true a r b e = (refl, e)
then_ok false a r b e = absurd (cc)

else_ok : {A : Type 0} (t : Bool) (a : Judged A) (r : Refusal) (b : A) → (if t then Err r else a) ≡ Ok b → (t ≡ false) × (a ≡ Ok b)
else_ok true a r b e = absurd (cc)
else_ok false a r b e = (refl, e)

same_kinds : (k kind : Kind) → same_kind k kind ≡ true → k ≡ kind
same_kinds Int Int e = refl
same_kinds Int Ptr e = absurd (cc)
same_kinds Ptr Int e = absurd (cc)
same_kinds Ptr Ptr e = refl

abbrev ok : {A : Type 0} → A → Judged A
ok a = Ok a

ok_is : {A : Type 0} (a b : A) → ok a ≡ ok b → a ≡ b
ok_is a b e = cc

-- ---- names and sums
known_ok : (scope : Scope) (x : Name) (k : Known) → known scope x ≡ Ok k → slice_get scope.kinds k.number ≡ Some k.kind
known_ok scope x k e =
    let s = needs_ok (number_in scope.names x.text) (at Cause.Undetermined x) (λ i. need (slice_get scope.kinds i) (at Cause.Undetermined x) >>= (λ kind. Ok (record { number = i; kind = kind }))) k e in
    let t = needs_ok (slice_get scope.kinds s.0) (at Cause.Undetermined x) (λ kind. Ok (record { number = s.0; kind = kind })) k s.2 in
    let there = t.1 in
    let is = ok_is _ k t.2 in
    subst (λ known. slice_get scope.kinds known.number ≡ Some known.kind) is there

typed_ok : (scope : Scope) (kind : Kind) (x : Name) (i : ℕ) → typed scope kind x ≡ Ok i → slice_get scope.kinds i ≡ Some kind
typed_ok scope kind x i e =
    let s = bind_ok _ _ i e in
    let t = then_ok _ _ _ i s.2 in
    let there = known_ok scope x s.0 s.1 in
    let number = ok_is _ i t.1 in
    let k = same_kinds s.0.kind kind t.0 in
    subst (λ n. slice_get scope.kinds n ≡ Some kind) number (subst (λ l. slice_get scope.kinds s.0.number ≡ Some l) k there)

is_known : (kinds : List Kind) (kind : Kind) (i : ℕ) → slice_get kinds i ≡ Some kind → IsKnown kinds (length kinds) kind i
is_known kinds kind i e = (slice_get_within kinds i kind e, e)

signed_fits : (minus : Bool) (v : ℕ) → v ≤ 2147483647 → IsNumber (if minus then neg_ℤ (pos v) else pos v)
signed_fits true v small = (omega (arith, ints), omega (arith, ints))
signed_fits false v small = (omega (arith, ints), omega (arith, ints))

number_fits : (n : Number) → IsSmall n → IsNumber (value_of n)
number_fits n small = signed_fits n.minus n.value small

zero_fits : IsNumber (pos 0)
zero_fits = (omega (arith, ints), omega (arith, ints))

offset_fits : (kind : Kind) (n : Number) (z : ℤ) → IsSmall n → offset kind n ≡ Ok z → OffsetFits kind z
offset_fits Int n z small e = subst IsNumber (ok_is _ z e) (number_fits n small)
offset_fits Ptr n z small e = absurd (cc)

constant_fits : (kind : Kind) (n : Number) (z : ℤ) → IsSmall n → constant kind n ≡ Ok z → OffsetFits kind z
constant_fits Int n z small e = subst IsNumber (ok_is _ z e) (number_fits n small)
constant_fits Ptr n z small e = sym (ok_is _ z (then_ok _ _ _ z e).1)

nothing_fits : (kind : Kind) → OffsetFits kind (pos 0)
nothing_fits Int = zero_fits
nothing_fits Ptr = refl

-- a sum that is said of a scope fits its kinds
sum_fits : (scope : Scope) (kind : Kind) (s : Sum) (a : Added) → IsSmallSum s → sum scope kind s ≡ Ok a → SumFits scope.kinds (length scope.kinds) kind a.base a.add
sum_fits scope kind (Sum.Number n) a small e =
    let s = bind_ok _ _ a e in
    let is = ok_is _ a s.2 in
    subst (λ b. SumFits scope.kinds (length scope.kinds) kind b.base b.add) is (tt, constant_fits kind n s.0 small s.1)
sum_fits scope kind (Sum.Name x) a small e =
    let s = bind_ok _ _ a e in
    let is = ok_is _ a s.2 in
    subst (λ b. SumFits scope.kinds (length scope.kinds) kind b.base b.add) is (is_known scope.kinds kind s.0 (typed_ok scope kind x s.0 s.1), nothing_fits kind)
sum_fits scope kind (Sum.Moved x n) a small e =
    let s = bind_ok _ _ a e in
    let t = bind_ok _ _ a s.2 in
    let is = ok_is _ a t.2 in
    subst (λ b. SumFits scope.kinds (length scope.kinds) kind b.base b.add) is (is_known scope.kinds kind s.0 (typed_ok scope kind x s.0 s.1), offset_fits kind n t.0 small t.1)

introduced_ok : (scope : Scope) (kind : Kind) (x : Name) (next : Scope) → introduced scope kind x ≡ Ok next → next.kinds ≡ scope.kinds ++ kind ∷ []
introduced_ok scope kind x next e = ap (λ s. s.kinds) (sym (ok_is _ next (else_ok _ _ _ next e).1))

append_nil : {X : Type 0} (xs : List X) → xs ++ [] ≡ xs
append_nil [] = refl
append_nil (x ∷ xs) = ap (λ ys. x ∷ ys) (append_nil xs)

last_there : {X : Type 0} (xs : List X) (x : X) → slice_get (xs ++ x ∷ []) (length xs) ≡ Some x
last_there [] x = refl
last_there (y ∷ xs) x = last_there xs x

one_longer : {X : Type 0} (xs : List X) (x : X) → suc (length xs) ≡ length (xs ++ x ∷ [])
one_longer [] x = refl
one_longer (y ∷ xs) x = ap (λ n. suc n) (one_longer xs x)

same_numbers : (m n : ℕ) → (m == n) ≡ true → m ≡ n
same_numbers m n e = grind (arith, nat_tests)

bounded_ok : (scope : Scope) (x : Name) (lo hi : ℤ) (a : DefAtom) → bounded scope x lo hi ≡ Ok a → (i : ℕ) × (slice_get scope.kinds i ≡ Some Int) × (a ≡ In i lo hi)
bounded_ok scope x lo hi a e =
    let s = bind_ok _ _ a e in (s.0, typed_ok scope Int x s.0 s.1, sym (ok_is _ a s.2))

-- ---- more names
known_more : (kinds more : List Kind) (known known' : ℕ) (kind : Kind) (i : ℕ) → known ≤ known' → IsKnown kinds known kind i → IsKnown (kinds ++ more) known' kind i
known_more kinds more known known' kind i below k = (omega (arith, k.0), get_front kinds more i kind k.1)

base_more : (kinds more : List Kind) (known : ℕ) (kind : Kind) (base : Option ℕ) → BaseFits kinds known kind base → BaseFits (kinds ++ more) known kind base
base_more kinds more known kind None b = tt
base_more kinds more known kind (Some i) b = known_more kinds more known known kind i (omega arith) b

atom_more : (kinds more : List Kind) (known : ℕ) (a : DefAtom) → AtomFits kinds known a → AtomFits (kinds ++ more) known a
atom_more kinds more known (Eq left base add true) (kind, is, there, sum) = (kind, is, get_front kinds more left kind there, (base_more kinds more known kind base sum.0, sum.1))
atom_more kinds more known (Eq left base add false) (kind, k, sum) = (kind, known_more kinds more known known kind left (omega arith) k, (base_more kinds more known kind base sum.0, sum.1))
atom_more kinds more known (Ne left base add) (kind, k, sum) = (kind, known_more kinds more known known kind left (omega arith) k, (base_more kinds more known kind base sum.0, sum.1))
atom_more kinds more known (In left lo hi) f = (known_more kinds more known known Int left (omega arith) f.0, f.1)

-- one more atom, which may introduce a name
atoms_push : (kinds more : List Kind) (known : ℕ) (list : List DefAtom) (a : DefAtom) → AtomsFit kinds known list → AtomFits (kinds ++ more) (length kinds) a → known_after (length kinds) a ≡ length (kinds ++ more) → AtomsFit (kinds ++ more) known (list ++ a ∷ [])
atoms_push kinds more known [] a e f after = rw e (f, after)
atoms_push kinds more known (b ∷ list) a (g, fs) f after = (atom_more kinds more known b g, atoms_push kinds more (known_after known b) list a fs f after)

-- ---- calls, of predicates whose parameters are given
record Calls (params : List (List Kind)) (kinds : List Kind) (c : Call) : Type 0 where
  ps : List Kind
  defined : slice_get params c.pred.0 ≡ Some ps
  pointer : slice_get kinds c.at ≡ Some Ptr
  args : ArgsFit kinds c.args ps

args_more : (kinds more : List Kind) (args : List ℕ) (ps : List Kind) → ArgsFit kinds args ps → ArgsFit (kinds ++ more) args ps
args_more kinds more [] [] e = refl
args_more kinds more [] (p ∷ ps) e = absurd (cc)
args_more kinds more (i ∷ args) [] e = absurd (cc)
args_more kinds more (i ∷ args) (p ∷ ps) e =
    let first : slice_get kinds i ≡ Some p = cc in
    let others : map (slice_get kinds) args ≡ map (λ k. Some k) ps = cc in
    rw (get_front kinds more i p first, args_more kinds more args ps others) refl

calls_more : (params : List (List Kind)) (kinds more : List Kind) (cs : List Call) → Each (Calls params kinds) cs → Each (Calls params (kinds ++ more)) cs
calls_more params kinds more [] a = tt
calls_more params kinds more (c ∷ cs) (one, a) = (record { ps = one.ps; defined = one.defined; pointer = get_front kinds more c.at Ptr one.pointer; args = args_more kinds more c.args one.ps one.args }, calls_more params kinds more cs a)

args_cons : (kinds : List Kind) (i : ℕ) (p : Kind) (args : List ℕ) (ps : List Kind) → slice_get kinds i ≡ Some p → ArgsFit kinds args ps → ArgsFit kinds (i ∷ args) (p ∷ ps)
args_cons kinds i p args ps e f = ap (λ (o : Option Kind). o ∷ map (slice_get kinds) args) e ∙ ap (λ (os : List (Option Kind)). Some p ∷ os) f

arguments_fit : (scope : Scope) (ps : List Kind) (xs : List Name) (numbers : List ℕ) → length xs ≡ length ps → arguments scope ps xs ≡ Ok numbers → ArgsFit scope.kinds numbers ps
arguments_fit scope [] [] numbers same e = subst (λ l. ArgsFit scope.kinds l []) (ok_is [] numbers e) refl
arguments_fit scope [] (x ∷ xs) numbers same e = absurd (omega arith)
arguments_fit scope (k ∷ ks) [] numbers same e = absurd (omega arith)
arguments_fit scope (k ∷ ks) (x ∷ xs) numbers same e =
    let s = bind_ok (typed scope k x) (λ i. arguments scope ks xs >>= (λ ns. ok (i ∷ ns))) numbers e in
    let t = bind_ok (arguments scope ks xs) (λ ns. ok (s.0 ∷ ns)) numbers s.2 in
    let less : length xs ≡ length ks = omega arith in
    let both : ArgsFit scope.kinds (s.0 ∷ t.0) (k ∷ ks) = args_cons scope.kinds s.0 k t.0 ks (typed_ok scope k x s.0 s.1) (arguments_fit scope ks xs t.0 less t.1) in
    subst (λ l. ArgsFit scope.kinds l (k ∷ ks)) (ok_is (s.0 ∷ t.0) numbers t.2) both

call_at_ok : (params : List (List Kind)) (scope : Scope) (pred : ℕ) (ps : List Kind) (x : Name) (xs : List Name) (c : Call) → slice_get params pred ≡ Some ps → length xs ≡ length ps → call_at scope pred ps x xs ≡ Ok c → Calls params scope.kinds c
call_at_ok params scope pred ps x xs c there same e =
    let s = bind_ok _ _ c e in
    let t = bind_ok _ _ c s.2 in
    let made : Calls params scope.kinds (record { pred = record { 0 = pred }; at = s.0; args = t.0 }) = record { ps = ps; defined = there; pointer = typed_ok scope Ptr x s.0 s.1; args = arguments_fit scope ps xs t.0 same t.1 } in
    subst (Calls params scope.kinds) (ok_is _ c t.2) made

call_with_ok : (params : List (List Kind)) (scope : Scope) (pred : ℕ) (ps : List Kind) (p : Name) (xs : List Name) (c : Call) → slice_get params pred ≡ Some ps → call_with scope pred ps p xs ≡ Ok c → Calls params scope.kinds c
call_with_ok params scope pred ps p [] c there e = absurd (cc)
call_with_ok params scope pred ps p (x ∷ xs) c there e =
    let s = then_ok _ _ _ c e in call_at_ok params scope pred ps x xs c there (same_numbers _ _ s.0) s.1

call_ok : (context : Context) (guarded : Bool) (scope : Scope) (p : Name) (xs : List Name) (c : Call) → call context guarded scope p xs ≡ Ok c → (guarded ≡ true) × Calls context.params scope.kinds c
call_ok context guarded scope p xs c e =
    let go = λ (pred : ℕ) (params : List Kind). if guarded then call_with scope pred params p xs else Err (at Cause.Unguarded p) in
    let s = needs_ok (position (λ name. is_same name p.text) context.preds) (at Cause.UnknownName p) (λ pred. need (slice_get context.params pred) (at Cause.UnknownName p) >>= go pred) c e in
    let t = needs_ok (slice_get context.params s.0) (at Cause.UnknownName p) (go s.0) c s.2 in
    let u = then_ok guarded (call_with scope s.0 t.0 p xs) (at Cause.Unguarded p) c t.2 in
    (u.0, call_with_ok context.params scope s.0 t.0 p xs c t.1 u.1)

-- ---- what a rule says up to an item
record BodyFits (params : List (List Kind)) (front : ℕ) (body : Body) : Type 0 where
  atoms : AtomsFit body.scope.kinds front body.atoms
  calls : Each (Calls params body.scope.kinds) body.calls

-- a body after an item: names are added at the end, and calls stand in a rule with a block alone
record Goes (context : Context) (guarded : Bool) (front : ℕ) (body next : Body) : Type 0 where
  more : List Kind
  grown : next.scope.kinds ≡ body.scope.kinds ++ more
  fits : BodyFits context.params front next
  bare : guarded ≡ false → body.calls ≡ [] → next.calls ≡ []

-- a scope that stays, and one more atom
goes_atom : (context : Context) (guarded : Bool) (front : ℕ) (body next : Body) (a : DefAtom) → BodyFits context.params front body → AtomFits body.scope.kinds (length body.scope.kinds) a → known_after (length body.scope.kinds) a ≡ length body.scope.kinds → with_atom body body.scope a ≡ next → Goes context guarded front body next
goes_atom context guarded front body next a b f after is = subst (λ n. Goes context guarded front body n) is (record {
  more = [];
  grown = sym (append_nil body.scope.kinds);
  fits = record { atoms = stays; calls = b.calls };
  bare = λ g e. e;
}) where
  stays : AtomsFit body.scope.kinds front (body.atoms ++ a ∷ [])
  stays = let e = append_nil body.scope.kinds in
      let f' : AtomFits (body.scope.kinds ++ []) (length body.scope.kinds) a = rw e f in
      let after' : known_after (length body.scope.kinds) a ≡ length (body.scope.kinds ++ []) = rw e after in
      rw e at (atoms_push body.scope.kinds [] front body.atoms a b.atoms f' after')

item_ok : (context : Context) (guarded : Bool) (front : ℕ) (body next : Body) (i : Item) → IsSmallItem i → BodyFits context.params front body → item context guarded body i ≡ Ok next → Goes context guarded front body next
item_ok context guarded front body next (Item.Call p xs) small b e =
    let s = bind_ok _ _ next e in
    let c = call_ok context guarded body.scope p xs s.0 s.1 in
    let is = ok_is _ next s.2 in
    subst (λ n. Goes context guarded front body n) is (record {
      more = [];
      grown = sym (append_nil body.scope.kinds);
      fits = record { atoms = b.atoms; calls = each_push (Calls context.params body.scope.kinds) body.calls s.0 b.calls c.1 };
      bare = λ g e. absurd (let both = sym c.0 ∙ g in cc);
    })
item_ok context guarded front body next (Item.Relates x (Fixes kind) s) small b e =
    let t = bind_ok _ _ next e in
    let u = bind_ok _ _ next t.2 in
    let is = ok_is _ next u.2 in
    let grown = introduced_ok body.scope kind x t.0 t.1 in
    let sum = sum_fits body.scope kind s u.0 small u.1 in
    let kinds = body.scope.kinds in
    let fixed : AtomFits (kinds ++ kind ∷ []) (length kinds) (Eq (length kinds) u.0.base u.0.add true) = (kind, refl, last_there kinds kind, (base_more kinds (kind ∷ []) (length kinds) kind u.0.base sum.0, sum.1)) in
    subst (λ n. Goes context guarded front body n) is (record {
      more = kind ∷ [];
      grown = grown;
      fits = record {
        atoms = rw grown (atoms_push kinds (kind ∷ []) front body.atoms (Eq (length kinds) u.0.base u.0.add true) b.atoms fixed (one_longer kinds kind));
        calls = rw grown (calls_more context.params kinds (kind ∷ []) body.calls b.calls);
      };
      bare = λ g e. e;
    })
item_ok context guarded front body next (Item.Relates x Equals s) small b e =
    let t = bind_ok _ _ next e in
    let u = bind_ok _ _ next t.2 in
    let is = ok_is _ next u.2 in
    let there = is_known body.scope.kinds t.0.kind t.0.number (known_ok body.scope x t.0 t.1) in
    goes_atom context guarded front body next (Eq t.0.number u.0.base u.0.add false) b (t.0.kind, there, sum_fits body.scope t.0.kind s u.0 small u.1) refl is
item_ok context guarded front body next (Item.Relates x Differs s) small b e =
    let t = bind_ok _ _ next e in
    let u = bind_ok _ _ next t.2 in
    let is = ok_is _ next u.2 in
    let there = is_known body.scope.kinds t.0.kind t.0.number (known_ok body.scope x t.0 t.1) in
    goes_atom context guarded front body next (Ne t.0.number u.0.base u.0.add) b (t.0.kind, there, sum_fits body.scope t.0.kind s u.0 small u.1) refl is
item_ok context guarded front body next (Item.Bounds x AtMost n) small b e =
    let t = bind_ok _ _ next e in
    let k = bounded_ok body.scope x _ _ t.0 t.1 in
    goes_atom context guarded front body next t.0 b (rw k.2 (is_known body.scope.kinds Int k.0 k.1, inl (refl, number_fits n small))) (rw k.2 refl) (ok_is _ next t.2)
item_ok context guarded front body next (Item.Bounds x AtLeast n) small b e =
    let t = bind_ok _ _ next e in
    let k = bounded_ok body.scope x _ _ t.0 t.1 in
    goes_atom context guarded front body next t.0 b (rw k.2 (is_known body.scope.kinds Int k.0 k.1, inr (number_fits n small, refl))) (rw k.2 refl) (ok_is _ next t.2)

goes_through : (context : Context) (guarded : Bool) (front : ℕ) (body mid next : Body) → Goes context guarded front body mid → Goes context guarded front mid next → Goes context guarded front body next
goes_through context guarded front body mid next g h = record {
  more = g.more ++ h.more;
  grown = h.grown ∙ ap (λ ks. ks ++ h.more) g.grown ∙ append_assoc body.scope.kinds g.more h.more;
  fits = h.fits;
  bare = λ f e. h.bare f (g.bare f e);
}

items_ok : (context : Context) (guarded : Bool) (front : ℕ) (body next : Body) (is : List Item) → Each IsSmallItem is → BodyFits context.params front body → items context guarded body is ≡ Ok next → Goes context guarded front body next
items_ok context guarded front body next [] small b e = subst (λ n. Goes context guarded front body n) (ok_is _ next e) (record { more = []; grown = sym (append_nil body.scope.kinds); fits = b; bare = λ g e. e })
items_ok context guarded front body next (i ∷ is) small b e =
    let s = bind_ok _ _ next e in
    let g = item_ok context guarded front body s.0 i small.0 b s.1 in
    goes_through context guarded front body s.0 next g (items_ok context guarded front s.0 next is small.1 g.fits s.2)

-- ---- scopes
parameters_ok : (scope next : Scope) (ps : List Parameter) → parameters scope ps ≡ Ok next → next.kinds ≡ scope.kinds ++ kinds_of ps
parameters_ok scope next [] e = ap (λ s. s.kinds) (sym (ok_is _ next e)) ∙ sym (append_nil scope.kinds)
parameters_ok scope next (p ∷ ps) e =
    let s = bind_ok _ _ next e in
    parameters_ok s.0 next ps s.2 ∙ ap (λ ks. ks ++ kinds_of ps) (introduced_ok scope p.kind p.name s.0 s.1) ∙ append_assoc scope.kinds (p.kind ∷ []) (kinds_of ps)

abbrev field_kinds : List FieldInfo → List Kind
field_kinds fields = map (λ field. field.kind) fields

placed_ok : (b : Block) (scope next : Scope) (fields : List FieldInfo) (held : List (Option ℕ)) → placed b scope fields held ≡ Ok next → next.kinds ≡ scope.kinds ++ field_kinds fields
placed_ok b scope next [] held e = ap (λ s. s.kinds) (sym (ok_is _ next e)) ∙ sym (append_nil scope.kinds)
placed_ok b scope next (field ∷ fields) [] e = absurd (cc)
placed_ok b scope next (field ∷ fields) (one ∷ held) e =
    let go = λ (c : Content). placed b (record { names = scope.names ++ c.name.text ∷ []; kinds = scope.kinds ++ field.kind ∷ [] }) fields held in
    let s = needs_ok one (at_end b) (λ number. need (slice_get b.contents number) (at_end b) >>= go) next e in
    let t = needs_ok (slice_get b.contents s.0) (at_end b) go next s.2 in
    placed_ok b (record { names = scope.names ++ t.0.name.text ∷ []; kinds = scope.kinds ++ field.kind ∷ [] }) next fields held t.2 ∙ append_assoc scope.kinds (field.kind ∷ []) (field_kinds fields)

block_ok : (scope next : Scope) (info : StructInfo) (b : Block) → block_of scope info b ≡ Ok next → next.kinds ≡ scope.kinds ++ field_kinds info.fields
block_ok scope next info b e =
    let s = bind_ok (holders scope info b) (λ (held : List (Option ℕ)). placed b scope info.fields held) next e in
    placed_ok b scope next info.fields s.0 s.2

-- ---- rules
record RuleOk (context : Context) (ps : List Kind) (r : Rule) : Type 0 where
  block : Conditions.kinds_of context.structs r.block ≡ Some (content_kinds ps r)
  names : HasNames ps r
  guarded : r.block ≡ None → r.calls ≡ []
  calls : Each (Calls context.params r.names) r.calls

take_seam : {X : Type 0} (xs ys : List X) → take (length xs) (xs ++ ys) ≡ xs
take_seam [] ys = refl
take_seam (x ∷ xs) ys = ap (λ zs. x ∷ zs) (take_seam xs ys)

drop_seam : {X : Type 0} (xs ys : List X) → drop (length xs) (xs ++ ys) ≡ ys
drop_seam [] ys = refl
drop_seam (x ∷ xs) ys = drop_seam xs ys

numbers_long : (first count : ℕ) → length (numbers_from first count) ≡ count
numbers_long first zero = refl
numbers_long first (suc count) = ap (λ n. suc n) (numbers_long (suc first) count)

bare_rule_ok : (context : Context) (scope : Scope) (ps : List Kind) (is : List Item) (r : Rule) → scope.kinds ≡ Ptr ∷ ps → Each IsSmallItem is → bare_rule context scope is ≡ Ok r → RuleOk context ps r
bare_rule_ok context scope ps is r front small e =
    let s = bind_ok _ _ r e in
    let begins : suc (length ps) ≡ length scope.kinds = sym (ap length front) in
    let g = items_ok context false (suc (length ps)) (with_scope scope) s.0 is small (record { atoms = begins; calls = tt }) s.1 in
    let whole : s.0.scope.kinds ≡ (Ptr ∷ ps) ++ g.more = g.grown ∙ ap (λ ks. ks ++ g.more) front in
    subst (RuleOk context ps) (ok_is _ r s.2) (record {
      block = refl;
      names = record {
        front = ap (λ ks. take (suc (length ps)) ks) whole ∙ take_seam (Ptr ∷ ps) g.more;
        contents = refl;
        atoms = let none : suc (length ps) + 0 ≡ suc (length ps) = omega arith in rw none g.fits.atoms;
      };
      guarded = λ none. g.bare refl refl;
      calls = g.fits.calls;
    })

block_rule_ok : (context : Context) (scope : Scope) (ps : List Kind) (b : Block) (is : List Item) (r : Rule) → scope.kinds ≡ Ptr ∷ ps → Each IsSmallItem is → block_rule context scope b is ≡ Ok r → RuleOk context ps r
block_rule_ok context scope ps b is r front small e =
    let last = λ (shape : ℕ) (inner : Scope) (body : Body). ok (rule_with (Some (record { 0 = shape })) (numbers_from (length scope.kinds) (length inner.kinds - length scope.kinds)) body) in
    let middle = λ (shape : ℕ) (info : StructInfo). block_of scope info b >>= (λ inner. items context true (with_scope inner) is >>= last shape inner) in
    let s = needs_ok (position (λ name. is_same name b.shape.text) context.shapes) (at Cause.UnknownName b.shape) (λ shape. need (slice_get context.structs shape) (at Cause.UnknownName b.shape) >>= middle shape) r e in
    let t = needs_ok (slice_get context.structs s.0) (at Cause.UnknownName b.shape) (middle s.0) r s.2 in
    let u = bind_ok (block_of scope t.0 b) (λ inner. items context true (with_scope inner) is >>= last s.0 inner) r t.2 in
    let v = bind_ok (items context true (with_scope u.0) is) (last s.0 u.0) r u.2 in
    let fields = field_kinds t.0.fields in
    let inner : u.0.kinds ≡ (Ptr ∷ ps) ++ fields = block_ok scope u.0 t.0 b u.1 ∙ ap (λ ks. ks ++ fields) front in
    let long : length u.0.kinds ≡ suc (length ps) + length fields = ap length inner ∙ length-append (Ptr ∷ ps) fields in
    let short : length scope.kinds ≡ suc (length ps) = ap length front in
    let count : length u.0.kinds - length scope.kinds ≡ length fields = omega arith in
    let g = items_ok context true (suc (length ps) + length fields) (with_scope u.0) v.0 is small (record { atoms = sym long; calls = tt }) v.1 in
    let whole : v.0.scope.kinds ≡ (Ptr ∷ ps) ++ (fields ++ g.more) = g.grown ∙ ap (λ ks. ks ++ g.more) inner ∙ append_assoc (Ptr ∷ ps) fields g.more in
    let held = numbers_from (length scope.kinds) (length u.0.kinds - length scope.kinds) in
    let held_is : held ≡ numbers_from (suc (length ps)) (length fields) =
    ap (λ n. numbers_from n (length u.0.kinds - length scope.kinds)) short ∙ ap (numbers_from (suc (length ps))) count in
    let held_long : length held ≡ length fields = ap length held_is ∙ numbers_long (suc (length ps)) (length fields) in
    let there : slice_get context.structs s.0 ≡ Some t.0 = t.1 in
    let inside : take (length held) (drop (suc (length ps)) v.0.scope.kinds) ≡ fields =
    ap (λ n. take n (drop (suc (length ps)) v.0.scope.kinds)) held_long ∙ ap (λ ks. take (length fields) (drop (suc (length ps)) ks)) whole ∙ ap (take (length fields)) (drop_seam (Ptr ∷ ps) (fields ++ g.more)) ∙ take_seam fields g.more in
    subst (RuleOk context ps) (ok_is _ r v.2) (record {
      block = ap (option_map (λ info. field_kinds info.fields)) there ∙ ap (λ ks. Some ks) (sym inside);
      names = record {
        front = ap (λ ks. take (suc (length ps)) ks) whole ∙ take_seam (Ptr ∷ ps) (fields ++ g.more);
        contents = held_is ∙ ap (numbers_from (suc (length ps))) (sym held_long);
        atoms = subst (λ n. AtomsFit v.0.scope.kinds (suc (length ps) + n) v.0.atoms) (sym held_long) g.fits.atoms;
      };
      guarded = λ none. absurd (cc);
      calls = g.fits.calls;
    })

rule_ok : (context : Context) (scope : Scope) (ps : List Kind) (b : Option Block) (is : List Item) (r : Rule) → scope.kinds ≡ Ptr ∷ ps → Each IsSmallItem is → rule_by context scope b is ≡ Ok r → RuleOk context ps r
rule_ok context scope ps None is r front small e = bare_rule_ok context scope ps is r front small e
rule_ok context scope ps (Some b) is r front small e = block_rule_ok context scope ps b is r front small e

rules_ok : (context : Context) (scope : Scope) (ps : List Kind) (texts : List RuleText) (rs : List Rule) → scope.kinds ≡ Ptr ∷ ps → Each IsSmallRule texts → rules context scope texts ≡ Ok rs → Each (RuleOk context ps) rs
rules_ok context scope ps [] rs front small e = subst (Each (RuleOk context ps)) (ok_is _ rs e) tt
rules_ok context scope ps (t ∷ texts) rs front small e =
    let s = bind_ok _ _ rs e in
    let u = bind_ok _ _ rs s.2 in
    let both : Each (RuleOk context ps) (s.0 ∷ u.0) = (rule_ok context scope ps t.block t.items s.0 front small.0 s.1, rules_ok context scope ps texts u.0 front small.1 u.1) in
    subst (Each (RuleOk context ps)) (ok_is _ rs u.2) both

some_of : {X : Type 0} (x : X) (xs : List X) → x ∷ xs ≢ []
some_of x xs e = cc

some_rules : (context : Context) (scope : Scope) (texts : List RuleText) (rs : List Rule) → texts ≢ [] → rules context scope texts ≡ Ok rs → rs ≢ []
some_rules context scope [] rs some e = absurd (some refl)
some_rules context scope (t ∷ texts) rs some e =
    let s = bind_ok (rule context scope t) (λ r. rules context scope texts >>= (λ more. ok (r ∷ more))) rs e in
    let u = bind_ok (rules context scope texts) (λ more. ok (s.0 ∷ more)) rs s.2 in
    subst (λ l. l ≢ []) (ok_is (s.0 ∷ u.0) rs u.2) (some_of s.0 u.0)

-- ---- definitions
record DefOk (context : Context) (d : Def) : Type 0 where
  some : d.rules ≢ []
  rules : Each (RuleOk context d.params) d.rules

definition_of_ok : (context : Context) (t : DefText) (d : Def) → IsWhole t → definition_of context t ≡ Ok d → DefOk context d × (d.params ≡ kinds_of t.head.params)
definition_of_ok context t d whole e =
    let s = bind_ok _ _ d e in
    let u = bind_ok _ _ d s.2 in
    let ps = kinds_of t.head.params in
    let front : s.0.kinds ≡ Ptr ∷ ps = parameters_ok this_alone s.0 t.head.params s.1 in
    let made : DefOk context (record { name = t.head.name.text; params = ps; rules = u.0 }) = record { some = some_rules context s.0 t.rules u.0 whole.some u.1; rules = rules_ok context s.0 ps t.rules u.0 front whole.small u.1 } in
    let is = ok_is _ d u.2 in
    (subst (DefOk context) is made, ap (λ x. x.params) (sym is))

definition_ok : (context : Context) (n : ℕ) (t : DefText) (d : Def) → IsWhole t → definition context n t ≡ Ok d → DefOk context d × (d.params ≡ kinds_of t.head.params)
definition_ok context n t d whole e =
    let s = needs_ok (position (λ name. is_same name t.head.name.text) context.preds) (at Cause.Twice t.head.name) (λ first. if first == n then definition_of context t else Err (at Cause.Twice t.head.name)) d e in
    let u = then_ok (s.0 == n) (definition_of context t) (at Cause.Twice t.head.name) d s.2 in definition_of_ok context t d whole u.1

definitions_ok : (context : Context) (n : ℕ) (ts : List DefText) (ds : List Def) → Each IsWhole ts → definitions context n ts ≡ Ok ds → Each (DefOk context) ds × (map (λ d. d.params) ds ≡ map (λ t. kinds_of t.head.params) ts)
definitions_ok context n [] ds whole e = let is = ok_is _ ds e in (subst (Each (DefOk context)) is tt, ap (map (λ d. d.params)) (sym is))
definitions_ok context n (t ∷ ts) ds whole e =
    let s = bind_ok _ _ ds e in
    let u = bind_ok _ _ ds s.2 in
    let is = ok_is _ ds u.2 in
    let one = definition_ok context n t s.0 whole.0 s.1 in
    let more = definitions_ok context (suc n) ts u.0 whole.1 u.1 in
    let both : Each (DefOk context) (s.0 ∷ u.0) = (one.0, more.0) in
    (subst (Each (DefOk context)) is both, ap (map (λ d. d.params)) (sym is) ∙ ap (λ ks. ks ∷ map (λ d. d.params) u.0) one.1 ∙ ap (λ rest. kinds_of t.head.params ∷ rest) more.1)

get_mapped : (ds : List Def) (i : ℕ) (ps : List Kind) → slice_get (map (λ d. d.params) ds) i ≡ Some ps → (d : Def) × (slice_get ds i ≡ Some d) × (d.params ≡ ps)
get_mapped [] i ps e = absurd (cc)
get_mapped (d ∷ ds) zero ps e = (d, refl, cc)
get_mapped (d ∷ ds) (suc i) ps e = get_mapped ds i ps e

all_cons : {X : Type 0} (Q : X → Type 0) (x : X) (xs : List X) → Q x → All Q xs → All Q (x ∷ xs)
all_cons {X} Q x xs p a = λ k d below. go k d below where
  go : (k : ℕ) (d : X) → k < length (x ∷ xs) → Q (get_or (x ∷ xs) k d)
  go zero d below = p
  go (suc k) d below = a k d (omega arith)

all_of : {X : Type 0} {P : X → Type 0} (Q : X → Type 0) (xs : List X) → ((x : X) → P x → Q x) → Each P xs → All Q xs
all_of Q [] f a = λ k d below. absurd (omega arith)
all_of Q (x ∷ xs) f (p, a) = all_cons Q x xs (f x p) (all_of Q xs f a)

calls_fit : (params : List (List Kind)) (ds : List Def) (names : List Kind) → map (λ d. d.params) ds ≡ params → (c : Call) → Calls params names c → CallFits ds names c
calls_fit params ds names same c f =
    let d = get_mapped ds c.pred.0 f.ps (rw same f.defined) in
    record { def = d.0; defined = d.1; pointer = f.pointer; args = rw d.2 f.args }

rule_fits : (context : Context) (ds : List Def) (ps : List Kind) → map (λ d. d.params) ds ≡ context.params → (r : Rule) → RuleOk context ps r → RuleFitsStructs context.structs ds ps r
rule_fits context ds ps same r f = record {
  block = f.block;
  fits = record { names = f.names; guarded = f.guarded; calls = all_of (CallFits ds r.names) r.calls (calls_fit context.params ds r.names same) f.calls };
}

-- what is said of a file fits the structs
pub judged_fits : (structs : List StructInfo) (file : List DefText) (ds : List Def) → Each IsWhole file → judged structs file ≡ Ok ds → DefsFit structs ds
judged_fits structs file ds whole e =
    let context = context_of structs file in
    let f = definitions_ok context 0 file ds whole e in
    all_of (DefFits structs ds) ds (λ d g. record { some = g.some; rules = all_of (RuleFitsStructs structs ds d.params) d.rules (rule_fits context ds d.params f.1) g.rules }) f.0
