-- The numbers of the items of a list that pass a test, ascending.
use Rattle.std.proofs.Common.{◌≡◌, ◌<◌, ◌+◌, ℕ, zero, suc, Bool, true, false, cond, eqb, List, [], ◌∷◌, Some, length, refl, sym, ap, subst, ◌∙◌, arith, inl, inr, eq-eqb, eqb-true}
use Rattle.std.proofs.lemmas.List.Elements.{All-cons, All-nil, All-weaker}
use Rattle.std.proofs.lemmas.List.Folds.{Any-from_list_any, list_any-from_Any}
use Rattle.std.proofs.lemmas.List.Kept.{AllPairs-cons}
use Rattle.std.proofs.lemmas.Option.{same_Some, slice_get_cases, slice_get_within}
use Rattle.std.specs.List.{list_any}
use Rattle.std.specs.Prelude.{All, AllPairs, Contains, slice_get, slice_index_or}
use Rattle.mc_base.specs.declared.ids.VarId.{VarId}
use Rattle.mc_base.specs.declared.text.place.Place.{Place}
use Rattle.mc_lower_spec.specs.Graphs.{Graph, Owner, local, result, temporary, stage, var, IsMade, is_made, AreMade, Leaves, leaves}
use Rattle.mc_lower_spec.specs.Length.Lengths.{clearing, leaving}
use Rattle.mc_lower_laws.proofs.ExistingLemmas.Tables.{Owned, Has, In, Source, Piece, up_to, meant as seen_as}
use Rattle.mc_lower_laws.proofs.ExistingLemmas.Values.{undefining, knowing}
use Rattle.mc_lower_laws.proofs.ScopedLemmas.Lists.{contains_tail}

module _ {X Y : Type 0} (make : ℕ → Y) (number : Y → ℕ) (back : (n : ℕ) → number (make n) ≡ n) (test : X → Bool) where
  -- the items from this number on that pass
  pub record Chosen (k : ℕ) (xs : List X) : Type 0 where
    pub chosen : List Y
    pub ascending : AllPairs (λ v w. number v < number w) chosen
    pub all : (i n : ℕ) (x : X) → n ≡ k + i → slice_get xs i ≡ Some x → test x ≡ true → Contains chosen (make n)
    pub only : All (λ v. (i : ℕ) × (x : X) × (number v ≡ k + i) × (slice_get xs i ≡ Some x) × (test x ≡ true)) chosen

  choosing_by : (b : Bool) (k : ℕ) (x : X) (xs : List X) → test x ≡ b → Chosen (suc k) xs → Chosen k (x ∷ xs)
  choosing_by true k x xs is rest =
      record {
        chosen = make k ∷ rest.chosen;
        ascending = AllPairs-cons (λ v w. number v < number w) (make k) rest.chosen
            (All-weaker (λ v. (i : ℕ) × (y : X) × (number v ≡ suc k + i) × (slice_get xs i ≡ Some y) × (test y ≡ true)) (λ w. number (make k) < number w)
            (λ v (i, y, at, there, passes). omega (arith, at, back k)) rest.chosen rest.only)
            rest.ascending;
        all = at_each;
        only = All-cons (λ v. (i : ℕ) × (y : X) × (number v ≡ k + i) × (slice_get (x ∷ xs) i ≡ Some y) × (test y ≡ true)) (make k) rest.chosen
            (zero, x, (let same = back k in omega (arith, same)), refl, is)
            (All-weaker (λ v. (i : ℕ) × (y : X) × (number v ≡ suc k + i) × (slice_get xs i ≡ Some y) × (test y ≡ true)) (λ v. (i : ℕ) × (y : X) × (number v ≡ k + i) × (slice_get (x ∷ xs) i ≡ Some y) × (test y ≡ true))
            (λ v (i, y, at, there, passes). (suc i, y, omega (arith, at), there, passes)) rest.chosen rest.only);
      }
    where
      at_each : (i n : ℕ) (y : X) → n ≡ k + i → slice_get (x ∷ xs) i ≡ Some y → test y ≡ true → Contains (make k ∷ rest.chosen) (make n)
      at_each zero n y same there passes = let e : k ≡ n = omega (arith, same) in (zero, omega arith, ap make e)
      at_each (suc i) n y same there passes = contains_tail (make k) rest.chosen (make n) (rest.all i n y (omega (arith, same)) there passes)
  choosing_by false k x xs is rest =
      record {
        chosen = rest.chosen;
        ascending = rest.ascending;
        all = at_each;
        only = All-weaker (λ v. (i : ℕ) × (y : X) × (number v ≡ suc k + i) × (slice_get xs i ≡ Some y) × (test y ≡ true)) (λ v. (i : ℕ) × (y : X) × (number v ≡ k + i) × (slice_get (x ∷ xs) i ≡ Some y) × (test y ≡ true))
            (λ v (i, y, at, there, passes). (suc i, y, omega (arith, at), there, passes)) rest.chosen rest.only;
      }
    where
      at_each : (i n : ℕ) (y : X) → n ≡ k + i → slice_get (x ∷ xs) i ≡ Some y → test y ≡ true → Contains rest.chosen (make n)
      at_each zero n y same there passes = let e = same_Some x y there in let never : false ≡ true = sym is ∙ ap test e ∙ passes in absurd (cc never)
      at_each (suc i) n y same there passes = rest.all i n y (omega (arith, same)) there passes

  pub choosing : (k : ℕ) (xs : List X) → Chosen k xs
  choosing k [] =
      record {
        chosen = [];
        ascending = λ i j d less within. absurd (omega (arith, less, within));
        all = λ i n x same there passes. absurd (cc there);
        only = All-nil (λ v. (i : ℕ) × (x : X) × (number v ≡ k + i) × (slice_get [] i ≡ Some x) × (test x ≡ true));
      }
  choosing k (x ∷ xs) = choosing_by (test x) k x xs refl (choosing (suc k) xs)

-- ---- variables of an occurrence
-- of this occurrence, of those that are meant
abbrev pub is_meant : (ℕ → Bool) → ℕ → Owner → Bool
is_meant meant out (local o x) = cond (eqb o out) (meant x) false
is_meant meant out (result o) = false
is_meant meant out (temporary j kind) = false

meant_if : (b : Bool) (meant : ℕ → Bool) (o out x : ℕ) → eqb o out ≡ b → cond b (meant x) false ≡ true → (o ≡ out) × (meant x ≡ true)
meant_if true meant o out x same is = (eqb-true o out same, is)
meant_if false meant o out x same is = absurd (cc is)

meant_is : (meant : ℕ → Bool) (out : ℕ) (w : Owner) → is_meant meant out w ≡ true → (x : ℕ) × (w ≡ local out x) × (meant x ≡ true)
meant_is meant out (local o x) is = let (same, passes) = meant_if (eqb o out) meant o out x refl is in (x, ap (λ z. local z x) same, passes)
meant_is meant out (result o) is = absurd (cc is)
meant_is meant out (temporary j kind) is = absurd (cc is)

is_of : (meant : ℕ → Bool) (out x : ℕ) → meant x ≡ true → is_meant meant out (local out x) ≡ true
is_of meant out x passes = ap (λ b. cond b (meant x) false) (eq-eqb out out refl) ∙ passes

abbrev Picked : (ℕ → Bool) → ℕ → List Owned → Type 0
Picked meant out old = Chosen (λ n. var n) (λ v. v.0) (λ n. refl) (λ (w : Owned). is_meant meant out w.owner) 0 old

pub picked : (meant : ℕ → Bool) (out : ℕ) (old : List Owned) → Picked meant out old
picked meant out old = choosing (λ n. var n) (λ v. v.0) (λ n. refl) (λ (w : Owned). is_meant meant out w.owner) 0 old

owned_there : {g : Graph} {old : List Owned} (has : Has g old) (i : ℕ) (o : Owner) → slice_get g.owners i ≡ Some o → i < length old → (w : Owned) × (slice_get old i ≡ Some w) × (w.owner ≡ o)
owned_there {g = g} {old = old} has i o is within =
    elim ((slice_get_cases old i).1) [
      | inl there ↦ let (w, less, at, same) = there in (w, at, same_Some w.owner o (sym (has.owners i w at) ∙ is))
      | inr past ↦ absurd (omega (arith, past.0, within))
    ]

-- these are the variables that are made by then
pub are_picked : {g : Graph} {old : List Owned} (meant : ℕ → Bool) (Meant : ℕ → Type 0) (out b n : ℕ) → ((x : ℕ) → Meant x → meant x ≡ true) → ((x : ℕ) → meant x ≡ true → Meant x) → Has g old → (p : Picked meant out old)
    → AreMade g out Meant (stage b n (length old)) p.chosen
are_picked {g = g} {old = old} meant Meant out b n to from has p =
    record {
      ascending = p.ascending;
      all = λ x v is_it made. among x v is_it made;
      only = All-weaker (λ v. (i : ℕ) × (w : Owned) × (v.0 ≡ 0 + i) × (slice_get old i ≡ Some w) × (is_meant meant out w.owner ≡ true)) (λ v. (x : ℕ) × Meant x × IsMade g (local out x) v (stage b n (length old)))
          (λ v (i, w, at, there, passes).
          let (x, same, is_it) = meant_is meant out w.owner passes in
          let here : v.0 ≡ i = omega (arith, at) in
          let owned : slice_get g.owners v.0 ≡ Some (local out x) = ap (λ k. slice_get g.owners k) here ∙ has.owners i w there ∙ ap (λ o. Some o) same in
          let within : i < length old = slice_get_within old i w there in
          (x, from x is_it, is_made owned (omega (arith, here, within)))) p.chosen p.only;
    }
  where
    among : (x : ℕ) (v : VarId) → Meant x → IsMade g (local out x) v (stage b n (length old)) → Contains p.chosen v
    among x v is_it (is_made owned within) =
        let (w, there, same) = owned_there has v.0 (local out x) owned within in
        p.all v.0 v.0 w (omega arith) there (ap (is_meant meant out) same ∙ is_of meant out x (to x is_it))

-- ---- blocks that are left
abbrev is_among : List ℕ → ℕ → Bool
is_among xs x = list_any (eqb x) xs

among_true : (xs : List ℕ) (x : ℕ) → Contains xs x → is_among xs x ≡ true
among_true xs x (k, within, is) = list_any-from_Any (eqb x) xs (k, x, within, is, eq-eqb x x refl)

true_among : (xs : List ℕ) (x : ℕ) → is_among xs x ≡ true → Contains xs x
true_among xs x is = let (k, y, within, there, same) = Any-from_list_any (eqb x) xs is in (k, within, subst (λ z. slice_index_or xs k z ≡ z) (sym (eqb-true x y same)) there)

-- of these variables some are made, or none
pub record AreExact (out : ℕ) (made : List ℕ) (old : List Owned) : Type 0 where
  pub has : (x : ℕ) → Contains made x → In old (local out x)
  pub only : (x : ℕ) → In old (local out x) → Contains made x

none_cleared : (out : ℕ) (xs made : List ℕ) (old : List Owned) (vs : List VarId) → list_any (λ x. list_any (eqb x) made) xs ≡ false → AreExact out made old
    → All (λ v. (i : ℕ) × (w : Owned) × (v.0 ≡ 0 + i) × (slice_get old i ≡ Some w) × (is_meant (is_among xs) out w.owner ≡ true)) vs → clearing (length vs) ≡ 0
none_cleared out xs made old [] is exact all = refl
none_cleared out xs made old (v ∷ vs) is exact all =
    let (i, w, at, there, passes) = all 0 v (omega arith) in
    let (x, same, is_it) = meant_is (is_among xs) out w.owner passes in
    let (k, within, here) = true_among xs x is_it in
    let made_by : Contains made x = exact.only x (record { number = i; info = w.info; there = there ∙ ap (λ o. Some (record { owner = o; info = w.info })) same }) in
    let outer : list_any (λ y. list_any (eqb y) made) xs ≡ true = list_any-from_Any (λ y. list_any (eqb y) made) xs (k, x, within, here, among_true made x made_by) in
    absurd (cc (is, outer))

some_cleared : (vs : List VarId) (v : VarId) → Contains vs v → clearing (length vs) ≡ 1
some_cleared [] v among = absurd (omega (arith, among.1))
some_cleared (h ∷ vs) v among = refl

cleared : (out : ℕ) (xs made : List ℕ) (old : List Owned) (p : Picked (is_among xs) out old) (b : Bool) → list_any (λ x. list_any (eqb x) made) xs ≡ b → AreExact out made old → clearing (length p.chosen) ≡ cond b 1 0
cleared out xs made old p false is exact = none_cleared out xs made old p.chosen is exact p.only
cleared out xs made old p true is exact =
    let (i, x, i_within, x_there, x_made) = Any-from_list_any (λ x. list_any (eqb x) made) xs is in
    let there = exact.has x (true_among made x x_made) in
    some_cleared p.chosen (var there.number)
    (p.all there.number there.number (record { owner = local out x; info = there.info }) (omega arith) there.there (is_of (is_among xs) out x (among_true xs x (i, i_within, x_there))))

pub leaving_now : {z : Source} {out : ℕ} (n : ℕ) (old : List Owned) (place : Place) (xs made : List ℕ) → AreExact out made old → Piece z n (n + leaving xs made) [] old (λ g s u. Leaves g out place xs s u)
leaving_now {z = z} {out = out} n old place xs made exact =
    let p = picked (is_among xs) out old in
    let many : clearing (length p.chosen) ≡ leaving xs made = cleared out xs made old p (list_any (λ x. list_any (eqb x) made) xs) refl exact in
    up_to (omega (arith, many))
    (seen_as (knowing {K = λ g s. AreMade g out (λ x. Contains xs x) s p.chosen} (λ g b is has. are_picked (is_among xs) (λ x. Contains xs x) out b n (among_true xs) (true_among xs) has p) (undefining n old place p.chosen))
    (λ g s u is (made_by, undone). leaves made_by undone))
