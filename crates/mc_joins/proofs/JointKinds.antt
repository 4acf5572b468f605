-- The nodes of a result have the kinds of their pairs.
use Rattle.std.proofs.Common.{◌≡◌, ◌<◌, ℕ, suc, ◌+◌, List, [], ◌∷◌, ◌++◌, Bool, true, false, Option, Some, None, length, refl, ap, sym, ◌∙◌, subst, inl, inr, arith, eqb-true, eq-eqb}
use Rattle.std.specs.Prelude.{◌==◌, ◌&&◌, ◌||◌, not, cond, nat_lt, option_map, option_to_list, unwrap_or, if◌then◌else◌}
use Rattle.std.specs.Option.{option_or}
use Rattle.std.specs.List.{AllByRecursion, list_any, prefix_len}
use Rattle.std.proofs.lemmas.Bool.{ne_eqb}
use Rattle.mc_base.specs.declared.ids.NodeId.{NodeId}
use Rattle.mc_base.specs.declared.plain.Kind.{Kind}
use Rattle.mc_base.specs.Nodes.{null}
use Rattle.mc_pure_ops.specs.Join.Joint.{Pairs}
use Rattle.mc_pure.specs.Pure.{Kinds, HasKind, kind_of}
use Rattle.mc_state.specs.Fits.{NodesAscend}
use Rattle.mc_joins.specs.Joinings.{Joining, Pair, same_pair, with_pairs}
use Rattle.mc_joins.specs.Steps.{node_for}
use Rattle.mc_joins.specs.Whole.{kind_of_pair, kinds_from}

-- two nodes of one kind
abbrev pub OneKind : Kinds → Kinds → Pair → Type 0
OneKind lk rk p = (kind : Kind) × HasKind lk kind p.0 × HasKind rk kind p.1

-- and not both node 0
abbrev pub Proper : Kinds → Kinds → Pair → Type 0
Proper lk rk p = OneKind lk rk p × (p.0.0 ≡ 0 → p.1.0 ≡ 0 → ⊥)

abbrev pub Listed : Pairs → Pair → Type 0
Listed pairs p = list_any (same_pair p) pairs ≡ true

-- node 0 is of no kind of its own
abbrev pub NoNull : Kinds → Type 0
NoNull kinds = kind_of kinds null ≡ None

pub no_null : (low : ℕ) (kinds : Kinds) (high : ℕ) → 0 < low → NodesAscend low kinds high → NoNull kinds
no_null low [] high less a = refl
no_null low (k ∷ kinds) high less a =
    let first = a.0 in
    let apart : (k.0.0 == 0) ≡ false = ne_eqb k.0.0 0 (let differ : k.0.0 ≡ 0 → ⊥ = λ q. omega arith in differ) in
    ap (λ (b : Bool). if b then Some k.1 else kind_of kinds null) apart ∙ no_null (suc k.0.0) kinds high (omega arith) a.2

both_true : (a b : Bool) → (a && b) ≡ true → (a ≡ true) × (b ≡ true)
both_true true b e = (refl, e)
both_true false b e = absurd (cc e)

pub same_of : (p q : Pair) → same_pair p q ≡ true → p ≡ q
same_of p q e =
    let both = both_true (p.0.0 == q.0.0) (p.1.0 == q.1.0) e in
    let l : p.0 ≡ q.0 = ap (λ (i : ℕ). let n : NodeId = record { 0 = i } in n) (eqb-true p.0.0 q.0.0 both.0) in
    let r : p.1 ≡ q.1 = ap (λ (i : ℕ). let n : NodeId = record { 0 = i } in n) (eqb-true p.1.0 q.1.0 both.1) in
    ap (λ (n : NodeId). let x : Pair = (n, p.1) in x) l ∙ ap (λ (n : NodeId). let x : Pair = (q.0, n) in x) r

pub itself : (p : Pair) → same_pair p p ≡ true
itself p = ap (λ (b : Bool). b && (p.1.0 == p.1.0)) (eq-eqb p.0.0 p.0.0 refl) ∙ eq-eqb p.1.0 p.1.0 refl

-- ---- pairs that are listed

or_right : (a b : Bool) → b ≡ true → (a || b) ≡ true
or_right true b e = refl
or_right false b e = e

pub any_left : {X : Type 0} (test : X → Bool) (xs ys : List X) → list_any test xs ≡ true → list_any test (xs ++ ys) ≡ true
any_left test [] ys e = absurd (cc e)
any_left test (x ∷ xs) ys e = at (test x) (λ f. any_left test xs ys f) e
  where
    at : (b : Bool) → (list_any test xs ≡ true → list_any test (xs ++ ys) ≡ true) → (b || list_any test xs) ≡ true → (b || list_any test (xs ++ ys)) ≡ true
    at true f e = refl
    at false f e = f e

any_right : {X : Type 0} (test : X → Bool) (xs ys : List X) → list_any test ys ≡ true → list_any test (xs ++ ys) ≡ true
any_right test [] ys e = e
any_right test (x ∷ xs) ys e = or_right (test x) (list_any test (xs ++ ys)) (any_right test xs ys e)

any_last : (p : Pair) → list_any (same_pair p) (p ∷ []) ≡ true
any_last p = ap (λ (b : Bool). b || false) (itself p)

all_more : {X : Type 0} (P : X → Type 0) (xs ys : List X) → AllByRecursion P xs → AllByRecursion P ys → AllByRecursion P (xs ++ ys)
all_more P [] ys a b = b
all_more P (x ∷ xs) ys a b = (a.0, all_more P xs ys a.1 b)

append_one : {X : Type 0} (xs : List X) (y : X) (ys : List X) → (xs ++ y ∷ []) ++ ys ≡ xs ++ y ∷ ys
append_one [] y ys = refl
append_one (x ∷ xs) y ys = ap (λ r. x ∷ r) (append_one xs y ys)

no_more : {X : Type 0} (xs : List X) → xs ++ [] ≡ xs
no_more [] = refl
no_more (x ∷ xs) = ap (λ r. x ∷ r) (no_more xs)

-- pairs with more after them, all of which are proper; each of these is listed
pub record More (lk rk : Kinds) (rest new : Pairs) : Type 0 where
  pub more : Pairs
  pub is : with_pairs ((null, null) ∷ rest) new ≡ (null, null) ∷ (rest ++ more)
  pub proper : AllByRecursion (Proper lk rk) more
  pub listed : AllByRecursion (Listed ((null, null) ∷ (rest ++ more))) new

pub listed_on : (pairs more : Pairs) (new : Pairs) → AllByRecursion (Listed pairs) new → AllByRecursion (Listed (pairs ++ more)) new
listed_on pairs more [] a = tt
listed_on pairs more (p ∷ new) a = (any_left (same_pair p) pairs more a.0, listed_on pairs more new a.1)

module _ (lk rk : Kinds) where
  pub with_more : (rest new : Pairs) → AllByRecursion (OneKind lk rk) new → More lk rk rest new
  with_more rest [] a = record { more = []; is = ap (λ r. (null, null) ∷ r) (sym (no_more rest)); proper = tt; listed = tt }
  with_more rest (p ∷ new) a =
      at (list_any (same_pair p) ((null, null) ∷ rest)) refl (with_more rest new a.1) (with_more (rest ++ p ∷ []) new a.1)
    where
      at : (b : Bool) → list_any (same_pair p) ((null, null) ∷ rest) ≡ b → More lk rk rest new → More lk rk (rest ++ p ∷ []) new → More lk rk rest (p ∷ new)
      at true there m n = record {
        more = m.more;
        is = ap (λ (b : Bool). with_pairs (if b then (null, null) ∷ rest else ((null, null) ∷ rest) ++ p ∷ []) new) there ∙ m.is;
        proper = m.proper;
        listed = (any_left (same_pair p) ((null, null) ∷ rest) m.more there, m.listed);
      }
      at false there m n =
          let joined : (rest ++ p ∷ []) ++ n.more ≡ rest ++ p ∷ n.more = append_one rest p n.more in
          record {
            more = p ∷ n.more;
            is =
                ap (λ (b : Bool). with_pairs (if b then (null, null) ∷ rest else ((null, null) ∷ rest) ++ p ∷ []) new) there ∙ n.is
                ∙ ap (λ (r : Pairs). (null, null) ∷ r) joined;
            proper = ((a.0, λ x y. not_null x y), n.proper);
            listed = (
              any_right (same_pair p) ((null, null) ∷ rest) (p ∷ n.more) (any_left (same_pair p) (p ∷ []) n.more (any_last p)),
              subst (λ (r : Pairs). AllByRecursion (Listed ((null, null) ∷ r)) new) joined n.listed,
            );
          } where
            not_null : p.0.0 ≡ 0 → p.1.0 ≡ 0 → ⊥
            not_null x y =
                let front : same_pair p (null, null) ≡ true = ap (λ (b : Bool). b && (p.1.0 == 0)) (eq-eqb p.0.0 0 x) ∙ eq-eqb p.1.0 0 y in
                let any : list_any (same_pair p) ((null, null) ∷ rest) ≡ true = ap (λ (b : Bool). b || list_any (same_pair p) rest) front in
                cc (any, there)

-- ---- kinds of pairs

module _ (j : Joining) (left_none : NoNull j.left.state.kinds) where
  abbrev lk : Kinds
  lk = j.left.state.kinds

  abbrev rk : Kinds
  rk = j.right.state.kinds

  -- a proper pair has its kind
  pub pair_kind : (p : Pair) (kind : Kind) → HasKind lk kind p.0 → HasKind rk kind p.1 → (p.0.0 ≡ 0 → p.1.0 ≡ 0 → ⊥) → kind_of_pair j p ≡ Some kind
  pair_kind p kind (inr e) r other = ap (λ (o : Option Kind). option_or o (kind_of rk p.1)) e
  pair_kind p kind (inl l) (inr e) other =
      ap (λ (n : NodeId). option_or (kind_of lk n) (kind_of rk p.1)) l ∙ ap (λ (o : Option Kind). option_or o (kind_of rk p.1)) left_none ∙ e
  pair_kind p kind (inl l) (inl r) other = absurd (other (ap (λ (n : NodeId). n.0) l) (ap (λ (n : NodeId). n.0) r))

  pub kinds_step : (n : ℕ) (p : Pair) (ps : Pairs) (kind : Kind) → kind_of_pair j p ≡ Some kind → kinds_from j n (p ∷ ps) ≡ (record { 0 = n }, kind) ∷ kinds_from j (suc n) ps
  kinds_step n p ps kind e =
      ap (λ (o : Option Kind). option_to_list (option_map (λ (k : Kind). let x : NodeId × Kind = (record { 0 = n }, k) in x) o) ++ kinds_from j (suc n) ps) e

  -- the node of a listed pair's place has the pair's kind
  place_kind : (n : ℕ) (ps : Pairs) (x : Pair) (kind : Kind) → AllByRecursion (Proper lk rk) ps → kind_of_pair j x ≡ Some kind → list_any (same_pair x) ps ≡ true
      → kind_of (kinds_from j n ps) (record { 0 = n + prefix_len (λ q. not (same_pair x q)) ps }) ≡ Some kind
  place_kind n [] x kind a e l = absurd (cc l)
  place_kind n (p ∷ ps) x kind a e l =
      at (same_pair x p) refl (λ f. place_kind (suc n) ps x kind a.1 e f) l
    where
      own : kind_of_pair j p ≡ Some a.0.0.0
      own = pair_kind p a.0.0.0 a.0.0.1 a.0.0.2 a.0.1

      head : (m : ℕ) (b : Bool) → (n == m) ≡ b → kind_of (kinds_from j n (p ∷ ps)) (record { 0 = m }) ≡ (if b then Some a.0.0.0 else kind_of (kinds_from j (suc n) ps) (record { 0 = m }))
      head m b is =
          ap (λ (ks : Kinds). kind_of ks (record { 0 = m })) (kinds_step n p ps a.0.0.0 own)
          ∙ ap (λ (c : Bool). if c then Some a.0.0.0 else kind_of (kinds_from j (suc n) ps) (record { 0 = m })) is

      at : (b : Bool) → same_pair x p ≡ b
          → (list_any (same_pair x) ps ≡ true → kind_of (kinds_from j (suc n) ps) (record { 0 = suc n + prefix_len (λ q. not (same_pair x q)) ps }) ≡ Some kind)
          → (b || list_any (same_pair x) ps) ≡ true
          → kind_of (kinds_from j n (p ∷ ps)) (record { 0 = n + cond (not b) (1 + prefix_len (λ q. not (same_pair x q)) ps) 0 }) ≡ Some kind
      at true is rest l =
          let same : n + 0 ≡ n = omega arith in
          let one : kind_of_pair j p ≡ Some kind = ap (kind_of_pair j) (sym (same_of x p is)) ∙ e in
          let kinds : a.0.0.0 ≡ kind = cc (own, one) in
          subst (λ (m : ℕ). kind_of (kinds_from j n (p ∷ ps)) (record { 0 = m }) ≡ Some kind) (sym same)
          (head n true (eq-eqb n n refl) ∙ ap (λ (k : Kind). Some k) kinds)
      at false is rest l =
          let m = prefix_len (λ q. not (same_pair x q)) ps in
          let same : suc n + m ≡ n + (1 + m) = omega arith in
          let apart : (n == suc n + m) ≡ false = ne_eqb n (suc n + m) (let differ : n ≡ suc n + m → ⊥ = λ q. omega arith in differ) in
          subst (λ (i : ℕ). kind_of (kinds_from j n (p ∷ ps)) (record { 0 = i }) ≡ Some kind) same (head (suc n + m) false apart ∙ rest l)

  pub node_kind : (rest : Pairs) → AllByRecursion (Proper lk rk) rest → (kind : Kind) (x y : NodeId) → HasKind lk kind x → HasKind rk kind y
      → Listed ((null, null) ∷ rest) (x, y) → HasKind (kinds_from j 1 rest) kind (node_for ((null, null) ∷ rest) x y)
  node_kind rest proper kind x y l r listed =
      at (same_pair (x, y) (null, null)) (x.0 == 0) (y.0 == 0) refl refl refl listed
      (nat_lt (cond (not (same_pair (x, y) (null, null))) (1 + prefix_len (λ q. not (same_pair (x, y) q)) rest) 0) (length ((null, null) ∷ rest)))
    where
      at : (b c d : Bool) → same_pair (x, y) (null, null) ≡ b → (x.0 == 0) ≡ c → (y.0 == 0) ≡ d → (b || list_any (same_pair (x, y)) rest) ≡ true → (inside : Bool)
          → HasKind (kinds_from j 1 rest) kind (record { 0 = unwrap_or (cond inside (Some (cond (not b) (1 + prefix_len (λ q. not (same_pair (x, y) q)) rest) 0)) None) 0 })
      at b c d is cx dy l' false = inl refl
      at true c d is cx dy l' true = inl refl
      at false c d is cx dy l' true =
          inr (place_kind 1 rest (x, y) kind proper
          (pair_kind (x, y) kind l r (λ p q.
          let front : same_pair (x, y) (null, null) ≡ true = ap (λ (b : Bool). b && (y.0 == 0)) (eq-eqb x.0 0 p) ∙ eq-eqb y.0 0 q in
          cc (front, is))) l')
