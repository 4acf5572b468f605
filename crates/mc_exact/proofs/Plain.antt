-- States of exact branches: each number is one, and atoms are plain.
use Rattle.std.proofs.Common.{◌≡◌, ◌<◌, ◌≤◌, ◌+◌, ℕ, zero, suc, ℤ, pos, Bool, true, false, Some, None, List, [], ◌∷◌, ◌++◌, map, length, slice_get, if◌then◌else◌, refl, sym, ap, ◌∙◌, subst, arith, inl, inr, eq-eqb}
use Rattle.std.specs.Prelude.{◌==◌}
use Rattle.std.specs.Ordering.{int_eq}
use Rattle.std.specs.List.{AllByRecursion}
use Rattle.std.proofs.lemmas.Int.{ints}
use Rattle.mc_base.specs.declared.ids.NodeId.{NodeId}
use Rattle.mc_base.specs.declared.ids.StructId.{StructId}
use Rattle.mc_base.specs.declared.ids.VarId.{VarId}
use Rattle.mc_base.specs.declared.plain.Kind.{Kind}
use Rattle.mc_base.specs.declared.plain.Kind.TheVariants.{Int, Ptr}
use Rattle.mc_base.specs.declared.plain.Atom.{Atom}
use Rattle.mc_base.specs.declared.plain.Atom.TheVariants.{Eq, Ne, In}
use Rattle.mc_base.specs.Nodes.{null}
use Rattle.mc_flow.specs.declared.instr.Operand.{Operand}
use Rattle.mc_flow.specs.declared.instr.Operand.TheVariants.{Var, Const}
use Rattle.mc_pure.specs.Pure as known
use Rattle.mc_pure.specs.Pure.{HasKind, kind_of, Kinds}
use Rattle.mc_pure.specs.Derived.{Follows, base}
use Rattle.mc_state.specs.Graph.Graph.{Edges, block_starts}
use Rattle.mc_state.specs.State.{State, pure_of, with_var, without_vars, next_node, with_nodes, with_number, with_atoms, with_only_edges, with_block}
use Rattle.mc_state.proofs.Lists.{all_map, all_append, all_at}
use Rattle.mc_state.specs.Fits.{NodesAscend}
use Rattle.mc_rules_steps.specs.Operands.{with_operand}
use Rattle.mc_rules_steps.specs.Steps.{freed_atoms}
use Rattle.mc_exact.specs.Least.{IsNumber, IsPlain, ArePlain, IsPlainAtom}
use Rattle.mc_exact.proofs.Stored.{one_item}
use Rattle.mc_exact.proofs.Faults.{eq_same}

-- a number of the node is written
abbrev pub HasNumber : List Atom → NodeId → Type 0
HasNumber atoms n = (i : ℕ) × (k : ℤ) × (slice_get atoms i ≡ Some (In n k k))

abbrev pub AreNumbered : List Atom → Kinds → Type 0
AreNumbered atoms kinds = AllByRecursion (λ k. k.1 ≡ Int → HasNumber atoms k.0) kinds

-- a state of an exact branch
pub record IsPlainState (s : State) : Type 0 where
  pub numbers : AreNumbered s.atoms s.kinds
  pub atoms : AllByRecursion (IsPlainAtom s.kinds) s.atoms
  pub ascend : NodesAscend 1 s.kinds s.next

-- ---- more kinds and atoms

pub get_front : {A : Type 0} (xs ys : List A) (i : ℕ) (x : A) → slice_get xs i ≡ Some x → slice_get (xs ++ ys) i ≡ Some x
get_front [] ys i x e = cc
get_front (z ∷ zs) ys zero x e = e
get_front (z ∷ zs) ys (suc i) x e = get_front zs ys i x e

get_first : {A : Type 0} (xs ys : List A) (x : A) → slice_get (xs ++ x ∷ ys) (length xs) ≡ Some x
get_first [] ys x = refl
get_first (z ∷ zs) ys x = get_first zs ys x

number_more : (atoms more : List Atom) (n : NodeId) → HasNumber atoms n → HasNumber (atoms ++ more) n
number_more atoms more n h = (h.0, h.1, get_front atoms more h.0 (In n h.1 h.1) h.2)

pub kind_more : (kinds more : Kinds) (n : NodeId) (k : Kind) → kind_of kinds n ≡ Some k → kind_of (kinds ++ more) n ≡ Some k
kind_more [] more n k e = cc
kind_more (x ∷ xs) more n k e = by (λ h. kind_more xs more n k h) (x.0.0 == n.0) e
  where
    by : (kind_of xs n ≡ Some k → kind_of (xs ++ more) n ≡ Some k) → (b : Bool) → (if b then Some x.1 else kind_of xs n) ≡ Some k → (if b then Some x.1 else kind_of (xs ++ more) n) ≡ Some k
    by later true h = h
    by later false h = later h

pub has_more : (kinds more : Kinds) (k : Kind) (n : NodeId) → HasKind kinds k n → HasKind (kinds ++ more) k n
has_more kinds more k n (inl e) = inl e
has_more kinds more k n (inr e) = inr (kind_more kinds more n k e)

plain_two : (kinds more : Kinds) (a b : NodeId) (c : ℤ) → ArePlain kinds a b c → ArePlain (kinds ++ more) a b c
plain_two kinds more a b c (inl h) = inl (has_more kinds more Int a h.0, has_more kinds more Int b h.1)
plain_two kinds more a b c (inr h) = inr (has_more kinds more Ptr a h.0, has_more kinds more Ptr b h.1, h.2)

plain_more : (kinds more : Kinds) (f : Atom) → IsPlainAtom kinds f → IsPlainAtom (kinds ++ more) f
plain_more kinds more (Eq a b c) h = plain_two kinds more a b c h
plain_more kinds more (Ne a b c) h = plain_two kinds more a b c h
plain_more kinds more (In a lo hi) (inl h) = inl (has_more kinds more Int a h)
plain_more kinds more (In a lo hi) (inr h) = inr (has_more kinds more Ptr a h.0, h.1, h.2)

-- the next node has the kind that it gets
pub above : (low : ℕ) (kinds : Kinds) (high : ℕ) (k : Kind) → NodesAscend low kinds high → kind_of (kinds ++ (record { 0 = high }, k) ∷ []) (record { 0 = high }) ≡ Some k
above low [] high k up = ap (λ (b : Bool). if b then Some k else None) (eq-eqb high high refl)
above low (x ∷ xs) high k up = ap (λ (b : Bool). if b then Some x.1 else kind_of (xs ++ (record { 0 = high }, k) ∷ []) (record { 0 = high })) (not_it x.0.0 high up.1) ∙ above (suc x.0.0) xs high k up.2
  where
    not_it : (m n : ℕ) → m < n → (m == n) ≡ false
    not_it m n lt = grind arith

ascend_last : (low : ℕ) (kinds : Kinds) (high : ℕ) (k : Kind) → low ≤ high → NodesAscend low kinds high → NodesAscend low (kinds ++ (record { 0 = high }, k) ∷ []) (suc high)
ascend_last low [] high k le up = (omega arith, omega arith, tt)
ascend_last low (x ∷ xs) high k le up = (up.0, (let l = up.1 in omega arith), ascend_last (suc x.0.0) xs high k (let l = up.1 in omega arith) up.2)

-- atoms more
pub plain_atoms : (s : State) (fs : List Atom) → AllByRecursion (IsPlainAtom s.kinds) fs → IsPlainState s → IsPlainState (with_atoms s fs)
plain_atoms s fs all i = record {
  numbers = all_map (λ k. k.1 ≡ Int → HasNumber s.atoms k.0) (λ k. k.1 ≡ Int → HasNumber (s.atoms ++ fs) k.0) (λ k h e. number_more s.atoms fs k.0 (h e)) s.kinds i.numbers;
  atoms = all_append (IsPlainAtom s.kinds) s.atoms fs i.atoms all;
  ascend = i.ascend;
}

-- a new node of kind Int with a number, and atoms more
pub plain_number : (s : State) (z : ℤ) (fs : List Atom) → 1 ≤ s.next → AllByRecursion (IsPlainAtom (s.kinds ++ (next_node s, Int) ∷ [])) fs → IsPlainState s
    → IsPlainState (with_atoms (with_nodes s (Int ∷ [])) (In (next_node s) z z ∷ fs))
plain_number s z fs le all i = record {
  numbers = all_append (λ k. k.1 ≡ Int → HasNumber (s.atoms ++ In (next_node s) z z ∷ fs) k.0) s.kinds ((next_node s, Int) ∷ [])
      (all_map (λ k. k.1 ≡ Int → HasNumber s.atoms k.0) (λ k. k.1 ≡ Int → HasNumber (s.atoms ++ In (next_node s) z z ∷ fs) k.0) (λ k h e. number_more s.atoms (In (next_node s) z z ∷ fs) k.0 (h e)) s.kinds i.numbers)
      (λ e. (length s.atoms, z, get_first s.atoms fs (In (next_node s) z z)), tt);
  atoms = all_append (IsPlainAtom (s.kinds ++ (next_node s, Int) ∷ [])) s.atoms (In (next_node s) z z ∷ fs)
      (all_map (IsPlainAtom s.kinds) (IsPlainAtom (s.kinds ++ (next_node s, Int) ∷ [])) (λ f h. plain_more s.kinds ((next_node s, Int) ∷ []) f h) s.atoms i.atoms)
      (inl (inr (above 1 s.kinds s.next Int i.ascend)), all);
  ascend = subst (λ (n : ℕ). NodesAscend 1 (s.kinds ++ (next_node s, Int) ∷ []) n) (one_more s.next) (ascend_last 1 s.kinds s.next Int le i.ascend);
}
  where
    one_more : (n : ℕ) → suc n ≡ n + 1
    one_more n = omega arith

-- a new pointer
pub plain_block : (s : State) (shape : StructId) (count : ℕ) → 1 ≤ s.next → IsPlainState s → IsPlainState (with_block s shape count)
plain_block s shape count le i = record {
  numbers = all_append (λ k. k.1 ≡ Int → HasNumber s.atoms k.0) s.kinds ((next_node s, Ptr) ∷ []) i.numbers (λ e. absurd (not_int e), tt);
  atoms = all_map (IsPlainAtom s.kinds) (IsPlainAtom (s.kinds ++ (next_node s, Ptr) ∷ [])) (λ f h. plain_more s.kinds ((next_node s, Ptr) ∷ []) f h) s.atoms i.atoms;
  ascend = subst (λ (n : ℕ). NodesAscend 1 (s.kinds ++ (next_node s, Ptr) ∷ []) n) (one_more s.next) (ascend_last 1 s.kinds s.next Ptr le i.ascend);
}
  where
    not_int : Ptr ≡ Int → ⊥
    not_int e = cc

    one_more : (n : ℕ) → suc n ≡ n + 1
    one_more n = omega arith

pub plain_operand : (s : State) (o : Operand) → 1 ≤ s.next → IsPlainState s → IsPlainState (with_operand s o) × (1 ≤ (with_operand s o).next)
plain_operand s (Var x) le i = (i, le)
plain_operand s (Const k) le i = by (int_eq k (pos 0))
  where
    by : (b : Bool) → IsPlainState (if b then s else with_number s k) × (1 ≤ (if b then s else with_number s k).next)
    by true = (i, le)
    by false = (plain_number s k [] le tt i, omega arith)

-- only kinds, atoms and the next number count
pub plain_same : (s t : State) → t.kinds ≡ s.kinds → t.atoms ≡ s.atoms → t.next ≡ s.next → IsPlainState s → IsPlainState t
plain_same s t k a n i = record {
  numbers = subst (λ (ks : Kinds). AreNumbered t.atoms ks) (sym k) (subst (λ (as' : List Atom). AreNumbered as' s.kinds) (sym a) i.numbers);
  atoms = subst (λ (ks : Kinds). AllByRecursion (IsPlainAtom ks) t.atoms) (sym k) (subst (λ (as' : List Atom). AllByRecursion (IsPlainAtom s.kinds) as') (sym a) i.atoms);
  ascend = subst (λ (m : ℕ). NodesAscend 1 t.kinds m) (sym n) (subst (λ (ks : Kinds). NodesAscend 1 ks s.next) (sym k) i.ascend);
}

pub plain_without : (s : State) (xs : List VarId) → IsPlainState s → IsPlainState (without_vars s xs)
plain_without s [] i = i
plain_without s (x ∷ xs) i = plain_without (with_var s x None) xs (plain_same s (with_var s x None) refl refl refl i)

-- a freed block: its start is a pointer, and so are the others
pub plain_freed : (s : State) (es : Edges) (n : NodeId) → HasKind s.kinds Ptr n → AllByRecursion (λ (b : NodeId). HasKind s.kinds Ptr b) (block_starts es) → IsPlainState s
    → IsPlainState (with_atoms (with_only_edges s es) (freed_atoms n (block_starts es)))
plain_freed s es n kind all i =
    plain_atoms (with_only_edges s es) (freed_atoms n (block_starts es)) (inr (kind, omega (arith, ints), omega (arith, ints)), others (block_starts es) all) (plain_same s (with_only_edges s es) refl refl refl i)
  where
    others : (ns : List NodeId) → AllByRecursion (λ (b : NodeId). HasKind s.kinds Ptr b) ns → AllByRecursion (IsPlainAtom s.kinds) (map (λ b. Ne n b (pos 0)) ns)
    others [] all = tt
    others (b ∷ ns) all = (inr (kind, all.0, refl), others ns all.1)

-- a node of kind Int is a number
number_in : (s : State) (kinds : Kinds) (n : NodeId) → AreNumbered s.atoms kinds → kind_of kinds n ≡ Some Int → HasNumber s.atoms n
number_in s [] n all e = cc
number_in s (k ∷ kinds) n all e = by (λ h. number_in s kinds n all.1 h) (k.0.0 == n.0) refl e
  where
    by : (kind_of kinds n ≡ Some Int → HasNumber s.atoms n) → (b : Bool) → (k.0.0 == n.0) ≡ b → (if b then Some k.1 else kind_of kinds n) ≡ Some Int → HasNumber s.atoms n
    by later true is h =
        let node : k.0 ≡ n = (let f : ℕ → NodeId = λ m. record { 0 = m } in ap f (eq_same k.0.0 n.0 is)) in
        subst (λ (m : NodeId). HasNumber s.atoms m) node (all.0 (one_item k.1 Int h))
    by later false is h = later h

pub is_number : (s : State) (n : NodeId) → IsPlainState s → HasKind s.kinds Int n → IsNumber (pure_of s) n
is_number s n i (inl e) = (pos 0, subst (λ (m : NodeId). Follows (pure_of s) (In m (pos 0) (pos 0))) (sym e) (base known.zero))
is_number s n i (inr e) = (let h = number_in s s.kinds n i.numbers e in (h.1, base (known.written h.0 h.2)))

-- nodes of a kind are below the next one
pub below : (low : ℕ) (kinds : Kinds) (high : ℕ) (n : NodeId) (k : Kind) → NodesAscend low kinds high → kind_of kinds n ≡ Some k → n.0 < high
below low [] high n k up e = cc
below low (x ∷ xs) high n k up e = by (λ h. below (suc x.0.0) xs high n k up.2 h) (x.0.0 == n.0) refl e
  where
    by : (kind_of xs n ≡ Some k → n.0 < high) → (b : Bool) → (x.0.0 == n.0) ≡ b → (if b then Some x.1 else kind_of xs n) ≡ Some k → n.0 < high
    by later true is h = (let l = up.1 in let s = eq_same x.0.0 n.0 is in omega arith)
    by later false is h = later h

-- so what is known in the state is plain
pub is_plain : (s : State) → IsPlainState s → AllByRecursion (λ (b : NodeId). HasKind s.kinds Ptr b) (block_starts s.graph.edges) → s.next ≤ 4611686018427387904 → IsPlain (pure_of s)
is_plain s i starts short = record {
  numbers = λ n e. is_number s n i (inr e);
  atoms = λ j f e. all_at (IsPlainAtom s.kinds) s.atoms j f e i.atoms;
  starts = λ j a e. all_at (λ (b : NodeId). HasKind s.kinds Ptr b) (block_starts s.graph.edges) j a e starts;
  named = λ j n k e. named 1 s.kinds s.next j n k i.ascend e;
  origin = origin 1 s.kinds s.next (omega arith) i.ascend;
  small = λ n k e. (let l = below 1 s.kinds s.next n k i.ascend e in omega arith);
}
  where
    higher : (low : ℕ) (kinds : Kinds) (high : ℕ) (j : ℕ) (n : NodeId) (k : Kind) → NodesAscend low kinds high → slice_get kinds j ≡ Some (n, k) → low < suc n.0
    higher low [] high j n k up e = cc
    higher low (x ∷ xs) high zero n k up e = (let same : x ≡ (n, k) = one_item x (n, k) e in subst (λ (y : NodeId × Kind). low < suc y.0.0) same up.0)
    higher low (x ∷ xs) high (suc j) n k up e = (let l = higher (suc x.0.0) xs high j n k up.2 e in let m = up.0 in omega arith)

    named : (low : ℕ) (kinds : Kinds) (high : ℕ) (j : ℕ) (n : NodeId) (k : Kind) → NodesAscend low kinds high → slice_get kinds j ≡ Some (n, k) → kind_of kinds n ≡ Some k
    named low [] high j n k up e = cc
    named low (x ∷ xs) high zero n k up e =
        let same : x ≡ (n, k) = one_item x (n, k) e in
        subst (λ (y : NodeId × Kind). kind_of (y ∷ xs) n ≡ Some k) (sym same) (ap (λ (b : Bool). if b then Some k else kind_of xs n) (eq-eqb n.0 n.0 refl))
    named low (x ∷ xs) high (suc j) n k up e =
        let l = higher (suc x.0.0) xs high j n k up.2 e in
        ap (λ (b : Bool). if b then Some x.1 else kind_of xs n) (not_it x.0.0 n.0 l) ∙ named (suc x.0.0) xs high j n k up.2 e
      where
        not_it : (m n : ℕ) → suc m < suc n → (m == n) ≡ false
        not_it m n lt = grind arith

    origin : (low : ℕ) (kinds : Kinds) (high : ℕ) → 0 < low → NodesAscend low kinds high → kind_of kinds null ≡ None
    origin low [] high lt up = refl
    origin low (x ∷ xs) high lt up = ap (λ (b : Bool). if b then Some x.1 else kind_of xs null) (not_it x.0.0 (let l = up.0 in omega arith)) ∙ origin (suc x.0.0) xs high (omega arith) up.2
      where
        not_it : (m : ℕ) → 0 < m → (m == 0) ≡ false
        not_it m lt = grind arith
