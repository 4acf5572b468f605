-- A map's entries, as the finite map that they stand for.
use Rattle.std.proofs.Common.{◌≡◌, ℕ, ◌+◌, List, [], ◌∷◌, Option, Some, None, Bool, true, false, cond, length, refl, sym, ap, ap₂, ◌∙◌, subst, add-one}
use Rattle.std.specs.Prelude.{IsSome, IsNone, IsTrue, IsSomeAnd, is_some, ◌↔◌, ℤ}
use Rattle.std.specs.Ordering.{nat_cmp, eq_by_cmp}
use Rattle.std.specs.Cmp.{nat_cmp_total, eq_by_cmp_equiv}
use Rattle.std.specs.FinMap as map
use Rattle.std.specs.FinMap.{find, get-from_entries, get-insert, get-remove, same_map, len-empty, len-insert, nat_cmp-IsAntisymmetric}
use Rattle.std.specs.BTreeMap as tree
use Rattle.std.specs.BTreeMap.{BTreeMap, is_at, Updates, WritesThrough}
use Rattle.std.specs.Map.{lookup, keys_of}
use Rattle.std.specs.List.{AllByRecursion}
use Rattle.std.specs.List.Sorted.{IsStrictlySortedBy}
use Rattle.std.specs.declared.cmp.Ordering.TheVariants.{Less}
use Rattle.std.proofs.lemmas.Map.Lookups.{exact_unsigned}
use Rattle.std.proofs.lemmas.Map.Views.{tells_apart}
use Rattle.std.proofs.lemmas.Map.Keys.{sorted_head, sorted_tail}
use Rattle.mc_flow.specs.Heap.Heap.{Block, Heap, IsAddress, HasAddresses}
use Rattle.mc_flow.specs.Heap.Access.{field_at, block_field, with_field}

lookup_find : (q : ℕ) (es : List (ℕ × Block)) → lookup (is_at (nat_cmp q)) es ≡ find nat_cmp q es
lookup_find q [] = refl
lookup_find q (e ∷ es) = ap (cond (eq_by_cmp nat_cmp q e.0) (Some e.1)) (lookup_find q es)

-- the finite map has at an address what the entries have
pub get_view : (es : List (ℕ × Block)) (q : ℕ) → map.get (map.from_entries {R = nat_cmp} es) q ≡ lookup (is_at (nat_cmp q)) es
get_view es q = get-from_entries nat_cmp_total es q ∙ sym (lookup_find q es)

turned : (k q : ℕ) → is_at (nat_cmp k) q ≡ eq_by_cmp nat_cmp q k
turned k q = (eq_by_cmp_equiv nat_cmp_total).symm k q

pub insert_view : (m n : BTreeMap ℕ Block) (k : ℕ) (b : Block) → Updates nat_cmp m n k (Some b) → map.from_entries {R = nat_cmp} n.entries ≡ map.insert (map.from_entries m.entries) k b
insert_view m n k b u =
    same_map nat_cmp_total nat_cmp-IsAntisymmetric _ _
    (λ q. get_view n.entries q ∙ u.0 q ∙ ap₂ (λ t x. cond t (Some b) x) (turned k q) (sym (get_view m.entries q)) ∙ sym (get-insert nat_cmp_total _ k b q))

pub remove_view : (m n : BTreeMap ℕ Block) (k : ℕ) → Updates nat_cmp m n k None → map.from_entries {R = nat_cmp} n.entries ≡ map.remove (map.from_entries m.entries) k
remove_view m n k u =
    same_map nat_cmp_total nat_cmp-IsAntisymmetric _ _
    (λ q. get_view n.entries q ∙ u.0 q ∙ ap₂ (λ t x. cond t None x) (turned k q) (sym (get_view m.entries q)) ∙ sym (get-remove nat_cmp_total _ k q))

-- nothing is at an address of no entries
pub none_allocated : (es : List (ℕ × Block)) → es ≡ [] → HasAddresses (map.from_entries es)
none_allocated es e at s = let none : map.get (map.from_entries {R = nat_cmp} es) at ≡ None = get_view es at ∙ ap (lookup (is_at (nat_cmp at))) e in cc

pub empty_view : (es : List (ℕ × Block)) → es ≡ [] → map.from_entries {R = nat_cmp} es ≡ map.empty
empty_view es e = ap map.from_entries e

below_all : (k : ℕ) (es : List (ℕ × Block)) → AllByRecursion (λ y. nat_cmp k y ≡ Less) (keys_of es) → find nat_cmp k es ≡ None
below_all k [] a = refl
below_all k (e ∷ es) a = rw a.0 (below_all k es a.1)

len_sorted : (es : List (ℕ × Block)) → IsStrictlySortedBy nat_cmp (keys_of es) → map.len (map.from_entries {R = nat_cmp} es) ≡ length es
len_sorted [] s = len-empty nat_cmp Block
len_sorted (e ∷ es) s =
    let absent : map.get (map.from_entries {R = nat_cmp} es) e.0 ≡ None = get-from_entries nat_cmp_total es e.0 ∙ below_all e.0 es (sorted_head nat_cmp e.0 (keys_of es) s) in
    let rest = len_sorted es (sorted_tail nat_cmp e.0 (keys_of es) s) in
    len-insert nat_cmp_total (map.from_entries es) e.0 e.1
    ∙ ap (λ x. cond (is_some x) (map.len (map.from_entries {R = nat_cmp} es)) (map.len (map.from_entries {R = nat_cmp} es) + 1)) absent
    ∙ ap (λ n. n + 1) rest ∙ add-one (length es)

-- a map has as many addresses as entries
pub len_view : (m : BTreeMap ℕ Block) → tree.IsOrdered nat_cmp m → map.len (map.from_entries {R = nat_cmp} m.entries) ≡ length m.entries
len_view m o = len_sorted m.entries o

-- what a look-up in the entries gave is what the map has
pub found_view : (m : BTreeMap ℕ Block) (view : Heap) (q : ℕ) (got : Option Block) → map.from_entries m.entries ≡ view → got ≡ tree.get nat_cmp m q → map.get view q ≡ got
found_view m view q got is e = ap (λ (w : Heap). map.get w q) (sym is) ∙ get_view m.entries q ∙ sym e

address_kept : (b : Bool) (w o : Option Block) (k at : ℕ) → (b ≡ true → k ≡ at) → (IsSome w → IsAddress k) → (IsSome o → IsAddress at) → IsSome (cond b w o) → IsAddress at
address_kept true w o k at same ok old s = subst IsAddress (same refl) (ok s)
address_kept false w o k at same ok old s = old s

-- blocks stay at addresses where one is put at an address, and where one goes
pub addresses_kept : (m n : BTreeMap ℕ Block) (k : ℕ) (w : Option Block) → Updates nat_cmp m n k w → (IsSome w → IsAddress k) → HasAddresses (map.from_entries m.entries) → HasAddresses (map.from_entries n.entries)
addresses_kept m n k w u ok old at s =
    let now = get_view n.entries at ∙ u.0 at ∙ ap (cond (is_at (nat_cmp k) at) w) (sym (get_view m.entries at)) in
    address_kept (is_at (nat_cmp k) at) w (map.get (map.from_entries m.entries) at) k at (tells_apart exact_unsigned k at) ok (old at) (subst IsSome now s)

pub insert_same : (h : Heap) (k : ℕ) (b : Block) → map.get h k ≡ Some b → map.insert h k b ≡ h
insert_same h k b e =
    same_map nat_cmp_total nat_cmp-IsAntisymmetric _ _ (λ q. get-insert nat_cmp_total h k b q ∙ kept h k b q e (eq_by_cmp nat_cmp q k) refl)
  where
    kept : (h : Heap) (k : ℕ) (b : Block) (q : ℕ) → map.get h k ≡ Some b → (t : Bool) → eq_by_cmp nat_cmp q k ≡ t → cond t (Some b) (map.get h q) ≡ map.get h q
    kept h k b q e true s = sym e ∙ ap (map.get h) (sym (tells_apart exact_unsigned q k s))
    kept h k b q e false s = refl

-- what was written through a loan of a block
pub written_view : (m n : BTreeMap ℕ Block) (view : Heap) (k : ℕ) (b c : Block) → map.from_entries m.entries ≡ view → Some b ≡ tree.get nat_cmp m k → WritesThrough nat_cmp (nat_cmp k) m c n → map.from_entries n.entries ≡ map.insert view k c
written_view m n view k b c is found w =
    let some : IsSome (tree.get nat_cmp m k) = cc in
    insert_view m n k c (w.3 some) ∙ ap (λ (h : Heap). map.insert h k c) is

pub kept_view : (m n : BTreeMap ℕ Block) (view : Heap) (k : ℕ) (b c : Block) → map.from_entries m.entries ≡ view → Some b ≡ tree.get nat_cmp m k → WritesThrough nat_cmp (nat_cmp k) m c n → c ≡ b → map.from_entries n.entries ≡ view
kept_view m n view k b c is found w same =
    written_view m n view k b c is found w ∙ ap (map.insert view k) same ∙ insert_same view k b (found_view m view k (Some b) is found)

pub is_there : (b : Bool) (o got : Option Block) → b ≡ is_some got → o ≡ got → IsTrue b ↔ IsSome o
is_there b o got e found = (λ t. ap is_some found ∙ sym e ∙ t, λ s. e ∙ ap is_some (sym found) ∙ s)

pub none_there : (o : Option Block) (shape field : ℕ) → o ≡ None → IsTrue false ↔ IsSome (field_at o shape field)
none_there None shape field e = (λ t. cc, λ t. t)
none_there (Some b) shape field e = absurd (cc)

pub is_taken : (o : Option Block) → IsSome o → IsTrue false ↔ IsNone o
is_taken None e = absurd (cc)
is_taken (Some b) e = (λ t. cc, λ t. cc)

pub is_free : (o : Option Block) → is_some o ≡ false → IsTrue true ↔ IsNone o
is_free None e = (λ t. refl, λ t. refl)
is_free (Some b) e = absurd (cc)

-- what was written through a loan of a block's fields is there as it is in the block
pub is_field_there : (b : Bool) (o : Option Block) (block : Block) (shape field : ℕ) → o ≡ Some block → IsTrue b ↔ IsSome (block_field block shape field) → IsTrue b ↔ IsSome (field_at o shape field)
is_field_there b o block shape field e h = rw e h

pub written_addresses : (m n : BTreeMap ℕ Block) (k : ℕ) (b c : Block) → Some b ≡ tree.get nat_cmp m k → WritesThrough nat_cmp (nat_cmp k) m c n → HasAddresses (map.from_entries m.entries) → HasAddresses (map.from_entries n.entries)
written_addresses m n k b c found w old =
    let some : IsSome (tree.get nat_cmp m k) = cc in
    addresses_kept m n k (Some c) (w.3 some) (λ _. old k (ap is_some (get_view m.entries k) ∙ some)) old

pub added_view : (m n : BTreeMap ℕ Block) (view : Heap) (k : ℕ) (b c : Block) → map.from_entries m.entries ≡ view → b ≡ c → Updates nat_cmp m n k (Some b) → map.from_entries n.entries ≡ map.insert view k c
added_view m n view k b c is same u = insert_view m n k b u ∙ ap₂ (λ (h : Heap) (x : Block). map.insert h k x) is same

pub is_written : (m n : BTreeMap ℕ Block) (view : Heap) (k : ℕ) (b c : Block) (field : ℕ) (value : ℤ) → map.from_entries m.entries ≡ view → Some b ≡ tree.get nat_cmp m k → WritesThrough nat_cmp (nat_cmp k) m c n → c ≡ with_field b field value → IsSomeAnd (map.get view k) (λ block. map.from_entries n.entries ≡ map.insert view k (with_field block field value))
is_written m n view k b c field value is found w same =
    rw (found_view m view k (Some b) is found) (written_view m n view k b c is found w ∙ ap (map.insert view k) same)

abbrev pub fresh_of : ℕ → List (Option ℤ) → Block
fresh_of shape fields = record { shape = shape; fields = fields }
