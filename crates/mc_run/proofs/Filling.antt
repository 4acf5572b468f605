-- The fields of a new block, which are written one after the other.
use Rattle.std.proofs.Common.{◌≡◌, ◌<◌, ℕ, zero, suc, ℤ, List, [], ◌∷◌, Bool, true, Option, Some, None, length, get_or, replicate, map, ap, sym, refl, ◌∙◌, subst, inl, inr, arith}
use Rattle.std.specs.Prelude.{IsSome, IsSomeAnd, IsTrue, ◌↔◌, nat_eq, slice_get, slice_set}
use Rattle.std.specs.FinMap as maps
use Rattle.std.specs.FinMap.{nat_cmp-IsAntisymmetric, same_map}
use Rattle.std.specs.Cmp.{nat_cmp_total}
use Rattle.std.proofs.lemmas.Bool.{cases_eq}
use Rattle.mc_flow.specs.Heap.Access.{field_at, with_field}
use Rattle.mc_flow.specs.Heap.Heap.{Block, Heap, region_of}
use Rattle.mc_flow.proofs.HeapLemmas.Splits.{insert_changes}

-- the first fields have these values, and the others are undefined
abbrev pub filled : ℕ → List ℤ → List (Option ℤ)
filled zero vs = replicate (length vs) None
filled (suc k) [] = []
filled (suc k) (v ∷ vs) = Some v ∷ filled k vs

abbrev pub filled_block : ℕ → ℕ → List ℤ → Block
filled_block shape k vs = record { shape = shape; fields = filled k vs }

field_there : (k : ℕ) (vs : List ℤ) → k < length vs → slice_get (filled k vs) k ≡ Some None
field_there zero [] h = absurd (omega arith)
field_there zero (v ∷ vs) h = refl
field_there (suc k) [] h = absurd (omega arith)
field_there (suc k) (v ∷ vs) h = field_there k vs (omega arith)

set_next : (k : ℕ) (vs : List ℤ) (v : ℤ) → k < length vs → v ≡ get_or vs k v → slice_set (filled k vs) k (Some v) ≡ filled (suc k) vs
set_next zero [] v h here = absurd (omega arith)
set_next zero (w ∷ vs) v h here = ap (λ (x : ℤ). Some x ∷ replicate (length vs) None) here
set_next (suc k) [] v h here = absurd (omega arith)
set_next (suc k) (w ∷ vs) v h here = ap (λ (more : List (Option ℤ)). Some w ∷ more) (set_next k vs v (omega arith) here)

pub all_filled : (vs : List ℤ) → filled (length vs) vs ≡ map Some vs
all_filled [] = refl
all_filled (v ∷ vs) = ap (λ (more : List (Option ℤ)). Some v ∷ more) (all_filled vs)

-- what is put at an address twice is what is put there last
pub insert_again : (h : Heap) (at : ℕ) (b c : Block) → maps.insert (maps.insert h at b) at c ≡ maps.insert h at c
insert_again h at b c =
    let x = insert_changes (maps.insert h at b) at c in
    let y = insert_changes h at c in
    let z = insert_changes h at b in
    same_map nat_cmp_total nat_cmp-IsAntisymmetric _ _ (λ q. elim (cases_eq q at) [
      | inl e ↦ ap (region_of (maps.insert (maps.insert h at b) at c)) e ∙ (x.here ∙ sym (ap (region_of (maps.insert h at c)) e ∙ y.here))
      | inr ne ↦ x.others q ne ∙ (z.others q ne ∙ sym (y.others q ne))
    ])

same_number : (n : ℕ) → nat_eq n n ≡ true
same_number n = grind arith

there_is : (shape k : ℕ) (vs : List ℤ) → k < length vs → IsSome (field_at (Some (filled_block shape k vs)) shape k)
there_is shape k vs h = rw (same_number shape, field_there k vs h) refl

pub written_next : (heap now later : Heap) (at shape k : ℕ) (vs : List ℤ) (v : ℤ) (there : Bool) (next : ℕ) → next ≡ suc k → now ≡ maps.insert heap at (filled_block shape k vs) → k < length vs → v ≡ get_or vs k v
    → IsTrue there ↔ IsSome (field_at (maps.get now at) shape k) → (IsTrue there → IsSomeAnd (maps.get now at) (λ block. later ≡ maps.insert now at (with_field block k v)))
    → later ≡ maps.insert heap at (filled_block shape next vs)
written_next heap now later at shape k vs v there next one is h here answers writes =
    let b = filled_block shape k vs in
    let got : maps.get now at ≡ Some b = ap (λ (m : Heap). maps.get m at) is ∙ (insert_changes heap at b).here in
    let P : Option Block → Type 0 = λ o. IsSome (field_at o shape k) in
    let Q : Option Block → Type 0 = λ o. IsSomeAnd o (λ block. later ≡ maps.insert now at (with_field block k v)) in
    let put : later ≡ maps.insert now at (with_field b k v) = subst Q got (writes (answers.1 (subst P (sym got) (there_is shape k vs h)))) in
    let field : with_field b k v ≡ filled_block shape (suc k) vs = ap (λ (fs : List (Option ℤ)). record { shape = shape; fields = fs }) (set_next k vs v h here) in
    put ∙ (ap (λ (m : Heap). maps.insert m at (with_field b k v)) is ∙ (insert_again heap at b (with_field b k v) ∙ (ap (maps.insert heap at) field ∙ ap (λ (n : ℕ). maps.insert heap at (filled_block shape n vs)) (sym one))))

-- a new block is put where it is, and at the end each of its fields has its value
pub added_first : (heap now : Heap) (at shape : ℕ) (vs : List ℤ) → now ≡ maps.insert heap at (filled_block shape 0 vs) → now ≡ maps.insert now at (filled_block shape 0 vs)
added_first heap now at shape vs is =
    let b = filled_block shape 0 vs in
    is ∙ sym (ap (λ (m : Heap). maps.insert m at b) is ∙ insert_again heap at b b)

pub added_last : (heap now later : Heap) (at shape k : ℕ) (vs : List ℤ) → now ≡ maps.insert heap at (filled_block shape 0 vs) → later ≡ maps.insert now at (filled_block shape k vs) → k ≡ length vs
    → later ≡ maps.insert heap at (record { shape = shape; fields = map (λ v. Some v) vs })
added_last heap now later at shape k vs is then all =
    let b = filled_block shape 0 vs in
    let c = filled_block shape k vs in
    let fields : filled k vs ≡ map (λ v. Some v) vs = ap (λ (n : ℕ). filled n vs) all ∙ all_filled vs in
    then ∙ (ap (λ (m : Heap). maps.insert m at c) is ∙ (insert_again heap at b c ∙ ap (λ (fs : List (Option ℤ)). maps.insert heap at (record { shape = shape; fields = fs })) fields))
