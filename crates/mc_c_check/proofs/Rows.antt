-- What is noted or collected, one thing after another.
use Rattle.std.proofs.Common.{◌≡◌, ℕ, suc, List, [], ◌∷◌, ◌++◌, ◌+◌, ◌<◌, refl, ap, sym, ◌∙◌, arith, map, flat_map, get_or, length, drop, append_assoc, cond}
use Rattle.std.specs.Prelude.{Option, Some, None}
use Rattle.std.proofs.Math.Seq.{drop-cons}
use Rattle.mc_c_syntax.specs.Ast.Trees.{UnitTree}
use Rattle.mc_c_types.specs.Faults.{item_tree_faults, plain_faults, table_faults}
use Rattle.mc_c_types.specs.Tables.{Tables, tables_of}
use Rattle.mc_c_types.specs.First.{is_told, told_of}
use Rattle.mc_c_types.specs.declared.faults.Fault.{Fault}

-- what is left at a place of a list
pub drop_at : {X : Type 0} (xs : List X) (i : ℕ) (x : X) → i < length xs → x ≡ get_or xs i x → drop i xs ≡ x ∷ drop (i + 1) xs
drop_at xs i x below is =
    let next : suc i ≡ i + 1 = omega arith in rw (sym next) (let head = drop-cons xs i x below in cc)

-- ---- what is known
pub told_append : (told : Option Fault) (xs ys : List Fault) → told_of told (xs ++ ys) ≡ told_of (told_of told xs) ys
told_append told [] ys = refl
told_append None (x ∷ xs) ys = told_append (Some x) xs ys
told_append (Some told) (x ∷ xs) ys = told_append (Some (cond (is_told told x) told x)) xs ys

-- some, and then others
pub noted_two : (o a b : Option Fault) (xs ys : List Fault) → a ≡ told_of o xs → b ≡ told_of a ys → b ≡ told_of o (xs ++ ys)
noted_two o a b xs ys p q = q ∙ ap (λ f. told_of f ys) p ∙ sym (told_append o xs ys)

pub noted_four : (o a b c d : Option Fault) (ws xs ys zs : List Fault) → a ≡ told_of o ws → b ≡ told_of a xs → c ≡ told_of b ys → d ≡ told_of c zs → d ≡ told_of o (((ws ++ xs) ++ ys) ++ zs)
noted_four o a b c d ws xs ys zs p q r s =
    noted_two o c d ((ws ++ xs) ++ ys) zs (noted_two o b c (ws ++ xs) ys (noted_two o a b ws xs p q) r) s

-- the faults of a whole program, from its tables and its items
pub plain_noted : (unit some others : UnitTree) (t : Tables) (o a b : Option Fault) → t ≡ tables_of unit → some ≡ unit → others ≡ unit
    → a ≡ told_of o (table_faults some t) → b ≡ told_of a (flat_map (item_tree_faults t) others) → b ≡ told_of o (plain_faults unit)
plain_noted unit some others t o a b p q r x y =
    noted_two o a b (table_faults some t) (flat_map (item_tree_faults t) others) x y
    ∙ ap (λ s. told_of o (table_faults some s ++ flat_map (item_tree_faults s) others)) p
    ∙ ap (λ i. told_of o (table_faults i (tables_of unit) ++ flat_map (item_tree_faults (tables_of unit)) others)) q
    ∙ ap (λ i. told_of o (table_faults unit (tables_of unit) ++ flat_map (item_tree_faults (tables_of unit)) i)) r

-- the next of a row is noted
pub next_noted : {X : Type 0} (f : X → List Fault) (told : Option Fault) (xs : List X) (i : ℕ) (x : X)
    → i < length xs → x ≡ get_or xs i x
    → told_of (told_of told (f x)) (flat_map f (drop (i + 1) xs)) ≡ told_of told (flat_map f (drop i xs))
next_noted f told xs i x below is = rw (drop_at xs i x below is) (sym (told_append told (f x) (flat_map f (drop (i + 1) xs))))

-- the same where it is seen otherwise
pub next_seen : {X Y : Type 0} (f : Y → List Fault) (g : X → Y) (told : Option Fault) (xs : List X) (i : ℕ) (x : X)
    → i < length xs → x ≡ get_or xs i x
    → told_of (told_of told (f (g x))) (flat_map f (map g (drop (i + 1) xs))) ≡ told_of told (flat_map f (map g (drop i xs)))
next_seen f g told xs i x below is = rw (drop_at xs i x below is) (sym (told_append told (f (g x)) (flat_map f (map g (drop (i + 1) xs)))))

-- ---- what is collected
pub next_collected : {X Y Z : Type 0} (f : Y → List Z) (g : X → Y) (done new some : List Z) (xs : List X) (i : ℕ) (x : X)
    → i < length xs → x ≡ get_or xs i x → some ≡ f (g x) → new ≡ done ++ some
    → new ++ flat_map f (map g (drop (i + 1) xs)) ≡ done ++ flat_map f (map g (drop i xs))
next_collected f g done new some xs i x below is given added =
    rw added (rw given (rw (drop_at xs i x below is) (append_assoc done (f (g x)) (flat_map f (map g (drop (i + 1) xs))))))

pub next_mapped : {X Y : Type 0} (f : X → Y) (done new : List Y) (xs : List X) (i : ℕ) (x : X)
    → i < length xs → x ≡ get_or xs i x → new ≡ done ++ f x ∷ []
    → new ++ map f (drop (i + 1) xs) ≡ done ++ map f (drop i xs)
next_mapped f done new xs i x below is added =
    rw added (rw (drop_at xs i x below is) (append_assoc done (f x ∷ []) (map f (drop (i + 1) xs))))

pub map_append : {X Y : Type 0} (f : X → Y) (xs ys : List X) → map f (xs ++ ys) ≡ map f xs ++ map f ys
map_append f [] ys = refl
map_append f (x ∷ xs) ys = ap (λ more. f x ∷ more) (map_append f xs ys)

pub length_mapped : {X Y : Type 0} (f : X → Y) (xs : List X) → length (map f xs) ≡ length xs
length_mapped f [] = refl
length_mapped f (x ∷ xs) = ap (λ n. suc n) (length_mapped f xs)
