-- The blocks of a line, made one by one.
use Rattle.std.proofs.Common.{◌≡◌, ◌∙◌, ℕ, suc, ◌+◌, ◌<◌, Bool, not, cond, List, [], ◌∷◌, ◌++◌, length, get_or, drop, map, Option, Some, None, refl, sym, ap, ap₂, append_assoc, arith}
use Rattle.std.proofs.Math.Seq.{drop-cons}
use Rattle.std.specs.Prelude.{position, nat_lt, option_map, option_and_then}
use Rattle.std.specs.List.{prefix_len}
use Rattle.std.proofs.lemmas.List.{length-map, map-append}
use Rattle.mc_flow.specs.Heap.Heap.{Block}
use Rattle.mc_flow.specs.declared.defs.shapes.StructInfo.{StructInfo}
use Rattle.mc_run_values.specs.declared.script.line.NamedBlock.{NamedBlock}
use Rattle.mc_run_values.specs.declared.script.script.NewBlock.{NewBlock}
use Rattle.mc_run_values.specs.Script.Models.{block, prefixed}
use Rattle.mc_run_values.specs.Script.Scripts.{block_in, blocks_in}

prefix_mapped : {X Y : Type 0} (f : X → Y) (p : Y → Bool) (xs : List X) → prefix_len p (map f xs) ≡ prefix_len (λ x. p (f x)) xs
prefix_mapped f p [] = refl
prefix_mapped f p (x ∷ xs) = ap (λ n. cond (p (f x)) (1 + n) 0) (prefix_mapped f p xs)

-- the place among what a list is mapped to
pub position_mapped : {X Y : Type 0} (f : X → Y) (p : Y → Bool) (xs : List X) → position p (map f xs) ≡ position (λ x. p (f x)) xs
position_mapped f p xs = ap₂ (λ (n k : ℕ). cond (nat_lt n k) (Some n) None) (prefix_mapped f (λ y. not (p y)) xs) (length-map xs f)

prefixed_more : {T : Type 0} (front : List T) (x : T) (rest : Option (List T)) → prefixed front (option_map (λ xs. x ∷ xs) rest) ≡ prefixed (front ++ x ∷ []) rest
prefixed_more front x None = refl
prefixed_more front x (Some xs) = ap Some (sym (append_assoc front (x ∷ []) xs))

-- where one of the blocks has no struct, the line means nothing
pub none_made : (structs : List StructInfo) (made : List NewBlock) (blocks : List NamedBlock) (k : ℕ) (b : NamedBlock) → k < length blocks → b ≡ get_or blocks k b → block_in structs b ≡ None → prefixed (map block made) (blocks_in structs (drop k blocks)) ≡ None
none_made structs made blocks k b inside at e =
    let none : block_in structs (get_or blocks k b) ≡ None = sym (ap (block_in structs) at) ∙ e in
    rw (drop-cons blocks k b inside) (rw none refl)

-- a further block stands after those made before
pub one_made : (structs : List StructInfo) (made : List NewBlock) (new : NewBlock) (blocks : List NamedBlock) (k : ℕ) (b : NamedBlock) → k < length blocks → b ≡ get_or blocks k b → block_in structs b ≡ Some (block new)
    → prefixed (map block made) (blocks_in structs (drop k blocks)) ≡ prefixed (map block (made ++ new ∷ [])) (blocks_in structs (drop (k + 1) blocks))
one_made structs made new blocks k b inside at e =
    let some : block_in structs (get_or blocks k b) ≡ Some (block new) = sym (ap (block_in structs) at) ∙ e in
    let next : suc k ≡ k + 1 = omega arith in
    let rest = blocks_in structs (drop (suc k) blocks) in
    rw (drop-cons blocks k b inside) (rw some
    (prefixed_more (map block made) (block new) rest ∙ ap (λ front. prefixed front rest) (sym (map-append block made (new ∷ [])))
    ∙ ap (λ n. prefixed (map block (made ++ new ∷ [])) (blocks_in structs (drop n blocks))) next))
