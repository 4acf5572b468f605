-- Nodes that are written equal, one by one.
use Rattle.std.proofs.Common.{◌≡◌, ◌<◌, ◌+◌, ℕ, List, [], ◌∷◌, ◌++◌, drop, length, get_or, refl, sym, ◌∙◌, ap}
use Rattle.std.proofs.lemmas.List.{append_assoc, drop-drop, drop_more}
use Rattle.mc_base.specs.declared.ids.NodeId.{NodeId}
use Rattle.mc_base.specs.declared.plain.Atom.{Atom}
use Rattle.mc_rules_logic.specs.Unfold.Unfolded.{equal_atoms}

-- with no node on the right none is written equal
none_equal : (as' : List NodeId) → equal_atoms as' [] ≡ []
none_equal [] = refl
none_equal (a ∷ as') = refl

-- a node, and those after it
equal_more : (a : NodeId) (as' bs : List NodeId) → equal_atoms (a ∷ as') bs ≡ equal_atoms (a ∷ []) bs ++ equal_atoms as' (drop 1 bs)
equal_more a as' [] = sym (none_equal as')
equal_more a as' (b ∷ bs) = refl

pub equal_put : (left right : List NodeId) (i : ℕ) (d : NodeId) (old new all : List Atom) → i < length left
    → new ≡ old ++ equal_atoms (get_or left i d ∷ []) (drop i right) → old ++ equal_atoms (drop i left) (drop i right) ≡ all
    → new ++ equal_atoms (drop (i + 1) left) (drop (i + 1) right) ≡ all
equal_put left right i d old new all inside put before =
    let a = get_or left i d in
    let one = equal_atoms (a ∷ []) (drop i right) in
    ap (λ l. l ++ equal_atoms (drop (i + 1) left) (drop (i + 1) right)) put
    ∙ append_assoc old one (equal_atoms (drop (i + 1) left) (drop (i + 1) right))
    ∙ ap (λ bs. old ++ (one ++ equal_atoms (drop (i + 1) left) bs)) (sym (drop-drop 1 i right))
    ∙ ap (λ l. old ++ l) (sym (equal_more a (drop (i + 1) left) (drop i right)))
    ∙ ap (λ l. old ++ equal_atoms l (drop i right)) (sym (drop_more left i d inside))
    ∙ before
