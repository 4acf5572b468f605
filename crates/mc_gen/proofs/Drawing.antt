-- Kinds that are drawn, one after the other.
use Rattle.std.proofs.Common.{◌≡◌, ◌∙◌, ◌++◌, ◌+◌, ◌-◌, ◌<◌, ℕ, suc, List, [], ◌∷◌, map, ap, sym, subst, arith}
use Rattle.std.proofs.lemmas.List.{append_assoc}
use Rattle.mc_gen.specs.declared.kinds.BlockKind.{BlockKind}
use Rattle.mc_gen.specs.Draws.{after, drawn, draws, next_of}
use Rattle.mc_gen.specs.Texts.{kind_of}

-- one less is left to be drawn
less : (count counter : ℕ) → counter < count → count - counter ≡ suc (count - (counter + 1))
less count counter h = omega (arith, h)

-- the kinds that are left after one more
one_more : (m x next : ℕ) (old new all : List BlockKind) (k : BlockKind) → next ≡ next_of x → k ≡ kind_of (drawn next 5) → new ≡ old ++ k ∷ []
    → old ++ map kind_of (draws (suc m) 5 x) ≡ all → new ++ map kind_of (draws m 5 next) ≡ all
one_more m x next old new all k e f g h =
    let rest = map kind_of (draws m 5 next) in
    let first : kind_of (drawn (next_of x) 5) ≡ k = ap (λ y. kind_of (drawn y 5)) (sym e) ∙ sym f in
    let others : map kind_of (draws m 5 (next_of x)) ≡ rest = ap (λ y. map kind_of (draws m 5 y)) (sym e) in
    let tail : map kind_of (draws (suc m) 5 x) ≡ k ∷ rest = cc in
    ap (λ ns. ns ++ rest) g ∙ append_assoc old (k ∷ []) rest ∙ ap (λ ns. old ++ ns) (sym tail) ∙ h

pub kinds_more : (count counter x next : ℕ) (old new all : List BlockKind) (k : BlockKind) → counter < count → next ≡ next_of x → k ≡ kind_of (drawn next 5) → new ≡ old ++ k ∷ []
    → old ++ map kind_of (draws (count - counter) 5 x) ≡ all → new ++ map kind_of (draws (count - (counter + 1)) 5 next) ≡ all
kinds_more count counter x next old new all k within e f g h =
    one_more (count - (counter + 1)) x next old new all k e f g (subst (λ (n : ℕ). old ++ map kind_of (draws n 5 x) ≡ all) (less count counter within) h)

-- and the number that is come to
pub left_more : (count counter x next last : ℕ) → counter < count → next ≡ next_of x → after (count - counter) x ≡ last → after (count - (counter + 1)) next ≡ last
left_more count counter x next last within e h =
    let m = count - (counter + 1) in
    let steps : after (suc m) x ≡ last = subst (λ (n : ℕ). after n x ≡ last) (less count counter within) h in
    ap (λ y. after m y) e ∙ steps
