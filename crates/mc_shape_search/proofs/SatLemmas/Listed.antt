-- Each mark that fits is one of its goal's.
use Rattle.std.proofs.Common.{◌≡◌, ℕ, zero, suc, ℤ, ◌+◌, ◌<◌, List, [], ◌∷◌, ◌++◌, inl, inr, Bool, true, Some, length, take, get_or, slice_get, sym, ◌∙◌, ap, arith}
use Rattle.std.proofs.lemmas.List.{take_more, length-take-le}
use Rattle.std.proofs.lemmas.Bool.{and_parts}
use Rattle.mc_flow.specs.Heap.Heap.{Heap}
use Rattle.mc_flow.specs.declared.defs.rules.Def.{Def}
use Rattle.mc_flow.specs.declared.defs.rules.Rule.{Rule}
use Rattle.mc_shape_search.specs.Search.Search.{applies, is_free}
use Rattle.mc_shape_search.specs.Search.Met.{IsIn}
use Rattle.mc_shape_search.specs.declared.sat.goals.Goal.{Goal}
use Rattle.mc_shape_search.specs.declared.sat.goals.Mark.{Mark}
use Rattle.mc_shape_search.specs.Sat.Marks.{block_for, marks_from, rules_of, marks, fits, takes, space}
use Rattle.mc_shape_search.proofs.SatLemmas.Named.{parts}

-- the mark of a rule at a place
mark_of : ℤ → ℕ → Rule → Mark
mark_of value place rule = record { rule = place; block = block_for rule.block value }

marks_append : (value : ℤ) (n : ℕ) (rules : List Rule) (x : Rule) (j : ℕ) → j ≡ n + length rules → marks_from value n (rules ++ x ∷ []) ≡ marks_from value n rules ++ record { rule = j; block = block_for x.block value } ∷ []
unfolding mark_of
marks_append value n [] x j e = let z : n ≡ j = omega arith in ap (λ i. mark_of value i x ∷ []) z
marks_append value n (y ∷ rules) x j e = ap (λ l. mark_of value n y ∷ l) (marks_append value (suc n) rules x j (omega arith))

-- one rule more
pub marks_more : (value : ℤ) (rules : List Rule) (i : ℕ) (x : Rule) → i < length rules → x ≡ get_or rules i x → marks_from value 0 (take (i + 1) rules) ≡ marks_from value 0 (take i rules) ++ record { rule = i; block = block_for x.block value } ∷ []
marks_more value rules i x h e =
    let l : length (take i rules) ≡ i = length-take-le i rules (omega arith) in
    ap (marks_from value 0) (take_more rules i x h ∙ ap (λ y. take i rules ++ y ∷ []) (sym e)) ∙ marks_append value 0 (take i rules) x i (omega arith)

listed_from : (value : ℤ) (n i : ℕ) (rules : List Rule) (x : Rule) (m : Mark) → m.rule ≡ n + i → m.block ≡ block_for x.block value → slice_get rules i ≡ Some x → IsIn m (marks_from value n rules)
unfolding mark_of
listed_from value n i [] x m q b h = cc
listed_from value n zero (y ∷ rules) x m q b h =
    let e : x ≡ y = cc in
    let z : m.rule ≡ n = omega arith in
    inl (ap (λ r. record m { rule = r }) z ∙ ap (λ o. record { rule = n; block = o }) (b ∙ ap (λ (r : Rule). block_for r.block value) e))
listed_from value n (suc i) (y ∷ rules) x m q b h = inr (listed_from value (suc n) i rules x m (omega arith) b h)

pub applies_listed : (whole : Bool) (heap : Heap) (defs : List Def) (g : Goal) (log : List Mark) (m : Mark) → applies (space whole heap defs) g log m ≡ true → IsIn m (marks defs g)
applies_listed whole heap defs g log m h =
    let p = parts heap defs g m (and_parts (fits heap defs g m) (is_free takes log m) h).0 in
    along (λ o. IsIn m (marks_from g.at 0 (rules_of o))) (sym p.defined) (listed_from g.at 0 m.rule p.def.rules p.rule m (omega arith) (sym p.block) p.listed)
  where
    along : {X : Type 0} (P : X → Type 0) {a b : X} → a ≡ b → P a → P b
    along P e p = rw (sym e) p
