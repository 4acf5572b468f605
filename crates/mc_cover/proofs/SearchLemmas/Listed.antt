-- Lists of marks, one after the other.
use Rattle.std.proofs.Common.{◌≡◌, ◌<◌, ◌≤◌, ◌+◌, ℕ, zero, suc, Some, Option, List, [], ◌∷◌, ◌++◌, length, take, map, get_or, refl, sym, ◌∙◌, ap, arith, append-nil, append_assoc}
use Rattle.std.specs.List.{flat_map}
use Rattle.std.proofs.lemmas.List.{take_more, length-take-le}
use Rattle.mc_base.specs.declared.ids.EdgeId.{EdgeId}
use Rattle.mc_flow.specs.declared.defs.rules.Rule.{Rule}
use Rattle.mc_flow.specs.Defs.Conditions.{numbers_from}
use Rattle.mc_cover.specs.declared.goals.Mark.{Mark}
use Rattle.mc_cover.specs.declared.goals.Mark.TheVariants.{ByRule, ByCall}
use Rattle.mc_cover.specs.Marks.{blocks_for, marks_with, marks_of_rules}

flat_append : {X Y : Type 0} (f : X → List Y) (xs ys : List X) → flat_map f (xs ++ ys) ≡ flat_map f xs ++ flat_map f ys
flat_append f [] ys = refl
flat_append f (x ∷ xs) ys = ap (λ l. f x ++ l) (flat_append f xs ys) ∙ sym (append_assoc (f x) (flat_map f xs) (flat_map f ys))

map_append : {X Y : Type 0} (f : X → Y) (xs ys : List X) → map f (xs ++ ys) ≡ map f xs ++ map f ys
map_append f [] ys = refl
map_append f (x ∷ xs) ys = ap (λ l. f x ∷ l) (map_append f xs ys)

numbers_more : (first count : ℕ) (n : ℕ) → n ≡ first + count → numbers_from first (suc count) ≡ numbers_from first count ++ n ∷ []
numbers_more first zero n e = let z : first ≡ n = omega arith in ap (λ x. x ∷ []) z
numbers_more first (suc count) n e = ap (λ l. first ∷ l) (numbers_more (suc first) count n (omega arith))

-- one call more
pub calls_more : (before : List Mark) (place : ℕ) (block : Option EdgeId) (call : ℕ) → (before ++ (ByRule place block ∷ map (ByCall place block) (numbers_from 0 call))) ++ ByCall place block call ∷ [] ≡ before ++ (ByRule place block ∷ map (ByCall place block) (numbers_from 0 (call + 1)))
calls_more before place block call =
    let one : call + 1 ≡ suc call = omega arith in
    append_assoc before (ByRule place block ∷ map (ByCall place block) (numbers_from 0 call)) (ByCall place block call ∷ [])
    ∙ ap (λ l. before ++ (ByRule place block ∷ l)) (sym (map_append (ByCall place block) (numbers_from 0 call) (call ∷ [])) ∙ (ap (map (ByCall place block)) (sym (numbers_more 0 call call (omega arith))) ∙ ap (λ n. map (ByCall place block) (numbers_from 0 n)) (sym one)))

-- one block more
pub blocks_more : (new old before : List Mark) (place : ℕ) (rule : Rule) (ids : List EdgeId) (k : ℕ) (d : EdgeId) → k < length ids → new ≡ old ++ marks_with place rule (Some (get_or ids k d))
    → old ≡ before ++ flat_map (marks_with place rule) (map Some (take k ids)) → new ≡ before ++ flat_map (marks_with place rule) (map Some (take (k + 1) ids))
blocks_more new old before place rule ids k d l e f =
    let id = get_or ids k d in
    e
    ∙ (ap (λ x. x ++ marks_with place rule (Some id)) f
    ∙ (append_assoc before (flat_map (marks_with place rule) (map Some (take k ids))) (marks_with place rule (Some id))
    ∙ ap (λ x. before ++ x)
    (ap (λ x. flat_map (marks_with place rule) (map Some (take k ids)) ++ x) (sym (append-nil (marks_with place rule (Some id))))
    ∙ (sym (flat_append (marks_with place rule) (map Some (take k ids)) (Some id ∷ []))
    ∙ ap (flat_map (marks_with place rule)) (sym (map_append Some (take k ids) (id ∷ [])) ∙ ap (map Some) (sym (take_more ids k d l)))))))

rules_append : (ids : List EdgeId) (first : ℕ) (rules : List Rule) (x : Rule) (j : ℕ) → j ≡ first + length rules → marks_of_rules ids first (rules ++ x ∷ []) ≡ marks_of_rules ids first rules ++ flat_map (marks_with j x) (blocks_for ids x.block)
rules_append ids first [] x j e = let z : first ≡ j = omega arith in append-nil (flat_map (marks_with first x) (blocks_for ids x.block)) ∙ ap (λ n. flat_map (marks_with n x) (blocks_for ids x.block)) z
rules_append ids first (y ∷ rules) x j e =
    ap (λ l. flat_map (marks_with first y) (blocks_for ids y.block) ++ l) (rules_append ids (suc first) rules x j (omega arith))
    ∙ sym (append_assoc (flat_map (marks_with first y) (blocks_for ids y.block)) (marks_of_rules ids (suc first) rules) (flat_map (marks_with j x) (blocks_for ids x.block)))

-- one rule more
pub rules_more : (new old before : List Mark) (ids : List EdgeId) (rules : List Rule) (i : ℕ) (x : Rule) → i < length rules → x ≡ get_or rules i x → new ≡ old ++ flat_map (marks_with i x) (blocks_for ids x.block)
    → old ≡ before ++ marks_of_rules ids 0 (take i rules) → new ≡ before ++ marks_of_rules ids 0 (take (i + 1) rules)
rules_more new old before ids rules i x h is e f =
    let l : length (take i rules) ≡ i = length-take-le i rules (omega arith) in
    e
    ∙ (ap (λ r. r ++ flat_map (marks_with i x) (blocks_for ids x.block)) f
    ∙ (append_assoc before (marks_of_rules ids 0 (take i rules)) (flat_map (marks_with i x) (blocks_for ids x.block))
    ∙ ap (λ r. before ++ r) (sym (rules_append ids 0 (take i rules) x i (omega arith)) ∙ ap (marks_of_rules ids 0) (sym (take_more rules i x h ∙ ap (λ y. take i rules ++ y ∷ []) (sym is))))))
