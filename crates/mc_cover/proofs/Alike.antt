-- Edges that are alike may be swapped in each cover, so of those that are not used only the first need be tried.
use Rattle.std.proofs.Common.{◌≡◌, ◌<◌, ◌⊎◌, inl, inr, ℕ, zero, suc, ℤ, pos, Bool, true, false, not, ◌&&◌, Option, Some, None, List, [], ◌∷◌, length, map, slice_get, refl, ap, sym, subst, ◌∙◌, arith, eqb-true, eq-eqb}
use Rattle.std.specs.Prelude.{◌==◌, ◌||◌, ◌+ℤ◌, ◌-ℤ◌, neg_ℤ, is_some, option_map, option_and_then}
use Rattle.std.specs.List.{filter}
use Rattle.std.proofs.lemmas.Int.{ints}
use Rattle.mc_base.specs.declared.ids.EdgeId.{EdgeId}
use Rattle.mc_base.specs.declared.ids.NodeId.{NodeId}
use Rattle.mc_base.specs.declared.ids.StructId.{StructId}
use Rattle.mc_base.specs.declared.plain.Atom.TheVariants.{Eq}
use Rattle.mc_flow.specs.declared.defs.rules.Def.{Def}
use Rattle.mc_flow.specs.declared.defs.rules.Rule.{Rule}
use Rattle.mc_pure.specs.Derived as pure
use Rattle.mc_state.specs.declared.graph.edge.Edge.{Edge}
use Rattle.mc_state.specs.declared.graph.edge.Edge.TheVariants.{Block, Ind, Seg}
use Rattle.mc_state.specs.declared.terms.Term.{Term}
use Rattle.mc_state.specs.Graph.Graph.{edge_with, IdsAscend}
use Rattle.mc_state.specs.Known.{Test, Tells, equal, all_equal}
use Rattle.mc_state.specs.Lists.{all_both, on_some}
use Rattle.mc_state.specs.State.{State}
use Rattle.mc_state.specs.Terms.{plain}
use Rattle.mc_state.proofs.Tests.{and_both, and_yes}
use Rattle.mc_shape_search.specs.Search.Search.{applies, is_free, is_unused, options, uses, takes_this}
use Rattle.mc_shape_search.specs.Search.Met.{IsIn}
use Rattle.mc_shape_search.specs.Tries.Thin.{StandsFor}
use Rattle.mc_shape_search.proofs.SearchLemmas.Members.{in_filter, from_filter}
use Rattle.mc_shape_search.proofs.SearchLemmas.Tries.{AreListed}
use Rattle.mc_shape_search.proofs.SearchLemmas.Turned.{Turns, AllGo, all_go_self, turned_stands}
use Rattle.mc_cover.specs.Alike.{start_alike, same_node, are_alike, AreAlike, MarksAlike}
use Rattle.mc_cover.specs.Goals.{Goal, Mark, AtEnd, ByInd, BySeg, ByRule, ByCall, Setting, is_ind, is_seg, behind_seg, whole_block, contents_by}
use Rattle.mc_cover.specs.Marks.{named_with, named_by, def_at, rule_at, has_call, fits, calls_of, calls_of_rule, calls_of_rule_to, takes, space, marks}
use Rattle.mc_cover.specs.Near.{near_space}
use Rattle.mc_cover.specs.Terms.{equal_terms, all_equal_terms}
use Rattle.mc_cover.proofs.Listed.{ind_listed, seg_listed, rule_listed, whole_in, call_in}
use Rattle.mc_cover.proofs.Near.{near_options}
use Rattle.mc_cover.proofs.Options.{there}
use Rattle.mc_cover.proofs.Parts.{ind_parts, seg_parts, rule_parts, call_parts, named_there}

-- ---- what is known of equal nodes
module _ (know : Test) (s : State) (tells : Tells know s) where
  eq_turned : (a b : NodeId) (c d : ℤ) → d ≡ neg_ℤ c → know (Eq a b c) ≡ true → know (Eq b a d) ≡ true
  eq_turned a b c d e t =
      subst (λ z. know (Eq b a z) ≡ true) (sym e)
      ((tells (Eq b a (neg_ℤ c))).1 (elim ((tells (Eq a b c)).0 t) [ inl f ↦ inl (pure.Follows.turned f) | inr wrong ↦ inr wrong ]))

  eq_chained : (a b d : NodeId) (c e f : ℤ) → f ≡ c +ℤ e → know (Eq a b c) ≡ true → know (Eq b d e) ≡ true → know (Eq a d f) ≡ true
  eq_chained a b d c e f is t u =
      subst (λ z. know (Eq a d z) ≡ true) (sym is)
      ((tells (Eq a d (c +ℤ e))).1 (elim ((tells (Eq a b c)).0 t) [
        | inl x ↦ elim ((tells (Eq b d e)).0 u) [ inl y ↦ inl (pure.Follows.chained x y) | inr wrong ↦ inr wrong ]
        | inr wrong ↦ inr wrong
      ]))

  equal_back : (a b : NodeId) → equal know a b ≡ true → equal know b a ≡ true
  equal_back a b t = eq_turned a b (pos 0) (pos 0) refl t

  all_equal_back : (xs ys : List NodeId) → all_equal know xs ys ≡ true → all_equal know ys xs ≡ true
  all_equal_back [] [] t = refl
  all_equal_back [] (y ∷ ys) t = absurd (cc t)
  all_equal_back (x ∷ xs) [] t = absurd (cc t)
  all_equal_back (x ∷ xs) (y ∷ ys) t =
      let both = and_both (equal know x y) (all_equal know xs ys) t in
      and_yes (equal know y x) (all_equal know ys xs) (equal_back x y both.0) (all_equal_back xs ys both.1)

  equal_on : (t : Term) (a b : NodeId) → equal know a b ≡ true → equal_terms know t (plain a) ≡ true → equal_terms know t (plain b) ≡ true
  equal_on t a b same is = eq_chained t.node a b (pos 0 -ℤ t.add) (pos 0) (pos 0 -ℤ t.add) (omega (arith, ints)) is same

  all_equal_on : (ts : List Term) (xs ys : List NodeId) → all_equal know xs ys ≡ true → all_equal_terms know ts (map plain xs) ≡ true → all_equal_terms know ts (map plain ys) ≡ true
  all_equal_on [] [] [] same is = refl
  all_equal_on [] [] (y ∷ ys) same is = absurd (cc same)
  all_equal_on [] (x ∷ xs) ys same is = absurd (cc is)
  all_equal_on (t ∷ ts) [] ys same is = absurd (cc is)
  all_equal_on (t ∷ ts) (x ∷ xs) [] same is = absurd (cc same)
  all_equal_on (t ∷ ts) (x ∷ xs) (y ∷ ys) same is =
      let one = and_both (equal know x y) (all_equal know xs ys) same in
      let two = and_both (equal_terms know t (plain x)) (all_equal_terms know ts (map plain xs)) is in
      and_yes (equal_terms know t (plain y)) (all_equal_terms know ts (map plain ys)) (equal_on t x y one.0 two.0) (all_equal_on ts xs ys one.1 two.1)

  -- ---- edges that are alike
  pub record Starts (p : ℕ) (a : NodeId) (xs : List NodeId) (q : ℕ) (b : NodeId) (ys : List NodeId) : Type 0 where
    pub pred : p ≡ q
    pub at : equal know a b ≡ true
    pub args : all_equal know xs ys ≡ true

  starts : (p : ℕ) (a : NodeId) (xs : List NodeId) (q : ℕ) (b : NodeId) (ys : List NodeId) → (p == q && (equal know a b && all_equal know xs ys)) ≡ true → Starts p a xs q b ys
  starts p a xs q b ys t =
      let one = and_both (p == q) (equal know a b && all_equal know xs ys) t in
      let two = and_both (equal know a b) (all_equal know xs ys) one.1 in
      record { pred = eqb-true p q one.0; at = two.0; args = two.1 }

  start_back : (p : ℕ) (a : NodeId) (xs : List NodeId) (q : ℕ) (b : NodeId) (ys : List NodeId) → (p == q && (equal know a b && all_equal know xs ys)) ≡ true → (q == p && (equal know b a && all_equal know ys xs)) ≡ true
  start_back p a xs q b ys t =
      let s = starts p a xs q b ys t in
      and_yes (q == p) (equal know b a && all_equal know ys xs) (eq-eqb q p (sym s.pred)) (and_yes (equal know b a) (all_equal know ys xs) (equal_back a b s.at) (all_equal_back xs ys s.args))

  start_on : (g : Goal) (p : ℕ) (a : NodeId) (xs : List NodeId) (q : ℕ) (b : NodeId) (ys : List NodeId) → (p == q && (equal know a b && all_equal know xs ys)) ≡ true
      → (p == g.pred.0 && (equal_terms know g.at (plain a) && all_equal_terms know g.args (map plain xs))) ≡ true
      → (q == g.pred.0 && (equal_terms know g.at (plain b) && all_equal_terms know g.args (map plain ys))) ≡ true
  start_on g p a xs q b ys t is =
      let s = starts p a xs q b ys t in
      let one = and_both (p == g.pred.0) (equal_terms know g.at (plain a) && all_equal_terms know g.args (map plain xs)) is in
      let two = and_both (equal_terms know g.at (plain a)) (all_equal_terms know g.args (map plain xs)) one.1 in
      and_yes (q == g.pred.0) (equal_terms know g.at (plain b) && all_equal_terms know g.args (map plain ys)) (ap (λ n. n == g.pred.0) (sym s.pred) ∙ one.0)
      (and_yes (equal_terms know g.at (plain b)) (all_equal_terms know g.args (map plain ys)) (equal_on g.at a b s.at two.0) (all_equal_on g.args xs ys s.args two.1))

  same_one : (a b : NodeId) → same_node a b ≡ true → a ≡ b
  same_one a b t = ap (λ n. record { 0 = n }) (eqb-true a.0 b.0 t)

  same_all : (xs ys : List NodeId) → all_both same_node xs ys ≡ true → xs ≡ ys
  same_all [] [] t = refl
  same_all [] (y ∷ ys) t = absurd (cc t)
  same_all (x ∷ xs) [] t = absurd (cc t)
  same_all (x ∷ xs) (y ∷ ys) t =
      let both = and_both (same_node x y) (all_both same_node xs ys) t in
      ap (λ z. z ∷ xs) (same_one x y both.0) ∙ ap (λ zs. y ∷ zs) (same_all xs ys both.1)

  all_same : (xs : List NodeId) → all_both same_node xs xs ≡ true
  all_same [] = refl
  all_same (x ∷ xs) = and_yes (same_node x x) (all_both same_node xs xs) (eq-eqb x.0 x.0 refl) (all_same xs)

  pub alike_back : (e f : Edge) → are_alike know e f ≡ true → are_alike know f e ≡ true
  alike_back (Block a shape fields) f t = absurd (cc t)
  alike_back (Ind a p xs) (Block b shape fields) t = absurd (cc t)
  alike_back (Ind a p xs) (Seg b ys q last lasts) t = absurd (cc t)
  alike_back (Ind a p xs) (Ind b q ys) t = start_back p.0 a xs q.0 b ys t
  alike_back (Seg a xs p last lasts) (Block b shape fields) t = absurd (cc t)
  alike_back (Seg a xs p last lasts) (Ind b q ys) t = absurd (cc t)
  alike_back (Seg a xs p last lasts) (Seg b ys q end ends) t =
      let one = and_both (start_alike know p a xs q b ys) (same_node last end && all_both same_node lasts ends) t in
      let two = and_both (same_node last end) (all_both same_node lasts ends) one.1 in
      and_yes (start_alike know q b ys p a xs) (same_node end last && all_both same_node ends lasts) (start_back p.0 a xs q.0 b ys one.0)
      (and_yes (same_node end last) (all_both same_node ends lasts) (eq-eqb end.0 last.0 (sym (eqb-true last.0 end.0 two.0)))
      (subst (λ l. all_both same_node l lasts ≡ true) (same_all lasts ends two.1) (all_same lasts)))

  pub ind_on : (g : Goal) (e f : Edge) → are_alike know e f ≡ true → is_ind know g (Some e) ≡ true → is_ind know g (Some f) ≡ true
  ind_on g (Block a shape fields) f t is = absurd (cc t)
  ind_on g (Ind a p xs) (Block b shape fields) t is = absurd (cc t)
  ind_on g (Ind a p xs) (Seg b ys q last lasts) t is = absurd (cc t)
  ind_on g (Ind a p xs) (Ind b q ys) t is = start_on g p.0 a xs q.0 b ys t is
  ind_on g (Seg a xs p last lasts) f t is = absurd (cc is)

  pub seg_on : (g : Goal) (e f : Edge) → are_alike know e f ≡ true → is_seg know g (Some e) ≡ true → is_seg know g (Some f) ≡ true
  seg_on g (Block a shape fields) f t is = absurd (cc t)
  seg_on g (Ind a p xs) f t is = absurd (cc is)
  seg_on g (Seg a xs p last lasts) (Block b shape fields) t is = absurd (cc t)
  seg_on g (Seg a xs p last lasts) (Ind b q ys) t is = absurd (cc t)
  seg_on g (Seg a xs p last lasts) (Seg b ys q end ends) t is =
      let one = and_both (start_alike know p a xs q b ys) (same_node last end && all_both same_node lasts ends) t in
      start_on g p.0 a xs q.0 b ys one.0 is

  -- they leave the same goals
  pub behind_on : (g : Goal) (e f : Edge) → are_alike know e f ≡ true → behind_seg g (Some e) ≡ behind_seg g (Some f)
  behind_on g (Block a shape fields) f t = absurd (cc t)
  behind_on g (Ind a p xs) (Block b shape fields) t = absurd (cc t)
  behind_on g (Ind a p xs) (Seg b ys q last lasts) t = absurd (cc t)
  behind_on g (Ind a p xs) (Ind b q ys) t = refl
  behind_on g (Seg a xs p last lasts) (Block b shape fields) t = absurd (cc t)
  behind_on g (Seg a xs p last lasts) (Ind b q ys) t = absurd (cc t)
  behind_on g (Seg a xs p last lasts) (Seg b ys q end ends) t =
      let one = and_both (start_alike know p a xs q b ys) (same_node last end && all_both same_node lasts ends) t in
      let two = and_both (same_node last end) (all_both same_node lasts ends) one.1 in
      ap (λ n. record { pred = g.pred; at = plain n; args = map plain lasts; stop = g.stop } ∷ []) (same_one last end two.0)
      ∙ ap (λ ns. record { pred = g.pred; at = plain end; args = map plain ns; stop = g.stop } ∷ []) (same_all lasts ends two.1)

  -- and neither is a block
  pub block_on : (at : Term) (shape : StructId) (e f : Edge) → are_alike know e f ≡ true → whole_block know at shape e ≡ whole_block know at shape f
  block_on at shape (Block a own fields) f t = absurd (cc t)
  block_on at shape (Ind a p xs) (Block b own fields) t = absurd (cc t)
  block_on at shape (Ind a p xs) (Ind b q ys) t = refl
  block_on at shape (Ind a p xs) (Seg b ys q end ends) t = absurd (cc t)
  block_on at shape (Seg a xs p last lasts) (Block b own fields) t = absurd (cc t)
  block_on at shape (Seg a xs p last lasts) (Ind b q ys) t = absurd (cc t)
  block_on at shape (Seg a xs p last lasts) (Seg b ys q end ends) t = refl

-- ---- two numbers, swapped
abbrev choose : Bool → Bool → ℕ → ℕ → ℕ → ℕ
choose true other a b n = b
choose false true a b n = a
choose false false a b n = n

module _ (a b : ℕ) where
  abbrev swap : ℕ → ℕ
  swap n = choose (n == a) (n == b) a b n

  no_eq : (m n : ℕ) → (m ≡ n → ⊥) → (m == n) ≡ false
  no_eq m n far = at (m == n) refl
    where
      at : (b : Bool) → (m == n) ≡ b → (m == n) ≡ false
      at true is = absurd (far (eqb-true m n is))
      at false is = is

  swap_left : swap a ≡ b
  swap_left = ap (λ x. choose x (a == b) a b a) (eq-eqb a a refl)

  swap_right : swap b ≡ a
  swap_right = at (b == a) refl
    where
      at : (x : Bool) → (b == a) ≡ x → choose (b == a) (b == b) a b b ≡ a
      at true is = ap (λ x. choose x (b == b) a b b) is ∙ eqb-true b a is
      at false is = ap (λ x. choose x (b == b) a b b) is ∙ ap (λ y. choose false y a b b) (eq-eqb b b refl)

  swap_still : (n : ℕ) → (n == a) ≡ false → (n == b) ≡ false → swap n ≡ n
  swap_still n x y = ap (λ z. choose z (n == b) a b n) x ∙ ap (λ z. choose false z a b n) y

  swap_twice : (n : ℕ) → swap (swap n) ≡ n
  swap_twice n = at (n == a) (n == b) refl refl
    where
      at : (x y : Bool) → (n == a) ≡ x → (n == b) ≡ y → swap (swap n) ≡ n
      at true y is other = let e : n ≡ a = eqb-true n a is in ap (λ k. swap (swap k)) e ∙ (ap swap swap_left ∙ (swap_right ∙ sym e))
      at false true is other = let e : n ≡ b = eqb-true n b other in ap (λ k. swap (swap k)) e ∙ (ap swap swap_right ∙ (swap_left ∙ sym e))
      at false false is other = ap swap (swap_still n is other) ∙ swap_still n is other

  swap_once : (m n : ℕ) → (swap m == swap n) ≡ true → (m == n) ≡ true
  swap_once m n t = eq-eqb m n (sym (swap_twice m) ∙ (ap swap (eqb-true (swap m) (swap n) t) ∙ swap_twice n))

-- ---- marks with two edges swapped
abbrev id_with : ℕ → EdgeId
id_with n = record { 0 = n }

module _ (a b : EdgeId) where
  abbrev other_id : EdgeId → EdgeId
  other_id i = id_with (swap a.0 b.0 i.0)

  abbrev turn : Mark → Mark
  turn AtEnd = AtEnd
  turn (ByInd i) = ByInd (other_id i)
  turn (BySeg i) = BySeg (other_id i)
  turn (ByRule place block) = ByRule place (option_map other_id block)
  turn (ByCall place block call) = ByCall place (option_map other_id block) call

  takes_turned : (m : Mark) → takes (turn m) ≡ option_map (swap a.0 b.0) (takes m)
  takes_turned AtEnd = refl
  takes_turned (ByInd i) = refl
  takes_turned (BySeg i) = refl
  takes_turned (ByRule place None) = refl
  takes_turned (ByRule place (Some i)) = refl
  takes_turned (ByCall place None call) = refl
  takes_turned (ByCall place (Some i) call) = refl

  takes_this_turned : (o : Option ℕ) (n : ℕ) → takes_this (option_map (swap a.0 b.0) o) (swap a.0 b.0 n) ≡ true → takes_this o n ≡ true
  takes_this_turned None n t = t
  takes_this_turned (Some own) n t = swap_once a.0 b.0 own n t

  or_to : (x y z w : Bool) → (x ≡ true → z ≡ true) → (y ≡ true → w ≡ true) → (x || y) ≡ true → (z || w) ≡ true
  or_to true y true w f g t = refl
  or_to true y false w f g t = absurd (cc (f refl))
  or_to false y true w f g t = refl
  or_to false y false w f g t = g t

  uses_turned : (log : List Mark) (n : ℕ) → uses takes (map turn log) (swap a.0 b.0 n) ≡ true → uses takes log n ≡ true
  uses_turned [] n t = t
  uses_turned (m ∷ log) n t =
      or_to (takes_this (takes (turn m)) (swap a.0 b.0 n)) (uses takes (map turn log) (swap a.0 b.0 n)) (takes_this (takes m) n) (uses takes log n)
      (λ u. takes_this_turned (takes m) n (subst (λ o. takes_this o (swap a.0 b.0 n) ≡ true) (takes_turned m) u)) (λ u. uses_turned log n u) t

  not_to : (x y : Bool) → (x ≡ true → y ≡ true) → not y ≡ true → not x ≡ true
  not_to true y f t = absurd (cc (ap not (f refl), t))
  not_to false y f t = refl

  unused_turned : (log : List Mark) (o p : Option ℕ) → p ≡ option_map (swap a.0 b.0) o → is_unused takes log o ≡ true → is_unused takes (map turn log) p ≡ true
  unused_turned log None p e t = ap (is_unused takes (map turn log)) e
  unused_turned log (Some n) p e t =
      ap (is_unused takes (map turn log)) e ∙ not_to (uses takes (map turn log) (swap a.0 b.0 n)) (uses takes log n) (uses_turned log n) t

  free_turned : (log : List Mark) (m : Mark) → is_free takes log m ≡ true → is_free takes (map turn log) (turn m) ≡ true
  free_turned log m t = unused_turned log (takes m) (takes (turn m)) (takes_turned m) t

  -- a mark that takes neither edge stays
  still_id : (i : EdgeId) → (i.0 == a.0) ≡ false → (i.0 == b.0) ≡ false → other_id i ≡ i
  still_id i x y = ap id_with (swap_still a.0 b.0 i.0 x y)

  still_block : (block : Option EdgeId) → takes_this (option_map (λ (i : EdgeId). i.0) block) a.0 ≡ false → takes_this (option_map (λ (i : EdgeId). i.0) block) b.0 ≡ false → option_map other_id block ≡ block
  still_block None x y = refl
  still_block (Some i) x y = ap (λ i. Some i) (still_id i x y)

  still_mark : (m : Mark) → takes_this (takes m) a.0 ≡ false → takes_this (takes m) b.0 ≡ false → turn m ≡ m
  still_mark AtEnd x y = refl
  still_mark (ByInd i) x y = ap (λ i. ByInd i) (still_id i x y)
  still_mark (BySeg i) x y = ap (λ i. BySeg i) (still_id i x y)
  still_mark (ByRule place block) x y = ap (λ o. ByRule place o) (still_block block x y)
  still_mark (ByCall place block call) x y = ap (λ o. ByCall place o call) (still_block block x y)

  neither : (x y : Bool) → not (x || y) ≡ true → (x ≡ false) × (not y ≡ true)
  neither true y t = absurd (cc t)
  neither false y t = (refl, t)

  still_log : (log : List Mark) → not (uses takes log a.0) ≡ true → not (uses takes log b.0) ≡ true → map turn log ≡ log
  still_log [] x y = refl
  still_log (m ∷ log) x y =
      let one = neither (takes_this (takes m) a.0) (uses takes log a.0) x in
      let two = neither (takes_this (takes m) b.0) (uses takes log b.0) y in
      ap (λ m. m ∷ map turn log) (still_mark m one.0 two.0) ∙ ap (λ l. m ∷ l) (still_log log one.1 two.1)

-- ---- in any setting
then_same : {T U : Type 0} (f h : T → Option U) → ((t : T) → f t ≡ h t) → (o : Option T) → option_and_then f o ≡ option_and_then h o
then_same f h same None = refl
then_same f h same (Some t) = same t

module _ (w : Setting) (s : State) (tells : Tells w.know s) (high : ℕ) (ascend : IdsAscend 0 w.edges high) (a b : EdgeId) (both : AreAlike w.know w.edges a b) where
  -- the edge of an id, and that of the other id
  abbrev Goes : Option Edge → Option Edge → Type 0
  Goes o p = (o ≡ p) ⊎ ((e f : Edge) × (o ≡ Some e) × (p ≡ Some f) × (are_alike w.know e f ≡ true))

  goes : (i : EdgeId) → Goes (edge_with w.edges i) (edge_with w.edges (other_id a b i))
  goes i = at (i.0 == a.0) (i.0 == b.0) refl refl
    where
      at : (x y : Bool) → (i.0 == a.0) ≡ x → (i.0 == b.0) ≡ y → Goes (edge_with w.edges i) (edge_with w.edges (other_id a b i))
      at true y is other =
          let e : i ≡ a = ap id_with (eqb-true i.0 a.0 is) in
          let f : other_id a b i ≡ b = ap (other_id a b) e ∙ ap id_with (swap_left a.0 b.0) in
          inr (both.left, both.right, ap (edge_with w.edges) e ∙ both.left_there, ap (edge_with w.edges) f ∙ both.right_there, both.alike)
      at false true is other =
          let e : i ≡ b = ap id_with (eqb-true i.0 b.0 other) in
          let f : other_id a b i ≡ a = ap (other_id a b) e ∙ ap id_with (swap_right a.0 b.0) in
          inr (both.right, both.left, ap (edge_with w.edges) e ∙ both.right_there, ap (edge_with w.edges) f ∙ both.left_there, alike_back w.know s tells both.left both.right both.alike)
      at false false is other = inl (ap (edge_with w.edges) (sym (still_id a b i is other)))

  goes_ind : (g : Goal) (o p : Option Edge) → Goes o p → is_ind w.know g o ≡ true → is_ind w.know g p ≡ true
  goes_ind g o p (inl e) t = ap (is_ind w.know g) (sym e) ∙ t
  goes_ind g o p (inr (e, f, x, y, same)) t = ap (is_ind w.know g) y ∙ ind_on w.know s tells g e f same (ap (is_ind w.know g) (sym x) ∙ t)

  goes_seg : (g : Goal) (o p : Option Edge) → Goes o p → is_seg w.know g o ≡ true → is_seg w.know g p ≡ true
  goes_seg g o p (inl e) t = ap (is_seg w.know g) (sym e) ∙ t
  goes_seg g o p (inr (e, f, x, y, same)) t = ap (is_seg w.know g) y ∙ seg_on w.know s tells g e f same (ap (is_seg w.know g) (sym x) ∙ t)

  goes_behind : (g : Goal) (o p : Option Edge) → Goes o p → behind_seg g o ≡ behind_seg g p
  goes_behind g o p (inl e) = ap (behind_seg g) e
  goes_behind g o p (inr (e, f, x, y, same)) = ap (behind_seg g) x ∙ (behind_on w.know s tells g e f same ∙ ap (behind_seg g) (sym y))

  goes_block : (at : Term) (shape : StructId) (o p : Option Edge) → Goes o p → option_and_then (whole_block w.know at shape) o ≡ option_and_then (whole_block w.know at shape) p
  goes_block at shape o p (inl e) = ap (option_and_then (whole_block w.know at shape)) e
  goes_block at shape o p (inr (e, f, x, y, same)) =
      ap (option_and_then (whole_block w.know at shape)) x ∙ (block_on w.know s tells at shape e f same ∙ ap (option_and_then (whole_block w.know at shape)) (sym y))

  contents_same : (at : Term) (shape : Option StructId) (block : Option EdgeId) → contents_by w.know w.edges at shape (option_map (other_id a b) block) ≡ contents_by w.know w.edges at shape block
  contents_same at None None = refl
  contents_same at None (Some i) = refl
  contents_same at (Some shape) None = refl
  contents_same at (Some shape) (Some i) = sym (goes_block at shape (edge_with w.edges i) (edge_with w.edges (other_id a b i)) (goes i))

  rule_same : (g : Goal) (place : ℕ) (block : Option EdgeId) → rule_at w g place (option_map (other_id a b) block) ≡ rule_at w g place block
  rule_same g place block =
      then_same (λ (def : Def). option_and_then (named_by w g (option_map (other_id a b) block) def) (slice_get def.rules place)) (λ (def : Def). option_and_then (named_by w g block def) (slice_get def.rules place))
      (λ (def : Def). then_same (named_by w g (option_map (other_id a b) block) def) (named_by w g block def)
      (λ (rule : Rule). ap (option_and_then (named_with w.know g def rule)) (contents_same g.at rule.block block)) (slice_get def.rules place)) (def_at w g)

  fits_turned : (g : Goal) (m : Mark) → fits w g m ≡ true → fits w g (turn a b m) ≡ true
  fits_turned g AtEnd t = t
  fits_turned g (ByInd i) t =
      let two = and_both (not (is_some g.stop)) (is_ind w.know g (edge_with w.edges i)) t in
      and_yes (not (is_some g.stop)) (is_ind w.know g (edge_with w.edges (other_id a b i))) two.0 (goes_ind g (edge_with w.edges i) (edge_with w.edges (other_id a b i)) (goes i) two.1)
  fits_turned g (BySeg i) t = goes_seg g (edge_with w.edges i) (edge_with w.edges (other_id a b i)) (goes i) t
  fits_turned g (ByRule place block) t = ap (λ o. not (is_some g.stop) && is_some o) (rule_same g place block) ∙ t
  fits_turned g (ByCall place block call) t = ap (λ o. is_some g.stop && on_some (has_call g.pred call) o) (rule_same g place block) ∙ t

  calls_turned : (g : Goal) (m : Mark) → calls_of w g m ≡ calls_of w g (turn a b m)
  calls_turned g AtEnd = refl
  calls_turned g (ByInd i) = refl
  calls_turned g (BySeg i) = goes_behind g (edge_with w.edges i) (edge_with w.edges (other_id a b i)) (goes i)
  calls_turned g (ByRule place block) = ap calls_of_rule (sym (rule_same g place block))
  calls_turned g (ByCall place block call) = ap (calls_of_rule_to g.stop call) (sym (rule_same g place block))

  -- a mark that fits is one of its goal's
  there_in : {X : Type 0} (xs : List X) (i : ℕ) (x : X) → slice_get xs i ≡ Some x → i < length xs
  there_in [] i x e = absurd (cc e)
  there_in (y ∷ xs) zero x e = omega arith
  there_in (y ∷ xs) (suc i) x e = let r = there_in xs i x e in omega arith

  fits_listed : (g : Goal) (m : Mark) → fits w g m ≡ true → IsIn m (marks w g)
  fits_listed g AtEnd t = inl refl
  fits_listed g (ByInd i) t =
      let two = and_both (not (is_some g.stop)) (is_ind w.know g (edge_with w.edges i)) t in
      let p = ind_parts w.know g (edge_with w.edges i) two.1 in
      ind_listed w g i (Ind p.b g.pred p.args) p.edge
  fits_listed g (BySeg i) t = let p = seg_parts w.know g (edge_with w.edges i) t in seg_listed w g i (Seg p.b p.args g.pred p.last p.lasts) p.edge
  fits_listed g (ByRule place block) t =
      let two = and_both (not (is_some g.stop)) (is_some (rule_at w g place block)) t in
      let by = there (rule_at w g place block) two.1 in
      let p = rule_parts w g place block by.0 by.1 in
      rule_listed w g p.def place by.0.rule block p.contents (ByRule place block) p.defined p.listed p.taken (whole_in place by.0.rule block)
  fits_listed g (ByCall place block call) t =
      let two = and_both (is_some g.stop) (on_some (has_call g.pred call) (rule_at w g place block)) t in
      let by = named_there (has_call g.pred call) (rule_at w g place block) two.1 in
      let p = rule_parts w g place block by.0 by.1 in
      let c = call_parts g.pred (slice_get by.0.rule.calls call) by.2 in
      rule_listed w g p.def place by.0.rule block p.contents (ByCall place block call) p.defined p.listed p.taken (call_in place by.0.rule block call (there_in by.0.rule.calls call c.0 c.1))

  near_in : (g : Goal) (log : List Mark) (m : Mark) → IsIn m (filter (applies (space w) g log) (marks w g)) → IsIn m (filter (applies (near_space w) g log) ((near_space w).marks g))
  unfolding options
  near_in g log m i = subst (λ l. IsIn m l) (sym (near_options w high ascend g log)) i

  near_listed : AreListed (near_space w)
  near_listed g log m t =
      let f = (and_both (fits w g m) (is_free takes log m) t).0 in
      let i = in_filter (applies (space w) g log) m (marks w g) (fits_listed g m f) t in
      (from_filter (applies (near_space w) g log) m ((near_space w).marks g) (near_in g log m i)).0

  turns : Turns (near_space w) (λ g h. g ≡ h) (turn a b)
  turns =
      record {
        listed = near_listed;
        fits = λ g h m e t. subst (λ x. fits w x (turn a b m) ≡ true) e (fits_turned g m t);
        calls = λ g h m e t. subst (λ x. AllGo (λ g h. g ≡ h) (calls_of w g m) (calls_of w x (turn a b m))) e (subst (λ l. AllGo (λ g h. g ≡ h) (calls_of w g m) l) (calls_turned g m) (all_go_self (λ g h. g ≡ h) (λ g. refl) (calls_of w g m)));
        free = free_turned a b;
        ends = λ log t. refl;
      }

  ind_stands : StandsFor (near_space w) (ByInd a) (ByInd b)
  ind_stands = turned_stands (near_space w) (λ g h. g ≡ h) (turn a b) turns (λ g. refl) (ByInd a) (ByInd b) (ap (λ n. ByInd (id_with n)) (swap_right a.0 b.0)) (λ log x y. still_log a b log x y)

  seg_stands : StandsFor (near_space w) (BySeg a) (BySeg b)
  seg_stands = turned_stands (near_space w) (λ g h. g ≡ h) (turn a b) turns (λ g. refl) (BySeg a) (BySeg b) (ap (λ n. BySeg (id_with n)) (swap_right a.0 b.0)) (λ log x y. still_log a b log x y)

-- a mark stands for one that takes an edge alike
pub marks_stand : (w : Setting) (s : State) → Tells w.know s → (high : ℕ) → IdsAscend 0 w.edges high → (one other : Mark) → MarksAlike w.know w.edges one other → StandsFor (near_space w) one other
marks_stand w s tells high ascend AtEnd m h = absurd h
marks_stand w s tells high ascend (ByInd a) AtEnd h = absurd h
marks_stand w s tells high ascend (ByInd a) (ByInd b) h = ind_stands w s tells high ascend a b h
marks_stand w s tells high ascend (ByInd a) (BySeg b) h = absurd h
marks_stand w s tells high ascend (ByInd a) (ByRule place block) h = absurd h
marks_stand w s tells high ascend (ByInd a) (ByCall place block call) h = absurd h
marks_stand w s tells high ascend (BySeg a) AtEnd h = absurd h
marks_stand w s tells high ascend (BySeg a) (ByInd b) h = absurd h
marks_stand w s tells high ascend (BySeg a) (BySeg b) h = seg_stands w s tells high ascend a b h
marks_stand w s tells high ascend (BySeg a) (ByRule place block) h = absurd h
marks_stand w s tells high ascend (BySeg a) (ByCall place block call) h = absurd h
marks_stand w s tells high ascend (ByRule place block) m h = absurd h
marks_stand w s tells high ascend (ByCall place block call) m h = absurd h
