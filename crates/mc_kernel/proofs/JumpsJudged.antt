-- L13 is judged by its instances.
use Rattle.std.proofs.Common.{◌≡◌, ◌+◌, ℕ, suc, List, [], ◌∷◌, Bool, true, false, Option, Some, None, refl, ap, sym, ◌∙◌, eqb-true, eq-eqb, arith, length, pos, ◌-ℤ◌}
use Rattle.std.specs.Prelude.{◌==◌, ◌&&◌, not, Ok, if◌then◌else◌, slice_get}
use Rattle.std.specs.List.{list_all}
use Rattle.mc_base.specs.declared.ids.EdgeId.{EdgeId}
use Rattle.mc_base.specs.declared.ids.NodeId.{NodeId}
use Rattle.mc_base.specs.declared.ids.PredId.{PredId}
use Rattle.mc_base.specs.declared.ids.StructId.{StructId}
use Rattle.mc_base.specs.declared.plain.Kind.{Kind}
use Rattle.mc_base.specs.declared.plain.Kind.TheVariants.{Int, Ptr}
use Rattle.mc_base.specs.declared.plain.Atom.TheVariants.{In}
use Rattle.mc_base.specs.Atoms.{moved_atom}
use Rattle.mc_state.specs.declared.graph.edge.Edge.{Edge}
use Rattle.mc_state.specs.declared.graph.edge.Edge.TheVariants.{Block, Ind, Seg}
use Rattle.mc_state.specs.Graph.Graph.{Edges, Picks, edge_with, without}
use Rattle.mc_pure.specs.Pure.{HasKind, kind_atom, low_of, high_of}
use Rattle.mc_pure.specs.Derived.{LiesIn}
use Rattle.mc_state.specs.State.{State, pure_of}
use Rattle.mc_state.specs.Facts.{Derives, IsFalse}
use Rattle.mc_state.specs.Fits.{IsBounded}
use Rattle.mc_kernel.specs.Jumps.{image_of, IsKnownToo, AreKnownToo, AreImages, EdgeMatches, EdgesMatch}
use Rattle.mc_state.specs.Premises.{Judged, IsJudged}
use Rattle.mc_state.specs.Lists.{all_both, on_some}
use Rattle.mc_state.specs.Known.{Test, Tells, is_false, has_kind}
use Rattle.mc_state.specs.Named.{others, are_distinct, Looked}
use Rattle.mc_kernel.specs.Branches.{Path}
use Rattle.mc_kernel.specs.Jumps.{Jumps}
use Rattle.mc_kernel.specs.Judges.{image, has_image, are_images, is_image, is_known_too, is_edge, is_edge_at, knows_image, is_whole_too, jumping_to}
use Rattle.mc_state.proofs.ListLemmas.{both_from, both_to}
use Rattle.mc_state.proofs.Numbered.{need_ok, have_ok}
use Rattle.mc_state.proofs.Tests.{not_false, is_sound, equal_from, equal_to, and_both, and_yes, has_kind_from, has_kind_to, each_from, each_to}
use Rattle.mc_state.proofs.Named.{picks_from, picks_to, looked_count}

-- an instance of L13, its premises from 2 on
pub record JumpsIn (heads : List State) (j : ℕ) (images : List NodeId) (edges : List EdgeId) (s : State) (next : List Path) : Type 0 where
  pub consistent : IsFalse s → ⊥
  pub head : State
  pub there : slice_get heads j ≡ Some head
  pub jumps : Jumps s head images edges
  pub gives : next ≡ []

-- an edge that is there is one more than what is left without it
with_count : (es : Edges) (id : EdgeId) (e : Edge) → edge_with es id ≡ Some e → length es ≡ suc (length (without es id))
with_count [] id e is = absurd (cc is)
with_count (x ∷ es) id e is = at (λ h. with_count es id e h) (x.0.0 == id.0) is
  where
    at : (edge_with es id ≡ Some e → length es ≡ suc (length (without es id))) → (b : Bool) → (if b then Some x.1 else edge_with es id) ≡ Some e → suc (length es) ≡ suc (length (if b then es else x ∷ without es id))
    at rest true is = refl
    at rest false is = ap suc (rest is)

picks_count : (ids : List EdgeId) (es : Edges) (picked : List Edge) (left : Edges) → Picks ids es picked left → length es ≡ length ids + length left
picks_count [] es picked left p = let same : length left ≡ length es = ap length (p.1) in omega arith
picks_count (id ∷ ids) es [] left p = absurd p
picks_count (id ∷ ids) es (e ∷ picked) left p =
    let first = with_count es id e p.0 in
    let rest = picks_count ids (without es id) picked left p.1 in
    omega arith

none_left : (left : Edges) → length left ≡ 0 → left ≡ []
none_left [] e = refl
none_left (x ∷ left) e = absurd (omega arith)

lies : (n : NodeId) (k : Kind) → kind_atom n k ≡ In n (low_of k -ℤ pos 0) (high_of k -ℤ pos 0)
lies n Int = refl
lies n Ptr = refl

module _ (know : Test) (s : State) (tells : Tells know s) (images : List NodeId) where
  abbrev Imaged : NodeId × Kind → Type 0
  Imaged k = HasKind s.kinds k.1 (image images k.0) × LiesIn (pure_of s) k.1 (image images k.0) (pos 0)

  imaged_from : (k : NodeId × Kind) → has_image know s.kinds images k ≡ true → Imaged k
  imaged_from k e =
      let both = and_both (has_kind s.kinds k.1 (image images k.0)) (know (kind_atom (image images k.0) k.1)) e in
      let lie : know (In (image images k.0) (low_of k.1 -ℤ pos 0) (high_of k.1 -ℤ pos 0)) ≡ true = sym (ap know (lies (image images k.0) k.1)) ∙ both.1 in
      (has_kind_from s.kinds k.1 (image images k.0) both.0, (tells (In (image images k.0) (low_of k.1 -ℤ pos 0) (high_of k.1 -ℤ pos 0))).0 lie)

  imaged_to : (k : NodeId × Kind) → Imaged k → has_image know s.kinds images k ≡ true
  imaged_to k p =
      and_yes (has_kind s.kinds k.1 (image images k.0)) (know (kind_atom (image images k.0) k.1)) (has_kind_to s.kinds k.1 (image images k.0) p.0)
      (ap know (lies (image images k.0) k.1) ∙ (tells (In (image images k.0) (low_of k.1 -ℤ pos 0) (high_of k.1 -ℤ pos 0))).1 p.1)

  nodes_from : (theres heres : List NodeId) → all_both (is_image know images) theres heres ≡ true → AreImages s images theres heres
  nodes_from = both_from (is_image know images) (AreImages s images) tt (λ a b xs ys e p. (equal_from know s tells (image images a) b e, p))

  nodes_to : (theres heres : List NodeId) → AreImages s images theres heres → all_both (is_image know images) theres heres ≡ true
  nodes_to = both_to (is_image know images) (AreImages s images) (λ a b xs ys p. (equal_to know s tells (image images a) b p.0, p.1)) (λ b ys p. p) (λ a xs p. p)

  known_from : (a b : Option NodeId) → is_known_too know images a b ≡ true → IsKnownToo s images a b
  known_from None b e = tt
  known_from (Some a) None e = absurd (cc e)
  known_from (Some a) (Some b) e = equal_from know s tells (image images a) b e

  known_to : (a b : Option NodeId) → IsKnownToo s images a b → is_known_too know images a b ≡ true
  known_to None b p = refl
  known_to (Some a) None p = absurd p
  known_to (Some a) (Some b) p = equal_to know s tells (image images a) b p

  knowns_from : (theres heres : List (Option NodeId)) → all_both (is_known_too know images) theres heres ≡ true → AreKnownToo s images theres heres
  knowns_from = both_from (is_known_too know images) (AreKnownToo s images) tt (λ a b xs ys e p. (known_from a b e, p))

  knowns_to : (theres heres : List (Option NodeId)) → AreKnownToo s images theres heres → all_both (is_known_too know images) theres heres ≡ true
  knowns_to = both_to (is_known_too know images) (AreKnownToo s images) (λ a b xs ys p. (known_to a b p.0, p.1)) (λ b ys p. p) (λ a xs p. p)

  edge_from : (there here : Edge) → is_edge know images there here ≡ true → EdgeMatches s images there here
  edge_from (Block at shape fields) (Block b own heres) e =
      let two = and_both (own.0 == shape.0 && is_image know images at b) (all_both (is_known_too know images) fields heres) e in
      let one = and_both (own.0 == shape.0) (is_image know images at b) two.0 in
      (ap (λ n. record { 0 = n }) (eqb-true own.0 shape.0 one.0), equal_from know s tells (image images at) b one.1, knowns_from fields heres two.1)
  edge_from (Ind at pred args) (Ind b own heres) e =
      let two = and_both (own.0 == pred.0 && is_image know images at b) (all_both (is_image know images) args heres) e in
      let one = and_both (own.0 == pred.0) (is_image know images at b) two.0 in
      (ap (λ n. record { 0 = n }) (eqb-true own.0 pred.0 one.0), equal_from know s tells (image images at) b one.1, nodes_from args heres two.1)
  edge_from (Seg at args pred «end» ends) (Seg b heres own e there) is =
      let four = and_both (own.0 == pred.0 && is_image know images at b && all_both (is_image know images) args heres && is_image know images end e) (all_both (is_image know images) ends there) is in
      let three = and_both (own.0 == pred.0 && is_image know images at b && all_both (is_image know images) args heres) (is_image know images end e) four.0 in
      let two = and_both (own.0 == pred.0 && is_image know images at b) (all_both (is_image know images) args heres) three.0 in
      let one = and_both (own.0 == pred.0) (is_image know images at b) two.0 in
      (ap (λ n. record { 0 = n }) (eqb-true own.0 pred.0 one.0), equal_from know s tells (image images at) b one.1, nodes_from args heres two.1, equal_from know s tells (image images end) e three.1, nodes_from ends there four.1)
  edge_from (Block at shape fields) (Ind b own heres) e = absurd (cc e)
  edge_from (Block at shape fields) (Seg b heres own e there) is = absurd (cc is)
  edge_from (Ind at pred args) (Block b own heres) e = absurd (cc e)
  edge_from (Ind at pred args) (Seg b heres own e there) is = absurd (cc is)
  edge_from (Seg at args pred «end» ends) (Block b own heres) e = absurd (cc e)
  edge_from (Seg at args pred «end» ends) (Ind b own heres) e = absurd (cc e)

  edge_to : (there here : Edge) → EdgeMatches s images there here → is_edge know images there here ≡ true
  edge_to (Block at shape fields) (Block b own heres) p =
      and_yes (own.0 == shape.0 && is_image know images at b) (all_both (is_known_too know images) fields heres)
      (and_yes (own.0 == shape.0) (is_image know images at b) (eq-eqb own.0 shape.0 (ap (λ (i : StructId). i.0) p.0)) (equal_to know s tells (image images at) b p.1)) (knowns_to fields heres p.2)
  edge_to (Ind at pred args) (Ind b own heres) p =
      and_yes (own.0 == pred.0 && is_image know images at b) (all_both (is_image know images) args heres)
      (and_yes (own.0 == pred.0) (is_image know images at b) (eq-eqb own.0 pred.0 (ap (λ (i : PredId). i.0) p.0)) (equal_to know s tells (image images at) b p.1)) (nodes_to args heres p.2)
  edge_to (Seg at args pred «end» ends) (Seg b heres own e there) p =
      and_yes (own.0 == pred.0 && is_image know images at b && all_both (is_image know images) args heres && is_image know images end e) (all_both (is_image know images) ends there)
      (and_yes (own.0 == pred.0 && is_image know images at b && all_both (is_image know images) args heres) (is_image know images end e)
      (and_yes (own.0 == pred.0 && is_image know images at b) (all_both (is_image know images) args heres)
      (and_yes (own.0 == pred.0) (is_image know images at b) (eq-eqb own.0 pred.0 (ap (λ (i : PredId). i.0) p.0)) (equal_to know s tells (image images at) b p.1)) (nodes_to args heres p.2))
      (equal_to know s tells (image images end) e p.3)) (nodes_to ends there p.4)
  edge_to (Block at shape fields) (Ind b own heres) p = absurd p
  edge_to (Block at shape fields) (Seg b heres own e there) p = absurd p
  edge_to (Ind at pred args) (Block b own heres) p = absurd p
  edge_to (Ind at pred args) (Seg b heres own e there) p = absurd p
  edge_to (Seg at args pred «end» ends) (Block b own heres) p = absurd p
  edge_to (Seg at args pred «end» ends) (Ind b own heres) p = absurd p

  one_edge : (there : Edge) (o : Option Edge) → on_some (is_edge know images there) o ≡ true → (e : Edge) × (o ≡ Some e) × EdgeMatches s images there e
  one_edge there None e = absurd (cc e)
  one_edge there (Some x) e = (x, refl, edge_from there x e)

  edges_from : (es ts : Edges) (ids : List EdgeId) → all_both (is_edge_at know es images) ts ids ≡ true → (picked : List Edge) × Looked es ids picked × EdgesMatch s images ts picked
  edges_from es [] [] e = ([], tt, tt)
  edges_from es [] (id ∷ ids) e = absurd (cc e)
  edges_from es (t ∷ ts) [] e = absurd (cc e)
  edges_from es (t ∷ ts) (id ∷ ids) e =
      let both = and_both (is_edge_at know es images t id) (all_both (is_edge_at know es images) ts ids) e in
      let first = one_edge t.1 (edge_with es id) both.0 in
      let rest = edges_from es ts ids both.1 in
      (first.0 ∷ rest.0, (first.1, rest.1), (first.2, rest.2))

  edges_to : (es ts : Edges) (ids : List EdgeId) (picked : List Edge) → EdgesMatch s images ts picked → Looked es ids picked → all_both (is_edge_at know es images) ts ids ≡ true
  edges_to es [] [] picked p l = refl
  edges_to es [] (id ∷ ids) [] p l = absurd l
  edges_to es [] (id ∷ ids) (x ∷ picked) p l = absurd p
  edges_to es (t ∷ ts) [] [] p l = absurd p
  edges_to es (t ∷ ts) [] (x ∷ picked) p l = absurd l
  edges_to es (t ∷ ts) (id ∷ ids) [] p l = absurd p
  edges_to es (t ∷ ts) (id ∷ ids) (x ∷ picked) p l =
      and_yes (is_edge_at know es images t id) (all_both (is_edge_at know es images) ts ids)
      (ap (on_some (is_edge know images t.1)) l.0 ∙ edge_to t.1 x p.0) (edges_to es ts ids picked p.1 l.1)

  edges_count : (ts : Edges) (picked : List Edge) → EdgesMatch s images ts picked → length ts ≡ length picked
  edges_count [] [] p = refl
  edges_count [] (x ∷ picked) p = absurd p
  edges_count (t ∷ ts) [] p = absurd p
  edges_count (t ∷ ts) (x ∷ picked) p = ap suc (edges_count ts picked p.1)

module _ (know : Test) (heads : List State) (j : ℕ) (images : List NodeId) (ids : List EdgeId) (s : State) (tells : Tells know s) where
  from : (next : List Path) → jumping_to know heads j images ids s ≡ Ok next → JumpsIn heads j images ids s next
  from next e =
      let es = s.graph.edges in
      let two = need_ok 2 _ _ next e in
      let three = have_ok 3 (slice_get heads j) _ next two.1 in
      let t = three.0 in
      let four = need_ok 4 (are_images know s images t) _ next three.2 in
      let five = need_ok 5 (all_both (is_known_too know images) t.env s.env) _ next four.1 in
      let six = need_ok 6 (are_distinct ids && length t.graph.edges == length ids) _ next five.1 in
      let seven = need_ok 7 (all_both (is_edge_at know es images) t.graph.edges ids) _ next six.1 in
      let eight = need_ok 8 (list_all (knows_image know images) t.atoms) _ next seven.1 in
      let nine = need_ok 9 (is_whole_too s t ids) _ next eight.1 in
      let f = and_both (length images == suc (length t.kinds) && image_of images 0 == 0) (list_all (has_image know s.kinds images) t.kinds) four.0 in
      let g = and_both (length images == suc (length t.kinds)) (image_of images 0 == 0) f.0 in
      let distinct = and_both (are_distinct ids) (length t.graph.edges == length ids) six.0 in
      let n = edges_from know s tells images es t.graph.edges ids seven.0 in
      let picks = picks_from es ids n.0 distinct.0 n.1 in
      let is : ◌≡◌ {A = List Path} [] next = cc nine.1 in
      record {
        consistent = not_false know s tells two.0;
        head = t;
        there = three.1;
        jumps = record {
          count = eqb-true (length images) (suc (length t.kinds)) g.0;
          null_image = eqb-true (image_of images 0) 0 g.1;
          kinds = each_from (has_image know s.kinds images) (Imaged know s tells images) (imaged_from know s tells images) t.kinds f.1;
          vars = knowns_from know s tells images t.env s.env five.0;
          picked = n.0;
          left = others es ids;
          picks = picks;
          match = n.2;
          atoms = each_from (knows_image know images) (λ f. Derives s (moved_atom (image_of images) f)) (λ f e. (tells (moved_atom (image_of images) f)).0 e) t.atoms eight.0;
          whole = λ h. all_whole t (others es ids) h nine.0 (picks_count ids es n.0 (others es ids) picks);
        };
        gives = sym is;
      } where
        all_whole : (t : State) (left : Edges) → t.whole ≡ true → is_whole_too s t ids ≡ true → length s.graph.edges ≡ length ids + length left → (s.whole ≡ true) × (left ≡ [])
        all_whole t left h e count =
            let here : (s.whole && length s.graph.edges == length ids) ≡ true = sym (ap (λ b. if b then s.whole && length s.graph.edges == length ids else true) h) ∙ e in
            let both = and_both s.whole (length s.graph.edges == length ids) here in
            let same = eqb-true (length s.graph.edges) (length ids) both.1 in
            (both.0, none_left left (omega arith))

  whole_to : (t : State) (left : Edges) (b : Bool) → t.whole ≡ b → (t.whole ≡ true → (s.whole ≡ true) × (left ≡ [])) → length s.graph.edges ≡ length ids + length left → is_whole_too s t ids ≡ true
  whole_to t left false h w count = ap (λ b. if b then s.whole && length s.graph.edges == length ids else true) h
  whole_to t left true h w count =
      let both = w h in
      let none : length left ≡ 0 = ap length (both.1) in
      let same : length s.graph.edges ≡ length ids = omega arith in
      ap (λ b. if b then s.whole && length s.graph.edges == length ids else true) h ∙ and_yes s.whole (length s.graph.edges == length ids) both.0 (eq-eqb (length s.graph.edges) (length ids) same)

  to : IsBounded s → (next : List Path) → JumpsIn heads j images ids s next → jumping_to know heads j images ids s ≡ Ok next
  to bounded next i =
      let es = s.graph.edges in
      let t = i.head in
      let m = i.jumps in
      let n = picks_to es s.graph.next ids m.picked m.left bounded.ids m.picks in
      let sound : not (is_false know) ≡ true = is_sound know s tells i.consistent in
      let there : slice_get heads j ≡ Some t = i.there in
      let count : (length images == suc (length t.kinds)) ≡ true = eq-eqb (length images) (suc (length t.kinds)) m.count in
      let zero_is : (image_of images 0 == 0) ≡ true = eq-eqb (image_of images 0) 0 m.null_image in
      let kinds = each_to (has_image know s.kinds images) (Imaged know s tells images) (imaged_to know s tells images) t.kinds m.kinds in
      let fits : are_images know s images t ≡ true = and_yes (length images == suc (length t.kinds) && image_of images 0 == 0) (list_all (has_image know s.kinds images) t.kinds) (and_yes (length images == suc (length t.kinds)) (image_of images 0 == 0) count zero_is) kinds in
      let vars : all_both (is_known_too know images) t.env s.env ≡ true = knowns_to know s tells images t.env s.env m.vars in
      let lengths = edges_count know s tells images t.graph.edges m.picked m.match ∙ looked_count es ids m.picked n.1 in
      let distinct : (are_distinct ids && length t.graph.edges == length ids) ≡ true = and_yes (are_distinct ids) (length t.graph.edges == length ids) n.0 (eq-eqb (length t.graph.edges) (length ids) lengths) in
      let edges : all_both (is_edge_at know es images) t.graph.edges ids ≡ true = edges_to know s tells images es t.graph.edges ids m.picked m.match n.1 in
      let atoms : list_all (knows_image know images) t.atoms ≡ true = each_to (knows_image know images) (λ f. Derives s (moved_atom (image_of images) f)) (λ f d. (tells (moved_atom (image_of images) f)).1 d) t.atoms m.atoms in
      let whole : is_whole_too s t ids ≡ true = whole_to t m.left t.whole refl m.whole (picks_count ids es m.picked m.left m.picks) in
      let gives : ◌≡◌ {A = Judged (List Path)} (Ok []) (Ok next) = ap (λ n. Ok n) (sym i.gives) in
      rw sound (rw there (rw fits (rw vars (rw distinct (rw edges (rw atoms (rw whole gives)))))))

pub jumping_judged : (know : Test) (heads : List State) (j : ℕ) (images : List NodeId) (ids : List EdgeId) (s : State) → IsBounded s → Tells know s → IsJudged (jumping_to know heads j images ids s) (JumpsIn heads j images ids s)
jumping_judged know heads j images ids s bounded tells next = (from know heads j images ids s tells next, to know heads j images ids s tells bounded next)
