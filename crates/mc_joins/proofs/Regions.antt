-- Regions in parts, and edges that are taken out of some of a list.
use Rattle.std.proofs.Common.{◌≡◌, ◌<◌, ◌≤◌, ℕ, suc, List, [], ◌∷◌, ◌++◌, Bool, true, false, Option, Some, None, refl, ap, sym, ◌∙◌, subst, inl, inr, arith, eqb-true, eq-eqb}
use Rattle.std.specs.Prelude.{◌==◌, ◌&&◌, not, cond, is_some, filter, if◌then◌else◌}
use Rattle.std.specs.List.{list_all}
use Rattle.std.proofs.lemmas.Bool.{ne_eqb}
use Rattle.mc_base.specs.declared.ids.EdgeId.{EdgeId}
use Rattle.mc_flow.specs.Heap.Heap.{Region}
use Rattle.mc_flow.specs.Heap.Instances.{nowhere}
use Rattle.mc_flow.specs.Heap.Parts.{Split, IsEmpty, Star}
use Rattle.mc_flow.specs.Heap.PartLaws.{SplitCommutes, SplitRegroupsLeft, SplitRegroupsRight, SplitDropsEmpty, SplitAddsEmpty}
use Rattle.mc_state.specs.declared.graph.edge.Edge.{Edge}
use Rattle.mc_state.specs.Graph.Graph.{Edges, Picks, IdsAscend, edge_with, without, numbered}
use Rattle.mc_state.specs.Named.{others, are_there, Looked}
use Rattle.mc_joins.proofs.Members.{Has}

-- what holds of parts
pub record SplitLaws : Type 0 where
  pub commutes : SplitCommutes
  pub left : SplitRegroupsLeft
  pub right : SplitRegroupsRight
  pub drops_empty : SplitDropsEmpty
  pub adds_empty : SplitAddsEmpty

pub nowhere_empty : IsEmpty nowhere
nowhere_empty = record { none = λ at. refl }

-- edges that are numbered
pub star_numbered : (M : Edge → Region → Type 0) (n : ℕ) (new : List Edge) (region : Region) → Star M new region → Star (λ (e : EdgeId × Edge). M e.1) (numbered n new) region
star_numbered M n [] region s = s
star_numbered M n (e ∷ new) region s = (s.0, s.1, s.2, s.3, star_numbered M (suc n) new s.1 s.4)

module _ (laws : SplitLaws) where
  pub none_left : (region : Region) → Split region nowhere region
  none_left region = laws.adds_empty region nowhere nowhere_empty

  pub none_right : (region : Region) → Split region region nowhere
  none_right region = laws.commutes region nowhere region (none_left region)

  module _ {A : Type 0} (M : A → Region → Type 0) where
    -- one thing alone has the whole region
    pub star_one : (x : A) (region : Region) → M x region → Star M (x ∷ []) region
    star_one x region m = (region, nowhere, none_right region, m, nowhere_empty)

    -- the things of two lists have two parts
    pub star_append : (xs ys : List A) (region left right : Region) → Split region left right → Star M xs left → Star M ys right → Star M (xs ++ ys) region
    star_append [] ys region left right split s t = subst (λ (r : Region). Star M ys r) (sym (laws.drops_empty region left right s split)) t
    star_append (x ∷ xs) ys region left right split s t =
        let whole = laws.right region left right s.0 s.1 split s.2 in
        (s.0, whole.0, whole.2, s.3, star_append xs ys whole.0 s.1 right whole.1 s.4 t)

    -- those that pass a test and those that do not
    abbrev pub Parted : (A → Bool) → List A → Region → Type 0
    Parted test xs region =
        (passed : Region) × (failed : Region) × Split region passed failed × Star M (filter test xs) passed × Star M (filter (λ x. not (test x)) xs) failed

    pub parted : (test : A → Bool) (xs : List A) (region : Region) → Star M xs region → Parted test xs region
    parted test [] region s = (nowhere, region, none_left region, nowhere_empty, s)
    parted test (x ∷ xs) region s = at (test x) (parted test xs s.1 s.4)
      where
        at : (b : Bool) → Parted test xs s.1
            → (passed : Region) × (failed : Region) × Split region passed failed × Star M (cond b (x ∷ filter test xs) (filter test xs)) passed
            × Star M (cond (not b) (x ∷ filter (λ x. not (test x)) xs) (filter (λ x. not (test x)) xs)) failed
        at true r =
            let both = laws.left region s.0 s.1 r.0 r.1 s.2 r.2 in
            (both.0, r.1, both.2, (s.0, r.0, both.1, s.3, r.3), r.4)
        at false r =
            let rest = laws.right region s.1 s.0 r.0 r.1 (laws.commutes region s.0 s.1 s.2) r.2 in
            (r.0, rest.0, rest.2, r.3, (s.0, r.1, laws.commutes rest.0 r.1 s.0 rest.1, s.3, r.4))

    pub merged : (test : A → Bool) (xs : List A) (region passed failed : Region) → Split region passed failed → Star M (filter test xs) passed → Star M (filter (λ x. not (test x)) xs) failed → Star M xs region
    merged test [] region passed failed split s t = subst (λ (r : Region). IsEmpty r) (sym (laws.drops_empty region passed failed s split)) t
    merged test (x ∷ xs) region passed failed split s t = at (λ whole l r. merged test xs whole l r) (test x) s t
      where
        at : ((whole l r : Region) → Split whole l r → Star M (filter test xs) l → Star M (filter (λ x. not (test x)) xs) r → Star M xs whole)
            → (b : Bool) → Star M (cond b (x ∷ filter test xs) (filter test xs)) passed → Star M (cond (not b) (x ∷ filter (λ x. not (test x)) xs) (filter (λ x. not (test x)) xs)) failed → Star M (x ∷ xs) region
        at more true s t =
            let rest = laws.right region passed failed s.0 s.1 split s.2 in
            (s.0, rest.0, rest.2, s.3, more rest.0 s.1 failed rest.1 s.4 t)
        at more false s t =
            let rest = laws.right region failed passed t.0 t.1 (laws.commutes region passed failed split) t.2 in
            (t.0, rest.0, rest.2, t.3, more rest.0 passed t.1 (laws.commutes rest.0 t.1 passed rest.1) s t.4)

  -- an edge and its part, and the other edges and theirs
  pub star_take : (M : Edge → Region → Type 0) (es : Edges) (id : EdgeId) (x : Edge) (region : Region) → edge_with es id ≡ Some x → Star (λ (e : EdgeId × Edge). M e.1) es region
      → (part : Region) × (others : Region) × Split region part others × M x part × Star (λ (e : EdgeId × Edge). M e.1) (without es id) others
  star_take M [] id x region e s = absurd (cc e)
  star_take M (y ∷ ys) id x region e s = at (λ h. star_take M ys id x s.1 h s.4) (y.0.0 == id.0) e
    where
      at : (edge_with ys id ≡ Some x → (part : Region) × (others : Region) × Split s.1 part others × M x part × Star (λ (e : EdgeId × Edge). M e.1) (without ys id) others)
          → (here : Bool) → (if here then Some y.1 else edge_with ys id) ≡ Some x
          → (part : Region) × (others : Region) × Split region part others × M x part × Star (λ (e : EdgeId × Edge). M e.1) (if here then ys else y ∷ without ys id) others
      at rest true e = let same : y.1 ≡ x = cc e in (s.0, s.1, s.2, subst (λ (z : Edge). M z s.0) same s.3, s.4)
      at rest false e =
          let more = rest e in
          let whole = laws.right region s.1 s.0 more.0 more.1 (laws.commutes region s.0 s.1 s.2) more.2 in
          (more.0, whole.0, whole.2, more.3, (s.0, more.1, laws.commutes whole.0 more.1 s.0 whole.1, s.3, more.4))

-- ---- ids that ascend

ascend_lower : (low other high : ℕ) (es : Edges) → other ≤ low → IdsAscend low es high → IdsAscend other es high
ascend_lower low other high [] less a = tt
ascend_lower low other high (e ∷ es) less a = let first = a.0 in (omega arith, a.1, a.2)

pub without_ascend : (es : Edges) (id : EdgeId) (low high : ℕ) → IdsAscend low es high → IdsAscend low (without es id) high
without_ascend [] id low high a = tt
without_ascend (e ∷ es) id low high a = at (without_ascend es id (suc e.0.0) high a.2) (e.0.0 == id.0)
  where
    at : IdsAscend (suc e.0.0) (without es id) high → (b : Bool) → IdsAscend low (if b then es else e ∷ without es id) high
    at rest true = let first = a.0 in ascend_lower (suc e.0.0) low high es (omega arith) a.2
    at rest false = (a.0, a.1, rest)

pub others_ascend : (es : Edges) (ids : List EdgeId) (low high : ℕ) → IdsAscend low es high → IdsAscend low (others es ids) high
others_ascend es [] low high a = a
others_ascend es (id ∷ ids) low high a = others_ascend (without es id) ids low high (without_ascend es id low high a)

pub filter_ascend : (test : EdgeId × Edge → Bool) (es : Edges) (low high : ℕ) → IdsAscend low es high → IdsAscend low (filter test es) high
filter_ascend test [] low high a = tt
filter_ascend test (e ∷ es) low high a = at (filter_ascend test es (suc e.0.0) high a.2) (test e)
  where
    at : IdsAscend (suc e.0.0) (filter test es) high → (b : Bool) → IdsAscend low (cond b (e ∷ filter test es) (filter test es)) high
    at rest true = (a.0, a.1, rest)
    at rest false = let first = a.0 in ascend_lower (suc e.0.0) low high (filter test es) (omega arith) rest

-- an id below all others is that of none
below_none : (es : Edges) (id : EdgeId) (low high : ℕ) → IdsAscend low es high → id.0 < low → edge_with es id ≡ None
below_none [] id low high a less = refl
below_none (e ∷ es) id low high a less =
    let first = a.0 in
    let apart : (e.0.0 == id.0) ≡ false = ne_eqb e.0.0 id.0 (let differ : e.0.0 ≡ id.0 → ⊥ = λ q. omega arith in differ) in
    ap (λ (b : Bool). if b then Some e.1 else edge_with es id) apart ∙ below_none es id (suc e.0.0) high a.2 (omega arith)

-- an edge that is there is found by its id
pub found_with : (es : Edges) (e : EdgeId × Edge) (low high : ℕ) → IdsAscend low es high → Has es e → edge_with es e.0 ≡ Some e.1
found_with [] e low high a h = absurd h
found_with (y ∷ ys) e low high a (inl same) =
    let here : (y.0.0 == e.0.0) ≡ true = eq-eqb y.0.0 e.0.0 (sym (ap (λ (x : EdgeId × Edge). x.0.0) same)) in
    ap (λ (b : Bool). if b then Some y.1 else edge_with ys e.0) here ∙ sym (ap (λ (x : EdgeId × Edge). Some x.1) same)
found_with (y ∷ ys) e low high a (inr h) = at (y.0.0 == e.0.0) refl (found_with ys e (suc y.0.0) high a.2 h)
  where
    at : (b : Bool) → (y.0.0 == e.0.0) ≡ b → edge_with ys e.0 ≡ Some e.1 → (if b then Some y.1 else edge_with ys e.0) ≡ Some e.1
    at true is rest =
        let same : y.0.0 ≡ e.0.0 = eqb-true y.0.0 e.0.0 is in
        let none = below_none ys e.0 (suc y.0.0) high a.2 (omega arith) in
        absurd (cc (rest, none))
    at false is rest = rest

-- ---- edges that pass a test

module _ (test : EdgeId × Edge → Bool) where
  abbrev pub passing : Edges → Edges
  passing es = filter test es

  abbrev pub failing : Edges → Edges
  failing es = filter (λ e. not (test e)) es

  -- one of those that pass is taken from all
  without_passing : (es : Edges) (id : EdgeId) (x : Edge) (low high : ℕ) → IdsAscend low es high → edge_with (passing es) id ≡ Some x
      → (passing (without es id) ≡ without (passing es) id) × (failing (without es id) ≡ failing es)
  without_passing [] id x low high a e = absurd (cc e)
  without_passing (y ∷ ys) id x low high a e = at (λ f. without_passing ys id x (suc y.0.0) high a.2 f) (test y) refl (y.0.0 == id.0) refl e
    where
      at : (edge_with (passing ys) id ≡ Some x → (passing (without ys id) ≡ without (passing ys) id) × (failing (without ys id) ≡ failing ys)) → (b : Bool) → test y ≡ b → (c : Bool) → (y.0.0 == id.0) ≡ c → edge_with (cond b (y ∷ passing ys) (passing ys)) id ≡ Some x
          → (passing (if c then ys else y ∷ without ys id) ≡ without (cond b (y ∷ passing ys) (passing ys)) id)
          × (failing (if c then ys else y ∷ without ys id) ≡ cond (not b) (y ∷ failing ys) (failing ys))
      at more true is true here e = (sym (ap (λ (c : Bool). if c then passing ys else y ∷ without (passing ys) id) here), refl)
      at more true is false here e =
          let there : edge_with (passing ys) id ≡ Some x = sym (ap (λ (c : Bool). if c then Some y.1 else edge_with (passing ys) id) here) ∙ e in
          let rest = more there in (
            ap (λ (b : Bool). cond b (y ∷ passing (without ys id)) (passing (without ys id))) is ∙ ap (λ (zs : Edges). y ∷ zs) rest.0
                ∙ sym (ap (λ (c : Bool). if c then passing ys else y ∷ without (passing ys) id) here),
            ap (λ (b : Bool). cond (not b) (y ∷ failing (without ys id)) (failing (without ys id))) is ∙ rest.1,
          )
      at more false is true here e =
          let same : y.0.0 ≡ id.0 = eqb-true y.0.0 id.0 here in
          let none = below_none (passing ys) id (suc y.0.0) high (filter_ascend test ys (suc y.0.0) high a.2) (omega arith) in
          absurd (cc (e, none))
      at more false is false here e =
          let rest = more e in (
            ap (λ (b : Bool). cond b (y ∷ passing (without ys id)) (passing (without ys id))) is ∙ rest.0,
            ap (λ (b : Bool). cond (not b) (y ∷ failing (without ys id)) (failing (without ys id))) is ∙ ap (λ (zs : Edges). y ∷ zs) rest.1,
          )

  -- and so are several
  pub others_passing : (ids : List EdgeId) (es : Edges) (picked : List Edge) (left : Edges) (low high : ℕ) → IdsAscend low es high → Picks ids (passing es) picked left
      → (passing (others es ids) ≡ left) × (failing (others es ids) ≡ failing es)
  others_passing [] es picked left low high a p = (sym p.1, refl)
  others_passing (id ∷ ids) es [] left low high a p = absurd p
  others_passing (id ∷ ids) es (x ∷ picked) left low high a p =
      let one = without_passing es id x low high a p.0 in
      let more = others_passing ids (without es id) picked left low high (without_ascend es id low high a) (subst (λ (zs : Edges). Picks ids zs picked left) (sym one.0) p.1) in
      (more.0, more.1 ∙ one.1)

-- ids that are there name edges
pub looked : (es : Edges) (ids : List EdgeId) → are_there es ids ≡ true → (picked : List Edge) × Looked es ids picked
looked es [] e = ([], tt)
looked es (id ∷ ids) e = at (edge_with es id) refl (list_all (λ (i : EdgeId). is_some (edge_with es i)) ids) (λ f. looked es ids f) e
  where
    at : (o : Option Edge) → edge_with es id ≡ o → (b : Bool) → (b ≡ true → (picked : List Edge) × Looked es ids picked) → (is_some o && b) ≡ true → (picked : List Edge) × Looked es (id ∷ ids) picked
    at None is b rest e = absurd (cc e)
    at (Some x) is b rest e = let more = rest e in (x ∷ more.0, (is, more.1))
