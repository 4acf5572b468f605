-- Edges that are named by ids.
use Rattle.std.proofs.Common.{◌≡◌, ◌≢◌, ◌<◌, ℕ, suc, List, [], ◌∷◌, Bool, true, false, not, ◌&&◌, Option, Some, None, refl, ap, sym, subst, ◌∙◌, arith, eqb-true, eq-eqb}
use Rattle.std.specs.Prelude.{◌==◌, if◌then◌else◌}
use Rattle.mc_base.specs.declared.ids.EdgeId.{EdgeId}
use Rattle.mc_state.specs.declared.graph.edge.Edge.{Edge}
use Rattle.std.proofs.Common.{◌++◌, length, length-append}
use Rattle.std.specs.Prelude.{◌||◌, is_some}
use Rattle.mc_state.specs.Graph.Graph.{Edges, Picks, edge_with, without, IdsAscend}
use Rattle.mc_state.specs.Named.{others, are_there, is_among, are_distinct, is_apart, are_named, named_ids, Looked}
use Rattle.mc_state.proofs.Tests.{and_both, and_yes, not_no}
use Rattle.mc_state.specs.Told.{PicksAreNamed}
use Rattle.mc_state.proofs.Ids.{ids_without}

-- an id that is not the one that went
pub kept_other : (es : Edges) (id other : EdgeId) → (other.0 == id.0) ≡ false → edge_with (without es id) other ≡ edge_with es other
kept_other [] id other differ = refl
kept_other (e ∷ es) id other differ = at (kept_other es id other differ) (e.0.0 == id.0) refl
  where
    at : edge_with (without es id) other ≡ edge_with es other → (here : Bool) → (e.0.0 == id.0) ≡ here → edge_with (if here then es else e ∷ without es id) other ≡ (if e.0.0 == other.0 then Some e.1 else edge_with es other)
    at rest true is =
        let same : e.0.0 ≡ id.0 = eqb-true e.0.0 id.0 is in
        let apart : (e.0.0 == other.0) ≡ false = flip (e.0.0) other.0 (λ q. clash (sym q ∙ same)) in
        ap (λ b. if b then Some e.1 else edge_with es other) (sym apart) where
          clash : other.0 ≡ id.0 → ⊥
          clash q = let shown : (other.0 == id.0) ≡ true = eq-eqb other.0 id.0 q in cc (shown, differ)

          flip : (a b : ℕ) → a ≢ b → (a == b) ≡ false
          flip a b no' = grind arith
    at rest false is = ap (λ o. if e.0.0 == other.0 then Some e.1 else o) rest

-- no edge below the least id
pub below_none : (low : ℕ) (es : Edges) (high : ℕ) (id : EdgeId) → IdsAscend low es high → id.0 < low → edge_with es id ≡ None
below_none low [] high id a less = refl
below_none low (e ∷ es) high id a less =
    let first = a.0 in
    let apart : e.0.0 ≢ id.0 = omega arith in
    let no' : (e.0.0 == id.0) ≡ false = grind arith in
    ap (λ b. if b then Some e.1 else edge_with es id) no' ∙ below_none (suc e.0.0) es high id a.2 (omega arith)

-- what went is gone
pub gone : (low : ℕ) (es : Edges) (high : ℕ) (id : EdgeId) → IdsAscend low es high → edge_with (without es id) id ≡ None
gone low [] high id a = refl
gone low (e ∷ es) high id a = at (gone (suc e.0.0) es high id a.2) (e.0.0 == id.0) refl
  where
    at : edge_with (without es id) id ≡ None → (here : Bool) → (e.0.0 == id.0) ≡ here → edge_with (if here then es else e ∷ without es id) id ≡ None
    at rest true is =
        let same : e.0.0 ≡ id.0 = eqb-true e.0.0 id.0 is in
        below_none (suc e.0.0) es high id a.2 (omega arith)
    at rest false is = ap (λ b. if b then Some e.1 else edge_with (without es id) id) is ∙ rest

pub looked_count : (es : Edges) (ids : List EdgeId) (picked : List Edge) → Looked es ids picked → length picked ≡ length ids
looked_count es [] [] l = refl
looked_count es [] (e ∷ picked) l = absurd l
looked_count es (id ∷ ids) [] l = absurd l
looked_count es (id ∷ ids) (e ∷ picked) l = ap suc (looked_count es ids picked l.1)

pub some_there : (o : Option Edge) → is_some o ≡ true → (e : Edge) × (o ≡ Some e)
some_there None e = absurd (cc e)
some_there (Some x) e = (x, refl)

pub there_looked : (es : Edges) (ids : List EdgeId) → are_there es ids ≡ true → (picked : List Edge) × Looked es ids picked
there_looked es [] e = ([], tt)
there_looked es (id ∷ ids) e =
    let both = and_both (is_some (edge_with es id)) (are_there es ids) e in
    let first = some_there (edge_with es id) both.0 in
    let rest = there_looked es ids both.1 in
    (first.0 ∷ rest.0, (first.1, rest.1))

pub looked_there : (es : Edges) (ids : List EdgeId) (picked : List Edge) → Looked es ids picked → are_there es ids ≡ true
looked_there es [] picked l = refl
looked_there es (id ∷ ids) [] l = absurd l
looked_there es (id ∷ ids) (e ∷ picked) l = and_yes (is_some (edge_with es id)) (are_there es ids) (ap is_some l.0) (looked_there es ids picked l.1)

or_no : (a b : Bool) → (a || b) ≡ false → (a ≡ false) × (b ≡ false)
or_no true b e = absurd (cc e)
or_no false b e = (refl, e)

-- an edge that none of the ids names may go
pub looked_without : (es : Edges) (id : EdgeId) (ids : List EdgeId) (picked : List Edge) → is_among id ids ≡ false → Looked es ids picked → Looked (without es id) ids picked
looked_without es id [] [] apart l = tt
looked_without es id [] (e ∷ picked) apart l = absurd l
looked_without es id (other ∷ ids) [] apart l = absurd l
looked_without es id (other ∷ ids) (e ∷ picked) apart l =
    let both = or_no (other.0 == id.0) (is_among id ids) apart in
    (kept_other es id other both.0 ∙ l.0, looked_without es id ids picked both.1 l.1)

pub looked_back : (es : Edges) (id : EdgeId) (ids : List EdgeId) (picked : List Edge) → is_among id ids ≡ false → Looked (without es id) ids picked → Looked es ids picked
looked_back es id [] [] apart l = tt
looked_back es id [] (e ∷ picked) apart l = absurd l
looked_back es id (other ∷ ids) [] apart l = absurd l
looked_back es id (other ∷ ids) (e ∷ picked) apart l =
    let both = or_no (other.0 == id.0) (is_among id ids) apart in
    (sym (kept_other es id other both.0) ∙ l.0, looked_back es id ids picked both.1 l.1)

pub picks_from : (es : Edges) (ids : List EdgeId) (picked : List Edge) → are_distinct ids ≡ true → Looked es ids picked → Picks ids es picked (others es ids)
picks_from es [] [] d l = (refl, refl)
picks_from es [] (e ∷ picked) d l = absurd l
picks_from es (id ∷ ids) [] d l = absurd l
picks_from es (id ∷ ids) (e ∷ picked) d l =
    let both = and_both (not (is_among id ids)) (are_distinct ids) d in
    (l.0, picks_from (without es id) ids picked both.1 (looked_without es id ids picked (not_no (is_among id ids) both.0) l.1))

-- an edge that is not there is none of those that are named
among_none : (es : Edges) (id : EdgeId) (ids : List EdgeId) (picked : List Edge) → edge_with es id ≡ None → Looked es ids picked → is_among id ids ≡ false
among_none es id [] picked none l = refl
among_none es id (other ∷ ids) [] none l = absurd l
among_none es id (other ∷ ids) (e ∷ picked) none l = at (among_none es id ids picked none l.1) (other.0 == id.0) refl
  where
    at : is_among id ids ≡ false → (b : Bool) → (other.0 == id.0) ≡ b → (b || is_among id ids) ≡ false
    at rest true same =
        let one : other ≡ id = ap (λ n. record { 0 = n }) (eqb-true other.0 id.0 same) in
        let none' : edge_with es other ≡ None = ap (λ i. edge_with es i) one ∙ none in
        absurd (cc (none', l.0))
    at rest false differ = rest

pub picks_to : (es : Edges) (high : ℕ) (ids : List EdgeId) (picked : List Edge) (left : Edges) → IdsAscend 0 es high → Picks ids es picked left → (are_distinct ids ≡ true) × Looked es ids picked × (left ≡ others es ids)
picks_to es high [] [] left a p = (refl, tt, p.1)
picks_to es high [] (e ∷ picked) left a p = absurd (cc (p.0))
picks_to es high (id ∷ ids) [] left a p = absurd p
picks_to es high (id ∷ ids) (e ∷ picked) left a p =
    let rest = picks_to (without es id) high ids picked left (ids_without 0 es high id a) p.1 in
    let apart = among_none (without es id) id ids picked (gone 0 es high id a) rest.1 in
    let no' : not (is_among id ids) ≡ true = ap not apart in
    (and_yes (not (is_among id ids)) (are_distinct ids) no' rest.0, (p.0, looked_back es id ids picked apart rest.1), rest.2)

too_long : (b : Edge) (blocks inds : List Edge) (n : ℕ) → length ((b ∷ blocks) ++ inds) ≡ n → length inds ≡ n → ⊥
too_long b blocks inds n e h = grind (arith, length-append)

-- a block is named, and this is it
abbrev pub BlockIs : Edges → Option EdgeId → List Edge → Type 0
BlockIs es None blocks = blocks ≡ []
BlockIs es (Some id) blocks = (e : Edge) × (blocks ≡ e ∷ []) × (edge_with es id ≡ Some e)

-- what is named: a block's edge and others
pub record AreNamed (es : Edges) (block : Option EdgeId) (ids : List EdgeId) (blocks inds : List Edge) (left : Edges) : Type 0 where
  pub picks : Picks (named_ids block ids) es (blocks ++ inds) left
  pub block_is : BlockIs es block blocks
  pub looked : Looked es ids inds
  pub left_is : left ≡ others es (named_ids block ids)
  pub test : are_named es block ids ≡ true

pub named_from : (es : Edges) (block : Option EdgeId) (ids : List EdgeId) → are_named es block ids ≡ true → (blocks : List Edge) × (inds : List Edge) × AreNamed es block ids blocks inds (others es (named_ids block ids))
named_from es None ids e =
    let both = and_both (are_there es ids) (are_distinct ids) e in
    let l = there_looked es ids both.0 in
    ([], l.0, record { picks = picks_from es ids l.0 both.1 l.1; block_is = refl; looked = l.1; left_is = refl; test = e })
named_from es (Some id) ids e =
    let both = and_both (is_apart es (Some id) ids && are_there es ids) (are_distinct ids) e in
    let more = and_both (is_apart es (Some id) ids) (are_there es ids) both.0 in
    let one = and_both (is_some (edge_with es id)) (not (is_among id ids)) more.0 in
    let first = some_there (edge_with es id) one.0 in
    let l = there_looked es ids more.1 in
    let distinct = and_yes (not (is_among id ids)) (are_distinct ids) one.1 both.1 in
    (first.0 ∷ [], l.0, record { picks = picks_from es (id ∷ ids) (first.0 ∷ l.0) distinct (first.1, l.1); block_is = (first.0, refl, first.1); looked = l.1; left_is = refl; test = e })

pub named_to : (es : Edges) (high : ℕ) (block : Option EdgeId) (ids : List EdgeId) (blocks inds : List Edge) (left : Edges) → IdsAscend 0 es high → Picks (named_ids block ids) es (blocks ++ inds) left → length inds ≡ length ids → AreNamed es block ids blocks inds left
named_to es high None ids [] inds left a p n =
    let t = picks_to es high ids inds left a p in
    record { picks = p; block_is = refl; looked = t.1; left_is = t.2; test = and_yes (are_there es ids) (are_distinct ids) (looked_there es ids inds t.1) t.0 }
named_to es high None ids (b ∷ blocks) inds left a p n =
    let t = picks_to es high ids ((b ∷ blocks) ++ inds) left a p in
    let count = looked_count es ids ((b ∷ blocks) ++ inds) t.1 in
    absurd (too_long b blocks inds (length ids) count n)
named_to es high (Some id) ids [] inds left a p n =
    let t = picks_to es high (id ∷ ids) inds left a p in
    let count = looked_count es (id ∷ ids) inds t.1 in
    absurd (omega arith)
named_to es high (Some id) ids (b ∷ []) inds left a p n =
    let t = picks_to es high (id ∷ ids) (b ∷ inds) left a p in
    let l = t.1 in
    let both = and_both (not (is_among id ids)) (are_distinct ids) t.0 in
    let apart : is_apart es (Some id) ids ≡ true = and_yes (is_some (edge_with es id)) (not (is_among id ids)) (ap is_some l.0) both.0 in
    let more : (is_apart es (Some id) ids && are_there es ids) ≡ true = and_yes (is_apart es (Some id) ids) (are_there es ids) apart (looked_there es ids inds l.1) in
    record { picks = p; block_is = (b, refl, l.0); looked = l.1; left_is = t.2; test = and_yes (is_apart es (Some id) ids && are_there es ids) (are_distinct ids) more both.1 }
named_to es high (Some id) ids (b ∷ c ∷ blocks) inds left a p n =
    let t = picks_to es high (id ∷ ids) ((b ∷ c ∷ blocks) ++ inds) left a p in
    let l = t.1 in
    let count = looked_count es ids ((c ∷ blocks) ++ inds) l.1 in
    absurd (too_long c blocks inds (length ids) count n)

pub picks_named : PicksAreNamed
picks_named es high ids picked left ascend =
    (picks_to es high ids picked left ascend, λ named. subst (λ left. Picks ids es picked left) (sym named.2) (picks_from es ids picked named.0 named.1))
