-- Marks, and what calls lead to.
use Rattle.std.proofs.lemmas.List.{take_more}
use Rattle.std.proofs.Common.{take, ◌≡◌, ℕ, List, [], ◌∷◌, ◌+◌, ◌<◌, ◌≤◌, refl, sym, ◌∙◌, arith, inl, inr, suc, zero, length, get_or, set, drop, Bool, true, false}
use Rattle.std.proofs.Common.{get_or-set_other, get_or-set_same}
use Rattle.std.proofs.lemmas.Bool.{cases_eq}
use Rattle.std.specs.Prelude.{Contains, IsTrue}
use Rattle.mc_c_check.specs.declared.graph.Edge.{Edge}
use Rattle.mc_c_check.specs.Graphs.{along, here, is_marked, IsClosed, Keeps, Leads, LeadsToMarked, NeverRise, unmarked}
use Rattle.mc_c_check.proofs.Members.{contains_either}
use Rattle.mc_c_check.proofs.Rows.{drop_at}
use Rattle.mc_c_types.proofs.Orders.{contains_cases, contains_none}

-- one call more at the end
pub leads_on : (edges : List Edge) (edge : Edge) → Contains edges edge → {a b : ℕ} → Leads edges a b → b ≡ edge.caller → Leads edges a edge.callee
leads_on edges edge made {a} {b} here e = rw e (along edge made here)
leads_on edges edge made (along other among more) e = along other among (leads_on edges edge made more e)

-- ---- marking one more
marked_same : (marks : List Bool) (k : ℕ) → k < length marks → is_marked (set marks k true) k ≡ true
marked_same marks k below = get_or-set_same marks k true false below

marked_other : (marks : List Bool) (k n : ℕ) → (n ≡ k → ⊥) → is_marked (set marks k true) n ≡ is_marked marks n
marked_other marks k n other = get_or-set_other marks k n true false other

pub mark_kept : (marks : List Bool) (k n : ℕ) → k < length marks → is_marked marks n ≡ true → is_marked (set marks k true) n ≡ true
mark_kept marks k n below e =
    elim (cases_eq n k) [ inl p ↦ rw p (marked_same marks k below) | inr p ↦ marked_other marks k n p ∙ e ]

pub mark_sound : (edges : List Edge) (from : ℕ) (marks : List Bool) (edge : Edge)
    → Contains edges edge → is_marked marks edge.caller ≡ true → LeadsToMarked edges from marks → LeadsToMarked edges from (set marks edge.callee true)
mark_sound edges from marks edge made marked sound n h =
    elim (cases_eq n edge.callee) [
      | inl p ↦ rw p (leads_on edges edge made (sound edge.caller marked) refl)
      | inr p ↦ sound n (sym (marked_other marks edge.callee n p) ∙ h)
    ]

pub mark_less : (marks : List Bool) (k : ℕ) → k < length marks → is_marked marks k ≡ false → unmarked (set marks k true) + 1 ≡ unmarked marks
mark_less [] k below e = omega arith
mark_less (m ∷ marks) zero below e = rw e (omega arith)
mark_less (m ∷ marks) (suc k) below e = let more = mark_less marks k (omega arith) e in omega arith

-- ---- a pass over the calls
pub closed_here : (edges : List Edge) (i : ℕ) (x : Edge) (marks : List Bool) → i < length edges → x ≡ get_or edges i x
    → (is_marked marks x.caller ≡ true → is_marked marks x.callee ≡ true)
    → IsClosed (drop (i + 1) edges) marks → IsClosed (drop i edges) marks
closed_here edges i x marks below is kept closed edge made marked =
    elim (contains_cases edge x (drop (i + 1) edges) (rw (drop_at edges i x below is) at made)) [
      | inl p ↦ rw p (kept (rw p at marked))
      | inr p ↦ closed edge p marked
    ]

-- ---- nothing is both
pub never : {P : Type 0} → true ≡ false → P
never e = absurd (cc e)

-- ---- what is closed has all that calls lead to
pub closed_leads : (edges : List Edge) (marks : List Bool) → IsClosed edges marks → {a b : ℕ} → Leads edges a b → is_marked marks a ≡ true → is_marked marks b ≡ true
closed_leads edges marks closed here e = e
closed_leads edges marks closed (along edge made more) e = closed_leads edges marks closed more (closed edge made e)

-- the marks that spread from one number are on what calls lead to from there
first_mark : (edges : List Edge) (marks : List Bool) (from : ℕ) → ((n : ℕ) → is_marked marks n ≡ false) → LeadsToMarked edges from (set marks from true)
first_mark edges marks from none n h =
    elim (cases_eq n from) [
      | inl p ↦ rw p here
      | inr p ↦ never (sym h ∙ marked_other marks from n p ∙ none n)
    ]

pub leads_answer : (edges : List Edge) (begun ended : List Bool) (count from to : ℕ) → length begun ≡ count + 1 → ((n : ℕ) → is_marked begun n ≡ false) → from ≤ count
    → ((start : ℕ) → LeadsToMarked edges start (set begun from true) → LeadsToMarked edges start ended)
    → Keeps (set begun from true) ended → IsClosed edges ended
    → (IsTrue (is_marked ended to) → Leads edges from to) × (Leads edges from to → IsTrue (is_marked ended to))
leads_answer edges begun ended count from to long none within sound kept closed = (
  sound from (first_mark edges begun from none) to,
  λ h. closed_leads edges ended closed h (kept from (marked_same begun from (omega arith))),
)

-- ---- levels
levels_fall : (edges : List Edge) (levels : List ℕ) → NeverRise edges levels → {a b : ℕ} → Leads edges a b → get_or levels b 0 ≤ get_or levels a 0
levels_fall edges levels falling here = omega arith
levels_fall edges levels falling (along edge made more) =
    let below = falling edge made in let rest = levels_fall edges levels falling more in omega arith

-- what stands at a lower level does not come back
pub no_way_up : (edges : List Edge) (levels : List ℕ) (x : Edge) {P : Type 0} → NeverRise edges levels → get_or levels x.callee 0 < get_or levels x.caller 0 → Leads edges x.callee x.caller → P
no_way_up edges levels x falling below back = let rest = levels_fall edges levels falling back in absurd (omega arith)

pub no_levels : (edges : List Edge) → NeverRise edges []
no_levels edges edge made = omega arith

pub falls_next : (edges : List Edge) (i : ℕ) (d : Edge) (levels : List ℕ) → i < length edges
    → get_or levels (get_or edges i d).callee 0 ≤ get_or levels (get_or edges i d).caller 0
    → NeverRise (take i edges) levels → NeverRise (take (i + 1) edges) levels
falls_next edges i d levels below falls falling edge made =
    elim (contains_either edge (take i edges) (get_or edges i d ∷ []) (rw (take_more edges i d below) at made)) [
      | inl p ↦ falling edge p
      | inr p ↦ elim (contains_cases edge (get_or edges i d) [] p) [ inl q ↦ rw q falls | inr q ↦ absurd (contains_none edge q) ]
    ]
