-- The last pass of a final legal chain changes nothing.
use Rattle.std.proofs.Common.{◌≡◌, ℕ, zero, suc, List, [], ◌∷◌, ◌++◌, Bool, true, false, Some, None, map, length, slice_get, sym, subst}
use Rattle.std.specs.Prelude.{◌==◌, nat_lt, replicate, Contains, if◌then◌else◌}
use Rattle.std.specs.List.{AllByRecursion}
use Rattle.mc_base.specs.declared.ids.PointId.{PointId}
use Rattle.mc_base.specs.declared.plain.VarInfo.{VarInfo}
use Rattle.mc_lines.specs.declared.cert.line.Line.{Line}
use Rattle.mc_lines.specs.declared.cert.line.Line.TheVariants.{C2, C3}
use Rattle.mc_flow.specs.declared.defs.rules.Def.{Def}
use Rattle.mc_flow.specs.declared.graph.Flow.{Flow}
use Rattle.mc_flow.specs.Valid.{IsValid}
use Rattle.mc_state.specs.Known.{Test}
use Rattle.mc_pure.specs.Pure.{Kinds}
use Rattle.mc_state.specs.Fits.{IsBounded, IsWellMade, MayHaveKinds}
use Rattle.mc_state.specs.Laws.{UnknownIsBounded}
use Rattle.mc_state.specs.State.{State}
use Rattle.mc_joins.specs.Same.Same.{anew}
use Rattle.mc_kernel.specs.Branches.{Head, Path, AreCuts, entry_path, begins, roots, states_at}
use Rattle.mc_kernel.specs.Certificates.{AreHeads, IsLastPass, LastPassFindsFaults, WrittenHead, states_of}
use Rattle.mc_kernel.specs.Instances.{IsInstance}
use Rattle.mc_joins.specs.Parts.{Basis}
use Rattle.mc_kernel.specs.Reading.Documents.{IsMade}
use Rattle.mc_kernel.specs.Reading.Laws.{LinesMakeWellMade}
use Rattle.mc_joins.specs.Chains.Chains.{changes_some, over, IsPassLine, ReadsPass, ReadsPasses, last_pass}
use Rattle.mc_joins.specs.Same.Laws.{AnewIsBounded}
use Rattle.mc_joins.specs.Laws.{JoinsMakeWell}
use Rattle.mc_joins.specs.Chains.Laws.{FinalChainHasLastPass, FinalChainFindsFaults}
use Rattle.mc_joins.specs.Chains.Opened.{with_state_at, with_state_for}
use Rattle.mc_joins.proofs.ChainsLemmas.NewStates.{NewStatesAreMade, new_states}
use Rattle.mc_joins.proofs.ChainsLemmas.Stays.{pass_stays}

-- ---- the entry

none_fit : (kinds : Kinds) (vars : List VarInfo) → MayHaveKinds kinds (map (λ x. x.kind) vars) (replicate (length vars) None)
none_fit kinds [] = tt
none_fit kinds (x ∷ vars) = (tt, none_fit kinds vars)

entry_made : UnknownIsBounded → (flow : Flow) (defs : List Def) → IsMade flow defs (entry_path flow)
entry_made unknown flow defs = record {
  bounded = unknown (length flow.vars);
  atoms = tt;
  fits_defs = tt;
  fits_program = record { vars_fit = none_fit [] flow.vars; blocks_fit = tt };
}

-- ---- lists of states

module _ (P : Head → Type 0) where
  one_more : (b : Bool) (x h : Head) (heads more : List Head) → P x → P h → AllByRecursion P heads → AllByRecursion P more → AllByRecursion P (if b then x ∷ h ∷ heads else h ∷ more)
  one_more true x h heads more p q a m = (p, (q, a))
  one_more false x h heads more p q a m = (q, m)

  all_with : (p : PointId) (s : State) (heads : List Head) → P (p, s) → AllByRecursion P heads → AllByRecursion P (with_state_at p s heads)
  all_with p s [] x a = (x, tt)
  all_with p s (h ∷ heads) x a = one_more (nat_lt p.0 h.0.0) (p, s) h heads (with_state_at p s heads) x a.0 a.1 (all_with p s heads x a.1)

  one_or : (b : Bool) (x h : Head) (heads more : List Head) → P x → P h → AllByRecursion P heads → AllByRecursion P more → AllByRecursion P (if b then x ∷ heads else h ∷ more)
  one_or true x h heads more p q a m = (p, a)
  one_or false x h heads more p q a m = (q, m)

  either : (b : Bool) (h : Head) (heads more : List Head) → P h → AllByRecursion P heads → AllByRecursion P more → AllByRecursion P (if b then h ∷ heads else h ∷ more)
  either true h heads more q a m = (q, a)
  either false h heads more q a m = (q, m)

  all_for : (p : PointId) (j : ℕ) (s : State) (heads : List Head) → P (p, s) → AllByRecursion P heads → AllByRecursion P (with_state_for p j s heads)
  all_for p j s [] x a = tt
  all_for p zero s (h ∷ heads) x a = one_or (h.0.0 == p.0) (p, s) h heads (with_state_for p zero s heads) x a.0 a.1 (all_for p zero s heads x a.1)
  all_for p (suc j) s (h ∷ heads) x a =
      either (h.0.0 == p.0) h (with_state_for p j s heads) (with_state_for p (suc j) s heads) a.0 (all_for p j s heads x a.1) (all_for p (suc j) s heads x a.1)

module _ (Q : State → Type 0) where
  some_at : (b : Bool) (s : State) (states : List State) → Q s → AllByRecursion Q states → AllByRecursion Q (if b then s ∷ states else states)
  some_at true s states q a = (q, a)
  some_at false s states q a = a

  pub all_at : (p : PointId) (heads : List Head) → AllByRecursion (λ h. Q h.1) heads → AllByRecursion Q (states_at p heads)
  all_at p [] a = tt
  all_at p (h ∷ heads) a = some_at (h.0.0 == p.0) h.1 (states_at p heads) a.0 (all_at p heads a.1)

  one_of : (states : List State) (j : ℕ) (s : State) → AllByRecursion Q states → slice_get states j ≡ Some s → Q s
  one_of [] j s a e = absurd (cc e)
  one_of (t ∷ states) zero s a e = let same : t ≡ s = cc e in subst Q same a.0
  one_of (t ∷ states) (suc j) s a e = one_of states j s a.1 e

all_join : {X : Type 0} (P : X → Type 0) (xs ys : List X) → AllByRecursion P xs → AllByRecursion P ys → AllByRecursion P (xs ++ ys)
all_join P [] ys a b = b
all_join P (x ∷ xs) ys a b = (a.0, all_join P xs ys a.1 b)

-- ---- passes

module _ (made_lines : LinesMakeWellMade) (unknown : UnknownIsBounded) (flow : Flow) (defs : List Def) (valid : IsValid flow defs) (know : State → Test) (new : NewStatesAreMade know flow defs) (cuts : List PointId) where
  abbrev Made : State → Type 0
  Made s = IsWellMade defs flow.vars flow.structs.list s

  -- a state at a cut, well made
  abbrev Good : Head → Type 0
  Good h = Contains cuts h.0 × Made h.1

  abbrev basis : Basis
  basis = record { know = know; defs = defs }

  pub states_made : (heads : List Head) → AllByRecursion Good heads → AllByRecursion (λ (h : Head). Made h.1) heads
  states_made [] a = tt
  states_made (h ∷ heads) a = (a.0.1, states_made heads a.1)

  roots_are : (heads : List Head) → AllByRecursion Good heads → AllByRecursion (IsMade flow defs) (map (λ (h : Head). begins h.0 h.1) heads)
  roots_are [] a = tt
  roots_are (h ∷ heads) a = (a.0.1, roots_are heads a.1)

  pub roots_made : (heads : List Head) → AllByRecursion Good heads → AllByRecursion (IsMade flow defs) (roots flow heads)
  roots_made heads a = (entry_made unknown flow defs, roots_are heads a)

  pub line_keeps : (round : ℕ) (heads mid : List Head) (line : Line) (b : Path) (next : List Path) → AllByRecursion Good heads → IsMade flow defs b
      → IsPassLine flow basis round (over cuts heads) line b next mid → AllByRecursion (IsMade flow defs) next × AllByRecursion Good mid
  line_keeps round heads mid line b next good made i = at line i
    where
      plain : (l : Line) → IsInstance flow defs (over cuts heads) l b next → mid ≡ heads → AllByRecursion (IsMade flow defs) next × AllByRecursion Good mid
      plain l i same = (made_lines flow defs (over cuts heads) l b next valid made i, subst (AllByRecursion Good) (sym same) good)

      at : (l : Line) → IsPassLine flow basis round (over cuts heads) l b next mid → AllByRecursion (IsMade flow defs) next × AllByRecursion Good mid
      at (C2 tries) i = (
        subst (AllByRecursion (IsMade flow defs)) (sym i.ends) tt,
        subst (AllByRecursion Good) (sym i.gives) (all_with Good b.point (anew b.state) heads (i.may.cut.at_cut, new.anew_made b.state made) good),
      )
      at (C3 j steps) i =
          let left = one_of Made (states_at b.point heads) j i.left (all_at Made b.point heads (states_made heads good)) i.there in
          let result = new.join_made round i.left b.state steps i.result i.joins left made in (
            subst (AllByRecursion (IsMade flow defs)) (sym i.ends) tt,
            subst (AllByRecursion Good) (sym i.gives) (all_for Good b.point j i.result heads (i.may.cut.at_cut, result) good),
          )
      at l i = plain l i.0 i.1

  pub pass_keeps : (round : ℕ) (rules : List Line) (bs stuck : List Path) (heads after : List Head) → AllByRecursion Good heads → AllByRecursion (IsMade flow defs) bs
      → ReadsPass flow basis round cuts rules bs stuck heads after → AllByRecursion Good after
  pass_keeps round [] bs stuck heads after good made r = subst (AllByRecursion Good) (sym r.2) good
  pass_keeps round (line ∷ rules) [] stuck heads after good made r = absurd r
  pass_keeps round (line ∷ rules) (b ∷ bs) stuck heads after good made (next, mid, later, i, reads, e) =
      let kept = line_keeps round heads mid line b next good made.0 i in
      pass_keeps round rules (next ++ bs) later mid after kept.1 (all_join (IsMade flow defs) next bs kept.0 made.1) reads

  bounded : (heads : List Head) → AllByRecursion Good heads → AllByRecursion (λ (h : Head). IsBounded h.1) heads
  bounded [] a = tt
  bounded (h ∷ heads) a = (a.0.1.bounded, bounded heads a.1)

  at_cuts : (heads : List Head) → AllByRecursion Good heads → AllByRecursion (λ (h : Head). Contains cuts h.0) heads
  at_cuts [] a = tt
  at_cuts (h ∷ heads) a = (a.0.0, at_cuts heads a.1)

  last_of : AreCuts flow cuts → (round : ℕ) (passes : List (List Line)) (stuck : List Path) (heads after : List Head) → AllByRecursion Good heads
      → changes_some (last_pass passes) ≡ false → ReadsPasses flow basis cuts round passes stuck heads after
      → IsLastPass flow defs cuts after (last_pass passes) stuck
  last_of cuts_are round [] stuck heads after good none r = absurd r
  last_of cuts_are round (rules ∷ []) stuck heads after good none r =
      let stays = pass_stays flow basis cuts round rules (roots flow heads) stuck heads after none r in
      subst (λ (hs : List Head). IsLastPass flow defs cuts hs rules stuck) (sym stays.1)
      (record { cuts_are = cuts_are; at_cuts = at_cuts heads good; bounded = bounded heads good; reads = stays.0 })
  last_of cuts_are round (rules ∷ more ∷ passes) stuck heads after good none (changed, own, mid, pass, reads) =
      last_of cuts_are (suc round) (more ∷ passes) stuck mid after (pass_keeps round rules (roots flow heads) own heads mid good (roots_made heads good) pass) none reads

-- the states of written heads are at cuts, and well made
pub good_heads : (cuts : List PointId) (flow : Flow) (defs : List Def) (written : List WrittenHead) → AreHeads flow defs cuts written
    → AllByRecursion (λ (h : Head). Contains cuts h.0 × IsWellMade defs flow.vars flow.structs.list h.1) (states_of written)
good_heads cuts flow defs [] a = tt
good_heads cuts flow defs (h ∷ written) a = ((a.0.0, a.0.1.made), good_heads cuts flow defs written a.1)

pub has_last_pass : LinesMakeWellMade → UnknownIsBounded → AnewIsBounded → JoinsMakeWell → FinalChainHasLastPass
has_last_pass made_lines unknown anew_bounded joins know flow defs lines c valid knows final =
    last_of made_lines unknown flow defs valid know (new_states anew_bounded joins know flow defs knows) c.cuts c.cuts_are 1 c.passes c.stuck (states_of c.written) c.heads
    (good_heads c.cuts flow defs c.written c.written_are) final c.reads

pub finds_faults : LinesMakeWellMade → UnknownIsBounded → AnewIsBounded → JoinsMakeWell → LastPassFindsFaults → FinalChainFindsFaults
finds_faults made_lines unknown anew_bounded joins faults know flow defs lines c valid knows final =
    faults flow defs c.cuts c.heads (last_pass c.passes) c.stuck valid (has_last_pass made_lines unknown anew_bounded joins know flow defs lines c valid knows final)
