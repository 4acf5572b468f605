-- Branches at which the states of cuts may be changed.
use Rattle.std.proofs.Common.{◌≡◌, List, [], ◌∷◌, Bool, true, false, Option, Some, None, option_map, not, refl, sym, ◌∙◌, ap, subst}
use Rattle.std.specs.Prelude.{◌==◌, Ok, Err, option_and_then, if◌then◌else◌}
use Rattle.std.specs.List.{AllByRecursion}
use Rattle.mc_base.specs.declared.ids.PointId.{PointId}
use Rattle.mc_state.specs.Known.{Test, Tells, is_false}
use Rattle.mc_state.specs.Premises.{Judged, need, have, then_give}
use Rattle.mc_state.proofs.Numbered.{need_yes}
use Rattle.mc_state.specs.State.{State}
use Rattle.mc_kernel.specs.Branches.{Head, Path, states_at}
use Rattle.mc_kernel.specs.Readings.{first_branch, is_ruling}
use Rattle.mc_document.specs.Proof.Lines.{ending_with}
use Rattle.mc_document.specs.Proof.Stacks.{AreMade, HeadsAreMade}
use Rattle.mc_joins.specs.Chains.Judges.{may_change}
use Rattle.mc_joins.specs.Chains.Laws.{Made}
use Rattle.mc_judge.specs.declared.passes.passes.Passes.{Passes}
use Rattle.mc_judge.specs.Passes.Lines.{ByLores, IsReady, IsUnready, changed_to, changer, changing_at, setting_here}

-- ---- the first branch of a pass

abbrev pub first_of : Option (Path × List Path) → Option Path
first_of o = option_map (λ (x : Path × List Path). x.0) o

module _ (p : Passes) where
  abbrev may_be : Option (Path × List Path) → Option Path
  may_be o = option_and_then (λ (x : Path × List Path). if may_change (setting_here p) x.0 then Some x.0 else None) o

  changer_is : is_ruling p.proof.stage ≡ true → changer p ≡ may_be (first_branch p.proof.branches)
  changer_is e = rw e refl

  if_may : (b : Path) → may_change (setting_here p) b ≡ true → (if may_change (setting_here p) b then Some b else None) ≡ Some b
  if_may b e = rw e refl

  if_may_not : (b : Path) → may_change (setting_here p) b ≡ false → (if may_change (setting_here p) b then Some b else None) ≡ None
  if_may_not b e = rw e refl

  some_may : (o : Option (Path × List Path)) (b : Path) → Some b ≡ first_of o → may_change (setting_here p) b ≡ true → may_be o ≡ Some b
  some_may None b e may = absurd (cc e)
  some_may (Some x) b e may =
      let is : b ≡ x.0 = cc e in
      subst (λ (y : Path). (if may_change (setting_here p) y then Some y else None) ≡ Some b) is (if_may b may)

  some_may_not : (o : Option (Path × List Path)) (b : Path) → Some b ≡ first_of o → may_change (setting_here p) b ≡ false → may_be o ≡ None
  some_may_not None b e may = absurd (cc e)
  some_may_not (Some x) b e may =
      let is : b ≡ x.0 = cc e in
      subst (λ (y : Path). (if may_change (setting_here p) y then Some y else None) ≡ None) is (if_may_not b may)

  pub changer_some : (b : Path) → is_ruling p.proof.stage ≡ true → Some b ≡ first_of (first_branch p.proof.branches)
      → may_change (setting_here p) b ≡ true → changer p ≡ Some b
  changer_some b passing e may = changer_is passing ∙ some_may (first_branch p.proof.branches) b e may

  pub changer_none : (b : Path) → is_ruling p.proof.stage ≡ true → Some b ≡ first_of (first_branch p.proof.branches)
      → may_change (setting_here p) b ≡ false → changer p ≡ None
  changer_none b passing e may = changer_is passing ∙ some_may_not (first_branch p.proof.branches) b e may

  -- what is known where there is one
  pub record IsChanger (b : Path) : Type 0 where
    pub passing : is_ruling p.proof.stage ≡ true
    pub others : List Path
    pub first : p.proof.branches ≡ b ∷ others
    pub may : may_change (setting_here p) b ≡ true

  record IsMay (o : Option (Path × List Path)) (b : Path) : Type 0 where
    pub others : List Path
    pub is : o ≡ Some (b, others)
    pub may : may_change (setting_here p) b ≡ true

  may_of : (b x : Path) (may : Bool) → may_change (setting_here p) x ≡ may → (if may then Some x else None) ≡ Some b
      → (x ≡ b) × (may_change (setting_here p) x ≡ true)
  may_of b x true e is = (cc is, e)
  may_of b x false e is = absurd (cc is)

  may_from : (o : Option (Path × List Path)) (b : Path) → may_be o ≡ Some b → IsMay o b
  may_from None b e = absurd (cc e)
  may_from (Some x) b e =
      let both = may_of b x.0 (may_change (setting_here p) x.0) refl e in
      record {
        others = x.1;
        is = ap (λ (y : Path). Some (y, x.1)) both.0;
        may = subst (λ (y : Path). may_change (setting_here p) y ≡ true) both.0 both.1;
      }

  first_from : (bs : List Path) (b : Path) (others : List Path) → first_branch bs ≡ Some (b, others) → bs ≡ b ∷ others
  first_from [] b others e = absurd (cc e)
  first_from (x ∷ bs) b others e =
      let pair : (x, bs) ≡ (b, others) = cc e in
      ap (λ (y : Path × List Path). y.0 ∷ y.1) pair

  passing_from : (passing : Bool) (o : Option (Path × List Path)) (b : Path) → is_ruling p.proof.stage ≡ passing
      → (if passing then may_be o else None) ≡ Some b → (is_ruling p.proof.stage ≡ true) × (may_be o ≡ Some b)
  passing_from true o b e is = (e, is)
  passing_from false o b e is = absurd (cc is)

  pub changer_from : (b : Path) → changer p ≡ Some b → IsChanger b
  changer_from b e =
      let both = passing_from (is_ruling p.proof.stage) (first_branch p.proof.branches) b refl e in
      let may = may_from (first_branch p.proof.branches) b both.1 in
      record { passing = both.0; others = may.others; first = first_from p.proof.branches b may.others may.is; may = may.may }

  -- ---- a line at it

  module _ (b : Path) (others : List Path) (passing : is_ruling p.proof.stage ≡ true) (first : p.proof.branches ≡ b ∷ others) where
    pub changing_here : (judge : Path → Judged (List Head))
        → changing_at judge p ≡ then_give (λ heads. changed_to p (record p.proof { heads = heads; branches = others })) (judge b)
    changing_here judge =
        need_yes 1 (is_ruling p.proof.stage) _ passing
        ∙ ap (λ (bs : List Path). have 1 (first_branch bs) (λ (x : Path × List Path).
        then_give (λ heads. changed_to p (record p.proof { heads = heads; branches = x.1 })) (judge x.0))) first

    pub ending_here : (heads : Path → List Head) → ending_with heads p.proof ≡ Ok (record p.proof { heads = heads b; branches = others })
    ending_here heads =
        ap (λ (bs : List Path). have 1 (first_branch bs) (λ (x : Path × List Path). Ok (record p.proof { heads = heads x.0; branches = x.1 }))) first

  -- ---- where there is none

  abbrev give_first : (Path → Judged (List Head)) → Path × List Path → Judged Passes
  give_first judge x = then_give (λ heads. changed_to p (record p.proof { heads = heads; branches = x.1 })) (judge x.0)

  none_may : (x : Path × List Path) (rest : Judged (List Head)) (may : Bool) → may_change (setting_here p) x.0 ≡ may
      → (if may then Some x.0 else None) ≡ None
      → then_give (λ heads. changed_to p (record p.proof { heads = heads; branches = x.1 })) (need 1 may rest) ≡ Err 1
  none_may x rest true e is = absurd (cc is)
  none_may x rest false e is = refl

  none_first : (o : Option (Path × List Path)) (rest : Path → Judged (List Head)) → may_be o ≡ None
      → have 1 o (give_first (λ b. need 1 (may_change (setting_here p) b) (rest b))) ≡ Err 1
  none_first None rest e = refl
  none_first (Some x) rest e = none_may x (rest x.0) (may_change (setting_here p) x.0) refl e

  none_passing : (passing : Bool) (rest : Path → Judged (List Head)) → (if passing then may_be (first_branch p.proof.branches) else None) ≡ None
      → need 1 passing (have 1 (first_branch p.proof.branches) (give_first (λ b. need 1 (may_change (setting_here p) b) (rest b)))) ≡ Err 1
  none_passing true rest e = none_first (first_branch p.proof.branches) rest e
  none_passing false rest e = refl

  pub unready_one : changer p ≡ None → IsUnready p 1
  unready_one e rest k right =
      none_passing (is_ruling p.proof.stage) (λ b. need 2 (not (is_false (k.lines.know b.state))) (rest k b)) e

  -- ---- states

  pub states_made : (point : PointId) (heads : List Head) → HeadsAreMade p.proof.flow p.proof.defs heads
      → AllByRecursion (Made p.proof.flow p.proof.defs) (states_at point heads)
  states_made point [] made = tt
  states_made point (h ∷ heads) made = with_one (h.0.0 == point.0) (states_made point heads made.1)
    where
      with_one : (here : Bool) → AllByRecursion (Made p.proof.flow p.proof.defs) (states_at point heads)
          → AllByRecursion (Made p.proof.flow p.proof.defs) (if here then h.1 ∷ states_at point heads else states_at point heads)
      with_one true rest = (made.0, rest)
      with_one false rest = rest

  module _ (b : Path) (c : IsChanger b) (branches : AreMade p.proof.flow p.proof.defs p.proof.branches) where
    pub own_made : Made p.proof.flow p.proof.defs b.state
    own_made = (subst (λ (bs : List Path). AreMade p.proof.flow p.proof.defs bs) c.first branches).0

    told : (wrong : Bool) → ((know : Test) → Tells know b.state → wrong ≡ is_false know) → ByLores p (λ k. is_false (k.lines.know b.state) ≡ wrong)
    told wrong tells k right = sym (tells (k.lines.know b.state) (right.knows b.state own_made))

    pub is_ready : (wrong : Bool) (lefts : List State) → wrong ≡ false → ((know : Test) → Tells know b.state → wrong ≡ is_false know)
        → HeadsAreMade p.proof.flow p.proof.defs p.proof.heads → lefts ≡ states_at b.point p.proof.heads → IsReady p b lefts
    is_ready wrong lefts e tells heads are = record {
      passing = c.passing;
      others = c.others;
      first = c.first;
      may = c.may;
      consistent = λ k right. told wrong tells k right ∙ e;
      lefts_are = are;
      made = (own_made, subst (λ (ss : List State). AllByRecursion (Made p.proof.flow p.proof.defs) ss) (sym are) (states_made b.point p.proof.heads heads));
    }

    pub unready_two : (wrong : Bool) → wrong ≡ true → ((know : Test) → Tells know b.state → wrong ≡ is_false know) → IsUnready p 2
    unready_two wrong e tells rest k right =
        changing_here b c.others c.passing c.first (λ b. need 1 (may_change (setting_here p) b) (need 2 (not (is_false (k.lines.know b.state))) (rest k b)))
        ∙ ap (λ (j : Judged (List Head)). then_give (λ heads. changed_to p (record p.proof { heads = heads; branches = c.others })) j)
        (need_yes 1 (may_change (setting_here p) b) _ c.may
        ∙ ap (λ (x : Bool). need 2 (not x) (rest k b)) (told wrong tells k right ∙ e))
