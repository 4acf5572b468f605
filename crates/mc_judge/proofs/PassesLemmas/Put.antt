-- What lines put among the states of cuts.
use Rattle.std.proofs.Common.{◌≡◌, ℕ, ℤ, List, Bool, Option, Some, None, length, insert, slice_get, not, refl, sym, ◌∙◌, ap, subst}
use Rattle.std.specs.Prelude.{◌&&◌, ◌==◌, Result, Ok, Err, slice_set}
use Rattle.std.specs.List.{AllByRecursion, list_all}
use Rattle.mc_flow.specs.declared.defs.rules.Def.{Def}
use Rattle.mc_flow.specs.Valid.{IsValid}
use Rattle.mc_state.specs.Known.{is_false}
use Rattle.mc_state.specs.Lists.{all_both}
use Rattle.mc_state.specs.Premises.{Judged, have, need, then_give}
use Rattle.mc_state.proofs.Numbered.{have_ok, need_ok, need_yes}
use Rattle.mc_state.specs.declared.line.JoinStep.{JoinStep}
use Rattle.mc_state.specs.State.{State}
use Rattle.mc_kernel.specs.Branches.{Head, Path, states_at}
use Rattle.mc_kernel.specs.Readings.{first_branch, is_ruling}
use Rattle.mc_document.specs.declared.proof.fault.ApplyFault.{ApplyFault}
use Rattle.mc_document.specs.declared.proof.fault.ApplyFault.TheVariants.{Premise, NoMemory}
use Rattle.mc_document.specs.Proof.Lines.{ComesTo, ending_with}
use Rattle.mc_document.specs.Proof.Positions.{Position}
use Rattle.mc_joins.specs.Same.Same.{anew}
use Rattle.mc_joins.specs.Laws.{JoinsMakeWell}
use Rattle.mc_joins.specs.Whole.{Joins}
use Rattle.mc_joins.specs.Chains.Judges.{Lore, basis, gets_stuck, given_by, joining_state, may_change, opening_state, whole_join}
use Rattle.mc_joins.specs.Chains.Laws.{AnewIsMade, IsRight, Made}
use Rattle.mc_joins.specs.Chains.Opened.{with_state_at, with_state_for}
use Rattle.mc_joins.specs.Chains.ReadLaws.{LoresAreThere}
use Rattle.mc_joins.proofs.ChainsLemmas.Judging.{one_of, whole_from}
use Rattle.mc_joins.proofs.ChainsLemmas.Places.{and_both}
use Rattle.mc_replay.specs.Changes.{AreMadeFor, IsOpened, IsRejoined, JoiningIsParted, OpeningIsParted, opened_state, rejoined_state}
use Rattle.mc_judge.specs.declared.passes.passes.Passes.{Passes}
use Rattle.mc_judge.specs.Passes.Lines.{ByLores, IsPut, IsReady, IsUnready, changed_to, changing_at, joining_at, opening_at, setting_here}
use Rattle.mc_judge.specs.Passes.Places.{IsPlaceAt}
use Rattle.mc_judge.proofs.PassesLemmas.Ready.{changing_here, ending_here}

-- the state that takes the place of one of a cut's, if the cut has it
abbrev rejoined_from : Lore → List Def → ℕ → ℕ → List JoinStep → State → Option State → Judged State
rejoined_from k defs round j steps own o =
    have 3 o (λ left.
    need 4 (k.tidy own && k.tidy left)
    (have 5 (whole_join (basis k defs) left own steps) (λ last.
    need 6 (not (k.same (given_by k round left own last) left))
    (Ok (given_by k round left own last)))))

-- what is judged alike changes the chain alike
changing_same : (judge other : Path → Judged (List Head)) → ((b : Path) → judge b ≡ other b) → (p : Passes) → changing_at judge p ≡ changing_at other p
changing_same judge other same p = ap (λ (o : Judged Passes). need 1 (is_ruling p.proof.stage) o) (at (first_branch p.proof.branches))
  where
    at : (o : Option (Path × List Path))
        → have 1 o (λ b. then_give (λ heads. changed_to p (record p.proof { heads = heads; branches = b.1 })) (judge b.0))
        ≡ have 1 o (λ b. then_give (λ heads. changed_to p (record p.proof { heads = heads; branches = b.1 })) (other b.0))
    at None = refl
    at (Some b) = ap (λ (j : Judged (List Head)). then_give (λ heads. changed_to p (record p.proof { heads = heads; branches = b.1 })) j) (same b.0)

module _ (p : Passes) (b : Path) (lefts : List State) (r : IsReady p b lefts) where
  abbrev to_heads : List Head → Passes
  to_heads heads = changed_to p (record p.proof { heads = heads; branches = r.others })

  -- what is judged after the first two premises
  judged_here : (k : Lore) → IsRight k p.proof.flow p.proof.defs → (judge : Path → Judged (List Head)) (rest : Judged (List Head))
      → judge b ≡ need 1 (may_change (setting_here p) b) (need 2 (not (is_false (k.lines.know b.state))) rest)
      → changing_at judge p ≡ then_give to_heads rest
  judged_here k right judge rest e =
      changing_here p b r.others r.passing r.first judge
      ∙ ap (then_give to_heads)
      (e ∙ need_yes 1 (may_change (setting_here p) b) _ r.may ∙ ap (λ (x : Bool). need 2 (not x) rest) (r.consistent k right))

  -- ---- C2

  module _ (parted : OpeningIsParted) (tries : List (List JoinStep)) where
    opening_here : (k : Lore) → IsRight k p.proof.flow p.proof.defs
        → opening_at k tries p
        ≡ then_give to_heads (then_give (λ s. with_state_at b.point s p.proof.heads) (opened_state k p.proof.defs lefts tries b.state))
    opening_here k right =
        judged_here k right (opening_state k p.proof.defs (setting_here p) tries)
        (then_give (λ s. with_state_at b.point s p.proof.heads) (opened_state k p.proof.defs (states_at b.point p.proof.heads) tries b.state))
        (parted k p.proof.defs (setting_here p) tries b)
        ∙ ap (λ (ss : List State). then_give to_heads (then_give (λ s. with_state_at b.point s p.proof.heads) (opened_state k p.proof.defs ss tries b.state)))
        (sym r.lefts_are)

    pub opened_put : (place : ℕ) (s : State) → IsOpened p.proof.defs lefts tries b.state (Ok s) → IsPlaceAt p.proof.heads b.point place
        → IsPut insert (λ k. opening_at k tries p) p (Ok (place, s))
    opened_put place s opened at k right =
        opening_here k right
        ∙ ap (λ (j : Judged State). then_give to_heads (then_give (λ s. with_state_at b.point s p.proof.heads) j)) (sym (opened k p.proof.flow right r.made))
        ∙ ap (λ (heads : List Head). Ok (to_heads heads)) (at.puts s)
        ∙ sym (ap (then_give (changed_to p)) (ending_here p b r.others r.passing r.first (λ b. insert p.proof.heads place (b.point, s))))

    pub opened_unmet : (n : ℕ) → IsOpened p.proof.defs lefts tries b.state (Err n) → ByLores p (λ k. opening_at k tries p ≡ Err n)
    opened_unmet n opened k right =
        opening_here k right
        ∙ ap (λ (j : Judged State). then_give to_heads (then_give (λ s. with_state_at b.point s p.proof.heads) j)) (sym (opened k p.proof.flow right r.made))

  pub opened_made : (tries : List (List JoinStep)) → LoresAreThere → AnewIsMade → IsValid p.proof.flow p.proof.defs → (s : State)
      → IsOpened p.proof.defs lefts tries b.state (Ok s) → Made p.proof.flow p.proof.defs s
  opened_made tries there anew_made valid s opened =
      let k = (there p.proof.flow p.proof.defs valid).0 in
      let given = opened k p.proof.flow (there p.proof.flow p.proof.defs valid).1 r.made in
      let three = need_ok 3 (length tries == length lefts) _ s (sym given) in
      let four = need_ok 4 (k.tidy b.state && list_all k.tidy lefts) _ s three.1 in
      let five = need_ok 5 (all_both (gets_stuck (basis k p.proof.defs) b.state) lefts tries) _ s four.1 in
      let is : anew b.state ≡ s = cc five.1 in
      subst (λ (t : State). Made p.proof.flow p.proof.defs t) is (anew_made p.proof.flow p.proof.defs b.state r.made.0)

  -- ---- C3

  module _ (parted : JoiningIsParted) (j : ℕ) (steps : List JoinStep) where
    joining_here : (k : Lore) → IsRight k p.proof.flow p.proof.defs
        → joining_at k j steps p
        ≡ then_give to_heads (then_give (λ s. with_state_for b.point j s p.proof.heads) (rejoined_state k p.proof.defs p.round lefts j steps b.state))
    joining_here k right =
        judged_here k right (joining_state k p.proof.defs p.round (setting_here p) j steps)
        (then_give (λ s. with_state_for b.point j s p.proof.heads)
        (rejoined_state k p.proof.defs p.round (states_at b.point p.proof.heads) j steps b.state))
        (parted k p.proof.defs p.round (setting_here p) j steps b)
        ∙ ap (λ (ss : List State). then_give to_heads (then_give (λ s. with_state_for b.point j s p.proof.heads)
        (rejoined_state k p.proof.defs p.round ss j steps b.state)))
        (sym r.lefts_are)

    pub rejoined_put : (thresholds : List ℤ) (place : ℕ) (s : State) → thresholds ≡ p.proof.flow.thresholds
        → IsRejoined p.proof.defs p.round thresholds lefts j steps b.state (Ok s)
        → ((s : State) → with_state_for b.point j s p.proof.heads ≡ slice_set p.proof.heads place (b.point, s))
        → IsPut slice_set (λ k. joining_at k j steps p) p (Ok (place, s))
    rejoined_put thresholds place s e rejoined puts k right =
        joining_here k right
        ∙ ap (λ (x : Judged State). then_give to_heads (then_give (λ s. with_state_for b.point j s p.proof.heads) x))
        (sym (rejoined k p.proof.flow right (sym e) r.made))
        ∙ ap (λ (heads : List Head). Ok (to_heads heads)) (puts s)
        ∙ sym (ap (then_give (changed_to p)) (ending_here p b r.others r.passing r.first (λ b. slice_set p.proof.heads place (b.point, s))))

    pub rejoined_unmet : (thresholds : List ℤ) (n : ℕ) → thresholds ≡ p.proof.flow.thresholds
        → IsRejoined p.proof.defs p.round thresholds lefts j steps b.state (Err n) → ByLores p (λ k. joining_at k j steps p ≡ Err n)
    rejoined_unmet thresholds n e rejoined k right =
        joining_here k right
        ∙ ap (λ (x : Judged State). then_give to_heads (then_give (λ s. with_state_for b.point j s p.proof.heads) x))
        (sym (rejoined k p.proof.flow right (sym e) r.made))

    -- there is no state of this number
    pub rejoined_nowhere : slice_get (states_at b.point p.proof.heads) j ≡ None → ByLores p (λ k. joining_at k j steps p ≡ Err 3)
    rejoined_nowhere e k right =
        joining_here k right
        ∙ ap (λ (o : Option State). then_give to_heads (then_give (λ s. with_state_for b.point j s p.proof.heads)
        (rejoined_from k p.proof.defs p.round j steps b.state o))) (ap (λ (ss : List State). slice_get ss j) r.lefts_are ∙ e)

  pub rejoined_made : (j : ℕ) (steps : List JoinStep) (thresholds : List ℤ) → LoresAreThere → JoinsMakeWell → IsValid p.proof.flow p.proof.defs → (s : State)
      → thresholds ≡ p.proof.flow.thresholds → IsRejoined p.proof.defs p.round thresholds lefts j steps b.state (Ok s) → Made p.proof.flow p.proof.defs s
  rejoined_made j steps thresholds there joins valid s e rejoined =
      let k = (there p.proof.flow p.proof.defs valid).0 in
      let right : IsRight k p.proof.flow p.proof.defs = (there p.proof.flow p.proof.defs valid).1 in
      let given = rejoined k p.proof.flow right (sym e) r.made in
      let three = have_ok 3 (slice_get lefts j) _ s (sym given) in
      let left = three.0 in
      let four = need_ok 4 (k.tidy b.state && k.tidy left) _ s three.2 in
      let five = have_ok 5 (whole_join (basis k p.proof.defs) left b.state steps) _ s four.1 in
      let last = five.0 in
      let six = need_ok 6 (not (k.same (given_by k p.round left b.state last) left)) _ s five.2 in
      let is : given_by k p.round left b.state last ≡ s = cc six.1 in
      let whole = whole_from (basis k p.proof.defs) b.state left steps last five.1 in
      let left_made = one_of (Made p.proof.flow p.proof.defs) lefts j left r.made.1 three.1 in
      let tidy = and_both (k.tidy b.state) (k.tidy left) four.0 in
      let own_tidy = (right.tidy b.state r.made.0).0 tidy.0 in
      let left_tidy = (right.tidy left left_made).0 tidy.1 in
      let joined : Joins (basis k p.proof.defs) p.round p.proof.flow.thresholds left b.state steps (given_by k p.round left b.state last) =
      record {
        last = last;
        reached = whole.0;
        done = whole.1;
        gives = refl;
        atoms = right.joint p.round left b.state steps last
            (record { left_made = left_made; right_made = r.made.0; left_tidy = left_tidy; right_tidy = own_tidy; reached = whole.0; done = whole.1 });
      } in
      subst (λ (t : State). Made p.proof.flow p.proof.defs t) is
      (joins p.proof.defs p.proof.flow.vars p.proof.flow.structs.list k.lines.know p.round p.proof.flow.thresholds left b.state steps
      (given_by k p.round left b.state last) right.knows left_made r.made.0 joined)

-- ---- the chain with what is put

module _ (p : Passes) (put : List Head → ℕ → Head → List Head) (judged : Lore → Judged Passes) where
  -- a fault before it
  pub none_put : (fault : ApplyFault) → IsPut put judged p (Err fault) → ByLores p (λ k. ComesTo (judged k) p p (Err fault))
  none_put (Premise n) told k right = (told k right, refl)
  none_put NoMemory told k right = tt

  module _ (place : ℕ) (s : State) (told : IsPut put judged p (Ok (place, s))) where
    abbrev ended : Judged Position
    ended = ending_with (λ b. put p.proof.heads place (b.point, s)) p.proof

    pub put_comes : (new : Position) → ComesTo ended p.proof new (Ok tt) → ByLores p (λ k. ComesTo (judged k) p (changed_to p new) (Ok tt))
    put_comes new comes k right = told k right ∙ ap (then_give (changed_to p)) comes

    pub put_not : (new : Position) (fault : ApplyFault) → ComesTo ended p.proof new (Err fault)
        → ByLores p (λ k. ComesTo (judged k) p (record p { proof = new }) (Err fault))
    put_not new (Premise n) comes k right =
        (told k right ∙ ap (then_give (changed_to p)) comes.0, ap (λ (q : Position). record p { proof = q }) comes.1)
    put_not new NoMemory comes k right = tt

-- ---- where the first two premises do not hold

module _ (p : Passes) where
  -- the other premises of C2
  abbrev rest_of_opening : List (List JoinStep) → Lore → Path → Judged (List Head)
  rest_of_opening tries k b =
      then_give (λ s. with_state_at b.point s p.proof.heads) (opened_state k p.proof.defs (states_at b.point p.proof.heads) tries b.state)

  -- and of C3
  abbrev rest_of_joining : ℕ → List JoinStep → Lore → Path → Judged (List Head)
  rest_of_joining j steps k b =
      then_give (λ s. with_state_for b.point j s p.proof.heads)
      (rejoined_state k p.proof.defs p.round (states_at b.point p.proof.heads) j steps b.state)

  unready_as : (n : ℕ) (judge : Lore → Path → Judged (List Head)) (rest : Lore → Path → Judged (List Head))
      → ((k : Lore) (b : Path) → judge k b ≡ need 1 (may_change (setting_here p) b) (need 2 (not (is_false (k.lines.know b.state))) (rest k b)))
      → IsUnready p n → ByLores p (λ k. changing_at (judge k) p ≡ Err n)
  unready_as n judge rest same unready k right = changing_same (judge k)
      (λ b. need 1 (may_change (setting_here p) b) (need 2 (not (is_false (k.lines.know b.state))) (rest k b))) (same k) p ∙ unready rest k right

  pub opening_unready : OpeningIsParted → (tries : List (List JoinStep)) (fault : ApplyFault)
      → ((n : ℕ) → fault ≡ Premise n → IsUnready p n) → IsPut insert (λ k. opening_at k tries p) p (Err fault)
  opening_unready parted tries (Premise n) unready =
      unready_as n (λ k b. opening_state k p.proof.defs (setting_here p) tries b) (rest_of_opening tries)
      (λ k b. parted k p.proof.defs (setting_here p) tries b) (unready n refl)
  opening_unready parted tries NoMemory unready = tt

  pub joining_unready : JoiningIsParted → (j : ℕ) (steps : List JoinStep) (fault : ApplyFault)
      → ((n : ℕ) → fault ≡ Premise n → IsUnready p n) → IsPut slice_set (λ k. joining_at k j steps p) p (Err fault)
  joining_unready parted j steps (Premise n) unready =
      unready_as n (λ k b. joining_state k p.proof.defs p.round (setting_here p) j steps b) (rest_of_joining j steps)
      (λ k b. parted k p.proof.defs p.round (setting_here p) j steps b) (unready n refl)
  joining_unready parted j steps NoMemory unready = tt

-- ---- the same of equal parts

pub opened_as : (lefts : List State) (own : State) (d defs : List Def) (t tries : List (List JoinStep)) (a answer : Result State ℕ)
    → d ≡ defs → t ≡ tries → a ≡ answer → IsOpened d lefts t own a → IsOpened defs lefts tries own answer
opened_as lefts own d defs t tries a answer e f g opened =
    subst (λ (ds : List Def). IsOpened ds lefts tries own answer) e
    (subst (λ (ts : List (List JoinStep)). IsOpened d lefts ts own answer) f (subst (λ (x : Result State ℕ). IsOpened d lefts t own x) g opened))

pub rejoined_as : (round j : ℕ) (thresholds : List ℤ) (lefts : List State) (own : State) (d defs : List Def) (t steps : List JoinStep)
    (a answer : Result State ℕ) → d ≡ defs → t ≡ steps → a ≡ answer → IsRejoined d round thresholds lefts j t own a
    → IsRejoined defs round thresholds lefts j steps own answer
rejoined_as round j thresholds lefts own d defs t steps a answer e f g rejoined =
    subst (λ (ds : List Def). IsRejoined ds round thresholds lefts j steps own answer) e
    (subst (λ (ts : List JoinStep). IsRejoined d round thresholds lefts j ts own answer) f
    (subst (λ (x : Result State ℕ). IsRejoined d round thresholds lefts j t own x) g rejoined))

-- states that are well made for a flow graph are so for its variables and structs
pub made_for : (p : Passes) (states : List State) (d : List Def) → d ≡ p.proof.defs → AllByRecursion (Made p.proof.flow p.proof.defs) states
    → AreMadeFor d states
made_for p states d e made =
    subst (λ (ds : List Def). AreMadeFor ds states) (sym e)
    (record { vars = p.proof.flow.vars; structs = p.proof.flow.structs.list; made = made })
