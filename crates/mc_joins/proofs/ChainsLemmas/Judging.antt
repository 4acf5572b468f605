-- C2 and C3 are judged by their instances.
use Rattle.std.proofs.Common.{◌≡◌, ℕ, zero, suc, List, [], ◌∷◌, Bool, true, false, Option, Some, None, length, slice_get, refl, ap, sym, ◌∙◌, subst, eqb-true, eq-eqb}
use Rattle.std.specs.Prelude.{◌&&◌, ◌==◌, not, is_some, is_none, option_and_then, if◌then◌else◌, Ok}
use Rattle.std.specs.List.{AllByRecursion, AllZip, list_all}
use Rattle.mc_flow.specs.declared.defs.rules.Def.{Def}
use Rattle.mc_flow.specs.declared.graph.Flow.{Flow}
use Rattle.mc_state.specs.Known.{is_false}
use Rattle.mc_state.specs.Told.{FalseIsTold}
use Rattle.mc_state.specs.Lists.{all_both}
use Rattle.mc_state.specs.Premises.{Judged}
use Rattle.mc_state.proofs.Numbered.{need_ok, have_ok}
use Rattle.mc_state.specs.declared.line.JoinStep.{JoinStep}
use Rattle.mc_state.specs.Facts.{IsTidy, IsFalse}
use Rattle.mc_state.specs.State.{State}
use Rattle.mc_joins.specs.Same.Same.{AreSameUnder, anew}
use Rattle.mc_kernel.specs.Branches.{Head, Path, Setting, states_at}
use Rattle.mc_joins.specs.Joinings.{Joining, Pair, begun, next_pair}
use Rattle.mc_joins.specs.Laws.{JoinsAreDetermined}
use Rattle.mc_joins.specs.Parts.{Basis}
use Rattle.mc_joins.specs.Steps.{after_steps, is_stuck}
use Rattle.mc_joins.specs.Whole.{Joins, GetsStuck}
use Rattle.mc_joins.specs.Chains.Judges.{Lore, basis, may_change, whole_join, gets_stuck, opening_state, given_by, joining_state}
use Rattle.mc_joins.specs.Same.Laws.{AnewIsBounded}
use Rattle.mc_joins.specs.Laws.{JoinsMakeWell}
use Rattle.mc_joins.specs.Chains.Laws.{Made, IsRight, OpeningIsJudged, JoiningIsJudged}
use Rattle.mc_joins.proofs.ChainsLemmas.NewStates.{NewStatesAreMade, new_states}
use Rattle.mc_joins.specs.Chains.Opened.{OpensState, JoinsState, with_state_at, with_state_for}
use Rattle.mc_joins.proofs.ChainsLemmas.Places.{and_both, and_yes, not_yes, clash, may_from, may_to}

-- ---- prefixes and whole joins

kept : (b : Bool) (last : Joining) → is_some (if b then Some last else None) ≡ true → b ≡ true
kept true last e = refl
kept false last e = absurd (cc e)

module _ (w : Basis) (right left : State) (steps : List JoinStep) where
  stuck_from : gets_stuck w right left steps ≡ true → GetsStuck w left right steps
  stuck_from e = at (after_steps w (begun left right) steps) refl e
    where
      at : (o : Option Joining) → after_steps w (begun left right) steps ≡ o
          → is_some (option_and_then (λ last. if is_stuck w last then Some last else None) o) ≡ true → GetsStuck w left right steps
      at None is e = absurd (cc e)
      at (Some last) is e = record { last = last; reached = is; stuck = kept (is_stuck w last) last e }

  stuck_to : GetsStuck w left right steps → gets_stuck w right left steps ≡ true
  stuck_to g =
      ap (λ (o : Option Joining). is_some (option_and_then (λ last. if is_stuck w last then Some last else None) o)) g.reached
      ∙ ap (λ (b : Bool). is_some (if b then Some g.last else None)) g.stuck

  none_of : (o : Option Pair) (last other : Joining) → (if is_none o then Some last else None) ≡ Some other → (o ≡ None) × (last ≡ other)
  none_of None last other e = (refl, cc e)
  none_of (Some p) last other e = absurd (cc e)

  pub whole_from : (last : Joining) → whole_join w left right steps ≡ Some last → (after_steps w (begun left right) steps ≡ Some last) × (next_pair last ≡ None)
  whole_from last e = at (after_steps w (begun left right) steps) refl e
    where
      at : (o : Option Joining) → after_steps w (begun left right) steps ≡ o
          → option_and_then (λ last. if is_none (next_pair last) then Some last else None) o ≡ Some last
          → (after_steps w (begun left right) steps ≡ Some last) × (next_pair last ≡ None)
      at None is e = absurd (cc e)
      at (Some x) is e =
          let both = none_of (next_pair x) x last e in
          (is ∙ ap (λ (j : Joining). Some j) both.1, ap next_pair (sym both.1) ∙ both.0)

  whole_to : (last : Joining) → after_steps w (begun left right) steps ≡ Some last → next_pair last ≡ None → whole_join w left right steps ≡ Some last
  whole_to last reached done =
      ap (option_and_then (λ (x : Joining). if is_none (next_pair x) then Some x else None)) reached
      ∙ ap (λ (o : Option Pair). if is_none o then Some last else None) done

-- a list of steps for each state
tries_from : (w : Basis) (right : State) (lefts : List State) (tries : List (List JoinStep)) → all_both (gets_stuck w right) lefts tries ≡ true
    → AllZip (λ left steps. GetsStuck w left right steps) lefts tries
tries_from w right [] [] e = tt
tries_from w right [] (t ∷ tries) e = absurd (cc e)
tries_from w right (s ∷ lefts) [] e = absurd (cc e)
tries_from w right (s ∷ lefts) (t ∷ tries) e =
    let both = and_both (gets_stuck w right s t) (all_both (gets_stuck w right) lefts tries) e in
    (stuck_from w right s t both.0, tries_from w right lefts tries both.1)

tries_to : (w : Basis) (right : State) (lefts : List State) (tries : List (List JoinStep)) → AllZip (λ left steps. GetsStuck w left right steps) lefts tries
    → all_both (gets_stuck w right) lefts tries ≡ true
tries_to w right [] [] a = refl
tries_to w right [] (t ∷ tries) a = absurd a
tries_to w right (s ∷ lefts) [] a = absurd a
tries_to w right (s ∷ lefts) (t ∷ tries) a =
    and_yes (gets_stuck w right s t) (all_both (gets_stuck w right) lefts tries) (stuck_to w right s t a.0) (tries_to w right lefts tries a.1)

pub one_of : (Q : State → Type 0) (states : List State) (j : ℕ) (s : State) → AllByRecursion Q states → slice_get states j ≡ Some s → Q s
one_of Q [] j s a e = absurd (cc e)
one_of Q (t ∷ states) zero s a e = let same : t ≡ s = cc e in subst Q same a.0
one_of Q (t ∷ states) (suc j) s a e = one_of Q states j s a.1 e

module _ (told : FalseIsTold) (k : Lore) (flow : Flow) (defs : List Def) (right : IsRight k flow defs) where
  pub all_from : (states : List State) → AllByRecursion (Made flow defs) states → list_all k.tidy states ≡ true → AllByRecursion IsTidy states
  all_from [] made e = tt
  all_from (s ∷ states) made e =
      let both = and_both (k.tidy s) (list_all k.tidy states) e in ((right.tidy s made.0).0 both.0, all_from states made.1 both.1)

  pub all_to : (states : List State) → AllByRecursion (Made flow defs) states → AllByRecursion IsTidy states → list_all k.tidy states ≡ true
  all_to [] made a = refl
  all_to (s ∷ states) made a = and_yes (k.tidy s) (list_all k.tidy states) ((right.tidy s made.0).1 a.0) (all_to states made.1 a.1)

  module _ (g : Setting) (b : Path) (made : Made flow defs b.state) (lefts_made : AllByRecursion (Made flow defs) (states_at b.point g.heads)) where
    abbrev lefts : List State
    lefts = states_at b.point g.heads

    abbrev wrong : Bool
    wrong = is_false (k.lines.know b.state)

    sound_from : not wrong ≡ true → IsFalse b.state → ⊥
    sound_from e f = clash wrong e ((told (k.lines.know b.state) b.state (right.knows b.state made)).1 f)

    sound_to : (IsFalse b.state → ⊥) → not wrong ≡ true
    sound_to never = not_yes wrong (λ e. never ((told (k.lines.know b.state) b.state (right.knows b.state made)).0 e))

    opening_from : (tries : List (List JoinStep)) (next : List Head) → opening_state k defs g tries b ≡ Ok next → OpensState (basis k defs) g tries b [] next
    opening_from tries next e =
        let one = need_ok 1 (may_change g b) _ next e in
        let two = need_ok 2 (not wrong) _ next one.1 in
        let three = need_ok 3 (length tries == length lefts) _ next two.1 in
        let four = need_ok 4 (k.tidy b.state && list_all k.tidy lefts) _ next three.1 in
        let five = need_ok 5 (all_both (gets_stuck (basis k defs) b.state) lefts tries) _ next four.1 in
        let tidy = and_both (k.tidy b.state) (list_all k.tidy lefts) four.0 in
        let is : ◌≡◌ {A = List Head} (with_state_at b.point (anew b.state) g.heads) next = cc five.1 in
        record {
          may = may_from g b one.0;
          consistent = sound_from two.0;
          count = eqb-true (length tries) (length lefts) three.0;
          tidy = record { own = (right.tidy b.state made).0 tidy.0; others = all_from lefts lefts_made tidy.1 };
          stuck = tries_from (basis k defs) b.state lefts tries five.0;
          ends = refl;
          gives = sym is;
        }

    opening_to : (tries : List (List JoinStep)) (next : List Head) → OpensState (basis k defs) g tries b [] next → opening_state k defs g tries b ≡ Ok next
    opening_to tries next o =
        let one : may_change g b ≡ true = may_to g b o.may in
        let two : not wrong ≡ true = sound_to o.consistent in
        let three : (length tries == length lefts) ≡ true = eq-eqb (length tries) (length lefts) o.count in
        let four : (k.tidy b.state && list_all k.tidy lefts) ≡ true =
        and_yes (k.tidy b.state) (list_all k.tidy lefts) ((right.tidy b.state made).1 o.tidy.own) (all_to lefts lefts_made o.tidy.others) in
        let five : all_both (gets_stuck (basis k defs) b.state) lefts tries ≡ true = tries_to (basis k defs) b.state lefts tries o.stuck in
        let gives : ◌≡◌ {A = Judged (List Head)} (Ok (with_state_at b.point (anew b.state) g.heads)) (Ok next) = ap (λ n. Ok n) (sym o.gives) in
        rw one (rw two (rw three (rw four (rw five gives))))

  module _ (determined : JoinsAreDetermined) (new : NewStatesAreMade k.lines.know flow defs) (round : ℕ) (g : Setting) (j : ℕ) (steps : List JoinStep) (b : Path) (made : Made flow defs b.state) (lefts_made : AllByRecursion (Made flow defs) (states_at b.point g.heads)) where
    abbrev result : State → Joining → State
    result left last = given_by k round left b.state last

    whole_of : (left : State) (last : Joining) → Made flow defs left → IsTidy left → IsTidy b.state
        → after_steps (basis k defs) (begun left b.state) steps ≡ Some last → next_pair last ≡ None → Joins (basis k defs) round flow.thresholds left b.state steps (result left last)
    whole_of left last left_made left_tidy own_tidy reached done = record {
      last = last;
      reached = reached;
      done = done;
      gives = refl;
      atoms = right.joint round left b.state steps last
          (record { left_made = left_made; right_made = made; left_tidy = left_tidy; right_tidy = own_tidy; reached = reached; done = done });
    }

    abbrev is_wrong : Bool
    is_wrong = is_false (k.lines.know b.state)

    joining_from : (next : List Head) → joining_state k defs round g j steps b ≡ Ok next → JoinsState (basis k defs) round flow.thresholds g j steps b [] next
    joining_from next e =
        let one = need_ok 1 (may_change g b) _ next e in
        let two = need_ok 2 (not is_wrong) _ next one.1 in
        let three = have_ok 3 (slice_get (states_at b.point g.heads) j) _ next two.1 in
        let left = three.0 in
        let four = need_ok 4 (k.tidy b.state && k.tidy left) _ next three.2 in
        let five = have_ok 5 (whole_join (basis k defs) left b.state steps) _ next four.1 in
        let last = five.0 in
        let six = need_ok 6 (not (k.same (result left last) left)) _ next five.2 in
        let is : ◌≡◌ {A = List Head} (with_state_for b.point j (result left last) g.heads) next = cc six.1 in
        let whole = whole_from (basis k defs) b.state left steps last five.1 in
        let left_made = one_of (Made flow defs) (states_at b.point g.heads) j left lefts_made three.1 in
        let tidy = and_both (k.tidy b.state) (k.tidy left) four.0 in
        let own_tidy = (right.tidy b.state made).0 tidy.0 in
        let left_tidy = (right.tidy left left_made).0 tidy.1 in
        let joins = whole_of left last left_made left_tidy own_tidy whole.0 whole.1 in
        let result_made = new.join_made round left b.state steps (result left last) joins left_made made in
        record {
          may = may_from g b one.0;
          consistent = sound_from g b made lefts_made two.0;
          left = left;
          there = three.1;
          tidy = record { own = own_tidy; others = (left_tidy, tt) };
          result = result left last;
          joins = joins;
          changes = λ f back same. clash (k.same (result left last) left) six.0 ((right.same (result left last) left result_made left_made).1 (f, back, same));
          ends = refl;
          gives = sym is;
        }

    joining_to : (next : List Head) → JoinsState (basis k defs) round flow.thresholds g j steps b [] next → joining_state k defs round g j steps b ≡ Ok next
    joining_to next i =
        let left = i.left in
        let last = i.joins.last in
        let left_made = one_of (Made flow defs) (states_at b.point g.heads) j left lefts_made i.there in
        let joins = whole_of left last left_made i.tidy.others.0 i.tidy.own i.joins.reached i.joins.done in
        let same : i.result ≡ result left last = determined (basis k defs) round flow.thresholds left b.state steps i.result (result left last) i.joins joins in
        let result_made = new.join_made round left b.state steps (result left last) joins left_made made in
        let one : may_change g b ≡ true = may_to g b i.may in
        let two : not is_wrong ≡ true = sound_to g b made lefts_made i.consistent in
        let three : slice_get (states_at b.point g.heads) j ≡ Some left = i.there in
        let four : (k.tidy b.state && k.tidy left) ≡ true =
        and_yes (k.tidy b.state) (k.tidy left) ((right.tidy b.state made).1 i.tidy.own) ((right.tidy left left_made).1 i.tidy.others.0) in
        let five : whole_join (basis k defs) left b.state steps ≡ Some last = whole_to (basis k defs) b.state left steps last i.joins.reached i.joins.done in
        let six : not (k.same (result left last) left) ≡ true =
        not_yes (k.same (result left last) left)
        (λ e. let x = (right.same (result left last) left result_made left_made).0 e in i.changes x.0 x.1 (subst (λ (r : State). AreSameUnder x.0 x.1 r left) (sym same) x.2)) in
        let gives : ◌≡◌ {A = Judged (List Head)} (Ok (with_state_for b.point j (result left last) g.heads)) (Ok next) =
        ap (λ (n : List Head). Ok n) (ap (λ (r : State). with_state_for b.point j r g.heads) (sym same) ∙ sym i.gives) in
        rw one (rw two (rw three (rw four (rw five (rw six gives)))))

pub opening_judged : FalseIsTold → OpeningIsJudged
opening_judged told k flow defs g tries b right made lefts_made next =
    (opening_from told k flow defs right g b made lefts_made tries next, opening_to told k flow defs right g b made lefts_made tries next)

pub joining_judged : FalseIsTold → JoinsAreDetermined → AnewIsBounded → JoinsMakeWell → JoiningIsJudged
joining_judged told determined anew_bounded joins k flow defs round g j steps b right made lefts_made next =
    let new = new_states anew_bounded joins k.lines.know flow defs right.knows in (
      joining_from told k flow defs right determined new round g j steps b made lefts_made next,
      joining_to told k flow defs right determined new round g j steps b made lefts_made next,
    )
