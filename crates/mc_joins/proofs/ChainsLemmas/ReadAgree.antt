-- Two right lores read each chain alike.
use Rattle.std.proofs.Common.{◌≡◌, ℕ, List, [], ◌∷◌, ◌++◌, Bool, true, false, not, Option, Some, None, length, slice_get, refl, ap, sym, subst, ◌∙◌}
use Rattle.std.specs.Prelude.{◌&&◌, ◌||◌, ◌==◌, Ok}
use Rattle.std.specs.List.{AllByRecursion, list_all}
use Rattle.mc_lines.specs.declared.cert.line.Line.{Line}
use Rattle.mc_lines.specs.declared.cert.line.Line.TheVariants as line
use Rattle.mc_flow.specs.declared.defs.rules.Def.{Def}
use Rattle.mc_flow.specs.declared.graph.Flow.{Flow}
use Rattle.mc_state.specs.Facts.{IsTidy}
use Rattle.mc_state.specs.Known.{Test, is_false}
use Rattle.mc_state.specs.Lists.{all_both}
use Rattle.mc_state.specs.Premises.{Judged, need, have, then_give}
use Rattle.mc_state.specs.State.{State}
use Rattle.mc_state.specs.declared.line.JoinStep.{JoinStep}
use Rattle.mc_state.specs.declared.raw_state.RawState.{RawState}
use Rattle.mc_state.specs.RawStates.{state_of}
use Rattle.mc_kernel.specs.Branches.{Head, Path, Setting, states_at}
use Rattle.mc_kernel.specs.Judges.{is_cut}
use Rattle.mc_kernel.specs.Reading.Documents.{IsMade}
use Rattle.mc_kernel.specs.Readings.{first_branch, marked}
use Rattle.mc_kernel.proofs.ReadingLemmas.Kept.{first_is}
use Rattle.mc_kernel.proofs.ReadingLemmas.LinesAgree.{lines_agree, one_knows, one_test}
use Rattle.mc_joins.specs.Joinings.{Joining, begun, next_pair}
use Rattle.mc_joins.specs.Laws.{JoinsAreDetermined}
use Rattle.mc_joins.specs.Parts.{Basis}
use Rattle.mc_joins.specs.Steps.{after_steps}
use Rattle.mc_joins.specs.Whole.{Joins}
use Rattle.mc_joins.specs.Chains.Chains.{changes, over}
use Rattle.mc_joins.specs.Chains.Judges.{Lore, Outcome, Reading, basis, begun_chain, gets_stuck, given_by, heading, is_passing, joining_state}
use Rattle.mc_joins.specs.Chains.Judges.{may_change, may_head, opening_state, passing_line, reading_line, reading_rule, stands_behind, whole_join}
use Rattle.mc_joins.specs.Chains.Laws.{IsRight, Made}
use Rattle.mc_joins.specs.Chains.Opened.{with_state_for}
use Rattle.mc_joins.specs.Chains.Read.{IsKept}
use Rattle.mc_joins.specs.Chains.ReadLaws.{ChainJudgesAgree}
use Rattle.mc_joins.proofs.ChainsLemmas.InOrder.{in_order_same}
use Rattle.mc_joins.proofs.ChainsLemmas.JoinsAgree.{StepLaws, and_same, prefix_same, tries_same, whole_same}
use Rattle.mc_joins.proofs.ChainsLemmas.Judging.{one_of, whole_from}
use Rattle.mc_joins.proofs.ChainsLemmas.NewStates.{NewStatesAreMade, new_states}
use Rattle.mc_joins.proofs.ChainsLemmas.Places.{and_both}
use Rattle.mc_joins.proofs.ChainsLemmas.ReadLines.{Laws, begun_chain_is_kept, line_kept, states_good}

-- ---- premises

module _ {A : Type 0} where
  -- tests that are one, and what comes where they hold
  need_same : (n : ℕ) (a b : Bool) (i j : Judged A) → a ≡ b → (a ≡ true → i ≡ j) → need n a i ≡ need n b j
  need_same n true true i j e f = f refl
  need_same n false false i j e f = refl
  need_same n true false i j e f = absurd (cc e)
  need_same n false true i j e f = absurd (cc e)

have_same : {W A : Type 0} (n : ℕ) (o p : Option W) (f h : W → Judged A) → o ≡ p → ((w : W) → o ≡ Some w → f w ≡ h w) → have n o f ≡ have n p h
have_same n None None f h e same = refl
have_same n (Some w) (Some v) f h e same = let is : w ≡ v = cc e in same w refl ∙ ap h is
have_same n None (Some v) f h e same = absurd (cc e)
have_same n (Some w) None f h e same = absurd (cc e)

module _ (steps : StepLaws) (joins : JoinsAreDetermined) (laws : Laws) (k other : Lore) (flow : Flow) (defs : List Def) (right : IsRight k flow defs)
    (right' : IsRight other flow defs) where
  new : NewStatesAreMade k.lines.know flow defs
  new = new_states laws.making.anew_bounded laws.making.joins k.lines.know flow defs right.knows

  knows : (s : State) → Made flow defs s → k.lines.know s ≡ other.lines.know s
  knows s made = one_knows (k.lines.know s) (other.lines.know s) s (right.knows s made) (right'.knows s made)

  consistent_same : (s : State) → Made flow defs s → not (is_false (k.lines.know s)) ≡ not (is_false (other.lines.know s))
  consistent_same s made = ap (λ (know : Test). not (is_false know)) (knows s made)

  tidy_same : (s : State) → Made flow defs s → k.tidy s ≡ other.tidy s
  tidy_same s made =
      one_test (k.tidy s) (other.tidy s) (λ e. (right'.tidy s made).1 ((right.tidy s made).0 e)) (λ e. (right.tidy s made).1 ((right'.tidy s made).0 e))

  all_tidy : (states : List State) → AllByRecursion (Made flow defs) states → list_all k.tidy states ≡ list_all other.tidy states
  all_tidy [] made = refl
  all_tidy (s ∷ states) made =
      and_same (k.tidy s) (other.tidy s) (list_all k.tidy states) (list_all other.tidy states) (tidy_same s made.0) (all_tidy states made.1)

  formed_same : (raw : RawState) → k.formed raw ≡ other.formed raw
  formed_same raw =
      one_test (k.formed raw) (other.formed raw) (λ e. (right'.formed raw).1 ((right.formed raw).0 e)) (λ e. (right.formed raw).1 ((right'.formed raw).0 e))

  abbrev w : Basis
  w = basis k defs

  abbrev v : Basis
  v = basis other defs

  -- a whole join of two tidy states gives one state
  module _ (round : ℕ) (left own : State) (list : List JoinStep) (last : Joining) (l_made : Made flow defs left) (o_made : Made flow defs own)
      (l_tidy : IsTidy left) (o_tidy : IsTidy own)
      (whole : whole_join w left own list ≡ Some last) where
    ends : (after_steps w (begun left own) list ≡ Some last) × (next_pair last ≡ None)
    ends = whole_from w own left list last whole

    one_join : Joins w round flow.thresholds left own list (given_by k round left own last)
    one_join = record {
      last = last;
      reached = ends.0;
      done = ends.1;
      gives = refl;
      atoms = right.joint round left own list last
          (record { left_made = l_made; right_made = o_made; left_tidy = l_tidy; right_tidy = o_tidy; reached = ends.0; done = ends.1 });
    }

    other_join : Joins w round flow.thresholds left own list (given_by other round left own last)
    other_join = record {
      last = last;
      reached = ends.0;
      done = ends.1;
      gives = refl;
      atoms = right'.joint round left own list last
          (record {
            left_made = l_made;
            right_made = o_made;
            left_tidy = l_tidy;
            right_tidy = o_tidy;
            reached = sym (prefix_same steps flow defs k.lines.know other.lines.know right.knows right'.knows left own list l_made o_made)
                ∙ ends.0;
            done = ends.1;
          });
    }

    given_same : given_by k round left own last ≡ given_by other round left own last
    given_same = joins w round flow.thresholds left own list (given_by k round left own last) (given_by other round left own last) one_join other_join

    given_made : Made flow defs (given_by k round left own last)
    given_made = new.join_made round left own list (given_by k round left own last) one_join l_made o_made

    test_same : k.same (given_by k round left own last) left ≡ other.same (given_by other round left own last) left
    test_same =
        let t = given_by k round left own last in
        one_test (k.same t left) (other.same t left) (λ e. (right'.same t left given_made l_made).1 ((right.same t left given_made l_made).0 e))
        (λ e. (right.same t left given_made l_made).1 ((right'.same t left given_made l_made).0 e))
        ∙ ap (λ (u : State). other.same u left) given_same

  -- ---- lines

  module _ (round : ℕ) (g : Setting) (b : Path) (made : IsMade flow defs b) (lefts_made : AllByRecursion (Made flow defs) (states_at b.point g.heads)) where
    abbrev lefts : List State
    lefts = states_at b.point g.heads

    opening_same : (tries : List (List JoinStep)) → opening_state k defs g tries b ≡ opening_state other defs g tries b
    opening_same tries =
        need_same 1 (may_change g b) (may_change g b) _ _ refl (λ e1.
        need_same 2 (not (is_false (k.lines.know b.state))) (not (is_false (other.lines.know b.state))) _ _ (consistent_same b.state made) (λ e2.
        need_same 3 (length tries == length lefts) (length tries == length lefts) _ _ refl (λ e3.
        need_same 4 (k.tidy b.state && list_all k.tidy lefts) (other.tidy b.state && list_all other.tidy lefts) _ _
        (and_same (k.tidy b.state) (other.tidy b.state) (list_all k.tidy lefts) (list_all other.tidy lefts) (tidy_same b.state made)
        (all_tidy lefts lefts_made)) (λ e4.
        need_same 5 (all_both (gets_stuck w b.state) lefts tries) (all_both (gets_stuck v b.state) lefts tries) _ _
        (tries_same steps flow defs k.lines.know other.lines.know right.knows right'.knows b.state lefts tries made lefts_made) (λ e5. refl)))))

    joining_same : (j : ℕ) (list : List JoinStep) → joining_state k defs round g j list b ≡ joining_state other defs round g j list b
    joining_same j list =
        need_same 1 (may_change g b) (may_change g b) _ _ refl (λ e1.
        need_same 2 (not (is_false (k.lines.know b.state))) (not (is_false (other.lines.know b.state))) _ _ (consistent_same b.state made) (λ e2.
        have_same 3 (slice_get lefts j) (slice_get lefts j) _ _ refl (λ left there.
        let l_made = one_of (Made flow defs) lefts j left lefts_made there in
        need_same 4 (k.tidy b.state && k.tidy left) (other.tidy b.state && other.tidy left) _ _
        (and_same (k.tidy b.state) (other.tidy b.state) (k.tidy left) (other.tidy left) (tidy_same b.state made) (tidy_same left l_made)) (λ e4.
        let tidy = and_both (k.tidy b.state) (k.tidy left) e4 in
        let o_tidy = (right.tidy b.state made).0 tidy.0 in
        let l_tidy = (right.tidy left l_made).0 tidy.1 in
        have_same 5 (whole_join w left b.state list) (whole_join v left b.state list) _ _
        (whole_same steps flow defs k.lines.know other.lines.know right.knows right'.knows left b.state list l_made made) (λ last whole.
        need_same 6 (not (k.same (given_by k round left b.state last) left)) (not (other.same (given_by other round left b.state last) left)) _ _
        (ap not (test_same round left b.state list last l_made made l_tidy o_tidy whole)) (λ e6.
        ap (λ (r : State). let heads : Judged (List Head) = Ok (with_state_for b.point j r g.heads) in heads)
        (given_same round left b.state list last l_made made l_tidy o_tidy whole)))))))

    pass_line_same : (l : Line) → passing_line k flow defs round g l b ≡ passing_line other flow defs round g l b
    pass_line_same (line.C2 tries) = ap (then_give (λ (heads : List Head). let o : Outcome = record { next = []; heads = heads } in o)) (opening_same tries)
    pass_line_same (line.C3 j list) = ap (then_give (λ (heads : List Head). let o : Outcome = record { next = []; heads = heads } in o)) (joining_same j list)
    pass_line_same l =
        ap (then_give (λ (next : List Path). let o : Outcome = record { next = next; heads = g.heads } in o))
        (lines_agree flow defs g b laws.judged k.lines other.lines (right.asked b made) (right'.asked b made) l)

  rule_same : (l : Line) (r : Reading) → IsKept flow defs r → reading_rule k flow defs l r ≡ reading_rule other flow defs l r
  rule_same l r kept =
      need_same 1 (is_passing r.stage) (is_passing r.stage) _ _ refl (λ e.
      have_same 1 (first_branch r.branches) (first_branch r.branches) _ _ refl (λ b first.
      let made = (subst (AllByRecursion (IsMade flow defs)) (first_is r.branches b first) kept.branches).0 in
      ap (then_give (λ (out : Outcome). let next : Reading = record r
      { heads = out.heads; branches = out.next ++ b.1; stuck = r.stuck ++ marked l b.0; changed = r.changed || changes l } in next))
      (pass_line_same r.round (over r.cuts r.heads) b.0 made (states_good laws k flow defs right r.cuts b.0.point r.heads kept.heads) l)))

  line_same : (l : Line) (r : Reading) → IsKept flow defs r → reading_line k flow defs l r ≡ reading_line other flow defs l r
  line_same (line.Header version form) r kept = refl
  line_same (line.Cut p) r kept = refl
  line_same (line.Head p raw) r kept =
      ap (λ (b : Bool). need 1 (may_head flow r r.stage)
      (need 3 (is_cut r.cuts p && stands_behind r.heads p) (need 4 b (Ok (record r { stage = heading; heads = r.heads ++ (p, state_of raw) ∷ [] })))))
      (formed_same raw)
  line_same line.Pass r kept = refl
  line_same line.End r kept = refl
  line_same l r kept = rule_same l r kept

pub chain_judges_agree : StepLaws → JoinsAreDetermined → Laws → ChainJudgesAgree
chain_judges_agree steps joins laws k other flow defs lines valid right right' =
    in_order_same (reading_line k flow defs) (reading_line other flow defs) (IsKept flow defs) (line_same steps joins laws k other flow defs right right')
    (λ l r next kept e. line_kept laws k flow defs right valid l r next kept e) 2 lines begun_chain (begun_chain_is_kept flow defs)
