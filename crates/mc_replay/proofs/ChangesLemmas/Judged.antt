-- C2 and C3 are judged by their premises, one after the other.
use Rattle.std.proofs.Common.{◌≡◌, ◌↔◌, ℕ, ℤ, List, ◌∷◌, Bool, true, false, Option, Some, None, length, slice_get, refl, ap, sym, ◌∙◌, subst, Ok, Err}
use Rattle.std.specs.Prelude.{◌&&◌, ◌==◌, not}
use Rattle.std.specs.List.{AllByRecursion, list_all}
use Rattle.mc_flow.specs.declared.defs.rules.Def.{Def}
use Rattle.mc_flow.specs.declared.graph.Flow.{Flow}
use Rattle.mc_state.specs.declared.line.JoinStep.{JoinStep}
use Rattle.mc_state.specs.Facts.{IsTidy}
use Rattle.mc_state.specs.Fits.{IsWellMade}
use Rattle.mc_state.specs.Lists.{all_both}
use Rattle.mc_state.specs.Premises.{need, have}
use Rattle.mc_state.specs.State.{State}
use Rattle.mc_state.specs.Told.{FalseIsTold}
use Rattle.mc_state.proofs.Lists.{all_both as both_hold, all_at, all_map}
use Rattle.mc_joins.specs.Alike.Named.{AllNamed, AreSameBySome}
use Rattle.mc_joins.specs.Joinings.{Joining}
use Rattle.mc_joins.specs.Laws.{JoinsAreDetermined, JoinsMakeWell, JoinsNameAll, MadeAreTold}
use Rattle.mc_joins.specs.Same.Same.{anew}
use Rattle.mc_joins.specs.Whole.{Joins}
use Rattle.mc_joins.specs.Chains.Judges.{Lore, basis, whole_join, gets_stuck, given_by}
use Rattle.mc_joins.specs.Chains.Laws.{Made, IsRight}
use Rattle.mc_joins.proofs.ChainsLemmas.Judging.{all_from, all_to}
use Rattle.mc_replay.specs.Changes.{AreMadeFor, ForTestsOf, IsJoined, opened_state, rejoined_state}
use Rattle.mc_replay.specs.Whole.{AreOfOne, MayJoin, TellsOf}
use Rattle.mc_replay.proofs.ChangesLemmas.Replays.{whole_done}

-- two tests of one fact
same_test : {P : Type 0} (b c : Bool) → ((b ≡ true) ↔ P) → ((c ≡ true) ↔ P) → c ≡ b
same_test true true h g = refl
same_test true false h g = g.1 (h.0 refl)
same_test false true h g = sym (h.1 (g.0 refl))
same_test false false h g = refl

-- ---- what is known of the states

module _ (defs : List Def) (own : State) (lefts : List State) (all : AreMadeFor defs (own ∷ lefts)) where
  abbrev Made_here : State → Type 0
  Made_here s = IsWellMade defs all.vars all.structs s

  abbrev two : (left : State) → Made_here left → AreOfOne defs left own
  two left made = record { vars = all.vars; structs = all.structs; left_made = made; right_made = all.made.0 }

  module _ (own_tidy : IsTidy own) where
    may : (left : State) → Made_here left → IsTidy left → MayJoin defs left own
    may left made tidy = record { program = two left made; left_consistent = tidy.consistent; right_consistent = own_tidy.consistent }

    pub may_all : AllByRecursion IsTidy lefts → AllByRecursion (λ (left : State). MayJoin defs left own) lefts
    may_all tidy = both_hold Made_here IsTidy (λ (left : State). MayJoin defs left own) may lefts all.made.1 tidy

    pub may_one : (j : ℕ) (left : State) → slice_get lefts j ≡ Some left → IsTidy left → MayJoin defs left own
    may_one j left there tidy = may left (all_at Made_here lefts j left there all.made.1) tidy

  -- what a whole join gives has no node that is not named
  pub join_named : MadeAreTold → JoinsNameAll → (round : ℕ) (thresholds : List ℤ) (j : ℕ) (left : State) (steps : List JoinStep) (t : State) → slice_get lefts j ≡ Some left
      → ForTestsOf defs left own (IsJoined round thresholds left own steps (Some t)) → AllNamed t
  join_named told names round thresholds j left steps t there joins =
      let left_made = all_at Made_here lefts j left there all.made.1 in
      let know = told defs all.vars all.structs in
      names defs all.vars all.structs know.0 round thresholds left own steps t know.1 left_made all.made.0
      (joins (record { know = know.0; defs = defs }) refl (record { program = two left left_made; knows = know.1 }))

-- ---- premises

module _ (k : Lore) (flow : Flow) (defs : List Def) (right : IsRight k flow defs) (own : State) (lefts : List State) (made : AllByRecursion (Made flow defs) (own ∷ lefts)) where
  tells : (left : State) → Made flow defs left → TellsOf (basis k defs) left own
  tells left m = record { program = record { vars = flow.vars; structs = flow.structs.list; left_made = m; right_made = made.0 }; knows = right.knows }

  pub all_tell : AllByRecursion (λ (left : State). TellsOf (basis k defs) left own) lefts
  all_tell = all_map (Made flow defs) (λ (left : State). TellsOf (basis k defs) left own) tells lefts made.1

  abbrev both_tidy : Bool
  both_tidy = k.tidy own && list_all k.tidy lefts

  own_tidy : IsTidy own → k.tidy own ≡ true
  own_tidy t = (right.tidy own made.0).1 t

  opened_by : (tries : List (List JoinStep)) (b c d : Bool) → (length tries == length lefts) ≡ b → both_tidy ≡ c → all_both (gets_stuck (basis k defs) own) lefts tries ≡ d
      → opened_state k defs lefts tries own ≡ need 3 b (need 4 c (need 5 d (Ok (anew own))))
  opened_by tries b c d e f g = rw (e, f, g) refl

  module _ (told : FalseIsTold) (tries : List (List JoinStep)) (count : (length tries == length lefts) ≡ true) (tidy : IsTidy own) where
    lefts_tidy : (b : Bool) → ((b ≡ true) ↔ AllByRecursion IsTidy lefts) → both_tidy ≡ b
    lefts_tidy b is =
        ap (λ (x : Bool). x && list_all k.tidy lefts) (own_tidy tidy)
        ∙ same_test b (list_all k.tidy lefts) is (all_from told k flow defs right lefts made.1, all_to told k flow defs right lefts made.1)

    pub opened_untidy : (b : Bool) → ((b ≡ true) ↔ AllByRecursion IsTidy lefts) → b ≡ false → Err 4 ≡ opened_state k defs lefts tries own
    opened_untidy b is no' = sym (opened_by tries true false _ count (lefts_tidy b is ∙ no') refl)

    module _ (tidies : AllByRecursion IsTidy lefts) where
      all_tidy : both_tidy ≡ true
      all_tidy = lefts_tidy true (λ e. tidies, λ a. refl)

      pub opened_free : false ≡ all_both (gets_stuck (basis k defs) own) lefts tries → Err 5 ≡ opened_state k defs lefts tries own
      opened_free free = sym (opened_by tries true true false count all_tidy (sym free))

      pub opened_all : (s : State) → s ≡ anew own → true ≡ all_both (gets_stuck (basis k defs) own) lefts tries → Ok s ≡ opened_state k defs lefts tries own
      opened_all s is stuck = ap (λ (x : State). Ok x) is ∙ sym (opened_by tries true true true count all_tidy (sym stuck))

  -- ---- C3

  module _ (round : ℕ) (thresholds : List ℤ) (as_flow : flow.thresholds ≡ thresholds) (j : ℕ) (left : State) (there : slice_get lefts j ≡ Some left) (steps : List JoinStep) (tidy : IsTidy own) where
    left_made : Made flow defs left
    left_made = all_at (Made flow defs) lefts j left there made.1

    abbrev given : Joining → State
    given last = given_by k round left own last

    two_tidy : (b : Bool) → ((b ≡ true) ↔ IsTidy left) → (k.tidy own && k.tidy left) ≡ b
    two_tidy b is = ap (λ (x : Bool). x && k.tidy left) (own_tidy tidy) ∙ same_test b (k.tidy left) is (right.tidy left left_made)

    rejoined_by : (b : Bool) (o : Option Joining) → (k.tidy own && k.tidy left) ≡ b → whole_join (basis k defs) left own steps ≡ o
        → rejoined_state k defs round lefts j steps own ≡ need 4 b (have 5 o (λ last. need 6 (not (k.same (given last) left)) (Ok (given last))))
    rejoined_by b o e f = rw (there, e, f) refl

    pub rejoined_untidy : (b : Bool) → ((b ≡ true) ↔ IsTidy left) → b ≡ false → Err 4 ≡ rejoined_state k defs round lefts j steps own
    rejoined_untidy b is no' = sym (rejoined_by false _ (two_tidy b is ∙ no') refl)

    module _ (tidy_too : IsTidy left) where
      both_are : (k.tidy own && k.tidy left) ≡ true
      both_are = two_tidy true (λ e. tidy_too, λ a. refl)

      pub two_tell : TellsOf (basis k defs) left own
      two_tell = tells left left_made

      pub rejoined_none : whole_join (basis k defs) left own steps ≡ None → Err 5 ≡ rejoined_state k defs round lefts j steps own
      rejoined_none none = sym (rejoined_by true None both_are none)

      module _ (determined : JoinsAreDetermined) (make : JoinsMakeWell) (t : State) (joins : Joins (basis k defs) round thresholds left own steps t) where
        joins_flow : Joins (basis k defs) round flow.thresholds left own steps t
        joins_flow = subst (λ (z : List ℤ). Joins (basis k defs) round z left own steps t) (sym as_flow) joins

        given_joins : Joins (basis k defs) round flow.thresholds left own steps (given joins.last)
        given_joins = record {
          last = joins.last;
          reached = joins.reached;
          done = joins.done;
          gives = refl;
          atoms = right.joint round left own steps joins.last
              (record { left_made = left_made; right_made = made.0; left_tidy = tidy_too; right_tidy = tidy; reached = joins.reached; done = joins.done });
        }

        given_is : t ≡ given joins.last
        given_is = determined (basis k defs) round flow.thresholds left own steps t (given joins.last) joins_flow given_joins

        same_is : (b : Bool) → ((b ≡ true) ↔ AreSameBySome t left) → k.same (given joins.last) left ≡ b
        same_is b is =
            ap (λ (x : State). k.same x left) (sym given_is)
            ∙ same_test b (k.same t left) is
            (right.same t left (make defs flow.vars flow.structs.list k.lines.know round thresholds left own steps t right.knows left_made made.0 joins) left_made)

        rejoined_last : (b : Bool) → ((b ≡ true) ↔ AreSameBySome t left) → rejoined_state k defs round lefts j steps own ≡ need 6 (not b) (Ok (given joins.last))
        rejoined_last b is =
            rejoined_by true (Some joins.last) both_are (whole_done (basis k defs) left own steps joins.last joins.reached joins.done)
            ∙ ap (λ (x : Bool). need 6 (not x) (Ok (given joins.last))) (same_is b is)

        pub rejoined_same : (b : Bool) → ((b ≡ true) ↔ AreSameBySome t left) → b ≡ true → Err 6 ≡ rejoined_state k defs round lefts j steps own
        rejoined_same b is yes' = sym (rejoined_last b is ∙ ap (λ (x : Bool). need 6 (not x) (Ok (given joins.last))) yes')

        pub rejoined_all : (b : Bool) → ((b ≡ true) ↔ AreSameBySome t left) → b ≡ false → Ok t ≡ rejoined_state k defs round lefts j steps own
        rejoined_all b is no' = ap (λ (x : State). Ok x) given_is ∙ sym (rejoined_last b is ∙ ap (λ (x : Bool). need 6 (not x) (Ok (given joins.last))) no')
