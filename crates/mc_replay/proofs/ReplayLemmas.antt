-- Steps one after the other.
use Rattle.std.proofs.Common.{◌≡◌, ◌<◌, ◌≤◌, ◌+◌, ◌++◌, ℕ, zero, suc, ℤ, List, [], ◌∷◌, Bool, true, false, Option, Some, None, Result, Ok, Err, IfOk, drop, get_or, length, take, refl, sym, ap, subst, ◌∙◌, arith}
use Rattle.std.specs.Prelude.{if◌then◌else◌, option_and_then}
use Rattle.std.proofs.lemmas.List.{take_more, drop_more}
use Rattle.mc_flow.specs.declared.defs.rules.Def.{Def}
use Rattle.mc_state.specs.declared.line.JoinStep.{JoinStep}
use Rattle.mc_state.specs.State.{State}
use Rattle.mc_joins.specs.Joinings.{Joining, begun}
use Rattle.mc_joins.specs.Laws.{MadeAreTold}
use Rattle.mc_joins.specs.Parts.{Basis}
use Rattle.mc_joins.specs.Steps.{after_step, after_steps}
use Rattle.mc_replay.specs.declared.answers.Replayed.{Replayed}
use Rattle.mc_replay.specs.declared.answers.Replayed.TheVariants.{Done, Open, Wrong}
use Rattle.mc_replay.specs.declared.joining.Joining.{Joining as Kept}
use Rattle.mc_replay.specs.Good.{AreGood}
use Rattle.mc_replay.specs.Joined.{seen}
use Rattle.mc_replay.specs.Named.{IsGood, TellsFrom}
use Rattle.mc_replay.specs.Replayed.{IsAnswer, IsReplay, IsWrong}
use Rattle.mc_replay.specs.Steps.{ComesTo, ForTests, TellsBoth}
use Rattle.mc_replay.specs.Whole.{IsReached, MayJoin, TellsOf}

-- ---- the beginning

pub both_good : (defs : List Def) (left right : State) (j : Kept) → MayJoin defs left right → j.left.state ≡ left → j.right.state ≡ right → AreGood j
both_good defs left right j m l r = record {
  left = subst IsGood (sym l) (record { made = (defs, m.program.vars, m.program.structs, m.program.left_made); consistent = m.left_consistent });
  right = subst IsGood (sym r) (record { made = (defs, m.program.vars, m.program.structs, m.program.right_made); consistent = m.right_consistent });
}

pub both_told : (w : Basis) (left right : State) (j : Kept) → TellsOf w left right → j.left.state ≡ left → j.right.state ≡ right → TellsBoth w j
both_told w left right j t l r = record {
  left = subst (TellsFrom w) (sym l) (record { vars = t.program.vars; structs = t.program.structs; knows = t.knows; made = t.program.left_made });
  right = subst (TellsFrom w) (sym r) (record { vars = t.program.vars; structs = t.program.structs; knows = t.knows; made = t.program.right_made });
}

-- ---- one step more

some_join : {x y : Joining} → Some x ≡ Some y → x ≡ y
some_join e = cc

no_join : {x : Joining} → None ≡ Some x → ⊥
no_join e = cc

steps_push : (w : Basis) (steps : List JoinStep) (step : JoinStep) (j next last : Joining) → after_steps w j steps ≡ Some next → after_step w next step ≡ Some last → after_steps w j (steps ++ step ∷ []) ≡ Some last
steps_push w [] step j next last e f = ap (λ (o : Option Joining). option_and_then (λ n. after_steps w n []) o) (subst (λ (x : Joining). after_step w x step ≡ Some last) (sym (some_join e)) f)
steps_push w (s ∷ steps) step j next last e f = at (after_step w j s) (λ n h. steps_push w steps step n next last h f) e
  where
    at : (o : Option Joining) → ((n : Joining) → after_steps w n steps ≡ Some next → after_steps w n (steps ++ step ∷ []) ≡ Some last) → option_and_then (λ n. after_steps w n steps) o ≡ Some next
        → option_and_then (λ n. after_steps w n (steps ++ step ∷ [])) o ≡ Some last
    at None g e = absurd (no_join e)
    at (Some n) g e = g n e

-- where the steps so far lead
abbrev pub LeadsTo : Basis → State → State → List JoinStep → Kept → Type 0
LeadsTo w left right steps j = (after_steps w (begun left right) steps ≡ Some (seen j)) × TellsBoth w j

module _ (w : Basis) (left right : State) (steps : List JoinStep) (i : ℕ) (d : JoinStep) (less : i < length steps) (old new : Kept) where
  pub leads_on : (done : Bool) → done ≡ true → ComesTo w new done (after_step w (seen old) (get_or steps i d)) → LeadsTo w left right (take i steps) old → LeadsTo w left right (take (i + 1) steps) new
  leads_on done is to h = (
    ap (λ (z : List JoinStep). after_steps w (begun left right) z) (take_more steps i d less)
        ∙ steps_push w (take i steps) (get_or steps i d) (begun left right) (seen old) (seen new) h.0 (to.joins ∙ ap (λ (b : Bool). if b then Some (seen new) else None) is),
    to.tells,
  )

  pub stops_here : (done : Bool) → done ≡ false → ComesTo w new done (after_step w (seen old) (get_or steps i d)) → LeadsTo w left right (take i steps) old → IsWrong w left right steps (i + 1)
  stops_here done is to h =
      let long : length (take i steps) ≡ i = long_take steps i less in
      record {
        before = take i steps;
        step = get_or steps i d;
        after = drop (i + 1) steps;
        steps_are = sym (apart steps i) ∙ ap (λ (z : List JoinStep). take i steps ++ z) (drop_more steps i d less);
        number_is = omega arith;
        last = seen old;
        reached = h.0;
        refused = to.joins ∙ ap (λ (b : Bool). if b then Some (seen new) else None) is;
      }
    where
      long_take : (xs : List JoinStep) (n : ℕ) → n < length xs → length (take n xs) ≡ n
      long_take [] n l = absurd (omega arith)
      long_take (x ∷ xs) zero l = refl
      long_take (x ∷ xs) (suc n) l = ap suc (long_take xs n (omega arith))

      apart : (xs : List JoinStep) (n : ℕ) → take n xs ++ drop n xs ≡ xs
      apart [] zero = refl
      apart [] (suc n) = refl
      apart (x ∷ xs) zero = refl
      apart (x ∷ xs) (suc n) = ap (λ (z : List JoinStep). x ∷ z) (apart xs n)

-- ---- the end

take_all : (xs : List JoinStep) (n : ℕ) → length xs ≤ n → take n xs ≡ xs
take_all [] zero l = refl
take_all [] (suc n) l = refl
take_all (x ∷ xs) zero l = absurd (omega arith)
take_all (x ∷ xs) (suc n) l = ap (λ (z : List JoinStep). x ∷ z) (take_all xs n (omega arith))

module _ (defs : List Def) (left right : State) (states : MayJoin defs left right) (steps : List JoinStep) (i : ℕ) (all : length steps ≤ i) (j : Kept)
    (leads : (w : Basis) → w.defs ≡ defs → TellsOf w left right → LeadsTo w left right (take i steps) j) where
  leads_all : (w : Basis) → w.defs ≡ defs → TellsOf w left right → LeadsTo w left right steps j
  leads_all w d t = subst (λ (z : List JoinStep). LeadsTo w left right z j) (take_all steps i all) (leads w d t)

  pub is_reached : MadeAreTold → IsReached left right (seen j)
  is_reached tests =
      let test = tests defs states.program.vars states.program.structs in
      let basis : Basis = record { know = test.0; defs = defs } in
      let tells : TellsOf basis left right = record { program = states.program; knows = test.1 } in
      record {
        w = basis;
        tells = tells;
        left_consistent = states.left_consistent;
        right_consistent = states.right_consistent;
        steps = steps;
        leads = (leads_all basis refl tells).0;
      }

  module _ (round : ℕ) (thresholds : List ℤ) where
    replay_of : (w : Basis) (r : Replayed) → after_steps w (begun left right) steps ≡ Some (seen j) → IsAnswer w round thresholds left right (seen j) r → IsReplay w round thresholds left right steps r
    replay_of w (Done t) e a = record { last = seen j; reached = e; done = a.0; gives = a.1; atoms = a.2 }
    replay_of w (Open pairs stuck) e a = record { last = seen j; reached = e; more = a.0; pairs_are = a.1; stuck_is = a.2 }
    replay_of w (Wrong number) e a = absurd a

    pub replayed : {E : Type 0} (r : Result Replayed E) → IfOk r (λ answer. ForTests defs j (λ w. IsAnswer w round thresholds left right (seen j) answer))
        → IfOk r (λ answer. (w : Basis) → w.defs ≡ defs → TellsOf w left right → IsReplay w round thresholds left right steps answer)
    replayed (Ok answer) h = λ w d t. let l = leads_all w d t in replay_of w answer l.0 (h w d l.1)
    replayed (Err e) h = h
