-- Steps of joins are judged alike by whatever tells what is entailed, and so are chains.
use Rattle.std.proofs.Common.{◌≡◌, ◌∷◌, ◌++◌, ℕ, suc, List, [], Bool, Option, Some, None, refl, ap, sym, subst, ◌∙◌}
use Rattle.std.specs.Prelude.{◌&&◌, Contains, is_none, is_some, option_and_then, if◌then◌else◌}
use Rattle.std.specs.List.{AllByRecursion, AllZip}
use Rattle.mc_base.specs.declared.ids.PointId.{PointId}
use Rattle.mc_lines.specs.declared.cert.line.Line.{Line}
use Rattle.mc_lines.specs.declared.cert.line.Line.TheVariants as line
use Rattle.mc_flow.specs.declared.defs.rules.Def.{Def}
use Rattle.mc_flow.specs.declared.graph.Flow.{Flow}
use Rattle.mc_flow.specs.Valid.{IsValid}
use Rattle.mc_state.specs.Known.{Test}
use Rattle.mc_state.specs.Lists.{all_both}
use Rattle.mc_state.specs.State.{State}
use Rattle.mc_state.specs.declared.line.JoinStep.{JoinStep}
use Rattle.mc_kernel.specs.Branches.{Head, Path, roots, states_at}
use Rattle.mc_kernel.specs.Certificates.{states_of}
use Rattle.mc_kernel.specs.Reading.Documents.{IsMade}
use Rattle.mc_kernel.proofs.ReadingLemmas.Lists.{all_join}
use Rattle.mc_kernel.proofs.ReadingLemmas.LinesAgree.{one_test}
use Rattle.mc_joins.specs.Joinings.{Joining, begun, next_pair}
use Rattle.mc_joins.specs.Laws.{PrefixesAreDetermined, StepsAreDetermined, StepsKeepMade, StuckIsEvery}
use Rattle.mc_joins.specs.Parts.{Basis}
use Rattle.mc_joins.specs.Steps.{after_step, after_steps, is_stuck}
use Rattle.mc_joins.specs.Whole.{GetsStuck}
use Rattle.mc_joins.specs.Chains.Chains.{IsPassLine, KnowsStates, ReadsPass, ReadsPasses, over}
use Rattle.mc_joins.specs.Chains.Judges.{gets_stuck, whole_join}
use Rattle.mc_joins.specs.Chains.Laws.{Made}
use Rattle.mc_joins.specs.Chains.ReadLaws.{LegalChainsAreOne}
use Rattle.mc_joins.proofs.ChainsLemmas.Final.{all_at, good_heads, line_keeps, pass_keeps, roots_made, states_made}
use Rattle.mc_joins.proofs.ChainsLemmas.Judging.{one_of}
use Rattle.mc_joins.proofs.ChainsLemmas.NewStates.{MakingLaws, NewStatesAreMade, new_states}

-- what is used of steps of joins
pub record StepLaws : Type 0 where
  pub step : StepsAreDetermined
  pub keep : StepsKeepMade
  pub prefixes : PrefixesAreDetermined
  pub stuck : StuckIsEvery

pub and_same : (a b c d : Bool) → a ≡ b → c ≡ d → (a && c) ≡ (b && d)
and_same a b c d e f = cc (e, f)

module _ (steps : StepLaws) (flow : Flow) (defs : List Def) (know other : State → Test)
    (knows : KnowsStates flow defs know) (knows' : KnowsStates flow defs other) where
  abbrev w : Basis
  w = record { know = know; defs = defs }

  abbrev v : Basis
  v = record { know = other; defs = defs }

  pub prefix_same : (left right : State) (list : List JoinStep) → Made flow defs left → Made flow defs right
      → after_steps w (begun left right) list ≡ after_steps v (begun left right) list
  prefix_same l r list l_made r_made =
      steps.prefixes defs flow.vars flow.structs.list know other l r list knows knows' l_made r_made

  -- both states of a join stay well made
  abbrev pub BothMade : Joining → Type 0
  BothMade j = Made flow defs j.left.state × Made flow defs j.right.state

  pub steps_made : (list : List JoinStep) (j last : Joining) → BothMade j → after_steps w j list ≡ Some last → BothMade last
  steps_made [] j last made e = let is : j ≡ last = cc e in subst BothMade is made
  steps_made (step ∷ list) j last made e =
      steps_from (after_step w j step) list last
      (λ next is. steps.keep defs flow.vars flow.structs.list know j step next knows made.0 made.1 is)
      (λ next both e'. steps_made list next last both e') e
    where
      steps_from : (o : Option Joining) (list : List JoinStep) (last : Joining) → ((next : Joining) → o ≡ Some next → BothMade next)
          → ((next : Joining) → BothMade next → after_steps w next list ≡ Some last → BothMade last)
          → option_and_then (λ next. after_steps w next list) o ≡ Some last → BothMade last
      steps_from None list last one rest e = absurd (cc e)
      steps_from (Some next) list last one rest e = rest next (one next refl) e

  pub stuck_same : (j : Joining) → BothMade j → is_stuck w j ≡ is_stuck v j
  stuck_same j made =
      one_test (is_stuck w j) (is_stuck v j)
      (λ e. let s = (steps.stuck w j).0 e in (steps.stuck v j).1 (s.0, λ step. sym (same step) ∙ s.1 step))
      (λ e. let s = (steps.stuck v j).0 e in (steps.stuck w j).1 (s.0, λ step. same step ∙ s.1 step))
    where
      same : (step : JoinStep) → after_step w j step ≡ after_step v j step
      same step = steps.step defs flow.vars flow.structs.list know other j step knows knows' made.0 made.1

  gets_same : (own left : State) (list : List JoinStep) → Made flow defs left → Made flow defs own → gets_stuck w own left list ≡ gets_stuck v own left list
  gets_same own left list l_made o_made =
      at (after_steps w (begun left own) list) refl
      ∙ ap (λ (o : Option Joining). is_some (option_and_then (λ last. if is_stuck v last then Some last else None) o)) (prefix_same left own list l_made o_made)
    where
      at : (o : Option Joining) → after_steps w (begun left own) list ≡ o
          → is_some (option_and_then (λ last. if is_stuck w last then Some last else None) o) ≡ is_some
          (option_and_then (λ last. if is_stuck v last then Some last else None) o)
      at None is = refl
      at (Some last) is =
          ap (λ (b : Bool). is_some (if b then Some last else None)) (stuck_same last (steps_made list (begun left own) last (l_made, o_made) is))

  pub tries_same : (own : State) (lefts : List State) (tries : List (List JoinStep)) → Made flow defs own → AllByRecursion (Made flow defs) lefts
      → all_both (gets_stuck w own) lefts tries ≡ all_both (gets_stuck v own) lefts tries
  tries_same own [] [] o_made made = refl
  tries_same own [] (t ∷ tries) o_made made = refl
  tries_same own (s ∷ lefts) [] o_made made = refl
  tries_same own (s ∷ lefts) (t ∷ tries) o_made made =
      and_same (gets_stuck w own s t) (gets_stuck v own s t) (all_both (gets_stuck w own) lefts tries) (all_both (gets_stuck v own) lefts tries)
      (gets_same own s t made.0 o_made) (tries_same own lefts tries o_made made.1)

  pub whole_same : (left own : State) (list : List JoinStep) → Made flow defs left → Made flow defs own
      → whole_join w left own list ≡ whole_join v left own list
  whole_same left own list l_made o_made =
      ap (option_and_then (λ (last : Joining). if is_none (next_pair last) then Some last else None)) (prefix_same left own list l_made o_made)

  -- ---- chains

  stuck_too : (left own : State) (list : List JoinStep) → Made flow defs left → Made flow defs own → GetsStuck w left own list → GetsStuck v left own list
  stuck_too left own list l_made o_made s = record {
    last = s.last;
    reached = sym (prefix_same left own list l_made o_made) ∙ s.reached;
    stuck = sym (stuck_same s.last (steps_made list (begun left own) s.last (l_made, o_made) s.reached)) ∙ s.stuck;
  }

  tries_too : (own : State) (lefts : List State) (tries : List (List JoinStep)) → Made flow defs own → AllByRecursion (Made flow defs) lefts
      → AllZip (λ left list. GetsStuck w left own list) lefts tries → AllZip (λ left list. GetsStuck v left own list) lefts tries
  tries_too own [] [] o_made made a = tt
  tries_too own [] (t ∷ tries) o_made made a = absurd a
  tries_too own (s ∷ lefts) [] o_made made a = absurd a
  tries_too own (s ∷ lefts) (t ∷ tries) o_made made a = (stuck_too s own t made.0 o_made a.0, tries_too own lefts tries o_made made.1 a.1)

  module _ (laws : MakingLaws) (valid : IsValid flow defs) (cuts : List PointId) where
    abbrev Good : Head → Type 0
    Good h = Contains cuts h.0 × Made flow defs h.1

    new : NewStatesAreMade know flow defs
    new = new_states laws.anew_bounded laws.joins know flow defs knows

    line_too : (round : ℕ) (heads mid : List Head) (l : Line) (b : Path) (next : List Path) → AllByRecursion Good heads → IsMade flow defs b
        → IsPassLine flow w round (over cuts heads) l b next mid → IsPassLine flow v round (over cuts heads) l b next mid
    line_too round heads mid l b next good made i = at l i
      where
        lefts_made : AllByRecursion (Made flow defs) (states_at b.point heads)
        lefts_made = all_at (Made flow defs) b.point heads (states_made laws.made laws.unknown flow defs valid know new cuts heads good)

        at : (l : Line) → IsPassLine flow w round (over cuts heads) l b next mid → IsPassLine flow v round (over cuts heads) l b next mid
        at (line.C2 tries) i = record {
          may = i.may;
          consistent = i.consistent;
          count = i.count;
          tidy = i.tidy;
          stuck = tries_too b.state (states_at b.point heads) tries made lefts_made i.stuck;
          ends = i.ends;
          gives = i.gives;
        }
        at (line.C3 j list) i =
            let l_made = one_of (Made flow defs) (states_at b.point heads) j i.left lefts_made i.there in
            record {
              may = i.may;
              consistent = i.consistent;
              left = i.left;
              there = i.there;
              tidy = i.tidy;
              result = i.result;
              joins = record {
                last = i.joins.last;
                reached = sym (prefix_same i.left b.state list l_made made) ∙ i.joins.reached;
                done = i.joins.done;
                gives = i.joins.gives;
                atoms = i.joins.atoms;
              };
              changes = i.changes;
              ends = i.ends;
              gives = i.gives;
            }
        at l i = i

    pass_too : (round : ℕ) (rules : List Line) (bs stuck : List Path) (heads after : List Head) → AllByRecursion Good heads
        → AllByRecursion (IsMade flow defs) bs
        → ReadsPass flow w round cuts rules bs stuck heads after → ReadsPass flow v round cuts rules bs stuck heads after
    pass_too round [] bs stuck heads after good made r = r
    pass_too round (l ∷ rules) [] stuck heads after good made r = absurd r
    pass_too round (l ∷ rules) (b ∷ bs) stuck heads after good made (next, mid, later, i, reads, e) =
        let keeps = line_keeps laws.made laws.unknown flow defs valid know new cuts round heads mid l b next good made.0 i in (
          next,
          mid,
          later,
          line_too round heads mid l b next good made.0 i,
          pass_too round rules (next ++ bs) later mid after keeps.1 (all_join (IsMade flow defs) next bs keeps.0 made.1) reads,
          e,
        )

    passes_too : (round : ℕ) (passes : List (List Line)) (stuck : List Path) (heads after : List Head) → AllByRecursion Good heads
        → ReadsPasses flow w cuts round passes stuck heads after → ReadsPasses flow v cuts round passes stuck heads after
    passes_too round [] stuck heads after good r = absurd r
    passes_too round (rules ∷ []) stuck heads after good r =
        pass_too round rules (roots flow heads) stuck heads after good (roots_made laws.made laws.unknown flow defs valid know new cuts heads good) r
    passes_too round (rules ∷ more ∷ passes) stuck heads after good (changed, own, mid, pass, reads) =
        let made = roots_made laws.made laws.unknown flow defs valid know new cuts heads good in
        let good' = pass_keeps laws.made laws.unknown flow defs valid know new cuts round rules (roots flow heads) own heads mid good made pass in (
          changed,
          own,
          mid,
          pass_too round rules (roots flow heads) own heads mid good made pass,
          passes_too (suc round)
              (more ∷ passes) stuck mid after good' reads,
        )

pub legal_chains_are_one : StepLaws → MakingLaws → LegalChainsAreOne
legal_chains_are_one steps laws know other flow defs lines valid knows knows' c = (
  record {
    cuts = c.cuts;
    written = c.written;
    passes = c.passes;
    spelled = c.spelled;
    cuts_are = c.cuts_are;
    ordered = c.ordered;
    written_are = c.written_are;
    stuck = c.stuck;
    heads = c.heads;
    reads = passes_too steps flow defs know other knows knows' laws valid c.cuts 1 c.passes c.stuck (states_of c.written) c.heads
        (good_heads c.cuts flow defs c.written c.written_are) c.reads;
  },
  refl,
)
