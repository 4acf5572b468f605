-- Steps that lead on, and the rules that need little more.
use Rattle.std.proofs.Common.{◌≡◌, ℕ, List, [], ◌∷◌, Option, Some, None, slice_get, refl, sym, ap, ◌∙◌, subst, ℤ}
use Rattle.std.specs.Prelude.{option_map}
use Rattle.mc_base.specs.declared.ids.NodeId.{NodeId}
use Rattle.mc_base.specs.declared.ids.PointId.{PointId}
use Rattle.mc_base.specs.declared.ids.VarId.{VarId}
use Rattle.mc_base.specs.declared.text.place.Place.{Place}
use Rattle.mc_base.specs.Nodes.{Valuation}
use Rattle.mc_flow.specs.Runs as runs
use Rattle.mc_flow.specs.Heap.Choices.{Choice}
use Rattle.mc_flow.specs.Heap.Heap.{Region, HasAddresses, region_of}
use Rattle.mc_flow.specs.declared.defs.rules.Def.{Def}
use Rattle.mc_flow.specs.declared.defs.shapes.Structs.{Structs}
use Rattle.mc_flow.specs.declared.graph.Flow.{Flow}
use Rattle.mc_flow.specs.declared.graph.Point.{Point}
use Rattle.mc_flow.specs.declared.instr.Instr.{Instr}
use Rattle.mc_flow.specs.declared.instr.Instr.TheVariants as instr
use Rattle.mc_flow.specs.Steps.{Config, Result, StepOf, StepAt, Step, at_point, set_to, copied}
use Rattle.mc_flow.specs.Valid.{IsValid, FitsKinds}
use Rattle.mc_flow.specs.Values.{without}
use Rattle.mc_state.specs.State.{State, with_var, without_vars}
use Rattle.mc_state.specs.Fits.{IsBounded}
use Rattle.mc_state.specs.Stands.{StandsBy}
use Rattle.mc_rules_steps.specs.Next.{Next}
use Rattle.mc_rules_steps.specs.Operands.{code_at, with_operand}
use Rattle.mc_rules_steps.specs.Steps.{moved_to, S1Is, S2Is, S3Is, S17Is}
use Rattle.mc_rules_steps.specs.Laws.{IsAt, LeadsOn, SidesHold}
use Rattle.mc_rules_steps.proofs.LowerLaws.{StepLaws}
use Rattle.mc_rules_steps.proofs.Operands.{operand_met}

-- no configuration at the state faults, and each step leads on
abbrev pub IsSoundAt : Flow → List Def → PointId → State → List Next → Type 0
IsSoundAt flow defs p s next =
    (v : Valuation) (c : Config) (choices : List Choice) (r : Result)
    → IsValid flow defs → IsBounded s → IsAt defs v c p s → SidesHold defs c next → Step flow defs c choices r → LeadsOn defs next r

-- ---- the instruction at a point

at_instr : (structs : Structs) (defs : List Def) (o : Option Point) (i : Instr) (c : Config) (choices : List Choice) (r : Result) → option_map (λ p. p.code) o ≡ Some i → StepAt structs defs o c choices r → (place : Place) × StepOf structs defs place i c choices r
at_instr structs defs None i c choices r e s = absurd s
at_instr structs defs (Some p) i c choices r e s = (p.place, (let same : p.code ≡ i = cc in subst (λ (j : Instr). StepOf structs defs p.place j c choices r) same s))

pub step_at : (flow : Flow) (defs : List Def) (p : PointId) (i : Instr) (c : Config) (choices : List Choice) (r : Result) → code_at flow p ≡ Some i → c.point ≡ p.0 → Step flow defs c choices r → (place : Place) × StepOf flow.structs defs place i c choices r
step_at flow defs p i c choices r e at s =
    at_instr flow.structs defs (slice_get flow.points c.point) i c choices r (ap (λ n. option_map (λ (point : Point). point.code) (slice_get flow.points n)) at ∙ e) s

fits_point : (flow : Flow) (defs : List Def) (p : ℕ) (i : Instr) → IsValid flow defs → (o : Option Point) → slice_get flow.points p ≡ o → option_map (λ q. q.code) o ≡ Some i → FitsKinds flow.vars flow.structs defs i
fits_point flow defs p i valid None e h = cc
fits_point flow defs p i valid (Some point) e h = let same : point.code ≡ i = cc in subst (FitsKinds flow.vars flow.structs defs) same (valid.points p point e).kinds

pub fits_at : (flow : Flow) (defs : List Def) (p : PointId) (i : Instr) → IsValid flow defs → code_at flow p ≡ Some i → FitsKinds flow.vars flow.structs defs i
fits_at flow defs p i valid e = fits_point flow defs p.0 i valid (slice_get flow.points p.0) refl e

-- ---- where a step leads

-- the step goes on at a successor
pub leads : (defs : List Def) (next : List Next) (place : ℕ) (q : PointId) (t : State) (w : Valuation) (d : Config) (choices : List Choice) (r : Result)
    → r ≡ runs.next d choices → slice_get next place ≡ Some (moved_to q t) → d.point ≡ q.0 → HasAddresses d.heap → StandsBy defs w d.vars (region_of d.heap) t → LeadsOn defs next r
leads defs next place q t w d choices r e there at has st =
    subst (LeadsOn defs next) (sym e) (place, moved_to q t, w, there, refl, record { point = at; addresses = has; stands = st })

-- the one successor
pub first_of_one : {A : Type 0} (xs : List A) (x : A) → xs ≡ x ∷ [] → slice_get xs 0 ≡ Some x
first_of_one xs x e = ap (λ ys. slice_get ys 0) e

module _ (laws : StepLaws) (defs : List Def) where
  -- a variable gets the value of a node
  pub set_leads_at : (next : List Next) (place : ℕ) (x : VarId) (q : PointId) (t : State) (n : NodeId) (w : Valuation) (c : Config) (choices : List Choice) (r : Result)
      → r ≡ set_to x q c choices (w n.0) → slice_get next place ≡ Some (moved_to q (with_var t x (Some n))) → HasAddresses c.heap → StandsBy defs w c.vars (region_of c.heap) t → LeadsOn defs next r
  set_leads_at next place x q t n w c choices r e there has st =
      leads defs next place q (with_var t x (Some n)) w _ choices r e there refl has (laws.states.set defs w c.vars (region_of c.heap) t x n st)

  pub set_leads : (next : List Next) (x : VarId) (q : PointId) (t : State) (n : NodeId) (w : Valuation) (c : Config) (choices : List Choice) (r : Result)
      → r ≡ set_to x q c choices (w n.0) → next ≡ moved_to q (with_var t x (Some n)) ∷ [] → HasAddresses c.heap → StandsBy defs w c.vars (region_of c.heap) t → LeadsOn defs next r
  set_leads next x q t n w c choices r e gives has st =
      set_leads_at next 0 x q t n w c choices r e (first_of_one next (moved_to q (with_var t x (Some n))) gives) has st

  pub s1_sound : (flow : Flow) (p : PointId) (s : State) (next : List Next) → S1Is flow p s next → IsSoundAt flow defs p s next
  s1_sound flow p s next i v c choices r valid bounded at sides step =
      let st = step_at flow defs p (instr.Skip i.q) c choices r i.at at.point step in
      leads defs next 0 i.q s v (at_point i.q c) choices r st.1 (first_of_one next (moved_to i.q s) i.gives) refl at.addresses at.stands

  pub s2_sound : (flow : Flow) (p : PointId) (s : State) (next : List Next) → S2Is flow p s next → IsSoundAt flow defs p s next
  s2_sound flow p s next i v c choices r valid bounded at sides step =
      let st = step_at flow defs p (instr.Copy i.x i.from i.q) c choices r i.at at.point step in
      let fits = fits_at flow defs p (instr.Copy i.x i.from i.q) valid i.at in
      let met = operand_met laws defs c.vars (region_of c.heap) v s flow.vars fits.0 i.from i.n fits.2 i.known bounded at.stands in
      set_leads next i.x i.q (with_operand s i.from) i.n met.0.w c choices r (st.1 ∙ ap (copied i.x i.q st.0 c choices) met.1) i.gives at.addresses met.0.stands

  forgotten : (v : Valuation) (region : Region) (xs : List VarId) (values : List (Option ℤ)) (s : State) → StandsBy defs v values region s → StandsBy defs v (without values xs) region (without_vars s xs)
  forgotten v region [] values s st = st
  forgotten v region (x ∷ xs) values s st = forgotten v region xs _ (with_var s x None) (laws.states.forgotten defs v values region s x None st)

  pub s3_sound : (flow : Flow) (p : PointId) (s : State) (next : List Next) → S3Is flow p s next → IsSoundAt flow defs p s next
  s3_sound flow p s next i v c choices r valid bounded at sides step =
      let st = step_at flow defs p (instr.Undef i.xs i.q) c choices r i.at at.point step in
      leads defs next 0 i.q (without_vars s i.xs) v _ choices r st.1 (first_of_one next (moved_to i.q (without_vars s i.xs)) i.gives) refl at.addresses
      (forgotten v (region_of c.heap) i.xs c.vars s at.stands)

  pub s17_sound : (flow : Flow) (p : PointId) (s : State) (next : List Next) → S17Is flow p s next → IsSoundAt flow defs p s next
  s17_sound flow p s next i v c choices r valid bounded at sides step =
      let st = step_at flow defs p instr.End c choices r i.at at.point step in
      subst (LeadsOn defs next) (sym st.1) tt
