-- Tests of two operands.
use Rattle.std.proofs.Common.{◌≡◌, List, [], ◌∷◌, Bool, true, false, T, slice_get, refl, sym, ap, ap₂, ◌∙◌, subst, arith, inl, ℤ, pos, ◌+ℤ◌, ◌≤ℤ◌, ◌<ℤ◌}
use Rattle.std.specs.Prelude.{if◌then◌else◌, int_le}
use Rattle.std.specs.List.{AllByRecursion}
use Rattle.std.specs.Ordering.{int_eq}
use Rattle.std.proofs.lemmas.Bool.Decides.{Decides-int_eq}
use Rattle.std.proofs.lemmas.Int.{ints, clamps}
use Rattle.mc_base.specs.declared.ids.NodeId.{NodeId}
use Rattle.mc_base.specs.declared.ids.PointId.{PointId}
use Rattle.mc_base.specs.declared.plain.Atom.{Atom}
use Rattle.mc_base.specs.declared.plain.Atom.TheVariants.{Eq, Ne, In}
use Rattle.mc_base.specs.declared.plain.Kind.TheVariants.{Int}
use Rattle.mc_base.specs.Atoms.{IsTrueAtom}
use Rattle.mc_base.specs.Nodes.{Valuation}
use Rattle.mc_flow.specs.Runs as runs
use Rattle.mc_flow.specs.Heap.Choices.{Choice}
use Rattle.mc_flow.specs.Heap.Heap.{HasAddresses, region_of}
use Rattle.mc_flow.specs.declared.defs.rules.Def.{Def}
use Rattle.mc_flow.specs.declared.graph.Flow.{Flow}
use Rattle.mc_flow.specs.declared.instr.Instr.TheVariants as instr
use Rattle.mc_flow.specs.Steps.{Config, Result, at_point, tested}
use Rattle.mc_pure.specs.Derived.{HasRange}
use Rattle.mc_base.specs.declared.ranges.Range.{Range}
use Rattle.mc_base.specs.Ranges.Range.{Holds}
use Rattle.mc_state.specs.State.{State, pure_of, with_atoms}
use Rattle.mc_state.specs.Stands.{StandsBy}
use Rattle.mc_rules_steps.specs.Next.{Next}
use Rattle.mc_rules_steps.specs.Steps.{moved_to, le_atoms, gt_atoms, S13Is, S14Is}
use Rattle.mc_rules_steps.specs.Laws.{LeadsOn}
use Rattle.mc_rules_steps.proofs.LowerLaws.{StepLaws}
use Rattle.mc_rules_steps.proofs.Moving.{IsSoundAt, step_at, fits_at, leads}
use Rattle.mc_rules_steps.proofs.Operands.{two_met}

pub le_of : (a b : ℤ) → int_le a b ≡ true → a ≤ℤ b
le_of a b e = record { le = subst T (sym e) tt }

pub lt_of : (a b : ℤ) → int_le a b ≡ false → b <ℤ a
lt_of a b e = grind (arith, ints)

-- equal values, and other ones
eq_true : (w : Valuation) (a b : NodeId) → int_eq (w a.0) (w b.0) ≡ true → AllByRecursion (IsTrueAtom w) (Eq a b (pos 0) ∷ [])
eq_true w a b e = let same : w a.0 ≡ w b.0 = (Decides-int_eq (w a.0) (w b.0)).0 e in (omega (arith, ints), tt)

ne_true : (w : Valuation) (a b : NodeId) → int_eq (w a.0) (w b.0) ≡ false → AllByRecursion (IsTrueAtom w) (Ne a b (pos 0) ∷ [])
ne_true w a b e = (
  λ same.
      let is : w a.0 ≡ w b.0 +ℤ pos 0 = same in
      let so : int_eq (w a.0) (w b.0) ≡ true = (Decides-int_eq (w a.0) (w b.0)).1 (omega (arith, ints)) in
      cc,
  tt,
)

-- values in ranges, the left at most the right
le_true : (w : Valuation) (a b : NodeId) (left right : Range) → Holds left (w a.0) → Holds right (w b.0) → w a.0 ≤ℤ w b.0 → AllByRecursion (IsTrueAtom w) (le_atoms a b left right)
le_true w a b left right l r le =
    let low = l.0 in
    let high = l.1 in
    let from = r.0 in
    let upto = r.1 in
    ((omega (arith, ints, clamps), omega (arith, ints, clamps)), ((omega (arith, ints, clamps), omega (arith, ints, clamps)), tt))

gt_true : (w : Valuation) (a b : NodeId) (left right : Range) → Holds left (w a.0) → Holds right (w b.0) → w b.0 <ℤ w a.0 → AllByRecursion (IsTrueAtom w) (gt_atoms a b left right)
gt_true w a b left right l r lt =
    let low = l.0 in
    let high = l.1 in
    let from = r.0 in
    let upto = r.1 in (
      (omega (arith, ints, clamps), omega (arith, ints, clamps)),
      ((omega (arith, ints, clamps), omega (arith, ints, clamps)), (λ same. let is : w a.0 ≡ w b.0 +ℤ pos 0 = same in omega (arith, ints), tt)),
    )

module _ (laws : StepLaws) (defs : List Def) where
  -- the step goes on at one of two successors, with atoms that are true there
  tested_leads : (next : List Next) (t f : PointId) (before : State) (holds fails : List Atom) (w : Valuation) (c : Config) (choices : List Choice) (r : Result) (test : Bool)
      → next ≡ moved_to t (with_atoms before holds) ∷ moved_to f (with_atoms before fails) ∷ []
      → r ≡ (if test then runs.next (at_point t c) choices else runs.next (at_point f c) choices)
      → (test ≡ true → AllByRecursion (IsTrueAtom w) holds) → (test ≡ false → AllByRecursion (IsTrueAtom w) fails)
      → HasAddresses c.heap → StandsBy defs w c.vars (region_of c.heap) before → LeadsOn defs next r
  tested_leads next t f before holds fails w c choices r true gives e if_so if_not has st =
      leads defs next 0 t (with_atoms before holds) w (at_point t c) choices r e (ap (λ xs. slice_get xs 0) gives) refl has
      (laws.states.atoms defs w c.vars (region_of c.heap) before holds (if_so refl) st)
  tested_leads next t f before holds fails w c choices r false gives e if_so if_not has st =
      leads defs next 1 f (with_atoms before fails) w (at_point f c) choices r e (ap (λ xs. slice_get xs 1) gives) refl has
      (laws.states.atoms defs w c.vars (region_of c.heap) before fails (if_not refl) st)

  pub s13_sound : (flow : Flow) (p : PointId) (s : State) (next : List Next) → S13Is flow p s next → IsSoundAt flow defs p s next
  s13_sound flow p s next i v c choices r valid bounded at sides step =
      let code = instr.TestEq i.o i.o' i.t i.f in
      let st = step_at flow defs p code c choices r i.at at.point step in
      let fits = fits_at flow defs p code valid i.at in
      let met = two_met laws defs c.vars (region_of c.heap) v s flow.vars fits.0 i.o i.o' i.a i.b fits.1 fits.2 i.left_known i.right_known bounded at.stands in
      let w = met.0.w in
      tested_leads next i.t i.f i.before (Eq i.a i.b (pos 0) ∷ []) (Ne i.a i.b (pos 0) ∷ []) w c choices r (int_eq (w i.a.0) (w i.b.0)) i.gives
      (st.1 ∙ ap₂ (tested int_eq i.t i.f st.0 c choices) met.1 met.2) (eq_true w i.a i.b) (ne_true w i.a i.b) at.addresses
      (subst (StandsBy defs w c.vars (region_of c.heap)) (sym i.operands) met.0.stands)

  -- a node's value lies in its range
  pub in_range : (w : Valuation) (c : Config) (s : State) (n : NodeId) (range : Range) → HasAddresses c.heap → StandsBy defs w c.vars (region_of c.heap) s → HasRange (pure_of s) n range.lo range.hi → Holds range (w n.0)
  in_range w c s n range has st h = laws.states.derived defs w c.vars (region_of c.heap) s (In n range.lo range.hi) has st (inl h.follows)

  pub s14_sound : (flow : Flow) (p : PointId) (s : State) (next : List Next) → S14Is flow p s next → IsSoundAt flow defs p s next
  s14_sound flow p s next i v c choices r valid bounded at sides step =
      let code = instr.TestLe i.o i.o' i.t i.f in
      let st = step_at flow defs p code c choices r i.at at.point step in
      let fits = fits_at flow defs p code valid i.at in
      let met = two_met laws defs c.vars (region_of c.heap) v s flow.vars Int i.o i.o' i.a i.b fits.0 fits.1 i.left_known i.right_known bounded at.stands in
      let w = met.0.w in
      let stands = subst (StandsBy defs w c.vars (region_of c.heap)) (sym i.operands) met.0.stands in
      let left = in_range w c i.before i.a i.left at.addresses stands i.left_range in
      let right = in_range w c i.before i.b i.right at.addresses stands i.right_range in
      tested_leads next i.t i.f i.before (le_atoms i.a i.b i.left i.right) (gt_atoms i.a i.b i.left i.right) w c choices r (int_le (w i.a.0) (w i.b.0)) i.gives
      (st.1 ∙ ap₂ (tested int_le i.t i.f st.0 c choices) met.1 met.2)
      (λ e. le_true w i.a i.b i.left i.right left right (le_of (w i.a.0) (w i.b.0) e))
      (λ e. gt_true w i.a i.b i.left i.right left right (lt_of (w i.a.0) (w i.b.0) e))
      at.addresses stands
