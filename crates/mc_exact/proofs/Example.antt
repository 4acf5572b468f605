-- The small program that reads what it freed.
use Rattle.std.proofs.Common.{◌≡◌, ◌<◌, zero, suc, pos, Bool, false, Some, None, [], ◌∷◌, map as mapped, if◌then◌else◌, refl, sym, ap, arith, inl, inr}
use Rattle.std.specs.FinMap as map
use Rattle.std.specs.FinMap.{get-empty}
use Rattle.std.specs.Ordering.{nat_cmp}
use Rattle.std.proofs.lemmas.Int.{ints}
use Rattle.mc_base.specs.declared.ids.NodeId.{NodeId}
use Rattle.mc_base.specs.declared.plain.FaultKind.TheVariants.{Null, Freed}
use Rattle.mc_base.specs.declared.plain.Kind.TheVariants.{Int, Ptr}
use Rattle.mc_base.specs.declared.text.place.Place.{Place}
use Rattle.mc_base.specs.Nodes.{Valuation, null}
use Rattle.mc_flow.specs.Runs.{Reaches, fault}
use Rattle.mc_flow.specs.Heap.Access.{field_at, fresh_block}
use Rattle.mc_flow.specs.Heap.Choices.{malloc}
use Rattle.mc_flow.specs.Heap.Heap.{IsAddress}
use Rattle.mc_flow.specs.Heap.PartLaws.{InsertChanges, RemoveChanges}
use Rattle.mc_flow.specs.Defs.Conditions.{DefsFit}
use Rattle.mc_flow.specs.Defs.Examples.{structs, defs, cell_id}
use Rattle.mc_flow.specs.declared.instr.Operand.TheVariants.{Var}
use Rattle.mc_flow.specs.Steps.{Config, Step, start, found, freed_at}
use Rattle.mc_flow.specs.Valid.{IsValid}
use Rattle.mc_pure.specs.Derived.{itself}
use Rattle.mc_pure.specs.Examples.{node}
use Rattle.mc_pure.specs.Laws.{DerivedIsTrue, TrueIsNotFalse}
use Rattle.mc_base.specs.declared.plain.Atom.TheVariants.{Eq}
use Rattle.mc_lines.specs.declared.cert.line.Line.TheVariants as line
use Rattle.mc_state.specs.declared.line.InstrRule.TheVariants as step
use Rattle.mc_state.specs.Facts.{IsFalse}
use Rattle.mc_state.specs.Known.{Test, Tells, equal}
use Rattle.mc_state.specs.State.{State, pure_of, unknown, with_block, with_var}
use Rattle.mc_rules_steps.specs.declared.gap.Gap.TheVariants.{NoBlock}
use Rattle.mc_rules_steps.specs.Operands.{HasBlock}
use Rattle.mc_rules_steps.specs.Steps.{moved_to, S10Is, S11Is, S12Is}
use Rattle.mc_rules_steps.specs.declared.gap.Gap.{Gap}
use Rattle.mc_rules_steps.specs.Unmet.{IsUnmet, LacksBlock}
use Rattle.mc_rules_steps.proofs.ExampleFlow.{all_none}
use Rattle.mc_kernel.specs.Examples as ex
use Rattle.mc_kernel.proofs.ExampleFlows.{FitFrom, is_valid, to_one, to_none}
use Rattle.mc_kernel.proofs.Plain.{not_false}
use Rattle.mc_kernel.proofs.ShownLemmas.Numbers.{numbers_fit, valued}
use Rattle.mc_kernel.proofs.ShownLemmas.Numbers as numbers
use Rattle.mc_kernel.specs.Branches.{IsPlain, MayStep, Path, entry_path, path_to}
use Rattle.mc_kernel.specs.Instances.{IsStuck}
use Rattle.mc_exact.specs.Exact as exact
use Rattle.mc_exact.specs.Exact.{failed, made, silent}
use Rattle.mc_exact.specs.Marks.{AreMarked, IsShape, Tracked, alone, entry, ruled, stuck}
use Rattle.mc_exact.specs.Real.{IsShort, answered}
use Rattle.mc_exact.specs.Tracks.{AsksMallocAlone, IsExactTrack}
use Rattle.mc_exact.specs.Examples.{freed_vars, freed_code, freed_flow, null_state, freed_state, null_track, freed_track, freed_chain, freed_alarms}

freed_fits : FitFrom freed_flow 0 freed_flow.points
freed_fits = (
  to_one freed_flow 0 1 _ refl (omega arith, inl (omega arith)) (refl, omega arith),
  (
    to_one freed_flow 1 2 _ refl (omega arith, inl (omega arith)) refl,
    (
      to_one freed_flow 2 3 _ refl (omega arith, inl (omega arith)) (Int, refl, refl, refl),
      (to_none freed_flow 3 _ refl tt, tt),
    ),
  ),
)

pub freed_is_valid : DefsFit structs defs → IsValid freed_flow defs
freed_is_valid fit = is_valid freed_vars [] freed_code fit (omega arith) (all_none _) freed_fits

pub freed_is_short : IsShort freed_flow
freed_is_short = record { no_loops = refl; few = omega arith }

pub freed_asks : AsksMallocAlone freed_flow
freed_asks zero d lt = tt
freed_asks (suc zero) d lt = tt
freed_asks (suc (suc zero)) d lt = tt
freed_asks (suc (suc (suc zero))) d lt = tt
freed_asks (suc (suc (suc (suc k)))) d lt = absurd (let less : suc (suc (suc (suc k))) < 4 = lt in omega arith)

-- ---- branches

-- after the allocation p is node 1, where a cell lies
abbrev made_state : State
made_state = with_var (with_block (unknown 2) cell_id 2) (ex.var 0) (Some (node 1))

abbrev zeros : Valuation
zeros n = pos 0

-- no block lies where there are no edges
lacks_block : (s : State) (n : NodeId) → s.graph.edges ≡ [] → LacksBlock defs s n cell_id
lacks_block s n none = record {
  block = λ (b : HasBlock s n cell_id). let clash = b.there in cc;
  start = λ place id e there is equal. cc;
  back = λ place id at stop args ends pred i other there is_at equal. cc;
}

module _ (law : TrueIsNotFalse) where
  entry_sound : IsFalse (unknown 2) → ⊥
  entry_sound wrong = not_false zeros [] [] refl tt tt law wrong

  null_sound : IsFalse null_state → ⊥
  null_sound wrong = not_false zeros [] [] refl tt tt law wrong

  made_sound : IsFalse made_state → ⊥
  made_sound wrong =
      law (pure_of made_state) (valued (pos 7 ∷ []))
      (numbers_fit (valued (pos 7 ∷ [])) (pure_of made_state) refl ((omega (arith, ints), omega (arith, ints)), tt) tt ((omega (arith, ints), omega (arith, ints)), tt) (omega arith))
      wrong

  freed_sound : IsFalse freed_state → ⊥
  freed_sound wrong =
      not_false (valued (pos 7 ∷ [])) freed_state.kinds freed_state.atoms refl ((omega (arith, ints), omega (arith, ints)), tt) ((omega (arith, ints), omega (arith, ints)), tt) law wrong

  -- null, or a new cell
  allocates : S10Is freed_flow (ex.at 0) (unknown 2) (moved_to (ex.at 1) null_state ∷ moved_to (ex.at 1) made_state ∷ [])
  allocates = record { x = ex.var 0; shape = cell_id; q = ex.at 1; at = refl; consistent = entry_sound; gives = refl }

  -- a free of null does nothing
  frees_null : S11Is freed_flow (ex.at 1) null_state (moved_to (ex.at 2) null_state ∷ [])
  frees_null = record { from = Var (ex.var 0); q = ex.at 2; at = refl; consistent = null_sound; n = null; known = refl; zero = inl (itself (Ptr, inl refl)); gives = refl }

  pub null_is_exact : IsExactTrack freed_flow null_track
  null_is_exact = (
    refl,
    silent {ns = moved_to (ex.at 2) null_state ∷ []} (moved_to (ex.at 2) null_state) 0
        (failed (moved_to (ex.at 1) null_state) exact.entry allocates refl)
        (exact.S11 frees_null)
        refl,
  )

  -- the cell goes
  abbrev frees : HasBlock made_state (node 1) cell_id
  frees = record { id = record { 0 = 0 }; at = node 1; fields = None ∷ None ∷ []; there = refl; equal = inl (itself (Ptr, inr refl)) }

  frees_cell : S12Is freed_flow (ex.at 1) made_state (moved_to (ex.at 2) freed_state ∷ [])
  frees_cell = record {
    from = Var (ex.var 0);
    q = ex.at 2;
    at = refl;
    consistent = made_sound;
    n = node 1;
    known = refl;
    before = made_state;
    operand = refl;
    shape = cell_id;
    block = frees;
    gives = refl;
  }

  pub freed_is_exact : IsExactTrack freed_flow freed_track
  freed_is_exact = (
    refl,
    silent {ns = moved_to (ex.at 2) freed_state ∷ []} (moved_to (ex.at 2) freed_state) 0
        (made (moved_to (ex.at 1) made_state) exact.entry allocates refl)
        (exact.S12 frees_cell)
        refl,
  )

  pub null_is_unmet : IsUnmet freed_flow defs (ex.at 2) null_state (NoBlock null)
  null_is_unmet = record { consistent = null_sound; code = _; at = refl; lacks = (((null, refl), tt), (refl, lacks_block null_state null refl)) }

  pub freed_is_unmet : IsUnmet freed_flow defs (ex.at 2) freed_state (NoBlock (node 1))
  freed_is_unmet = record { consistent = freed_sound; code = _; at = refl; lacks = (((node 1, refl), tt), (refl, lacks_block freed_state (node 1) refl)) }

  -- ---- the chain

  -- an instruction's line may stand on each of its branches
  may_step : (b : Path) → IsPlain b → b.closing ≡ false → MayStep alone b
  may_step b plain still = record { plain = plain; open_still = still; before_cut = inl (λ there. (let less = there.1 in absurd (omega (arith, less)))) }

  -- and at the last point each is stuck
  stuck_at : (b : Path) (gap : Gap) → IsPlain b → b.closing ≡ false → IsUnmet freed_flow defs b.point b.state gap → IsStuck freed_flow defs alone b []
  stuck_at b gap plain still unmet = record { chain = refl; plain = plain; open_still = still; gap = gap; unmet = unmet; gives = refl }

  block_gap : (n : NodeId) → IsShape (NoBlock n) → ⊥
  block_gap n shape = (let clash = shape.2 in cc clash)

  -- node 1 is not null, so that it is the least of its class
  one_is_least : DerivedIsTrue → (know : Test) → Tells know freed_state → 1 ∷ [] ≡ mapped (answered know) (Some (node 1) ∷ [])
  one_is_least truth know tells = ap (λ (b : Bool). (if b then 0 else 1) ∷ []) (sym apart)
    where
      v : Valuation
      v = valued (pos 7 ∷ [])

      apart : equal know (node 1) null ≡ false
      apart = numbers.unknown truth law freed_state v
          (numbers_fit v (pure_of freed_state) refl ((omega (arith, ints), omega (arith, ints)), tt) ((omega (arith, ints), omega (arith, ints)), tt) tt (omega arith))
          know tells (Eq (node 1) null (pos 0)) (λ same. omega (arith, ints, same))

  pub freed_is_marked : DerivedIsTrue → AreMarked freed_flow defs freed_chain freed_alarms
  freed_is_marked truth =
      let root = entry_path freed_flow in
      let nulled = path_to (ex.at 1) null_state None in
      let full = path_to (ex.at 1) made_state None in
      let first = ruled (line.Step step.S10) (root, Some []) (nulled ∷ full ∷ []) begun (λ plain. refl) (may_step root refl refl, (_, allocates, refl)) in
      let second = ruled (line.Step step.S11) (nulled, Some (None ∷ [])) (null_track.0 ∷ []) first (λ plain. refl) (may_step nulled refl refl, (_, frees_null, refl)) in
      let third = stuck (null_track.0, Some (None ∷ [])) [] (NoBlock null) (Some (0 ∷ [])) second (stuck_at null_track.0 (NoBlock null) refl refl null_is_unmet)
      null_is_unmet (block_gap null, λ know tells. refl) in
      let fourth = ruled (line.Step step.S12) (full, Some (Some (node 1) ∷ [])) (freed_track.0 ∷ []) third (λ plain. refl) (may_step full refl refl, (_, frees_cell, refl)) in
      let fifth = stuck (freed_track.0, Some (Some (node 1) ∷ [])) [] (NoBlock (node 1)) (Some (1 ∷ [])) fourth (stuck_at freed_track.0 (NoBlock (node 1)) refl refl freed_is_unmet)
      freed_is_unmet (block_gap (node 1), one_is_least truth) in
      record { rules = line.Step step.S10 ∷ line.Step step.S11 ∷ line.C1 ∷ line.Step step.S12 ∷ line.C1 ∷ []; spelled = refl; ends = fifth }
    where
      begun : Tracked freed_flow defs [] ((entry_path freed_flow, Some []) ∷ []) []
      begun = entry

-- ---- runs

abbrev place : Place
place = record { line = 1; column = 1 }

-- malloc answers null
pub null_faults : Reaches (Step freed_flow defs) 3 (start freed_flow) (malloc 0 ∷ []) (fault Null place)
null_faults =
    let one : Config = record { point = 1; vars = Some (pos 0) ∷ None ∷ []; heap = map.empty } in
    let two : Config = record one { point = 2 } in
    inr (one, [], refl, inr (two, [], refl, inl refl))

first_address : IsAddress 1
first_address = (omega arith, omega arith)

-- malloc answers the first address
pub freed_faults : InsertChanges → RemoveChanges → Reaches (Step freed_flow defs) 3 (start freed_flow) (malloc 1 ∷ []) (fault Freed place)
freed_faults insert remove =
    let heap = map.insert map.empty 1 (fresh_block 0 2) in
    let one : Config = record { point = 1; vars = Some (pos 1) ∷ None ∷ []; heap = heap } in
    let two : Config = record { point = 2; vars = Some (pos 1) ∷ None ∷ []; heap = map.remove heap 1 } in
    inr (
      one,
      [],
      (first_address, get-empty nat_cmp 1, refl),
      inr (
        two,
        [],
        ap (λ o. freed_at (ex.at 2) place one [] 1 o) (sym (insert map.empty 1 (fresh_block 0 2)).here),
        inl (ap (λ o. found (ex.var 1) (ex.at 3) place two [] (field_at o 0 0)) (sym (remove heap 1).here)),
      ),
    )
