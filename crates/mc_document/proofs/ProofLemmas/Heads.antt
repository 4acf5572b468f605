-- Heads whose place is right.
use Rattle.std.proofs.Common.{◌≡◌, ◌∙◌, ◌++◌, [], ◌∷◌, Bool, true, false, Option, Some, None, refl, ap, sym}
use Rattle.std.specs.Prelude.{◌&&◌, Ok, Err, if◌then◌else◌}
use Rattle.mc_base.specs.declared.ids.PointId.{PointId}
use Rattle.mc_state.specs.Premises.{Judged, need}
use Rattle.mc_state.proofs.Numbered.{need_yes}
use Rattle.mc_state.specs.declared.raw_state.RawState.{RawState}
use Rattle.mc_state.specs.RawStates.{state_of}
use Rattle.mc_state.specs.State.{State}
use Rattle.mc_kernel.specs.Judges.{is_cut}
use Rattle.mc_kernel.specs.Readings.{heading}
use Rattle.mc_document.specs.Proof.Lines.{heading_at, may_head_at, stands_behind}
use Rattle.mc_document.specs.Proof.Positions.{Position}

both : (a b : Bool) → a ≡ true → b ≡ true → (a && b) ≡ true
both true b p q = q
both false b p q = absurd (cc p)

none_in : (b : Bool) (t : State) (x : Position) → ◌≡◌ {A = Option State} None (if b then Some t else None) → ◌≡◌ {A = Judged Position} (need 4 b (Ok x)) (Err 4)
none_in true t x e = absurd (cc e)
none_in false t x e = refl

some_in : (b : Bool) (s t : State) (f : State → Position) → ◌≡◌ {A = Option State} (Some s) (if b then Some t else None) → ◌≡◌ {A = Judged Position} (need 4 b (Ok (f t))) (Ok (f s))
some_in true s t f e = let same : s ≡ t = cc e in ap (λ (x : State). Ok (f x)) (sym same)
some_in false s t f e = absurd (cc e)

module _ (q : Position) (p : PointId) (raw : RawState) (well : RawState → Bool)
    (may : may_head_at q q.stage ≡ true) (cut : is_cut q.cuts p ≡ true) (behind : stands_behind q.heads p ≡ true) where
  abbrev with_head : State → Position
  with_head s = record q { stage = heading; heads = q.heads ++ (p, s) ∷ [] }

  placed : heading_at well p raw q ≡ need 4 (well raw) (Ok (with_head (state_of raw)))
  placed = need_yes 1 _ _ may ∙ need_yes 3 _ _ (both (is_cut q.cuts p) (stands_behind q.heads p) cut behind)

  pub head_none : ◌≡◌ {A = Option State} None (if well raw then Some (state_of raw) else None) → heading_at well p raw q ≡ Err 4
  head_none e = placed ∙ none_in (well raw) (state_of raw) (with_head (state_of raw)) e

  pub head_some : (s : State) → ◌≡◌ {A = Option State} (Some s) (if well raw then Some (state_of raw) else None) → heading_at well p raw q ≡ Ok (with_head s)
  head_some s e = placed ∙ some_in (well raw) s (state_of raw) with_head e
