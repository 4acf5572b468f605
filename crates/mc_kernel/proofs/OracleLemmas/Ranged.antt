-- The least ranges of nodes of well-made states.
use Rattle.std.proofs.Common.{◌≡◌, ◌⊎◌, inl, inr, pos, List, [], ◌∷◌, Option, Some, None, slice_get, refl, subst}
use Rattle.std.specs.Prelude.{option_map}
use Rattle.mc_base.specs.declared.ids.NodeId.{NodeId}
use Rattle.mc_base.specs.declared.ids.PointId.{PointId}
use Rattle.mc_base.specs.declared.plain.Kind.TheVariants.{Int}
use Rattle.mc_base.specs.declared.plain.Atom.TheVariants.{In}
use Rattle.mc_base.specs.declared.plain.VarInfo.{VarInfo}
use Rattle.mc_flow.specs.declared.defs.rules.Def.{Def}
use Rattle.mc_flow.specs.declared.defs.shapes.StructInfo.{StructInfo}
use Rattle.mc_flow.specs.declared.defs.shapes.Structs.{Structs}
use Rattle.mc_flow.specs.declared.graph.Flow.{Flow}
use Rattle.mc_flow.specs.declared.graph.Point.{Point}
use Rattle.mc_flow.specs.declared.instr.Instr.{Instr}
use Rattle.mc_flow.specs.declared.instr.Instr.TheVariants as instr
use Rattle.mc_flow.specs.declared.instr.Operand.{Operand}
use Rattle.mc_flow.specs.Valid.{FitsKinds, IsOperand, IsValid}
use Rattle.mc_pure.specs.Classes.{EachHasNormalForm, HasNormalForm, NormalSaysAll}
use Rattle.mc_pure.specs.Derived.{HasRange, IsFalse as IsFalsePure}
use Rattle.mc_pure.specs.Normal.{low, high}
use Rattle.mc_pure.specs.Pure.{Pure, IsNode}
use Rattle.mc_state.specs.Facts.{IsFalse}
use Rattle.mc_state.specs.State.{State, pure_of}
use Rattle.mc_rules_steps.specs.Fitting.{OperandFits}
use Rattle.mc_rules_steps.specs.JudgedLaws.{OperandsKeepSound}
use Rattle.mc_rules_steps.specs.Operands.{code_at, with_operand}
use Rattle.mc_rules_steps.specs.Sums.{Ends, Ranges, HaveRanges, AreLeast, IsLeast, ranged}
use Rattle.mc_kernel.proofs.OracleLemmas.Decided.{Or}
use Rattle.mc_kernel.proofs.OracleLemmas.MadeOr.{made_or}
use Rattle.mc_kernel.proofs.OracleLemmas.Known.{Made, made_rises, made_fits}

nowhere : Ends
nowhere = record { lo = pos 0; hi = pos 0 }

module _ (defs : List Def) (vars : List VarInfo) (structs : List StructInfo) (normal : EachHasNormalForm) (law : NormalSaysAll) where
  ends_by : (p : Pure) (n : NodeId) → IsFalsePure p ⊎ HasNormalForm p → Ends
  ends_by p n (inl wrong) = nowhere
  ends_by p n (inr form) = record { lo = low (form.nf n); hi = high (form.nf n) }

  ends_least : (p : Pure) (n : NodeId) (f : IsFalsePure p ⊎ HasNormalForm p) → (IsFalsePure p → ⊥) → IsNode p.kinds n → HasRange p n (ends_by p n f).lo (ends_by p n f).hi
  unfolding ends_by
  ends_least p n (inl wrong) true_p there = absurd (true_p wrong)
  ends_least p n (inr form) true_p there = record {
    follows = (form.normal.sound n there).within;
    least = λ m k d. let h = law p form.nf form.normal (In n m k) d in (h.1, h.2);
  }

  range_by : (s : State) (n : NodeId) → Or (Made defs vars structs s) → Ends
  range_by s n (inl m) = ends_by (pure_of s) n (normal (pure_of s) (made_rises defs vars structs s m) (made_fits defs vars structs s m))
  range_by s n (inr never) = nowhere

  range_least : (s : State) (n : NodeId) (o : Or (Made defs vars structs s)) → Made defs vars structs s → (IsFalse s → ⊥) → IsNode s.kinds n → HasRange (pure_of s) n (range_by s n o).lo (range_by s n o).hi
  unfolding range_by
  range_least s n (inl m) made true_s there = ends_least (pure_of s) n (normal (pure_of s) (made_rises defs vars structs s m) (made_fits defs vars structs s m)) true_s there
  range_least s n (inr never) made true_s there = absurd (never made)

  pub range : Ranges
  range s n = range_by s n (made_or defs vars structs s)

  pub is_least : (s : State) (n : NodeId) → Made defs vars structs s → (IsFalse s → ⊥) → IsNode s.kinds n → IsLeast range s n
  unfolding range
  is_least s n m true_s there = range_least s n (made_or defs vars structs s) m true_s there

-- ---- the ranges that instructions ask for

both_fit : (vars : List VarInfo) (a b o o' : Operand) → ◌≡◌ {A = Operand × Operand} (a, b) (o, o') → IsOperand vars Int a × IsOperand vars Int b → IsOperand vars Int o × IsOperand vars Int o'
both_fit vars a b o o' e fits = subst (λ (g : Operand × Operand). IsOperand vars Int g.0 × IsOperand vars Int g.1) e fits

ranged_fits : (vars : List VarInfo) (structs : Structs) (defs : List Def) (code : Instr) (o o' : Operand) → ranged code ≡ Some (o, o') → FitsKinds vars structs defs code → IsOperand vars Int o × IsOperand vars Int o'
ranged_fits vars structs defs (instr.Add x a b q) o o' e fits = both_fit vars a b o o' (cc e) (fits.1, fits.2)
ranged_fits vars structs defs (instr.Sub x a b q) o o' e fits = both_fit vars a b o o' (cc e) (fits.1, fits.2)
ranged_fits vars structs defs (instr.Mul x a b q) o o' e fits = both_fit vars a b o o' (cc e) (fits.1, fits.2)
ranged_fits vars structs defs (instr.TestLe a b t f) o o' e fits = both_fit vars a b o o' (cc e) (fits.0, fits.1)
ranged_fits vars structs defs code o o' e fits = absurd (cc e)

-- the instruction at a point fits
pub kinds_at : (flow : Flow) (defs : List Def) → IsValid flow defs → (p : PointId) (code : Instr) → code_at flow p ≡ Some code → FitsKinds flow.vars flow.structs defs code
kinds_at flow defs valid p code e = at (slice_get flow.points p.0) refl e
  where
    at : (o : Option Point) → slice_get flow.points p.0 ≡ o → option_map (λ point. point.code) o ≡ Some code → FitsKinds flow.vars flow.structs defs code
    at None there e = cc
    at (Some point) there e = subst (FitsKinds flow.vars flow.structs defs) (same e) (valid.points p.0 point there).kinds
      where
        same : Some point.code ≡ Some code → point.code ≡ code
        same e = cc

module _ (flow : Flow) (defs : List Def) (valid : IsValid flow defs) (normal : EachHasNormalForm) (law : NormalSaysAll) (fits : OperandFits) (sound : OperandsKeepSound) where
  abbrev structs : List StructInfo
  structs = flow.structs.list

  abbrev own : Ranges
  own = range defs flow.vars structs normal law

  two_least : (s : State) (o o' : Operand) → Made defs flow.vars structs s → (IsFalse s → ⊥) → IsOperand flow.vars Int o → IsOperand flow.vars Int o' → AreLeast own o o' s
  two_least s o o' made true_s left right a b an bn =
      let one = fits defs flow.vars structs s Int o a made left an in
      let two = fits defs flow.vars structs (with_operand s o) Int o' b one.made right bn in
      let t = with_operand (with_operand s o) o' in
      let true_t : IsFalse t → ⊥ = λ h. true_s (sound flow.vars (o ∷ o' ∷ []) (Int ∷ Int ∷ []) s made.bounded (left, (right, tt)) h) in (
        is_least defs flow.vars structs normal law t a two.made true_t (Int, two.grows Int a one.has),
        is_least defs flow.vars structs normal law t b two.made true_t (Int, two.has),
      )

  pub have_ranges : (p : PointId) (s : State) → Made defs flow.vars structs s → HaveRanges own flow p s
  have_ranges p s made code o o' at is true_s =
      let two = ranged_fits flow.vars flow.structs defs code o o' is (kinds_at flow defs valid p code at) in
      two_least s o o' made true_s two.0 two.1
