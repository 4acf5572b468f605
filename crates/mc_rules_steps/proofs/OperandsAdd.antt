-- The nodes of operands tell nothing of the nodes before.
use Rattle.std.proofs.Common.{◌≡◌, List, [], ◌∷◌, Bool, true, false, Some, refl, subst, inl, inr, ℤ, pos}
use Rattle.std.specs.Prelude.{if◌then◌else◌}
use Rattle.std.specs.Ordering.{int_eq}
use Rattle.mc_base.specs.declared.ids.NodeId.{NodeId}
use Rattle.mc_base.specs.declared.plain.Atom.{Atom}
use Rattle.mc_base.specs.declared.plain.Atom.TheVariants.{In}
use Rattle.mc_base.specs.declared.plain.Kind.{Kind}
use Rattle.mc_base.specs.declared.plain.Kind.TheVariants.{Int}
use Rattle.mc_base.specs.declared.plain.VarInfo.{VarInfo}
use Rattle.mc_base.specs.Atoms.{nodes_of_atom}
use Rattle.mc_flow.specs.declared.defs.rules.Def.{Def}
use Rattle.mc_flow.specs.declared.graph.Flow.{Flow}
use Rattle.mc_flow.specs.declared.instr.Instr.{Instr}
use Rattle.mc_flow.specs.declared.instr.Instr.TheVariants as instr
use Rattle.mc_flow.specs.declared.instr.Operand.{Operand}
use Rattle.mc_flow.specs.declared.instr.Operand.TheVariants.{Var, Const}
use Rattle.mc_flow.specs.Valid.{IsOperand, ArgsFit, FitsKinds}
use Rattle.mc_pure.specs.Pure.{IsNode}
use Rattle.mc_state.specs.Facts.{IsFalse, Derives}
use Rattle.mc_state.specs.Fits.{AreNodes, IsBounded}
use Rattle.mc_state.specs.State.{State, next_node, with_nodes, with_number}
use Rattle.mc_rules_steps.specs.JudgedLaws.{OperandsKeepSound, OperandsTellNothing, RangesSuffice}
use Rattle.mc_rules_steps.specs.Operands.{with_operand, with_operands}
use Rattle.mc_rules_steps.specs.Sums.{ranged}
use Rattle.mc_rules_steps.proofs.Lists.{all_map}
use Rattle.mc_rules_steps.proofs.LowerLaws.{BoundLaws, MadeLaws}
use Rattle.mc_rules_steps.proofs.Moving.{fits_at}
use Rattle.mc_rules_steps.proofs.NumbersAdd.{false_before, followed_before}
use Rattle.mc_rules_steps.proofs.WellMade.{int_const, two_made}

module _ (laws : BoundLaws) (vars : List VarInfo) where
  -- what comes of one operand
  pub record Adds (s t : State) : Type 0 where
    pub bounded : IsBounded t
    pub grows : (m : NodeId) → IsNode s.kinds m → IsNode t.kinds m
    pub sound : IsFalse t → IsFalse s
    pub told : (f : Atom) → AreNodes s.kinds (nodes_of_atom f) → Derives t f → Derives s f

  const_adds : (s : State) (kind : Kind) (c : ℤ) (zero : Bool) → IsBounded s → IsOperand vars kind (Const c) → int_eq c (pos 0) ≡ zero → Adds s (if◌then◌else◌ {A = State} zero s (with_number s c))
  const_adds s kind c true b fits e = record { bounded = b; grows = λ m h. h; sound = λ h. h; told = λ f there h. h }
  const_adds s kind c false b fits e =
      let int = (int_const vars kind c fits e).1 in
      let new = laws.new s (Int ∷ []) in
      let below = λ (m : NodeId) (h : IsNode s.kinds m). laws.below s m b h in
      record {
        bounded = laws.atoms (with_nodes s (Int ∷ [])) (In (next_node s) c c ∷ []) (laws.nodes s (Int ∷ []) b) ((new.0.0, tt), tt);
        grows = new.1;
        sound = false_before s c b below int;
        told = λ f there h. elim h [
          | inl h ↦ inl (followed_before s c b below int f there h)
          | inr wrong ↦ inr (false_before s c b below int wrong)
        ];
      }

  one_adds : (s : State) (kind : Kind) (o : Operand) → IsBounded s → IsOperand vars kind o → Adds s (with_operand s o)
  one_adds s kind (Var x) b fits = record { bounded = b; grows = λ m h. h; sound = λ h. h; told = λ f there h. h }
  one_adds s kind (Const c) b fits = const_adds s kind c (int_eq c (pos 0)) b fits refl

  pub many_add : (os : List Operand) (kinds : List Kind) (s : State) → IsBounded s → ArgsFit vars os kinds → Adds s (with_operands s os)
  many_add [] kinds s b fits = record { bounded = b; grows = λ m h. h; sound = λ h. h; told = λ f there h. h }
  many_add (o ∷ os) [] s b fits = absurd fits
  many_add (o ∷ os) (kind ∷ kinds) s b fits =
      let one = one_adds s kind o b fits.0 in
      let more = many_add os kinds (with_operand s o) one.bounded fits.1 in
      record {
        bounded = more.bounded;
        grows = λ m h. more.grows m (one.grows m h);
        sound = λ h. one.sound (more.sound h);
        told = λ f there h. one.told f there (more.told f (all_map (IsNode s.kinds) (IsNode (with_operand s o).kinds) one.grows (nodes_of_atom f) there) h);
      }

pub operands_keep_sound : BoundLaws → OperandsKeepSound
operands_keep_sound laws vars os kinds s b fits h = (many_add laws vars os kinds s b fits).sound h

pub operands_tell_nothing : BoundLaws → OperandsTellNothing
operands_tell_nothing laws vars os kinds s f b fits there h = (many_add laws vars os kinds s b fits).told f there h

both_fit : (vars : List VarInfo) (a b o o' : Operand) → ◌≡◌ {A = Operand × Operand} (a, b) (o, o') → IsOperand vars Int a × IsOperand vars Int b → IsOperand vars Int o × IsOperand vars Int o'
both_fit vars a b o o' e fits = subst (λ (g : Operand × Operand). IsOperand vars Int g.0 × IsOperand vars Int g.1) e fits

-- the operands of an instruction that asks for ranges are ints
ranged_fits : (flow : Flow) (defs : List Def) (code : Instr) (o o' : Operand) → ranged code ≡ Some (o, o') → FitsKinds flow.vars flow.structs defs code → IsOperand flow.vars Int o × IsOperand flow.vars Int o'
ranged_fits flow defs (instr.Add x a b q) o o' e fits = both_fit flow.vars a b o o' (cc e) (fits.1, fits.2)
ranged_fits flow defs (instr.Sub x a b q) o o' e fits = both_fit flow.vars a b o o' (cc e) (fits.1, fits.2)
ranged_fits flow defs (instr.Mul x a b q) o o' e fits = both_fit flow.vars a b o o' (cc e) (fits.1, fits.2)
ranged_fits flow defs (instr.TestLe a b t f) o o' e fits = both_fit flow.vars a b o o' (cc e) (fits.0, fits.1)
ranged_fits flow defs code o o' e fits = absurd (cc e)

pub ranges_suffice : MadeLaws → RangesSuffice
ranges_suffice laws range flow defs p s valid made tells code o o' at is consistent a b left right =
    let fits = ranged_fits flow defs code o o' is (fits_at flow defs p code valid at) in
    let two = two_made laws defs flow.vars flow.structs.list s Int o o' a b made fits.0 fits.1 left right in
    let before = with_operand (with_operand s o) o' in
    let sound : IsFalse before → ⊥ = λ h. consistent (operands_keep_sound laws.bounds flow.vars (o ∷ o' ∷ []) (Int ∷ Int ∷ []) s made.bounded (fits.0, (fits.1, tt)) h) in (
      tells before a two.made.bounded sound (Int, two.left),
      tells before b two.made.bounded sound (Int, two.right),
    )
