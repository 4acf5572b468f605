-- The flow graph of a program that is of its kinds is valid.
use Rattle.std.proofs.Common.{◌≡◌, ℕ, ℤ, pos, List, [], ◌∷◌, Some, sym, ◌∙◌, subst, arith}
use Rattle.std.proofs.lemmas.Int.{ints}
use Rattle.std.proofs.lemmas.List.Elements.{All-nil, All-cons, All-weaker, All-contains}
use Rattle.std.proofs.lemmas.Option.{same_Some, slice_get_within}
use Rattle.std.specs.Prelude.{All, Contains, slice_get}
use Rattle.mc_base.specs.declared.plain.Kind.{Kind}
use Rattle.mc_base.specs.declared.plain.Kind.TheVariants.{Int, Ptr}
use Rattle.mc_base.specs.Kinds.{InKind}
use Rattle.mc_flow.specs.declared.graph.Point.{Point}
use Rattle.mc_flow.specs.declared.instr.Instr.{Instr}
use Rattle.mc_flow.specs.declared.instr.Instr.TheVariants.{Skip, Copy, Undef, Input, Add, Sub, Mul, Load, Store, Malloc, Free, TestEq, TestLe, AssumeShape, AssertShape, AssertEmpty, End, Fail}
use Rattle.mc_flow.specs.declared.instr.Operand.{Operand}
use Rattle.mc_flow.specs.declared.instr.Operand.TheVariants.{Const}
use Rattle.mc_flow.specs.Valid.{ArgsFit, IsOperand, IsValid}
use Rattle.mc_semantics.specs.Resolved.Programs.{Function}
use Rattle.mc_lower_spec.specs.Graphs.{Graph}
use Rattle.mc_lower_spec.specs.Lowering.{IsLowering, operands}
use Rattle.mc_lower_laws.specs.Valid.Kinds.{IsWellMade}
use Rattle.mc_lower_laws.proofs.ValidLemmas.Kinded.{FitsAs, FitsAt, here}
use Rattle.mc_lower_laws.proofs.ValidLemmas.Onward.{goes_on_well}
use Rattle.mc_lower_laws.proofs.ValidLemmas.Wholes.{Whole, made_fits}

-- ---- operands are of kinds
abbrev HasKind : Graph → Operand → Type 0
HasKind g o = (kind : Kind) × IsOperand g.flow.vars kind o

no_operands : (g : Graph) → All (HasKind g) []
no_operands g = All-nil (HasKind g)

one_operand : (g : Graph) (o : Operand) → HasKind g o → All (HasKind g) (o ∷ [])
one_operand g o is = All-cons (HasKind g) o [] is (All-nil (HasKind g))

two_operands : (g : Graph) (o p : Operand) → HasKind g o → HasKind g p → All (HasKind g) (o ∷ p ∷ [])
two_operands g o p first second = All-cons (HasKind g) o (p ∷ []) first (one_operand g p second)

all_operands : (g : Graph) (os : List Operand) (kinds : List Kind) → ArgsFit g.flow.vars os kinds → All (HasKind g) os
all_operands g [] kinds fit = All-nil (HasKind g)
all_operands g (o ∷ os) [] fit = absurd fit
all_operands g (o ∷ os) (kind ∷ kinds) fit = All-cons (HasKind g) o os (kind, fit.0) (all_operands g os kinds fit.1)

operands_fit : (g : Graph) (code : Instr) → FitsAs g code → All (HasKind g) (operands code)
operands_fit g (Skip q) fits = no_operands g
operands_fit g (Copy x o q) fits = one_operand g o (fits.0, fits.2)
operands_fit g (Undef xs q) fits = no_operands g
operands_fit g (Input x q) fits = no_operands g
operands_fit g (Add x o p q) fits = two_operands g o p (Int, fits.1) (Int, fits.2)
operands_fit g (Sub x o p q) fits = two_operands g o p (Int, fits.1) (Int, fits.2)
operands_fit g (Mul x o p q) fits = two_operands g o p (Int, fits.1) (Int, fits.2)
operands_fit g (Load x y s f q) fits = no_operands g
operands_fit g (Store y s f o q) fits = one_operand g o (fits.0, fits.3)
operands_fit g (Malloc x s q) fits = no_operands g
operands_fit g (Free o q) fits = one_operand g o (Ptr, fits)
operands_fit g (TestEq o p t f) fits = two_operands g o p (fits.0, fits.1) (fits.0, fits.2)
operands_fit g (TestLe o p t f) fits = two_operands g o p (Int, fits.0) (Int, fits.1)
operands_fit g (AssumeShape predicate x os q) fits = all_operands g os fits.1.def.params fits.1.args
operands_fit g (AssertShape predicate o os q) fits = All-cons (HasKind g) o os (Ptr, fits.0) (all_operands g os fits.1.def.params fits.1.args)
operands_fit g (AssertEmpty q) fits = no_operands g
operands_fit g End fits = no_operands g
operands_fit g Fail fits = no_operands g

int_zero : InKind Int (pos 0)
int_zero = (omega (arith, ints), omega (arith, ints))

constant_fits : (g : Graph) (kind : Kind) (c : ℤ) → IsOperand g.flow.vars kind (Const c) → InKind Int c
constant_fits g Int c is = is
constant_fits g Ptr c is = subst (InKind Int) (sym is) int_zero

-- ---- the whole
fits_there : (g : Graph) (n : ℕ) (p : Point) → slice_get g.flow.points n ≡ Some p → FitsAt g n → FitsAs g p.code
fits_there g n p is here = subst (λ (x : Point). FitsAs g x.code) (same_Some _ _ (sym here.is.there ∙ is)) here.fits

pub valid : (g : Graph) (entry : Function) (out count : ℕ) → IsWellMade g.flow.structs g.program → IsLowering g entry out count → IsValid g.flow g.program.defs
valid g entry out count well lowering =
    let whole : Whole g = record { lengths = lowering.owners ∙ sym lowering.variables; functions = well.functions } in
    let all = made_fits whole (well.functions g.program.entry entry lowering.there) lowering.made in
    let goes = goes_on_well g entry out count lowering in
    let points = lowering.points in
    let fits : (n : ℕ) (p : Point) → slice_get g.flow.points n ≡ Some p → FitsAs g p.code = λ n p is.
    let inside = slice_get_within g.flow.points n p is in fits_there g n p is (all.at n (omega arith) (omega arith)) in
    record {
      begins = goes.begins;
      points = λ n p is. record { follows = goes.follows n p is; kinds = fits n p is };
      heads = goes.heads;
      merges = goes.merges;
      thresholds = All-weaker (λ c. (n : ℕ) × (p : Point) × (slice_get g.flow.points n ≡ Some p) × Contains (operands p.code) (Const c)) (InKind Int)
          (λ c found.
          let its = All-contains (HasKind g) (operands found.1.code) (Const c) (operands_fit g found.1.code (fits found.0 found.1 found.2)) found.3 in
          constant_fits g its.0 c its.1) g.flow.thresholds lowering.thresholds.only;
      definitions = well.definitions;
    }
