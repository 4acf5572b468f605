-- What instructions lack, form by form.
use Rattle.std.proofs.Common.{◌≡◌, ℕ, Bool, List, Some, refl}
use Rattle.std.specs.Prelude.{option_and_then}
use Rattle.mc_base.specs.declared.ids.NodeId.{NodeId}
use Rattle.mc_base.specs.declared.ids.StructId.{StructId}
use Rattle.mc_base.specs.declared.ids.VarId.{VarId}
use Rattle.mc_base.specs.declared.plain.Kind.TheVariants.{Ptr}
use Rattle.mc_base.specs.declared.plain.VarInfo.{VarInfo}
use Rattle.mc_flow.specs.declared.defs.rules.Def.{Def}
use Rattle.mc_flow.specs.declared.defs.shapes.Structs.{Structs}
use Rattle.mc_flow.specs.declared.instr.Operand.{Operand}
use Rattle.mc_flow.specs.declared.instr.Instr.{Instr}
use Rattle.mc_flow.specs.declared.instr.Instr.TheVariants as instr
use Rattle.mc_flow.specs.Valid.{FitsKinds, IsOperand}
use Rattle.mc_state.specs.Known.{Test}
use Rattle.mc_state.specs.State.{State, var_node}
use Rattle.mc_rules_steps.specs.declared.gap.Gap.{Gap}
use Rattle.mc_rules_steps.specs.declared.gap.Gap.TheVariants.{Uninit, NoBlock, Reached, NoShape, UninitField, NotEmpty}
use Rattle.mc_rules_steps.specs.Unmet.{Lacks, LacksAccess, LacksField, LacksFreed, LacksEmptiness}
use Rattle.mc_gaps.specs.Unmet.Gaps.{lacking, block_gap, field_gap, freed_gap, empty_gap}

-- the gap is neither a shape nor a variable that is not known
abbrev pub IsPlain : Gap → Type 0
IsPlain (Uninit x) = ⊥
IsPlain (NoBlock n) = Unit {0}
IsPlain Reached = Unit {0}
IsPlain (NoShape pred n) = ⊥
IsPlain (UninitField n f) = Unit {0}
IsPlain (NotEmpty flag) = Unit {0}

-- what the tests of blocks, fields and of what is allocated tell
pub record Tests (know : Test) (defs : List Def) (s : State) : Type 0 where
  pub load_from : (x y : VarId) (shape : StructId) (f : ℕ) (q : _) (gap : Gap) → option_and_then (field_gap know defs shape f s.graph.edges) (var_node s y) ≡ Some gap → Lacks defs (instr.Load x y shape f q) s gap × IsPlain gap
  pub store_from : (y : VarId) (shape : StructId) (f : ℕ) (o : Operand) (q : _) (gap : Gap) → option_and_then (block_gap know defs shape s.graph.edges) (var_node s y) ≡ Some gap → Lacks defs (instr.Store y shape f o q) s gap × IsPlain gap
  pub free_from : (o : Operand) (q : _) (gap : Gap) → freed_gap know defs s o ≡ Some gap → Lacks defs (instr.Free o q) s gap × IsPlain gap
  pub empty_from : (q : _) (gap : Gap) → empty_gap know s ≡ Some gap → Lacks defs (instr.AssertEmpty q) s gap × IsPlain gap
  pub block_to : (y : VarId) (shape : StructId) (n : NodeId) → LacksAccess defs s y shape n → option_and_then (block_gap know defs shape s.graph.edges) (var_node s y) ≡ Some (NoBlock n)
  pub load_to : (y : VarId) (shape : StructId) (f : ℕ) (n : NodeId) → LacksAccess defs s y shape n → option_and_then (field_gap know defs shape f s.graph.edges) (var_node s y) ≡ Some (NoBlock n)
  pub field_to : (y : VarId) (shape : StructId) (f : ℕ) (n : NodeId) (g : ℕ) → LacksField s y shape f n g → option_and_then (field_gap know defs shape f s.graph.edges) (var_node s y) ≡ Some (UninitField n g)
  pub free_to : (vars : List VarInfo) (o : Operand) (n : NodeId) → IsOperand vars Ptr o → LacksFreed defs s o n → freed_gap know defs s o ≡ Some (NoBlock n)
  pub empty_to : (flag : Bool) → LacksEmptiness s flag → empty_gap know s ≡ Some (NotEmpty flag)

module _ (know : Test) (defs : List Def) (s : State) (tests : Tests know defs s) where
  pub lacking_from : (code : Instr) (gap : Gap) → lacking know defs code s ≡ Some gap → Lacks defs code s gap × IsPlain gap
  lacking_from (instr.Skip q) gap e = absurd (cc e)
  lacking_from (instr.Copy x o q) gap e = absurd (cc e)
  lacking_from (instr.Undef xs q) gap e = absurd (cc e)
  lacking_from (instr.Input x q) gap e = absurd (cc e)
  lacking_from (instr.Add x o p q) gap e = absurd (cc e)
  lacking_from (instr.Sub x o p q) gap e = absurd (cc e)
  lacking_from (instr.Mul x o p q) gap e = absurd (cc e)
  lacking_from (instr.Load x y shape f q) gap e = tests.load_from x y shape f q gap e
  lacking_from (instr.Store y shape f o q) gap e = tests.store_from y shape f o q gap e
  lacking_from (instr.Malloc x shape q) gap e = absurd (cc e)
  lacking_from (instr.Free o q) gap e = tests.free_from o q gap e
  lacking_from (instr.TestEq o p t f) gap e = absurd (cc e)
  lacking_from (instr.TestLe o p t f) gap e = absurd (cc e)
  lacking_from (instr.AssumeShape pred x os q) gap e = absurd (cc e)
  lacking_from (instr.AssertShape pred o os q) gap e = absurd (cc e)
  lacking_from (instr.AssertEmpty q) gap e = tests.empty_from q gap e
  lacking_from instr.End gap e = absurd (cc e)
  lacking_from instr.Fail gap e = reached gap e
    where
      reached : (gap : Gap) → Some Reached ≡ Some gap → Lacks defs instr.Fail s gap × IsPlain gap
      reached (Uninit x) e = absurd (cc e)
      reached (NoBlock n) e = absurd (cc e)
      reached Reached e = (tt, tt)
      reached (NoShape pred n) e = absurd (cc e)
      reached (UninitField n f) e = absurd (cc e)
      reached (NotEmpty flag) e = absurd (cc e)

  module _ (vars : List VarInfo) (structs : Structs) where
    no_block : (code : Instr) (n : NodeId) → FitsKinds vars structs defs code → Lacks defs code s (NoBlock n) → lacking know defs code s ≡ Some (NoBlock n)
    no_block (instr.Skip q) n fits l = absurd l
    no_block (instr.Copy x o q) n fits l = absurd l
    no_block (instr.Undef xs q) n fits l = absurd l
    no_block (instr.Input x q) n fits l = absurd l
    no_block (instr.Add x o p q) n fits l = absurd l
    no_block (instr.Sub x o p q) n fits l = absurd l
    no_block (instr.Mul x o p q) n fits l = absurd l
    no_block (instr.Load x y shape f q) n fits l = tests.load_to y shape f n l
    no_block (instr.Store y shape f o q) n fits l = tests.block_to y shape n l
    no_block (instr.Malloc x shape q) n fits l = absurd l
    no_block (instr.Free o q) n fits l = tests.free_to vars o n fits l
    no_block (instr.TestEq o p t f) n fits l = absurd l
    no_block (instr.TestLe o p t f) n fits l = absurd l
    no_block (instr.AssumeShape pred x os q) n fits l = absurd l
    no_block (instr.AssertShape pred o os q) n fits l = absurd l
    no_block (instr.AssertEmpty q) n fits l = absurd l
    no_block instr.End n fits l = absurd l
    no_block instr.Fail n fits l = absurd l

    is_reached : (code : Instr) → FitsKinds vars structs defs code → Lacks defs code s Reached → lacking know defs code s ≡ Some Reached
    is_reached (instr.Skip q) fits l = absurd l
    is_reached (instr.Copy x o q) fits l = absurd l
    is_reached (instr.Undef xs q) fits l = absurd l
    is_reached (instr.Input x q) fits l = absurd l
    is_reached (instr.Add x o p q) fits l = absurd l
    is_reached (instr.Sub x o p q) fits l = absurd l
    is_reached (instr.Mul x o p q) fits l = absurd l
    is_reached (instr.Load x y shape f q) fits l = absurd l
    is_reached (instr.Store y shape f o q) fits l = absurd l
    is_reached (instr.Malloc x shape q) fits l = absurd l
    is_reached (instr.Free o q) fits l = absurd l
    is_reached (instr.TestEq o p t f) fits l = absurd l
    is_reached (instr.TestLe o p t f) fits l = absurd l
    is_reached (instr.AssumeShape pred x os q) fits l = absurd l
    is_reached (instr.AssertShape pred o os q) fits l = absurd l
    is_reached (instr.AssertEmpty q) fits l = absurd l
    is_reached instr.End fits l = absurd l
    is_reached instr.Fail fits l = refl

    no_field : (code : Instr) (n : NodeId) (g : ℕ) → FitsKinds vars structs defs code → Lacks defs code s (UninitField n g) → lacking know defs code s ≡ Some (UninitField n g)
    no_field (instr.Skip q) n g fits l = absurd l
    no_field (instr.Copy x o q) n g fits l = absurd l
    no_field (instr.Undef xs q) n g fits l = absurd l
    no_field (instr.Input x q) n g fits l = absurd l
    no_field (instr.Add x o p q) n g fits l = absurd l
    no_field (instr.Sub x o p q) n g fits l = absurd l
    no_field (instr.Mul x o p q) n g fits l = absurd l
    no_field (instr.Load x y shape f q) n g fits l = tests.field_to y shape f n g l
    no_field (instr.Store y shape f o q) n g fits l = absurd l
    no_field (instr.Malloc x shape q) n g fits l = absurd l
    no_field (instr.Free o q) n g fits l = absurd l
    no_field (instr.TestEq o p t f) n g fits l = absurd l
    no_field (instr.TestLe o p t f) n g fits l = absurd l
    no_field (instr.AssumeShape pred x os q) n g fits l = absurd l
    no_field (instr.AssertShape pred o os q) n g fits l = absurd l
    no_field (instr.AssertEmpty q) n g fits l = absurd l
    no_field instr.End n g fits l = absurd l
    no_field instr.Fail n g fits l = absurd l

    not_empty : (code : Instr) (flag : Bool) → FitsKinds vars structs defs code → Lacks defs code s (NotEmpty flag) → lacking know defs code s ≡ Some (NotEmpty flag)
    not_empty (instr.Skip q) flag fits l = absurd l
    not_empty (instr.Copy x o q) flag fits l = absurd l
    not_empty (instr.Undef xs q) flag fits l = absurd l
    not_empty (instr.Input x q) flag fits l = absurd l
    not_empty (instr.Add x o p q) flag fits l = absurd l
    not_empty (instr.Sub x o p q) flag fits l = absurd l
    not_empty (instr.Mul x o p q) flag fits l = absurd l
    not_empty (instr.Load x y shape f q) flag fits l = absurd l
    not_empty (instr.Store y shape f o q) flag fits l = absurd l
    not_empty (instr.Malloc x shape q) flag fits l = absurd l
    not_empty (instr.Free o q) flag fits l = absurd l
    not_empty (instr.TestEq o p t f) flag fits l = absurd l
    not_empty (instr.TestLe o p t f) flag fits l = absurd l
    not_empty (instr.AssumeShape pred x os q) flag fits l = absurd l
    not_empty (instr.AssertShape pred o os q) flag fits l = absurd l
    not_empty (instr.AssertEmpty q) flag fits l = tests.empty_to flag l
    not_empty instr.End flag fits l = absurd l
    not_empty instr.Fail flag fits l = absurd l

    pub lacking_to : (code : Instr) (gap : Gap) → IsPlain gap → FitsKinds vars structs defs code → Lacks defs code s gap → lacking know defs code s ≡ Some gap
    lacking_to code (Uninit x) plain fits l = absurd plain
    lacking_to code (NoBlock n) plain fits l = no_block code n fits l
    lacking_to code Reached plain fits l = is_reached code fits l
    lacking_to code (NoShape pred n) plain fits l = absurd plain
    lacking_to code (UninitField n f) plain fits l = no_field code n f fits l
    lacking_to code (NotEmpty flag) plain fits l = not_empty code flag fits l
