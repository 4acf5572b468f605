-- An unmet instruction has one cause.
use Rattle.std.proofs.Common.{◌≡◌, ℕ, List, [], ◌∷◌, Bool, Some, None, refl, sym, ap, ap₂, ◌∙◌, subst, inl, inr}
use Rattle.mc_base.specs.declared.ids.NodeId.{NodeId}
use Rattle.mc_base.specs.declared.ids.PredId.{PredId}
use Rattle.mc_base.specs.declared.ids.VarId.{VarId}
use Rattle.mc_flow.specs.declared.defs.rules.Def.{Def}
use Rattle.mc_flow.specs.declared.instr.Instr.{Instr}
use Rattle.mc_flow.specs.declared.instr.Instr.TheVariants.{Load, Store, Free, AssertShape, AssertEmpty, Fail}
use Rattle.mc_flow.specs.declared.instr.Operand.{Operand}
use Rattle.mc_flow.specs.declared.instr.Operand.TheVariants.{Var, Const}
use Rattle.mc_state.specs.State.{State, var_node}
use Rattle.mc_rules_steps.specs.declared.gap.Gap.{Gap}
use Rattle.mc_rules_steps.specs.declared.gap.Gap.TheVariants.{Uninit, NoBlock, Reached, NoShape, UninitField, NotEmpty}
use Rattle.mc_rules_steps.specs.JudgedLaws.{CausesAreOne}
use Rattle.mc_rules_steps.specs.Operands.{operand_node, HasBlock}
use Rattle.mc_rules_steps.specs.Unmet.{taken, IsFirstUnknown, Lacks, IsGap}
use Rattle.mc_rules_steps.proofs.Gaps.{known_first, same_node}

first_once : (s : State) (os : List Operand) (x y : VarId) → IsFirstUnknown s os x → IsFirstUnknown s os y → x ≡ y
first_once s [] x y f g = absurd f
first_once s (Var z ∷ os) x y (inl f) (inl g) = f.1 ∙ sym g.1
first_once s (Var z ∷ os) x y (inl f) (inr g) = let clash : None ≡ Some g.0 = sym f.0 ∙ g.1 in cc
first_once s (Var z ∷ os) x y (inr f) (inl g) = let clash : None ≡ Some f.0 = sym g.0 ∙ f.1 in cc
first_once s (Var z ∷ os) x y (inr f) (inr g) = first_once s os x y f.2 g.2
first_once s (Const c ∷ os) x y f g = first_once s os x y f g

-- ---- two gaps of one form

no_blocks : (defs : List Def) (code : Instr) (s : State) (n m : NodeId) → Lacks defs code s (NoBlock n) → Lacks defs code s (NoBlock m) → n ≡ m
no_blocks defs (Load x y shape f q) s n m l k = same_node (var_node s y) n m l.0 k.0
no_blocks defs (Store y shape f o q) s n m l k = same_node (var_node s y) n m l.0 k.0
no_blocks defs (Free o q) s n m l k = same_node (operand_node s o) n m l.0 k.0
no_blocks defs code s n m l k = absurd l

no_fields : (defs : List Def) (code : Instr) (s : State) (n m : NodeId) (f g : ℕ) → Lacks defs code s (UninitField n f) → Lacks defs code s (UninitField m g) → UninitField n f ≡ UninitField m g
no_fields defs (Load x y shape h q) s n m f g l k = ap₂ UninitField (same_node (var_node s y) n m l.0 k.0) (l.1 ∙ sym k.1)
no_fields defs code s n m f g l k = absurd l

no_shapes : (defs : List Def) (code : Instr) (s : State) (p q : PredId) (n m : NodeId) → Lacks defs code s (NoShape p n) → Lacks defs code s (NoShape q m) → NoShape p n ≡ NoShape q m
no_shapes defs (AssertShape pred o os r) s p q n m l k = ap₂ NoShape (l.0 ∙ sym k.0) (same_node (operand_node s o) n m l.1 k.1)
no_shapes defs code s p q n m l k = absurd l

not_empty : (defs : List Def) (code : Instr) (s : State) (a b : Bool) → Lacks defs code s (NotEmpty a) → Lacks defs code s (NotEmpty b) → a ≡ b
not_empty defs (AssertEmpty q) s a b l k = l.0 ∙ sym k.0
not_empty defs code s a b l k = absurd l

-- ---- two gaps of other forms

block_or_field : (defs : List Def) (code : Instr) (s : State) (n m : NodeId) (f : ℕ) → Lacks defs code s (NoBlock n) → Lacks defs code s (UninitField m f) → ⊥
block_or_field defs (Load x y shape g q) s n m f l k = l.1.block (subst (λ (j : NodeId). HasBlock s j shape) (same_node (var_node s y) m n k.0 l.0) k.2.0)
block_or_field defs code s n m f l k = absurd k

block_or_reached : (defs : List Def) (code : Instr) (s : State) (n : NodeId) → Lacks defs code s (NoBlock n) → Lacks defs code s Reached → ⊥
block_or_reached defs Fail s n l k = l
block_or_reached defs code s n l k = k

block_or_shape : (defs : List Def) (code : Instr) (s : State) (n m : NodeId) (p : PredId) → Lacks defs code s (NoBlock n) → Lacks defs code s (NoShape p m) → ⊥
block_or_shape defs (AssertShape pred o os r) s n m p l k = l
block_or_shape defs code s n m p l k = k

block_or_left : (defs : List Def) (code : Instr) (s : State) (n : NodeId) (b : Bool) → Lacks defs code s (NoBlock n) → Lacks defs code s (NotEmpty b) → ⊥
block_or_left defs (AssertEmpty q) s n b l k = l
block_or_left defs code s n b l k = k

field_or_reached : (defs : List Def) (code : Instr) (s : State) (n : NodeId) (f : ℕ) → Lacks defs code s (UninitField n f) → Lacks defs code s Reached → ⊥
field_or_reached defs Fail s n f l k = l
field_or_reached defs code s n f l k = k

field_or_shape : (defs : List Def) (code : Instr) (s : State) (n m : NodeId) (f : ℕ) (p : PredId) → Lacks defs code s (UninitField n f) → Lacks defs code s (NoShape p m) → ⊥
field_or_shape defs (AssertShape pred o os r) s n m f p l k = l
field_or_shape defs code s n m f p l k = k

field_or_left : (defs : List Def) (code : Instr) (s : State) (n : NodeId) (f : ℕ) (b : Bool) → Lacks defs code s (UninitField n f) → Lacks defs code s (NotEmpty b) → ⊥
field_or_left defs (AssertEmpty q) s n f b l k = l
field_or_left defs code s n f b l k = k

reached_or_shape : (defs : List Def) (code : Instr) (s : State) (m : NodeId) (p : PredId) → Lacks defs code s Reached → Lacks defs code s (NoShape p m) → ⊥
reached_or_shape defs (AssertShape pred o os r) s m p l k = l
reached_or_shape defs code s m p l k = k

reached_or_left : (defs : List Def) (code : Instr) (s : State) (b : Bool) → Lacks defs code s Reached → Lacks defs code s (NotEmpty b) → ⊥
reached_or_left defs (AssertEmpty q) s b l k = l
reached_or_left defs code s b l k = k

shape_or_left : (defs : List Def) (code : Instr) (s : State) (m : NodeId) (p : PredId) (b : Bool) → Lacks defs code s (NoShape p m) → Lacks defs code s (NotEmpty b) → ⊥
shape_or_left defs (AssertEmpty q) s m p b l k = l
shape_or_left defs code s m p b l k = k

gap_once : (defs : List Def) (code : Instr) (s : State) (gap other : Gap) → IsGap defs code s gap → IsGap defs code s other → gap ≡ other
gap_once defs code s (Uninit x) (Uninit y) l k = ap Uninit (first_once s (taken code) x y l k)
gap_once defs code s (Uninit x) (NoBlock m) l k = absurd (known_first s (taken code) x k.0 l)
gap_once defs code s (Uninit x) Reached l k = absurd (known_first s (taken code) x k.0 l)
gap_once defs code s (Uninit x) (NoShape q m) l k = absurd (known_first s (taken code) x k.0 l)
gap_once defs code s (Uninit x) (UninitField m g) l k = absurd (known_first s (taken code) x k.0 l)
gap_once defs code s (Uninit x) (NotEmpty b) l k = absurd (known_first s (taken code) x k.0 l)
gap_once defs code s (NoBlock n) (Uninit y) l k = absurd (known_first s (taken code) y l.0 k)
gap_once defs code s (NoBlock n) (NoBlock m) l k = ap NoBlock (no_blocks defs code s n m l.1 k.1)
gap_once defs code s (NoBlock n) Reached l k = absurd (block_or_reached defs code s n l.1 k.1)
gap_once defs code s (NoBlock n) (NoShape q m) l k = absurd (block_or_shape defs code s n m q l.1 k.1)
gap_once defs code s (NoBlock n) (UninitField m g) l k = absurd (block_or_field defs code s n m g l.1 k.1)
gap_once defs code s (NoBlock n) (NotEmpty b) l k = absurd (block_or_left defs code s n b l.1 k.1)
gap_once defs code s Reached (Uninit y) l k = absurd (known_first s (taken code) y l.0 k)
gap_once defs code s Reached (NoBlock m) l k = absurd (block_or_reached defs code s m k.1 l.1)
gap_once defs code s Reached Reached l k = refl
gap_once defs code s Reached (NoShape q m) l k = absurd (reached_or_shape defs code s m q l.1 k.1)
gap_once defs code s Reached (UninitField m g) l k = absurd (field_or_reached defs code s m g k.1 l.1)
gap_once defs code s Reached (NotEmpty b) l k = absurd (reached_or_left defs code s b l.1 k.1)
gap_once defs code s (NoShape p n) (Uninit y) l k = absurd (known_first s (taken code) y l.0 k)
gap_once defs code s (NoShape p n) (NoBlock m) l k = absurd (block_or_shape defs code s m n p k.1 l.1)
gap_once defs code s (NoShape p n) Reached l k = absurd (reached_or_shape defs code s n p k.1 l.1)
gap_once defs code s (NoShape p n) (NoShape q m) l k = no_shapes defs code s p q n m l.1 k.1
gap_once defs code s (NoShape p n) (UninitField m g) l k = absurd (field_or_shape defs code s m n g p k.1 l.1)
gap_once defs code s (NoShape p n) (NotEmpty b) l k = absurd (shape_or_left defs code s n p b l.1 k.1)
gap_once defs code s (UninitField n f) (Uninit y) l k = absurd (known_first s (taken code) y l.0 k)
gap_once defs code s (UninitField n f) (NoBlock m) l k = absurd (block_or_field defs code s m n f k.1 l.1)
gap_once defs code s (UninitField n f) Reached l k = absurd (field_or_reached defs code s n f l.1 k.1)
gap_once defs code s (UninitField n f) (NoShape q m) l k = absurd (field_or_shape defs code s n m f q l.1 k.1)
gap_once defs code s (UninitField n f) (UninitField m g) l k = no_fields defs code s n m f g l.1 k.1
gap_once defs code s (UninitField n f) (NotEmpty b) l k = absurd (field_or_left defs code s n f b l.1 k.1)
gap_once defs code s (NotEmpty a) (Uninit y) l k = absurd (known_first s (taken code) y l.0 k)
gap_once defs code s (NotEmpty a) (NoBlock m) l k = absurd (block_or_left defs code s m a k.1 l.1)
gap_once defs code s (NotEmpty a) Reached l k = absurd (reached_or_left defs code s a k.1 l.1)
gap_once defs code s (NotEmpty a) (NoShape q m) l k = absurd (shape_or_left defs code s m q a k.1 l.1)
gap_once defs code s (NotEmpty a) (UninitField m g) l k = absurd (field_or_left defs code s m g a k.1 l.1)
gap_once defs code s (NotEmpty a) (NotEmpty b) l k = ap NotEmpty (not_empty defs code s a b l.1 k.1)

pub causes_are_one : CausesAreOne
causes_are_one flow defs p s gap other u v =
    let listed : Some u.code ≡ Some v.code = sym u.at ∙ v.at in
    let same : v.code ≡ u.code = cc in
    gap_once defs u.code s gap other u.lacks (subst (λ (c : Instr). IsGap defs c s other) same v.lacks)
