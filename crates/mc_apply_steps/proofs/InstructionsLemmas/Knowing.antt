-- Operands are known by the variables alone.
use Rattle.std.proofs.Common.{◌≡◌, ◌∙◌, ◌++◌, pos, Bool, true, false, List, [], ◌∷◌, Option, Some, None, refl, sym, ap, ap₂, append_assoc}
use Rattle.std.proofs.lemmas.List.{append-nil}
use Rattle.std.specs.Prelude.{◌&&◌, if◌then◌else◌, is_some, option_map, slice_index_or}
use Rattle.std.specs.Ordering.{int_eq}
use Rattle.std.specs.List.{AllByRecursion}
use Rattle.mc_base.specs.declared.ids.NodeId.{NodeId}
use Rattle.mc_base.specs.declared.plain.Kind.{Kind}
use Rattle.mc_base.specs.declared.plain.VarInfo.{VarInfo}
use Rattle.mc_flow.specs.declared.instr.Operand.{Operand}
use Rattle.mc_flow.specs.declared.instr.Operand.TheVariants.{Var, Const}
use Rattle.mc_flow.specs.Valid.{ArgsFit}
use Rattle.mc_pure.specs.Pure.{IsNode, Kinds}
use Rattle.mc_state.specs.Fits.{AreNodes, HaveKinds}
use Rattle.mc_state.specs.State.{State, with_number}
use Rattle.mc_rules_steps.specs.Judges.{operand_nodes, with_first}
use Rattle.mc_rules_steps.specs.Operands.{operand_node, with_operand, with_operands}
use Rattle.mc_apply_steps.specs.Instructions.Arguments.{FitsVars, all_known}

pub vars_stay : (s : State) (o : Operand) → (with_operand s o).env ≡ s.env
vars_stay s (Var x) = refl
vars_stay s (Const c) = at (int_eq c (pos 0))
  where
    at : (b : Bool) → (if◌then◌else◌ {A = State} b s (with_number s c)).env ≡ s.env
    at true = refl
    at false = refl

one_alike : (o : Operand) (s t : State) → t.env ≡ s.env → is_some (operand_node t o) ≡ is_some (operand_node s o)
one_alike (Var x) s t e = ap (λ env. is_some (slice_index_or env x.0 None)) e
one_alike (Const c) s t e = refl

first_known : (n : Option NodeId) (ns : Option (List NodeId)) → is_some (with_first n ns) ≡ (is_some n && is_some ns)
first_known None ns = refl
first_known (Some n) None = refl
first_known (Some n) (Some ns) = refl

pub known_alike : (os : List Operand) (s t : State) → t.env ≡ s.env → is_some (operand_nodes t os) ≡ all_known s os
known_alike [] s t e = refl
known_alike (o ∷ os) s t e =
    first_known (operand_node t o) (operand_nodes (with_operand t o) os)
    ∙ ap₂ (λ a b. a && b) (one_alike o s t e) (known_alike os s (with_operand t o) (vars_stay t o ∙ e))

-- ---- what is put

pub both_parts : (a b : Bool) → (a && b) ≡ true → (a ≡ true) × (b ≡ true)
both_parts true b e = (refl, e)
both_parts false b e = absurd (cc e)

-- the first operand is known, and so are the others with its node
pub parts_known : (s : State) (o : Operand) (os : List Operand) → is_some (operand_nodes s (o ∷ os)) ≡ true
    → (is_some (operand_node s o) ≡ true) × (is_some (operand_nodes (with_operand s o) os) ≡ true)
parts_known s o os e = both_parts (is_some (operand_node s o)) (is_some (operand_nodes (with_operand s o) os)) (sym (first_known (operand_node s o) (operand_nodes (with_operand s o) os)) ∙ e)

-- the nodes that are left after those that were put
pub put_first : (put : List NodeId) (s : State) (o : Operand) (os : List Operand) (n : NodeId) → operand_node s o ≡ Some n
    → option_map (λ ns. (put ++ n ∷ []) ++ ns) (operand_nodes (with_operand s o) os) ≡ option_map (λ ns. put ++ ns) (operand_nodes s (o ∷ os))
put_first put s o os n is = at (operand_nodes (with_operand s o) os) ∙ ap (λ m. option_map (λ ns. put ++ ns) (with_first m (operand_nodes (with_operand s o) os))) (sym is)
  where
    at : (rest : Option (List NodeId)) → option_map (λ ns. (put ++ n ∷ []) ++ ns) rest ≡ option_map (λ ns. put ++ ns) (with_first (Some n) rest)
    at None = refl
    at (Some ns) = ap (λ ns. Some ns) (append_assoc put (n ∷ []) ns)

pub each_fits : (vars : List VarInfo) (os : List Operand) (kinds : List Kind) → ArgsFit vars os kinds → AllByRecursion (FitsVars vars) os
each_fits vars [] [] fits = tt
each_fits vars [] (k ∷ kinds) fits = absurd fits
each_fits vars (o ∷ os) [] fits = absurd fits
each_fits vars (o ∷ os) (k ∷ kinds) fits = (record { kind = k; fits = fits.0 }, each_fits vars os kinds fits.1)

pub are_nodes : (kinds : Kinds) (ks : List Kind) (ns : List NodeId) → HaveKinds kinds ks ns → AreNodes kinds ns
are_nodes kinds [] [] h = tt
are_nodes kinds [] (n ∷ ns) h = absurd h
are_nodes kinds (k ∷ ks) [] h = absurd h
are_nodes kinds (k ∷ ks) (n ∷ ns) h = ((k, h.0), are_nodes kinds ks ns h.1)

-- ---- more nodes

pub nodes_grow : (kinds more : Kinds) (ns : List NodeId) → ((n : NodeId) → IsNode kinds n → IsNode more n) → AreNodes kinds ns → AreNodes more ns
nodes_grow kinds more [] grows there = tt
nodes_grow kinds more (n ∷ ns) grows there = (grows n there.0, nodes_grow kinds more ns grows there.1)

pub some_of : {A : Type 0} (o : Option A) → is_some o ≡ true → (x : A) × (o ≡ Some x)
some_of None e = absurd (cc e)
some_of (Some x) e = (x, refl)

-- ---- operands that are put one after the other

-- of all operands these are left at a state, after the nodes that were put
pub record AreLeft (start : State) (all : List Operand) (s : State) (put : List NodeId) (rest : List Operand) : Type 0 where
  pub nodes : option_map (λ ns. put ++ ns) (operand_nodes s rest) ≡ operand_nodes start all
  pub state : with_operands s rest ≡ with_operands start all
  pub known : is_some (operand_nodes s rest) ≡ true
  pub fits : (vars : List VarInfo) × AllByRecursion (FitsVars vars) rest

behind_none : (o : Option (List NodeId)) → option_map (λ ns. [] ++ ns) o ≡ o
behind_none None = refl
behind_none (Some ns) = refl

pub all_left : (s : State) (os : List Operand) → is_some (operand_nodes s os) ≡ true → (vars : List VarInfo) × AllByRecursion (FitsVars vars) os → AreLeft s os s [] os
all_left s os known fits = record { nodes = behind_none (operand_nodes s os); state = refl; known = known; fits = fits }

pub first_left : (start : State) (all : List Operand) (s : State) (put : List NodeId) (o : Operand) (rest : List Operand) → AreLeft start all s put (o ∷ rest)
    → (is_some (operand_node s o) ≡ true) × ((vars : List VarInfo) × FitsVars vars o)
first_left start all s put o rest left = ((parts_known s o rest left.known).0, (left.fits.0, left.fits.1.0))

pub others_left : (start : State) (all : List Operand) (s : State) (put : List NodeId) (o : Operand) (rest : List Operand) (n : NodeId) → AreLeft start all s put (o ∷ rest)
    → operand_node s o ≡ Some n → AreLeft start all (with_operand s o) (put ++ n ∷ []) rest
others_left start all s put o rest n left is =
    record {
      nodes = put_first put s o rest n is ∙ left.nodes;
      state = left.state;
      known = (parts_known s o rest left.known).1;
      fits = (left.fits.0, left.fits.1.1);
    }

pub none_left : (start : State) (all : List Operand) (s : State) (put : List NodeId) → AreLeft start all s put [] → (operand_nodes start all ≡ Some put) × (s ≡ with_operands start all)
none_left start all s put left = (sym left.nodes ∙ ap (λ (ns : List NodeId). Some ns) (append-nil put), left.state)
