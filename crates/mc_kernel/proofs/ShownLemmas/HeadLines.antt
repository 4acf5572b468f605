-- Heads that are read, and heads that are malformed.
use Rattle.std.proofs.Common.{◌≡◌, ℕ, zero, suc, pos, Bool, true, false, Some, None, Option, List, [], ◌∷◌, map, slice_get, refl, ap, sym, subst, ◌∙◌, inl, inr, arith}
use Rattle.std.proofs.lemmas.Int.{ints}
use Rattle.std.specs.Prelude.{◌⊎◌, ◌≤ℤ◌, ◌<◌, get_or, length}
use Rattle.mc_base.specs.declared.ids.PredId.{PredId}
use Rattle.mc_base.specs.declared.ids.StructId.{StructId}
use Rattle.mc_base.specs.declared.ids.NodeId.{NodeId}
use Rattle.mc_base.specs.declared.plain.Atom.TheVariants.{Eq, Ne, In}
use Rattle.mc_base.specs.declared.plain.Kind.{Kind}
use Rattle.mc_base.specs.declared.plain.Kind.TheVariants as kind
use Rattle.mc_base.specs.Nodes.{null}
use Rattle.std.specs.List.{AllByRecursion}
use Rattle.mc_flow.specs.declared.defs.rules.Def.{Def}
use Rattle.mc_flow.specs.declared.defs.rules.Rule.{Rule}
use Rattle.mc_flow.specs.declared.defs.shapes.StructInfo.{StructInfo}
use Rattle.mc_flow.specs.Defs.Examples.{defs, structs, cell_struct, list_def, lenlist_def, cell_id, fork_id, list_id, lenlist_id}
use Rattle.mc_state.specs.declared.graph.edge.Edge.TheVariants.{Block, Ind, Seg}
use Rattle.mc_pure.specs.Examples.{node}
use Rattle.mc_pure.specs.Pure.{Kinds}
use Rattle.mc_state.specs.Fits.{ArgsFit, HaveKinds, MayHaveKinds}
use Rattle.mc_state.specs.declared.raw_state.NodeKind.{NodeKind}
use Rattle.mc_state.specs.declared.raw_state.NodeKind.TheVariants.{Zero, Int, Ptr}
use Rattle.mc_state.specs.declared.raw_state.RawState.{RawState}
use Rattle.mc_state.specs.RawStates.{IsWellFormedRaw}
use Rattle.mc_kernel.specs.Examples.{at}
use Rattle.mc_kernel.specs.Readings.{heading}
use Rattle.mc_state.proofs.Lists.{all_at}
use Rattle.mc_kernel.specs.Shown.Heads.{vars, behind_cut, IsMalformed, IsRead, kinds, good, with_vars, with_edge, with_written, with_kinds}

not_true : (b : Bool) → (b ≡ true → ⊥) → b ≡ false
not_true true n = absurd (n refl)
not_true false n = refl

-- a state that is not well formed is refused
malformed : (raw : RawState) → (IsWellFormedRaw defs vars structs raw → ⊥) → IsMalformed raw
malformed raw bad k well finds = rw (not_true (well raw) (λ e. bad ((finds raw).0 e))) refl

-- a node that is there with another kind, or is not there
clash : (n : ℕ) (o : Option Kind) (wanted : Kind) → (n ≡ 0 → ⊥) → (o ≡ Some wanted → ⊥) → (◌≡◌ {A = NodeId} (node n) null) ⊎ (o ≡ Some wanted) → ⊥
clash n o wanted some none (inl e) = some (ap (λ (m : NodeId). m.0) e)
clash n o wanted some none (inr e) = none e

-- ---- variables

pub few_vars : IsMalformed (with_vars (Some (node 2) ∷ []))
few_vars = malformed (with_vars (Some (node 2) ∷ [])) (λ w. w.made.fits_program.vars_fit.1)

pub many_vars : IsMalformed (with_vars (Some (node 2) ∷ Some (node 1) ∷ None ∷ []))
many_vars = malformed (with_vars (Some (node 2) ∷ Some (node 1) ∷ None ∷ [])) (λ w. w.made.fits_program.vars_fit.1.1)

pub var_of_kind : IsMalformed (with_vars (Some (node 1) ∷ None ∷ []))
var_of_kind = malformed (with_vars (Some (node 1) ∷ None ∷ [])) (λ w. clash 1 (Some kind.Ptr) kind.Int (λ e. omega arith) (λ e. cc e) w.made.fits_program.vars_fit.0)

pub var_absent : IsMalformed (with_vars (Some (node 4) ∷ None ∷ []))
var_absent = malformed (with_vars (Some (node 4) ∷ None ∷ [])) (λ w. clash 4 None kind.Int (λ e. omega arith) (λ e. cc e) w.made.fits_program.vars_fit.0)

-- ---- blocks

-- a block's fields are those of its struct
fields_of_struct : (kinds : Kinds) (shape : StructId) (fields : List (Option NodeId)) (struct : StructInfo) → slice_get structs shape.0 ≡ Some struct
    → (info : StructInfo) × (slice_get structs shape.0 ≡ Some info) × MayHaveKinds kinds (map (λ f. f.kind) info.fields) fields → MayHaveKinds kinds (map (λ f. f.kind) struct.fields) fields
fields_of_struct kinds shape fields struct is (info, there, fit) =
    let same : info ≡ struct = cc (there, is) in
    subst (λ (i : StructInfo). MayHaveKinds kinds (map (λ f. f.kind) i.fields) fields) same fit

abbrev node_kinds : Kinds
node_kinds = (node 1, kind.Ptr) ∷ (node 2, kind.Int) ∷ (node 3, kind.Ptr) ∷ []

pub few_fields : IsMalformed (with_edge (Block (node 1) cell_id (Some (node 2) ∷ [])))
few_fields = malformed (with_edge (Block (node 1) cell_id (Some (node 2) ∷ []))) (λ w.
    (fields_of_struct node_kinds cell_id (Some (node 2) ∷ []) cell_struct refl w.made.fits_program.blocks_fit.0).1)

pub many_fields : IsMalformed (with_edge (Block (node 1) cell_id (Some (node 2) ∷ None ∷ None ∷ [])))
many_fields = malformed (with_edge (Block (node 1) cell_id (Some (node 2) ∷ None ∷ None ∷ []))) (λ w.
    (fields_of_struct node_kinds cell_id (Some (node 2) ∷ None ∷ None ∷ []) cell_struct refl w.made.fits_program.blocks_fit.0).1.1)

pub field_of_kind : IsMalformed (with_edge (Block (node 1) cell_id (Some (node 3) ∷ None ∷ [])))
field_of_kind = malformed (with_edge (Block (node 1) cell_id (Some (node 3) ∷ None ∷ []))) (λ w.
    clash 3 (Some kind.Ptr) kind.Int (λ e. omega arith) (λ e. cc e)
    (fields_of_struct node_kinds cell_id (Some (node 3) ∷ None ∷ []) cell_struct refl w.made.fits_program.blocks_fit.0).0)

pub no_struct : IsMalformed (with_edge (Block (node 1) (record { 0 = 2 }) (None ∷ None ∷ [])))
no_struct = malformed (with_edge (Block (node 1) (record { 0 = 2 }) (None ∷ None ∷ []))) (λ w.
    let there : ◌≡◌ {A = Option StructInfo} None (Some w.made.fits_program.blocks_fit.0.0) = w.made.fits_program.blocks_fit.0.1 in cc there)

pub block_at_number : IsMalformed (with_edge (Block (node 2) cell_id (None ∷ None ∷ [])))
block_at_number = malformed (with_edge (Block (node 2) cell_id (None ∷ None ∷ []))) (λ w.
    clash 2 (Some kind.Int) kind.Ptr (λ e. omega arith) (λ e. cc e) w.made.fits_defs.0.0)

-- ---- predicates

-- arguments are those of the predicate
args_of_def : (kinds : Kinds) (pred : PredId) (args : List NodeId) (def : Def) → slice_get defs pred.0 ≡ Some def → ArgsFit defs kinds pred args → HaveKinds kinds def.params args
args_of_def kinds pred args def is (own, there, fit) =
    let same : own ≡ def = cc (there, is) in
    subst (λ (d : Def). HaveKinds kinds d.params args) same fit

pub few_args : IsMalformed (with_edge (Ind (node 3) lenlist_id []))
few_args = malformed (with_edge (Ind (node 3) lenlist_id [])) (λ w. args_of_def node_kinds lenlist_id [] lenlist_def refl w.made.fits_defs.0.1)

pub many_args : IsMalformed (with_edge (Ind (node 3) list_id (node 2 ∷ [])))
many_args = malformed (with_edge (Ind (node 3) list_id (node 2 ∷ []))) (λ w. args_of_def node_kinds list_id (node 2 ∷ []) list_def refl w.made.fits_defs.0.1)

pub arg_of_kind : IsMalformed (with_edge (Ind (node 3) lenlist_id (node 1 ∷ [])))
arg_of_kind = malformed (with_edge (Ind (node 3) lenlist_id (node 1 ∷ []))) (λ w.
    clash 1 (Some kind.Ptr) kind.Int (λ e. omega arith) (λ e. cc e) (args_of_def node_kinds lenlist_id (node 1 ∷ []) lenlist_def refl w.made.fits_defs.0.1).0)

pub list_at_number : IsMalformed (with_edge (Ind (node 2) list_id []))
list_at_number = malformed (with_edge (Ind (node 2) list_id [])) (λ w. clash 2 (Some kind.Int) kind.Ptr (λ e. omega arith) (λ e. cc e) w.made.fits_defs.0.0)

pub no_predicate : IsMalformed (with_edge (Ind (node 3) (record { 0 = 3 }) []))
no_predicate = malformed (with_edge (Ind (node 3) (record { 0 = 3 }) [])) (λ w.
    let there : ◌≡◌ {A = Option Def} None (Some w.made.fits_defs.0.1.0) = w.made.fits_defs.0.1.1 in cc there)

-- ---- segments

pub few_seg_args : IsMalformed (with_edge (Seg (node 3) [] lenlist_id null (null ∷ [])))
few_seg_args = malformed (with_edge (Seg (node 3) [] lenlist_id null (null ∷ []))) (λ w. args_of_def node_kinds lenlist_id [] lenlist_def refl w.made.fits_defs.0.1)

pub few_ends : IsMalformed (with_edge (Seg (node 3) (node 2 ∷ []) lenlist_id null []))
few_ends = malformed (with_edge (Seg (node 3) (node 2 ∷ []) lenlist_id null [])) (λ w. args_of_def node_kinds lenlist_id [] lenlist_def refl w.made.fits_defs.0.3)

pub end_of_kind : IsMalformed (with_edge (Seg (node 3) (node 2 ∷ []) lenlist_id null (node 1 ∷ [])))
end_of_kind = malformed (with_edge (Seg (node 3) (node 2 ∷ []) lenlist_id null (node 1 ∷ []))) (λ w.
    clash 1 (Some kind.Ptr) kind.Int (λ e. omega arith) (λ e. cc e) (args_of_def node_kinds lenlist_id (node 1 ∷ []) lenlist_def refl w.made.fits_defs.0.3).0)

pub seg_at_number : IsMalformed (with_edge (Seg (node 2) [] list_id null []))
seg_at_number = malformed (with_edge (Seg (node 2) [] list_id null [])) (λ w. clash 2 (Some kind.Int) kind.Ptr (λ e. omega arith) (λ e. cc e) w.made.fits_defs.0.0)

pub seg_to_number : IsMalformed (with_edge (Seg (node 3) [] list_id (node 2) []))
seg_to_number = malformed (with_edge (Seg (node 3) [] list_id (node 2) [])) (λ w. clash 2 (Some kind.Int) kind.Ptr (λ e. omega arith) (λ e. cc e) w.made.fits_defs.0.2)

-- ---- kinds

pub no_kinds : IsMalformed (with_kinds [])
no_kinds = malformed (with_kinds []) (λ w. w.zero)

pub no_zero : IsMalformed (with_kinds (Ptr ∷ []))
no_zero = malformed (with_kinds (Ptr ∷ [])) (λ w. let first : Ptr ≡ Zero = w.zero.0 in cc first)

pub two_zeros : IsMalformed (with_kinds (Zero ∷ Zero ∷ []))
two_zeros = malformed (with_kinds (Zero ∷ Zero ∷ [])) (λ w. w.zero.1 0 Zero (omega arith) refl)

-- ---- atoms

pub atom_absent : IsMalformed (with_written (In (node 4) (pos 0) (pos 9)))
atom_absent = malformed (with_written (In (node 4) (pos 0) (pos 9))) (λ w. clash 4 None w.made.atoms.0.0.0 (λ e. omega arith) (λ e. cc e) w.made.atoms.0.0.1)

two_kinds : (wanted : Kind) → ◌≡◌ {A = Option Kind} (Some kind.Ptr) (Some wanted) → ◌≡◌ {A = Option Kind} (Some kind.Int) (Some wanted) → ⊥
two_kinds wanted a b = let same : ◌≡◌ {A = Option Kind} (Some kind.Ptr) (Some kind.Int) = a ∙ sym b in cc same

pub kinds_apart : IsMalformed (with_written (Eq (node 1) (node 2) (pos 0)))
kinds_apart = malformed (with_written (Eq (node 1) (node 2) (pos 0))) (λ w.
    let wanted = w.made.atoms.0.0.0 in
    clash 1 (Some kind.Ptr) wanted (λ e. omega arith) (λ a.
    clash 2 (Some kind.Int) wanted (λ e. omega arith) (λ b. two_kinds wanted a b) w.made.atoms.0.0.2) w.made.atoms.0.0.1)

pub wide_offset : IsMalformed (with_written (Ne (node 1) (node 3) (pos 4611686022722355201)))
wide_offset = malformed (with_written (Ne (node 1) (node 3) (pos 4611686022722355201))) (λ w. let most : pos 4611686022722355201 ≤ℤ pos 4611686022722355200 = w.made.atoms.0.1.1 in absurd (omega (arith, ints)))

pub wide_range : IsMalformed (with_written (In (node 2) (pos 0) (pos 4611686018427387905)))
wide_range = malformed (with_written (In (node 2) (pos 0) (pos 4611686018427387905))) (λ w. let most : pos 4611686018427387905 ≤ℤ pos 4611686018427387904 = w.made.atoms.0.2.1 in absurd (omega (arith, ints)))

-- ---- the good one

no_zero_at : (k : ℕ) (d : NodeKind) → k < 3 → get_or (Ptr ∷ Int ∷ Ptr ∷ []) k d ≡ Zero → ⊥
no_zero_at zero d less e = cc e
no_zero_at (suc zero) d less e = cc e
no_zero_at (suc (suc zero)) d less e = cc e
no_zero_at (suc (suc (suc k))) d less e = omega arith

-- a rule's block, if it is a cell, has two contents
abbrev FillsCell : Rule → Type 0
FillsCell rule = rule.block ≡ Some cell_id → 2 ≡ length rule.contents

other_block : (s : StructId) → (s.0 ≡ 0 → ⊥) → ◌≡◌ {A = Option StructId} (Some s) (Some cell_id) → ⊥
other_block s other e = let same : s ≡ cell_id = cc e in other (ap (λ (x : StructId). x.0) same)

all_fill : AllByRecursion (λ (def : Def). AllByRecursion FillsCell def.rules) defs
all_fill = (
  (λ e. absurd (cc e), (λ e. refl, tt)),
  ((λ e. absurd (cc e), (λ e. refl, tt)), ((λ e. absurd (cc e), (λ e. absurd (other_block fork_id (λ n. omega arith) e), tt)), tt)),
)

cell_fills : (p r : ℕ) (def : Def) (rule : Rule) → slice_get defs p ≡ Some def → slice_get def.rules r ≡ Some rule → rule.block ≡ Some cell_id → 2 ≡ length rule.contents
cell_fills p r def rule there at = all_at FillsCell def.rules r rule at (all_at (λ (def : Def). AllByRecursion FillsCell def.rules) defs p def there all_fill)

good_formed : IsWellFormedRaw defs vars structs good
good_formed = record {
  zero = (refl, no_zero_at);
  made = record {
    bounded = record {
      positive = omega arith;
      kinds = (omega arith, omega arith, (omega arith, omega arith, (omega arith, omega arith, tt)));
      ids = (omega arith, omega arith, (omega arith, omega arith, (omega arith, omega arith, tt)));
      vars = ((kind.Int, inr refl), ((kind.Ptr, inr refl), tt));
      edges = (
        ((kind.Ptr, inr refl), ((kind.Int, inr refl), ((kind.Ptr, inr refl), tt))),
        (((kind.Ptr, inr refl), ((kind.Int, inr refl), tt)), (((kind.Ptr, inr refl), ((kind.Int, inr refl), ((kind.Ptr, inl refl), ((kind.Int, inl refl), tt)))), tt)),
      );
      atoms = (((kind.Ptr, inr refl), ((kind.Ptr, inl refl), tt)), (((kind.Int, inr refl), tt), (((kind.Ptr, inr refl), ((kind.Ptr, inl refl), tt)), tt)));
    };
    atoms = (
      ((kind.Ptr, inr refl, inl refl), (omega (arith, ints), omega (arith, ints))),
      (((kind.Int, inr refl), (omega (arith, ints), omega (arith, ints)), (omega (arith, ints), omega (arith, ints))), (((kind.Ptr, inr refl, inl refl), (omega (arith, ints), omega (arith, ints))), tt)),
    );
    fits_defs = (
      (inr refl, cell_fills),
      ((inr refl, (lenlist_def, refl, (inr refl, tt))), ((inr refl, (lenlist_def, refl, (inr refl, tt)), inl refl, (lenlist_def, refl, (inl refl, tt))), tt)),
    );
    fits_program = record {
      vars_fit = (inr refl, (inr refl, tt));
      blocks_fit = ((cell_struct, refl, (inr refl, (inr refl, tt))), (tt, (tt, tt)));
    };
  };
}

pub good_is_read : IsRead good (record behind_cut { stage = heading; heads = (at 1, good) ∷ [] })
good_is_read k well finds = rw ((finds good).1 good_formed) refl
