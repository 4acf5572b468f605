-- A loop that ends where its input is 0: its states, each whole or not, and the jump to its head.
use Rattle.std.proofs.Common.{◌≡◌, ◌≢◌, ℕ, zero, suc, [], ◌∷◌, Bool, true, Some, None, refl, ap, arith, inl, ℤ, pos}
use Rattle.std.specs.Prelude.{Contains}
use Rattle.std.proofs.lemmas.Int.{ints}
use Rattle.mc_base.specs.declared.ids.PointId.{PointId}
use Rattle.mc_base.specs.declared.plain.Kind.TheVariants.{Int}
use Rattle.mc_base.specs.declared.plain.Atom.TheVariants.{Eq, Ne}
use Rattle.mc_base.specs.Nodes.{null}
use Rattle.mc_state.specs.Graph.Graph.{no_edges}
use Rattle.mc_pure.specs.Examples.{node}
use Rattle.mc_pure.specs.Laws.{TrueIsNotFalse}
use Rattle.mc_state.specs.declared.line.Form.{Form}
use Rattle.mc_state.specs.State.{State, unknown, with_atom}
use Rattle.mc_state.specs.Facts.{IsFalse}
use Rattle.mc_kernel.specs.Branches.{Setting, MayStep}
use Rattle.mc_kernel.specs.Instances.{JumpsTo}
use Rattle.mc_kernel.specs.Examples as ex
use Rattle.mc_kernel.proofs.Lists.{contains_here}
use Rattle.mc_kernel.proofs.ListExample.{gone, zeros}
use Rattle.mc_kernel.proofs.Plain.{not_false, contains_one}

-- nothing is known at the head, which is point 1
abbrev pub head : Bool → State
head whole = let s = unknown 2 in record s { whole = whole }

abbrev pub setting : Form → Bool → Setting
setting form whole = record { form = form; cuts = ex.at 1 ∷ []; heads = (ex.at 1, head whole) ∷ [] }

-- the input is node 1; it is 0, or not
abbrev pub with_input : Bool → State
with_input whole = record { env = None ∷ Some (node 1) ∷ []; kinds = (node 1, Int) ∷ []; graph = no_edges; atoms = []; next = 2; whole = whole }

abbrev pub at_zero : Bool → State
at_zero whole = with_atom (with_input whole) (Eq (node 1) null (pos 0))

abbrev pub not_zero : Bool → State
not_zero whole = with_atom (with_input whole) (Ne (node 1) null (pos 0))

-- the input is known no more
abbrev pub after_zero : Bool → State
after_zero whole = let s = at_zero whole in record s { env = None ∷ None ∷ [] }

abbrev pub after_other : Bool → State
after_other whole = let s = not_zero whole in record s { env = None ∷ None ∷ [] }

-- node 1 is 1
abbrev one_at : ℕ → ℤ
one_at zero = pos 0
one_at (suc n) = pos 1

-- ---- lines

no_cut : (p : ℕ) → 1 ≢ p → Contains (ex.at 1 ∷ []) (ex.at p) → ⊥
no_cut p ne c = let same : ex.at 1 ≡ ex.at p = contains_one (ex.at 1) (ex.at p) c in ne (ap (λ (q : PointId). q.0) same)

module _ (form : Form) (whole : Bool) where
  -- an instruction's line may stand on a branch that has moved to a point that is no cut
  pub may : (p : ℕ) (s : State) → 1 ≢ p → MayStep (setting form whole) (gone p s)
  may p s ne = record { plain = refl; open_still = refl; before_cut = inl (no_cut p ne) }

  -- where no variable is known, a branch jumps to the head; where the head is whole, from a whole state without an edge
  pub jumps : (s : State) → s.env ≡ None ∷ None ∷ [] → (whole ≡ true → (s.whole ≡ true) × (s.graph.edges ≡ [])) → (IsFalse s → ⊥) → JumpsTo (setting form whole) 0 (null ∷ []) [] (gone 1 s) []
  jumps s unknown_vars wholly sound = record {
    may = record { plain = refl; at_cut = contains_here (ex.at 1) []; has_moved = refl };
    consistent = sound;
    head = head whole;
    there = refl;
    jumps = record {
      count = refl;
      null_image = refl;
      kinds = tt;
      vars = rw unknown_vars (tt, (tt, tt));
      picked = [];
      left = s.graph.edges;
      picks = (refl, refl);
      match = tt;
      atoms = tt;
      whole = wholly;
    };
    gives = refl;
  }

-- ---- none of the states is false

module _ (law : TrueIsNotFalse) (whole : Bool) where
  pub head_sound : IsFalse (head whole) → ⊥
  head_sound wrong = not_false zeros [] [] refl tt tt law wrong

  pub input_sound : IsFalse (with_input whole) → ⊥
  input_sound wrong = not_false zeros ((node 1, Int) ∷ []) [] refl ((omega (arith, ints), omega (arith, ints)), tt) tt law wrong

  pub zero_sound : IsFalse (at_zero whole) → ⊥
  zero_sound wrong = not_false zeros ((node 1, Int) ∷ []) (Eq (node 1) null (pos 0) ∷ []) refl ((omega (arith, ints), omega (arith, ints)), tt) (refl, tt) law wrong

  pub other_sound : IsFalse (not_zero whole) → ⊥
  other_sound wrong =
      not_false one_at ((node 1, Int) ∷ []) (Ne (node 1) null (pos 0) ∷ []) refl ((omega (arith, ints), omega (arith, ints)), tt) ((λ e. omega (arith, ints)), tt) law wrong
