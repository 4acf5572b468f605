-- Settled rows are a normal form, and what holds in it is what follows.
use Rattle.std.proofs.Common.{ℤ, neg_ℤ, ◌≡◌, ◌⊎◌, ◌∙◌, List, refl, sym, inl, inr, arith}
use Rattle.mc_base.specs.declared.ids.NodeId.{NodeId}
use Rattle.mc_base.specs.declared.plain.Atom.{Atom}
use Rattle.mc_base.specs.declared.plain.Atom.TheVariants.{Eq, Ne, In}
use Rattle.mc_base.specs.declared.plain.Kind.TheVariants.{Int}
use Rattle.mc_base.specs.Nodes.{null}
use Rattle.mc_pure.specs.declared.rows.Row.{Row}
use Rattle.mc_pure.specs.Pure.{Pure, Base}
use Rattle.mc_pure.specs.Derived.{Follows, IsFalse}
use Rattle.mc_pure.specs.Normal.{Moved, Listed, Holds, IsNormal}
use Rattle.mc_pure.specs.Rows.{row_at, IsSound, view}
use Rattle.mc_pure.specs.Steps.{IsStable, MovedRows, MovedAtom}
use Rattle.mc_pure.proofs.Changing.{eq_at, in_at, same_node, number}
use Rattle.mc_pure.proofs.Stepping.{here}
use Rattle.mc_pure.proofs.Completeness.{complete, not_false}
use Rattle.mc_pure.proofs.Soundness.{sound}

-- null is its own class's least
pub null_rep : (facts : Pure) (rows : List Row) → IsSound facts rows → (row_at rows null).rep ≡ null
null_rep facts rows s =
    let k = here facts rows null s (Int, inl refl) in
    let l = (s.each (row_at rows null) k.0).least in
    let n = number k.1 in
    same_node (row_at rows null).rep null (omega arith)

pub normal : (facts : Pure) (rows : List Row) → IsSound facts rows → IsStable facts rows → IsNormal facts (view rows)
normal facts rows s t = record {
  sound = λ a n. let k = here facts rows a s n in let o = s.each (row_at rows a) k.0 in record { equal = eq_at facts o.equal k.1 refl refl; within = in_at facts o.within k.1 refl refl };
  coherent = λ a b na nb e. s.coherent (row_at rows a) (row_at rows b) (here facts rows a s na).0 (here facts rows b s nb).0 e;
  full = λ a n. (s.each (row_at rows a) (here facts rows a s n).0).full;
  origin = (Int, inl refl);
  pinned = λ a n e. let k = here facts rows a s n in (s.each (row_at rows a) k.0).pinned e ∙ sym (null_rep facts rows s);
  equals = λ a b c m. t (Eq a b c) m;
  ranges = λ a l h m. t (In a l h) m;
  known = λ a b c m. s.known (Ne a b c) m;
  differ = λ a b c m. (t (Ne a b c) m).0;
  narrow = λ a b c m. (t (Ne a b c) m).1;
  narrow' = λ a b c m. (t (Ne a b c) m).2;
}

pub follows : (facts : Pure) (rows : List Row) (f : Atom) → IsSound facts rows → IsStable facts rows → Holds facts (view rows) f → Follows facts f
follows facts rows f s t h = sound facts (view rows) (normal facts rows s t) f h

pub holds : (facts : Pure) (rows : List Row) (f : Atom) → IsSound facts rows → IsStable facts rows → Follows facts f → Holds facts (view rows) f
holds facts rows f s t d = complete facts (view rows) (normal facts rows s t) d

pub consistent : (facts : Pure) (rows : List Row) → IsSound facts rows → IsStable facts rows → IsFalse facts → ⊥
consistent facts rows s t k = not_false facts (view rows) (normal facts rows s t) k

-- the two readings of a disequality
moved_to : (rows : List Row) (x y a b : NodeId) (d c : ℤ) → MovedRows (row_at rows x) (row_at rows y) d (row_at rows a) (row_at rows b) c → Moved (view rows) x y d a b c
moved_to rows x y a b d c m = record { left = m.0; right = m.1; by = m.2 }

moved_from : (rows : List Row) (x y a b : NodeId) (d c : ℤ) → Moved (view rows) x y d a b c → MovedRows (row_at rows x) (row_at rows y) d (row_at rows a) (row_at rows b) c
moved_from rows x y a b d c m = (m.left, m.right, m.by)

pub listed_to : (facts : Pure) (rows : List Row) (f : Atom) (a b : NodeId) (c : ℤ) → Base facts f → MovedAtom rows f (row_at rows a) (row_at rows b) c → Listed facts (view rows) a b c ⊎ Listed facts (view rows) b a (neg_ℤ c)
listed_to facts rows (Eq x y d) a b c m k = absurd k
listed_to facts rows (In x l h) a b c m k = absurd k
listed_to facts rows (Ne x y d) a b c m (inl k) = inl (x, y, d, m, moved_to rows x y a b d c k)
listed_to facts rows (Ne x y d) a b c m (inr k) = inr (x, y, d, m, moved_to rows x y b a d (neg_ℤ c) k)

pub listed_from : (facts : Pure) (rows : List Row) (a b : NodeId) (c : ℤ) → Listed facts (view rows) a b c ⊎ Listed facts (view rows) b a (neg_ℤ c) → (f : Atom) × Base facts f × MovedAtom rows f (row_at rows a) (row_at rows b) c
listed_from facts rows a b c (inl l) = (Ne l.0 l.1 l.2, l.3, inl (moved_from rows l.0 l.1 a b l.2 c l.4))
listed_from facts rows a b c (inr l) = (Ne l.0 l.1 l.2, l.3, inr (moved_from rows l.0 l.1 b a l.2 (neg_ℤ c) l.4))
