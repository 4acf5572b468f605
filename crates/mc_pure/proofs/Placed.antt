-- The place of a node in its class.
use Rattle.std.proofs.Common.{◌≡◌, ◌∙◌, List, refl, arith}
use Rattle.mc_base.specs.declared.ids.NodeId.{NodeId}
use Rattle.mc_base.specs.declared.plain.Atom.TheVariants.{Eq}
use Rattle.mc_pure.specs.declared.rows.Row.{Row}
use Rattle.mc_pure.specs.Pure.{Pure, IsNode}
use Rattle.mc_pure.specs.Derived.{Follows}
use Rattle.mc_pure.specs.Canonical.{IsLeast}
use Rattle.mc_pure.specs.Rows.{row_at, IsSound}
use Rattle.mc_pure.specs.Steps.{IsStable}
use Rattle.mc_pure.proofs.Changing.{eq_at, number}
use Rattle.mc_pure.proofs.Stepping.{here}
use Rattle.mc_pure.proofs.Deciding.{holds}

module _ (p : Pure) (rows : List Row) (s : IsSound p rows) (t : IsStable p rows) (a : NodeId) (n : IsNode p.kinds a) where
  own_equal : Follows p (Eq a (row_at rows a).rep (row_at rows a).off)
  own_equal = let k = here p rows a s n in eq_at p (s.each (row_at rows a) k.0).equal k.1 refl refl

  pub own_least : IsLeast p (row_at rows a).rep
  own_least =
      let h = holds p rows (Eq a (row_at rows a).rep (row_at rows a).off) s t own_equal in (
        h.1,
        λ m c d.
            let g = holds p rows (Eq (row_at rows a).rep m c) s t d in
            let k = here p rows m s g.1 in
            let l = (s.each (row_at rows m) k.0).least in
            let e = number (h.2 ∙ g.2) in
            let f = number k.1 in
            omega arith,
      )

  pub place_equal : (r : Row) → r ≡ row_at rows a → Follows p (Eq a r.rep r.off)
  place_equal r e = rw e own_equal

  pub place_least : (r : Row) → r ≡ row_at rows a → IsLeast p r.rep
  place_least r e = rw e own_least
