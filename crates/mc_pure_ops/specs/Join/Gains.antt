-- What is written down besides.
use Rattle.std.specs.Prelude.{◌≡◌, ◌⊎◌}
use Rattle.mc_base.specs.declared.plain.Atom.{Atom}
use Rattle.mc_pure.specs.Pure.{Pure, IsWellFormed}
use Rattle.mc_pure_ops.specs.Canon.Order.{Among}

-- exactly those of these atoms that may be written are written besides
pub record Gains (P : Atom → Type 0) (old new : Pure) : Type 0 where
  pub kinds : new.kinds ≡ old.kinds
  pub starts : new.starts ≡ old.starts
  pub from : (f : Atom) → Among new.written f → Among old.written f ⊎ (IsWellFormed old.kinds f × P f)
  pub kept : (f : Atom) → Among old.written f → Among new.written f
  pub added : (f : Atom) → IsWellFormed old.kinds f → P f → Among new.written f
