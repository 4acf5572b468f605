-- Which of the visible variables belong to the heads of `for`, and which to the block.
use Rattle.std.specs.Prelude.{ℕ, ◌-◌, List, ◌++◌, length, take, drop}
use Rattle.mc_c_types.specs.Held.{variables_held}
use Rattle.mc_c_types.specs.Scopes.{Scope}
use Rattle.mc_c_types.specs.Tables.{Variable}
use Rattle.mc_c_types.specs.declared.scope.Named.{Named}
use Rattle.mc_c_walk.specs.declared.variables.Marks.{Marks}

-- so many belong to the heads, so many after them to the block, and the others are around
abbrev pub parted : ℕ → ℕ → List Variable → Scope
parted heads own vs = record { heads = take heads vs; own = take own (drop heads vs); outer = drop own (drop heads vs) }

-- the scope of the variables that the code has
abbrev pub scope_held : List Named → ℕ → ℕ → Scope
scope_held vs heads own = parted heads own (variables_held vs)

-- the scope around a block, of whose variables so many belong to the heads and the block around
abbrev pub outside : Marks → Scope → Scope
outside m s = parted m.heads m.own s.outer

-- the variables of a block become those of a head around
abbrev pub as_head : Marks → Scope → Scope
as_head m s = record {
  heads = s.heads ++ s.own
      ++ take m.heads s.outer;
  own = take m.own (drop m.heads s.outer);
  outer = drop m.own (drop m.heads s.outer);
}

-- the variables of all heads go but for the last so many
abbrev pub behind_heads : ℕ → Scope → Scope
behind_heads kept s = record { heads = drop (length s.heads - kept) s.heads; own = s.own; outer = s.outer }
