-- What holds of renamed nodes.
use Rattle.std.specs.Prelude.{◌≡◌, ℕ}
use Rattle.mc_pure.specs.Pure.{Kinds, Pure}
use Rattle.mc_pure.specs.Known.{IsFit}
use Rattle.mc_pure_ops.specs.Renamed.Renamed.{AreImageKinds, IsOneKind, renamed}

-- the images with their kinds are one list
abbrev pub ImagesAreOneList : Type 0
ImagesAreOneList =
    (f : ℕ → ℕ) (kinds one other : Kinds) → AreImageKinds f kinds one → AreImageKinds f kinds other → one ≡ other

-- where node 0 stays, and nodes with one image are of one kind, what is known of the images is well formed
abbrev pub RenamedFits : Type 0
RenamedFits =
    (f : ℕ → ℕ) (kinds : Kinds) (p : Pure) → f 0 ≡ 0 → IsOneKind f p.kinds → AreImageKinds f p.kinds kinds
    → IsFit p → IsFit (renamed f kinds p)
