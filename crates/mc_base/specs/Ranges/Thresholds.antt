-- What an end widens to.
use Rattle.std.specs.Prelude.{◌≡◌, ℤ, pos, negsuc, ◌≤ℤ◌, ◌<ℤ◌, ◌⊎◌, List, All, Contains}

-- the nearest of the thresholds at or above a number, or the greatest `int` where there is none
pub record IsNearestAbove (thresholds : List ℤ) (number end : ℤ) : Type 0 where
  pub reached : number ≤ℤ end
  pub among : Contains thresholds end ⊎ (end ≡ pos 2147483647)
  pub nearest : All (λ threshold. number ≤ℤ threshold → end ≤ℤ threshold) thresholds

-- the nearest of the thresholds at or below a number, or the least `int` where there is none
pub record IsNearestBelow (thresholds : List ℤ) (number end : ℤ) : Type 0 where
  pub reached : end ≤ℤ number
  pub among : Contains thresholds end ⊎ (end ≡ negsuc 2147483647)
  pub nearest : All (λ threshold. threshold ≤ℤ number → threshold ≤ℤ end) thresholds

-- a high end stays where the new one does not pass it, and else goes to the nearest threshold
pub record WidensUp (thresholds : List ℤ) (old new end : ℤ) : Type 0 where
  pub kept : new ≤ℤ old → end ≡ old
  pub moved : old <ℤ new → IsNearestAbove thresholds new end

-- a low end stays where the new one does not pass it, and else goes to the nearest threshold
pub record WidensDown (thresholds : List ℤ) (old new end : ℤ) : Type 0 where
  pub kept : old ≤ℤ new → end ≡ old
  pub moved : new <ℤ old → IsNearestBelow thresholds new end
