-- Lines that are read one after the other, by whatever judges a line.
use Rattle.std.specs.Prelude.{◌≡◌, ◌+◌, ◌++◌, ℕ, suc, List, [], ◌∷◌, Result, Ok, Err, length}
use Rattle.mc_lines.specs.declared.cert.line.Line.{Line}
use Rattle.mc_state.specs.Premises.{Judged}

-- what comes of the lines after a line; or the line's number and its first premise that is unmet
abbrev pub behind : {A : Type 0} → ℕ → Judged A → (A → Result A (ℕ × ℕ)) → Result A (ℕ × ℕ)
behind number (Ok r) rest = rest r
behind number (Err k) rest = Err (number, k)

-- what something becomes by lines that are numbered from a number on, where a judge says what it becomes by each, or the
-- number of the first refused one with its first unmet premise
abbrev pub in_order : {A : Type 0} → (Line → A → Judged A) → ℕ → List Line → A → Result A (ℕ × ℕ)
in_order judge number [] r = Ok r
in_order judge number (l ∷ lines) r = behind number (judge l r) (in_order judge (suc number) lines)

-- a line is refused: the lines before it are read, and of its premises this is the first that is unmet
pub record IsRefused {A : Type 0} (judge : Line → A → Judged A) (first : ℕ) (start : A) (lines : List Line)
    (number premise : ℕ) : Type 0 where
  pub before : List Line
  pub line : Line
  pub later : List Line
  pub spelled : lines ≡ before ++ line ∷ later
  pub numbered : number ≡ first + length before
  pub reading : A
  pub read : in_order judge first before start ≡ Ok reading
  pub unmet : judge line reading ≡ Err premise
