-- What a line answers, beside what is judged.
use Rattle.std.specs.Prelude.{◌≡◌, List, [], ◌∷◌, Result, Ok, Err, map}
use Rattle.mc_state.specs.Premises.{Judged}
use Rattle.mc_kernel.specs.Branches.{Path, Setting, Head}
use Rattle.mc_check_line.specs.declared.branch.Branch.{Branch}
use Rattle.mc_check_line.specs.declared.branch.Head.{Head as HeadCode}
use Rattle.mc_check_line.specs.declared.branch.Setting.{Setting as SettingCode}
use Rattle.mc_check_line.specs.declared.branch.Next.{Next}
use Rattle.mc_check_line.specs.declared.branch.Next.TheVariants.{Ended, One, Two, More}
use Rattle.mc_check_line.specs.declared.branch.Refused.{Refused}
use Rattle.mc_check_line.specs.declared.branch.Refused.TheVariants.{Premise, NoMemory}

-- a branch as rules speak of it
abbrev pub path : Branch → Path
path b = record { point = b.point; state = b.state; goal = b.goal; moved = b.moved; closing = b.closing }

-- a state of a cut
abbrev pub head_of : HeadCode → Head
head_of h = (h.point, h.state)

-- what lines are judged by
abbrev pub setting_of : SettingCode → Setting
setting_of g = record { form = g.form; cuts = g.cuts.now; heads = map head_of g.heads.now }

-- the branches that come of a line, in order
abbrev pub paths : Next → List Path
paths Ended = []
paths (One b) = path b ∷ []
paths (Two b c) = path b ∷ path c ∷ []
paths (More bs) = map path bs.items

-- a line at a branch answers the branches that are judged to come of it, or the first unmet premise with the branch as it
-- was; memory may be missing
abbrev pub IsLineAnswer : Judged (List Path) → Path → Result Next Refused → Type 0
IsLineAnswer judged b (Ok next) = judged ≡ Ok (paths next)
IsLineAnswer judged b (Err (Premise k same)) = (judged ≡ Err k) × (path same ≡ b)
IsLineAnswer judged b (Err NoMemory) = Unit {0}
