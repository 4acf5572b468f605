-- What holds of chains whose lines are read one after the other.
use Rattle.std.specs.Prelude.{◌≡◌, ◌↔◌, ◌⊎◌, ◌+◌, ℕ, true, List, [], ◌∷◌, ◌++◌, Ok, Err, length}
use Rattle.std.specs.List.{AllByRecursion}
use Rattle.mc_lines.specs.declared.cert.line.Line.{Line}
use Rattle.mc_lines.specs.declared.cert.line.Line.TheVariants.{Header}
use Rattle.mc_flow.specs.declared.defs.rules.Def.{Def}
use Rattle.mc_flow.specs.declared.graph.Flow.{Flow}
use Rattle.mc_flow.specs.Valid.{IsValid}
use Rattle.mc_state.specs.Known.{Test}
use Rattle.mc_state.specs.Premises.{IsJudged}
use Rattle.mc_state.specs.State.{State}
use Rattle.mc_state.specs.declared.line.Form.TheVariants.{Chain}
use Rattle.mc_state.specs.declared.line.Version.TheVariants.{One}
use Rattle.mc_kernel.specs.Branches.{Path, Setting, states_at}
use Rattle.mc_kernel.specs.Reading.Documents.{IsMade, IsShortChain, is_rule}
use Rattle.mc_joins.specs.Chains.Chains.{HasAlarms, HasNoAlarm, IsLegalChain, IsPassLine, IsUnfinished, KnowsStates}
use Rattle.mc_joins.specs.Chains.InOrder.{behind}
use Rattle.mc_joins.specs.Chains.Judges.{Lore, Reading, alarms, basis, begun_chain, ends_early, no_alarm, passing_line, reading_chain, reading_line, unfinished}
use Rattle.mc_joins.specs.Chains.Laws.{IsRight, Made}
use Rattle.mc_joins.specs.Chains.Read.{EndsAs, HasOnePass, IsKept, IsOpen, IsReadAt, IsRefusedChain, IsSaid, at_end}

-- ---- lines

-- a line of a pass is judged by its instances
abbrev pub PassLinesAreJudged : Type 0
PassLinesAreJudged =
    (k : Lore) (flow : Flow) (defs : List Def) (round : ℕ) (g : Setting) (l : Line) (b : Path)
    → IsRight k flow defs → IsMade flow defs b → AllByRecursion (Made flow defs) (states_at b.point g.heads)
    → IsJudged (passing_line k flow defs round g l b) (λ out. IsPassLine flow (basis k defs) round g l b out.next out.heads)

-- nothing but its header read, a chain is kept
abbrev pub BegunChainIsKept : Type 0
BegunChainIsKept = (flow : Flow) (defs : List Def) → IsKept flow defs begun_chain

-- what is kept stays so, line by line
abbrev pub LinesKeepChains : Type 0
LinesKeepChains =
    (k : Lore) (flow : Flow) (defs : List Def) (l : Line) (r new : Reading)
    → IsValid flow defs → IsRight k flow defs → IsKept flow defs r
    → reading_line k flow defs l r ≡ Ok new → IsKept flow defs new

-- a line of a pass is read exactly where it is an instance at the first open branch, and this comes of it
abbrev pub PassLinesAreRead : Type 0
PassLinesAreRead =
    (k : Lore) (flow : Flow) (defs : List Def) (l : Line) (r new : Reading)
    → IsRight k flow defs → IsKept flow defs r → is_rule l ≡ true
    → (reading_line k flow defs l r ≡ Ok new) ↔ IsReadAt flow (basis k defs) l r new

-- ---- whole chains

-- the lines after its header are read to the end exactly where the document is a legal chain, and then the chain is what
-- its cuts, heads and passes say: with the states of cuts after its last pass and the branches that are stuck in it
abbrev pub LegalChainsAreRead : Type 0
LegalChainsAreRead =
    (k : Lore) (flow : Flow) (defs : List Def) (lines : List Line) (last : Reading)
    → IsValid flow defs → IsRight k flow defs
    → EndsAs k flow defs lines last
    ↔ ((c : IsLegalChain k.lines.know flow defs (Header One Chain ∷ lines)) × (last ≡ at_end c))

-- so much is said of a chain exactly where it holds: it has so many alarms
abbrev pub AlarmsAreSaid : Type 0
AlarmsAreSaid =
    (k : Lore) (flow : Flow) (defs : List Def) (lines : List Line) (count : ℕ)
    → IsValid flow defs → IsRight k flow defs
    → IsSaid k flow defs lines (alarms count) ↔ HasAlarms k.lines.know flow defs (Header One Chain ∷ lines) count

-- it has none
abbrev pub NoAlarmIsSaid : Type 0
NoAlarmIsSaid =
    (k : Lore) (flow : Flow) (defs : List Def) (lines : List Line)
    → IsValid flow defs → IsRight k flow defs
    → IsSaid k flow defs lines no_alarm ↔ HasNoAlarm k.lines.know flow defs (Header One Chain ∷ lines)

-- it is not final
abbrev pub UnfinishedIsSaid : Type 0
UnfinishedIsSaid =
    (k : Lore) (flow : Flow) (defs : List Def) (lines : List Line)
    → IsValid flow defs → IsRight k flow defs
    → IsSaid k flow defs lines unfinished ↔ IsUnfinished k.lines.know flow defs (Header One Chain ∷ lines)

-- it has not ended
abbrev pub OpenIsSaid : Type 0
OpenIsSaid =
    (k : Lore) (flow : Flow) (defs : List Def) (lines : List Line)
    → IsSaid k flow defs lines ends_early ↔ IsOpen k flow defs lines

-- a chain of one pass is a final legal chain of one pass, whatever tells what is entailed
abbrev pub ShortChainsAreLegal : Type 0
ShortChainsAreLegal =
    (know : State → Test) (flow : Flow) (defs : List Def) (lines : List Line) (stuck : List Path)
    → IsShortChain flow defs lines stuck ↔ HasOnePass know flow defs lines stuck

-- ---- added and refused lines

-- a chain with one more line is what the line makes of it, or is refused at that line
abbrev pub LinesAreAdded : Type 0
LinesAreAdded =
    (k : Lore) (flow : Flow) (defs : List Def) (lines : List Line) (l : Line) (r : Reading)
    → reading_chain k flow defs lines ≡ Ok r
    → reading_chain k flow defs (lines ++ l ∷ []) ≡ behind (2 + length lines) (reading_line k flow defs l r) (λ new. Ok new)

-- reading answers a number and a premise exactly where this line is refused with it
abbrev pub RefusalsAreRead : Type 0
RefusalsAreRead =
    (k : Lore) (flow : Flow) (defs : List Def) (lines : List Line) (number premise : ℕ)
    → (reading_chain k flow defs lines ≡ Err (number, premise)) ↔ IsRefusedChain k flow defs lines number premise

-- one line is refused at most, with one premise
abbrev pub RefusalIsOne : Type 0
RefusalIsOne =
    (k : Lore) (flow : Flow) (defs : List Def) (lines : List Line) (n p m q : ℕ)
    → IsRefusedChain k flow defs lines n p → IsRefusedChain k flow defs lines m q → (n ≡ m) × (p ≡ q)

-- a chain has ended, is open, or has a refused line
abbrev pub ChainsAreDecided : Type 0
ChainsAreDecided =
    (k : Lore) (flow : Flow) (defs : List Def) (lines : List Line)
    → ((last : Reading) × EndsAs k flow defs lines last)
    ⊎ (IsOpen k flow defs lines ⊎ ((n : ℕ) × (p : ℕ) × IsRefusedChain k flow defs lines n p))

-- one that has ended or is open has no refused line
abbrev pub ReadIsNotRefused : Type 0
ReadIsNotRefused =
    (k : Lore) (flow : Flow) (defs : List Def) (lines : List Line) (last : Reading) (n p : ℕ)
    → reading_chain k flow defs lines ≡ Ok last → IsRefusedChain k flow defs lines n p → ⊥

-- no legal chain goes on from lines of which one is refused
abbrev pub RefusedIsNeverLegal : Type 0
RefusedIsNeverLegal =
    (k : Lore) (flow : Flow) (defs : List Def) (lines more : List Line) (n p : ℕ)
    → IsValid flow defs → IsRight k flow defs → IsRefusedChain k flow defs lines n p
    → IsLegalChain k.lines.know flow defs (Header One Chain ∷ (lines ++ more)) → ⊥

-- what judges rightly judges alike: by two right lores each chain becomes the same, or the same line is refused with the
-- same premise
abbrev pub ChainJudgesAgree : Type 0
ChainJudgesAgree =
    (k other : Lore) (flow : Flow) (defs : List Def) (lines : List Line)
    → IsValid flow defs → IsRight k flow defs → IsRight other flow defs
    → reading_chain k flow defs lines ≡ reading_chain other flow defs lines

-- what is entailed in a state is one, whatever tells it: so a legal chain is one by all tests that tell it, with the same
-- states of cuts, the same stuck branches and the same changes
abbrev pub LegalChainsAreOne : Type 0
LegalChainsAreOne =
    (know other : State → Test) (flow : Flow) (defs : List Def) (lines : List Line)
    → IsValid flow defs → KnowsStates flow defs know → KnowsStates flow defs other
    → (c : IsLegalChain know flow defs lines) → (d : IsLegalChain other flow defs lines) × (at_end d ≡ at_end c)

-- of each valid flow graph there is a right lore
abbrev pub LoresAreThere : Type 0
LoresAreThere = (flow : Flow) (defs : List Def) → IsValid flow defs → (k : Lore) × IsRight k flow defs
