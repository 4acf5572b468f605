-- A predicate is made of the edges of a cover, the marks of the cover from the last one on.
use Rattle.std.specs.Prelude.{◌≡◌, ◌++◌, List, [], ◌∷◌, true, false, Option, Some, None, map}
use Rattle.std.specs.List.{AllByRecursion}
use Rattle.mc_base.specs.declared.ids.EdgeId.{EdgeId}
use Rattle.mc_base.specs.declared.ids.NodeId.{NodeId}
use Rattle.mc_flow.specs.declared.defs.rules.Def.{Def}
use Rattle.mc_state.specs.declared.graph.edge.Edge.{Edge}
use Rattle.mc_state.specs.declared.graph.edge.Edge.TheVariants.{Block, Ind, Seg}
use Rattle.mc_state.specs.Graph.Graph.{edge_with}
use Rattle.mc_state.specs.Known.{Test}
use Rattle.mc_state.specs.Named.{are_distinct}
use Rattle.mc_shape_search.specs.Search.Search.{is_free, uses}
use Rattle.mc_cover.specs.declared.goals.Goal.{Goal}
use Rattle.mc_cover.specs.declared.goals.Mark.{Mark}
use Rattle.mc_cover.specs.declared.goals.Mark.TheVariants.{AtEnd, ByInd, BySeg, ByRule, ByCall}
use Rattle.mc_cover.specs.Goals.{Setting, all_there}
use Rattle.mc_cover.specs.Marks.{Named, calls_of, fits, rule_at, takes}
use Rattle.mc_state.specs.declared.terms.Term.{Term}
use Rattle.mc_state.specs.State.{State}
use Rattle.mc_follow.specs.declared.ending.met.Met.{Met}
use Rattle.mc_follow.specs.Ending.Ending.{IsLater, IsMadeBy}

-- these are the terms of the names of a mark's rule; other marks have none
abbrev pub AreNamesOf : Setting → Goal → Mark → List Term → Type 0
AreNamesOf w g (ByRule place block) names = (by : Named) × (rule_at w g place block ≡ Some by) × (names ≡ by.names)
AreNamesOf w g AtEnd names = Unit {0}
AreNamesOf w g (ByInd id) names = Unit {0}
AreNamesOf w g (BySeg id) names = Unit {0}
AreNamesOf w g (ByCall place block call) names = Unit {0}

-- the marks
abbrev pub marks_of : List Met → List Mark
marks_of mets = map (λ met. met.mark) mets

-- goals that are met from a goal on, the last one first: each mark fits and takes what none before it takes, and these
-- goals are open then
abbrev pub Opened : Setting → Goal → List Met → List Goal → Type 0
Opened w g [] open_goals = open_goals ≡ g ∷ []
Opened w g (met ∷ front) open_goals =
    (rest : List Goal) × (open_goals ≡ calls_of w met.goal met.mark ++ rest) × (fits w met.goal met.mark ≡ true)
    × AreNamesOf w met.goal met.mark met.names.items × (is_free takes (marks_of front) met.mark ≡ true) × Opened w g front (met.goal ∷ rest)

-- each goal is made by an edge
abbrev pub AreMadeBy : State → List Goal → List EdgeId → Type 0
AreMadeBy s [] [] = Unit {0}
AreMadeBy s [] (id ∷ ids) = ⊥
AreMadeBy s (g ∷ gs) [] = ⊥
AreMadeBy s (g ∷ gs) (id ∷ ids) = IsMadeBy s g.pred g.at g.args id × AreMadeBy s gs ids

-- what a search in a state reads
abbrev pub setting_in : Test → List Def → State → Setting
setting_in know defs s = record { know = know; defs = defs; edges = s.graph.edges }

-- a goal is made in a state that comes later: of its marks these are left, and the goals that are open then are made by
-- these edges
pub record IsMaking (know : Test) (defs : List Def) (before : State) (g : Goal) (s : State) (front : List Met)
    (ids : List EdgeId) : Type 0 where
  pub open_goals : List Goal
  pub opened : Opened (setting_in know defs before) g front open_goals
  pub made : AreMadeBy s open_goals ids
  pub later : IsLater before s
  pub apart : are_distinct ids ≡ true
  pub unused : AllByRecursion (λ id. uses takes (marks_of front) id.0 ≡ false) ids
  pub kept : (id : EdgeId) (e : Edge) → uses takes (marks_of front) id.0 ≡ true → edge_with before.graph.edges id
      ≡ Some e → edge_with s.graph.edges id ≡ Some e

-- the nodes of the fields of a block, where all are known
abbrev pub fields_of_block : Option Edge → Option (List NodeId)
fields_of_block None = None
fields_of_block (Some (Block at shape fields)) = all_there fields
fields_of_block (Some (Ind at pred args)) = None
fields_of_block (Some (Seg at args pred «end» ends)) = None

-- marks lead from open goals to an end, after marks that were taken before, the last one first
abbrev pub LeadsOn : Setting → List Mark → List Mark → List Goal → Type 0
LeadsOn w taken [] open_goals = open_goals ≡ []
LeadsOn w taken (m ∷ ms) [] = ⊥
LeadsOn w taken (m ∷ ms) (g ∷ gs) = (fits w g m ≡ true) × (is_free takes taken m ≡ true) × LeadsOn w (m ∷ taken) ms (calls_of w g m ++ gs)

-- no goal has a stop
abbrev pub HaveNoStop : List Goal → Type 0
HaveNoStop gs = AllByRecursion (λ h. h.stop ≡ None) gs

-- what a mark leaves is put before what is open, and the names of its rule are these
abbrev pub IsOpenedBy : Setting → Goal → Mark → List Term → List Goal → List Goal → Type 0
IsOpenedBy w h m names new old = (new ≡ calls_of w h m ++ old) × AreNamesOf w h m names
