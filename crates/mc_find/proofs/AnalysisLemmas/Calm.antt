-- A chain of one pass without stuck branches is a certificate.
use Rattle.std.proofs.Common.{◌≡◌, ◌++◌, ◌∷◌, ◌∙◌, cond, List, [], Bool, true, false, Option, Some, None, map, refl, sym, ap, subst}
use Rattle.std.proofs.lemmas.List.{map-append}
use Rattle.std.specs.List.{filter}
use Rattle.std.proofs.lemmas.List.Elements.{filter-append}
use Rattle.mc_base.specs.declared.ids.NodeId.{NodeId}
use Rattle.mc_base.specs.declared.ids.PointId.{PointId}
use Rattle.mc_state.specs.declared.line.InstrRule.{InstrRule}
use Rattle.mc_lines.specs.declared.cert.line.Line.{Line}
use Rattle.mc_lines.specs.declared.cert.line.Line.TheVariants.{Header, Cut, Head, Pass, End, Step, L1, L2, L3, L4, L5, L6, L7, L8, L9, L10}
use Rattle.mc_lines.specs.declared.cert.line.Line.TheVariants.{L11, L12, L13, L14, L15, C1, C2, C3}
use Rattle.mc_flow.specs.declared.defs.rules.Def.{Def}
use Rattle.mc_flow.specs.declared.graph.Flow.{Flow}
use Rattle.mc_state.specs.declared.goal.Goal.{Goal}
use Rattle.mc_state.specs.declared.line.Form.TheVariants.{Certificate, Chain}
use Rattle.mc_state.specs.declared.line.Version.TheVariants.{One}
use Rattle.mc_state.specs.State.{State}
use Rattle.mc_rules_steps.specs.Next.{Next}
use Rattle.mc_kernel.specs.Branches as branches
use Rattle.mc_kernel.specs.Branches.{Path, Setting, path_of, path_to, roots, with_state}
use Rattle.mc_kernel.specs.Certificates.{IsValidCertificate, WrittenHead, states_of}
use Rattle.mc_kernel.specs.Instances.{ByFolding, ByLogic, ByMerging, ByStep, ByUnfolding, IsInstance, Reads, stuck_by}
use Rattle.mc_kernel.specs.Reading.Documents.{IsShortChain}
use Rattle.mc_kernel.proofs.ReadingLemmas.Front.{head_line}
use Rattle.mc_find.specs.Analysis.Findings.{stays, under_header}

-- a branch that is not closing: folds close branches in chains alone
abbrev pub opened : Path → Path
opened b = record b { closing = false }

opened_to : (p : PointId) (s : State) (goal : Option Goal) → opened (path_to p s goal) ≡ path_to p s goal
opened_to p s None = refl
opened_to p s (Some goal) = refl

opened_steps : (steps : List Next) → map opened (map path_of steps) ≡ map path_of steps
opened_steps [] = refl
opened_steps (n ∷ steps) =
    ap (λ (b : Path). b ∷ map opened (map path_of steps)) (opened_to n.point n.state n.goal) ∙ ap (λ (bs : List Path). path_of n ∷ bs) (opened_steps steps)

opened_states : (make : State → Path) (states : List State) → map opened (map make states) ≡ map (λ s. opened (make s)) states
opened_states make [] = refl
opened_states make (s ∷ states) = ap (λ (bs : List Path). opened (make s) ∷ bs) (opened_states make states)

-- no branch is closing at first
opened_begun : (heads : List branches.Head) → map opened (map (λ (h : branches.Head). branches.begins h.0 h.1) heads) ≡ map (λ (h : branches.Head). branches.begins h.0 h.1) heads
opened_begun [] = refl
opened_begun (h ∷ heads) = ap (λ (bs : List Path). branches.begins h.0 h.1 ∷ bs) (opened_begun heads)

pub opened_roots : (flow : Flow) (heads : List branches.Head) → map opened (roots flow heads) ≡ roots flow heads
opened_roots flow heads = ap (λ (bs : List Path). branches.entry_path flow ∷ bs) (opened_begun heads)

module _ (flow : Flow) (defs : List Def) (cuts : List PointId) (heads : List branches.Head) where
  abbrev pub chain : Setting
  chain = record { form = Chain; cuts = cuts; heads = heads }

  abbrev pub certificate : Setting
  certificate = record { form = Certificate; cuts = cuts; heads = heads }

  by_step : (rule : InstrRule) (b : Path) (next : List Path) → ByStep rule flow chain b next → ByStep rule flow certificate (opened b) (map opened next)
  by_step rule b next (may, (steps, is, gives)) = (
    record { plain = may.plain; open_still = refl; before_cut = may.before_cut },
    (steps, is, ap (map opened) gives ∙ opened_steps steps),
  )

  by_unfolding : (P : List State → Type 0) (b : Path) (next : List Path) → ByUnfolding (λ s states. P states) b next
      → ByUnfolding (λ s states. P states) (opened b) (map opened next)
  by_unfolding P b next (still, (states, rule, gives)) = (refl, (states, rule, ap (map opened) gives ∙ opened_states (with_state b) states))

  by_folding : (P : List State → Type 0) (b : Path) (next : List Path) → ByFolding (λ s states. P states) chain b next
      → ByFolding (λ s states. P states) certificate (opened b) (map opened next)
  by_folding P b next (states, rule, gives) = (states, rule, ap (map opened) gives ∙ opened_states _ states)

  by_logic : (P : List State → Type 0) (b : Path) (next : List Path) → ByLogic (λ s states. P states) b next
      → ByLogic (λ s states. P states) (opened b) (map opened next)
  by_logic P b next (states, rule, gives) = (states, rule, ap (map opened) gives ∙ opened_states (with_state b) states)

  by_merging : (keep gone : NodeId) (b : Path) (next : List Path) → ByMerging keep gone b next → ByMerging keep gone (opened b) (map opened next)
  by_merging keep gone b next (states, rule, gives) = (states, rule, ap (map opened) gives ∙ opened_states _ states)

  -- a line that ends no branch as stuck is an instance in the certificate too
  pub instance_still : (l : Line) (b : Path) (next later : List Path) → stuck_by l b later ≡ [] → IsInstance flow defs chain l b next
      → IsInstance flow defs certificate l (opened b) (map opened next)
  instance_still (Step rule) b next later none i = by_step rule b next i
  instance_still (L1 edge) b next later none i = by_unfolding _ b next i
  instance_still (L2 edge) b next later none i = by_unfolding _ b next i
  instance_still (L3 fold) b next later none i = by_folding _ b next i
  instance_still (L4 fold) b next later none i = by_folding _ b next i
  instance_still (L5 first second) b next later none i = by_folding _ b next i
  instance_still (L6 first second) b next later none i = by_folding _ b next i
  instance_still (L7 pred at args stop ends) b next later none i = by_folding _ b next i
  instance_still (L8 node add kind) b next later none i = by_folding _ b next i
  instance_still (L9 keep gone) b next later none i = by_merging keep gone b next i
  instance_still (L10 edge) b next later none i = by_logic _ b next i
  instance_still (L11 node) b next later none i = (i.0, by_logic _ b next i.1)
  instance_still L12 b next later none i = (refl, i.1, ap (map opened) i.2)
  instance_still (L13 j images edges) b next later none i = record {
    may = record { plain = i.may.plain; at_cut = i.may.at_cut; has_moved = i.may.has_moved };
    consistent = i.consistent;
    head = i.head;
    there = i.there;
    jumps = i.jumps;
    gives = ap (map opened) i.gives;
  }
  instance_still (L14 edge) b next later none i = record { goal = i.goal; side = i.side; meets = i.meets; gives = ap (map opened) i.gives }
  instance_still (L15 edge) b next later none i = by_unfolding _ b next i
  instance_still C1 b next later none i = absurd (cc none)
  instance_still (Header version form) b next later none i = i
  instance_still (Cut p) b next later none i = i
  instance_still (Head p raw) b next later none i = i
  instance_still Pass b next later none i = i
  instance_still End b next later none i = i
  instance_still (C2 tries) b next later none i = i
  instance_still (C3 j steps) b next later none i = i

  pub none_later : (l : Line) (b : Path) (later : List Path) → stuck_by l b later ≡ [] → later ≡ []
  none_later C1 b later none = absurd (cc none)
  none_later other b later none = none

  none_marked : (l : Line) (b c : Path) (later : List Path) → stuck_by l b later ≡ [] → [] ≡ stuck_by l c []
  none_marked C1 b c later none = absurd (cc none)
  none_marked other b c later none = refl

  -- lines of a chain that end all branches, none of them as stuck, end those of a certificate
  reads_still : (rules : List Line) (bs stuck : List Path) → stuck ≡ [] → Reads flow defs chain rules bs stuck → Reads flow defs certificate rules (map opened bs) []
  reads_still [] bs stuck none (ended, e) = (ap (map opened) ended, refl)
  reads_still (l ∷ rules) [] stuck none r = r
  reads_still (l ∷ rules) (b ∷ bs) stuck none (next, later, i, rest, marks) =
      let none_here : stuck_by l b later ≡ [] = sym marks ∙ none in (
        map opened next,
        [],
        instance_still l b next later none_here i,
        subst (λ (cs : List Path). Reads flow defs certificate rules cs []) (map-append opened next bs)
            (reads_still rules (next ++ bs) later (none_later l b later none_here) rest),
        none_marked l b (opened b) later none_here,
      )

-- ---- the lines

-- the line of a rule stays
rule_stays : (flow : Flow) (defs : List Def) (g : Setting) (l : Line) (b : Path) (next : List Path) → IsInstance flow defs g l b next → stays l ≡ true
rule_stays flow defs g (Header version form) b next i = absurd i
rule_stays flow defs g Pass b next i = absurd i
rule_stays flow defs g other b next i = refl

rules_stay : (flow : Flow) (defs : List Def) (g : Setting) (rules : List Line) (bs stuck : List Path) → Reads flow defs g rules bs stuck → filter stays rules ≡ rules
rules_stay flow defs g [] bs stuck r = refl
rules_stay flow defs g (l ∷ rules) [] stuck r = absurd r
rules_stay flow defs g (l ∷ rules) (b ∷ bs) stuck (next, later, i, rest, marks) =
    ap (λ (test : Bool). cond test (l ∷ filter stays rules) (filter stays rules)) (rule_stays flow defs g l b next i)
    ∙ ap (λ (ls : List Line). l ∷ ls) (rules_stay flow defs g rules (next ++ bs) later rest)

cuts_stay : (cuts : List PointId) → filter stays (map Cut cuts) ≡ map Cut cuts
cuts_stay [] = refl
cuts_stay (p ∷ cuts) = ap (λ (ls : List Line). Cut p ∷ ls) (cuts_stay cuts)

heads_stay : (heads : List WrittenHead) → filter stays (map head_line heads) ≡ map head_line heads
heads_stay [] = refl
heads_stay (h ∷ heads) = ap (λ (ls : List Line). head_line h ∷ ls) (heads_stay heads)

pub chain_stays : (flow : Flow) (defs : List Def) (g : Setting) (cuts : List PointId) (heads : List WrittenHead) (rules : List Line) (bs stuck : List Path)
    → Reads flow defs g rules bs stuck
    → filter stays (Header One Chain ∷ (map Cut cuts ++ (map head_line heads ++ (Pass ∷ (rules ++ End ∷ [])))))
    ≡ map Cut cuts ++ (map head_line heads ++ (rules ++ End ∷ []))
chain_stays flow defs g cuts heads rules bs stuck r =
    filter-append stays (map Cut cuts) (map head_line heads ++ (Pass ∷ (rules ++ End ∷ [])))
    ∙ ap (λ (ls : List Line). ls ++ filter stays (map head_line heads ++ (Pass ∷ (rules ++ End ∷ [])))) (cuts_stay cuts)
    ∙ ap (λ (ls : List Line). map Cut cuts ++ ls)
    (filter-append stays (map head_line heads) (Pass ∷ (rules ++ End ∷ []))
    ∙ ap (λ (ls : List Line). ls ++ filter stays (rules ++ End ∷ [])) (heads_stay heads)
    ∙ ap (λ (ls : List Line). map head_line heads ++ ls)
    (filter-append stays rules (End ∷ []) ∙ ap (λ (ls : List Line). ls ++ End ∷ []) (rules_stay flow defs g rules bs stuck r)))

-- under the header of a certificate, the lines that stay are one
pub is_certificate : (flow : Flow) (defs : List Def) (lines : List Line) → IsShortChain flow defs lines []
    → IsValidCertificate flow defs (under_header lines)
is_certificate flow defs lines c = record {
  cuts = c.cuts;
  heads = c.heads;
  rules = c.rules;
  spelled = ap (λ (ls : List Line). Header One Certificate ∷ filter stays ls) c.spelled
      ∙ ap (λ (ls : List Line). Header One Certificate ∷ ls)
      (chain_stays flow defs (chain flow defs c.cuts (states_of c.heads)) c.cuts c.heads c.rules (roots flow (states_of c.heads)) [] c.pass.reads);
  cuts_are = c.pass.cuts_are;
  ordered = c.ordered;
  heads_are = c.heads_are;
  reads = subst (λ (bs : List Path). Reads flow defs (certificate flow defs c.cuts (states_of c.heads)) c.rules bs []) (opened_roots flow (states_of c.heads))
      (reads_still flow defs c.cuts (states_of c.heads) c.rules (roots flow (states_of c.heads)) [] refl c.pass.reads);
}
