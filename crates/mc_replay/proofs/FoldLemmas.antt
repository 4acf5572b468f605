-- What is found and named, and what is folded.
use Rattle.std.proofs.Common.{◌≡◌, List, Option, Some, None, Ok, Err, IfOk, refl, sym, ap, ap₂, subst, ◌∙◌}
use Rattle.std.specs.Prelude.{Result, is_some, option_map, option_and_then, unwrap_or}
use Rattle.mc_base.specs.declared.ids.EdgeId.{EdgeId}
use Rattle.mc_base.specs.declared.ids.NodeId.{NodeId}
use Rattle.mc_base.specs.declared.ids.PredId.{PredId}
use Rattle.mc_flow.specs.declared.defs.rules.Def.{Def}
use Rattle.mc_state.specs.Graph.Graph.{Edges}
use Rattle.mc_state.specs.declared.graph.edge.Edge.TheVariants.{Seg}
use Rattle.mc_state.specs.declared.line.Side.{Side}
use Rattle.mc_state.specs.declared.line.Side.TheVariants.{Left, Right}
use Rattle.mc_state.specs.declared.terms.Term.{Term}
use Rattle.mc_state.specs.Known.{Test, Tells}
use Rattle.mc_state.specs.State.{State}
use Rattle.mc_state.specs.Terms.{plain}
use Rattle.mc_cover.specs.First.{Choice, first_cover, first_seg_cover}
use Rattle.mc_cover.specs.Goals.{Stop}
use Rattle.mc_cover.specs.Guessed.{first_edge, guess, summary_of}
use Rattle.mc_cover.specs.Search.Setting.{free_edges}
use Rattle.mc_joins.specs.Joinings.{Half, Joining, Pair, across, half, of_side}
use Rattle.mc_joins.specs.Joinings.{free_edges as foldable_edges}
use Rattle.mc_joins.specs.Parts.{Basis, Named, Part, nodes_of_args, guessed, standing_args, ended_part, folded_ind, guessed_seg}
use Rattle.mc_joins.specs.Steps.{joined, joined_from}
use Rattle.mc_replay.specs.declared.joining.Half.{Half as KeptHalf}
use Rattle.mc_replay.specs.declared.joining.Joining.{Joining as Kept}
use Rattle.mc_replay.specs.Covers.{edges_of, zeros_of}
use Rattle.mc_replay.specs.Folds.{IndFound, SegFound, OnlyNames, ind_with, seg_with, ind_fold, seg_fold, made_ind, made_seg, named_ind, with_state}
use Rattle.mc_replay.specs.Joined.{seen, seen_half}
use Rattle.mc_replay.specs.Named.{TellsFrom, nodes_of_both}

-- ---- options

-- what is made of the edges of a choice
then_edges : {X Y : Type 0} (f : List EdgeId → X) (g : X → Option Y) (o : Option Choice)
    → option_and_then g (option_map f (edges_of o)) ≡ option_and_then (λ c. g (f c.used)) o
then_edges f g None = refl
then_edges f g (Some c) = refl

same_some : {X : Type 0} {x y : X} → Some x ≡ Some y → x ≡ y
same_some e = cc

map_some : {X Y : Type 0} (f : X → Y) (o : Option X) → is_some (option_map f o) ≡ is_some o
map_some f None = refl
map_some f (Some x) = refl

-- ---- what is folded is found and then named

module _ (w : Basis) (j : Joining) (side : Side) (p : Pair) (pred : PredId) where
  pub ind_bridge : (args : List Term) → folded_ind w j side p pred args ≡ option_and_then (made_ind w j side p pred) (ind_fold w j side p pred args)
  ind_bridge args =
      sym (then_edges (ind_with args) (made_ind w j side p pred)
      (first_cover (w.know (half j side).state) w.defs pred (plain (of_side side p)) args (foldable_edges j side p)))

  pub seg_bridge : (stop : NodeId) (ends : List Term)
      → guessed_seg w j side p pred stop ends ≡ option_and_then (made_seg w j side p pred) (seg_fold w j side p pred stop ends)
  seg_bridge stop ends =
      let args = guessed w (half j side) pred (of_side side p) (Some (plain stop, ends)) in
      sym (then_edges (seg_with args stop ends) (made_seg w j side p pred)
      (first_seg_cover (w.know (half j side).state) w.defs pred (plain (of_side side p)) args (plain stop) ends (foldable_edges j side p)))

  -- it is named where its arguments have nodes
  pub ind_named : (f : IndFound) → is_some (made_ind w j side p pred f) ≡ is_some (nodes_of_args w pred (half j side).state f.args)
  ind_named f = map_some (named_ind side p pred f.used) (nodes_of_args w pred (half j side).state f.args)

  pub seg_named : (f : SegFound) → is_some (made_seg w j side p pred f) ≡ is_some (nodes_of_both w pred (half j side).state f.args f.ends)
  seg_named f = at (nodes_of_args w pred (half j side).state f.args)
    where
      at : (o : Option Named)
          → is_some (option_and_then (ended_part w side p pred f.stop f.ends f.used) o)
          ≡ is_some (option_and_then (λ first. nodes_of_args w pred first.state f.ends) o)
      at None = refl
      at (Some first) =
          map_some (λ (last : Named). record { state = last.state; edge = Seg (of_side side p) first.nodes pred f.stop last.nodes; used = f.used })
          (nodes_of_args w pred first.state f.ends)

  -- it uses the edges that were found
  pub ind_uses : (f : IndFound) (part : Part) → made_ind w j side p pred f ≡ Some part → part.used ≡ f.used
  ind_uses f part = at (nodes_of_args w pred (half j side).state f.args)
    where
      at : (o : Option Named) → option_map (named_ind side p pred f.used) o ≡ Some part → part.used ≡ f.used
      at None is = cc
      at (Some named) is = sym (ap (λ (z : Part). z.used) (same_some is))

  pub seg_uses : (f : SegFound) (part : Part) → made_seg w j side p pred f ≡ Some part → part.used ≡ f.used
  seg_uses f part = first_at (nodes_of_args w pred (half j side).state f.args)
    where
      last_at : (first : Named) (o : Option Named)
          → option_map (λ (last : Named). record { state = last.state; edge = Seg (of_side side p) first.nodes pred f.stop last.nodes; used = f.used }) o
          ≡ Some part
          → part.used ≡ f.used
      last_at first None is = cc
      last_at first (Some last) is = sym (ap (λ (z : Part). z.used) (same_some is))

      first_at : (o : Option Named) → option_and_then (ended_part w side p pred f.stop f.ends f.used) o ≡ Some part → part.used ≡ f.used
      first_at None is = cc
      first_at (Some first) is = last_at first (nodes_of_args w pred first.state f.ends) is

-- ---- what a side has

-- what holds of every good answer
pub if_ok : {X E : Type 0} {P Q : X → Type 0} → (r : Result X E) → ((x : X) → P x → Q x) → IfOk r P → IfOk r Q
if_ok (Ok x) f p = f x p
if_ok (Err e) f p = tt

-- the arguments of the first of these edges that stands there, else zeros
abbrev standing_of : Test → List Def → PredId → NodeId → Edges → List NodeId
standing_of know defs pred n es =
    unwrap_or (option_map (λ (found : EdgeId × List NodeId). found.1) (first_edge (summary_of know pred (plain n)) es)) (zeros_of defs pred)

-- the edges that are left are given by the list of those that are used
pub same_standing : (w : Basis) (h : KeptHalf) (pred : PredId) (n : NodeId) (defs : List Def) (used : List EdgeId)
    → w.defs ≡ defs → used ≡ h.used.items
    → standing_of (w.know h.state) defs pred n (free_edges h.state used) ≡ standing_args w (seen_half h) pred n
same_standing w h pred n defs used same is =
    ap₂ (λ (z : List EdgeId) (d : List Def). standing_of (w.know h.state) d pred n (free_edges h.state z)) is (sym same)

pub same_guess : (w : Basis) (h : KeptHalf) (pred : PredId) (n : NodeId) (stop : Option Stop) (defs : List Def) (at : Term) (used : List EdgeId)
    → w.defs ≡ defs → at ≡ plain n → used ≡ h.used.items
    → guess (w.know h.state) defs pred at stop (free_edges h.state used) ≡ guessed w (seen_half h) pred n stop
same_guess w h pred n stop defs at used same node is =
    ap₂ (λ (z : List EdgeId) (d : List Def). guess (w.know h.state) d pred at stop (free_edges h.state z)) is (sym same)
    ∙ ap (λ (a : Term). guess (w.know h.state) w.defs pred a stop (free_edges h.state h.used.items)) node

-- with an end as stop
pub same_stop : (w : Basis) (pred : PredId) (stop : NodeId) (h g : Half) (n m : NodeId) (ends own : List Term) → h ≡ g → n ≡ m → ends ≡ own
    → guessed w h pred n (Some (plain stop, ends)) ≡ guessed w g pred m (Some (plain stop, own))
same_stop w pred stop h g n m ends own half node args =
    ap₂ (λ (z : Half) (x : NodeId). guessed w z pred x (Some (plain stop, ends))) half node
    ∙ ap (λ (ts : List Term). guessed w g pred m (Some (plain stop, ts))) args

-- ---- what covers take

pub tells_same : (w : Basis) (s u : State) → s ≡ u → TellsFrom w u → TellsFrom w s
tells_same w s u is t = subst (λ (z : State). TellsFrom w z) (sym is) t

pub tells_at : (w : Basis) (s u : State) → s ≡ u → TellsFrom w u → Tells (w.know s) s
tells_at w s u is t = let there = tells_same w s u is t in there.knows s there.made

abbrev Covers : Type 0
Covers = Test → List Def → Term → Edges → Option Choice

module _ (w : Basis) (j : Joining) (side : Side) (p : Pair) (cover : Covers) where
  -- the choice at a side of the pair
  abbrev here : Option Choice
  here = cover (w.know (half j side).state) w.defs (plain (of_side side p)) (foldable_edges j side p)

  same_cover : (s : State) (defs : List Def) (at : NodeId) (es : Edges)
      → s ≡ (half j side).state → w.defs ≡ defs → at ≡ of_side side p → es ≡ foldable_edges j side p
      → cover (w.know s) defs (plain at) es ≡ here
  same_cover s defs at es state same node free =
      ap (λ (z : State). cover (w.know z) defs (plain at) es) state
      ∙ (ap (λ (z : List Def). cover (w.know (half j side).state) z (plain at) es) (sym same)
      ∙ (ap (λ (z : NodeId). cover (w.know (half j side).state) w.defs (plain z) es) node
      ∙ ap (λ (z : Edges). cover (w.know (half j side).state) w.defs (plain (of_side side p)) z) free))

  -- the edges that it takes
  pub found_by : {X : Type 0} (made : List EdgeId → X) (o : Option (List EdgeId)) (s : State) (defs : List Def) (at : NodeId) (es : Edges)
      → s ≡ (half j side).state → w.defs ≡ defs → at ≡ of_side side p → es ≡ foldable_edges j side p
      → o ≡ edges_of (cover (w.know s) defs (plain at) es) → option_map made o ≡ option_map made (edges_of here)
  found_by made o s defs at es state same node free is = ap (option_map made) (is ∙ ap edges_of (same_cover s defs at es state same node free))

-- ---- a join in which nodes of a side were named

module _ (side : Side) (s : State) (j : Joining) where
  -- the other side is the same
  pub other_half : half (with_state side s j) (across side) ≡ half j (across side)
  other_half = at side
    where
      at : (x : Side) → half (with_state x s j) (across x) ≡ half j (across x)
      at Left = refl
      at Right = refl

  -- and so is what parts make of it, since they have states of their own
  pub joined_anew : (l r : Part) → joined (with_state side s j) l r ≡ joined j l r
  joined_anew l r = at side
    where
      at : (x : Side) → joined (with_state x s j) l r ≡ joined j l r
      at Left = refl
      at Right = refl

  pub joined_from_anew : (first : Side) (mine theirs : Part) → joined_from (with_state side s j) first mine theirs ≡ joined_from j first mine theirs
  joined_from_anew Left mine theirs = joined_anew mine theirs
  joined_from_anew Right mine theirs = joined_anew theirs mine

module _ (side : Side) (old new : Kept) (o : OnlyNames side old new) where
  pub other_stays : half (seen new) (across side) ≡ half (seen old) (across side)
  other_stays = ap (λ (j : Joining). half j (across side)) o.rest ∙ other_half side (half (seen new) side).state (seen old)

  -- what is entailed is told in both states, if it was
  pub tells_both : (w : Basis) → TellsFrom w old.left.state → TellsFrom w old.right.state → TellsFrom w new.left.state × TellsFrom w new.right.state
  tells_both w l r = at side o
    where
      at : (x : Side) → OnlyNames x old new → TellsFrom w new.left.state × TellsFrom w new.right.state
      at Left n = (n.tells w l, tells_same w new.right.state old.right.state (ap (λ (j : Joining). j.right.state) n.rest) r)
      at Right n = (tells_same w new.left.state old.left.state (ap (λ (j : Joining). j.left.state) n.rest) l, n.tells w r)
