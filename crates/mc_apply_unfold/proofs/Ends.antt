-- End arguments at back positions, one after the other.
use Rattle.std.proofs.Common.{◌≡◌, ◌<◌, ◌+◌, ℕ, suc, Bool, true, false, List, drop, length, get_or, sym, ◌∙◌, ap, arith}
use Rattle.std.specs.Prelude.{◌&&◌, ◌||◌}
use Rattle.std.proofs.lemmas.List.{drop_more}
use Rattle.mc_base.specs.declared.ids.NodeId.{NodeId}
use Rattle.mc_base.specs.declared.ids.PredId.{PredId}
use Rattle.mc_flow.specs.declared.defs.rules.Def.{Def}
use Rattle.mc_state.specs.Back.{is_back}
use Rattle.mc_state.specs.Known.{Test, equal}
use Rattle.mc_rules_logic.specs.Back.Judges.{ends_back_at}

module _ (know : Test) (defs : List Def) (pred : PredId) (node : NodeId) (ends : List NodeId) (i : ℕ) (d : NodeId) (inside : i < length ends) where
  abbrev here : Bool
  here = is_back defs pred i && equal know (get_or ends i d) node

  abbrev later : Bool
  later = ends_back_at know defs pred node (suc i) (drop (i + 1) ends)

  opened : ends_back_at know defs pred node i (drop i ends) ≡ (here || later)
  opened = ap (ends_back_at know defs pred node i) (drop_more ends i d inside)

  -- one that is there ends the search
  pub ends_here : true ≡ here → true ≡ ends_back_at know defs pred node i (drop i ends)
  ends_here is = ap (λ b. b || later) is ∙ sym opened

  -- after one that is not, those after it are left
  pub ends_later : false ≡ here → ends_back_at know defs pred node (i + 1) (drop (i + 1) ends) ≡ ends_back_at know defs pred node i (drop i ends)
  ends_later is =
      let count : i + 1 ≡ suc i = omega arith in
      ap (λ n. ends_back_at know defs pred node n (drop (i + 1) ends)) count ∙ ap (λ b. b || later) is ∙ sym opened
