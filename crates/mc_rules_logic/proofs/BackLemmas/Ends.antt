-- A segment is empty, or ends with the body of a rule of which one call is its end.
use Rattle.std.proofs.Common.{◌≡◌, ℕ, zero, suc, ◌⊎◌, ℤ, Option, Some, None, List, [], ◌∷◌, map, refl, inl, inr}
use Rattle.mc_base.specs.declared.ids.PredId.{PredId}
use Rattle.mc_flow.specs.Heap.Heap.{Region}
use Rattle.mc_flow.specs.Heap.Instances.{nowhere}
use Rattle.mc_flow.specs.Heap.Parts.{Split, IsEmpty, StarAt}
use Rattle.mc_flow.specs.Heap.PartLaws.{SplitCommutes, SplitRegroupsLeft, SplitRegroupsRight, SplitAddsEmpty}
use Rattle.mc_flow.specs.declared.defs.rules.Call.{Call}
use Rattle.mc_flow.specs.declared.defs.rules.Def.{Def}
use Rattle.mc_flow.specs.Defs.Meaning.{CallMeets, SegCallMeets, SegBodyMeets, Sat, EndsThere, SegAt, Seg}
use Rattle.mc_flow.specs.Defs.Values.{value_of}
use Rattle.mc_rules_logic.specs.Back.Ends.{EndsWithBody, SegEnds}

-- a segment's end on the way, and the height of the segment to there
record Middle : Type 0 where
  at : ℤ
  args : List ℤ
  height : ℕ

nowhere-IsEmpty : IsEmpty nowhere
nowhere-IsEmpty = record { none = λ at. refl }

module _ (commutes : SplitCommutes) (to_left : SplitRegroupsLeft) (to_right : SplitRegroupsRight) where
  -- the thing at the place and its part, and how the list is filled by another part, of another meaning, there
  star_at_open : {A B : Type 0} (M S : A → Region → Type 0) (T : B → A → Region → Type 0) (i : ℕ) (xs : List A) (c : Region) → StarAt M S i xs c
      → (x : A) × (l : Region) × (r : Region) × Split c l r × S x l × ((b : B) (l' c' : Region) → T b x l' → Split c' l' r → StarAt M (T b) i xs c')
  star_at_open M S T i [] c s = absurd s
  star_at_open M S T zero (x ∷ xs) c s = (x, s.0, s.1, s.2, s.3, λ b l' c' t q. (l', s.1, q, t, s.4))
  star_at_open M S T (suc i) (x ∷ xs) c s =
      let o = star_at_open M S T i xs s.1 s.4 in
      let u = to_left c s.0 s.1 o.2 o.1 s.2 (commutes s.1 o.1 o.2 o.3) in (
        o.0,
        o.1,
        u.0,
        commutes c u.0 o.1 u.2,
        o.4,
        λ b l' c' t q.
            let w = to_right c' u.0 l' s.0 o.2 (commutes c' l' u.0 q) u.1 in
            (s.0, w.0, w.2, s.3, o.5 b l' w.0 t (commutes w.0 o.2 l' w.1)),
      )

  module _ (adds_empty : SplitAddsEmpty) (defs : List Def) (p : PredId) (stop : ℤ) (ends : List ℤ) where
    -- a call is the end, or goes on as a segment to a middle
    abbrev Goes : List ℤ → Option Middle → Call → Region → Type 0
    Goes names None call part = SegCallMeets (EndsThere stop ends) p names call part
    Goes names (Some m) call part = SegCallMeets (SegAt defs p m.at m.args m.height) p names call part

    module _ (k : ℕ) (v : ℤ) (args : List ℤ) (h : Region) (b : SegBodyMeets (Sat defs) (SegAt defs p stop ends k) defs p v args h) where
      abbrev Opened : Call → Region → Region → Type 0
      Opened call part others =
          (o : Option Middle) (part' calls' : Region) → Goes b.0.names o call part' → Split calls' part' others → StarAt (CallMeets (Sat defs) b.0.names) (Goes b.0.names o) b.5 b.0.rule.calls calls'

      -- the segment is one body
      one_body : (call : Call) (part others : Region) → Split b.2 part others → call.pred ≡ p → Opened call part others → EndsThere stop ends (value_of b.0.names call.at) (map (value_of b.0.names) call.args) part → EndsWithBody defs p stop ends v args h
      one_body call part others split own fill e =
          (v, args, nowhere, h, adds_empty h nowhere nowhere-IsEmpty, record { height = 0; holds = (refl, refl, nowhere-IsEmpty) }, (b.0, b.1, b.2, b.3, b.4, b.5, fill None part b.2 (own, e) split))

      -- or the first body goes on
      more_bodies : (call : Call) (part others : Region) → Split b.2 part others → call.pred ≡ p → Opened call part others → EndsWithBody defs p stop ends (value_of b.0.names call.at) (map (value_of b.0.names) call.args) part → EndsWithBody defs p stop ends v args h
      more_bodies call part others split own fill t =
          let m : Middle = record { at = t.0; args = t.1; height = t.5.height } in
          let u = to_left b.2 others part t.2 t.3 (commutes b.2 part others split) t.4 in
          let f = to_left h b.1 b.2 u.0 t.3 b.3 u.2 in
          let first : Seg defs p v args t.0 t.1 f.0 = record { height = suc t.5.height; holds = inr (b.0, b.1, u.0, f.1, b.4, b.5, fill (Some m) t.2 u.0 (own, t.5.holds) (commutes u.0 others t.2 u.1)) } in
          (t.0, t.1, f.0, t.3, f.2, first, t.6)

    ends_at : (k : ℕ) (v : ℤ) (args : List ℤ) (h : Region) → SegAt defs p stop ends k v args h → EndsThere stop ends v args h ⊎ EndsWithBody defs p stop ends v args h
    ends_at zero v args h s = inl s
    ends_at (suc k) v args h (inl e) = inl e
    ends_at (suc k) v args h (inr b) =
        let o = star_at_open (CallMeets (Sat defs) b.0.names) (SegCallMeets (SegAt defs p stop ends k) p b.0.names) (Goes b.0.names) b.5 b.0.rule.calls b.2 b.6 in
        elim (ends_at k (value_of b.0.names o.0.at) (map (value_of b.0.names) o.0.args) o.1 o.4.1) [
          | inl e ↦ inr (one_body k v args h b o.0 o.1 o.2 o.3 o.4.0 o.5 e)
          | inr t ↦ inr (more_bodies k v args h b o.0 o.1 o.2 o.3 o.4.0 o.5 t)
        ]

pub seg_ends : SplitCommutes → SplitRegroupsLeft → SplitRegroupsRight → SplitAddsEmpty → SegEnds
seg_ends commutes to_left to_right adds_empty defs p v args stop ends h s = ends_at commutes to_left to_right adds_empty defs p stop ends s.height v args h s.holds
