-- Segments: how they begin, what they are made of, and what they make with what stands at their end.
use Rattle.std.proofs.Common.{◌≡◌, ℕ, zero, suc, ◌⊎◌, ℤ, pos, Option, Some, None, List, [], map, refl, sym, subst, inl, inr, arith}
use Rattle.std.specs.Prelude.{IsSome}
use Rattle.mc_base.specs.declared.ids.PredId.{PredId}
use Rattle.mc_base.specs.declared.ids.StructId.{StructId}
use Rattle.mc_flow.specs.Heap.Heap.{Region, IsAtAddresses}
use Rattle.mc_flow.specs.Heap.Parts.{Split, IsEmpty, Star}
use Rattle.mc_flow.proofs.HeapLemmas.Splits.{split_right, split_empty, split_keeps_addresses}
use Rattle.mc_flow.proofs.HeapLemmas.Stars.{star_fill, star_at_fill, star_at_map, star_at_some, star_without}
use Rattle.mc_flow.specs.declared.defs.rules.Call.{Call}
use Rattle.mc_flow.specs.declared.defs.rules.Def.{Def}
use Rattle.mc_flow.specs.Defs.Conditions.{IsDefs, DefFits, RuleFitsStructs}
use Rattle.mc_flow.specs.Defs.Values.{value_of}
use Rattle.mc_flow.specs.Defs.Meaning.{RuleValues, BlockMeets, CallMeets, SegCallMeets, SegBodyMeets, Sat, EndsThere, SegAt, Seg}
use Rattle.mc_flow.specs.Defs.Laws.{SegBegins, SegOfBody, SegThenSat, SegThenSeg, SatOfNull}
use Rattle.mc_flow.proofs.DefsLemmas.Heights.{fold, body_of}
use Rattle.mc_flow.proofs.DefsLemmas.SomeStructs.{all_at}

module _ (defs : List Def) where
  seg_sat_at : (p : PredId) (w : ℤ) (ends : List ℤ) (r : Region) → Sat defs p w ends r → (k : ℕ) (v : ℤ) (args : List ℤ) (l h : Region) → Split h l r → SegAt defs p w ends k v args l → Sat defs p v args h
  seg_sat_at p w ends r t zero v args l h q s = rw (s.0, s.1, split_empty s.2 q) t
  seg_sat_at p w ends r t (suc k) v args l h q s =
      elim s [
        | inl e ↦ rw (e.0, e.1, split_empty e.2 q) t
        | inr b ↦
            let m = split_right q b.3 in
            fold defs p v args h (
              b.0,
              b.1,
              m.0,
              m.2,
              b.4,
              star_fill _ _ r (λ c u g q' s'. rw s'.0 (seg_sat_at p w ends r t k _ _ u g q' s'.1)) b.5 b.0.rule.calls b.2 m.0 m.1 b.6,
            )
      ]

  seg_seg_at : (p : PredId) (u : ℤ) (mids : List ℤ) (w : ℤ) (ends : List ℤ) (r : Region) → Seg defs p u mids w ends r → (k : ℕ) (v : ℤ) (args : List ℤ) (l h : Region) → Split h l r → SegAt defs p u mids k v args l → Seg defs p v args w ends h
  seg_seg_at p u mids w ends r t zero v args l h q s = rw (s.0, s.1, split_empty s.2 q) t
  seg_seg_at p u mids w ends r t (suc k) v args l h q s =
      elim s [
        | inl e ↦ rw (e.0, e.1, split_empty e.2 q) t
        | inr b ↦
            let m = split_right q b.3 in
            let all = star_at_fill (CallMeets (Sat defs) b.0.names) (SegCallMeets (SegAt defs p u mids k) p b.0.names)
            (λ c g. (n : ℕ) × SegCallMeets (SegAt defs p w ends n) p b.0.names c g) r
            (λ c x g q' s'. let o = seg_seg_at p u mids w ends r t k _ _ x g q' s'.1 in (o.height, (s'.0, o.holds)))
            b.5 b.0.rule.calls b.2 m.0 m.1 b.6 in
            let one = star_at_some _ (λ n c g. SegCallMeets (SegAt defs p w ends n) p b.0.names c g) b.5 b.0.rule.calls m.0 all in
            record { height = suc one.0; holds = inr (b.0, b.1, m.0, m.2, b.4, b.5, one.1) }
      ]

  seg_begins_at : (p : PredId) (w : ℤ) (ends : List ℤ) (k : ℕ) (v : ℤ) (args : List ℤ) (h : Region) → SegAt defs p w ends k v args h → EndsThere w ends v args h ⊎ SegBodyMeets (Sat defs) (λ v' args' g. Seg defs p v' args' w ends g) defs p v args h
  seg_begins_at p w ends zero v args h s = inl s
  seg_begins_at p w ends (suc k) v args h s =
      elim s [
        | inl e ↦ inl e
        | inr b ↦ inr (
          b.0,
          b.1,
          b.2,
          b.3,
          b.4,
          b.5,
          star_at_map _ _ (SegCallMeets (SegAt defs p w ends k) p b.0.names) (SegCallMeets (λ v' args' g. Seg defs p v' args' w ends g) p b.0.names) (λ c g m. m) (λ c g m. (m.0, record { height = k; holds = m.1 })) b.5 b.0.rule.calls b.2 b.6,
        )
      ]

pub seg_begins : SegBegins
seg_begins defs p v args w ends h s = seg_begins_at defs p w ends s.height v args h s.holds

pub seg_of_body : SegOfBody
seg_of_body defs p v args h b c i place call at is q block calls =
    record {
      height = 1;
      holds = inr (
        i,
        b,
        c,
        q,
        block,
        place,
        star_without _ (SegCallMeets (SegAt defs p (value_of i.names call.at) (map (value_of i.names) call.args) 0) p i.names) call
            (λ g e. (is, (refl, refl, e))) place i.rule.calls c at calls,
      );
    }

pub seg_then_sat : SegThenSat
seg_then_sat defs p v args w ends h l r q s t = seg_sat_at defs p w ends r t s.height v args l h q s.holds

pub seg_then_seg : SegThenSeg
seg_then_seg defs p v args u mids w ends h l r q s t = seg_seg_at defs p u mids w ends r t s.height v args l h q s.holds

-- ---- null
-- a rule of definitions that fit some structs
pub rule_fits : (defs : List Def) (p : PredId) (v : ℤ) (args : List ℤ) → (d : IsDefs defs) → (i : RuleValues defs p v args) → RuleFitsStructs d.0 defs i.def.params i.rule
rule_fits defs p v args d i = all_at (RuleFitsStructs d.0 defs i.def.params) i.def.rules i.place i.rule i.listed (all_at (DefFits d.0 defs) defs p.0 i.def i.defined d.1).rules

-- a block is not at null
no_block : (s : StructId) (contents : List ℕ) (names : List ℤ) (h : Region) → value_of names 0 ≡ pos 0 → IsAtAddresses h → BlockMeets (Some s) contents names h → ⊥
no_block s contents names h null all m =
    let zero_at : m.0 ≡ 0 = cc in
    let there : IsSome (h m.0) = cc (m.2.here) in
    let big = (all m.0 there).0 in
    absurd (omega arith)

empty_body : (block : Option StructId) (contents : List ℕ) (names : List ℤ) (cs : List Call) (M : Call → Region → Type 0) (h b c : Region) → value_of names 0 ≡ pos 0 → IsAtAddresses h → (block ≡ None → cs ≡ []) → Split h b c → BlockMeets block contents names b → Star M cs c → (block ≡ None) × IsEmpty h
empty_body (Some s) contents names cs M h b c null all guarded q m star =
    absurd (no_block s contents names b null (split_keeps_addresses h b c q all) m)
empty_body None contents names cs M h b c null all guarded q m star =
    let none : IsEmpty c = subst (λ xs. Star M xs c) (guarded refl) star in
    (refl, subst IsEmpty (sym (split_empty m q)) none)

pub sat_of_null : SatOfNull
sat_of_null defs p args h d all s =
    let b = body_of defs p (pos 0) args h s in
    let fits = rule_fits defs p (pos 0) args d b.0 in
    let null : value_of b.0.names 0 ≡ pos 0 = rw b.0.front refl in
    let e = empty_body b.0.rule.block b.0.rule.contents b.0.names b.0.rule.calls _ h b.1 b.2 null all fits.fits.guarded b.3 b.4 b.5 in
    (b.0, e.0, e.1)
