-- Chains without lines that change the states of cuts are read as in `mc_kernel`.
use Rattle.std.proofs.Common.{◌≡◌, ℕ, suc, List, [], ◌∷◌, ◌++◌, Bool, true, false, refl, ap, sym, subst, ◌∙◌}
use Rattle.std.specs.Prelude.{Result, Ok, Err, ◌&&◌, ◌||◌}
use Rattle.mc_base.specs.declared.ids.PointId.{PointId}
use Rattle.mc_lines.specs.declared.cert.line.Line.{Line}
use Rattle.mc_lines.specs.declared.cert.line.Line.TheVariants as line
use Rattle.mc_flow.specs.declared.defs.rules.Def.{Def}
use Rattle.mc_flow.specs.declared.graph.Flow.{Flow}
use Rattle.mc_state.specs.Premises.{Judged, need, then_give}
use Rattle.mc_state.proofs.Numbered.{need_ok}
use Rattle.mc_state.specs.declared.line.Form.TheVariants.{Chain}
use Rattle.mc_state.specs.RawStates.{state_of}
use Rattle.mc_rules_steps.specs.Operands.{code_at}
use Rattle.mc_kernel.specs.Branches.{Head, Path, roots}
use Rattle.mc_kernel.specs.Certificates.{WrittenHead, states_of}
use Rattle.mc_kernel.specs.Judges.{is_cut, judged_line}
use Rattle.mc_kernel.specs.Readings as kernel
use Rattle.mc_kernel.specs.Readings.{comes_after, has_all_heads, is_skip, marked, stands_after}
use Rattle.mc_kernel.proofs.ReadingLemmas.Front as front
use Rattle.mc_kernel.proofs.ReadingLemmas.Rules as rules
use Rattle.mc_joins.specs.Chains.Chains.{changes_some, over}
use Rattle.mc_joins.specs.Chains.InOrder.{behind}
use Rattle.mc_joins.specs.Chains.Judges.{Lore, Outcome, Reading, reading_lines, stands_behind}
use Rattle.mc_joins.specs.Chains.Short.{ShortReadingsAgree, as_chain, seen_as_chain}
use Rattle.mc_joins.proofs.ChainsLemmas.ReadFront.{cutting_at, heading_at, same_place, states_end}
use Rattle.mc_joins.proofs.ChainsLemmas.ReadPasses.{ended_at, passing_at}

-- a line that is judged alike, and those after it
behind_as : (n : ℕ) (own : Judged kernel.Reading) (j : Judged Reading) (others : kernel.Reading → Result kernel.Reading (ℕ × ℕ))
    (rest : Reading → Result Reading (ℕ × ℕ))
    → j ≡ then_give as_chain own → ((r : kernel.Reading) → own ≡ Ok r → rest (as_chain r) ≡ seen_as_chain (others r))
    → behind n j rest ≡ seen_as_chain (kernel.behind n own others)
behind_as n (Ok r) j others rest e f = ap (λ (j : Judged Reading). behind n j rest) e ∙ f r refl
behind_as n (Err p) j others rest e f = ap (λ (j : Judged Reading). behind n j rest) e

-- a premise of both
need_as : (n : ℕ) (a b : Bool) (own : Judged kernel.Reading) (j : Judged Reading) → a ≡ b → j ≡ then_give as_chain own
    → need n a j ≡ then_give as_chain (need n b own)
need_as n true true own j e f = f
need_as n false false own j e f = refl
need_as n true false own j e f = absurd (cc e)
need_as n false true own j e f = absurd (cc e)

either : (a b : Bool) → (a || b) ≡ false → b ≡ false
either false b e = e
either true b e = absurd (cc e)

module _ (k : Lore) (flow : Flow) (defs : List Def) where
  abbrev lines_at : ℕ → List Line → Reading → Result Reading (ℕ × ℕ)
  lines_at = reading_lines k flow defs

  abbrev others_at : ℕ → List Line → kernel.Reading → Result kernel.Reading (ℕ × ℕ)
  others_at = kernel.reading_lines k.lines k.formed flow defs

  -- ---- at the end

  ended_same : (n : ℕ) (lines : List Line) (cuts : List PointId) (written : List WrittenHead) (stuck : List Path)
      → lines_at n lines (ended_at cuts (states_of written) 1 stuck false) ≡ seen_as_chain (others_at n lines (rules.ended_at Chain cuts written stuck))
  ended_same n [] cuts written stuck = refl
  ended_same n (line.Header version form ∷ lines) cuts written stuck = refl
  ended_same n (line.Cut p ∷ lines) cuts written stuck = refl
  ended_same n (line.Head p raw ∷ lines) cuts written stuck = refl
  ended_same n (line.Pass ∷ lines) cuts written stuck = refl
  ended_same n (line.End ∷ lines) cuts written stuck = refl
  ended_same n (l ∷ lines) cuts written stuck = refl

  -- ---- in the pass

  -- a line at the first open branch
  module _ (n : ℕ) (l : Line) (lines : List Line) (cuts : List PointId) (written : List WrittenHead) (b : Path) (bs stuck : List Path)
      (rest : (next : List Path) → lines_at (suc n) lines (passing_at cuts (states_of written) 1 (next ++ bs) (stuck ++ marked l b) false)
      ≡ seen_as_chain (others_at (suc n) lines (rules.ruling_at Chain cuts written (next ++ bs) (stuck ++ marked l b)))) where
    line_same : (j : Judged (List Path))
        → behind n
        (then_give (λ (out : Outcome). passing_at cuts out.heads 1 (out.next ++ bs) (stuck ++ marked l b) false)
        (then_give (λ (next : List Path). let o : Outcome = record { next = next; heads = states_of written } in o) j))
        (lines_at (suc n) lines)
        ≡ seen_as_chain (kernel.behind n (then_give (λ (next : List Path). rules.ruling_at Chain cuts written (next ++ bs) (stuck ++ marked l b)) j)
        (others_at (suc n) lines))
    line_same (Ok next) = rest next
    line_same (Err p) = refl

  passing_same : (n : ℕ) (lines : List Line) (cuts : List PointId) (written : List WrittenHead) (bs stuck : List Path) → changes_some lines ≡ false
      → lines_at n lines (passing_at cuts (states_of written) 1 bs stuck false) ≡ seen_as_chain
      (others_at n lines (rules.ruling_at Chain cuts written bs stuck))
  passing_same n [] cuts written bs stuck none = refl
  passing_same n (line.Header version form ∷ lines) cuts written bs stuck none = refl
  passing_same n (line.Cut p ∷ lines) cuts written bs stuck none = refl
  passing_same n (line.Head p raw ∷ lines) cuts written bs stuck none = refl
  passing_same n (line.Pass ∷ lines) cuts written [] stuck none = refl
  passing_same n (line.Pass ∷ lines) cuts written (b ∷ bs) stuck none = refl
  passing_same n (line.End ∷ lines) cuts written [] stuck none = ended_same (suc n) lines cuts written stuck
  passing_same n (line.End ∷ lines) cuts written (b ∷ bs) stuck none = refl
  passing_same n (line.C2 tries ∷ lines) cuts written bs stuck none = absurd (cc none)
  passing_same n (line.C3 j steps ∷ lines) cuts written bs stuck none = absurd (cc none)
  passing_same n (l ∷ lines) cuts written [] stuck none = refl
  passing_same n (l ∷ lines) cuts written (b ∷ bs) stuck none =
      line_same n l lines cuts written b bs stuck (λ next. passing_same (suc n) lines cuts written (next ++ bs) (stuck ++ marked l b) none)
      (judged_line k.lines flow defs (over cuts (states_of written)) l b)

  -- ---- heads

  -- a head is judged alike
  head_as : (cuts : List PointId) (written : List WrittenHead) (h : WrittenHead)
      → need 3 (is_cut cuts h.0 && stands_behind (states_of written) h.0)
      (need 4 (k.formed h.1) (Ok (record (heading_at cuts written) { heads = states_of written ++ (h.0, state_of h.1) ∷ [] })))
      ≡ then_give as_chain (need 3 (is_cut cuts h.0 && stands_after written h.0) (need 4 (k.formed h.1) (Ok (front.heading_at Chain cuts (written ++ h ∷ [])))))
  head_as cuts written h =
      need_as 3 (is_cut cuts h.0 && stands_behind (states_of written) h.0) (is_cut cuts h.0 && stands_after written h.0) _ _
      (ap (λ (b : Bool). is_cut cuts h.0 && b) (same_place written h.0))
      (need_as 4 (k.formed h.1) (k.formed h.1) _ _ refl
      (ap (λ (heads : List Head). let j : Judged Reading = Ok (record (heading_at cuts written) { heads = heads }) in j) (states_end written h)))

  -- a head that is read
  head_is : (cuts : List PointId) (written : List WrittenHead) (h : WrittenHead) (r : kernel.Reading)
      → need 3 (is_cut cuts h.0 && stands_after written h.0) (need 4 (k.formed h.1) (Ok (front.heading_at Chain cuts (written ++ h ∷ [])))) ≡ Ok r
      → front.heading_at Chain cuts (written ++ h ∷ []) ≡ r
  head_is cuts written h r e =
      let three = need_ok 3 (is_cut cuts h.0 && stands_after written h.0) _ r e in
      let four = need_ok 4 (k.formed h.1) _ r three.1 in
      cc four.1

  heading_same : (n : ℕ) (lines : List Line) (cuts : List PointId) (written : List WrittenHead) → has_all_heads flow cuts ≡ true → changes_some lines ≡ false
      → lines_at n lines (heading_at cuts written) ≡ seen_as_chain (others_at n lines (front.heading_at Chain cuts written))
  heading_same n [] cuts written full none = refl
  heading_same n (line.Header version form ∷ lines) cuts written full none = refl
  heading_same n (line.Cut p ∷ lines) cuts written full none = refl
  heading_same n (line.Head p raw ∷ lines) cuts written full none =
      behind_as n _ _ (others_at (suc n) lines) (lines_at (suc n) lines) (head_as cuts written (p, raw)) (λ r e.
      subst (λ (r : kernel.Reading). lines_at (suc n) lines (as_chain r) ≡ seen_as_chain (others_at (suc n) lines r)) (head_is cuts written (p, raw) r e)
      (heading_same (suc n) lines cuts (written ++ (p, raw) ∷ []) full none))
  heading_same n (line.Pass ∷ lines) cuts written full none =
      passing_same (suc n) lines cuts written (roots flow (states_of written)) [] none
      ∙ sym (ap (λ (b : Bool). seen_as_chain (kernel.behind n (need 1 b (Ok (rules.ruling_at Chain cuts written (roots flow (states_of written)) [])))
      (others_at (suc n) lines))) full)
  heading_same n (line.End ∷ lines) cuts written full none = refl
  heading_same n (l ∷ lines) cuts written full none = refl

  -- ---- cuts

  cut_as : (cuts : List PointId) (p : PointId)
      → need 3 (is_skip (code_at flow p)) (need 4 (comes_after cuts p) (Ok (cutting_at (cuts ++ p ∷ []))))
      ≡ then_give as_chain (need 3 (is_skip (code_at flow p)) (need 4 (comes_after cuts p) (Ok (front.cutting_at Chain (cuts ++ p ∷ [])))))
  cut_as cuts p =
      need_as 3 (is_skip (code_at flow p)) (is_skip (code_at flow p)) _ _ refl (need_as 4 (comes_after cuts p) (comes_after cuts p) _ _ refl refl)

  cut_is : (cuts : List PointId) (p : PointId) (r : kernel.Reading)
      → need 3 (is_skip (code_at flow p)) (need 4 (comes_after cuts p) (Ok (front.cutting_at Chain (cuts ++ p ∷ [])))) ≡ Ok r
      → front.cutting_at Chain (cuts ++ p ∷ []) ≡ r
  cut_is cuts p r e =
      let three = need_ok 3 (is_skip (code_at flow p)) _ r e in
      let four = need_ok 4 (comes_after cuts p) _ r three.1 in
      cc four.1

  cutting_same : (n : ℕ) (lines : List Line) (cuts : List PointId) → changes_some lines ≡ false
      → lines_at n lines (cutting_at cuts) ≡ seen_as_chain (others_at n lines (front.cutting_at Chain cuts))
  cutting_same n [] cuts none = refl
  cutting_same n (line.Header version form ∷ lines) cuts none = refl
  cutting_same n (line.Cut p ∷ lines) cuts none =
      behind_as n _ _ (others_at (suc n) lines) (lines_at (suc n) lines) (cut_as cuts p) (λ r e.
      subst (λ (r : kernel.Reading). lines_at (suc n) lines (as_chain r) ≡ seen_as_chain (others_at (suc n) lines r)) (cut_is cuts p r e)
      (cutting_same (suc n) lines (cuts ++ p ∷ []) none))
  cutting_same n (line.Head p raw ∷ lines) cuts none =
      behind_as n _ _ (others_at (suc n) lines) (lines_at (suc n) lines)
      (need_as 1 (has_all_heads flow cuts) (has_all_heads flow cuts) _ _ refl (head_as cuts [] (p, raw))) (λ r e.
      let full = need_ok 1 (has_all_heads flow cuts) _ r e in
      subst (λ (r : kernel.Reading). lines_at (suc n) lines (as_chain r) ≡ seen_as_chain (others_at (suc n) lines r)) (head_is cuts [] (p, raw) r full.1)
      (heading_same (suc n) lines cuts ((p, raw) ∷ []) full.0 none))
  cutting_same n (line.Pass ∷ lines) cuts none = at (has_all_heads flow cuts)
    where
      at : (full : Bool)
          → behind n (need 1 full (Ok (passing_at cuts [] 1 (roots flow []) [] false))) (lines_at (suc n) lines)
          ≡ seen_as_chain (kernel.behind n (need 1 full (Ok (rules.ruling_at Chain cuts [] (roots flow []) []))) (others_at (suc n) lines))
      at true = passing_same (suc n) lines cuts [] (roots flow []) [] none
      at false = refl
  cutting_same n (line.End ∷ lines) cuts none = refl
  cutting_same n (l ∷ lines) cuts none = refl

pub short_readings_agree : ShortReadingsAgree
short_readings_agree k flow defs lines none = cutting_same k flow defs 2 lines [] none
