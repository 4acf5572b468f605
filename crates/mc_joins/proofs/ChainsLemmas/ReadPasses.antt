-- Passes that are read one after the other, up to the end.
use Rattle.std.proofs.Common.{◌≡◌, ◌+◌, ℕ, suc, List, [], ◌∷◌, ◌++◌, Bool, true, false, length, refl, ap, sym, subst, ◌∙◌, arith}
use Rattle.std.specs.Prelude.{Result, Ok, Contains, flat_map, ◌||◌}
use Rattle.std.specs.List.{AllByRecursion}
use Rattle.mc_base.specs.declared.ids.PointId.{PointId}
use Rattle.mc_lines.specs.declared.cert.line.Line.{Line}
use Rattle.mc_lines.specs.declared.cert.line.Line.TheVariants as line
use Rattle.mc_flow.specs.declared.defs.rules.Def.{Def}
use Rattle.mc_flow.specs.declared.graph.Flow.{Flow}
use Rattle.mc_flow.specs.Valid.{IsValid}
use Rattle.mc_kernel.specs.Branches.{Head, Path, roots}
use Rattle.mc_kernel.specs.Instances.{stuck_by}
use Rattle.mc_kernel.specs.Readings.{marked}
use Rattle.mc_kernel.proofs.ReadingLemmas.Lists.{append_none, append_twice}
use Rattle.mc_kernel.proofs.ReadingLemmas.Rules.{stuck_marked}
use Rattle.mc_joins.specs.Parts.{Basis}
use Rattle.mc_joins.specs.Chains.Chains.{IsPassLine, ReadsPass, ReadsPasses, changes, changes_some, last_pass, over}
use Rattle.mc_joins.specs.Chains.Judges.{Lore, Reading, basis, finished, passing, reading_line, reading_lines, reading_rule}
use Rattle.mc_joins.specs.Chains.Laws.{IsRight, Made}
use Rattle.mc_joins.specs.Chains.Read.{IsKept, IsReadAt}
use Rattle.mc_joins.proofs.ChainsLemmas.Final.{pass_keeps, roots_made}
use Rattle.mc_joins.proofs.ChainsLemmas.InOrder.{behind_ok, behind_yes, same_reading}
use Rattle.mc_joins.proofs.ChainsLemmas.NewStates.{NewStatesAreMade, new_states}
use Rattle.mc_joins.proofs.ChainsLemmas.ReadLines.{Laws, line_kept, rule_from, rule_to}

-- a chain of which a pass is read
abbrev pub passing_at : List PointId → List Head → ℕ → List Path → List Path → Bool → Reading
passing_at cuts heads round bs stuck changed =
    record { stage = passing; cuts = cuts; heads = heads; round = round; branches = bs; stuck = stuck; changed = changed }

-- and one that has ended
abbrev pub ended_at : List PointId → List Head → ℕ → List Path → Bool → Reading
ended_at cuts heads round stuck changed =
    record { stage = finished; cuts = cuts; heads = heads; round = round; branches = []; stuck = stuck; changed = changed }

-- passes as lines
abbrev pub spelled_passes : List (List Line) → List Line
spelled_passes passes = flat_map (λ rules. line.Pass ∷ rules) passes

or_none : (b : Bool) → (b || false) ≡ b
or_none true = refl
or_none false = refl

or_twice : (a b c : Bool) → ((a || b) || c) ≡ (a || (b || c))
or_twice true b c = refl
or_twice false b c = refl

module _ (laws : Laws) (k : Lore) (flow : Flow) (defs : List Def) (right : IsRight k flow defs) (valid : IsValid flow defs) (cuts : List PointId) where
  abbrev lines_at : ℕ → List Line → Reading → Result Reading (ℕ × ℕ)
  lines_at = reading_lines k flow defs

  abbrev w : Basis
  w = basis k defs

  abbrev Good : Head → Type 0
  Good h = Contains cuts h.0 × Made flow defs h.1

  new : NewStatesAreMade k.lines.know flow defs
  new = new_states laws.making.anew_bounded laws.making.joins k.lines.know flow defs right.knows

  -- a pass opens kept branches
  pub opened_kept : (heads : List Head) (round : ℕ) → AllByRecursion Good heads → IsKept flow defs (passing_at cuts heads round (roots flow heads) [] false)
  opened_kept heads round good =
      record { heads = good; branches = roots_made laws.making.made laws.making.unknown flow defs valid k.lines.know new cuts heads good }

  -- passes, numbered from after a number on, after which the chain has ended
  pub record PassesOf (round : ℕ) (passes : List (List Line)) (heads : List Head) (last : Reading) : Type 0 where
    pub stuck : List Path
    pub after : List Head
    pub reads : ReadsPasses flow w cuts (suc round) passes stuck heads after
    pub ends : last ≡ ended_at cuts after (round + length passes) stuck (changes_some (last_pass passes))

  -- what comes after the lines of a pass: the end, or more passes
  abbrev After : List (List Line) → List Head → ℕ → List Path → Bool → Reading → Type 0
  After [] mid round stuck changed last = last ≡ ended_at cuts mid round stuck changed
  After (rules ∷ passes) mid round stuck changed last = (changed ≡ true) × PassesOf round (rules ∷ passes) mid last

  after_same : (passes : List (List Line)) (mid : List Head) (round : ℕ) (stuck own : List Path) (changed other : Bool) (last : Reading) → stuck ≡ own
      → changed ≡ other
      → After passes mid round stuck changed last → After passes mid round own other last
  after_same passes mid round stuck own changed other last e f a =
      subst (λ (b : Bool). After passes mid round own b last) f (subst (λ (ps : List Path). After passes mid round ps changed last) e a)

  -- the lines from within a pass up to the end
  pub record RestOf (lines : List Line) (heads : List Head) (round : ℕ) (bs stuck : List Path) (changed : Bool) (last : Reading) : Type 0 where
    pub rules : List Line
    pub passes : List (List Line)
    pub own : List Path
    pub mid : List Head
    pub spelled : lines ≡ rules ++ (spelled_passes passes ++ line.End ∷ [])
    pub reads : ReadsPass flow w round cuts rules bs own heads mid
    pub after : After passes mid round (stuck ++ own) (changed || changes_some rules) last

  -- a pass that is read whole, with those after it
  pub passes_of : (lines : List Line) (heads : List Head) (round : ℕ) (last : Reading) → (r : RestOf lines heads (suc round) (roots flow heads) [] false last)
      → PassesOf round (r.rules ∷ r.passes) heads last
  passes_of lines heads round last r = at r.passes r.after
    where
      at : (passes : List (List Line)) → After passes r.mid (suc round) r.own (changes_some r.rules) last → PassesOf round (r.rules ∷ passes) heads last
      at [] a =
          let number : suc round ≡ round + 1 = omega arith in
          record { stuck = r.own; after = r.mid; reads = r.reads; ends = a ∙ ap (λ (n : ℕ). ended_at cuts r.mid n r.own (changes_some r.rules)) number }
      at (more ∷ passes) a =
          let later = a.1 in
          let number : suc round + length (more ∷ passes) ≡ round + length (r.rules ∷ more ∷ passes) = omega arith in
          record {
            stuck = later.stuck;
            after = later.after;
            reads = (a.0, r.own, r.mid, r.reads, later.reads);
            ends = later.ends ∙ ap (λ (n : ℕ). ended_at cuts later.after n later.stuck (changes_some (last_pass (more ∷ passes)))) number;
          }

  -- ---- from what is read

  -- what is read from within a pass on
  abbrev From : ℕ → List Line → Type 0
  From n lines = (heads : List Head) (round : ℕ) (bs stuck : List Path) (changed : Bool) (last : Reading)
      → IsKept flow defs (passing_at cuts heads round bs stuck changed) → lines_at n lines (passing_at cuts heads round bs stuck changed) ≡ Ok last
      → last.stage ≡ finished
      → RestOf lines heads round bs stuck changed last

  -- a chain that has ended goes on by no line
  nothing_behind : (n : ℕ) (lines : List Line) (heads : List Head) (round : ℕ) (stuck : List Path) (changed : Bool) (last : Reading)
      → lines_at n lines (ended_at cuts heads round stuck changed) ≡ Ok last → (lines ≡ []) × (last ≡ ended_at cuts heads round stuck changed)
  nothing_behind n [] heads round stuck changed last e = (refl, cc e)
  nothing_behind n (l ∷ lines) heads round stuck changed last e = absurd (at l e)
    where
      at : (l : Line) → lines_at n (l ∷ lines) (ended_at cuts heads round stuck changed) ≡ Ok last → ⊥
      at (line.Header version form) e = cc e
      at (line.Cut p) e = cc e
      at (line.Head p raw) e = cc e
      at line.Pass e = cc e
      at line.End e = cc e
      at l e = cc e

  rule_rest : (n : ℕ) (l : Line) (lines : List Line) → From (suc n) lines
      → (heads : List Head) (round : ℕ) (bs stuck : List Path) (changed : Bool) (last : Reading)
      → IsKept flow defs (passing_at cuts heads round bs stuck changed)
      → (next : Reading) → reading_line k flow defs l (passing_at cuts heads round bs stuck changed) ≡ Ok next
      → IsReadAt flow w l (passing_at cuts heads round bs stuck changed) next
      → lines_at (suc n) lines next ≡ Ok last → last.stage ≡ finished → RestOf (l ∷ lines) heads round bs stuck changed last
  rule_rest n l lines rest heads round bs stuck changed last kept next read i e f =
      let there : Reading = passing_at cuts i.heads round (i.next ++ i.others) (stuck ++ marked l i.first) (changed || changes l) in
      let kept' = subst (IsKept flow defs) i.gives (line_kept laws k flow defs right valid l (passing_at cuts heads round bs stuck changed) next kept read) in
      let on : lines_at (suc n) lines there ≡ Ok last = subst (λ (r : Reading). lines_at (suc n) lines r ≡ Ok last) i.gives e in
      let r = rest i.heads round (i.next ++ i.others) (stuck ++ marked l i.first) (changed || changes l) last kept' on f in
      let own = stuck_by l i.first r.own in
      record {
        rules = l ∷ r.rules;
        passes = r.passes;
        own = own;
        mid = r.mid;
        spelled = ap (λ (ls : List Line). l ∷ ls) r.spelled;
        reads = subst (λ (ps : List Path). ReadsPass flow w round cuts (l ∷ r.rules) ps own heads r.mid) (sym i.open_are)
            (i.next, i.heads, r.own, i.instance, r.reads, refl);
        after =
            after_same r.passes r.mid round ((stuck ++ marked l i.first) ++ r.own) (stuck ++ own) ((changed || changes l) || changes_some r.rules)
            (changed || (changes l || changes_some r.rules)) last
            (append_twice stuck (marked l i.first) r.own ∙ ap (λ (ps : List Path). stuck ++ ps) (sym (stuck_marked l i.first r.own)))
            (or_twice changed (changes l) (changes_some r.rules)) r.after;
      }

  rule_line : (n : ℕ) (l : Line) (lines : List Line) → From (suc n) lines
      → (heads : List Head) (round : ℕ) (bs stuck : List Path) (changed : Bool) (last : Reading)
      → IsKept flow defs (passing_at cuts heads round bs stuck changed)
      → reading_line k flow defs l (passing_at cuts heads round bs stuck changed) ≡ reading_rule k flow defs l (passing_at cuts heads round bs stuck changed)
      → lines_at n (l ∷ lines) (passing_at cuts heads round bs stuck changed) ≡ Ok last → last.stage ≡ finished
      → RestOf (l ∷ lines) heads round bs stuck changed last
  rule_line n l lines rest heads round bs stuck changed last kept rule e f =
      let r = passing_at cuts heads round bs stuck changed in
      let read = behind_ok n (reading_line k flow defs l r) (lines_at (suc n) lines) last e in
      rule_rest n l lines rest heads round bs stuck changed last kept read.0 read.1
      (rule_from laws k flow defs right l r read.0 kept (sym rule ∙ read.1)) read.2 f

  end_rest : (n : ℕ) (lines : List Line) (heads : List Head) (round : ℕ) (bs stuck : List Path) (changed : Bool) (last : Reading)
      → lines_at n (line.End ∷ lines) (passing_at cuts heads round bs stuck changed) ≡ Ok last → RestOf (line.End ∷ lines) heads round bs stuck changed last
  end_rest n lines heads round (b ∷ bs) stuck changed last e = absurd (cc e)
  end_rest n lines heads round [] stuck changed last e =
      let none = nothing_behind (suc n) lines heads round stuck changed last e in
      record {
        rules = [];
        passes = [];
        own = [];
        mid = heads;
        spelled = ap (λ (ls : List Line). line.End ∷ ls) none.0;
        reads = (refl, refl, refl);
        after = after_same [] heads round stuck (stuck ++ []) changed (changed || false) last (sym (append_none stuck)) (sym (or_none changed)) none.1;
      }

  pass_rest : (n : ℕ) (lines : List Line) → From (suc n) lines → (heads : List Head) (round : ℕ) (bs stuck : List Path) (changed : Bool) (last : Reading)
      → IsKept flow defs (passing_at cuts heads round bs stuck changed)
      → lines_at n (line.Pass ∷ lines) (passing_at cuts heads round bs stuck changed) ≡ Ok last → last.stage ≡ finished
      → RestOf (line.Pass ∷ lines) heads round bs stuck changed last
  pass_rest n lines rest heads round (b ∷ bs) stuck changed last kept e f = absurd (cc e)
  pass_rest n lines rest heads round [] stuck false last kept e f = absurd (cc e)
  pass_rest n lines rest heads round [] stuck true last kept e f =
      let r = rest heads (suc round) (roots flow heads) [] false last (opened_kept heads (suc round) kept.heads) e f in
      record {
        rules = [];
        passes = r.rules ∷ r.passes;
        own = [];
        mid = heads;
        spelled = ap (λ (ls : List Line). line.Pass ∷ ls) (r.spelled ∙ sym (append_twice r.rules (spelled_passes r.passes) (line.End ∷ [])));
        reads = (refl, refl, refl);
        after = (refl, passes_of lines heads round last r);
      }

  pub rest_from : (n : ℕ) (lines : List Line) → From n lines
  rest_from n [] heads round bs stuck changed last kept e f =
      let stage : passing ≡ finished = ap (λ (r : Reading). r.stage) (same_reading (passing_at cuts heads round bs stuck changed) last e)
      ∙ f in absurd (cc stage)
  rest_from n (line.Header version form ∷ lines) heads round bs stuck changed last kept e f = absurd (cc e)
  rest_from n (line.Cut p ∷ lines) heads round bs stuck changed last kept e f = absurd (cc e)
  rest_from n (line.Head p raw ∷ lines) heads round bs stuck changed last kept e f = absurd (cc e)
  rest_from n (line.Pass ∷ lines) heads round bs stuck changed last kept e f =
      pass_rest n lines (rest_from (suc n) lines) heads round bs stuck changed last kept e f
  rest_from n (line.End ∷ lines) heads round bs stuck changed last kept e f = end_rest n lines heads round bs stuck changed last e
  rest_from n (l ∷ lines) heads round bs stuck changed last kept e f =
      rule_line n l lines (rest_from (suc n) lines) heads round bs stuck changed last kept refl e f

  -- ---- and back

  same_passing : (heads mid : List Head) (round : ℕ) (bs cs stuck own : List Path) (changed other : Bool) → heads ≡ mid → bs ≡ cs → stuck ≡ own
      → changed ≡ other
      → passing_at cuts heads round bs stuck changed ≡ passing_at cuts mid round cs own other
  same_passing heads mid round bs cs stuck own changed other a b c d = cc (a, b, c, d)

  -- an instance is read
  line_read : (l : Line) (heads mid : List Head) (round : ℕ) (b : Path) (bs next stuck : List Path) (changed : Bool)
      → IsKept flow defs (passing_at cuts heads round (b ∷ bs) stuck changed) → IsPassLine flow w round (over cuts heads) l b next mid
      → reading_line k flow defs l (passing_at cuts heads round (b ∷ bs) stuck changed) ≡ Ok
      (passing_at cuts mid round (next ++ bs) (stuck ++ marked l b) (changed || changes l))
  line_read l heads mid round b bs next stuck changed kept i =
      at l i
      (rule_to laws k flow defs right l (passing_at cuts heads round (b ∷ bs) stuck changed)
      (passing_at cuts mid round (next ++ bs) (stuck ++ marked l b) (changed || changes l)) kept
      (record { in_pass = refl; first = b; others = bs; open_are = refl; next = next; heads = mid; instance = i; gives = refl }))
    where
      at : (l : Line) → IsPassLine flow w round (over cuts heads) l b next mid
          → reading_rule k flow defs l (passing_at cuts heads round (b ∷ bs) stuck changed) ≡ Ok
          (passing_at cuts mid round (next ++ bs) (stuck ++ marked l b) (changed || changes l))
          → reading_line k flow defs l (passing_at cuts heads round (b ∷ bs) stuck changed) ≡ Ok
          (passing_at cuts mid round (next ++ bs) (stuck ++ marked l b) (changed || changes l))
      at (line.Header version form) i e = absurd i.0
      at (line.Cut p) i e = absurd i.0
      at (line.Head p raw) i e = absurd i.0
      at line.Pass i e = absurd i.0
      at line.End i e = absurd i.0
      at l i e = e

  -- the lines of a pass are read up to what comes after them
  pub rules_to : (n : ℕ) (rules ending : List Line) (heads mid : List Head) (round : ℕ) (bs own stuck : List Path) (changed : Bool)
      → IsKept flow defs (passing_at cuts heads round bs stuck changed) → ReadsPass flow w round cuts rules bs own heads mid
      → (m : ℕ) × (lines_at n (rules ++ ending) (passing_at cuts heads round bs stuck changed) ≡ lines_at m ending
      (passing_at cuts mid round [] (stuck ++ own) (changed || changes_some rules)))
  rules_to n [] ending heads mid round bs own stuck changed kept r = (
    n,
    ap (lines_at n ending)
        (same_passing heads mid round bs [] stuck (stuck ++ own) changed (changed || false) (sym r.2) r.0
        (sym (append_none stuck) ∙ ap (λ (ps : List Path). stuck ++ ps) (sym r.1)) (sym (or_none changed))),
  )
  rules_to n (l ∷ rules) ending heads mid round [] own stuck changed kept r = absurd r
  rules_to n (l ∷ rules) ending heads mid round (b ∷ bs) own stuck changed kept (next, heads', later, i, reads, e) =
      let before = passing_at cuts heads round (b ∷ bs) stuck changed in
      let behind' = passing_at cuts heads' round (next ++ bs) (stuck ++ marked l b) (changed || changes l) in
      let read = line_read l heads heads' round b bs next stuck changed kept i in
      let on = rules_to (suc n) rules ending heads' mid round (next ++ bs) later (stuck ++ marked l b) (changed || changes l)
      (line_kept laws k flow defs right valid l before behind' kept read) reads in (
        on.0,
        behind_yes n (reading_line k flow defs l before) (lines_at (suc n) (rules ++ ending)) behind' read
            ∙ on.1
            ∙ ap (lines_at on.0 ending)
            (same_passing mid mid round [] [] ((stuck ++ marked l b) ++ later) (stuck ++ own) ((changed || changes l) || changes_some rules)
            (changed || (changes l || changes_some rules)) refl refl
            (append_twice stuck (marked l b) later ∙ ap (λ (ps : List Path). stuck ++ ps) (sym (stuck_marked l b later) ∙ sym e))
            (or_twice changed (changes l) (changes_some rules))),
      )

  -- a pass after one that has changed something
  next_pass : (m : ℕ) (lines : List Line) (mid : List Head) (round : ℕ) (stuck : List Path) (changed : Bool) → changed ≡ true
      → lines_at m (line.Pass ∷ lines) (passing_at cuts mid round [] stuck changed) ≡ lines_at (suc m) lines
      (passing_at cuts mid (suc round) (roots flow mid) [] false)
  next_pass m lines mid round stuck true e = refl
  next_pass m lines mid round stuck false e = absurd (cc e)

  pub passes_to : (n : ℕ) (rules : List Line) (passes : List (List Line)) (heads after : List Head) (round : ℕ) (stuck : List Path) → AllByRecursion Good heads
      → ReadsPasses flow w cuts (suc round) (rules ∷ passes) stuck heads after
      → lines_at n (rules ++ (spelled_passes passes ++ line.End ∷ [])) (passing_at cuts heads (suc round) (roots flow heads) [] false)
      ≡ Ok (ended_at cuts after (round + length (rules ∷ passes)) stuck (changes_some (last_pass (rules ∷ passes))))
  passes_to n rules [] heads after round stuck good reads =
      let number : suc round ≡ round + 1 = omega arith in
      let on = rules_to n rules (line.End ∷ []) heads after (suc round) (roots flow heads) stuck [] false (opened_kept heads (suc round) good) reads in
      on.1 ∙ ap (λ (j : ℕ). let r : Result Reading (ℕ × ℕ) = Ok (ended_at cuts after j stuck (changes_some rules)) in r) number
  passes_to n rules (more ∷ passes) heads after round stuck good (changed, own, mid, pass, reads) =
      let ending : List Line = spelled_passes passes ++ line.End ∷ [] in
      let number : suc round + length (more ∷ passes) ≡ round + length (rules ∷ more ∷ passes) = omega arith in
      let on = rules_to n rules (spelled_passes (more ∷ passes) ++ line.End ∷ []) heads mid (suc round) (roots flow heads) own [] false
      (opened_kept heads (suc round) good) pass in
      let good' = pass_keeps laws.making.made laws.making.unknown flow defs valid k.lines.know new cuts (suc round) rules (roots flow heads) own heads mid good
      (opened_kept heads (suc round) good).branches pass in
      on.1
      ∙ next_pass on.0 ((more ++ spelled_passes passes) ++ line.End ∷ []) mid (suc round) own (changes_some rules) changed
      ∙ ap (λ (ls : List Line). lines_at (suc on.0) ls (passing_at cuts mid (suc (suc round)) (roots flow mid) [] false))
      (append_twice more (spelled_passes passes) (line.End ∷ []))
      ∙ passes_to (suc on.0) more passes mid after (suc round) stuck good' reads
      ∙ ap (λ (j : ℕ). let r : Result Reading (ℕ × ℕ) = Ok (ended_at cuts after j stuck (changes_some (last_pass (more ∷ passes)))) in r) number
