-- Labels that wait.
use Rattle.std.proofs.Common.{◌≡◌, ◌++◌, ℕ, suc, List, [], ◌∷◌, refl, sym, ap, ◌∙◌, subst, length, Vec, Global}
use Rattle.mc_lower.specs.declared.builder.Builder.{Builder}
use Rattle.mc_lower.specs.declared.builder.Label.{Label}
use Rattle.mc_lower.specs.declared.conditions.Work.{Work}
use Rattle.mc_lower.specs.declared.lines.Awaited.{Awaited}
use Rattle.mc_lower.specs.declared.lines.Lines.{Lines}
use Rattle.mc_lower.specs.Knowns.{Known, Waits, known, owners_of, with_all, with_label, with_next, with_occurrence}
use Rattle.mc_lower.specs.Valued.{froms}
use Rattle.mc_lower.proofs.Agreeing.{one_more, with_lines}

-- ---- what is known with other lists
abbrev known_so : Builder → ℕ → List Awaited → Known
known_so b n ws =
    record {
      source = record { program = b.program.now; structs = b.structs.now };
      state = record { owners = owners_of b.variables.list.items; blocks = length b.blocks.items; occurrences = n };
      waiting = ws;
    }

count_same : (xs ys : Vec Label Global) → ys ≡ xs → length xs.items ≡ length ys.items
count_same xs ys is = ap (λ (v : Vec Label Global). length v.items) (sym is)

-- the label that waited first is the goal
pub one_less : (b : Builder) (l : Lines) → l.outs ≡ b.lines.outs → b.lines.waiting ≡ Awaited.Goal l.goal ∷ l.waiting
    → known b ≡ with_label l.goal (known (with_lines b l))
one_less b l outs waiting =
    ap (λ n. known_so b n b.lines.waiting) (count_same b.lines.outs l.outs outs) ∙ ap (λ ws. known_so b (length l.outs.items) ws) waiting

pub taken_off : (b : Builder) (l : Lines) (a : Awaited) (k : Known) → l.outs ≡ b.lines.outs → known b ≡ with_next a k → l.waiting ≡ k.waiting
    → known (with_lines b l) ≡ k
taken_off b l a k outs is waiting =
    ap (λ n. known_so b n l.waiting) (sym (count_same b.lines.outs l.outs outs)) ∙ ap (λ ws. known_so b (length b.lines.outs.items) ws) waiting
    ∙ ap (λ x. record { source = x.source; state = x.state; waiting = k.waiting }) is

pub waits_more : (b : Builder) (l : Lines) (label : Label) → l.outs ≡ b.lines.outs → l.waiting ≡ Awaited.Goal label ∷ b.lines.waiting
    → known (with_lines b l) ≡ with_label label (known b)
waits_more b l label outs waiting =
    ap (λ n. known_so b n l.waiting) (sym (count_same b.lines.outs l.outs outs)) ∙ ap (λ ws. known_so b (length b.lines.outs.items) ws) waiting

pub occurs_more : (b : Builder) (l : Lines) (i : ℕ) (label : Label) → i ≡ length b.lines.outs.items → l.outs.items ≡ b.lines.outs.items ++ label ∷ []
    → l.waiting ≡ Awaited.Out i ∷ b.lines.waiting → known (with_lines b l) ≡ with_occurrence (known b)
occurs_more b l i label is outs waiting =
    ap (λ n. known_so b n l.waiting) (one_more _ _ _ outs) ∙ ap (λ ws. known_so b (suc (length b.lines.outs.items)) ws) waiting
    ∙ ap (λ j. known_so b (suc (length b.lines.outs.items)) (Awaited.Out j ∷ b.lines.waiting)) is

pub waiting_of : (k : Known) → Waits k → (l : Label) × (rest : List Awaited) × (k.waiting ≡ Awaited.Goal l ∷ rest)
waiting_of k waits = (waits.0, waits.1.waiting, ap (λ x. x.waiting) waits.2)

-- ---- what waits under it is the same
abbrev rest_of : List Awaited → List Awaited
rest_of [] = []
rest_of (a ∷ more) = more

abbrev without_next : Known → Known
without_next k = record { source = k.source; state = k.state; waiting = rest_of k.waiting }

pub next_same : (a e : Awaited) (k m : Known) → with_next a k ≡ with_next e m → k ≡ m
next_same a e k m is = ap without_next is

first_same : (a e : Awaited) (xs ys : List Awaited) → a ∷ xs ≡ e ∷ ys → a ≡ e
first_same a e xs ys is = cc is

goal_same : (l m : Label) → Awaited.Goal l ≡ Awaited.Goal m → l ≡ m
goal_same l m is = cc is

pub label_same : (l m : Label) (j k : Known) → with_label l j ≡ with_label m k → l ≡ m
label_same l m j k is = goal_same l m (first_same _ _ j.waiting k.waiting (ap (λ x. x.waiting) is))

pub all_same : (more : List Awaited) (k m : Known) → with_all more k ≡ with_all more m → k ≡ m
all_same [] k m is = is
all_same (a ∷ more) k m is = all_same more k m (next_same a a (with_all more k) (with_all more m) is)

-- what waited first, told twice
pub popped : (l m : Label) (k i j : Known) → k ≡ with_label l i → k ≡ with_label m j → (m ≡ l) × (j ≡ i)
popped l m k i j one other = let same = sym one ∙ other in (sym (label_same l m i j same), sym (next_same _ _ i j same))

-- the label that waited first is gone
pub gone_on : (l m : Label) (k i j : Known) → k ≡ with_label l i → k ≡ with_label m j → k ≡ with_label l j
gone_on l m k i j one other = let both = popped l m k i j one other in other ∙ ap (λ x. with_label x j) both.0

-- what waits is other where the same waits under a label
pub under : (l : Label) (k i j : Known) → k ≡ with_label l i → j ≡ i → k ≡ with_label l j
under l k i j is same = is ∙ ap (λ x. with_label l x) (sym same)

pub waits_on : (k m : Known) → m ≡ k → Waits k → Waits m
waits_on k m is waits = subst (λ x. Waits x) (sym is) waits

-- where conditions are still to be tested from labels, one waits
pub waits_all : (work : List Work) (k : Known) → Waits k → Waits (with_all (froms work) k)
waits_all [] k waits = waits
waits_all (t ∷ work) k waits = (t.from, with_all (froms work) k, refl)

-- the condition that is next is tested from the goal
pub next_there : (work : List Work) (t : Work) (more : List Work) (k m : Known) (l : Label) → work ≡ t ∷ more → with_all (froms work) k ≡ with_label l m
    → (t.from ≡ l) × (m ≡ with_all (froms more) k)
next_there work t more k m l is rest =
    let same : with_label t.from (with_all (froms more) k) ≡ with_label l m = ap (λ x. with_all (froms x) k) (sym is) ∙ rest in
    (label_same t.from l (with_all (froms more) k) m same, sym (next_same _ _ (with_all (froms more) k) m same))

pub next_waits : (work : List Work) (t : Work) (more : List Work) (k m : Known) (l : Label) → work ≡ t ∷ more → with_all (froms work) k ≡ with_label l m → Waits k → Waits m
next_waits work t more k m l is rest waits = let both = next_there work t more k m l is rest in waits_on _ _ both.1 (waits_all more k waits)

-- what waits alone waits first
pub alone_waits : (k : Known) (a : Awaited) → k.waiting ≡ a ∷ [] → (m : Known) × (k ≡ with_next a m)
alone_waits k a is = (
  record { source = k.source; state = k.state; waiting = [] },
  ap (λ ws. record { source = k.source; state = k.state; waiting = ws }) is,
)

-- two labels wait, the later one first
pub both_wait : (l m : Label) (k j i h : Known) → k ≡ with_label l j → j ≡ with_label m i → i ≡ h → k ≡ with_label l (with_label m h)
both_wait l m k j i h first second same = first ∙ ap (λ x. with_label l x) (second ∙ ap (λ x. with_label m x) same)

-- where the `return` of a call goes waits first
abbrev pub under_out : Known → Known → Known
under_out k m = record { source = m.source; state = m.state; waiting = k.waiting }

pub out_waits : (k m : Known) (i : ℕ) → m.waiting ≡ Awaited.Out i ∷ k.waiting → m ≡ with_next (Awaited.Out i) (under_out k m)
out_waits k m i is = ap (λ ws. record { source = m.source; state = m.state; waiting = ws }) is
