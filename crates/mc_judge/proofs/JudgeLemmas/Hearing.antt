-- What a judge of documents has read.
use Rattle.std.proofs.Common.{◌≡◌, ◌≢◌, ◌+◌, ℕ, suc, List, [], ◌∷◌, ◌++◌, true, false, nat_eq, length, refl, sym, ◌∙◌, ap, subst, arith, append_assoc}
use Rattle.std.specs.Prelude.{Result, Ok, Err, OnOk, ◌==◌}
use Rattle.std.specs.declared.alloc.AllocError.{AllocError}
use Rattle.mc_lines.specs.Cert.Lines.{lines_of}
use Rattle.mc_flow.specs.declared.defs.rules.Def.{Def}
use Rattle.mc_flow.specs.declared.graph.Flow.{Flow}
use Rattle.mc_flow.specs.Valid.{IsValid}
use Rattle.mc_joins.specs.Chains.Judges.{Lore}
use Rattle.mc_joins.specs.Chains.Laws.{IsRight}
use Rattle.mc_kernel.proofs.ReadingLemmas.Lists.{append_none}
use Rattle.mc_judge.specs.Judge.Cuts.{HasNoFeed, IsCut}
use Rattle.mc_judge.specs.declared.judge.judge.Judge.{Judge}
use Rattle.mc_judge.specs.declared.judge.stage.Stage.{Stage}
use Rattle.mc_judge.specs.declared.judge.stage.Stage.TheVariants.{Unbegun, Open, Ended, Refused, Spent}
use Rattle.mc_judge.specs.declared.judge.verdict.Refusal.{Refusal}
use Rattle.mc_judge.specs.Judge.Stages.{HasHeard, Hears, Holds, IsAt, Leads, StaysFor, needs_more}
use Rattle.mc_judge.specs.Judge.Verdicts.{IsRefusal}
use Rattle.mc_judge.proofs.JudgeLemmas.Documents.{AreRead, Once, not_refused, nothing_refused}
use Rattle.mc_judge.proofs.JudgeLemmas.Cutting.{no}
use Rattle.mc_judge.proofs.JudgeLemmas.Growing.{cut_line, cut_more, cuts_are_one}
use Rattle.mc_judge.proofs.JudgeLemmas.Standing.{at_end, at_end_open, holds_more, holds_nothing, line_at, move}

-- what follows where a call succeeds
pub on_ok : (A B : Type 0) (r : Result Unit AllocError) → OnOk r A → (A → B) → OnOk r B
on_ok A B (Ok done) a f = f a
on_ok A B (Err e) a f = a

length_end : (texts : List (List ℕ)) (t : List ℕ) → length (texts ++ t ∷ []) ≡ suc (length texts)
length_end [] t = refl
length_end (x ∷ texts) t = ap (λ (n : ℕ). suc n) (length_end texts t)

one_more : (a b n : ℕ) → a ≡ b + 1 → b ≡ n → a ≡ suc n
one_more a b n e f = omega arith

at_same : (k : Lore) (texts : List (List ℕ)) (stage : Stage) (old new : Judge) → StaysFor old new
    → IsAt k old.flow.now old.defs.now texts stage → IsAt k new.flow.now new.defs.now texts stage
at_same k texts stage old new same at =
    move (λ (f : Flow) (d : List Def). IsAt k f d texts stage) old.flow.now new.flow.now old.defs.now new.defs.now (sym same.0) (sym same.1) at

judge_same : (k : Lore) (old new : Judge) → StaysFor old new
    → IsRight k old.flow.now old.defs.now → IsRight k new.flow.now new.defs.now
judge_same k old new same judge =
    move (λ (f : Flow) (d : List Def). IsRight k f d) old.flow.now new.flow.now old.defs.now new.defs.now (sym same.0) (sym same.1) judge

pub valid_same : (old new : Judge) → StaysFor old new → IsValid old.flow.now old.defs.now → IsValid new.flow.now new.defs.now
valid_same old new same valid =
    move (λ (f : Flow) (d : List Def). IsValid f d) old.flow.now new.flow.now old.defs.now new.defs.now (sym same.0) (sym same.1) valid

pub stays_then : (old mid new : Judge) → StaysFor old mid → StaysFor mid new → StaysFor old new
stays_then old mid new p q = (q.0 ∙ p.0, q.1 ∙ p.1)

-- what is known of the stages of a judge that read the end of a line
pub record IsClosing (old new : Judge) (bytes : List ℕ) : Type 0 where
  pub same : StaysFor old new
  pub counted : new.lines ≡ old.lines + 1
  pub empty : new.open.items ≡ []
  pub known : new.stage ≢ Spent
  pub leads : (texts : List (List ℕ)) → new.lines ≡ suc (length texts)
      → Leads old.flow.now old.defs.now (old.open.items ++ bytes) texts old.stage new.stage
  pub stays : (cause : Refusal) → old.stage ≡ Refused cause → new.stage ≡ Refused cause

pub line_heard : (old new : Judge) (bytes : List ℕ) → HasNoFeed bytes → IsClosing old new bytes → Hears (bytes ++ (10 ∷ [])) old new
line_heard old new bytes none c k text judge heard = record {
  texts = heard.texts ++ (heard.rest ++ bytes) ∷ [];
  rest = [];
  cut = cut_line text heard.texts heard.rest bytes heard.cut none;
  stands = at_same k (heard.texts ++ (heard.rest ++ bytes) ∷ []) new.stage old new c.same
      (line_at k old.flow.now old.defs.now heard.texts (heard.rest ++ bytes) (old.open.items ++ bytes) old.stage new.stage judge
      (holds_more old.stage heard.rest old.open.items bytes heard.held)
      (c.leads heard.texts (one_more new.lines old.lines (length heard.texts) c.counted heard.counted)) c.stays heard.stands);
  counted = one_more new.lines old.lines (length heard.texts) c.counted heard.counted ∙ sym (length_end heard.texts (heard.rest ++ bytes));
  held = subst (λ (o : List ℕ). Holds new.stage [] o) (sym c.empty) (holds_nothing new.stage c.known);
}

-- bytes of an open line that are held
pub record IsHolding (old new : Judge) (bytes : List ℕ) : Type 0 where
  pub same : StaysFor old new
  pub stage : new.stage ≡ old.stage
  pub lines : new.lines ≡ old.lines
  pub longer : new.open.items ≡ old.open.items ++ bytes

pub more_heard : (old new : Judge) (bytes : List ℕ) → HasNoFeed bytes → IsHolding old new bytes → Hears bytes old new
more_heard old new bytes none c k text judge heard = record {
  texts = heard.texts;
  rest = heard.rest ++ bytes;
  cut = cut_more text heard.texts heard.rest bytes heard.cut none;
  stands = at_same k heard.texts new.stage old new c.same
      (subst (λ (s : Stage). IsAt k old.flow.now old.defs.now heard.texts s) (sym c.stage) heard.stands);
  counted = c.lines ∙ heard.counted;
  held = subst (λ (o : List ℕ). Holds new.stage (heard.rest ++ bytes) o) (sym c.longer)
      (subst (λ (s : Stage). Holds s (heard.rest ++ bytes) (old.open.items ++ bytes)) (sym c.stage)
      (holds_more old.stage heard.rest old.open.items bytes heard.held));
}

holds_anything : (stage : Stage) (rest held : List ℕ) → needs_more stage ≡ false → stage ≢ Spent → Holds stage rest held
holds_anything Unbegun rest held e ne = absurd (cc e)
holds_anything (Open p) rest held e ne = absurd (cc e)
holds_anything (Ended verdict) rest held e ne = absurd (cc e)
holds_anything (Refused cause) rest held e ne = tt
holds_anything Spent rest held e ne = absurd (ne refl)

-- and bytes that are not
pub quiet_heard : (judge : Judge) (bytes : List ℕ) → HasNoFeed bytes → needs_more judge.stage ≡ false → judge.stage ≢ Spent → Hears bytes judge judge
quiet_heard judge bytes none e ne k text right heard = record {
  texts = heard.texts;
  rest = heard.rest ++ bytes;
  cut = cut_more text heard.texts heard.rest bytes heard.cut none;
  stands = heard.stands;
  counted = heard.counted;
  held = holds_anything judge.stage (heard.rest ++ bytes) judge.open.items e ne;
}

-- ---- pieces, one after the other

hears_nothing : (judge : Judge) → Hears [] judge judge
hears_nothing judge k text right heard = subst (λ (t : List ℕ). HasHeard k t judge) (sym (append_none text)) heard

hears_then : (a b : List ℕ) (old mid new : Judge) → Hears a old mid → StaysFor old mid → Hears b mid new → Hears (a ++ b) old new
hears_then a b old mid new first same second k text judge heard =
    subst (λ (t : List ℕ). HasHeard k t new) (append_assoc text a b)
    (second k (text ++ a) (judge_same k old mid same judge) (first k text judge heard))

-- what of a piece is read so far
pub record Fed (piece rest : List ℕ) (old new : Judge) : Type 0 where
  pub before : List ℕ
  pub spelled : piece ≡ before ++ rest
  pub heard : Hears before old new
  pub same : StaysFor old new

pub fed_nothing : (piece : List ℕ) (judge : Judge) → Fed piece piece judge judge
fed_nothing piece judge = record { before = []; spelled = refl; heard = hears_nothing judge; same = (refl, refl) }

line_end : (line more : List ℕ) → line ++ (10 ∷ more) ≡ (line ++ (10 ∷ [])) ++ more
line_end line more = sym (append_assoc line (10 ∷ []) more)

pub fed_line : (piece rest line more : List ℕ) (old mid new : Judge) → Fed piece rest old mid → rest ≡ line ++ (10 ∷ more)
    → Hears (line ++ (10 ∷ [])) mid new → StaysFor mid new → Fed piece more old new
fed_line piece rest line more old mid new fed e heard same = record {
  before = fed.before ++ (line ++ (10 ∷ []));
  spelled = fed.spelled ∙ ap (λ (bs : List ℕ). fed.before ++ bs) (e ∙ line_end line more) ∙ sym (append_assoc fed.before (line ++ (10 ∷ [])) more);
  heard = hears_then fed.before (line ++ (10 ∷ [])) old mid new fed.heard fed.same heard;
  same = stays_then old mid new fed.same same;
}

pub fed_all : (piece rest : List ℕ) (old mid new : Judge) → Fed piece rest old mid → Hears rest mid new → Hears piece old new
fed_all piece rest old mid new fed heard =
    subst (λ (bs : List ℕ). Hears bs old new) (sym fed.spelled) (hears_then fed.before rest old mid new fed.heard fed.same heard)

-- ---- the end of a text

not_none : (n : ℕ) → suc n ≢ 0
not_none n e = cc e

pub no_bytes : (bytes : List ℕ) → (length bytes == 0) ≡ true → bytes ≡ []
no_bytes [] e = refl
no_bytes (b ∷ bytes) e =
    let none : nat_eq (length (b ∷ bytes)) 0 ≡ false = no (length (b ∷ bytes)) 0 (not_none (length bytes)) in
    let clash : false ≡ true = sym none ∙ e in
    absurd (cc clash)

pub some_bytes : (bytes : List ℕ) → (length bytes == 0) ≡ false → bytes ≢ []
some_bytes [] e f = cc e
some_bytes (b ∷ bytes) e f = cc f

pub finished_closed : (k : Lore) (text : List ℕ) (judge : Judge) → HasHeard k text judge → judge.open.items ≡ []
    → IsAt k judge.flow.now judge.defs.now (lines_of text) judge.stage
finished_closed k text judge heard e =
    at_end k judge.flow.now judge.defs.now text heard.texts heard.rest judge.stage heard.cut
    (subst (λ (o : List ℕ). Holds judge.stage heard.rest o) e heard.held) heard.stands

pub finished_open : (k : Lore) (text : List ℕ) (judge : Judge) (number : ℕ) (last : Stage) → HasHeard k text judge
    → judge.open.items ≢ [] → IsRight k judge.flow.now judge.defs.now → number ≡ judge.lines + 1
    → ((texts : List (List ℕ)) → number ≡ suc (length texts) → Leads judge.flow.now judge.defs.now judge.open.items texts judge.stage last)
    → ((cause : Refusal) → judge.stage ≡ Refused cause → last ≡ Refused cause)
    → IsAt k judge.flow.now judge.defs.now (lines_of text) last
finished_open k text judge number last heard some right e leads stays =
    at_end_open k judge.flow.now judge.defs.now text heard.texts heard.rest judge.open.items judge.stage last right heard.cut heard.held some
    (leads heard.texts (one_more number judge.lines (length heard.texts) e heard.counted)) stays heard.stands

-- ---- what is refused of it

pub at_texts : (k : Lore) (text : List ℕ) (texts : List (List ℕ)) (rest : List ℕ) (judge : Judge)
    → HasHeard k text judge → IsCut text texts rest → IsAt k judge.flow.now judge.defs.now texts judge.stage
at_texts k text texts rest judge heard cut =
    subst (λ (ts : List (List ℕ)). IsAt k judge.flow.now judge.defs.now ts judge.stage)
    (cuts_are_one text heard.texts texts heard.rest rest heard.cut cut) heard.stands

pub not_spent : (k : Lore) (text : List ℕ) (judge : Judge) → HasHeard k text judge → judge.stage ≢ Spent
not_spent k text judge heard e = subst (λ (s : Stage). Holds s heard.rest judge.open.items) e heard.held

pub record Refusing : Type 0 where
  pub once : Once
  pub are_read : AreRead

never_unbegun : (k : Lore) (flow : Flow) (defs : List Def) (texts : List (List ℕ)) (cause : Refusal) → texts ≡ []
    → IsRefusal k flow defs texts cause → ⊥
never_unbegun k flow defs texts cause e wrong =
    nothing_refused k flow defs cause (subst (λ (ts : List (List ℕ)). IsRefusal k flow defs ts cause) e wrong)

-- where no line is refused none is
never_at : Refusing → (k : Lore) (flow : Flow) (defs : List Def) (texts : List (List ℕ)) (stage : Stage)
    → ((cause : Refusal) → stage ≢ Refused cause) → stage ≢ Spent → IsAt k flow defs texts stage
    → (cause : Refusal) → IsRefusal k flow defs texts cause → ⊥
never_at laws k flow defs texts Unbegun other known at cause wrong = never_unbegun k flow defs texts cause at wrong
never_at laws k flow defs texts (Open p) other known at cause wrong =
    not_refused k flow defs laws.once laws.are_read texts at.0 cause at.1 wrong
never_at laws k flow defs texts (Ended verdict) other known at cause wrong =
    not_refused k flow defs laws.once laws.are_read texts at.0 cause at.1 wrong
never_at laws k flow defs texts (Refused given) other known at cause wrong = other given refl
never_at laws k flow defs texts Spent other known at cause wrong = known refl

pub never_refused : Refusing → (k : Lore) (text : List ℕ) (texts : List (List ℕ)) (rest : List ℕ) (judge : Judge)
    → ((cause : Refusal) → judge.stage ≢ Refused cause) → HasHeard k text judge → IsCut text texts rest
    → (cause : Refusal) → IsRefusal k judge.flow.now judge.defs.now texts cause → ⊥
never_refused laws k text texts rest judge other heard cut =
    never_at laws k judge.flow.now judge.defs.now texts judge.stage other (not_spent k text judge heard)
    (at_texts k text texts rest judge heard cut)
