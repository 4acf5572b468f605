-- Documents of which some lines are spelled and read.
use Rattle.std.proofs.Common.{◌≡◌, ◌⊎◌, inl, inr, ◌+◌, ℕ, suc, List, [], ◌∷◌, ◌++◌, length, refl, sym, ◌∙◌, ap, subst}
use Rattle.std.specs.Prelude.{Result, Ok, Err}
use Rattle.mc_lines.specs.declared.cert.fault.LineFault.{LineFault}
use Rattle.mc_lines.specs.declared.cert.fault.LineFault.TheVariants as faults
use Rattle.mc_lines.specs.declared.cert.line.Line.{Line}
use Rattle.mc_lines.specs.declared.cert.line.Line.TheVariants as line
use Rattle.mc_lines.specs.declared.cert.line.Line.TheVariants.{Header}
use Rattle.mc_lines.specs.Cert.Document.{ReadsAs, Spells}
use Rattle.mc_flow.specs.declared.defs.rules.Def.{Def}
use Rattle.mc_flow.specs.declared.graph.Flow.{Flow}
use Rattle.mc_state.specs.Premises.{then_give}
use Rattle.mc_state.specs.declared.line.Form.{Form}
use Rattle.mc_state.specs.declared.line.Version.TheVariants.{One}
use Rattle.mc_kernel.specs.Readings as certificates
use Rattle.mc_kernel.proofs.ReadingLemmas.Lists.{append_twice}
use Rattle.mc_joins.specs.Chains.InOrder.{in_order}
use Rattle.mc_joins.specs.Chains.Judges as chains
use Rattle.mc_joins.specs.Chains.Judges.{Lore}
use Rattle.mc_joins.proofs.ChainsLemmas.InOrder.{behind_yes, lines_split, read_or_refused}
use Rattle.mc_judge.specs.Documents.{Document, certificate, chain, IsEnded, begun, read_document, read_line}
use Rattle.mc_judge.specs.declared.judge.verdict.Refusal.{Refusal}
use Rattle.mc_judge.specs.declared.judge.verdict.Refusal.TheVariants as refusal
use Rattle.mc_judge.specs.Judge.Verdicts.{GoesOn, IsReading, IsRefusal, IsRefusedBehind, IsUnmetBehind, SpellAll}

-- bytes spell one line at most
abbrev pub Once : Type 0
Once = (bytes : List ℕ) (x y : Line) → Spells bytes x → Spells bytes y → x ≡ y

-- and whatever is read of them is that line, or memory is wanting
abbrev pub AreRead : Type 0
AreRead = (bytes : List ℕ) (l : Line) (r : Result Line LineFault) → Spells bytes l → ReadsAs bytes r → (r ≡ Ok l) ⊎ (r ≡ Err faults.NoMemory)

-- ---- what texts spell

spell_end : (texts : List (List ℕ)) (lines : List Line) (text : List ℕ) (l : Line) → SpellAll texts lines → Spells text l
    → SpellAll (texts ++ text ∷ []) (lines ++ l ∷ [])
spell_end [] [] text l all one = (one, tt)
spell_end [] (x ∷ lines) text l all one = absurd all
spell_end (t ∷ texts) [] text l all one = absurd all
spell_end (t ∷ texts) (x ∷ lines) text l all one = (all.0, spell_end texts lines text l all.1 one)

pub spell_same : Once → (texts : List (List ℕ)) (a b : List Line) → SpellAll texts a → SpellAll texts b → a ≡ b
spell_same once [] [] [] p q = refl
spell_same once [] [] (y ∷ b) p q = absurd q
spell_same once [] (x ∷ a) b p q = absurd p
spell_same once (t ∷ texts) [] b p q = absurd p
spell_same once (t ∷ texts) (x ∷ a) [] p q = absurd q
spell_same once (t ∷ texts) (x ∷ a) (y ∷ b) p q =
    let first : x ≡ y = once t x y p.0 q.0 in
    let rest : a ≡ b = spell_same once texts a b p.1 q.1 in
    cc

-- the lines before a text, its own, and those after it
record Split (before : List (List ℕ)) (text : List ℕ) (lines : List Line) : Type 0 where
  pub first : List Line
  pub own : Line
  pub last : List Line
  pub are : lines ≡ first ++ own ∷ last
  pub firsts : SpellAll before first
  pub one : Spells text own

split : (before : List (List ℕ)) (text : List ℕ) (later : List (List ℕ)) (lines : List Line) → SpellAll (before ++ text ∷ later) lines
    → Split before text lines
split [] text later [] all = absurd all
split [] text later (x ∷ lines) all = record { first = []; own = x; last = lines; are = refl; firsts = tt; one = all.0 }
split (t ∷ before) text later [] all = absurd all
split (t ∷ before) text later (x ∷ lines) all =
    let s = split before text later lines all.1 in
    record {
      first = x ∷ s.first;
      own = s.own;
      last = s.last;
      are = ap (λ (ls : List Line). x ∷ ls) s.are;
      firsts = (all.0, s.firsts);
      one = s.one;
    }

spell_nothing : (lines : List Line) → SpellAll [] lines → lines ≡ []
spell_nothing [] all = refl
spell_nothing (x ∷ lines) all = absurd all

-- two headers with what is after them
same_form : (f g : Form) (a b : List Line) → Header One f ∷ a ≡ Header One g ∷ b → f ≡ g
same_form f g a b e = cc e

same_rest : (f g : Form) (a b : List Line) → Header One f ∷ a ≡ Header One g ∷ b → a ≡ b
same_rest f g a b e = cc e

-- a cause of refusal
no_fault : (l : Line) (fault : LineFault) → ◌≡◌ {A = Result Line LineFault} (Err fault) (Ok l) → ⊥
no_fault l fault e = cc e

same_fault : (a b : LineFault) → ◌≡◌ {A = Result Line LineFault} (Err a) (Err b) → a ≡ b
same_fault a b e = cc e

-- ---- what is read

module _ (k : Lore) (flow : Flow) (defs : List Def) where
  -- a document that has not ended goes on
  pub goes_on : (texts : List (List ℕ)) (d : Document) → IsReading k flow defs texts d → (IsEnded d → ⊥) → GoesOn k flow defs texts
  goes_on [] d i still = absurd i.spelled
  goes_on (t ∷ texts) d i still = (d, i, still)

  -- a premise that is unmet where a document stands is so after its texts
  pub unmet_behind : (texts : List (List ℕ)) (d : Document) (l : Line) (premise : ℕ) → IsReading k flow defs texts d → (IsEnded d → ⊥)
      → read_line k flow defs l d ≡ Err premise → IsUnmetBehind k flow defs texts l premise
  unmet_behind [] d l premise i still e = absurd i.spelled
  unmet_behind (t ∷ texts) d l premise i still e = (d, i, still, e)

  -- a header begins a document
  pub header_reads : (text : List ℕ) (form : Form) → Spells text (Header One form) → IsReading k flow defs (text ∷ []) (begun form)
  header_reads text form one = record { form = form; lines = []; spelled = (one, tt); read = refl }

  -- one line more
  pub more_reads : (texts : List (List ℕ)) (text : List ℕ) (l : Line) (d next : Document) → IsReading k flow defs texts d
      → Spells text l → read_line k flow defs l d ≡ Ok next → IsReading k flow defs (texts ++ text ∷ []) next
  more_reads texts text l d next i one e = record {
    form = i.form;
    lines = i.lines ++ l ∷ [];
    spelled = spell_end texts (Header One i.form ∷ i.lines) text l i.spelled one;
    read =
        lines_split (read_line k flow defs) 2 (2 + length i.lines) i.lines (l ∷ []) (begun i.form) d refl i.read
        ∙ behind_yes (2 + length i.lines) (read_line k flow defs l d) (in_order (read_line k flow defs) (suc (2 + length i.lines)) []) next e;
  }

  same_read : (f g : Form) (a b : List Line) (d e : Document) → f ≡ g → a ≡ b → read_document k flow defs f a ≡ Ok d
      → read_document k flow defs g b ≡ Ok e → d ≡ e
  same_read f g a b d e forms lines p q =
      let moved : read_document k flow defs g b ≡ Ok d =
      subst (λ (x : Form). read_document k flow defs x b ≡ Ok d) forms
      (subst (λ (ls : List Line). read_document k flow defs f ls ≡ Ok d) lines p) in
      let both : ◌≡◌ {A = Result Document (ℕ × ℕ)} (Ok d) (Ok e) = sym moved ∙ q in
      cc both

  -- texts spell one document at most
  pub same_document : Once → (texts : List (List ℕ)) (d e : Document) → IsReading k flow defs texts d → IsReading k flow defs texts e → d ≡ e
  same_document once texts d e i j =
      let both = spell_same once texts (Header One i.form ∷ i.lines) (Header One j.form ∷ j.lines) i.spelled j.spelled in
      same_read i.form j.form i.lines j.lines d e (same_form i.form j.form i.lines j.lines both) (same_rest i.form j.form i.lines j.lines both) i.read j.read

  -- ---- no line after the end

  certificate_ended : (l : Line) (r : certificates.Reading) → r.stage ≡ certificates.finished
      → certificates.reading_line k.lines k.formed flow defs l r ≡ Err 1
  certificate_ended (line.Header version form) r e = refl
  certificate_ended (line.Cut p) r e = rw e refl
  certificate_ended (line.Head p raw) r e = rw e refl
  certificate_ended line.Pass r e = rw e refl
  certificate_ended line.End r e = rw e refl
  certificate_ended other r e = rw e refl

  chain_ended : (l : Line) (r : chains.Reading) → r.stage ≡ chains.finished → chains.reading_line k flow defs l r ≡ Err 1
  chain_ended (line.Header version form) r e = refl
  chain_ended (line.Cut p) r e = rw e refl
  chain_ended (line.Head p raw) r e = rw e refl
  chain_ended line.Pass r e = rw e refl
  chain_ended line.End r e = rw e refl
  chain_ended other r e = rw e refl

  ended_at : (l : Line) (d : Document) → IsEnded d → read_line k flow defs l d ≡ Err 1
  ended_at l (certificate r) e = ap (then_give certificate) (certificate_ended l r e)
  ended_at l (chain r) e = ap (then_give chain) (chain_ended l r e)

  -- ---- what is read is not refused

  module _ (once : Once) where
    unread : (before : List (List ℕ)) (text : List ℕ) (form : Form) (lines : List Line) (last d : Document) (premise : ℕ)
        → read_document k flow defs form lines ≡ Ok last → (s : Split before text (Header One form ∷ lines))
        → IsReading k flow defs before d → read_line k flow defs s.own d ≡ Err premise → ⊥
    unread before text form lines last d premise read s i unmet =
        let firsts : s.first ≡ Header One i.form ∷ i.lines = spell_same once before s.first (Header One i.form ∷ i.lines) s.firsts i.spelled in
        let all : Header One form ∷ lines ≡ Header One i.form ∷ (i.lines ++ s.own ∷ s.last) =
        s.are ∙ ap (λ (ls : List Line). ls ++ s.own ∷ s.last) firsts in
        let forms : form ≡ i.form = same_form form i.form lines (i.lines ++ s.own ∷ s.last) all in
        let rest : lines ≡ i.lines ++ s.own ∷ s.last = same_rest form i.form lines (i.lines ++ s.own ∷ s.last) all in
        read_or_refused (read_line k flow defs) 2 lines (begun form) last (2 + length i.lines) premise read (record {
          before = i.lines;
          line = s.own;
          later = s.last;
          spelled = rest;
          numbered = refl;
          reading = d;
          read = subst (λ (f : Form). read_document k flow defs f i.lines ≡ Ok d) (sym forms) i.read;
          unmet = unmet;
        })

    unmet_read : (before : List (List ℕ)) (text : List ℕ) (form : Form) (lines : List Line) (last : Document) (premise : ℕ)
        → read_document k flow defs form lines ≡ Ok last → (s : Split before text (Header One form ∷ lines))
        → IsUnmetBehind k flow defs before s.own premise → ⊥
    unmet_read [] text form lines last premise read s unmet =
        let firsts : s.first ≡ [] = spell_nothing s.first s.firsts in
        let all : Header One form ∷ lines ≡ s.own ∷ s.last = s.are ∙ ap (λ (ls : List Line). ls ++ s.own ∷ s.last) firsts in
        let is : s.own ≡ Header One form = cc all in
        unmet.0 One form is
    unmet_read (b ∷ before) text form lines last premise read s unmet =
        unread (b ∷ before) text form lines last unmet.0 premise read s unmet.1 unmet.3

    refused_read : AreRead → (before : List (List ℕ)) (text : List ℕ) (form : Form) (lines : List Line) (last : Document) (cause : Refusal)
        → read_document k flow defs form lines ≡ Ok last → (s : Split before text (Header One form ∷ lines))
        → IsRefusedBehind k flow defs before text cause → ⊥
    refused_read are_read before text form lines last (refusal.Line number fault) read s bad =
        elim (are_read text s.own (Err fault) s.one bad.2) [
          | inl e ↦ no_fault s.own fault e
          | inr e ↦ bad.3 (same_fault fault faults.NoMemory e)
        ]
    refused_read are_read before text form lines last (refusal.Rule number name premise) read s bad =
        let own : bad.1.0 ≡ s.own = once text bad.1.0 s.own bad.1.1 s.one in
        unmet_read before text form lines last premise read s (subst (λ (l : Line). IsUnmetBehind k flow defs before l premise) own bad.1.3)
    refused_read are_read before text form lines last (refusal.AfterEnd number) read s bad =
        unread before text form lines last bad.1.0 1 read s bad.1.1 (ended_at s.own bad.1.0 bad.1.2)
    refused_read are_read before text form lines last refusal.EndsEarly read s bad = absurd bad
    refused_read are_read before text form lines last refusal.NoAlarm read s bad = absurd bad
    refused_read are_read before text form lines last refusal.Unfinished read s bad = absurd bad

    pub not_refused : AreRead → (texts : List (List ℕ)) (d : Document) (cause : Refusal) → IsReading k flow defs texts d
        → IsRefusal k flow defs texts cause → ⊥
    not_refused are_read texts d cause i bad =
        let spelled : SpellAll (bad.before ++ bad.text ∷ bad.later) (Header One i.form ∷ i.lines) =
        subst (λ (ts : List (List ℕ)). SpellAll ts (Header One i.form ∷ i.lines)) bad.spelled i.spelled in
        refused_read are_read bad.before bad.text i.form i.lines d cause i.read
        (split bad.before bad.text bad.later (Header One i.form ∷ i.lines) spelled) bad.refused

  -- ---- what is refused stays so

  pub refusal_more : (texts more : List (List ℕ)) (cause : Refusal) → IsRefusal k flow defs texts cause
      → IsRefusal k flow defs (texts ++ more) cause
  refusal_more texts more cause bad = record {
    before = bad.before;
    text = bad.text;
    later = bad.later ++ more;
    spelled = ap (λ (ts : List (List ℕ)). ts ++ more) bad.spelled ∙ append_twice bad.before (bad.text ∷ bad.later) more;
    refused = bad.refused;
  }

  pub refused_end : (texts : List (List ℕ)) (text : List ℕ) (cause : Refusal) → IsRefusedBehind k flow defs texts text cause
      → IsRefusal k flow defs (texts ++ text ∷ []) cause
  refused_end texts text cause bad = record { before = texts; text = text; later = []; spelled = refl; refused = bad }

  no_texts : (before later : List (List ℕ)) (text : List ℕ) → ◌≡◌ {A = List (List ℕ)} [] (before ++ text ∷ later) → ⊥
  no_texts [] later text e = cc e
  no_texts (t ∷ before) later text e = cc e

  pub nothing_refused : (cause : Refusal) → IsRefusal k flow defs [] cause → ⊥
  nothing_refused cause bad = no_texts bad.before bad.later bad.text bad.spelled
