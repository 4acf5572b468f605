-- The first line that is refused, and lines that are added, by whatever judges a line.
use Rattle.std.proofs.Common.{◌≡◌, ◌⊎◌, inl, inr, ◌+◌, ℕ, suc, List, [], ◌∷◌, ◌++◌, length, refl, ap, sym, ◌∙◌, arith}
use Rattle.std.specs.Prelude.{Result, Ok, Err}
use Rattle.mc_lines.specs.declared.cert.line.Line.{Line}
use Rattle.mc_state.specs.Premises.{Judged}
use Rattle.mc_state.proofs.Numbered.{given_or_unmet}
use Rattle.mc_kernel.proofs.ReadingLemmas.Lists.{append_twice}
use Rattle.mc_joins.specs.Chains.InOrder.{IsRefused, behind, in_order}

module _ {A : Type 0} where
  -- what is read after a line is read where the line is
  pub behind_ok : (n : ℕ) (j : Judged A) (rest : A → Result A (ℕ × ℕ)) (last : A) → behind n j rest ≡ Ok last → (r : A) × (j ≡ Ok r) × (rest r ≡ Ok last)
  behind_ok n (Ok r) rest last e = (r, refl, e)
  behind_ok n (Err k) rest last e = absurd (cc e)

  pub behind_yes : (n : ℕ) (j : Judged A) (rest : A → Result A (ℕ × ℕ)) (r : A) → j ≡ Ok r → behind n j rest ≡ rest r
  behind_yes n j rest r e = ap (λ (j : Judged A). behind n j rest) e

  pub behind_err : (n k : ℕ) (rest : A → Result A (ℕ × ℕ)) (j : Judged A) → j ≡ Err k → behind n j rest ≡ Err (n, k)
  behind_err n k rest j e = ap (λ (j : Judged A). behind n j rest) e

  -- what is read is one
  pub same_reading : (r last : A) → ◌≡◌ {A = Result A (ℕ × ℕ)} (Ok r) (Ok last) → r ≡ last
  same_reading r last e = cc e

  pub same_refusal : (n p m q : ℕ) → ◌≡◌ {A = Result A (ℕ × ℕ)} (Err (n, p)) (Err (m, q)) → (n ≡ m) × (p ≡ q)
  same_refusal n p m q e =
      let pair : ◌≡◌ {A = ℕ × ℕ} (n, p) (m, q) = cc e in
      (ap (λ (x : ℕ × ℕ). x.0) pair, ap (λ (x : ℕ × ℕ). x.1) pair)

module _ {A : Type 0} (judge : Line → A → Judged A) where
  -- lines that are read come before others
  pub lines_split : (n m : ℕ) (before lines : List Line) (r mid : A) → m ≡ n + length before → in_order judge n before r ≡ Ok mid
      → in_order judge n (before ++ lines) r ≡ in_order judge m lines mid
  lines_split n m [] lines r mid count e =
      let same : n ≡ m = omega arith in
      ap (λ (j : ℕ). in_order judge j lines r) same ∙ ap (λ (t : A). in_order judge m lines t) (same_reading r mid e)
  lines_split n m (l ∷ before) lines r mid count e =
      let read = behind_ok n (judge l r) (in_order judge (suc n) before) mid e in
      let next : m ≡ suc n + length before = omega arith in
      behind_yes n (judge l r) (in_order judge (suc n) (before ++ lines)) read.0 read.1
      ∙ lines_split (suc n) m before lines read.0 mid next read.2

  module _ (lines : List Line) (number premise : ℕ) where
    refused_first : (n j : ℕ) (l : Line) (r : A) → judge l r ≡ Err j → in_order judge n (l ∷ lines) r ≡ Err (number, premise)
        → IsRefused judge n r (l ∷ lines) number premise
    refused_first n j l r unmet e =
        let same = same_refusal n j number premise (sym (behind_err n j (in_order judge (suc n) lines) (judge l r) unmet) ∙ e) in
        let first = same.0 in
        record {
          before = [];
          line = l;
          later = lines;
          spelled = refl;
          numbered = omega arith;
          reading = r;
          read = refl;
          unmet = unmet ∙ ap (λ (x : ℕ). Err x) same.1;
        }

    refused_later : (n : ℕ) (l : Line) (r next : A) → judge l r ≡ Ok next → IsRefused judge (suc n) next lines number premise
        → IsRefused judge n r (l ∷ lines) number premise
    refused_later n l r next given i = record {
      before = l ∷ i.before;
      line = i.line;
      later = i.later;
      spelled = ap (λ (ls : List Line). l ∷ ls) i.spelled;
      numbered = let count : number ≡ suc n + length i.before = i.numbered in omega arith;
      reading = i.reading;
      read = behind_yes n (judge l r) (in_order judge (suc n) i.before) next given ∙ i.read;
      unmet = i.unmet;
    }

  -- a refusal is that of a line
  pub refused_from : (n : ℕ) (lines : List Line) (r : A) (number premise : ℕ) → in_order judge n lines r ≡ Err (number, premise)
      → IsRefused judge n r lines number premise
  refused_from n [] r number premise e = absurd (cc e)
  refused_from n (l ∷ lines) r number premise e = elim (given_or_unmet (judge l r)) [
    | inl given ↦
        refused_later lines number premise n l r given.0 given.1
        (refused_from (suc n) lines given.0 number premise (sym (behind_yes n (judge l r) (in_order judge (suc n) lines) given.0 given.1) ∙ e))
    | inr unmet ↦ refused_first lines number premise n unmet.0 l r unmet.1 e
  ]

  -- and back, whatever comes after the line
  pub refused_before : (n : ℕ) (lines more : List Line) (r : A) (number premise : ℕ) → IsRefused judge n r lines number premise
      → in_order judge n (lines ++ more) r ≡ Err (number, premise)
  refused_before n lines more r number premise i =
      ap (λ (ls : List Line). in_order judge n ls r) (ap (λ (ls : List Line). ls ++ more) i.spelled ∙ append_twice i.before (i.line ∷ i.later) more)
      ∙ lines_split n number i.before (i.line ∷ (i.later ++ more)) r i.reading i.numbered i.read
      ∙ behind_err number premise (in_order judge (suc number) (i.later ++ more)) (judge i.line i.reading) i.unmet

  pub refused_to : (n : ℕ) (lines : List Line) (r : A) (number premise : ℕ) → IsRefused judge n r lines number premise
      → in_order judge n lines r ≡ Err (number, premise)
  refused_to n lines r number premise i =
      ap (λ (ls : List Line). in_order judge n ls r) i.spelled
      ∙ lines_split n number i.before (i.line ∷ i.later) r i.reading i.numbered i.read
      ∙ behind_err number premise (in_order judge (suc number) i.later) (judge i.line i.reading) i.unmet

  pub refused_once : (n : ℕ) (lines : List Line) (r : A) (a b c d : ℕ) → IsRefused judge n r lines a b → IsRefused judge n r lines c d → (a ≡ c) × (b ≡ d)
  refused_once n lines r a b c d i j = same_refusal a b c d (sym (refused_to n lines r a b i) ∙ refused_to n lines r c d j)

  -- nothing is both read and refused
  pub read_or_refused : (n : ℕ) (lines : List Line) (r last : A) (number premise : ℕ) → in_order judge n lines r ≡ Ok last
      → IsRefused judge n r lines number premise → ⊥
  read_or_refused n lines r last number premise e i =
      let both : ◌≡◌ {A = Result A (ℕ × ℕ)} (Ok last) (Err (number, premise)) = sym e ∙ refused_to n lines r number premise i in
      cc both

  -- one of the two is the case
  pub read_is_decided : (n : ℕ) (lines : List Line) (r : A)
      → ((last : A) × (in_order judge n lines r ≡ Ok last)) ⊎ ((a : ℕ) × (b : ℕ) × IsRefused judge n r lines a b)
  read_is_decided n lines r = at (in_order judge n lines r) refl
    where
      at : (answer : Result A (ℕ × ℕ)) → in_order judge n lines r ≡ answer
          → ((last : A) × (in_order judge n lines r ≡ Ok last)) ⊎ ((a : ℕ) × (b : ℕ) × IsRefused judge n r lines a b)
      at (Ok last) e = inl (last, e)
      at (Err (a, b)) e = inr (a, b, refused_from n lines r a b e)

-- two judges that judge alike whatever has a property, which lines keep, read alike
pub in_order_same : {A : Type 0} (judge other : Line → A → Judged A) (P : A → Type 0) → ((l : Line) (r : A) → P r → judge l r ≡ other l r)
    → ((l : Line) (r next : A) → P r → judge l r ≡ Ok next → P next) → (n : ℕ) (lines : List Line) (r : A) → P r
    → in_order judge n lines r ≡ in_order other n lines r
in_order_same judge other P same keeps n [] r p = refl
in_order_same judge other P same keeps n (l ∷ lines) r p = elim (given_or_unmet (judge l r)) [
  | inl given ↦
      behind_yes n (judge l r) (in_order judge (suc n) lines) given.0 given.1
      ∙ in_order_same judge other P same keeps (suc n) lines given.0 (keeps l r given.0 p given.1)
      ∙ sym (behind_yes n (other l r) (in_order other (suc n) lines) given.0 (sym (same l r p) ∙ given.1))
  | inr unmet ↦
      behind_err n unmet.0 (in_order judge (suc n) lines) (judge l r) unmet.1
      ∙ sym (behind_err n unmet.0 (in_order other (suc n) lines) (other l r) (sym (same l r p) ∙ unmet.1))
]
