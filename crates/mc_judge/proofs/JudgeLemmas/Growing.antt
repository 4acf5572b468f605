-- Texts that grow by pieces.
use Rattle.std.proofs.Common.{◌≡◌, ◌≢◌, ℕ, List, [], ◌∷◌, ◌++◌, nat_eq, refl, sym, ◌∙◌, ap, subst, append_assoc}
use Rattle.std.specs.Prelude.{if◌then◌else◌}
use Rattle.std.specs.List.{AllByRecursion}
use Rattle.mc_lines.specs.Cert.Lines.{lines_of, onto_first}
use Rattle.mc_kernel.proofs.ReadingLemmas.Lists.{all_end, append_none}
use Rattle.mc_judge.proofs.JudgeLemmas.Cutting.{begins_otherwise, first_has, no, none_has, rest_has}
use Rattle.mc_judge.specs.Judge.Cuts.{HasNoFeed, IsCut, with_feeds}

-- ---- pieces

both_have : (a b : List ℕ) → HasNoFeed a → HasNoFeed b → HasNoFeed (a ++ b)
both_have [] b p q = q
both_have (x ∷ a) b p q = first_has x (a ++ b) (begins_otherwise x a p) (both_have a b (rest_has x a p) q)

feeds_more : (lines : List (List ℕ)) (rest more : List ℕ) → with_feeds lines rest ++ more ≡ with_feeds lines (rest ++ more)
feeds_more [] rest more = refl
feeds_more (l ∷ lines) rest more =
    append_assoc l (10 ∷ with_feeds lines rest) more ∙ ap (λ (bs : List ℕ). l ++ (10 ∷ bs)) (feeds_more lines rest more)

feeds_end : (lines : List (List ℕ)) (l rest : List ℕ) → with_feeds (lines ++ l ∷ []) rest ≡ with_feeds lines (l ++ (10 ∷ rest))
feeds_end [] l rest = refl
feeds_end (m ∷ lines) l rest = ap (λ (bs : List ℕ). m ++ (10 ∷ bs)) (feeds_end lines l rest)

-- nothing is cut into nothing
pub cut_nothing : IsCut [] [] []
cut_nothing = record { spelled = refl; whole = tt; no_feed = none_has }

-- bytes without a line feed make the open line longer
pub cut_more : (text : List ℕ) (texts : List (List ℕ)) (rest bytes : List ℕ) → IsCut text texts rest → HasNoFeed bytes
    → IsCut (text ++ bytes) texts (rest ++ bytes)
cut_more text texts rest bytes c none = record {
  spelled = ap (λ (t : List ℕ). t ++ bytes) c.spelled ∙ feeds_more texts rest bytes;
  whole = c.whole;
  no_feed = both_have rest bytes c.no_feed none;
}

-- and with one after them the open line is whole
pub cut_line : (text : List ℕ) (texts : List (List ℕ)) (rest bytes : List ℕ) → IsCut text texts rest → HasNoFeed bytes
    → IsCut (text ++ (bytes ++ (10 ∷ []))) (texts ++ (rest ++ bytes) ∷ []) []
cut_line text texts rest bytes c none = record {
  spelled = ap (λ (t : List ℕ). t ++ (bytes ++ (10 ∷ []))) c.spelled
      ∙ feeds_more texts rest (bytes ++ (10 ∷ []))
      ∙ ap (λ (bs : List ℕ). with_feeds texts bs) (sym (append_assoc rest bytes (10 ∷ [])))
      ∙ sym (feeds_end texts (rest ++ bytes) []);
  whole = all_end HasNoFeed texts (rest ++ bytes) c.whole (both_have rest bytes c.no_feed none);
  no_feed = none_has;
}

-- ---- the lines of a text

if_feed : (b : ℕ) (x y : List (List ℕ)) → b ≢ 10 → (if nat_eq b 10 then x else y) ≡ y
if_feed b x y ne = rw (no b 10 ne) refl

lines_whole : (l more : List ℕ) → HasNoFeed l → lines_of (l ++ (10 ∷ more)) ≡ l ∷ lines_of more
lines_whole [] more none = refl
lines_whole (b ∷ l) more none =
    if_feed b ([] ∷ lines_of (l ++ (10 ∷ more))) (onto_first b (lines_of (l ++ (10 ∷ more)))) (begins_otherwise b l none)
    ∙ ap (λ (ls : List (List ℕ)). onto_first b ls) (lines_whole l more (rest_has b l none))

lines_last : (b : ℕ) (l : List ℕ) → HasNoFeed (b ∷ l) → lines_of (b ∷ l) ≡ (b ∷ l) ∷ []
lines_last b [] none = if_feed b ([] ∷ []) (onto_first b []) (begins_otherwise b [] none)
lines_last b (c ∷ l) none =
    if_feed b ([] ∷ lines_of (c ∷ l)) (onto_first b (lines_of (c ∷ l))) (begins_otherwise b (c ∷ l) none)
    ∙ ap (λ (ls : List (List ℕ)). onto_first b ls) (lines_last c l (rest_has b (c ∷ l) none))

lines_feeds : (texts : List (List ℕ)) (rest : List ℕ) → AllByRecursion HasNoFeed texts → lines_of (with_feeds texts rest) ≡ texts ++ lines_of rest
lines_feeds [] rest whole = refl
lines_feeds (t ∷ texts) rest whole =
    lines_whole t (with_feeds texts rest) whole.0 ∙ ap (λ (ls : List (List ℕ)). t ∷ ls) (lines_feeds texts rest whole.1)

-- without an open line they are the whole ones
pub lines_closed : (text : List ℕ) (texts : List (List ℕ)) (rest : List ℕ) → IsCut text texts rest → rest ≡ [] → lines_of text ≡ texts
lines_closed text texts rest c e =
    ap lines_of c.spelled ∙ lines_feeds texts rest c.whole
    ∙ ap (λ (bs : List ℕ). texts ++ lines_of bs) e ∙ append_none texts

-- else the open one stands after them
pub lines_open : (text : List ℕ) (texts : List (List ℕ)) (rest : List ℕ) → IsCut text texts rest → rest ≢ [] → lines_of text ≡ texts ++ rest ∷ []
lines_open text texts [] c some = absurd (some refl)
lines_open text texts (b ∷ rest) c some =
    ap lines_of c.spelled ∙ lines_feeds texts (b ∷ rest) c.whole
    ∙ ap (λ (ls : List (List ℕ)). texts ++ ls) (lines_last b rest c.no_feed)

-- in any case the whole ones stand first
pub lines_first : (text : List ℕ) (texts : List (List ℕ)) (rest : List ℕ) → IsCut text texts rest → lines_of text ≡ texts ++ lines_of rest
lines_first text texts rest c = ap lines_of c.spelled ∙ lines_feeds texts rest c.whole

-- ---- a text is cut in one way

feed_in : (l more : List ℕ) → HasNoFeed (l ++ (10 ∷ more)) → ⊥
feed_in [] more none = begins_otherwise 10 more none refl
feed_in (b ∷ l) more none = feed_in l more (rest_has b (l ++ (10 ∷ more)) none)

record SameSplit (l m x y : List ℕ) : Type 0 where
  pub lines : l ≡ m
  pub rests : x ≡ y

same_split : (l m x y : List ℕ) → HasNoFeed l → HasNoFeed m → l ++ (10 ∷ x) ≡ m ++ (10 ∷ y) → SameSplit l m x y
same_split [] [] x y p q e = record { lines = refl; rests = cc e }
same_split [] (c ∷ m) x y p q e = let is : c ≡ 10 = cc e in absurd (begins_otherwise c m q is)
same_split (b ∷ l) [] x y p q e = let is : b ≡ 10 = cc e in absurd (begins_otherwise b l p is)
same_split (b ∷ l) (c ∷ m) x y p q e =
    let heads : b ≡ c = cc e in
    let tails : l ++ (10 ∷ x) ≡ m ++ (10 ∷ y) = cc e in
    let s = same_split l m x y (rest_has b l p) (rest_has c m q) tails in
    let first : l ≡ m = s.lines in
    record { lines = cc; rests = s.rests }

same_feeds : (a b : List (List ℕ)) (r s : List ℕ) → AllByRecursion HasNoFeed a → AllByRecursion HasNoFeed b → HasNoFeed r → HasNoFeed s
    → with_feeds a r ≡ with_feeds b s → a ≡ b
same_feeds [] [] r s p q u v e = refl
same_feeds [] (m ∷ b) r s p q u v e = absurd (feed_in m (with_feeds b s) (subst HasNoFeed e u))
same_feeds (l ∷ a) [] r s p q u v e = absurd (feed_in l (with_feeds a r) (subst HasNoFeed (sym e) v))
same_feeds (l ∷ a) (m ∷ b) r s p q u v e =
    let both = same_split l m (with_feeds a r) (with_feeds b s) p.0 q.0 e in
    let first : l ≡ m = both.lines in
    let rest : a ≡ b = same_feeds a b r s p.1 q.1 u v both.rests in
    cc

pub cuts_are_one : (text : List ℕ) (a b : List (List ℕ)) (r s : List ℕ) → IsCut text a r → IsCut text b s → a ≡ b
cuts_are_one text a b r s c d = same_feeds a b r s c.whole d.whole c.no_feed d.no_feed (sym c.spelled ∙ d.spelled)
