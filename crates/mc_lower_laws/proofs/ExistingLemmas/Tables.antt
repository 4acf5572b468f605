-- Flow graphs in the making: lists of points and of variables, which each flow graph that is meant begins with.
use Rattle.std.proofs.Common.{◌≡◌, ◌≤◌, ◌<◌, ◌+◌, ◌++◌, ◌⊎◌, ℕ, zero, suc, List, [], ◌∷◌, Some, None, map, length, refl, sym, ap, subst, ◌∙◌, arith, inl, inr, append-nil, length-append, Contains}
use Rattle.std.proofs.lemmas.List.Elements.{Contains-append_left, Contains-append_right, Contains-append_cases}
use Rattle.std.proofs.lemmas.Option.{same_Some}
use Rattle.std.specs.Prelude.{slice_get}
use Rattle.mc_base.specs.declared.plain.VarInfo.{VarInfo}
use Rattle.mc_base.specs.declared.text.place.Place.{Place}
use Rattle.mc_flow.specs.declared.defs.shapes.Structs.{Structs}
use Rattle.mc_flow.specs.declared.instr.Instr.{Instr}
use Rattle.mc_semantics.specs.Resolved.Programs.{Program}
use Rattle.mc_lower_spec.specs.Graphs.{Graph, Owner, Role, Stage, stage, IsPoint}
use Rattle.mc_lower_laws.proofs.ScopedLemmas.Lists.{contains_none}
use Rattle.mc_lower_spec.proofs.Owning.{occurrence}

-- a point and a variable of a flow graph in the making
pub record Draft : Type 0 where
  pub role : Role
  pub place : Place
  pub code : Instr

pub record Owned : Type 0 where
  pub owner : Owner
  pub info : VarInfo

-- from this number on there are these points
abbrev pub Lays : Graph → ℕ → List Draft → Type 0
Lays g n [] = Unit {0}
Lays g n (d ∷ ds) = IsPoint g n d.role d.place d.code × Lays g (suc n) ds

-- the first variables are these
pub record Has (g : Graph) (all : List Owned) : Type 0 where
  pub owners : (i : ℕ) (v : Owned) → slice_get all i ≡ Some v → slice_get g.owners i ≡ Some v.owner
  pub infos : (i : ℕ) (v : Owned) → slice_get all i ≡ Some v → slice_get g.flow.vars i ≡ Some v.info

-- a variable of this owner is among these
pub record In (all : List Owned) (o : Owner) : Type 0 where
  pub number : ℕ
  pub info : VarInfo
  pub there : slice_get all number ≡ Some (record { owner = o; info = info })

-- no two variables have one owner
abbrev pub AreOnce : List Owned → Type 0
AreOnce all = (i j : ℕ) (v w : Owned) → slice_get all i ≡ Some v → slice_get all j ≡ Some w → v.owner ≡ w.owner → i ≡ j

-- variables are added: temporaries, those of these owners, and those of occurrences whose `return` goes to a point from n to m
pub record Adds (n m : ℕ) (mine : List Owner) (old all : List Owned) : Type 0 where
  pub keeps : (i : ℕ) (v : Owned) → slice_get old i ≡ Some v → slice_get all i ≡ Some v
  pub once : AreOnce old → AreOnce all
  pub only : (o : Owner) (q : ℕ) → occurrence o ≡ Some q → In all o → In old o ⊎ Contains mine o ⊎ ((n ≤ q) × (q < m))
  pub has : (o : Owner) → Contains mine o → In all o

-- ---- lists
pub lays_both : (g : Graph) (n m : ℕ) (ds es : List Draft) → n + length ds ≡ m → Lays g n (ds ++ es) → Lays g n ds × Lays g m es
lays_both g n m [] es size lays = let same : n ≡ m = omega (arith, size) in (tt, subst (λ z. Lays g z es) same lays)
lays_both g n m (d ∷ ds) es size lays =
    let rest = lays_both g (suc n) m ds es (omega (arith, size)) lays.1 in
    ((lays.0, rest.0), rest.1)

pub kept_in : {old all : List Owned} {o : Owner} → ((i : ℕ) (v : Owned) → slice_get old i ≡ Some v → slice_get all i ≡ Some v) → In old o → In all o
kept_in {o = o} keeps i = record { number = i.number; info = i.info; there = keeps i.number (record { owner = o; info = i.info }) i.there }

pub at_left : {X : Type 0} (xs ys : List X) (i : ℕ) (x : X) → slice_get xs i ≡ Some x → slice_get (xs ++ ys) i ≡ Some x
at_left [] ys i x is = absurd (cc)
at_left (h ∷ xs) ys zero x is = is
at_left (h ∷ xs) ys (suc i) x is = at_left xs ys i x is

pub at_end : {X : Type 0} (xs : List X) (x : X) → slice_get (xs ++ x ∷ []) (length xs) ≡ Some x
at_end [] x = refl
at_end (h ∷ xs) x = at_end xs x

-- what stands at a number when one more is there
pub at_push : {X : Type 0} (xs : List X) (y : X) (i : ℕ) (x : X) → slice_get (xs ++ y ∷ []) i ≡ Some x → (slice_get xs i ≡ Some x) ⊎ ((i ≡ length xs) × (y ≡ x))
at_push [] y zero x is = inr (refl, same_Some y x is)
at_push [] y (suc i) x is = absurd (cc)
at_push (h ∷ xs) y zero x is = inl is
at_push (h ∷ xs) y (suc i) x is =
    elim (at_push xs y i x is) [
      | inl old ↦ inl old
      | inr new ↦ inr (ap suc new.0, new.1)
    ]

pub one_longer : {X : Type 0} (xs : List X) (x : X) → length (xs ++ x ∷ []) ≡ suc (length xs)
one_longer [] x = refl
one_longer (h ∷ xs) x = ap suc (one_longer xs x)

pub among_one : {X : Type 0} (y x : X) → Contains (y ∷ []) x → y ≡ x
among_one y x (zero, within, is) = is
among_one y x (suc k, within, is) = absurd (omega (arith, within))

pub both_mapped : {X Y : Type 0} (h : X → Y) (xs ys : List X) → map h xs ++ map h ys ≡ map h (xs ++ ys)
both_mapped h [] ys = refl
both_mapped h (x ∷ xs) ys = ap (λ l. h x ∷ l) (both_mapped h xs ys)

pub unmapped_at : {X Y : Type 0} (h : X → Y) (xs : List X) (i : ℕ) (y : Y) → slice_get (map h xs) i ≡ Some y → (x : X) × (slice_get xs i ≡ Some x) × (h x ≡ y)
unmapped_at h [] i y is = absurd (cc is)
unmapped_at h (x ∷ xs) zero y is = (x, refl, same_Some (h x) y is)
unmapped_at h (x ∷ xs) (suc i) y is = unmapped_at h xs i y is

-- ---- what is added
pub adds_none : (n m : ℕ) (old : List Owned) → Adds n m [] old old
adds_none n m old = record { keeps = λ i v is. is; once = λ once. once; only = λ o q is there. inl there; has = λ o among. absurd (contains_none o among) }

pub adds_on : {n m l : ℕ} {mine yours : List Owner} {old mid all : List Owned} → n ≤ m → m ≤ l → Adds n m mine old mid → Adds m l yours mid all → Adds n l (mine ++ yours) old all
adds_on {n = n} {m = m} {l = l} {mine = mine} {yours = yours} low high a b =
    record {
      keeps = λ i v is. b.keeps i v (a.keeps i v is);
      once = λ once. b.once (a.once once);
      only = λ o q of there. elim (b.only o q of there) [
        | inl early ↦ elim (a.only o q of early) [
          | inl old ↦ inl old
          | inr new ↦ elim new [
            | inl own ↦ inr (inl (Contains-append_left mine yours o own))
            | inr inner ↦ inr (inr (inner.0, omega (arith, inner.1, high)))
          ]
        ]
        | inr late ↦ elim late [
          | inl own ↦ inr (inl (Contains-append_right mine yours o own))
          | inr inner ↦ inr (inr (omega (arith, inner.0, low), inner.1))
        ]
      ];
      has = λ o among. elim (Contains-append_cases mine yours o among) [
        | inl early ↦ kept_in b.keeps (a.has o early)
        | inr late ↦ b.has o late
      ];
    }

-- from no more points on, to no fewer
pub adds_within : {n m k l : ℕ} {mine : List Owner} {old all : List Owned} → k ≤ n → m ≤ l → Adds n m mine old all → Adds k l mine old all
adds_within {n = n} {m = m} {k = k} {l = l} {mine = mine} {old = old} low high a =
    record {
      keeps = a.keeps;
      once = a.once;
      only = λ o q of there. elim (a.only o q of there) [
        | inl early ↦ inl early
        | inr new ↦ elim new [
          | inl own ↦ inr (inl own)
          | inr inner ↦ inr (inr (omega (arith, inner.0, low), omega (arith, inner.1, high)))
        ]
      ];
      has = a.has;
    }

owner_once : (old : List Owned) (o : Owner) (info : VarInfo) → (In old o → ⊥) → AreOnce old → AreOnce (old ++ (record { owner = o; info = info }) ∷ [])
owner_once old o info new once i j v w is is_too same =
    let added : Owned = record { owner = o; info = info } in
    elim (at_push old added i v is) [
      | inl early ↦ elim (at_push old added j w is_too) [
        | inl early_too ↦ once i j v w early early_too same
        | inr late_too ↦
            let e : o ≡ v.owner = ap (λ (z : Owned). z.owner) late_too.1 ∙ sym same in
            absurd (new (record { number = i; info = v.info; there = early ∙ ap (λ z. Some (record { owner = z; info = v.info })) (sym e) }))
      ]
      | inr late ↦ elim (at_push old added j w is_too) [
        | inl early_too ↦
            let e : o ≡ w.owner = ap (λ (z : Owned). z.owner) late.1 ∙ same in
            absurd (new (record { number = j; info = w.info; there = early_too ∙ ap (λ z. Some (record { owner = z; info = w.info })) (sym e) }))
        | inr late_too ↦ late.0 ∙ sym late_too.0
      ]
    ]

in_push : (old : List Owned) (o other : Owner) (info : VarInfo) → In (old ++ (record { owner = o; info = info }) ∷ []) other → In old other ⊎ (o ≡ other)
in_push old o other info i =
    elim (at_push old (record { owner = o; info = info }) i.number (record { owner = other; info = i.info }) i.there) [
      | inl early ↦ inl (record { number = i.number; info = i.info; there = early })
      | inr late ↦ inr (ap (λ (z : Owned). z.owner) late.1)
    ]

-- one variable is added
pub adds_one : (n m : ℕ) (old : List Owned) (o : Owner) (info : VarInfo) → (In old o → ⊥) → Adds n m (o ∷ []) old (old ++ (record { owner = o; info = info }) ∷ [])
adds_one n m old o info new =
    record {
      keeps = at_left old ((record { owner = o; info = info }) ∷ []);
      once = owner_once old o info new;
      only = λ other q of there. elim (in_push old o other info there) [
        | inl early ↦ inl early
        | inr same ↦ inr (inl (zero, omega arith, same))
      ];
      has = λ other among. record { number = length old; info = info; there = at_end old (record { owner = o; info = info }) ∙ ap (λ z. Some (record { owner = z; info = info })) (among_one o other among) };
    }

-- a temporary is added
pub adds_temporary : (n m : ℕ) (old : List Owned) (o : Owner) (info : VarInfo) → occurrence o ≡ None → (In old o → ⊥) → Adds n m [] old (old ++ (record { owner = o; info = info }) ∷ [])
adds_temporary n m old o info none new =
    record {
      keeps = at_left old ((record { owner = o; info = info }) ∷ []);
      once = owner_once old o info new;
      only = λ other q of there. elim (in_push old o other info there) [
        | inl early ↦ inl early
        | inr same ↦ let never : None ≡ Some q = sym none ∙ ap occurrence same ∙ of in absurd (cc never)
      ];
      has = λ other among. absurd (contains_none other among);
    }

-- ---- pieces of flow graphs
-- what is lowered: a program with its structs
pub record Source : Type 0 where
  pub program : Program
  pub structs : Structs

pub record IsOf (z : Source) (g : Graph) : Type 0 where
  pub program : g.program ≡ z.program
  pub structs : g.flow.structs ≡ z.structs

-- with the points from n to m, which go on to a point, this leads from the one stage to the other in each flow graph that has them
pub record Laid (z : Source) (n m : ℕ) (old all : List Owned) (R : Graph → Stage → Stage → Type 0) (goal : ℕ) : Type 0 where
  pub begin : ℕ
  pub drafts : List Draft
  pub size : n + length drafts ≡ m
  pub met : (g : Graph) → IsOf z g → Has g all → Lays g n drafts → R g (stage begin n (length old)) (stage goal m (length all))

-- whatever point it goes on to
pub record Piece (z : Source) (n m : ℕ) (mine : List Owner) (old : List Owned) (R : Graph → Stage → Stage → Type 0) : Type 0 where
  pub all : List Owned
  pub adds : Adds n m mine old all
  pub laid : (goal : ℕ) → Laid z n m old all R goal

pub has_before : {n m : ℕ} {mine : List Owner} {old all : List Owned} {g : Graph} → Adds n m mine old all → Has g all → Has g old
has_before a has = record { owners = λ i v is. has.owners i v (a.keeps i v is); infos = λ i v is. has.infos i v (a.keeps i v is) }

pub runs_up : {z : Source} {n m : ℕ} {mine : List Owner} {old : List Owned} {R : Graph → Stage → Stage → Type 0} → Piece z n m mine old R → n ≤ m
runs_up {n = n} {m = m} p = let l = p.laid 0 in let size = l.size in omega (arith, size)

-- nothing is made
pub nothing : {z : Source} (n : ℕ) (old : List Owned) {R : Graph → Stage → Stage → Type 0} → ((g : Graph) (goal : ℕ) → IsOf z g → Has g old → R g (stage goal n (length old)) (stage goal n (length old))) → Piece z n n [] old R
nothing n old meets =
    record {
      all = old;
      adds = adds_none n n old;
      laid = λ goal. record { begin = goal; drafts = []; size = omega arith; met = λ g is has lays. meets g goal is has };
    }

-- one after the other
pub on : {z : Source} {n m l : ℕ} {mine yours : List Owner} {old : List Owned} {R S T : Graph → Stage → Stage → Type 0} (a : Piece z n m mine old R) → Piece z m l yours a.all S
    → ((g : Graph) (s i u : Stage) → IsOf z g → R g s i → S g i u → T g s u) → Piece z n l (mine ++ yours) old T
on {n = n} {m = m} {l = l} a b meets =
    record {
      all = b.all;
      adds = adds_on (runs_up a) (runs_up b) a.adds b.adds;
      laid = λ goal.
          let second = b.laid goal in
          let first = a.laid second.begin in
          let sizes : n + length (first.drafts ++ second.drafts) ≡ l = omega (arith, first.size, second.size, length-append first.drafts second.drafts) in
          record {
            begin = first.begin;
            drafts = first.drafts ++ second.drafts;
            size = sizes;
            met = λ g is has lays.
                let parts = lays_both g n m first.drafts second.drafts first.size lays in
                meets g (stage first.begin n (length _)) (stage second.begin m (length a.all)) (stage goal l (length b.all)) is (first.met g is (has_before b.adds has) parts.0) (second.met g is has parts.1);
          };
    }

-- the same, where no variable is made that lasts by the second one
pub then_on : {z : Source} {n m l : ℕ} {mine : List Owner} {old : List Owned} {R S T : Graph → Stage → Stage → Type 0} (a : Piece z n m mine old R) → Piece z m l [] a.all S
    → ((g : Graph) (s i u : Stage) → IsOf z g → R g s i → S g i u → T g s u) → Piece z n l mine old T
then_on {z = z} {n = n} {l = l} {mine = mine} {old = old} {T = T} a b meets = subst (λ o. Piece z n l o old T) (append-nil mine) (on a b meets)

-- the same piece as part of another
pub meant : {z : Source} {n m : ℕ} {mine : List Owner} {old : List Owned} {R S : Graph → Stage → Stage → Type 0} → Piece z n m mine old R
    → ((g : Graph) (s u : Stage) → IsOf z g → R g s u → S g s u) → Piece z n m mine old S
meant a meets =
    record {
      all = a.all;
      adds = a.adds;
      laid = λ goal. let l = a.laid goal in record { begin = l.begin; drafts = l.drafts; size = l.size; met = λ g is has lays. meets g _ _ is (l.met g is has lays) };
    }

pub up_to : {z : Source} {n m l : ℕ} {mine : List Owner} {old : List Owned} {R : Graph → Stage → Stage → Type 0} → m ≡ l → Piece z n m mine old R → Piece z n l mine old R
up_to {z = z} {n = n} {mine = mine} {old = old} {R = R} same a = subst (λ m. Piece z n m mine old R) same a
