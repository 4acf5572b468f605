-- The points of a role, gathered one after the other.
use Rattle.std.proofs.Common.{◌≡◌, ◌<◌, ◌≤◌, ◌+◌, ◌++◌, ℕ, List, [], ◌∷◌, Some, refl, sym, ap, ◌∙◌, subst, length, arith, inl, inr}
use Rattle.std.proofs.lemmas.Bool.{cases_lt}
use Rattle.std.proofs.lemmas.List.Elements.{All-nil, All-push, All-weaker, Contains-append_left, Contains-push}
use Rattle.std.proofs.lemmas.List.Quantifiers.{all_pairs_push}
use Rattle.std.proofs.lemmas.Option.{same_Some, slice_get_within}
use Rattle.std.specs.Prelude.{All, AllPairs, Contains, slice_get}
use Rattle.mc_base.specs.declared.ids.PointId.{PointId}
use Rattle.mc_lower_spec.specs.Graphs.{Role, point}
use Rattle.mc_lower.specs.declared.builder.Draft.{Draft}
use Rattle.mc_lower.specs.declared.builder.Role.{Role as RoleCode}
use Rattle.mc_lower.specs.Finished.{AreThose}
use Rattle.mc_lower.specs.Worlds.{role_of}

-- of the first n points, these are those of a role, ascending
pub record Chooses (drafts : List Draft) (role : Role) (n : ℕ) (ps : List PointId) : Type 0 where
  pub ascending : AllPairs (λ p q. p.0 < q.0) ps
  pub below : All (λ p. p.0 < n) ps
  pub all : (j : ℕ) (d : Draft) → j < n → slice_get drafts j ≡ Some d → role_of d.role ≡ role → Contains ps (point j)
  pub only : All (λ p. (d : Draft) × (slice_get drafts p.0 ≡ Some d) × (role_of d.role ≡ role)) ps

pub chosen_none : (drafts : List Draft) (role : Role) (ps : List PointId) → ps ≡ [] → Chooses drafts role 0 ps
chosen_none drafts role ps is =
    subst (λ l. Chooses drafts role 0 l) (sym is)
    (record {
      ascending = λ a b d lt within. absurd (omega arith);
      below = All-nil (λ p. p.0 < 0);
      all = λ j d lt there meant. absurd (omega arith);
      only = All-nil (λ p. (d : Draft) × (slice_get drafts p.0 ≡ Some d) × (role_of d.role ≡ role));
    })

pub chosen_more : (drafts : List Draft) (role : Role) (n : ℕ) (ps qs : List PointId) (d : Draft) → slice_get drafts n ≡ Some d → role_of d.role ≡ role
    → qs ≡ ps ++ point n ∷ [] → Chooses drafts role n ps → Chooses drafts role (n + 1) qs
chosen_more drafts role n ps qs d there meant is g =
    subst (λ l. Chooses drafts role (n + 1) l) (sym is)
    (record {
      ascending = all_pairs_push (λ a b. a.0 < b.0) ps (point n) g.ascending (λ k e lt. g.below k e lt);
      below = All-push (λ a. a.0 < n + 1) ps (point n) (All-weaker (λ a. a.0 < n) (λ a. a.0 < n + 1) (λ a lt. omega arith) ps g.below) (omega arith);
      all = λ j u lt is_there is_meant. elim (cases_lt j n) [
        | inl low ↦ Contains-append_left ps (point n ∷ []) (point j) (g.all j u low is_there is_meant)
        | inr high ↦ let same : n ≡ j = omega arith in subst (λ m. Contains (ps ++ point n ∷ []) (point m)) same (Contains-push ps (point n))
      ];
      only = All-push (λ p. (x : Draft) × (slice_get drafts p.0 ≡ Some x) × (role_of x.role ≡ role)) ps (point n) g.only (d, there, meant);
    })

pub chosen_same : (drafts : List Draft) (role : Role) (n : ℕ) (ps : List PointId) (d : Draft) → slice_get drafts n ≡ Some d → (role_of d.role ≡ role → ⊥)
    → Chooses drafts role n ps → Chooses drafts role (n + 1) ps
chosen_same drafts role n ps d there not_meant g =
    record {
      ascending = g.ascending;
      below = All-weaker (λ a. a.0 < n) (λ a. a.0 < n + 1) (λ a lt. omega arith) ps g.below;
      all = λ j u lt is_there is_meant. elim (cases_lt j n) [
        | inl low ↦ g.all j u low is_there is_meant
        | inr high ↦ let same : n ≡ j = omega arith in
            let one : u ≡ d = same_Some u d (sym is_there ∙ ap (λ m. slice_get drafts m) (sym same) ∙ there) in
            absurd (not_meant (subst (λ (x : Draft). role_of x.role ≡ role) one is_meant))
      ];
      only = g.only;
    }

pub chosen : (drafts : List Draft) (role : Role) (n : ℕ) (ps : List PointId) → length drafts ≤ n → Chooses drafts role n ps → AreThose drafts role ps
chosen drafts role n ps past g =
    record {
      ascending = g.ascending;
      all = λ j d there meant. let inside = slice_get_within drafts j d there in g.all j d (omega arith) there meant;
      only = g.only;
    }

-- roles that mean the same are the same
pub same_role : (r t : RoleCode) → role_of r ≡ role_of t → r ≡ t
same_role RoleCode.Plain RoleCode.Plain same = refl
same_role RoleCode.Head RoleCode.Head same = refl
same_role RoleCode.Merge RoleCode.Merge same = refl
same_role RoleCode.Stop RoleCode.Stop same = refl
same_role RoleCode.Plain RoleCode.Head same = absurd (cc same)
same_role RoleCode.Plain RoleCode.Merge same = absurd (cc same)
same_role RoleCode.Plain RoleCode.Stop same = absurd (cc same)
same_role RoleCode.Head RoleCode.Plain same = absurd (cc same)
same_role RoleCode.Head RoleCode.Merge same = absurd (cc same)
same_role RoleCode.Head RoleCode.Stop same = absurd (cc same)
same_role RoleCode.Merge RoleCode.Plain same = absurd (cc same)
same_role RoleCode.Merge RoleCode.Head same = absurd (cc same)
same_role RoleCode.Merge RoleCode.Stop same = absurd (cc same)
same_role RoleCode.Stop RoleCode.Plain same = absurd (cc same)
same_role RoleCode.Stop RoleCode.Head same = absurd (cc same)
same_role RoleCode.Stop RoleCode.Merge same = absurd (cc same)
