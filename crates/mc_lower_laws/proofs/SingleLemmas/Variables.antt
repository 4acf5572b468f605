-- Variables and points that are made alike.
use Rattle.std.proofs.Common.{◌≡◌, ◌<◌, ℕ, suc, List, Option, Some, None, refl, sym, ap, ◌∙◌, subst, inl, inr, arith}
use Rattle.std.proofs.lemmas.Bool.{cases_lt}
use Rattle.std.proofs.lemmas.Option.{same_Some}
use Rattle.std.specs.Prelude.{slice_get, option_map}
use Rattle.mc_base.specs.declared.ids.PointId.{PointId}
use Rattle.mc_base.specs.declared.ids.VarId.{VarId}
use Rattle.mc_base.specs.declared.plain.Kind.{Kind}
use Rattle.mc_base.specs.declared.plain.VarInfo.{VarInfo}
use Rattle.mc_base.specs.declared.text.place.Place.{Place}
use Rattle.mc_flow.specs.declared.instr.Instr.{Instr}
use Rattle.mc_flow.specs.declared.instr.Instr.TheVariants.{Undef}
use Rattle.mc_lower_spec.specs.Graphs.{Graph, Owner, local, result, temporary, Role, Stage, stage, point, var, IsPoint, Appends, appends, Undefines, undefines_none, undefines, Creates, creates, IsMade, is_made, Uses, uses_first, uses_again}
use Rattle.mc_lower_spec.proofs.Stages.{variables_of}
use Rattle.mc_lower_laws.proofs.SingleLemmas.Alike.{seen, local_seen, result_seen, local_from_seen, result_from_seen, temporary_from_seen}
use Rattle.mc_lower_laws.proofs.SingleLemmas.Alike.{Setting, Alike, Meets, Goes, stays, same_point}

-- ---- from the one to the other
pub turned : {g h : Graph} → Setting g h → Setting h g
turned set = record { program = sym set.program; structs = sym set.structs; once = set.once_too; once_too = set.once }

pub meets_turned : {g h : Graph} {out left : ℕ} {s r : Stage} → Meets g h out left s r → Meets h g left out r s
meets_turned m =
    record {
      points = sym m.points;
      variables = sym m.variables;
      alike = record {
        infos = λ i within. sym (m.alike.infos i (omega (arith, within, m.variables)));
        owners = λ i within. sym (m.alike.owners i (omega (arith, within, m.variables)));
      };
    }

-- ---- owners
found : {A B : Type 0} (f : A → B) (o : Option A) (z : B) → option_map f o ≡ Some z → (y : A) × (o ≡ Some y) × (f y ≡ z)
found f None z is = absurd (cc is)
found f (Some y) z is = (y, refl, same_Some (f y) z is)

-- the owner of a variable in the one, if it is of these occurrences or a temporary, tells that in the other
pub owner_over : {g h : Graph} {out left : ℕ} {s r : Stage} (w x : Owner) (i : ℕ) → Meets g h out left s r → seen out w ≡ seen left x → ((y : Owner) → seen left y ≡ seen left x → y ≡ x)
    → slice_get g.owners i ≡ Some w → i < variables_of s → slice_get h.owners i ≡ Some x
owner_over {g = g} {h = h} {out = out} {left = left} w x i m same only there within =
    let e : option_map (seen left) (slice_get h.owners i) ≡ Some (seen out w) = sym (m.alike.owners i within) ∙ ap (option_map (seen out)) there in
    let (y, is, like) = found (seen left) (slice_get h.owners i) (seen out w) e in
    is ∙ ap (λ z. Some z) (only y (like ∙ same))

pub made_once : {g h : Graph} {out left : ℕ} {w x : Owner} {v u : VarId} {s r : Stage} → Setting g h → Meets g h out left s r → seen out w ≡ seen left x → ((y : Owner) → seen left y ≡ seen left x → y ≡ x)
    → IsMade g w v s → IsMade h x u r → v ≡ u
made_once {g = g} {h = h} {w = w} {x = x} {v = v} {u = u} set m same only (is_made there within) (is_made other less) =
    let over : slice_get h.owners v.0 ≡ Some x = owner_over w x v.0 m same only there within in
    let e : v.0 ≡ u.0 = set.once_too x v.0 u.0 over other in
    ap var e

pub local_once : {g h : Graph} {out left x : ℕ} {v u : VarId} {s r : Stage} → Setting g h → Meets g h out left s r → IsMade g (local out x) v s → IsMade h (local left x) u r → v ≡ u
local_once {out = out} {left = left} {x = x} set m a b =
    made_once set m (local_seen out x ∙ sym (local_seen left x)) (λ y is. local_from_seen left x y (is ∙ local_seen left x)) a b

pub result_once : {g h : Graph} {out left : ℕ} {v u : VarId} {s r : Stage} → Setting g h → Meets g h out left s r → IsMade g (result out) v s → IsMade h (result left) u r → v ≡ u
result_once {out = out} {left = left} set m a b =
    made_once set m (result_seen out ∙ sym (result_seen left)) (λ y is. result_from_seen left y (is ∙ result_seen left)) a b

pub temporary_once : {g h : Graph} {out left j : ℕ} {kind : Kind} {v u : VarId} {s r : Stage} → Setting g h → Meets g h out left s r → IsMade g (temporary j kind) v s → IsMade h (temporary j kind) u r → v ≡ u
temporary_once {left = left} {j = j} {kind = kind} set m a b = made_once set m refl (λ y is. temporary_from_seen left j kind y is) a b

pub local_over : {g h : Graph} {out left x : ℕ} {v : VarId} {s r : Stage} → Meets g h out left s r → IsMade g (local out x) v s → IsMade h (local left x) v r
local_over {out = out} {left = left} {x = x} {v = v} {r = stage a n k} m (is_made there within) =
    is_made (owner_over (local out x) (local left x) v.0 m (local_seen out x ∙ sym (local_seen left x)) (λ y is. local_from_seen left x y (is ∙ local_seen left x)) there within) (omega (arith, within, m.variables))

-- ---- points
pub appended : {g h : Graph} {out left : ℕ} {Same : Type 0} {role : Role} {place : Place} {code other : PointId → Instr} {s u r w : Stage} → Meets g h out left s r → ((q : PointId) → code q ≡ other q)
    → Appends g role place code s u → Appends h role place other r w → Goes g h out left Same s u r w
appended {g = g} {h = h} {role = role} {place = place} {code = code} {other = other} m same (appends {n = n} {k = k} {b = b} one) (appends {n = i} {k = j} {b = d} two) =
    record {
      meets = record { points = ap suc m.points; variables = m.variables; alike = m.alike };
      back = λ also goal. (
        m.points,
        λ l low high.
            let codes : code (point b) ≡ other (point d) = same (point b) ∙ ap (λ z. other (point z)) goal in
            let two_here = subst (λ z. IsPoint h z role place (other (point d))) (sym m.points) two in
            same_point one two_here codes (omega (arith, low, high)),
      );
    }

pub undefined : {g h : Graph} {out left : ℕ} {Same : Type 0} {place : Place} {vs us : List VarId} {s u r w : Stage} → Meets g h out left s r → vs ≡ us
    → Undefines g place vs s u → Undefines h place us r w → Goes g h out left Same s u r w
undefined m same undefines_none undefines_none = stays m
undefined m same undefines_none (undefines is) = absurd (cc same)
undefined m same (undefines is) undefines_none = absurd (cc same)
undefined m same (undefines is) (undefines also) = appended m (λ q. ap (λ xs. Undef xs q) same) is also

-- ---- variables
-- one variable more
more_alike : {g h : Graph} {out left k : ℕ} → Alike g h out left k → slice_get g.flow.vars k ≡ slice_get h.flow.vars k → option_map (seen out) (slice_get g.owners k) ≡ option_map (seen left) (slice_get h.owners k)
    → Alike g h out left (suc k)
more_alike {g = g} {h = h} {out = out} {left = left} {k = k} a info owner =
    record {
      infos = λ i within. elim (cases_lt i k) [
        | inl old ↦ a.infos i old
        | inr new ↦ let here : k ≡ i = omega (arith, within, new) in subst (λ z. slice_get g.flow.vars z ≡ slice_get h.flow.vars z) here info
      ];
      owners = λ i within. elim (cases_lt i k) [
        | inl old ↦ a.owners i old
        | inr new ↦ let here : k ≡ i = omega (arith, within, new) in subst (λ z. option_map (seen out) (slice_get g.owners z) ≡ option_map (seen left) (slice_get h.owners z)) here owner
      ];
    }

-- the same variable is made, and more is alike
pub record Makes (g h : Graph) (out left : ℕ) (Same : Type 0) (v x : VarId) (s u r w : Stage) : Type 0 where
  pub variable : v ≡ x
  pub steps : Goes g h out left Same s u r w

pub created : {g h : Graph} {out left : ℕ} {Same : Type 0} {a b : Owner} {i j : VarInfo} {v x : VarId} {s u r w : Stage} → Meets g h out left s r → seen out a ≡ seen left b → i ≡ j
    → Creates g a i s v u → Creates h b j r x w → Makes g h out left Same v x s u r w
created {g = g} {h = h} {out = out} {left = left} {a = a} {b = b} {i = i} {j = j} m same info (creates {k = k} owned is) (creates {k = l} owned_too is_too) =
    let e : l ≡ k = sym m.variables in
    let there = subst (λ z. slice_get h.owners z ≡ Some b) e owned_too in
    let info_there = subst (λ z. slice_get h.flow.vars z ≡ Some j) e is_too in
    let owners : option_map (seen out) (slice_get g.owners k) ≡ option_map (seen left) (slice_get h.owners k) = ap (option_map (seen out)) owned ∙ ap (λ z. Some z) same ∙ sym (ap (option_map (seen left)) there) in
    let infos : slice_get g.flow.vars k ≡ slice_get h.flow.vars k = is ∙ ap (λ z. Some z) info ∙ sym info_there in
    record {
      variable = ap var m.variables;
      steps = record {
        meets = record { points = m.points; variables = ap suc m.variables; alike = more_alike m.alike infos owners };
        back = λ also goal. (goal, λ i low high. absurd (omega (arith, low, high)));
      };
    }

-- a temporary that is there is not made
already : {g h : Graph} {out left j : ℕ} {kind : Kind} {info : VarInfo} {v x : VarId} {s u r : Stage} → Setting g h → Meets g h out left s r → Creates g (temporary j kind) info s v u → IsMade h (temporary j kind) x r → ⊥
already {g = g} {left = left} {j = j} {kind = kind} {x = x} set m (creates {k = k} owned is) (is_made there within) =
    let t = meets_turned m in
    let over : slice_get g.owners x.0 ≡ Some (temporary j kind) = owner_over (temporary j kind) (temporary j kind) x.0 t refl (λ y e. temporary_from_seen _ j kind y e) there within in
    let e : x.0 ≡ k = set.once (temporary j kind) x.0 k over owned in
    omega (arith, e, within, m.variables)

pub used_at : {g h : Graph} {out left j : ℕ} {kind : Kind} {Same : Type 0} {v x : VarId} {s u r w : Stage} → Setting g h → Meets g h out left s r → Uses g j kind s v u → Uses h j kind r x w → Makes g h out left Same v x s u r w
used_at set m (uses_first a) (uses_first b) = created m refl refl a b
used_at set m (uses_first a) (uses_again b) = absurd (already set m a b)
used_at set m (uses_again a) (uses_first b) = absurd (already (turned set) (meets_turned m) b a)
used_at set m (uses_again a) (uses_again b) = record { variable = temporary_once set m a b; steps = stays m }

pub used : {g h : Graph} {out left i j : ℕ} {kind other : Kind} {Same : Type 0} {v x : VarId} {s u r w : Stage} → Setting g h → Meets g h out left s r → i ≡ j → kind ≡ other → Uses g i kind s v u → Uses h j other r x w
    → Makes g h out left Same v x s u r w
used {h = h} {i = i} {kind = kind} {other = other} {x = x} {r = r} {w = w} set m same_number same_kind a b =
    let c = subst (λ z. Uses h z other r x w) (sym same_number) b in
    used_at set m a (subst (λ z. Uses h i z r x w) (sym same_kind) c)
