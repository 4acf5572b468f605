-- `+=` and `-=` of a field: it is loaded, computed and stored.
use Rattle.std.proofs.Common.{◌≡◌, ℕ, suc, ℤ, List, [], ◌∷◌, Option, Some, None, length, refl, sym, ap, ◌∙◌, subst, arith}
use Rattle.std.specs.Prelude.{slice_get, Contains}
use Rattle.std.proofs.lemmas.List.Elements.{Contains-push}
use Rattle.mc_base.specs.declared.ids.VarId.{VarId}
use Rattle.mc_base.specs.declared.plain.FaultKind.{FaultKind}
use Rattle.mc_base.specs.declared.plain.Kind.{Kind}
use Rattle.mc_base.specs.declared.plain.Kind.TheVariants.{Int}
use Rattle.mc_base.specs.declared.text.place.Place.{Place}
use Rattle.mc_flow.specs.Heap.Heap.{Heap}
use Rattle.mc_flow.specs.Heap.Choices.{Choice}
use Rattle.mc_flow.specs.Values.{value_in, value_of as operand_value}
use Rattle.mc_flow.specs.declared.instr.Operand.{Operand}
use Rattle.mc_flow.specs.declared.instr.Operand.TheVariants.{Var, Const}
use Rattle.mc_flow.specs.declared.instr.Instr.TheVariants.{Store}
use Rattle.mc_semantics.specs.Values.{Evaluated, fault_of, value_of, operated, evaluated, Found, found, after_found}
use Rattle.mc_semantics.specs.Resolved.Configs.{Values, held}
use Rattle.mc_semantics.specs.Resolved.Programs.{FieldAt, Left}
use Rattle.mc_semantics.specs.Resolved.Values.{Changed, fault_in, put, computed, assigned_behind, behind_base, behind_value, loaded}
use Rattle.mc_lower_spec.specs.Graphs.{Graph, local, Stage, stage, plain, point, IsPoint, Undefines}
use Rattle.mc_lower_spec.specs.Values.{Operation, a_field, struct_at, Takes, Walks, walks_none, walks}
use Rattle.mc_lower_spec.proofs.Stepping.{Vars, Comes}
use Rattle.mc_lower_spec.proofs.Stages.{goal_of}
use Rattle.mc_lower_spec.proofs.Evaluating.{AreTemporaries, not_temporary, OnlyNew, both_new, Leads, leads_on, Taken, taken_waits, taken_faults, taken_gives, taking, taken_temporaries, grown, Walked, walked_faults, walked, walking, walk_grows, walk_temporaries, whole_chain, base_value, load_faults, load_gives, Kept, kept_value}
use Rattle.mc_lower_spec.proofs.Changing.{IsClean}
use Rattle.mc_lower_spec.proofs.Storing.{IsPut, put_faults, stored_put, store_step, assigned_at_last}

-- the variable that has the last field is the function's, or a temporary in use
walk_kept : {g : Graph} {place : Place} {y z : VarId} {fs : List FieldAt} {ts us : List VarId} {s u : Stage} {last : FieldAt} (ws : List VarId)
    → Walks g place y fs ts s z last us u → (Contains ws y → Contains ts y) → Kept us ws (Var z)
walk_kept ws walks_none keeps = keeps
walk_kept ws (walks {t = t} {ts = ts} kind first rest) keeps = walk_kept ws rest (kept_behind first)
  where
    kept_behind : {g : Graph} {place : Place} {k : Kind} {operation : Operation} {us : List VarId} {s u : Stage} → Takes g place k operation ts s t us u → Contains ws t → Contains us t
    kept_behind (Rattle.mc_lower_spec.specs.Values.takes uses is) there = Contains-push ts t

-- what the operation comes to
computed_fault : (compute : ℤ → ℤ → ℤ) (values : Values) (heap : Heap) (l : Left) (a : ℤ) (w : Option ℤ) (choices : List Choice) (kind : FaultKind) → fault_of kind ≡ operated compute (Some a) w choices
    → computed compute values heap l (Some a) w ≡ fault_in kind
computed_fault compute values heap l a None choices kind e = ap fault_in (ap kind_of (sym e))
  where
    kind_of : Evaluated → FaultKind
    kind_of (fault_of k) = k
    kind_of (value_of v rest) = kind
computed_fault compute values heap l a (Some u) choices kind e = absurd (cc)

abbrev pub value_there : ℤ → Evaluated → ℤ
value_there z (fault_of k) = z
value_there z (value_of None rest) = z
value_there z (value_of (Some v) rest) = v

abbrev pub rest_there : List Choice → Evaluated → List Choice
rest_there c (fault_of k) = c
rest_there c (value_of v rest) = rest

computed_value : (compute : ℤ → ℤ → ℤ) (values : Values) (heap : Heap) (x : ℕ) (f : FieldAt) (fs : List FieldAt) (a : ℤ) (w : Option ℤ) (choices left : List Choice) (b : ℤ) → value_of (Some b) left ≡ operated compute (Some a) w choices
    → (computed compute values heap (record { variable = x; fields = f ∷ fs }) (Some a) w ≡ assigned_behind values heap (held values x) f fs (Some b)) × (left ≡ choices)
computed_value compute values heap x f fs a None choices left b e = absurd (cc)
computed_value compute values heap x f fs a (Some u) choices left b e =
    (ap (λ r. assigned_behind values heap (held values x) f fs (Some (value_there b r))) (sym e), ap (rest_there left) e)

-- ---- load, compute and store
-- the change that the source makes, where the variable with the last field is known
abbrev pub Field : (ℤ → ℤ → ℤ) → Values → Heap → ℕ → FieldAt → List FieldAt → Option ℤ → Changed
Field compute values heap x f fs w = Rattle.mc_semantics.specs.Resolved.Values.combined compute values heap (record { variable = x; fields = f ∷ fs }) w

new_stored : (g : Graph) (compute : ℤ → ℤ → ℤ) (values : Values) (place : Place) (x : ℕ) (f last : FieldAt) (fs : List FieldAt) (z new : VarId) (w : Option ℤ) (a : ℤ) (rs : List VarId) (s u : Stage) (begin i n : ℕ) (vars start now mid : Vars) (heap : Heap) (choices : List Choice) (operation : Operation) (ws : List VarId)
    → Field compute values heap x f fs w ≡ computed compute values heap (record { variable = x; fields = f ∷ fs }) (Some a) w
    → ((b : ℤ) → assigned_behind values heap (held values x) f fs (Some b) ≡ put values heap last (Some b) (value_in mid z))
    → ((r : Evaluated) → Comes operation mid heap choices r → r ≡ operated compute (Some a) w choices) → ((r : Evaluated) → r ≡ operated compute (Some a) w choices → Comes operation mid heap choices r)
    → Leads g heap begin start choices i mid choices → OnlyNew [] ws vars mid → ((v : VarId) → Contains ws v → Contains rs v) → AreTemporaries g rs → IsClean g vars → Kept ws rs (Var z)
    → IsPoint g n plain place (Store z (struct_at last.shape) last.field (Var new) (point (goal_of s))) → Undefines g place rs s u
    → Taken g place operation ws rs new i n mid heap choices
    → IsPut g (Field compute values heap x f fs w) values place begin (goal_of u) vars start heap choices
new_stored g compute values place x f last fs z new w a rs s u begin i n vars start now mid heap choices operation ws e assigns out_of into leads only wider are clean keeps is undone (taken_waits none never) =
    absurd (none (operated compute (Some a) w choices) (into _ refl))
new_stored g compute values place x f last fs z new w a rs s u begin i n vars start now mid heap choices operation ws e assigns out_of into leads only wider are clean keeps is undone (taken_faults kind comes goes) =
    put_faults kind (e ∙ computed_fault compute values heap (record { variable = x; fields = f ∷ fs }) a w choices kind (out_of (fault_of kind) comes)) (leads.goes _ goes)
new_stored g compute values place x f last fs z new w a rs s u begin i n vars start now mid heap choices operation ws e assigns out_of into leads only wider are clean keeps is undone (taken_gives later b left comes further newer holds) =
    let made : (computed compute values heap (record { variable = x; fields = f ∷ fs }) (Some a) w ≡ assigned_behind values heap (held values x) f fs (Some b)) × (left ≡ choices) =
    computed_value compute values heap x f fs a w choices left b (out_of (value_of (Some b) left) comes) in
    let same : put values heap last (Some b) (value_in mid z) ≡ put values heap last (value_in later new) (value_in later z) =
    ap (λ v. put values heap last v (value_in mid z)) (sym holds) ∙ ap (λ v. put values heap last (value_in later new) v) (sym (kept_value ws rs (Var z) mid later keeps newer)) in
    stored_put g values place (Field compute values heap x f fs w) rs s u begin n vars start later heap choices (put values heap last (value_in later new) (value_in later z))
    (e ∙ made.0 ∙ assigns b ∙ same) (leads_on leads (subst (λ c. Leads g heap i mid choices n later c) made.1 further)) are
    (both_new [] ws rs vars mid later (λ v there. absurd (omega (arith, there.1))) wider only newer) clean undone
    (store_step g values place n (goal_of s) z last (Var new) later heap choices is)

old_loaded : (g : Graph) (compute : ℤ → ℤ → ℤ) (values : Values) (place : Place) (x : ℕ) (f last : FieldAt) (fs : List FieldAt) (z old new : VarId) (o : Operand) (w : Option ℤ) (ts us ws rs : List VarId) (s u : Stage) (begin j i n : ℕ) (vars start now : Vars) (heap : Heap) (choices : List Choice) (operation : Operation)
    → Rattle.mc_semantics.specs.Resolved.Values.left_value values heap (record { variable = x; fields = f ∷ fs }) ≡ loaded heap last (value_in now z)
    → ((b : ℤ) → assigned_behind values heap (held values x) f fs (Some b) ≡ put values heap last (Some b) (value_in now z))
    → ((mid : Vars) (r : Evaluated) → Comes operation mid heap choices r → r ≡ operated compute (value_in mid old) (operand_value mid o) choices)
    → ((mid : Vars) (r : Evaluated) → r ≡ operated compute (value_in mid old) (operand_value mid o) choices → Comes operation mid heap choices r)
    → Leads g heap begin start choices j now choices → OnlyNew [] us vars now → ((v : VarId) → Contains us v → Contains ws v) → ((v : VarId) → Contains ws v → Contains rs v) → AreTemporaries g rs → IsClean g vars
    → Kept us ws (Var z) → Kept ws rs (Var z) → Kept us ws o → operand_value now o ≡ w
    → IsPoint g n plain place (Store z (struct_at last.shape) last.field (Var new) (point (goal_of s))) → Undefines g place rs s u
    → ((mid : Vars) → length mid ≡ length now → Taken g place operation ws rs new i n mid heap choices)
    → Taken g place (a_field z last) us ws old j i now heap choices
    → IsPut g (Field compute values heap x f fs w) values place begin (goal_of u) vars start heap choices
old_loaded g compute values place x f last fs z old new o w ts us ws rs s u begin j i n vars start now heap choices operation chain assigns out_of into leads only grow wider are clean keeps keeps_on keeps_o holds is undone second (taken_waits none never) =
    absurd (none (evaluated (loaded heap last (value_in now z)) choices) refl)
old_loaded g compute values place x f last fs z old new o w ts us ws rs s u begin j i n vars start now heap choices operation chain assigns out_of into leads only grow wider are clean keeps keeps_on keeps_o holds is undone second (taken_faults kind comes goes) =
    put_faults kind
    (ap (λ y. behind_base y (λ a. computed compute values heap (record { variable = x; fields = f ∷ fs }) a w)) (chain ∙ load_faults (loaded heap last (value_in now z)) choices kind comes))
    (leads.goes _ goes)
old_loaded g compute values place x f last fs z old new o w ts us ws rs s u begin j i n vars start now heap choices operation chain assigns out_of into leads only grow wider are clean keeps keeps_on keeps_o holds is undone second (taken_gives mid a left comes further newer has) =
    let got : (loaded heap last (value_in now z) ≡ found (Some a)) × (left ≡ choices) = load_gives (loaded heap last (value_in now z)) choices (Some a) left comes in
    let there : operated compute (value_in mid old) (operand_value mid o) choices ≡ operated compute (Some a) w choices =
    ap (λ v. operated compute v (operand_value mid o) choices) has ∙ ap (λ v. operated compute (Some a) v choices) (kept_value us ws o now mid keeps_o newer ∙ holds) in
    new_stored g compute values place x f last fs z new w a rs s u begin i n vars start now mid heap choices operation ws
    (ap (λ y. behind_base y (λ v. computed compute values heap (record { variable = x; fields = f ∷ fs }) v w)) (chain ∙ got.0))
    (λ b. assigns b ∙ ap (put values heap last (Some b)) (sym (kept_value us ws (Var z) now mid keeps newer)))
    (λ r c. out_of mid r c ∙ there) (λ r c. into mid r (c ∙ sym there))
    (leads_on leads (subst (λ c. Leads g heap j now choices i mid c) got.1 further))
    (both_new [] us ws vars now mid (λ v in_none. absurd (omega (arith, in_none.1))) grow only newer) wider are clean keeps_on is undone (second mid newer.long)

walked_added : (g : Graph) (compute : ℤ → ℤ → ℤ) (values : Values) (place : Place) (x : ℕ) (f last : FieldAt) (fs : List FieldAt) (base : Found) (z old new : VarId) (o : Operand) (w : Option ℤ) (ts us ws rs : List VarId) (s u : Stage) (begin j i n : ℕ) (vars start : Vars) (heap : Heap) (choices : List Choice) (operation : Operation)
    → Rattle.mc_semantics.specs.Resolved.Values.left_value values heap (record { variable = x; fields = f ∷ fs }) ≡ after_found base (λ v. loaded heap last v)
    → ((b : ℤ) → assigned_behind values heap (held values x) f fs (Some b) ≡ behind_base base (λ y. put values heap last (Some b) y))
    → ((mid : Vars) (r : Evaluated) → Comes operation mid heap choices r → r ≡ operated compute (value_in mid old) (operand_value mid o) choices)
    → ((mid : Vars) (r : Evaluated) → r ≡ operated compute (value_in mid old) (operand_value mid o) choices → Comes operation mid heap choices r)
    → OnlyNew [] ts vars start → ((v : VarId) → Contains ts v → Contains us v) → ((v : VarId) → Contains us v → Contains ws v) → ((v : VarId) → Contains ws v → Contains rs v) → AreTemporaries g rs → IsClean g vars
    → Kept us ws (Var z) → Kept ws rs (Var z) → Kept ts us o → Kept us ws o → operand_value start o ≡ w
    → IsPoint g n plain place (Store z (struct_at last.shape) last.field (Var new) (point (goal_of s))) → Undefines g place rs s u
    → ((mid : Vars) → length mid ≡ length start → Taken g place operation ws rs new i n mid heap choices)
    → ((now : Vars) → length now ≡ length start → Taken g place (a_field z last) us ws old j i now heap choices)
    → Walked g base place ts us z begin j start heap choices
    → IsPut g (Field compute values heap x f fs w) values place begin (goal_of u) vars start heap choices
walked_added g compute values place x f last fs base z old new o w ts us ws rs s u begin j i n vars start heap choices operation chain assigns out_of into only begins grow wider are clean keeps keeps_on first_o keeps_o holds is undone second first (walked_faults kind k goes) =
    put_faults kind
    (ap (λ y. behind_base y (λ a. computed compute values heap (record { variable = x; fields = f ∷ fs }) a w)) (chain ∙ ap (λ y. after_found y (λ v. loaded heap last v)) k)) goes
walked_added g compute values place x f last fs base z old new o w ts us ws rs s u begin j i n vars start heap choices operation chain assigns out_of into only begins grow wider are clean keeps keeps_on first_o keeps_o holds is undone second first (walked now k leads newer) =
    old_loaded g compute values place x f last fs z old new o w ts us ws rs s u begin j i n vars start now heap choices operation
    (chain ∙ ap (λ y. after_found y (λ v. loaded heap last v)) k) (λ b. assigns b ∙ ap (λ y. behind_base y (λ v. put values heap last (Some b) v)) k) out_of into leads
    (both_new [] ts us vars start now (λ v there. absurd (omega (arith, there.1))) begins only newer) grow wider are clean keeps keeps_on keeps_o
    (kept_value ts us o start now first_o newer ∙ holds) is undone (λ mid long. second mid (long ∙ newer.long)) (first now newer.long)

-- from the value of the right side on: both have the same fault, or change the heap alike
pub changing_field : {g : Graph} {out x : ℕ} {place : Place} {y z old new : VarId} {f last : FieldAt} {fs : List FieldAt} {ts us ws rs : List VarId} {m n i j r u : Stage} {kind : Kind} {operation : Operation}
    (o : Operand) (compute : ℤ → ℤ → ℤ) (values : Values) (w : Option ℤ) (vars start : Vars) (heap : Heap) (choices : List Choice)
    → ((mid : Vars) (k : Evaluated) → Comes operation mid heap choices k → k ≡ operated compute (value_in mid old) (operand_value mid o) choices)
    → ((mid : Vars) (k : Evaluated) → k ≡ operated compute (value_in mid old) (operand_value mid o) choices → Comes operation mid heap choices k)
    → slice_get g.owners y.0 ≡ Some (local out x) → Walks g place y (f ∷ fs) ts m z last us n → Takes g place kind (a_field z last) us n old ws i → Takes g place Int operation ws i new rs j
    → Rattle.mc_lower_spec.specs.Graphs.Appends g plain place (λ q. Store z (struct_at last.shape) last.field (Var new) q) j r → Undefines g place rs r u
    → AreTemporaries g ts → OnlyNew [] ts vars start → IsClean g vars → length start ≡ length g.owners → held values x ≡ value_in start y
    → ((more : List VarId) → AreTemporaries g more → Kept ts more o) → operand_value start o ≡ w
    → IsPut g (Field compute values heap x f fs w) values place (goal_of m) (goal_of u) vars start heap choices
changing_field {g} {out} {x} {place} {y} {z} {old} {new} {f} {last} {fs} {ts} {us} {ws} {rs} {m} {n} {i} {j} {r} {u} {kind} {operation} o compute values w vars start heap choices out_of into owned walk loads computes (Rattle.mc_lower_spec.specs.Graphs.appends {n = at_n} {k = k} {b = b} is) undone are only clean long base keeps holds =
    let after_walk : AreTemporaries g us = walk_temporaries walk are in
    let after_load : AreTemporaries g ws = taken_temporaries loads after_walk in
    let after_all : AreTemporaries g rs = taken_temporaries computes after_load in
    let absent : (more : List VarId) → AreTemporaries g more → Contains more y → Contains ts y = λ more temps there. absurd (not_temporary g more y (local out x) temps owned refl there) in
    walked_added g compute values place x f last fs (base_value heap (value_in start y) (f ∷ fs)) z old new o w ts us ws rs (stage b (suc at_n) k) u (goal_of m) (goal_of n) (goal_of i) at_n vars start heap choices operation
    (ap (λ v. behind_value heap v (f ∷ fs)) base ∙ whole_chain heap (value_in start y) walk)
    (λ c. ap (λ v. assigned_behind values heap v f fs (Some c)) base ∙ assigned_at_last values heap (value_in start y) (Some c) walk)
    out_of into only (walk_grows walk) (grown loads) (grown computes) after_all clean (walk_kept ws walk (absent ws after_load))
    (λ there. grown loads z (walk_kept rs walk (absent rs after_all) there)) (keeps us after_walk) (kept_wider o ts us ws (walk_grows walk) (keeps ws after_load)) holds is undone
    (λ mid same. taking mid heap choices computes after_load (same ∙ long)) (λ now same. taking now heap choices loads after_walk (same ∙ long))
    (walking start heap choices walk are long)
  where
    kept_wider : (p : Operand) (ps bs cs : List VarId) → ((v : VarId) → Contains ps v → Contains bs v) → Kept ps cs p → Kept bs cs p
    kept_wider (Var v) ps bs cs grow keep = λ there. grow v (keep there)
    kept_wider (Const c) ps bs cs grow keep = tt
