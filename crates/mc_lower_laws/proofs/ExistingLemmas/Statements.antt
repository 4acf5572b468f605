-- The points of statements exist.
use Rattle.std.proofs.Common.{◌≡◌, ◌≤◌, ◌<◌, ◌+◌, ◌++◌, ℕ, zero, suc, Bool, true, IsTrue, List, [], ◌∷◌, Option, Some, None, map, length, refl, sym, ap, subst, arith, Contains, append-nil, length-append}
use Rattle.std.proofs.lemmas.List.Elements.{Contains-append_left, Contains-append_right}
use Rattle.mc_base.specs.declared.plain.Kind.{Kind}
use Rattle.mc_base.specs.declared.plain.Kind.TheVariants.{Ptr}
use Rattle.mc_base.specs.declared.text.place.Place.{Place}
use Rattle.mc_flow.specs.declared.instr.Operand.TheVariants.{Var}
use Rattle.mc_flow.specs.declared.instr.Instr.{Instr}
use Rattle.mc_flow.specs.declared.instr.Instr.TheVariants.{Skip, Copy, Free, AssumeShape, AssertShape, AssertEmpty, End, Fail}
use Rattle.mc_semantics.specs.Resolved.Programs.{Cond, Call, Right, expression, result_of, allocation, Head, Stmt, declaration, block, empty, simple, free, assert, assume, assume_shape, assert_shape, assert_empty}
use Rattle.mc_semantics.specs.Resolved.Programs.{if_only, if_else, while_loop, do_loop, for_loop, break_loop, continue_loop, returns, Stmts, no_more, then, Function}
use Rattle.mc_lower_spec.specs.Graphs.{Graph, Owner, local, result, Role, plain, head, merge, stop, Stage, stage, point, var, nowhere, IsPoint, appends, IsMade, Leaves}
use Rattle.mc_lower_spec.specs.Values.{Tests, TestsPerhaps}
use Rattle.mc_lower_spec.specs.Lowering.{Loop, Around, in_block, in_loop, SetsTo, IsArgument, AreArguments, Calls, Starts, Finishes}
use Rattle.mc_lower_spec.specs.Lowering.{Lowers, declarations, blocks, empties, simples, frees, asserts, assumes, shapes_assumed, shapes_asserted, emptiness_asserted, ifs, ifs_else, whiles, dos, fors, breaks, continues, returns_nothing, returns_value, returns_result, LowersAll, lowers_none, lowers_next}
use Rattle.mc_lower_spec.specs.Length.Lengths.{clearing, leaving, operations, testing, testing_perhaps, setting, calling, starting, finishing, returning, start_declared, declared, all_declared, stretch, stretch_all}
use Rattle.mc_lower_spec.specs.Scopes.{IsScopedIn, AreScopedIn}
use Rattle.mc_lower_laws.specs.Lowerable.Lowerable.{IsLowerableValue, IsLowerable, AreLowerable}
use Rattle.mc_lower_laws.specs.Valid.Kinds.{Here, IsReturned, IsOfKinds, AreOfKinds}
use Rattle.mc_lower_laws.specs.Existing.Ranks.{value_calls, start_calls, last_calls, calls_in, all_calls_in}
use Rattle.mc_lower_laws.proofs.ExistingLemmas.Tables.{Draft, Owned, In, Adds, Source, Piece, lays_both, one_longer, adds_on, adds_within, has_before, runs_up, nothing, on, then_on, meant, up_to, both_mapped}
use Rattle.mc_lower_laws.proofs.ExistingLemmas.Values.{laying, knowing, found, still_named, Fork, forks_up, evaluating, testing_of, testing_maybe}
use Rattle.mc_lower_laws.proofs.ExistingLemmas.Choosing.{leaving_now}
use Rattle.mc_lower_laws.proofs.ExistingLemmas.Actions.{Closes, closing, setting_expression, setting_allocation, argument_of, arguments_of}
use Rattle.mc_lower_laws.proofs.ExistingLemmas.Calls.{Stands, first, after, still, done, ended, shorter, free_before, AllCallable, Fits, Called, called, acting_of, declaring_of, starting_of, finishing_of}

-- ---- pieces that go on elsewhere
-- a piece that goes on to one point, whatever comes after it
going : {z : Source} {n m : ℕ} {mine : List Owner} {old : List Owned} {R S : Graph → Stage → Stage → Type 0} (q : ℕ) → Piece z n m mine old R → ((g : Graph) (s : Stage) (b k : ℕ) → R g s (stage q m k) → S g s (stage b m k)) → Piece z n m mine old S
going {n = n} {old = old} q p meets =
    record {
      all = p.all;
      adds = p.adds;
      laid = λ goal. let l = p.laid q in record { begin = l.begin; drafts = l.drafts; size = l.size; met = λ g is has lays. meets g (stage l.begin n (length old)) goal (length p.all) (l.met g is has lays) };
    }

adds_last : {n m l : ℕ} {mine : List Owner} {old mid all : List Owned} → n ≤ m → m ≤ l → Adds n m mine old mid → Adds m l [] mid all → Adds n l mine old all
adds_last {n = n} {l = l} {mine = mine} {old = old} {all = all} low high a b = subst (λ o. Adds n l o old all) (append-nil mine) (adds_on low high a b)

-- ---- forms of statements, of their parts
-- where a condition is false, there is a point of this role that nothing follows
data Checks (g : Graph) (out : ℕ) (role : Role) (place : Place) (code : Instr) (d : Cond) : Stage → Stage → Type 0 where
  checks : {s : Stage} {b n k : ℕ} → Tests g out d s b n n k → IsPoint g n role place code → Checks g out role place code d s (stage b (suc n) k)

asserted : {g : Graph} {c : Around} {place : Place} {d : Cond} {s u : Stage} → Checks g c.out plain place Fail d s u → Lowers g c (assert place d) s u
asserted (checks test is) = asserts test is

assumed : {g : Graph} {c : Around} {place : Place} {d : Cond} {s u : Stage} → Checks g c.out stop place End d s u → Lowers g c (assume place d) s u
assumed (checks test is) = assumes test is

checking : {z : Source} (out : ℕ) (role : Role) (place : Place) (code : Instr) (d : Cond) (n m : ℕ) (old : List Owned) → Fork z n m old (λ g s t f p v. Tests g out d s t f p v) → Piece z n (suc m) [] old (λ g s u. Checks g out role place code d s u)
checking out role place code d n m old t =
    let last : Draft = record { role = role; place = place; code = code } in
    record {
      all = t.all;
      adds = adds_within (omega arith) (omega arith) t.adds;
      laid = λ goal.
          let test = t.laid goal m in
          record {
            begin = test.begin;
            drafts = test.drafts ++ last ∷ [];
            size = omega (arith, test.size, one_longer test.drafts last);
            met = λ g is has lays. let parts = lays_both g n m test.drafts (last ∷ []) test.size lays in checks (test.met g is has parts.0) parts.1.0;
          };
    }

if_piece : {z : Source} (c : Around) (place : Place) (d : Cond) (a : Stmt) (n m l : ℕ) (mine : List Owner) (old : List Owned) (t : Fork z n m old (λ g s t f p v. Tests g c.out d s t f p v)) → Piece z m l mine t.all (λ g s u. Lowers g c a s u)
    → Piece z n (suc l) mine old (λ g s u. Lowers g c (if_only place d a) s u)
if_piece c place d a n m l mine old t p =
    record {
      all = p.all;
      adds = adds_within (omega arith) (omega arith) (adds_on (forks_up t) (runs_up p) t.adds p.adds);
      laid = λ goal.
          let body = p.laid l in
          let test = t.laid body.begin l in
          let last : Draft = record { role = merge; place = place; code = Skip (point goal) } in
          let more : List Draft = body.drafts ++ last ∷ [] in
          record {
            begin = test.begin;
            drafts = test.drafts ++ more;
            size = omega (arith, test.size, body.size, one_longer body.drafts last, length-append test.drafts more);
            met = λ g is has lays.
                let one = lays_both g n m test.drafts more test.size lays in
                let two = lays_both g m l body.drafts (last ∷ []) body.size one.1 in
                ifs (test.met g is (has_before p.adds has) one.0) (body.met g is has two.0) (appends two.1.0);
          };
    }

else_piece : {z : Source} (c : Around) (place : Place) (d : Cond) (a b : Stmt) (n m i j : ℕ) (mine yours : List Owner) (old : List Owned) (t : Fork z n m old (λ g s t f p v. Tests g c.out d s t f p v))
    → (p : Piece z m i mine t.all (λ g s u. Lowers g c a s u)) → Piece z i j yours p.all (λ g s u. Lowers g c b s u) → Piece z n (suc j) (mine ++ yours) old (λ g s u. Lowers g c (if_else place d a b) s u)
else_piece c place d a b n m i j mine yours old t p q =
    let up = runs_up p in
    let more_up = runs_up q in
    record {
      all = q.all;
      adds = adds_within (omega arith) (omega arith) (adds_on (forks_up t) (omega (arith, up, more_up)) t.adds (adds_on up more_up p.adds q.adds));
      laid = λ goal.
          let no = q.laid j in
          let yes = p.laid j in
          let test = t.laid yes.begin no.begin in
          let last : Draft = record { role = merge; place = place; code = Skip (point goal) } in
          let rest : List Draft = no.drafts ++ last ∷ [] in
          let more : List Draft = yes.drafts ++ rest in
          record {
            begin = test.begin;
            drafts = test.drafts ++ more;
            size = omega (arith, test.size, yes.size, no.size, one_longer no.drafts last, length-append test.drafts more, length-append yes.drafts rest);
            met = λ g is has lays.
                let one = lays_both g n m test.drafts more test.size lays in
                let two = lays_both g m i yes.drafts rest yes.size one.1 in
                let three = lays_both g i j no.drafts (last ∷ []) no.size two.1 in
                let before = has_before q.adds has in
                ifs_else (test.met g is (has_before p.adds before) one.0) (yes.met g is before two.0) (no.met g is has three.0) (appends three.1.0);
          };
    }

while_piece : {z : Source} (c : Around) (place : Place) (d : Cond) (a : Stmt) (n m e : ℕ) (mine : List Owner) (old : List Owned) (t : Fork z (suc n) m old (λ g s t f p v. Tests g c.out d s t f p v))
    → Piece z m e mine t.all (λ g s u. Lowers g (in_loop c e n) a s u) → Piece z n (suc e) mine old (λ g s u. Lowers g c (while_loop place d a) s u)
while_piece c place d a n m e mine old t p =
    record {
      all = p.all;
      adds = adds_within (omega arith) (omega arith) (adds_on (forks_up t) (runs_up p) t.adds p.adds);
      laid = λ goal.
          let body = p.laid n in
          let test = t.laid body.begin e in
          let begin : Draft = record { role = head; place = place; code = Skip (point test.begin) } in
          let last : Draft = record { role = plain; place = place; code = Skip (point goal) } in
          let more : List Draft = body.drafts ++ last ∷ [] in
          record {
            begin = n;
            drafts = begin ∷ (test.drafts ++ more);
            size = omega (arith, test.size, body.size, one_longer body.drafts last, length-append test.drafts more);
            met = λ g is has lays.
                let one = lays_both g (suc n) m test.drafts more test.size lays.1 in
                let two = lays_both g m e body.drafts (last ∷ []) body.size one.1 in
                whiles (appends lays.0) (test.met g is (has_before p.adds has) one.0) (body.met g is has two.0) (appends two.1.0);
          };
    }

do_piece : {z : Source} (c : Around) (place : Place) (d : Cond) (a : Stmt) (n i e : ℕ) (mine : List Owner) (old : List Owned) (p : Piece z (suc n) i mine old (λ g s u. Lowers g (in_loop c e i) a s u))
    → Fork z (suc i) e p.all (λ g s t f p v. Tests g c.out d s t f p v) → Piece z n (suc e) mine old (λ g s u. Lowers g c (do_loop place a d) s u)
do_piece c place d a n i e mine old p t =
    let up = runs_up p in
    let more_up = forks_up t in
    let wide : Adds i (suc e) [] p.all t.all = adds_within (omega arith) (omega arith) t.adds in
    record {
      all = t.all;
      adds = adds_within (omega arith) (omega arith) (adds_last up (omega (arith, more_up)) p.adds wide);
      laid = λ goal.
          let test = t.laid n e in
          let body = p.laid i in
          let begin : Draft = record { role = head; place = place; code = Skip (point body.begin) } in
          let turn : Draft = record { role = plain; place = place; code = Skip (point test.begin) } in
          let last : Draft = record { role = plain; place = place; code = Skip (point goal) } in
          let more : List Draft = test.drafts ++ last ∷ [] in
          record {
            begin = n;
            drafts = begin ∷ (body.drafts ++ turn ∷ more);
            size = omega (arith, test.size, body.size, one_longer test.drafts last, length-append body.drafts (turn ∷ more));
            met = λ g is has lays.
                let one = lays_both g (suc n) i body.drafts (turn ∷ more) body.size lays.1 in
                let two = lays_both g (suc i) e test.drafts (last ∷ []) test.size one.1.1 in
                dos (appends lays.0) (body.met g is (has_before t.adds has) one.0) (appends one.1.0) (test.met g is has two.0) (appends two.1.0);
          };
    }

for_piece : {z : Source} (c : Around) (h : Head) (a : Stmt) (n k p i e w : ℕ) (mine yours : List Owner) (old : List Owned) (s : Piece z n k mine old (λ g s u. Starts g c.function c.out h.start s u))
    → (t : Fork z (suc k) p s.all (λ g s t f p v. TestsPerhaps g c.out h.condition s t f p v)) → (b : Piece z p i yours t.all (λ g s u. Lowers g (in_loop c e i) a s u))
    → (f : Piece z (suc i) e [] b.all (λ g s u. Finishes g c.out h.last s u)) → Piece z (suc e) w [] f.all (λ g s u. Leaves g c.out nowhere h.variables s u)
    → Piece z n w (mine ++ yours) old (λ g s u. Lowers g c (for_loop h a) s u)
for_piece c h a n k p i e w mine yours old s t b f v =
    let up_s = runs_up s in
    let up_t = forks_up t in
    let up_b = runs_up b in
    let up_f = runs_up f in
    let up_v = runs_up v in
    let to_last : Adds i e [] b.all f.all = adds_within (omega arith) (omega arith) f.adds in
    let to_leave : Adds e w [] f.all v.all = adds_within (omega arith) (omega arith) v.adds in
    let from_turn : Adds i w [] b.all v.all = adds_on (omega (arith, up_f)) (omega (arith, up_v)) to_last to_leave in
    let from_body : Adds p w yours t.all v.all = adds_last up_b (omega (arith, up_f, up_v)) b.adds from_turn in
    let to_test : Adds k p [] s.all t.all = adds_within (omega arith) (omega arith) t.adds in
    let from_head : Adds k w yours s.all v.all = adds_on (omega (arith, up_t)) (omega (arith, up_b, up_f, up_v)) to_test from_body in
    record {
      all = v.all;
      adds = adds_on up_s (omega (arith, up_t, up_b, up_f, up_v)) s.adds from_head;
      laid = λ goal.
          let leave = v.laid goal in
          let last = f.laid k in
          let body = b.laid i in
          let test = t.laid body.begin e in
          let start = s.laid k in
          let begin : Draft = record { role = head; place = h.place; code = Skip (point test.begin) } in
          let turn : Draft = record { role = plain; place = h.place; code = Skip (point last.begin) } in
          let exit : Draft = record { role = plain; place = h.place; code = Skip (point leave.begin) } in
          let rest : List Draft = last.drafts ++ exit ∷ leave.drafts in
          let inner : List Draft = body.drafts ++ turn ∷ rest in
          let more : List Draft = test.drafts ++ inner in
          record {
            begin = start.begin;
            drafts = start.drafts ++ begin ∷ more;
            size = omega (arith, start.size, test.size, body.size, last.size, leave.size, length-append start.drafts (begin ∷ more), length-append test.drafts inner, length-append body.drafts (turn ∷ rest), length-append last.drafts (exit ∷ leave.drafts));
            met = λ g is has lays.
                let one = lays_both g n k start.drafts (begin ∷ more) start.size lays in
                let two = lays_both g (suc k) p test.drafts inner test.size one.1.1 in
                let three = lays_both g p i body.drafts (turn ∷ rest) body.size two.1 in
                let four = lays_both g (suc i) e last.drafts (exit ∷ leave.drafts) last.size three.1.1 in
                let has_f = has_before v.adds has in
                let has_b = has_before f.adds has_f in
                let has_t = has_before b.adds has_b in
                fors (start.met g is (has_before t.adds has_t) one.0) (appends one.1.0) (test.met g is has_t two.0) (body.met g is has_b three.0) (appends three.1.0) (last.met g is has_f four.0) (appends four.1.0) (leave.met g is has four.1.1);
          };
    }

-- ---- what is returned
returning_set : {z : Source} (c : Around) (n m : ℕ) (place : Place) (old : List Owned) (right : Right) (made : In old (result c.out)) → Piece z n m [] old (λ g s u. SetsTo g c.out place (var made.number) right s u)
    → Piece z n m [] old (λ g s u. Lowers g c (returns place (Some right)) s u)
returning_set c n m place old right made p =
    going c.out (knowing {K = λ g s. IsMade g (result c.out) (var made.number) s} (λ g b is has. found made g b n has) p) (λ g s b k (there, sets). returns_value there sets)

returning_call : {z : Source} (table : List ℕ) (c : Around) (n : ℕ) (place : Place) (old : List Owned) (d : Call) (kind : Kind) (made : In old (result c.out)) → Called z n (n + calling table d) c.out place old d (Some kind)
    → Piece z n (n + (calling table d + 2)) [] old (λ g s u. Lowers g c (returns place (Some (result_of d))) s u)
returning_call {z = z} table c n place old d kind made inner =
    let (ret, is) = inner.some kind refl in
    let calls_it = meant {S = λ g s u. Calls g c.out place d s (Some ret) u} inner.piece (λ g s u from x. subst (λ r. Calls g c.out place d s r u) is x) in
    let first_part = knowing {K = λ g s. IsMade g (result c.out) (var made.number) s} (λ g b is has. found made g b n has) calls_it in
    let ends = closing {z = z} (n + calling table d) first_part.all place (λ q. Copy (var made.number) (Var ret) q) (ret ∷ []) in
    let sizes : (n + calling table d) + 2 ≡ n + (calling table d + 2) = omega arith in
    let whole : Piece z n ((n + calling table d) + 2) [] old (λ g s u. IsMade g (result c.out) (var made.number) s × (i : Stage) × Calls g c.out place d s (Some ret) i × Closes g place (λ q. Copy (var made.number) (Var ret) q) (ret ∷ []) i u) =
    then_on first_part ends (λ g s i u from (a, b) e. (a, i, b, e)) in
    up_to sizes (going c.out whole (λ g s b k (a, i, calls_there, e). returns_result a calls_there e.appends e.undefines))

-- ---- statements
abbrev pub here : Source → Function → Here
here z f = record { structs = z.structs; program = z.program; function = f }

fits_here : (z : Source) (f : Function) → Fits z (here z f)
fits_here z f = record { structs = refl; program = refl }

pub record InLoop (loops : Bool) (c : Around) : Type 0 where
  pub loop : IsTrue loops → (l : Loop) × (c.loop ≡ Some l)

together : {z : Source} {n m : ℕ} {old : List Owned} {R : Graph → Stage → Stage → Type 0} (h : ℕ → Owner) (xs ys : List ℕ) → Piece z n m (map h xs ++ map h ys) old R → Piece z n m (map h (xs ++ ys)) old R
together {z = z} {n = n} {m = m} {old = old} {R = R} h xs ys p = subst (λ o. Piece z n m o old R) (both_mapped h xs ys) p

later : {f : Function} {out n m l : ℕ} {made known xs : List ℕ} {old : List Owned} → n ≤ m → Stands f out made known n l old xs → Stands f out made known m l old xs
later less s = record { within = s.within; exact = s.exact; named = s.named; free = λ o q of up high there. s.free o q of (omega (arith, up, less)) high there; answered = s.answered; new = s.new; once = s.once }

module _ {z : Source} {table : List ℕ} {rank : ℕ → ℕ} {bound : ℕ} (all : AllCallable z table rank bound) where
  returning_of : (c : Around) (n : ℕ) (made known : List ℕ) (old : List Owned) (place : Place) (right : Option Right) → Stands c.function c.out made known n (n + returning table right) old [] → IsLowerableValue z.structs known right
      → IsReturned (here z c.function) right → ((m : ℕ) → Contains (value_calls right) m → rank m < bound) → Piece z n (n + returning table right) [] old (λ g s u. Lowers g c (returns place right) s u)
  returning_of c n made known old place None stands lowerable of low =
      up_to (omega arith) (going {R = λ g s u. s ≡ u} c.out (nothing n old (λ g goal is has. refl)) (λ g s b k same. subst (λ r. Lowers g c (returns place None) r (stage b n k)) (sym same) returns_nothing))
  returning_of c n made known old place (Some (expression e)) stands lowerable (kind, is, of) low =
      let there = stands.answered kind is in
      returning_set c n (n + setting (operations e)) place old (expression e) there (setting_expression (here z c.function) known kind n old place (var there.number) e refl stands.named lowerable of)
  returning_of c n made known old place (Some (allocation shape fields)) stands lowerable (kind, is, of) low =
      let there = stands.answered kind is in
      returning_set c n (n + 1) place old (allocation shape fields) there (setting_allocation n old place (var there.number) shape fields lowerable)
  returning_of c n made known old place (Some (result_of d)) stands lowerable (kind, is, of) low =
      let less : n + calling table d ≤ n + (calling table d + 2) = omega arith in
      returning_call table c n place old d kind (stands.answered kind is)
      (called all (here z c.function) c.out n known place old d (Some kind) (fits_here z c.function) stands.named lowerable of (low d.function (zero, omega arith, refl)) (free_before less stands.free))

  mutual
    pub lowering_of : (c : Around) (loops : Bool) (n : ℕ) (made known scope : List ℕ) (old : List Owned) (a : Stmt) → InLoop loops c → Stands c.function c.out made known n (n + stretch table made c.blocks a) old (declared a)
        → IsLowerable z.structs loops known a → IsOfKinds (here z c.function) a → IsScopedIn (length c.function.locals) scope a → ((m : ℕ) → Contains (calls_in a) m → rank m < bound)
        → Piece z n (n + stretch table made c.blocks a) (map (local c.out) (declared a)) old (λ g s u. Lowers g c a s u)
    lowering_of c loops n made known scope old (declaration place items) inside stands lowerable of scoped low =
        meant (declaring_of all (here z c.function) c.out n made known scope place old items (fits_here z c.function) stands lowerable of scoped low) (λ g s u is x. declarations x)
    lowering_of c loops n made known scope old (block xs ss) inside stands lowerable of scoped low =
        let m : ℕ = n + stretch_all table made (xs ++ c.blocks) ss in
        let total : m + leaving xs (made ++ all_declared ss) ≡ n + stretch table made c.blocks (block xs ss) = omega arith in
        let body = all_lowering_of (in_block c xs) loops n made known (xs ++ scope) old ss (record { loop = inside.loop }) (shorter (omega (arith, total)) stands) lowerable of scoped.1 low in
        let now = done (all_declared ss) (omega arith) (omega (arith, total)) stands body.adds in
        up_to total (then_on body (leaving_now m body.all nowhere xs (made ++ all_declared ss) now.exact) (λ g s i u is x y. blocks x y))
    lowering_of c loops n made known scope old empty inside stands lowerable of scoped low = up_to (omega arith) (nothing n old (λ g goal is has. empties))
    lowering_of c loops n made known scope old (simple x) inside stands lowerable of scoped low =
        meant (acting_of all (here z c.function) c.out n known x.place old x.action (fits_here z c.function) stands.named lowerable of low stands.free) (λ g s u is y. simples y)
    lowering_of c loops n made known scope old (free place e) inside stands lowerable of scoped low =
        let x = evaluating {z = z} {out = c.out} {place = place} (here z c.function) known Ptr n old e [] refl stands.named lowerable of in
        let many : length x.temporaries ≡ operations e = omega (arith, x.many) in
        let clear : clearing (length x.temporaries) ≡ clearing (operations e) = ap clearing many in
        up_to (omega (arith, clear)) (then_on x.piece (closing (n + operations e) x.piece.all place (λ q. Free x.operand q) x.temporaries) (λ g s i u is v d. frees v d.appends d.undefines))
    lowering_of c loops n made known scope old (assert place d) inside stands lowerable of scoped low =
        let t = testing_of {z = z} {out = c.out} (here z c.function) known n old d refl stands.named lowerable of in
        up_to (omega arith) (meant (checking c.out plain place Fail d n (n + testing d) old t) (λ g s u is x. asserted x))
    lowering_of c loops n made known scope old (assume place d) inside stands lowerable of scoped low =
        let t = testing_of {z = z} {out = c.out} (here z c.function) known n old d refl stands.named lowerable of in
        up_to (omega arith) (meant (checking c.out stop place End d n (n + testing d) old t) (λ g s u is x. assumed x))
    lowering_of c loops n made known scope old (assume_shape place predicate x args) inside stands lowerable of scoped low =
        let there = stands.named.has x lowerable.0 in
        let (os, are) = arguments_of args stands.named lowerable.1 in
        up_to (omega arith)
        (meant (knowing {K = λ g s. IsMade g (local c.out x) (var there.number) s × AreArguments g c.out s args os} (λ g b is has. (found there g b n has, are g b n has)) (laying n old plain place (λ q. AssumeShape predicate (var there.number) os q)))
        (λ g s u is (k, d). shapes_assumed k.0 k.1 d))
    lowering_of c loops n made known scope old (assert_shape place predicate a args) inside stands lowerable of scoped low =
        let (o, one) = argument_of a stands.named lowerable.0 in
        let (os, are) = arguments_of args stands.named lowerable.1 in
        up_to (omega arith)
        (meant (knowing {K = λ g s. IsArgument g c.out s a o × AreArguments g c.out s args os} (λ g b is has. (one g b n has, are g b n has)) (laying n old plain place (λ q. AssertShape predicate o os q)))
        (λ g s u is (k, d). shapes_asserted k.0 k.1 d))
    lowering_of c loops n made known scope old (assert_empty place) inside stands lowerable of scoped low =
        up_to (omega arith) (meant (laying n old plain place (λ q. AssertEmpty q)) (λ g s u is x. emptiness_asserted x))
    lowering_of c loops n made known scope old (if_only place d a) inside stands lowerable of scoped low =
        let m : ℕ = n + testing d in
        let l : ℕ = m + stretch table made c.blocks a in
        let total : suc l ≡ n + stretch table made c.blocks (if_only place d a) = omega arith in
        let t = testing_of {z = z} {out = c.out} (here z c.function) known n old d refl stands.named lowerable.0 of.0 in
        let now = still (omega arith) (omega (arith, total)) stands t.adds in
        let p = lowering_of c loops m made known scope t.all a inside (shorter (omega (arith, total)) now) lowerable.1 of.1 scoped low in
        up_to total (if_piece c place d a n m l (map (local c.out) (declared a)) old t p)
    lowering_of c loops n made known scope old (if_else place d a b) inside stands lowerable of scoped low =
        let m : ℕ = n + testing d in
        let i : ℕ = m + stretch table made c.blocks a in
        let j : ℕ = i + stretch table (made ++ declared a) c.blocks b in
        let total : suc j ≡ n + stretch table made c.blocks (if_else place d a b) = omega arith in
        let t = testing_of {z = z} {out = c.out} (here z c.function) known n old d refl stands.named lowerable.0 of.0 in
        let now = still (omega arith) (omega (arith, total)) stands t.adds in
        let p = lowering_of c loops m made known scope t.all a inside (first (declared a) (declared b) (omega (arith, total)) now) lowerable.1 of.1 scoped.0 (λ k among. low k (Contains-append_left (calls_in a) (calls_in b) k among)) in
        let then_now = after (declared a) (declared b) (omega arith) (omega (arith, total)) now p.adds in
        let q = lowering_of c loops i (made ++ declared a) (declared a ++ known) scope p.all b inside (shorter (omega (arith, total)) then_now) lowerable.2 of.2 scoped.1 (λ k among. low k (Contains-append_right (calls_in a) (calls_in b) k among)) in
        up_to total (together (local c.out) (declared a) (declared b) (else_piece c place d a b n m i j (map (local c.out) (declared a)) (map (local c.out) (declared b)) old t p q))
    lowering_of c loops n made known scope old (while_loop place d a) inside stands lowerable of scoped low =
        let m : ℕ = suc n + testing d in
        let e : ℕ = m + stretch table made [] a in
        let total : suc e ≡ n + stretch table made c.blocks (while_loop place d a) = omega arith in
        let t = testing_of {z = z} {out = c.out} (here z c.function) known (suc n) old d refl stands.named lowerable.0 of.0 in
        let now = still (omega arith) (omega (arith, total)) (later {m = suc n} (omega arith) stands) t.adds in
        let p = lowering_of (in_loop c e n) true m made known scope t.all a (record { loop = λ yes. (record { exit = e; turn = n }, refl) }) (shorter (omega (arith, total)) now) lowerable.1 of.1 scoped low in
        up_to total (while_piece c place d a n m e (map (local c.out) (declared a)) old t p)
    lowering_of c loops n made known scope old (do_loop place a d) inside stands lowerable of scoped low =
        let i : ℕ = suc n + stretch table made [] a in
        let e : ℕ = suc i + testing d in
        let total : suc e ≡ n + stretch table made c.blocks (do_loop place a d) = omega arith in
        let start = later {m = suc n} (omega arith) stands in
        let p = lowering_of (in_loop c e i) true (suc n) made known scope old a (record { loop = λ yes. (record { exit = e; turn = i }, refl) }) (shorter (omega (arith, total)) start) lowerable.0 of.0 scoped low in
        let now = done (declared a) (omega arith) (omega (arith, total)) start p.adds in
        let t = testing_of {z = z} {out = c.out} (here z c.function) (declared a ++ known) (suc i) p.all d refl now.named lowerable.1 of.1 in
        up_to total (do_piece c place d a n i e (map (local c.out) (declared a)) old p t)
    lowering_of c loops n made known scope old (for_loop h a) inside stands lowerable of scoped low =
        let ds : List ℕ = start_declared h.start in
        let k : ℕ = n + starting table h.start in
        let p : ℕ = suc k + testing_perhaps h.condition in
        let i : ℕ = p + stretch table (made ++ ds) [] a in
        let e : ℕ = suc i + finishing table h.last in
        let w : ℕ = suc e + leaving h.variables ((made ++ ds) ++ declared a) in
        let total : w ≡ n + stretch table made c.blocks (for_loop h a) = omega arith in
        let low_start : (m : ℕ) → Contains (start_calls h.start) m → rank m < bound = λ m among. low m (Contains-append_left (start_calls h.start ++ last_calls h.last) (calls_in a) m (Contains-append_left (start_calls h.start) (last_calls h.last) m among)) in
        let low_last : (m : ℕ) → Contains (last_calls h.last) m → rank m < bound = λ m among. low m (Contains-append_left (start_calls h.start ++ last_calls h.last) (calls_in a) m (Contains-append_right (start_calls h.start) (last_calls h.last) m among)) in
        let low_body : (m : ℕ) → Contains (calls_in a) m → rank m < bound = λ m among. low m (Contains-append_right (start_calls h.start ++ last_calls h.last) (calls_in a) m among) in
        let s = starting_of all (here z c.function) c.out n made known (h.variables ++ scope) old h.start (fits_here z c.function) (first ds (declared a) (omega (arith, total)) stands) lowerable.0 of.0 scoped.1 low_start in
        let started = later {m = suc k} (omega arith) (after ds (declared a) (omega arith) (omega (arith, total)) stands s.adds) in
        let t = testing_maybe {z = z} {out = c.out} (here z c.function) (ds ++ known) (suc k) s.all h.condition refl started.named lowerable.1 of.1 in
        let tested = still (omega arith) (omega (arith, total)) started t.adds in
        let b = lowering_of (in_loop c e i) true p (made ++ ds) (ds ++ known) (h.variables ++ scope) t.all a (record { loop = λ yes. (record { exit = e; turn = i }, refl) }) (shorter (omega (arith, total)) tested) lowerable.3 of.3 scoped.3 low_body in
        let over = later {m = suc i} (omega arith) (done (declared a) (omega arith) (omega (arith, total)) tested b.adds) in
        let f = finishing_of all (here z c.function) c.out (suc i) (ds ++ known) b.all h.last (fits_here z c.function) (still_named b.adds tested.named) (free_before (omega (arith, total)) over.free) lowerable.2 of.2 low_last in
        let last = still (omega arith) (omega (arith, total)) over f.adds in
        let v = leaving_now {z = z} (suc e) f.all nowhere h.variables ((made ++ ds) ++ declared a) last.exact in
        up_to total (together (local c.out) ds (declared a) (for_piece c h a n k p i e w (map (local c.out) ds) (map (local c.out) (declared a)) old s t b f v))
    lowering_of c loops n made known scope old (break_loop place) inside stands lowerable of scoped low =
        let (l, is) = inside.loop lowerable in
        going l.exit (leaving_now n old place c.blocks made stands.exact) (λ g s b k x. breaks is x)
    lowering_of c loops n made known scope old (continue_loop place) inside stands lowerable of scoped low =
        let (l, is) = inside.loop lowerable in
        going l.turn (leaving_now n old place c.blocks made stands.exact) (λ g s b k x. continues is x)
    lowering_of c loops n made known scope old (returns place right) inside stands lowerable of scoped low =
        returning_of c n made known old place right stands lowerable of low

    pub all_lowering_of : (c : Around) (loops : Bool) (n : ℕ) (made known scope : List ℕ) (old : List Owned) (ss : Stmts) → InLoop loops c → Stands c.function c.out made known n (n + stretch_all table made c.blocks ss) old (all_declared ss)
        → AreLowerable z.structs loops known ss → AreOfKinds (here z c.function) ss → AreScopedIn (length c.function.locals) scope ss → ((m : ℕ) → Contains (all_calls_in ss) m → rank m < bound)
        → Piece z n (n + stretch_all table made c.blocks ss) (map (local c.out) (all_declared ss)) old (λ g s u. LowersAll g c ss s u)
    all_lowering_of c loops n made known scope old no_more inside stands lowerable of scoped low = up_to (omega arith) (nothing n old (λ g goal is has. lowers_none))
    all_lowering_of c loops n made known scope old (then a more) inside stands lowerable of scoped low =
        let m : ℕ = n + stretch table made c.blocks a in
        let total : m + stretch_all table (made ++ declared a) c.blocks more ≡ n + stretch_all table made c.blocks (then a more) = omega arith in
        let p = lowering_of c loops n made known scope old a inside (first (declared a) (all_declared more) (omega (arith, total)) stands) lowerable.0 of.0 scoped.0 (λ k among. low k (Contains-append_left (calls_in a) (all_calls_in more) k among)) in
        let now = ended (sym total) (after (declared a) (all_declared more) (omega arith) (omega (arith, total)) stands p.adds) in
        let q = all_lowering_of c loops m (made ++ declared a) (declared a ++ known) scope p.all more inside now lowerable.1 of.1 scoped.1 (λ k among. low k (Contains-append_right (calls_in a) (all_calls_in more) k among)) in
        up_to total (together (local c.out) (declared a) (all_declared more) (on p q (λ g s i u is x y. lowers_next x y)))
