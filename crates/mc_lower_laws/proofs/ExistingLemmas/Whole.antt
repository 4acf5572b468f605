-- Flow graphs of programs exist.
use Rattle.std.proofs.Common.{◌≡◌, ◌≤◌, ◌<◌, ◌+◌, ◌++◌, ◌⊎◌, ℕ, zero, suc, pos, Bool, true, false, List, [], ◌∷◌, Option, Some, None, map, option_map, length, codes, refl, sym, ap, ◌∙◌, arith, inl, inr, Contains}
use Rattle.std.proofs.lemmas.Bool.{cases_eq}
use Rattle.std.proofs.lemmas.List.Elements.{All-weaker}
use Rattle.std.proofs.lemmas.Option.{same_Some, slice_get-map}
use Rattle.std.specs.Prelude.{All, AllPairs, slice_get}
use Rattle.mc_base.specs.declared.ids.PointId.{PointId}
use Rattle.mc_base.specs.declared.plain.Kind.{Kind}
use Rattle.mc_base.specs.declared.plain.Kind.TheVariants.{Int, Ptr}
use Rattle.mc_flow.specs.declared.defs.shapes.Structs.{Structs}
use Rattle.mc_flow.specs.declared.graph.Point.{Point}
use Rattle.mc_flow.specs.declared.instr.Operand.TheVariants.{Const}
use Rattle.mc_flow.specs.declared.instr.Instr.TheVariants.{Skip, Copy, End}
use Rattle.mc_semantics.specs.Resolved.Programs.{Function, Program}
use Rattle.mc_lower_spec.specs.Graphs.{Graph, Owner, local, result, Role, plain, head, merge, stop, Stage, point, var, nowhere, IsPoint, appends, IsMade}
use Rattle.mc_lower_spec.specs.Lowering.{in_body, LowersAll, result_info, Answers, answers_none, answers, IsMain, Falls, falls_in_main, falls, makes, IsLowering}
use Rattle.mc_lower_spec.specs.Length.Lengths.{below, all_declared, stretch_all}
use Rattle.mc_lower_spec.specs.Scopes.{AreScoped}
use Rattle.mc_lower_laws.specs.Lowerable.Lowerable.{IsLowerableFunction, IsLowerableProgram}
use Rattle.mc_lower_laws.specs.Valid.Kinds.{IsWellMade}
use Rattle.mc_lower_laws.specs.Existing.Ranks.{all_calls_in, HasRanks}
use Rattle.mc_lower_laws.proofs.ExistingLemmas.Tables.{Draft, Owned, Lays, Has, In, Adds, AreOnce, Source, Piece, kept_in, lays_both, one_longer, nothing, on, then_on, meant, unmapped_at}
use Rattle.mc_lower_laws.proofs.ExistingLemmas.Values.{laying, knowing, creating, found}
use Rattle.mc_lower_laws.proofs.ExistingLemmas.Choosing.{choosing}
use Rattle.mc_lower_laws.proofs.ExistingLemmas.Actions.{awaited}
use Rattle.mc_lower_laws.proofs.ExistingLemmas.Calls.{Stands, AllCallable, awaited_is, awaited_in}
use Rattle.mc_lower_laws.proofs.ExistingLemmas.Statements.{all_lowering_of}
use Rattle.mc_lower_laws.proofs.ExistingLemmas.Counts.{table, exact}
use Rattle.mc_lower_laws.proofs.ExistingLemmas.Constants.{thresholds_of}
use Rattle.mc_lower_spec.proofs.Owning.{occurrence}
use Rattle.mc_lower_spec.proofs.LengthLemmas.Least.{below_low}

-- ---- `main`
same_codes : (xs ys : List ℕ) → (xs ≡ ys) ⊎ (xs ≡ ys → ⊥)
same_codes [] [] = inl refl
same_codes [] (y ∷ ys) = inr (λ e. cc e)
same_codes (x ∷ xs) [] = inr (λ e. cc e)
same_codes (x ∷ xs) (y ∷ ys) =
    elim (cases_eq x y) [
      | inl same ↦ elim (same_codes xs ys) [
        | inl rest ↦ inl (ap (λ z. z ∷ xs) same ∙ ap (λ z. y ∷ z) rest)
        | inr other ↦ inr (λ e. other (cc e))
      ]
      | inr apart ↦ inr (λ e. apart (cc e))
    ]

is_number : (kind : Option Kind) → (kind ≡ Some Int) ⊎ (kind ≡ Some Int → ⊥)
is_number None = inr (λ e. cc e)
is_number (Some Int) = inl refl
is_number (Some Ptr) = inr (λ e. cc e)

is_main : (f : Function) → IsMain f ⊎ (IsMain f → ⊥)
is_main f =
    elim (same_codes f.name (codes "main")) [
      | inl named ↦ elim (is_number f.result) [
        | inl number ↦ inl (named, number)
        | inr other ↦ inr (λ m. other m.1)
      ]
      | inr other ↦ inr (λ m. other m.0)
    ]

-- ---- functions
-- what is known of a program
pub record IsSound (z : Source) : Type 0 where
  pub made : IsWellMade z.structs z.program
  pub scoped : AreScoped z.program
  pub lowerable : IsLowerableProgram z.structs z.program
  pub ranks : HasRanks z.program

module _ (z : Source) (sound : IsSound z) where
  abbrev counts : List ℕ
  counts = table z.program sound.ranks

  abbrev rank : ℕ → ℕ
  rank = sound.ranks.rank

  -- the body of a function whose calls are of functions of lower rank
  body_of : (bound i : ℕ) (f : Function) → AllCallable z counts rank bound → slice_get z.program.functions i ≡ Some f → ((m : ℕ) → Contains (all_calls_in f.body) m → rank m < bound)
      → (out n : ℕ) (old : List Owned) → Stands f out (below f.parameters) (below f.parameters) n (n + stretch_all counts (below f.parameters) [] f.body) old (all_declared f.body)
      → Piece z n (n + stretch_all counts (below f.parameters) [] f.body) (map (local out) (all_declared f.body)) old (λ g s u. LowersAll g (in_body f out) f.body s u)
  body_of bound i f all is low out n old stands =
      let lowerable = sound.lowerable.functions i f is in
      let scoped = sound.scoped i f is in
      all_lowering_of all (in_body f out) false n (below f.parameters) (below f.parameters) scoped.own old f.body (record { loop = λ never. absurd (cc never) }) stands lowerable.body (sound.made.functions i f is) scoped.body low

  all_callable : (bound : ℕ) → AllCallable z counts rank bound
  all_callable zero = record { callable = λ i f is low. absurd (omega (arith, low)) }
  all_callable (suc bound) =
      record {
        callable = λ i f is low.
            let scoped = sound.scoped i f is in
            record {
              lowerable = sound.lowerable.functions i f is;
              counted = scoped.counted;
              exact = exact z.program sound.ranks i f is;
              body = body_of bound i f (all_callable bound) is (λ m among. let falls = sound.ranks.falls i m f is among in omega (arith, falls, low));
            };
      }

  -- ---- the entry
  answering : (f : Function) (out n : ℕ) → Piece z n n (awaited out f.result) [] (λ g s u. Answers g out f.result s u)
  answering f out n = by_kind f.result
    where
      by_kind : (kind : Option Kind) → Piece z n n (awaited out kind) [] (λ g s u. Answers g out kind s u)
      by_kind None = nothing n [] (λ g goal is has. answers_none)
      by_kind (Some kind) = meant (creating n [] (result out) (result_info kind) (λ i. let at = i.there in cc at)) (λ g s u is a. answers a)

  -- where the point after the body and what sets the result of `main` is
  fallen : (f : Function) → IsMain f ⊎ (IsMain f → ⊥) → ℕ → ℕ
  fallen f (inl main) n = suc n
  fallen f (inr other) n = n

  falls_up : (f : Function) (d : IsMain f ⊎ (IsMain f → ⊥)) (n : ℕ) → n ≤ fallen f d n
  unfolding fallen
  falls_up f (inl main) n = omega arith
  falls_up f (inr other) n = omega arith

  falling : (f : Function) (out n : ℕ) (old : List Owned) → ((k : Kind) → f.result ≡ Some k → In old (result out)) → (d : IsMain f ⊎ (IsMain f → ⊥)) → Piece z n (fallen f d n) [] old (λ g s u. Falls g f out s u)
  unfolding fallen
  falling f out n old made (inl main) =
      let there = made Int main.1 in
      meant (knowing {K = λ g s. IsMade g (result out) (var there.number) s} (λ g b is has. found there g b n has) (laying n old plain nowhere (λ q. Copy (var there.number) (Const (pos 0)) q))) (λ g s u is (k, a). falls_in_main main k a)
  falling f out n old made (inr other) = nothing n old (λ g goal is has. falls other)

  -- what stands between the first and the last point
  record Entered (f : Function) (out : ℕ) (g : Graph) (s u : Stage) : Type 0 where
    answered : Stage
    lowered : Stage
    answers : Answers g out f.result s answered
    lowers : LowersAll g (in_body f out) f.body answered lowered
    falls : Falls g f out lowered u

  stands_first : (f : Function) (out e : ℕ) (all : List Owned) → f.parameters ≡ 0 → IsLowerableFunction z.structs f → e ≤ out → Adds 1 1 (awaited out f.result) [] all → Stands f out (below f.parameters) (below f.parameters) 1 e all (all_declared f.body)
  stands_first f out e all alone lowerable less a =
      let none : (x : ℕ) → Contains (below f.parameters) x → ⊥ = λ x among. let low = below_low f.parameters x among in omega (arith, low, alone) in
      let only : (o : Owner) (q : ℕ) → occurrence o ≡ Some q → In all o → result out ≡ o = λ o q of there. elim (a.only o q of there) [
        | inl early ↦ (let at = early.there in absurd (cc at))
        | inr late ↦ elim late [
          | inl own ↦ awaited_is out f.result o own
          | inr within ↦ absurd (omega (arith, within.0, within.1))
        ]
      ] in
      record {
        within = less;
        exact = record { has = λ x among. absurd (none x among); only = λ x there. let same = only (local out x) out refl there in absurd (cc same) };
        named = record { has = λ x among. absurd (none x among) };
        free = λ o q of up high there. let same : out ≡ q = same_Some out q (ap occurrence (only o q of there) ∙ of) in omega (arith, same, high, less);
        answered = λ k is. a.has (result out) (awaited_in out f.result k is);
        new = λ x among made. none x made;
        once = lowerable.once;
      }

  last_of : Function → ℕ
  last_of f = fallen f (is_main f) (1 + stretch_all counts (below f.parameters) [] f.body)

  inside : (i : ℕ) (f : Function) → slice_get z.program.functions i ≡ Some f → f.parameters ≡ 0
      → Piece z 1 (last_of f) (awaited (last_of f) f.result ++ map (local (last_of f)) (all_declared f.body)) [] (λ g s u. Entered f (last_of f) g s u)
  unfolding last_of
  inside i f is alone =
      let out : ℕ = last_of f in
      let e : ℕ = 1 + stretch_all counts (below f.parameters) [] f.body in
      let a = answering f out 1 in
      let s = stands_first f out e a.all alone (sound.lowerable.functions i f is) (falls_up f (is_main f) e) a.adds in
      let b = body_of (rank i) i f (all_callable (rank i)) is (λ m among. sound.ranks.falls i m f is among) out 1 a.all s in
      let c = falling f out e b.all (λ k same. kept_in b.adds.keeps (s.answered k same)) (is_main f) in
      let rest : Piece z 1 out (map (local out) (all_declared f.body)) a.all (λ g s u. (n : Stage) × LowersAll g (in_body f out) f.body s n × Falls g f out n u) = then_on b c (λ g s i u is x y. (i, x, y)) in
      on a rest (λ g s i u is x (n, y, w). record { answered = i; lowered = n; answers = x; lowers = y; falls = w })

-- ---- the flow graph
same_role : Role → Role → Bool
same_role plain plain = true
same_role head head = true
same_role merge merge = true
same_role stop stop = true
same_role r s = false

role_from : (r s : Role) → same_role r s ≡ true → r ≡ s
unfolding same_role
role_from plain plain e = refl
role_from head head e = refl
role_from merge merge e = refl
role_from stop stop e = refl
role_from r s e = absurd (cc e)

role_same : (r : Role) → same_role r r ≡ true
unfolding same_role
role_same plain = refl
role_same head = refl
role_same merge = refl
role_same stop = refl

record Roles (roles : List Role) (r : Role) : Type 0 where
  list : List PointId
  ascending : AllPairs (λ p q. p.0 < q.0) list
  all : (n : ℕ) → slice_get roles n ≡ Some r → Contains list (point n)
  only : All (λ p. slice_get roles p.0 ≡ Some r) list

roles_of : (roles : List Role) (r : Role) → Roles roles r
roles_of roles r =
    let c = choosing (λ n. point n) (λ (p : PointId). p.0) (λ n. refl) (λ s. same_role s r) 0 roles in
    record {
      list = c.chosen;
      ascending = c.ascending;
      all = λ n there. c.all n n r (omega arith) there (role_same r);
      only = All-weaker (λ (p : PointId). (i : ℕ) × (s : Role) × (p.0 ≡ 0 + i) × (slice_get roles i ≡ Some s) × (same_role s r ≡ true)) (λ p. slice_get roles p.0 ≡ Some r)
          (λ p (i, s, at, there, passes). let here : p.0 ≡ i = omega (arith, at) in ap (λ k. slice_get roles k) here ∙ there ∙ ap (λ x. Some x) (role_from s r passes)) c.chosen c.only;
    }

abbrev point_of : Draft → Point
point_of d = record { code = d.code; place = d.place }

graph_with : (z : Source) (drafts : List Draft) (all : List Owned) → Graph
graph_with z drafts all =
    let roles : List Role = map (λ (d : Draft). d.role) drafts in
    let points : List Point = map point_of drafts in
    let heads = roles_of roles head in
    let merges = roles_of roles merge in
    let stops = roles_of roles stop in
    let thresholds = thresholds_of points in
    record {
      program = z.program;
      flow = record {
        points = points;
        vars = map (λ (v : Owned). v.info) all;
        heads = heads.list;
        merges = merges.list;
        thresholds = thresholds.0;
        structs = z.structs;
      };
      owners = map (λ (v : Owned). v.owner) all;
      roles = roles;
      stops = stops.list;
    }

mapped_at : {X Y : Type 0} (h : X → Y) (xs : List X) (i : ℕ) (x : X) → slice_get xs i ≡ Some x → slice_get (map h xs) i ≡ Some (h x)
mapped_at h xs i x is = slice_get-map h xs i ∙ ap (option_map h) is

long_map : {X Y : Type 0} (h : X → Y) (xs : List X) → length (map h xs) ≡ length xs
long_map h [] = refl
long_map h (x ∷ xs) = ap suc (long_map h xs)

lays_all : (g : Graph) (n : ℕ) (ds : List Draft) → ((i k : ℕ) (d : Draft) → k ≡ n + i → slice_get ds i ≡ Some d → IsPoint g k d.role d.place d.code) → Lays g n ds
lays_all g n [] at = tt
lays_all g n (d ∷ ds) at = (at 0 n d (omega arith) refl, lays_all g (suc n) ds (λ i k e same is. at (suc i) k e (omega (arith, same)) is))

lowered_by : (z : Source) (sound : IsSound z) (f : Function) (out : ℕ) (mine : List Owner) → slice_get z.program.functions z.program.entry ≡ Some f → f.parameters ≡ 0 → (p : Piece z 1 out mine [] (λ g s u. Entered z sound f out g s u))
    → (g : Graph) × (g.program ≡ z.program) × (g.flow.structs ≡ z.structs) × (count : ℕ) × IsLowering g f out count
unfolding graph_with
lowered_by z sound f out mine there alone p =
    let l = p.laid out in
    let first : Draft = record { role = plain; place = nowhere; code = Skip (point l.begin) } in
    let last : Draft = record { role = plain; place = nowhere; code = End } in
    let drafts : List Draft = first ∷ (l.drafts ++ last ∷ []) in
    let g : Graph = graph_with z drafts p.all in
    let many : length drafts ≡ suc out = omega (arith, l.size, one_longer l.drafts last) in
    let lays : Lays g 0 drafts = lays_all g 0 drafts (λ i k d same is.
    let at : k ≡ i = omega (arith, same) in
    let here : slice_get drafts k ≡ Some d = ap (λ n. slice_get drafts n) at ∙ is in
    record { there = mapped_at point_of drafts k d here; is = mapped_at (λ (d : Draft). d.role) drafts k d here }) in
    let has : Has g p.all = record { owners = mapped_at (λ (v : Owned). v.owner) p.all; infos = mapped_at (λ (v : Owned). v.info) p.all } in
    let parts = lays_both g 1 out l.drafts (last ∷ []) l.size lays.1 in
    let entered = l.met g (record { program = refl; structs = refl }) has parts.0 in
    let once : AreOnce p.all = p.adds.once (λ i j v w is. absurd (cc is)) in
    let roles : List Role = map (λ (d : Draft). d.role) drafts in
    let heads = roles_of roles head in
    let merges = roles_of roles merge in
    let stops = roles_of roles stop in
    let thresholds = thresholds_of (map point_of drafts) in (
      g,
      refl,
      refl,
      length p.all,
      record {
        there = there;
        alone = alone;
        made = makes (appends lays.0) entered.answers entered.lowers entered.falls parts.1.0;
        points = long_map point_of drafts ∙ many;
        roles = long_map (λ (d : Draft). d.role) drafts ∙ many;
        variables = long_map (λ (v : Owned). v.info) p.all;
        owners = long_map (λ (v : Owned). v.owner) p.all;
        once = λ owner v w is is_too.
            let (a, a_there, a_is) = unmapped_at (λ (v : Owned). v.owner) p.all v owner is in
            let (b, b_there, b_is) = unmapped_at (λ (v : Owned). v.owner) p.all w owner is_too in
            once v w a b a_there b_there (a_is ∙ sym b_is);
        heads = record { ascending = heads.ascending; all = heads.all; only = heads.only };
        merges = record { ascending = merges.ascending; all = merges.all; only = merges.only };
        stops = record { ascending = stops.ascending; all = stops.all; only = stops.only };
        thresholds = thresholds.1;
      },
    )

pub flow_graph_of : (structs : Structs) (p : Program) → IsWellMade structs p → AreScoped p → IsLowerableProgram structs p → HasRanks p
    → (g : Graph) × (entry : Function) × (out : ℕ) × (count : ℕ) × (g.program ≡ p) × (g.flow.structs ≡ structs) × IsLowering g entry out count
flow_graph_of structs p made scoped lowerable ranks =
    let z : Source = record { program = p; structs = structs } in
    let sound : IsSound z = record { made = made; scoped = scoped; lowerable = lowerable; ranks = ranks } in
    let (f, there, alone) = lowerable.entry in
    let out : ℕ = last_of z sound f in
    let (g, program, structs_too, count, lowering) = lowered_by z sound f out (awaited out f.result ++ map (local out) (all_declared f.body)) there alone (inside z sound p.entry f there alone) in
    (g, f, out, count, program, structs_too, lowering)
