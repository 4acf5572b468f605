-- Folding is judged by its instances.
use Rattle.std.proofs.Common.{◌≡◌, ◌<◌, ◌++◌, ℕ, suc, List, [], ◌∷◌, Bool, true, false, Option, Some, None, refl, ap, sym, ◌∙◌, eqb-true, eq-eqb, arith, length, take, drop, map, length-append}
use Rattle.std.proofs.lemmas.Grind.{common_steps}
use Rattle.std.specs.Prelude.{◌==◌, ◌&&◌, not, Ok, nat_lt, slice_get, remove, if◌then◌else◌}
use Rattle.mc_base.specs.declared.ids.EdgeId.{EdgeId}
use Rattle.mc_base.specs.declared.ids.NodeId.{NodeId}
use Rattle.mc_base.specs.declared.ids.PredId.{PredId}
use Rattle.mc_base.specs.declared.ids.StructId.{StructId}
use Rattle.mc_flow.specs.declared.defs.rules.Call.{Call}
use Rattle.mc_flow.specs.declared.defs.rules.Def.{Def}
use Rattle.mc_flow.specs.declared.defs.rules.Rule.{Rule}
use Rattle.mc_flow.specs.Defs.Instances.{node_of, atom_of}
use Rattle.mc_state.specs.declared.graph.edge.Edge.{Edge}
use Rattle.mc_state.specs.declared.graph.edge.Edge.TheVariants.{Block, Ind, Seg}
use Rattle.mc_state.specs.Graph.Graph.{Edges, edge_with}
use Rattle.mc_state.specs.declared.line.FoldInd.{FoldInd}
use Rattle.mc_state.specs.declared.line.FoldSeg.{FoldSeg}
use Rattle.mc_state.specs.State.{State}
use Rattle.mc_state.specs.Facts.{AreAllEqual, Derives}
use Rattle.mc_state.specs.Fits.{IsBounded}
use Rattle.mc_state.specs.Premises.{then_give}
use Rattle.mc_state.specs.Lists.{all_both, on_some}
use Rattle.mc_state.specs.Known.{Test, Tells, is_false, has_kind}
use Rattle.mc_state.specs.Named.{others, named_ids, are_named, Looked}
use Rattle.mc_state.proofs.ListLemmas.{both_from, both_to}
use Rattle.mc_state.proofs.Numbered.{need_ok, have_ok, then_ok}
use Rattle.mc_state.proofs.Tests.{not_false, is_sound, equal_from, equal_to, and_both, and_yes, each_from, each_to}
use Rattle.mc_state.proofs.Named.{BlockIs, named_from, named_to, looked_count}
use Rattle.mc_rules_logic.specs.Fold.Folded.{as_ind, FoldsInd, FoldsSeg, Matches, folded, FieldsMatch, BlockMatches, BlocksMatch, CallMatches, CallsMatch}
use Rattle.mc_rules_logic.specs.Fold.Judges.{with_fold, block_fits, fits_rule, is_named, is_named_too, is_body, body_fits, is_call, is_call_at, knows_rule, matching, arguments, nothing, own_call, folding_ind, folding_seg}
use Rattle.mc_rules_logic.specs.Fold.JudgedLaws.{FoldIndIsJudged, FoldSegIsJudged}
use Rattle.mc_rules_logic.proofs.FoldLemmas.Judging.{kinds_from, kinds_to}

-- the first names, and what is after them
parts_of : (n : ℕ) (names : List NodeId) → n < length names → names ≡ node_of names 0 ∷ (take n (drop 1 names) ++ drop n (drop 1 names))
parts_of n [] less = absurd (omega arith)
parts_of n (x ∷ names) less = ap (λ l. x ∷ l) (sym (take_drop n names)) where
  take_drop : (n : ℕ) (l : List NodeId) → take n l ++ drop n l ≡ l
  take_drop n l = grind (arith, common_steps)

first_of_parts : (names : List NodeId) (this : NodeId) (args more : List NodeId) → names ≡ this ∷ (args ++ more) → node_of names 0 ≡ this
first_of_parts names this args more e = ap (λ l. node_of l 0) e

take_front : (args more : List NodeId) → take (length args) (args ++ more) ≡ args
take_front args more = grind (arith, common_steps)

args_of_parts : (n : ℕ) (names : List NodeId) (this : NodeId) (args more : List NodeId) → names ≡ this ∷ (args ++ more) → length args ≡ n → take n (drop 1 names) ≡ args
args_of_parts n names this args more e count =
    ap (λ l. take n (drop 1 l)) e ∙ ap (λ k. take k (args ++ more)) (sym count) ∙ take_front args more

long_enough : (n : ℕ) (names : List NodeId) (this : NodeId) (args more : List NodeId) → names ≡ this ∷ (args ++ more) → length args ≡ n → n < length names
long_enough n names this args more e count = let all : length names ≡ length (this ∷ (args ++ more)) = ap length e in grind (arith, length-append)

lt_true : (a b : ℕ) → nat_lt a b ≡ true → a < b
lt_true a b e = grind arith

true_lt : (a b : ℕ) → a < b → nat_lt a b ≡ true
true_lt a b e = grind arith

module _ (know : Test) (s : State) (tells : Tells know s) (names : List NodeId) where
  nodes_from : (args : List ℕ) (ns : List NodeId) → all_both (is_named know names) args ns ≡ true → AreAllEqual s (map (node_of names) args) ns
  nodes_from = both_from (is_named know names) (λ args ns. AreAllEqual s (map (node_of names) args) ns) tt (λ a n as' ns e p. (equal_from know s tells (node_of names a) n e, p))

  nodes_to : (args : List ℕ) (ns : List NodeId) → AreAllEqual s (map (node_of names) args) ns → all_both (is_named know names) args ns ≡ true
  nodes_to = both_to (is_named know names) (λ args ns. AreAllEqual s (map (node_of names) args) ns) (λ a n as' ns p. (equal_to know s tells (node_of names a) n p.0, p.1)) (λ n ns p. p) (λ a as' p. p)

  field_from : (name : ℕ) (field : Option NodeId) (contents : List ℕ) (fields : List (Option NodeId)) → is_named_too know names name field ≡ true → FieldsMatch s names contents fields → FieldsMatch s names (name ∷ contents) (field ∷ fields)
  field_from name None contents fields e p = absurd (cc e)
  field_from name (Some n) contents fields e p = (equal_from know s tells (node_of names name) n e, p)

  fields_from : (contents : List ℕ) (fields : List (Option NodeId)) → all_both (is_named_too know names) contents fields ≡ true → FieldsMatch s names contents fields
  fields_from = both_from (is_named_too know names) (FieldsMatch s names) tt (λ a n as' ns e p. field_from a n as' ns e p)

  field_to : (name : ℕ) (field : Option NodeId) (contents : List ℕ) (fields : List (Option NodeId)) → FieldsMatch s names (name ∷ contents) (field ∷ fields) → (is_named_too know names name field ≡ true) × FieldsMatch s names contents fields
  field_to name None contents fields p = absurd p
  field_to name (Some n) contents fields p = (equal_to know s tells (node_of names name) n p.0, p.1)

  fields_to : (contents : List ℕ) (fields : List (Option NodeId)) → FieldsMatch s names contents fields → all_both (is_named_too know names) contents fields ≡ true
  fields_to = both_to (is_named_too know names) (FieldsMatch s names) (λ a n as' ns p. field_to a n as' ns p) (λ n ns p. p) (λ a as' p. p)

  body_from : (shape : StructId) (contents : List ℕ) (e : Edge) → is_body know names shape contents e ≡ true → BlockMatches s names shape contents e
  body_from shape contents (Ind at pred args) e = absurd (cc e)
  body_from shape contents (Seg at args pred stop ends) e = absurd (cc e)
  body_from shape contents (Block at own fields) e =
      let both = and_both (own.0 == shape.0 && is_named know names 0 at) (all_both (is_named_too know names) contents fields) e in
      let one = and_both (own.0 == shape.0) (is_named know names 0 at) both.0 in
      (ap (λ n. record { 0 = n }) (eqb-true own.0 shape.0 one.0), equal_from know s tells (node_of names 0) at one.1, fields_from contents fields both.1)

  body_to : (shape : StructId) (contents : List ℕ) (e : Edge) → BlockMatches s names shape contents e → is_body know names shape contents e ≡ true
  body_to shape contents (Ind at pred args) p = absurd p
  body_to shape contents (Seg at args pred stop ends) p = absurd p
  body_to shape contents (Block at own fields) p =
      and_yes (own.0 == shape.0 && is_named know names 0 at) (all_both (is_named_too know names) contents fields)
      (and_yes (own.0 == shape.0) (is_named know names 0 at) (eq-eqb own.0 shape.0 (ap (λ (i : StructId). i.0) p.0)) (equal_to know s tells (node_of names 0) at p.1))
      (fields_to contents fields p.2)

  call_from : (call : Call) (e : Edge) → is_call know names call e ≡ true → CallMatches s names call e
  call_from call (Block at own fields) e = absurd (cc e)
  call_from call (Seg at args pred stop ends) e = absurd (cc e)
  call_from call (Ind at pred args) e =
      let both = and_both (pred.0 == call.pred.0 && is_named know names call.at at) (all_both (is_named know names) call.args args) e in
      let one = and_both (pred.0 == call.pred.0) (is_named know names call.at at) both.0 in
      (ap (λ n. record { 0 = n }) (eqb-true pred.0 call.pred.0 one.0), equal_from know s tells (node_of names call.at) at one.1, nodes_from call.args args both.1)

  call_to : (call : Call) (e : Edge) → CallMatches s names call e → is_call know names call e ≡ true
  call_to call (Block at own fields) p = absurd p
  call_to call (Seg at args pred stop ends) p = absurd p
  call_to call (Ind at pred args) p =
      and_yes (pred.0 == call.pred.0 && is_named know names call.at at) (all_both (is_named know names) call.args args)
      (and_yes (pred.0 == call.pred.0) (is_named know names call.at at) (eq-eqb pred.0 call.pred.0 (ap (λ (i : PredId). i.0) p.0)) (equal_to know s tells (node_of names call.at) at p.1))
      (nodes_to call.args args p.2)

  calls_from : (es : Edges) (calls : List Call) (ids : List EdgeId) (inds : List Edge) → all_both (is_call_at know es names) calls ids ≡ true → Looked es ids inds → CallsMatch s names calls inds
  calls_from es [] [] [] e l = tt
  calls_from es [] [] (x ∷ inds) e l = absurd l
  calls_from es [] (id ∷ ids) inds e l = absurd (cc e)
  calls_from es (call ∷ calls) [] inds e l = absurd (cc e)
  calls_from es (call ∷ calls) (id ∷ ids) [] e l = absurd l
  calls_from es (call ∷ calls) (id ∷ ids) (x ∷ inds) e l =
      let both = and_both (is_call_at know es names call id) (all_both (is_call_at know es names) calls ids) e in
      let here : is_call know names call x ≡ true = sym (ap (on_some (is_call know names call)) l.0) ∙ both.0 in
      (call_from call x here, calls_from es calls ids inds both.1 l.1)

  calls_to : (es : Edges) (calls : List Call) (ids : List EdgeId) (inds : List Edge) → CallsMatch s names calls inds → Looked es ids inds → all_both (is_call_at know es names) calls ids ≡ true
  calls_to es [] [] inds p l = refl
  calls_to es [] (id ∷ ids) [] p l = absurd l
  calls_to es [] (id ∷ ids) (x ∷ inds) p l = absurd p
  calls_to es (call ∷ calls) [] [] p l = absurd p
  calls_to es (call ∷ calls) [] (x ∷ inds) p l = absurd l
  calls_to es (call ∷ calls) (id ∷ ids) [] p l = absurd p
  calls_to es (call ∷ calls) (id ∷ ids) (x ∷ inds) p l =
      and_yes (is_call_at know es names call id) (all_both (is_call_at know es names) calls ids)
      (ap (on_some (is_call know names call)) l.0 ∙ call_to call x p.0) (calls_to es calls ids inds p.1 l.1)

  calls_count : (calls : List Call) (inds : List Edge) → CallsMatch s names calls inds → length calls ≡ length inds
  calls_count [] [] p = refl
  calls_count [] (x ∷ inds) p = absurd p
  calls_count (call ∷ calls) [] p = absurd p
  calls_count (call ∷ calls) (x ∷ inds) p = ap suc (calls_count calls inds p.1)

  bodies_from : (es : Edges) (shape : Option StructId) (contents : List ℕ) (block : Option EdgeId) (blocks : List Edge) → block_fits block shape ≡ true → body_fits know es names shape contents block ≡ true → BlockIs es block blocks → BlocksMatch s names shape contents blocks
  bodies_from es None contents None blocks f e b = rw b tt
  bodies_from es None contents (Some id) blocks f e b = absurd (cc f)
  bodies_from es (Some shape) contents None blocks f e b = absurd (cc f)
  bodies_from es (Some shape) contents (Some id) blocks f e b =
      let here : is_body know names shape contents b.0 ≡ true = sym (ap (on_some (is_body know names shape contents)) b.2) ∙ e in
      rw b.1 (body_from shape contents b.0 here)

  bodies_to : (es : Edges) (shape : Option StructId) (contents : List ℕ) (block : Option EdgeId) (blocks : List Edge) → BlocksMatch s names shape contents blocks → BlockIs es block blocks → (block_fits block shape ≡ true) × (body_fits know es names shape contents block ≡ true)
  bodies_to es None contents None blocks p b = (refl, refl)
  bodies_to es None contents (Some id) [] p b = absurd (cc (b.1))
  bodies_to es None contents (Some id) (x ∷ blocks) p b = absurd p
  bodies_to es (Some shape) contents None [] p b = absurd p
  bodies_to es (Some shape) contents None (x ∷ blocks) p b = absurd (cc b)
  bodies_to es (Some shape) contents (Some id) [] p b = absurd p
  bodies_to es (Some shape) contents (Some id) (x ∷ []) p b =
      let same : edge_with es id ≡ Some x = let one : x ≡ b.0 = cc (b.1) in b.2 ∙ ap (λ e. Some e) (sym one) in
      (refl, ap (on_some (is_body know names shape contents)) same ∙ body_to shape contents x p)
  bodies_to es (Some shape) contents (Some id) (x ∷ y ∷ blocks) p b = absurd p

-- what premises that hold give: the premises of the rules, with the definition and what stays open
pub record Found {Open : Type 0} (know : Test) (defs : List Def) (s : State) (fold : FoldInd) (stays : Rule → Option Open) (calls : Rule → List Call) (m : Def × Open) : Type 0 where
  pub consistent : not (is_false know) ≡ true
  pub body : Matches defs s fold calls
  pub def : body.def ≡ m.0
  pub left : stays body.by ≡ Some m.1
  pub rest : body.left ≡ others s.graph.edges (named_ids fold.block fold.edges)
  pub this : body.this ≡ node_of fold.names 0
  pub args : body.args ≡ arguments m.0 fold.names

module _ {Open : Type 0} (know : Test) (defs : List Def) (fold : FoldInd) (stays : Rule → Option Open) (calls : Rule → List Call) (s : State) (tells : Tells know s) where
  match_from : (m : Def × Open) → matching know defs fold stays calls s ≡ Ok m → Found know defs s fold stays calls m
  match_from m e =
      let es = s.graph.edges in
      let two = need_ok 2 _ _ m e in
      let three = need_ok 3 (are_named es fold.block fold.edges) _ m two.1 in
      let four = have_ok 4 (slice_get defs fold.pred.0) _ m three.1 in
      let def = four.0 in
      let listed = have_ok 4 (slice_get def.rules fold.rule) _ m four.2 in
      let by = listed.0 in
      let kept = have_ok 4 (stays by) _ m listed.2 in
      let fits = need_ok 4 (fits_rule s.kinds def by (calls by) fold.names fold.block fold.edges) _ m kept.2 in
      let five = need_ok 5 (body_fits know es fold.names by.block by.contents fold.block) _ m fits.1 in
      let six = need_ok 6 (all_both (is_call_at know es fold.names) (calls by) fold.edges) _ m five.1 in
      let seven = need_ok 7 (knows_rule know fold.names by) _ m six.1 in
      let n = named_from es fold.block fold.edges three.0 in
      let f = and_both (nat_lt (length def.params) (length fold.names) && all_both (has_kind s.kinds) by.names fold.names && length (calls by) == length fold.edges) (block_fits fold.block by.block) fits.0 in
      let g = and_both (nat_lt (length def.params) (length fold.names) && all_both (has_kind s.kinds) by.names fold.names) (length (calls by) == length fold.edges) f.0 in
      let h = and_both (nat_lt (length def.params) (length fold.names)) (all_both (has_kind s.kinds) by.names fold.names) g.0 in
      let less = lt_true (length def.params) (length fold.names) h.0 in
      let is : ◌≡◌ {A = Def × Open} (def, kept.0) m = cc seven.1 in
      record {
        consistent = two.0;
        body = record {
          blocks = n.0;
          inds = n.1;
          left = others es (named_ids fold.block fold.edges);
          picks = n.2.picks;
          one_each = looked_count es fold.edges n.1 n.2.looked;
          def = def;
          defined = four.1;
          by = by;
          listed = listed.1;
          kinds = kinds_from s.kinds by.names fold.names h.1;
          this = node_of fold.names 0;
          args = arguments def fold.names;
          others = drop (length def.params) (drop 1 fold.names);
          front = parts_of (length def.params) fold.names less;
          count = count_args (length def.params) fold.names less;
          block_fits = bodies_from know s tells fold.names es by.block by.contents fold.block n.0 f.1 five.0 n.2.block_is;
          calls_fit = calls_from know s tells fold.names es (calls by) fold.edges n.1 six.0 n.2.looked;
          atoms = each_from (λ a. know (atom_of fold.names a)) (λ a. Derives s (atom_of fold.names a)) (λ a e. (tells (atom_of fold.names a)).0 e) by.atoms seven.0;
        };
        def = ap (λ (x : Def × Open). x.0) is;
        left = kept.1 ∙ ap (λ (x : Def × Open). Some x.1) is;
        rest = refl;
        this = refl;
        args = ap (λ (x : Def × Open). arguments x.0 fold.names) is;
      } where
        count_args : (n : ℕ) (names : List NodeId) → n < length names → length (take n (drop 1 names)) ≡ n
        count_args n names less = grind (arith, common_steps)

  match_to : IsBounded s → not (is_false know) ≡ true → (m : Matches defs s fold calls) (left : Open) → stays m.by ≡ Some left → matching know defs fold stays calls s ≡ Ok (m.def, left)
  match_to bounded consistent m left kept =
      let es = s.graph.edges in
      let n = named_to es s.graph.next fold.block fold.edges m.blocks m.inds m.left bounded.ids m.picks m.one_each in
      let named : are_named es fold.block fold.edges ≡ true = n.test in
      let defined : slice_get defs fold.pred.0 ≡ Some m.def = m.defined in
      let listed : slice_get m.def.rules fold.rule ≡ Some m.by = m.listed in
      let bodies = bodies_to know s tells fold.names es m.by.block m.by.contents fold.block m.blocks m.block_fits n.block_is in
      let less : nat_lt (length m.def.params) (length fold.names) ≡ true = true_lt (length m.def.params) (length fold.names) (long_enough (length m.def.params) fold.names m.this m.args m.others m.front m.count) in
      let counts : (length (calls m.by) == length fold.edges) ≡ true = eq-eqb (length (calls m.by)) (length fold.edges) (calls_count know s tells fold.names (calls m.by) m.inds m.calls_fit ∙ m.one_each) in
      let one = and_yes (nat_lt (length m.def.params) (length fold.names)) (all_both (has_kind s.kinds) m.by.names fold.names) less (kinds_to s.kinds m.by.names fold.names m.kinds) in
      let two = and_yes (nat_lt (length m.def.params) (length fold.names) && all_both (has_kind s.kinds) m.by.names fold.names) (length (calls m.by) == length fold.edges) one counts in
      let fits : fits_rule s.kinds m.def m.by (calls m.by) fold.names fold.block fold.edges ≡ true = and_yes (nat_lt (length m.def.params) (length fold.names) && all_both (has_kind s.kinds) m.by.names fold.names && length (calls m.by) == length fold.edges) (block_fits fold.block m.by.block) two bodies.0 in
      let body : body_fits know es fold.names m.by.block m.by.contents fold.block ≡ true = bodies.1 in
      let matched : all_both (is_call_at know es fold.names) (calls m.by) fold.edges ≡ true = calls_to know s tells fold.names es (calls m.by) fold.edges m.inds m.calls_fit n.looked in
      let atoms : knows_rule know fold.names m.by ≡ true = each_to (λ a. know (atom_of fold.names a)) (λ a. Derives s (atom_of fold.names a)) (λ a d. (tells (atom_of fold.names a)).1 d) m.by.atoms m.atoms in
      rw consistent (rw named (rw defined (rw listed (rw kept (rw fits (rw body (rw matched (rw atoms refl))))))))

  -- what is left, and the start and the arguments, are those of the judge
  match_parts : IsBounded s → (m : Matches defs s fold calls) → (m.left ≡ others s.graph.edges (named_ids fold.block fold.edges)) × (node_of fold.names 0 ≡ m.this) × (arguments m.def fold.names ≡ m.args)
  match_parts bounded m =
      let n = named_to s.graph.edges s.graph.next fold.block fold.edges m.blocks m.inds m.left bounded.ids m.picks m.one_each in
      (n.left_is, first_of_parts fold.names m.this m.args m.others m.front, args_of_parts (length m.def.params) fold.names m.this m.args m.others m.front m.count)

module _ (know : Test) (defs : List Def) (fold : FoldInd) (s : State) (tells : Tells know s) where
  abbrev ind_of_match : Def × Unit {0} → List State
  ind_of_match m = with_fold s (named_ids fold.block fold.edges) (Ind (node_of fold.names 0) fold.pred (arguments m.0 fold.names)) ∷ []

  ind_from : (next : List State) → folding_ind know defs fold s ≡ Ok next → FoldsInd defs fold s next
  ind_from next e =
      let t = then_ok ind_of_match (matching know defs fold nothing (λ by. by.calls) s) next e in
      let f = match_from know defs fold nothing (λ by. by.calls) s tells t.0 t.1 in
      record {
        consistent = not_false know s tells f.consistent;
        body = f.body;
        gives = t.2
            ∙ ap (λ l. folded s l (Ind (node_of fold.names 0) fold.pred (arguments t.0.0 fold.names)) ∷ []) (sym f.rest)
            ∙ ap (λ n. folded s f.body.left (Ind n fold.pred (arguments t.0.0 fold.names)) ∷ []) (sym f.this)
            ∙ ap (λ a. folded s f.body.left (Ind f.body.this fold.pred a) ∷ []) (sym f.args);
      }

  ind_to : IsBounded s → (next : List State) → FoldsInd defs fold s next → folding_ind know defs fold s ≡ Ok next
  ind_to bounded next i =
      let m = i.body in
      let parts = match_parts know defs fold nothing (λ by. by.calls) s tells bounded m in
      let judged = match_to know defs fold nothing (λ by. by.calls) s tells bounded (is_sound know s tells i.consistent) m tt refl in
      let gives : ◌≡◌ {A = List State} (ind_of_match (m.def, tt)) next =
      ap (λ l. folded s l (Ind (node_of fold.names 0) fold.pred (arguments m.def fold.names)) ∷ []) (sym parts.0)
      ∙ ap (λ n. folded s m.left (Ind n fold.pred (arguments m.def fold.names)) ∷ []) parts.1
      ∙ ap (λ a. folded s m.left (Ind m.this fold.pred a) ∷ []) parts.2
      ∙ sym i.gives in
      ap (then_give ind_of_match) judged ∙ ap (λ n. Ok n) gives

-- the call with a number, where it is of the predicate
own_from : (pred : PredId) (o : Option Call) (call : Call) → own_call pred o ≡ Some call → (o ≡ Some call) × (call.pred ≡ pred)
own_from pred None call e = absurd (cc e)
own_from pred (Some c) call e = at (c.pred.0 == pred.0) refl e
  where
    at : (b : Bool) → (c.pred.0 == pred.0) ≡ b → (if b then Some c else None) ≡ Some call → (◌≡◌ {A = Option Call} (Some c) (Some call)) × (call.pred ≡ pred)
    at true is e =
        let one : c.pred ≡ pred = ap (λ n. record { 0 = n }) (eqb-true c.pred.0 pred.0 is) in
        let same : c ≡ call = cc e in
        (e, ap (λ (x : Call). x.pred) (sym same) ∙ one)
    at false is e = absurd (cc e)

own_to : (pred : PredId) (o : Option Call) (call : Call) → o ≡ Some call → call.pred ≡ pred → own_call pred o ≡ Some call
own_to pred o call e is =
    let test : (call.pred.0 == pred.0) ≡ true = eq-eqb call.pred.0 pred.0 (ap (λ (p : PredId). p.0) is) in
    ap (own_call pred) e ∙ ap (λ b. if b then Some call else None) test

module _ (know : Test) (defs : List Def) (fold : FoldSeg) (s : State) (tells : Tells know s) where
  abbrev seg_of_match : Def × Call → List State
  seg_of_match m =
      with_fold s (named_ids (Some fold.block) fold.edges) (Seg (node_of fold.names 0) (arguments m.0 fold.names) fold.pred (node_of fold.names m.1.at) (map (node_of fold.names) m.1.args)) ∷ []

  abbrev open_of : Rule → Option Call
  open_of by = own_call fold.pred (slice_get by.calls fold.call)

  abbrev other_calls : Rule → List Call
  other_calls by = remove by.calls fold.call

  seg_from : (next : List State) → folding_seg know defs fold s ≡ Ok next → FoldsSeg defs fold s next
  seg_from next e =
      let t = then_ok seg_of_match (matching know defs (as_ind fold) open_of other_calls s) next e in
      let f = match_from know defs (as_ind fold) open_of other_calls s tells t.0 t.1 in
      let own = own_from fold.pred (slice_get f.body.by.calls fold.call) t.0.1 f.left in
      let stop = node_of fold.names t.0.1.at in
      let ends = map (node_of fold.names) t.0.1.args in
      record {
        consistent = not_false know s tells f.consistent;
        body = f.body;
        open_call = t.0.1;
        called = own.0;
        own = own.1;
        gives = t.2
            ∙ ap (λ l. folded s l (Seg (node_of fold.names 0) (arguments t.0.0 fold.names) fold.pred stop ends) ∷ []) (sym f.rest)
            ∙ ap (λ n. folded s f.body.left (Seg n (arguments t.0.0 fold.names) fold.pred stop ends) ∷ []) (sym f.this)
            ∙ ap (λ a. folded s f.body.left (Seg f.body.this a fold.pred stop ends) ∷ []) (sym f.args);
      }

  seg_to : IsBounded s → (next : List State) → FoldsSeg defs fold s next → folding_seg know defs fold s ≡ Ok next
  seg_to bounded next i =
      let m = i.body in
      let parts = match_parts know defs (as_ind fold) open_of other_calls s tells bounded m in
      let judged = match_to know defs (as_ind fold) open_of other_calls s tells bounded (is_sound know s tells i.consistent) m i.open_call (own_to fold.pred (slice_get m.by.calls fold.call) i.open_call i.called i.own) in
      let stop = node_of fold.names i.open_call.at in
      let ends = map (node_of fold.names) i.open_call.args in
      let gives : ◌≡◌ {A = List State} (seg_of_match (m.def, i.open_call)) next =
      ap (λ l. folded s l (Seg (node_of fold.names 0) (arguments m.def fold.names) fold.pred stop ends) ∷ []) (sym parts.0)
      ∙ ap (λ n. folded s m.left (Seg n (arguments m.def fold.names) fold.pred stop ends) ∷ []) parts.1
      ∙ ap (λ a. folded s m.left (Seg m.this a fold.pred stop ends) ∷ []) parts.2
      ∙ sym i.gives in
      ap (then_give seg_of_match) judged ∙ ap (λ n. Ok n) gives

pub fold_ind_judged : FoldIndIsJudged
fold_ind_judged know defs fold s bounded tells next =
    (ind_from know defs fold s tells next, ind_to know defs fold s tells bounded next)

pub fold_seg_judged : FoldSegIsJudged
fold_seg_judged know defs fold s bounded tells next =
    (seg_from know defs fold s tells next, seg_to know defs fold s tells bounded next)
