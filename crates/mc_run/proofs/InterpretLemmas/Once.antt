-- Where a program comes to a fault with a script, it comes to nothing else.
use Rattle.std.proofs.Common.{◌≡◌, ◌∙◌, ◌≤◌, ◌++◌, ◌⊎◌, ℕ, zero, suc, ℤ, pos, negsuc, List, [], ◌∷◌, Option, Some, None, map, option_map, refl, sym, ap, ap₂, subst, arith, inl, inr}
use Rattle.std.specs.Prelude.{codes, option_and_then, position, string_bytes}
use Rattle.std.proofs.lemmas.List.{append-nil}
use Rattle.std.proofs.lemmas.Option.{same_Some}
use Rattle.serde_json.specs.Data.{Data, null, boolean, number, unsigned, negative, float, string, array, object}
use Rattle.mc_base.specs.declared.plain.FaultKind.{FaultKind}
use Rattle.mc_base.specs.declared.text.place.Place.{Place}
use Rattle.mc_flow.specs.Heap.Choices.{Choice, input, malloc, shape}
use Rattle.mc_flow.specs.Heap.Heap.{Block}
use Rattle.mc_flow.specs.Runs.{Final, ended, stopped, fault}
use Rattle.mc_flow.specs.declared.defs.rules.Def.{Def}
use Rattle.mc_flow.specs.declared.defs.shapes.StructInfo.{StructInfo}
use Rattle.mc_c_syntax.specs.Ast.Names.{is_same}
use Rattle.mc_c_syntax.specs.Ast.Trees.{FunctionTree, UnitTree}
use Rattle.mc_c_types.specs.Tables.{called_function, struct_infos, tables_of}
use Rattle.mc_c_types.specs.Typing.{IsWellTyped}
use Rattle.mc_semantics.specs.Configs.{Config, Program}
use Rattle.mc_semantics.specs.Steps.{program_of, start, Step}
use Rattle.mc_semantics.specs.Waiting.Laws.{ComesToOneEnd, ProgramsStepEndOrWait}
use Rattle.mc_semantics.specs.Waiting.Requests.{Request, IsAllowed, IsUnanswered, Waits}
use Rattle.mc_semantics.specs.Waiting.Runs.{Leads, ComesTo, GoesOn, IsDetermined}
use Rattle.mc_semantics.specs.Waiting.Trees.{Asks}
use Rattle.mc_lines.specs.Cert.Entries.{count_data, list_data, signed_data, word_data}
use Rattle.mc_lines.proofs.CertLemmas.Arrays.{list_data_once, values_once}
use Rattle.mc_run_values.specs.declared.script.line.NamedBlock.{NamedBlock}
use Rattle.mc_run_values.specs.declared.script.line.ScriptLine.{ScriptLine}
use Rattle.mc_run_values.specs.declared.script.line.ScriptLine.TheVariants.{Input, Malloc, Shape}
use Rattle.mc_run_values.specs.Script.Lines.{SpellsLine, block_data, line_data}
use Rattle.mc_run_values.specs.Script.Scripts.{IsChoice, IsNoChoice, block_in, blocks_in, choice_in}
use Rattle.mc_run_values.specs.Values.Taking.{Takes}
use Rattle.mc_run_values.proofs.ScriptLemmas.Forms.{block_entries, line_form}
use Rattle.mc_run.specs.Runs.{AsksAfter, IsBad, RunsTo}
use Rattle.mc_run.specs.declared.interpret.ending.Ending.{Ending}
use Rattle.mc_run.specs.declared.interpret.ending.Ending.TheVariants.{Ended, Stopped, Fault, FuelSpent, Short, Bad}
use Rattle.mc_run.specs.Interpret.Faults.{FaultsAreOne}
use Rattle.mc_run.specs.Interpret.Programs.{outcome_of}
use Rattle.mc_run.proofs.InterpretLemmas.Faults.{past, steps}

-- ---- lines

abbrev number_in : Data → ℤ
number_in null = pos 0
number_in (boolean b) = pos 0
number_in (number (unsigned n)) = pos n
number_in (number (negative z)) = z
number_in (number (float x)) = pos 0
number_in (string s) = pos 0
number_in (array ds) = pos 0
number_in (object ms) = pos 0

number_back : (z : ℤ) → number_in (signed_data z) ≡ z
number_back (pos n) = refl
number_back (negsuc n) = refl

signed_once : (z w : ℤ) → signed_data z ≡ signed_data w → z ≡ w
signed_once z w e = sym (number_back z) ∙ ap number_in e ∙ number_back w

module _ (structs : List StructInfo) where
  abbrev named_block : ℕ → List ℕ → List ℤ → Option (ℕ × Block)
  named_block a name fields = option_map (λ n. (a, record { shape = n; fields = map Some fields })) (position (λ s. is_same s.name name) structs)

  block_once : (b c : NamedBlock) → block_data b ≡ block_data c → block_in structs b ≡ block_in structs c
  block_once b c e =
      let parts = block_entries (count_data b.address ∷ word_data (string_bytes b.shape) ∷ list_data signed_data b.fields ∷ []) c e in
      let address : b.address ≡ c.address = cc in
      let name : string_bytes b.shape ≡ string_bytes c.shape = cc in
      let spelled : list_data signed_data b.fields ≡ list_data signed_data c.fields = cc in
      let fields = list_data_once signed_data signed_once b.fields c.fields spelled in
      ap (λ (a : ℕ). named_block a (string_bytes b.shape) b.fields) address
      ∙ ap (λ (n : List ℕ). named_block c.address n b.fields) name
      ∙ ap (λ (f : List ℤ). named_block c.address (string_bytes c.shape) f) fields

  blocks_once : (bs cs : List NamedBlock) → map block_data bs ≡ map block_data cs → blocks_in structs bs ≡ blocks_in structs cs
  blocks_once [] [] e = refl
  blocks_once [] (c ∷ cs) e = absurd cc
  blocks_once (b ∷ bs) [] e = absurd cc
  blocks_once (b ∷ bs) (c ∷ cs) e =
      let first : block_data b ≡ block_data c = cc in
      let others : map block_data bs ≡ map block_data cs = cc in
      ap₂ (λ (x : Option (ℕ × Block)) (xs : Option (List (ℕ × Block))). option_and_then (λ entry. option_map (λ entries. entry ∷ entries) xs) x) (block_once b c first) (blocks_once bs cs others)

  meaning_once : (l m : ScriptLine) → line_data l ≡ line_data m → choice_in structs l ≡ choice_in structs m
  meaning_once (Input v) m e =
      let form = line_form (codes "input") (signed_data v ∷ []) m e in
      ap (λ (w : ℤ). Some (input w)) (signed_once v form.0 form.2) ∙ ap (λ (x : ScriptLine). choice_in structs x) (sym form.1)
  meaning_once (Malloc n) m e =
      let form = line_form (codes "malloc") (count_data n ∷ []) m e in
      let spelled : count_data n ≡ count_data form.0 = form.2 in
      let same : n ≡ form.0 = cc in
      ap (λ (k : ℕ). Some (malloc k)) same ∙ ap (λ (x : ScriptLine). choice_in structs x) (sym form.1)
  meaning_once (Shape v bs) m e =
      let form = line_form (codes "shape") (signed_data v ∷ list_data block_data bs ∷ []) m e in
      let all : signed_data v ∷ list_data block_data bs ∷ [] ≡ signed_data form.0 ∷ list_data block_data form.1 ∷ [] = form.3 in
      let value : signed_data v ≡ signed_data form.0 = cc in
      let spelled : list_data block_data bs ≡ list_data block_data form.1 = cc in
      let blocks = blocks_once bs form.1 (values_once (map block_data bs) (map block_data form.1) spelled) in
      ap₂ (λ (w : ℤ) (es : Option (List (ℕ × Block))). option_map (λ entries. shape w entries) es) (signed_once v form.0 value) blocks
      ∙ ap (λ (x : ScriptLine). choice_in structs x) (sym form.2)

  -- whatever lines some bytes spell mean the same
  spelled_once : (bytes : List ℕ) (l m : ScriptLine) → SpellsLine bytes l → SpellsLine bytes m → choice_in structs l ≡ choice_in structs m
  spelled_once bytes l m (d, json, is, fits) (other, json', is', fits') = meaning_once l m (sym is ∙ same_Some d other (sym json.1 ∙ json'.1) ∙ is')

  choice_once : (bytes : List ℕ) (c k : Choice) → IsChoice structs bytes c → IsChoice structs bytes k → c ≡ k
  choice_once bytes c k (l, spells, e) (m, spells', e') = let is : Some c ≡ Some k = sym e ∙ spelled_once bytes l m spells spells' ∙ e' in cc

  means_one : (bytes : List ℕ) (c : Choice) → IsChoice structs bytes c → IsNoChoice structs bytes → ⊥
  means_one bytes c (l, spells, e) (inl none) = none l spells
  means_one bytes c (l, spells, e) (inr (m, spells', e')) = let is : Some c ≡ None = sym e ∙ spelled_once bytes l m spells spells' ∙ e' in absurd cc

  -- ---- choices that are taken

  -- of two fronts of a script one goes on from the other
  fronts : (script : List (List ℕ)) (used other : List Choice) (left rest : List (List ℕ)) → Takes structs script used left → Takes structs script other rest
      → ((more : List Choice) × (used ≡ other ++ more) × Takes structs rest more left) ⊎ ((more : List Choice) × (other ≡ used ++ more))
  fronts script used [] left rest took too = inl (used, refl, subst (λ (l : List (List ℕ)). Takes structs l used left) (sym too) took)
  fronts script [] (o ∷ os) left rest took too = inr (o ∷ os, refl)
  fronts [] (u ∷ us) (o ∷ os) left rest took too = absurd took
  fronts (line ∷ lines) (u ∷ us) (o ∷ os) left rest took too = by (fronts lines us os left rest took.1 too.1)
    where
      same : u ≡ o
      same = choice_once line u o took.0 too.0

      by : ((more : List Choice) × (us ≡ os ++ more) × Takes structs rest more left) ⊎ ((more : List Choice) × (os ≡ us ++ more))
          → ((more : List Choice) × (u ∷ us ≡ (o ∷ os) ++ more) × Takes structs rest more left) ⊎ ((more : List Choice) × (o ∷ os ≡ (u ∷ us) ++ more))
      by (inl (more, e, t)) = inl (more, ap₂ (λ (c : Choice) (cs : List Choice). c ∷ cs) same e, t)
      by (inr (more, e)) = inr (more, ap₂ (λ (c : Choice) (cs : List Choice). c ∷ cs) (sym same) e)

  -- the choices of both, what is behind those of each, and that the lines that are left of the other give what is behind it
  record Joint (used other : List Choice) (left rest : List (List ℕ)) : Type 0 where
    all : List Choice
    behind : List Choice
    behind_other : List Choice
    is : used ++ behind ≡ all
    is_other : other ++ behind_other ≡ all
    given : (behind_other ≡ []) ⊎ Takes structs rest behind_other left

  joint : (used other : List Choice) (left rest : List (List ℕ))
      → ((more : List Choice) × (used ≡ other ++ more) × Takes structs rest more left) ⊎ ((more : List Choice) × (other ≡ used ++ more)) → Joint used other left rest
  joint used other left rest (inl (more, e, t)) =
      record { all = used; behind = []; behind_other = more; is = append-nil used; is_other = sym e; given = inr t }
  joint used other left rest (inr (more, e)) =
      record { all = other; behind = more; behind_other = []; is = sym e; is_other = append-nil other; given = inl refl }

  -- where no line is left, or the next one is refused, what is behind does not answer
  no_answer : (request : Request) (left rest : List (List ℕ)) (behind : List Choice) → (behind ≡ []) ⊎ Takes structs rest behind left → rest ≡ [] → IsUnanswered request behind
  no_answer request left rest [] given none = tt
  no_answer request left rest (c ∷ cs) (inl e) none = absurd cc
  no_answer request left rest (c ∷ cs) (inr t) none = absurd (subst (λ (l : List (List ℕ)). Takes structs l (c ∷ cs) left) none t)

  bad_answer : (request : Request) (left rest : List (List ℕ)) (behind : List Choice) → (behind ≡ []) ⊎ Takes structs rest behind left → IsBad structs request rest → IsUnanswered request behind
  bad_answer request left rest [] given bad = tt
  bad_answer request left rest (c ∷ cs) (inl e) bad = absurd cc
  bad_answer request left [] (c ∷ cs) (inr t) bad = absurd t
  bad_answer request left (line ∷ lines) (c ∷ cs) (inr t) (inl (new, r)) = absurd (means_one line c t.0 r.0)
  bad_answer request left (line ∷ lines) (c ∷ cs) (inr t) (inr (new, r)) =
      λ allowed. r.0.2 (subst (λ (x : Choice). IsAllowed request x) (choice_once line c r.0.0 t.0 r.0.1) allowed)

-- ---- what is answered
module _ (determined : (p : Program) → IsDetermined (Step p)) (only : (p : Program) → ComesToOneEnd (Step p)) (waiting : ProgramsStepEndOrWait)
    (unit : UnitTree) (entry : List ℕ) (defs : List Def) (f : FunctionTree) (script : List (List ℕ)) (m fuel : ℕ) (kind : FaultKind) (place : Place) (typed : IsWellTyped unit entry)
    (called : called_function (tables_of unit) entry ≡ Some f) (used : List Choice) (left : List (List ℕ)) (took : Takes (struct_infos unit) script used left)
    (comes : (rest : List Choice) → ComesTo (Step (program_of unit defs)) (suc m) (start (program_of unit defs) f) (used ++ rest) (fault kind place)) (le : suc m ≤ fuel) where
  abbrev p : Program
  p = program_of unit defs

  abbrev structs : List StructInfo
  structs = struct_infos unit

  abbrev Both : List Choice → List (List ℕ) → Type 0
  Both other rest = Joint structs used other left rest

  both : (other : List Choice) (rest : List (List ℕ)) → Takes structs script other rest → Both other rest
  both other rest too = joint structs used other left rest (fronts structs script used other left rest took too)

  came : (other : List Choice) (rest : List (List ℕ)) (j : Both other rest) → ComesTo (Step p) (suc m) (start p f) j.all (fault kind place)
  came other rest j = subst (λ (ks : List Choice). ComesTo (Step p) (suc m) (start p f) ks (fault kind place)) j.is (comes j.behind)

  -- where a run with these choices waits it has not faulted
  never : (other : List Choice) (rest : List (List ℕ)) (j : Both other rest) (k : ℕ) (d : Config) (here : List Choice) → Leads (Step p) k (start p f) j.all d here → Waits (Asks p d here) → ⊥
  never other rest j k d here leads waits =
      (waiting unit entry defs f typed called k j.all here d leads).nor_first (steps (Step p) (determined p) kind place k m (start p f) d j.all here leads (came other rest j)) waits

  -- it comes to no other end
  one_end : (other : List Choice) (rest : List (List ℕ)) (j : Both other rest) (n : ℕ) (end : Final) → ((more : List Choice) → ComesTo (Step p) n (start p f) (other ++ more) end) → end ≡ fault kind place
  one_end other rest j n end to =
      let own = subst (λ (ks : List Choice). ComesTo (Step p) n (start p f) ks end) j.is_other (to j.behind_other) in
      (only p n (suc m) (start p f) j.all end (fault kind place) own (came other rest j)).1

  answered : (ending : Ending) → RunsTo (Step p) (Asks p) structs (start p f) script fuel (outcome_of ending) → ending ≡ Fault kind place
  answered Ended (other, rest, too, (n, less, to)) = let clash : ended ≡ fault kind place = one_end other rest (both other rest too) n ended to in absurd cc
  answered Stopped (other, rest, too, (n, less, to)) = let clash : stopped ≡ fault kind place = one_end other rest (both other rest too) n stopped to in absurd cc
  answered (Fault k q) (other, rest, too, (n, less, to)) =
      let one : fault k q ≡ fault kind place = one_end other rest (both other rest too) n (fault k q) to in
      let kinds : k ≡ kind = cc in
      let places : q ≡ place = cc in
      ap₂ Fault kinds places
  answered FuelSpent (other, rest, too, on) =
      let j = both other rest too in
      let own = subst (λ (ks : List Choice). GoesOn (Step p) fuel (start p f) ks) j.is_other (on j.behind_other) in
      absurd (past (Step p) (determined p) kind place fuel m (start p f) own.0 j.all own.1 own.2 (came other rest j) le)
  answered (Short k) (other, rest, too, (nth, (n, less, (request, asks, none)))) =
      let j = both other rest too in
      let asked = subst (λ (ks : List Choice). AsksAfter (Step p) (Asks p) n (start p f) ks request j.behind_other) j.is_other (asks j.behind_other) in
      absurd (never other rest j n asked.0 asked.1 asked.2
      (record { request = request; left = j.behind_other; asks = asked.3; unanswered = no_answer structs request left rest j.behind_other j.given none }))
  answered (Bad k) (other, rest, too, (nth, (n, less, (request, asks, bad)))) =
      let j = both other rest too in
      let asked = subst (λ (ks : List Choice). AsksAfter (Step p) (Asks p) n (start p f) ks request j.behind_other) j.is_other (asks j.behind_other) in
      absurd (never other rest j n asked.0 asked.1 asked.2
      (record { request = request; left = j.behind_other; asks = asked.3; unanswered = bad_answer structs request left rest j.behind_other j.given bad }))

pub faults_are_one : ((p : Program) → IsDetermined (Step p)) → ((p : Program) → ComesToOneEnd (Step p)) → ProgramsStepEndOrWait → FaultsAreOne
faults_are_one determined only waiting unit entry defs script n fuel kind place ending typed le (f, is, faults) (h, called, runs) =
    by n le faults
  where
    same : h ≡ f
    same = same_Some h f (sym called ∙ is)

    own : RunsTo (Step (program_of unit defs)) (Asks (program_of unit defs)) (struct_infos unit) (start (program_of unit defs) f) script fuel (outcome_of ending)
    own = subst (λ (g : FunctionTree). RunsTo (Step (program_of unit defs)) (Asks (program_of unit defs)) (struct_infos unit) (start (program_of unit defs) g) script fuel (outcome_of ending)) same runs

    from : (k m : ℕ) (used : List Choice) (left : List (List ℕ)) → Takes (struct_infos unit) script used left → m ≤ k → k ≤ fuel
        → ((rest : List Choice) → ComesTo (Step (program_of unit defs)) m (start (program_of unit defs) f) (used ++ rest) (fault kind place)) → ending ≡ Fault kind place
    from k zero used left took less most comes = absurd (comes [])
    from k (suc m) used left took less most comes =
        answered determined only waiting unit entry defs f script m fuel kind place typed is used left took comes (omega (arith, less, most)) ending own

    by : (k : ℕ) → k ≤ fuel → RunsTo (Step (program_of unit defs)) (Asks (program_of unit defs)) (struct_infos unit) (start (program_of unit defs) f) script k (outcome_of (Fault kind place)) → ending ≡ Fault kind place
    by k most (used, left, took, (m, less, comes)) = from k m used left took less most comes
