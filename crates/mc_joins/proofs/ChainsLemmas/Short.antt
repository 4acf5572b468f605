-- Chains of one pass that change no state of a cut.
use Rattle.std.proofs.Common.{◌≡◌, List, [], ◌∷◌, ◌++◌, map, length, refl, ap, sym, subst, ◌∙◌, arith}
use Rattle.std.specs.Prelude.{flat_map, Contains}
use Rattle.std.specs.List.{AllByRecursion}
use Rattle.mc_base.specs.declared.ids.PointId.{PointId}
use Rattle.mc_lines.specs.declared.cert.line.Line.{Line}
use Rattle.mc_lines.specs.declared.cert.line.Line.TheVariants as line
use Rattle.mc_flow.specs.declared.defs.rules.Def.{Def}
use Rattle.mc_flow.specs.declared.graph.Flow.{Flow}
use Rattle.mc_state.specs.Known.{Test}
use Rattle.mc_state.specs.State.{State}
use Rattle.mc_state.specs.declared.line.Form.TheVariants.{Chain}
use Rattle.mc_state.specs.declared.line.Version.TheVariants.{One}
use Rattle.mc_kernel.specs.Branches.{Head, Path, roots}
use Rattle.mc_kernel.specs.Certificates.{AreHeads, WrittenHead, states_of}
use Rattle.mc_kernel.specs.Reading.Documents.{IsShortChain}
use Rattle.mc_kernel.proofs.Induction.{heads_bounded}
use Rattle.mc_kernel.proofs.ReadingLemmas.Lists.{append_none}
use Rattle.mc_joins.specs.Parts.{Basis}
use Rattle.mc_joins.specs.Chains.Chains.{IsFinal, ReadsPasses}
use Rattle.mc_joins.specs.Chains.Read.{HasOnePass}
use Rattle.mc_joins.specs.Chains.ReadLaws.{ShortChainsAreLegal}
use Rattle.mc_joins.proofs.ChainsLemmas.Stays.{pass_stays, rules_pass}

-- how a chain with these cuts, heads and lines from its first pass on is spelled
abbrev spelled_with : List PointId → List WrittenHead → List Line → List Line
spelled_with cuts written ending = line.Header One Chain ∷ (map line.Cut cuts ++ (map (λ h. line.Head h.0 h.1) written ++ ending))

one_pass : (rules : List Line) → ◌≡◌ {A = List Line} (line.Pass ∷ (rules ++ line.End ∷ []))
    (flat_map (λ rules. line.Pass ∷ rules) (rules ∷ []) ++ line.End ∷ [])
one_pass rules = ap (λ (ls : List Line). line.Pass ∷ (ls ++ line.End ∷ [])) (sym (append_none rules))

-- the states of written heads are at cuts
placed : (cuts : List PointId) (flow : Flow) (defs : List Def) (written : List WrittenHead) → AreHeads flow defs cuts written
    → AllByRecursion (λ (h : Head). Contains cuts h.0) (states_of written)
placed cuts flow defs [] a = tt
placed cuts flow defs (h ∷ written) a = (a.0.0, placed cuts flow defs written a.1)

module _ (know : State → Test) (flow : Flow) (defs : List Def) (lines : List Line) (stuck : List Path) where
  abbrev basis : Basis
  basis = record { know = know; defs = defs }

  short_to : IsShortChain flow defs lines stuck → HasOnePass know flow defs lines stuck
  short_to s =
      let pass = rules_pass flow basis s.cuts 1 s.rules (roots flow (states_of s.heads)) stuck (states_of s.heads) s.pass.reads in
      record {
        chain = record {
          cuts = s.cuts;
          written = s.heads;
          passes = s.rules ∷ [];
          spelled = s.spelled ∙ ap (spelled_with s.cuts s.heads) (one_pass s.rules);
          cuts_are = s.pass.cuts_are;
          ordered = s.ordered;
          written_are = s.heads_are;
          stuck = stuck;
          heads = states_of s.heads;
          reads = pass.0;
        };
        one = refl;
        final = pass.1;
        stuck_are = refl;
      }

  short_from : HasOnePass know flow defs lines stuck → IsShortChain flow defs lines stuck
  short_from o = at o.chain.passes o.one o.final o.chain.spelled o.chain.reads
    where
      at : (passes : List (List Line)) → length passes ≡ 1 → IsFinal passes
          → lines ≡ spelled_with o.chain.cuts o.chain.written (flat_map (λ rules. line.Pass ∷ rules) passes ++ line.End ∷ [])
          → ReadsPasses flow basis o.chain.cuts 1 passes o.chain.stuck (states_of o.chain.written) o.chain.heads → IsShortChain flow defs lines stuck
      at [] one final written reads = absurd reads
      at (rules ∷ more ∷ passes) one final written reads = absurd (let never : ⊥ = omega arith in never)
      at (rules ∷ []) one final written reads =
          let heads = states_of o.chain.written in
          let stays = pass_stays flow basis o.chain.cuts 1 rules (roots flow heads) stuck heads o.chain.heads final
          (subst (λ (ps : List Path). ReadsPasses flow basis o.chain.cuts 1 (rules ∷ []) ps heads o.chain.heads) o.stuck_are reads) in
          record {
            cuts = o.chain.cuts;
            heads = o.chain.written;
            rules = rules;
            spelled = written ∙ ap (spelled_with o.chain.cuts o.chain.written) (sym (one_pass rules));
            ordered = o.chain.ordered;
            heads_are = o.chain.written_are;
            pass = record {
              cuts_are = o.chain.cuts_are;
              at_cuts = placed o.chain.cuts flow defs o.chain.written o.chain.written_are;
              bounded = heads_bounded flow defs o.chain.cuts o.chain.written o.chain.written_are;
              reads = stays.0;
            };
          }

pub short_chains_are_legal : ShortChainsAreLegal
short_chains_are_legal know flow defs lines stuck = (short_to know flow defs lines stuck, short_from know flow defs lines stuck)
