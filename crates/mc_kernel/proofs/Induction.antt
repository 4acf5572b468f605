-- Documents whose lines end every branch are sound: by induction on the number of steps, and on the lines.
use Rattle.std.proofs.Common.{◌≡◌, ℕ, zero, suc, Option, None, List, [], ◌∷◌, ◌++◌, length, replicate, refl, subst, arith, ℤ}
use Rattle.std.specs.Prelude.{Contains}
use Rattle.std.specs.List.{AllByRecursion}
use Rattle.std.specs.FinMap as map
use Rattle.std.proofs.lemmas.List.{length-replicate}
use Rattle.mc_base.specs.declared.ids.PointId.{PointId}
use Rattle.mc_base.specs.Nodes.{Valuation}
use Rattle.mc_flow.specs.Heap.Heap.{region_of}
use Rattle.mc_flow.specs.Heap.Parts.{IsEmpty}
use Rattle.mc_flow.specs.declared.defs.rules.Def.{Def}
use Rattle.mc_flow.specs.declared.graph.Flow.{Flow}
use Rattle.mc_flow.specs.Steps.{Config, start}
use Rattle.mc_flow.specs.Valid.{IsValid}
use Rattle.mc_lines.specs.declared.cert.line.Line.{Line}
use Rattle.mc_lines.specs.declared.cert.line.Line.TheVariants.{C1}
use Rattle.mc_state.specs.State.{unknown}
use Rattle.mc_state.specs.Fits.{IsBounded}
use Rattle.mc_state.specs.Stands.{Stands}
use Rattle.mc_rules_steps.specs.Laws.{IsAt}
use Rattle.mc_kernel.specs.Branches.{Path, Head, Setting, begins, roots}
use Rattle.mc_kernel.specs.Instances.{Reads, stuck_by}
use Rattle.mc_kernel.specs.Certificates.{CertificateIsSafe, LastPassFindsFaults, IsAtStuck, WrittenHead, AreHeads, states_of}
use Rattle.mc_kernel.proofs.Lists.{all_of_map, contains_later, contains_none}
use Rattle.mc_kernel.proofs.Visits.{SafeUpTo, no_steps, none_visited}
use Rattle.mc_kernel.proofs.Claims.{IsFine, Holds, heads_hold}
use Rattle.mc_kernel.proofs.Calculus.{CalculusLaws}
use Rattle.mc_kernel.proofs.Soundness.{HeadsSafe, holds_by}
use Rattle.mc_kernel.proofs.Lines.{sound}
use Rattle.mc_state.proofs.Lists.{all_append, all_left, all_map, all_right}

-- ---- where runs begin

start_stands : CalculusLaws → (flow : Flow) (defs : List Def) → (v : Valuation) × IsAt defs v (start flow) (record { 0 = 0 }) (unknown (length flow.vars))
start_stands laws flow defs =
    let nothing : IsEmpty (region_of map.empty) = laws.empty in
    let vars : List (Option ℤ) = replicate (length flow.vars) None in
    let count : length vars ≡ length flow.vars = length-replicate (length flow.vars) None in
    let begins = subst (λ (n : ℕ). Stands defs vars (region_of map.empty) (unknown n)) count (laws.beginning defs vars (region_of map.empty) nothing) in
    (begins.0, record { point = refl; addresses = λ at some. (let none = nothing.none at in cc); stands = begins.1 })

-- what was stuck in later lines is so in all
stays_stuck : (line : Line) (b : Path) (later : List Path) (x : Path) → Contains later x → Contains (stuck_by line b later) x
stays_stuck C1 b later x c = contains_later x b later c
stays_stuck line b later x c = c

module _ (flow : Flow) (defs : List Def) (g : Setting) (all : List Path) (laws : CalculusLaws) (valid : IsValid flow defs) where
  abbrev P : Config → Type 0
  P c = IsAtStuck defs all c

  -- where heads are safe for so many steps, what is claimed of the open branches holds
  lines_hold : (n : ℕ) → HeadsSafe flow defs g P laws valid n → (lines : List Line) (bs stuck : List Path) → AllByRecursion IsFine bs → ((x : Path) → Contains stuck x → Contains all x)
      → Reads flow defs g lines bs stuck → AllByRecursion (Holds flow defs P n) bs
  lines_hold n heads [] [] stuck fine sub r = tt
  lines_hold n heads [] (b ∷ bs) stuck fine sub r = (let none : b ∷ bs ≡ [] = r.0 in cc)
  lines_hold n heads (line ∷ lines) [] stuck fine sub r = tt
  lines_hold n heads (line ∷ lines) (b ∷ bs) stuck fine sub r =
      let succs : List Path = r.0 in
      let later : List Path = r.1 in
      let these : (x : Path) → Contains (stuck_by line b later) x → Contains all x = subst (λ (xs : List Path). (x : Path) → Contains xs x → Contains all x) r.4 sub in
      let is = sound flow defs g all laws valid line b succs later fine.0 these r.2 in
      let rest = lines_hold n heads lines (succs ++ bs) later (all_append IsFine succs bs is.fine fine.1) (λ x c. these x (stays_stuck line b later x c)) r.3 in (
        holds_by flow defs g P laws valid n heads b succs fine.0 is.means (all_left (Holds flow defs P n) succs bs rest),
        all_right (Holds flow defs P n) succs bs rest,
      )

  module _ (lines : List Line) (bounded : AllByRecursion (λ (h : Head). IsBounded h.1) g.heads) (reads : Reads flow defs g lines (roots flow g.heads) all) where
    roots_fine : AllByRecursion IsFine (roots flow g.heads)
    roots_fine = (
      (laws.unknown (length flow.vars), tt),
      all_of_map IsFine (λ (h : Head). begins h.0 h.1) g.heads (all_map (λ (h : Head). IsBounded h.1) (λ (h : Head). IsFine (begins h.0 h.1)) (λ h is. (is, tt)) g.heads bounded),
    )

    heads_safe : (n : ℕ) → HeadsSafe flow defs g P laws valid n
    heads_safe zero p j t there w c at = no_steps flow defs P c
    heads_safe (suc n) p j t there w c at =
        heads_hold flow defs P n p g.heads (lines_hold n (heads_safe n) lines (roots flow g.heads) all roots_fine (λ x is. is) reads).1 j t there w c at

    pub start_safe : (n : ℕ) → SafeUpTo flow defs P n (start flow)
    start_safe zero = no_steps flow defs P (start flow)
    start_safe (suc n) =
        let begins = start_stands laws flow defs in
        (lines_hold n (heads_safe n) lines (roots flow g.heads) all roots_fine (λ x is. is) reads).0 begins.0 (start flow) begins.1

pub last_pass_finds_faults : CalculusLaws → LastPassFindsFaults
last_pass_finds_faults laws flow defs cuts heads rules stuck valid pass n choices kind place r =
    start_safe flow defs _ stuck laws valid rules pass.bounded pass.reads n n choices kind place (omega arith) r

pub heads_bounded : (flow : Flow) (defs : List Def) (cuts : List PointId) (heads : List WrittenHead) → AreHeads flow defs cuts heads → AllByRecursion (λ (h : Head). IsBounded h.1) (states_of heads)
heads_bounded flow defs cuts [] are = tt
heads_bounded flow defs cuts (h ∷ heads) are = (are.0.1.made.bounded, heads_bounded flow defs cuts heads are.1)

pub certificates_are_safe : CalculusLaws → CertificateIsSafe
certificates_are_safe laws flow defs lines valid certificate n choices kind place r =
    none_visited flow defs (IsAtStuck defs []) (λ c stuck. contains_none stuck.0 stuck.1) n (start flow) choices _
    (start_safe flow defs _ [] laws valid certificate.rules (heads_bounded flow defs certificate.cuts certificate.heads certificate.heads_are) certificate.reads n n choices kind place (omega arith) r)
