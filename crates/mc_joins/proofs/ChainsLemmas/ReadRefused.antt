-- Lines of chains that are added or refused.
use Rattle.std.proofs.Common.{◌≡◌, ◌⊎◌, inl, inr, ◌+◌, List, length, refl, sym, ◌∙◌}
use Rattle.std.specs.Prelude.{Ok}
use Rattle.mc_lines.specs.declared.cert.line.Line.{Line}
use Rattle.mc_flow.specs.declared.defs.rules.Def.{Def}
use Rattle.mc_flow.specs.declared.graph.Flow.{Flow}
use Rattle.mc_joins.specs.Chains.Judges.{Lore, Reading, Stage, begun_chain, cutting, finished, heading, passing, reading_chain, reading_line}
use Rattle.mc_joins.specs.Chains.Read.{EndsAs, IsOpen}
use Rattle.mc_joins.specs.Chains.ReadLaws.{ChainsAreDecided, LinesAreAdded, ReadIsNotRefused, RefusalIsOne, RefusalsAreRead}
use Rattle.mc_joins.proofs.ChainsLemmas.InOrder.{lines_split, read_is_decided, read_or_refused, refused_from, refused_once, refused_to}

pub lines_are_added : LinesAreAdded
lines_are_added k flow defs lines l r e = lines_split (reading_line k flow defs) 2 (2 + length lines) lines _ begun_chain r refl e

pub refusals_are_read : RefusalsAreRead
refusals_are_read k flow defs lines number premise =
    (refused_from (reading_line k flow defs) 2 lines begun_chain number premise, refused_to (reading_line k flow defs) 2 lines begun_chain number premise)

pub refusal_is_one : RefusalIsOne
refusal_is_one k flow defs lines n p m q i j = refused_once (reading_line k flow defs) 2 lines begun_chain n p m q i j

pub read_is_not_refused : ReadIsNotRefused
read_is_not_refused k flow defs lines last n p e i = read_or_refused (reading_line k flow defs) 2 lines begun_chain last n p e i

-- a chain that is read has ended or not
ended_or_open : (k : Lore) (flow : Flow) (defs : List Def) (lines : List Line) (last : Reading) (stage : Stage) → last.stage ≡ stage
    → reading_chain k flow defs lines ≡ Ok last → ((last : Reading) × EndsAs k flow defs lines last) ⊎ IsOpen k flow defs lines
ended_or_open k flow defs lines last finished is e = inl (last, record { read = e; ended = is })
ended_or_open k flow defs lines last cutting is e =
    inr (record { last = last; read = e; not_ended = λ f. let clash : cutting ≡ finished = sym is ∙ f in cc clash })
ended_or_open k flow defs lines last heading is e =
    inr (record { last = last; read = e; not_ended = λ f. let clash : heading ≡ finished = sym is ∙ f in cc clash })
ended_or_open k flow defs lines last passing is e =
    inr (record { last = last; read = e; not_ended = λ f. let clash : passing ≡ finished = sym is ∙ f in cc clash })

pub chains_are_decided : ChainsAreDecided
chains_are_decided k flow defs lines = elim (read_is_decided (reading_line k flow defs) 2 lines begun_chain) [
  | inl read ↦ elim (ended_or_open k flow defs lines read.0 read.0.stage refl read.1) [ inl ends ↦ inl ends | inr still ↦ inr (inl still) ]
  | inr refused ↦ inr (inr refused)
]
