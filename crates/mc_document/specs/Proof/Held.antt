-- What an open document holds.
use Rattle.std.specs.Prelude.{map}
use Rattle.mc_flow.specs.Valid.{IsValid}
use Rattle.mc_check_line.specs.Judging.{head_of}
use Rattle.mc_document.specs.declared.proof.proof.Proof.TheInside.{Inside}
use Rattle.mc_document.specs.Proof.Positions.{Position}
use Rattle.mc_document.specs.Proof.Stacks.{AreMade, HeadsAreMade, stage_of}

-- where it stands
abbrev pub seen : Inside → Position
seen p =
    record {
      flow = p.flow.now;
      defs = p.defs.now;
      form = p.form;
      stage = stage_of p.stage;
      cuts = p.cuts.items;
      heads = map head_of p.heads.items;
      branches = p.branches;
      stuck = p.stuck;
      lost = p.lost;
    }

-- the flow graph is valid, and the states of heads and open branches are well made
pub record IsHeld (p : Inside) : Type 0 where
  pub valid : IsValid p.flow.now p.defs.now
  pub heads : HeadsAreMade p.flow.now p.defs.now (map head_of p.heads.items)
  pub branches : AreMade p.flow.now p.defs.now p.branches
