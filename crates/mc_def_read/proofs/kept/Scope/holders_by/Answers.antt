use Rattle.std.proofs.Common.{ℕ}
use Rattle.std.specs.Prelude.{Option}
use Rattle.std.specs.declared.alloc.Global.{Global}
use Rattle.std.specs.declared.vec.Vec.{Vec}
use Rattle.std.proofs.lemmas.Result.{err_from_is_err_and}
use Rattle.mc_def_read.specs.Fields.{fields_of}
use Rattle.mc_def_read.specs.Scopes.{scope_of, held_of}
use Rattle.mc_def_read.proofs.Sayings.{nothing_is, holders_fail, holders_end}
use Rattle.mc_def_read.proofs.kept.Scope.holders_by.Goals as goal

pub returns-in_err-hold_all : goal.returns-in_err-hold_all
returns-in_err-hold_all c =
    let h = nothing_is c.args.self.now.front.now c.args.self.now.own c.args.self.now.kinds.items c.args.info.now (held_of c.in_ok-held.held) c.requires.own c.in_ok-held.ensures in
    let p = err_from_is_err_and c.from_residual-in_err-hold_all.result c.from_residual-in_err-hold_all.ensures.1 in
    rw (p.1, p.2) (holders_fail {B = Unit {0}} {C = Vec (Option ℕ) Global} (scope_of c.args.self.now) c.args.info.now c.args.block.now (fields_of c.args.names.now) (held_of c.in_ok-held.held) _ (λ u. held_of c.in_ok-held.held) (λ (fields : Vec (Option ℕ) Global). fields.items) c.in_err-hold_all.field-0.0 c.in_err-hold_all.ensures c.requires.names h c.as_slice.ensures)

pub returns : goal.returns
returns c =
    let h = nothing_is c.args.self.now.front.now c.args.self.now.own c.args.self.now.kinds.items c.args.info.now (held_of c.in_ok-held.held) c.requires.own c.in_ok-held.ensures in
    holders_end (scope_of c.args.self.now) c.args.info.now c.args.block.now (fields_of c.args.names.now) (held_of c.in_ok-held.held) _ _ c.in_ok-hold_all.ensures c.requires.names h c.as_slice.ensures
