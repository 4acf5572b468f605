use Rattle.std.proofs.Common.{◌≡◌, ℕ, List, ◌++◌, map, take}
use Rattle.mc_c_syntax.specs.Ast.Names.{is_in}
use Rattle.mc_c_parse.proofs.unit.introduce_all.Given as goal

abbrev pub invariant-loop-declarator : goal.invariant-loop-declarator
invariant-loop-declarator l = (name : List ℕ) → is_in l.aliases name ≡ is_in (map (λ d. d.name.text) (take l.declarator-index l.declarators) ++ l.initial.aliases) name
