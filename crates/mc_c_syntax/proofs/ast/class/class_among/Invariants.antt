use Rattle.std.proofs.Common.{◌≡◌, drop, map}
use Rattle.mc_c_syntax.specs.Ast.Classes.{class_beside}
use Rattle.mc_c_syntax.proofs.ast.class.class_among.Given as goal

abbrev pub invariant-loop-known : goal.invariant-loop-known
invariant-loop-known l = class_beside (map (λ entry. entry.0.now) (drop l.known-index l.table)) (map (λ entry. entry.1) (drop l.known-index l.table)) l.text ≡ class_beside (map (λ entry. entry.0.now) l.table) (map (λ entry. entry.1) l.table) l.text
