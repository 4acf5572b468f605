use Rattle.std.proofs.Common.{◌≡◌, take}
use Rattle.mc_def_read.specs.Words.{behind}
use Rattle.mc_def_read.proofs.words.hashed.Given as goal

abbrev pub invariant-loop-word : goal.invariant-loop-word
invariant-loop-word l = l.names ≡ behind (take l.word-index l.words)
