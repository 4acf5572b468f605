-- Names in order, as they are kept.
use Rattle.std.specs.Prelude.{List, ℕ, map}
use denote.Bor.{Bor}
use Rattle.mc_def_read.specs.declared.words.Order.{Order}
use Rattle.mc_def_read.specs.declared.words.Order.TheVariants.{Few, Many}

-- what is after references
abbrev pub behind : List (Bor (List ℕ)) → List (List ℕ)
behind words = map (λ word. word.now) words

abbrev pub words_of : Order → List (List ℕ)
words_of (Few words) = behind words.items
words_of (Many names) = names
