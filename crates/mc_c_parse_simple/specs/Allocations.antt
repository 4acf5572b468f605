-- What completes an allocation: `malloc(..)`, perhaps after a cast.
use Rattle.std.specs.Prelude.{ℕ, List, [], Option, Some, None, codes}
use Rattle.mc_base.specs.declared.text.place.Place.{Place}
use Rattle.mc_base.specs.declared.text.token.Token.{Token}
use Rattle.mc_c_syntax.specs.declared.ast.trees.Base.{Base}
use Rattle.mc_c_syntax.specs.declared.ast.trees.Cast.{Cast}
use Rattle.mc_c_syntax.specs.declared.ast.trees.Malloc.{Malloc}
use Rattle.mc_c_syntax.specs.declared.ast.trees.Size.{Size}
use Rattle.mc_c_syntax.specs.Ast.Names.{Tokens, IsMark, IsWord}
use Rattle.mc_c_syntax.specs.Ast.Readers.{Takes, Closes, IsStuckAt}
use Rattle.mc_c_parse_simple.specs.declared.allocation.AllocationReader.{AllocationReader}
use Rattle.mc_c_parse_simple.specs.declared.allocation.AllocationStep.{AllocationStep}
use Rattle.mc_c_parse_expr.specs.Turns.{InTurn}
use Rattle.mc_c_parse_simple.specs.Phrases.{Ended, Next, Either}
use Rattle.mc_c_parse_simple.specs.Bases.{Bases, CompletesBase}
use Rattle.mc_c_parse_simple.specs.Sizes.{Sizes, CompletesSize}

-- the last `)` of an allocation
abbrev pub ClosingMalloc : Malloc → Tokens → Tokens → Malloc → Type 0
ClosingMalloc malloc = Next (IsMark (codes ")")) (λ after. Ended malloc)

-- after a size
abbrev pub BehindSize : Option Cast → Place → Size → Tokens → Tokens → Malloc → Type 0
BehindSize cast place size = ClosingMalloc (record { cast = cast; place = place; size = size })

-- after `malloc`
abbrev pub BehindMalloc : List (List ℕ) → Option Cast → Place → Tokens → Tokens → Malloc → Type 0
BehindMalloc aliases cast place = Next (IsMark (codes "(")) (λ before. InTurn (Sizes aliases) (BehindSize cast place))

-- after a cast
abbrev pub BehindCast : List (List ℕ) → Cast → Tokens → Tokens → Malloc → Type 0
BehindCast aliases cast = Next (IsWord (codes "malloc")) (λ word. BehindMalloc aliases (Some cast) word.place)

-- the `)` of a cast, and what follows it
abbrev pub ClosingCast : List (List ℕ) → Cast → Tokens → Tokens → Malloc → Type 0
ClosingCast aliases cast = Next (IsMark (codes ")")) (λ after. BehindCast aliases cast)

-- after the base of a cast
abbrev pub BehindCastBase : List (List ℕ) → Place → Base → Tokens → Tokens → Malloc → Type 0
BehindCastBase aliases place base = Either
    (Next (IsMark (codes "*")) (λ star. ClosingCast aliases
    (record { place = place; base = base; pointer = Some star.place })))
    (ClosingCast aliases (record { place = place; base = base; pointer = None }))

-- after the `(` of a cast
abbrev pub InCast : List (List ℕ) → Place → Tokens → Tokens → Malloc → Type 0
InCast aliases place = InTurn (Bases aliases) (BehindCastBase aliases place)

-- the tokens complete what was read of an allocation
abbrev pub CompletesAllocation : List (List ℕ) → AllocationReader → Tokens → Tokens → Malloc → Type 0
CompletesAllocation aliases (AllocationReader.Base place reader) = InTurn (CompletesBase aliases reader) (BehindCastBase aliases place)
CompletesAllocation aliases (AllocationReader.CastBase place base) = BehindCastBase aliases place base
CompletesAllocation aliases (AllocationReader.CastEnd cast) = ClosingCast aliases cast
CompletesAllocation aliases (AllocationReader.Cast cast) = BehindCast aliases cast
CompletesAllocation aliases (AllocationReader.Malloc cast place) = BehindMalloc aliases cast place
CompletesAllocation aliases (AllocationReader.Size cast place reader) = InTurn (CompletesSize aliases reader) (BehindSize cast place)
CompletesAllocation aliases (AllocationReader.Close malloc) = ClosingMalloc malloc

-- what a step of the reader says
abbrev pub IsAllocationStep : List (List ℕ) → (Tokens → Tokens → Malloc → Type 0) → Token → AllocationStep → Type 0
IsAllocationStep aliases now token (AllocationStep.Taken reader) = Takes [] now (CompletesAllocation aliases reader) token
IsAllocationStep aliases now token (AllocationStep.Closed malloc) = Closes now token malloc
IsAllocationStep aliases now token AllocationStep.Stuck = IsStuckAt now token
