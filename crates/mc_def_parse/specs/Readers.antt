-- What completes what has been read of an item, a block and a head.
use Rattle.std.specs.Prelude.{◌≡◌, ℕ, Bool, true, false, List, [], ◌∷◌, ◌++◌, codes}
use Rattle.mc_base.specs.declared.plain.Kind.{Kind}
use Rattle.mc_base.specs.declared.text.place.Place.{Place}
use Rattle.mc_base.specs.declared.text.token.Token.{Token}
use Rattle.mc_c_syntax.specs.declared.ast.trees.Name.{Name}
use Rattle.mc_c_syntax.specs.Ast.Names.{Tokens, name_of}
use Rattle.mc_def_parse.specs.declared.symbols.Symbol.{Symbol}
use Rattle.mc_def_parse.specs.declared.tree.Number.{Number}
use Rattle.mc_def_parse.specs.declared.tree.Sum.{Sum}
use Rattle.mc_def_parse.specs.declared.tree.Relation.{Relation}
use Rattle.mc_def_parse.specs.declared.tree.Relation.TheVariants.{Fixes, Equals, Differs}
use Rattle.mc_def_parse.specs.declared.tree.Bound.{Bound}
use Rattle.mc_def_parse.specs.declared.tree.Bound.TheVariants.{AtMost, AtLeast}
use Rattle.mc_def_parse.specs.declared.tree.Item.{Item}
use Rattle.mc_def_parse.specs.declared.tree.Item.TheVariants.{Call, Relates, Bounds}
use Rattle.mc_def_parse.specs.declared.item.ItemReader.{ItemReader}
use Rattle.mc_def_parse.specs.declared.item.WholeItem.{WholeItem}
use Rattle.mc_def_parse.specs.declared.step.Step.{Step}
use Rattle.mc_def_parse.specs.Grammar.{Is, IsNum, IsSum, MoreNames, IsItem}
use Rattle.mc_def_parse.specs.Steps.{StepIs, First, FirstNumber, BySymbol, Gives}

-- a `;`, and it is this
abbrev pub Stops : {X : Type 0} → X → Tokens → Tokens → X → Type 0
Stops x = First (Is Symbol.Semicolon) (λ stop. Gives x)

-- a sum and a `;`
abbrev pub SumStops : Name → Relation → Tokens → Tokens → Item → Type 0
SumStops x r tokens rest item = (s : Sum) × (stop : Token) × IsSum s tokens (stop ∷ rest) × Is Symbol.Semicolon stop
    × (item ≡ Relates x r s)

-- a number and a `;`
abbrev pub BoundStops : Name → Bound → Tokens → Tokens → Item → Type 0
BoundStops x b tokens rest item = (m : Number) × (stop : Token) × IsNum m tokens (stop ∷ rest)
    × Is Symbol.Semicolon stop × (item ≡ Bounds x b m)

-- after the first arguments: more of them, `)` and `;`
abbrev pub NamesStop : Name → List Name → Tokens → Tokens → Item → Type 0
NamesStop p xs tokens rest item = (all : List Name) × (close : Token) × (stop : Token)
    × MoreNames xs tokens all (close ∷ stop ∷ rest) × Is Symbol.Close close × Is Symbol.Semicolon stop
    × (item ≡ Call p all)

-- one more argument, and the same
abbrev pub NameThenStops : Name → List Name → Tokens → Tokens → Item → Type 0
NameThenStops p xs = First (Is Symbol.Name) (λ x. NamesStop p (xs ++ name_of x ∷ []))

-- `=` and a sum
abbrev pub FixedStops : Kind → Name → Tokens → Tokens → Item → Type 0
FixedStops kind x = First (Is Symbol.Equal) (λ equal. SumStops x (Fixes kind))

-- after the first name of an item
abbrev pub NameStopsBy : Name → Symbol → Token → Tokens → Tokens → Item → Type 0
NameStopsBy x Symbol.Open token tokens rest item = NameThenStops x [] tokens rest item
NameStopsBy x Symbol.Equal token tokens rest item = SumStops x Equals tokens rest item
NameStopsBy x Symbol.Unequal token tokens rest item = SumStops x Differs tokens rest item
NameStopsBy x Symbol.AtMost token tokens rest item = BoundStops x AtMost tokens rest item
NameStopsBy x Symbol.AtLeast token tokens rest item = BoundStops x AtLeast tokens rest item
NameStopsBy x Symbol.Name token tokens rest item = (x.text ≡ codes "ptr") × FixedStops Kind.Ptr (name_of token) tokens rest item
NameStopsBy x symbol token tokens rest item = ⊥

abbrev pub NameStops : Name → Tokens → Tokens → Item → Type 0
NameStops x = BySymbol (NameStopsBy x)

-- a number, and it is this with a `;`
abbrev pub NumberStops : {X : Type 0} → (ℕ → Token → X) → Tokens → Tokens → X → Type 0
NumberStops give = FirstNumber (λ n digits. Stops (give n digits))

abbrev pub signed_sum : Name → Relation → Place → ℕ → Token → Item
signed_sum x r place n digits = Relates x r (Sum.Number (record { minus = true; value = n; place = place }))

abbrev pub moved_sum : Name → Relation → Name → Bool → ℕ → Token → Item
moved_sum x r base minus n digits = Relates x r (Sum.Moved base (record { minus = minus; value = n; place = digits.place }))

abbrev pub signed_bound : Name → Bound → Place → ℕ → Token → Item
signed_bound x b place n digits = Bounds x b (record { minus = true; value = n; place = place })

-- after the name of a sum
abbrev pub BaseStopsBy : Name → Relation → Name → Symbol → Token → Tokens → Tokens → Item → Type 0
BaseStopsBy x r base Symbol.Plus token = NumberStops (moved_sum x r base false)
BaseStopsBy x r base Symbol.Minus token = NumberStops (moved_sum x r base true)
BaseStopsBy x r base Symbol.Semicolon token = Gives (Relates x r (Sum.Name base))
BaseStopsBy x r base symbol token = λ tokens rest item. ⊥

-- the item that the tokens of its names make
abbrev pub item_of : WholeItem → Item
item_of (WholeItem.Call p xs) = Call (name_of p.now) xs
item_of (WholeItem.Number x r m) = Relates (name_of x.now) r (Sum.Number m)
item_of (WholeItem.Name x r base) = Relates (name_of x.now) r (Sum.Name (name_of base.now))
item_of (WholeItem.Moved x r base m) = Relates (name_of x.now) r (Sum.Moved (name_of base.now) m)
item_of (WholeItem.Bound x b m) = Bounds (name_of x.now) b m

-- the tokens, up to the rest, complete what the reader has read to this item
abbrev pub CompletesItem : ItemReader → Tokens → Tokens → Item → Type 0
CompletesItem ItemReader.Start = λ tokens rest item. IsItem item tokens rest
CompletesItem ItemReader.Int = First (Is Symbol.Name) (λ x. FixedStops Kind.Int (name_of x))
CompletesItem (ItemReader.Name x) = NameStops (name_of x.now)
CompletesItem (ItemReader.Fixed kind x) = FixedStops kind (name_of x.now)
CompletesItem (ItemReader.Argument p xs) = NameThenStops (name_of p.now) xs
CompletesItem (ItemReader.Arguments p xs) = NamesStop (name_of p.now) xs
CompletesItem (ItemReader.Sum x r) = SumStops (name_of x.now) r
CompletesItem (ItemReader.Negative x r place) = NumberStops (signed_sum (name_of x.now) r place)
CompletesItem (ItemReader.Base x r base) = BySymbol (BaseStopsBy (name_of x.now) r (name_of base.now))
CompletesItem (ItemReader.Offset x r base minus) = NumberStops (moved_sum (name_of x.now) r (name_of base.now) minus)
CompletesItem (ItemReader.Bound x b) = BoundStops (name_of x.now) b
CompletesItem (ItemReader.NegativeBound x b place) = NumberStops (signed_bound (name_of x.now) b place)
CompletesItem (ItemReader.Whole item) = Stops (item_of item)

abbrev pub ItemStepIs : ItemReader → Token → Step ItemReader WholeItem → Type 0
ItemStepIs reader token step = StepIs CompletesItem item_of (CompletesItem reader) token step
