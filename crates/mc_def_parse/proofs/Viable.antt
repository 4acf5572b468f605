-- What each reader has read can be completed.
use Rattle.std.proofs.Common.{◌≡◌, ℕ, List, [], ◌∷◌, ◌++◌, refl, sym, subst, append_assoc, lit≤, inr}
use Rattle.std.specs.Prelude.{Option, Some, None, codes}
use Rattle.mc_base.specs.declared.text.place.Place.{Place}
use Rattle.mc_base.specs.declared.plain.Kind.{Kind}
use Rattle.mc_base.specs.Text.Numbers.{as_zero}
use Rattle.mc_base.specs.declared.text.token.Token.{Token}
use Rattle.mc_base.specs.declared.text.token.TokenKind.TheVariants as TokenKind
use Rattle.mc_c_syntax.specs.declared.ast.trees.Name.{Name}
use Rattle.mc_c_syntax.specs.Ast.Names.{Tokens, IsNumber, name_of}
use Rattle.mc_c_syntax.specs.Ast.Readers.{CanEnd}
use Rattle.mc_def_parse.specs.Symbols.{mark_symbol, word_symbol}
use Rattle.mc_def_parse.specs.declared.symbols.Symbol.TheVariants as Symbol
use Rattle.mc_def_parse.specs.declared.tree.Sum.TheVariants as Sum
use Rattle.mc_def_parse.specs.declared.tree.Relation.{Relation}
use Rattle.mc_def_parse.specs.declared.tree.Relation.TheVariants.{Fixes, Equals}
use Rattle.mc_def_parse.specs.declared.tree.Bound.{Bound}
use Rattle.mc_def_parse.specs.declared.tree.Item.{Item}
use Rattle.mc_def_parse.specs.declared.tree.Item.TheVariants.{Call, Relates, Bounds}
use Rattle.mc_def_parse.specs.declared.tree.Content.{Content}
use Rattle.mc_def_parse.specs.declared.tree.Block.{Block}
use Rattle.mc_def_parse.specs.declared.tree.RuleText.{RuleText}
use Rattle.mc_def_parse.specs.declared.tree.Parameter.{Parameter}
use Rattle.mc_def_parse.specs.declared.tree.Head.{Head}
use Rattle.mc_def_parse.specs.declared.tree.DefText.{DefText}
use Rattle.mc_def_parse.specs.declared.item.ItemReader.{ItemReader}
use Rattle.mc_def_parse.specs.declared.block.BlockReader.{BlockReader}
use Rattle.mc_def_parse.specs.declared.front.HeadReader.{HeadReader}
use Rattle.mc_def_parse.specs.declared.file.At.{At}
use Rattle.mc_def_parse.specs.declared.file.FileReader.{FileReader}
use Rattle.mc_def_parse.specs.Grammar.{Is, IsWord, plain, unsigned, number, last_name, relates, last_content, last_item, bare, last_rule, last_parameter, end_defs}
use Rattle.mc_def_parse.specs.Steps.{Then, First}
use Rattle.mc_def_parse.specs.Readers.{Stops, SumStops, BoundStops, NamesStop, FixedStops, NameStops, NumberStops, item_of, CompletesItem}
use Rattle.mc_def_parse.specs.Blocks.{ContentsStop, ContentStops, ColonStops, FieldStops, OpeningStops, block_of, CompletesBlock}
use Rattle.mc_def_parse.specs.Heads.{ParametersEnd, ParameterEnds, KindEnds, ThisEnds, OpeningEnds, head_of, CompletesHead}
use Rattle.mc_def_parse.specs.Files.{RulesEnd, ItemsEnd, BodyEnds, BraceEnds, FirstRuleEnds, ThisGoesOn, CompletesAt, CompletesFile}

abbrev at_start : Place
at_start = record { line = 1; column = 1 }

abbrev mark : List ℕ → Token
mark text = record { kind = TokenKind.Mark; text = text; place = at_start }

abbrev word : List ℕ → Token
word text = record { kind = TokenKind.Name; text = text; place = at_start }

abbrev a_name : Token
a_name = word (codes "a")

abbrev a_number : Token
a_number = record { kind = TokenKind.Number; text = codes "0"; place = at_start }

abbrev end : Token
end = record { kind = TokenKind.End; text = []; place = at_start }

is_name : Is Symbol.Name a_name
unfolding word_symbol
is_name = refl

is_rule : IsWord (codes "rule") (word (codes "rule"))
unfolding word_symbol
is_rule = record { name = refl; text = refl }

is_this : IsWord (codes "this") (word (codes "this"))
unfolding word_symbol
is_this = record { name = refl; text = refl }

is_number : IsNumber a_number 0
is_number = record { kind = refl; spelled = as_zero refl refl; small = lit≤ tt }

is_semicolon : Is Symbol.Semicolon (mark (codes ";"))
unfolding mark_symbol
is_semicolon = refl

is_equal : Is Symbol.Equal (mark (codes "="))
unfolding mark_symbol
is_equal = refl

is_open : Is Symbol.Open (mark (codes "("))
unfolding mark_symbol
is_open = refl

is_close : Is Symbol.Close (mark (codes ")"))
unfolding mark_symbol
is_close = refl

is_open_brace : Is Symbol.OpenBrace (mark (codes "{"))
unfolding mark_symbol
is_open_brace = refl

is_close_brace : Is Symbol.CloseBrace (mark (codes "}"))
unfolding mark_symbol
is_close_brace = refl

is_colon : Is Symbol.Colon (mark (codes ":"))
unfolding mark_symbol
is_colon = refl

-- ---- pieces
can_first : {X : Type 0} (such : Token → Type 0) (second : Token → Tokens → Tokens → X → Type 0) (token : Token) → such token → CanEnd (second token) → CanEnd (First such second)
can_first such second token s f = record { more = token ∷ f.more; tree = f.tree; completes = λ rest. (s, f.completes rest) }

can_stop : {X : Type 0} (x : X) → CanEnd (Stops x)
can_stop x = record { more = mark (codes ";") ∷ []; tree = x; completes = λ rest. (is_semicolon, (refl, refl)) }

can_number : {X : Type 0} (give : ℕ → Token → X) → CanEnd (NumberStops give)
can_number give = record { more = a_number ∷ mark (codes ";") ∷ []; tree = give 0 a_number; completes = λ rest. (0, is_number, (is_semicolon, (refl, refl))) }

-- ---- items
can_sum : (x : Name) (r : Relation) → CanEnd (SumStops x r)
can_sum x r = record { more = a_number ∷ mark (codes ";") ∷ []; tree = Relates x r (Sum.Number (plain 0 a_number)); completes = λ rest. (_, _, number (unsigned is_number), is_semicolon, refl) }

can_bound : (x : Name) (b : Bound) → CanEnd (BoundStops x b)
can_bound x b = record { more = a_number ∷ mark (codes ";") ∷ []; tree = Bounds x b (plain 0 a_number); completes = λ rest. (_, _, unsigned is_number, is_semicolon, refl) }

can_names : (p : Name) (xs : List Name) → CanEnd (NamesStop p xs)
can_names p xs = record { more = mark (codes ")") ∷ mark (codes ";") ∷ []; tree = Call p xs; completes = λ rest. (xs, _, _, last_name, is_close, is_semicolon, refl) }

can_fixed : (kind : Kind) (x : Name) → CanEnd (FixedStops kind x)
can_fixed kind x = can_first (Is Symbol.Equal) (λ equal. SumStops x (Fixes kind)) (mark (codes "=")) is_equal (can_sum x (Fixes kind))

can_name : (x : Name) → CanEnd (NameStops x)
can_name x = let s = can_sum x Equals in record { more = mark (codes "=") ∷ s.more; tree = s.tree; completes = λ rest. rw is_equal (s.completes rest) }

can_start : CanEnd (CompletesItem ItemReader.Start)
can_start = record { more = a_name ∷ mark (codes "=") ∷ a_number ∷ mark (codes ";") ∷ []; tree = Relates (name_of a_name) Equals (Sum.Number (plain 0 a_number)); completes = λ rest. relates {r = Equals} is_name is_equal (number (unsigned is_number)) is_semicolon }

can_item : (reader : ItemReader) → CanEnd (CompletesItem reader)
can_item ItemReader.Start = can_start
can_item ItemReader.Int = can_first (Is Symbol.Name) (λ x. FixedStops Kind.Int (name_of x)) a_name is_name (can_fixed Kind.Int (name_of a_name))
can_item (ItemReader.Name x) = can_name (name_of x.now)
can_item (ItemReader.Fixed kind x) = can_fixed kind (name_of x.now)
can_item (ItemReader.Argument p xs) = can_first (Is Symbol.Name) (λ x. NamesStop (name_of p.now) (xs ++ name_of x ∷ [])) a_name is_name (can_names (name_of p.now) (xs ++ name_of a_name ∷ []))
can_item (ItemReader.Arguments p xs) = can_names (name_of p.now) xs
can_item (ItemReader.Sum x r) = can_sum (name_of x.now) r
can_item (ItemReader.Negative x r place) = can_number _
can_item (ItemReader.Base x r base) = record { more = mark (codes ";") ∷ []; tree = Relates (name_of x.now) r (Sum.Name (name_of base.now)); completes = λ rest. rw is_semicolon (refl, refl) }
can_item (ItemReader.Offset x r base minus) = can_number _
can_item (ItemReader.Bound x b) = can_bound (name_of x.now) b
can_item (ItemReader.NegativeBound x b place) = can_number _
can_item (ItemReader.Whole item) = can_stop (item_of item)

-- ---- blocks
can_contents : (shape : Name) (cs : List Content) → CanEnd (ContentsStop shape cs)
can_contents shape cs = record { more = mark (codes "}") ∷ mark (codes ";") ∷ []; tree = record { shape = shape; contents = cs; end = at_start }; completes = λ rest. (cs, _, _, last_content, is_close_brace, is_semicolon, refl) }

can_content : (shape : Name) (cs : List Content) (f : Name) → CanEnd (ContentStops shape cs f)
can_content shape cs f = can_first (Is Symbol.Name) (λ x. ContentsStop shape (cs ++ record { field = f; name = name_of x } ∷ [])) a_name is_name (can_contents shape (cs ++ record { field = f; name = name_of a_name } ∷ []))

can_colon : (shape : Name) (cs : List Content) (f : Name) → CanEnd (ColonStops shape cs f)
can_colon shape cs f = can_first (Is Symbol.Colon) (λ colon. ContentStops shape cs f) (mark (codes ":")) is_colon (can_content shape cs f)

can_field : (shape : Name) (cs : List Content) → CanEnd (FieldStops shape cs)
can_field shape cs = can_first (Is Symbol.Name) (λ f. ColonStops shape cs (name_of f)) a_name is_name (can_colon shape cs (name_of a_name))

can_opening : (shape : Name) → CanEnd (OpeningStops shape)
can_opening shape = can_first (Is Symbol.OpenBrace) (λ opening. FieldStops shape []) (mark (codes "{")) is_open_brace (can_field shape [])

can_block : (reader : BlockReader) → CanEnd (CompletesBlock reader)
can_block BlockReader.Shape = can_first (Is Symbol.Name) (λ shape. OpeningStops (name_of shape)) a_name is_name (can_opening (name_of a_name))
can_block (BlockReader.Opening shape) = can_opening (name_of shape.now)
can_block (BlockReader.Field shape cs) = can_field (name_of shape.now) cs
can_block (BlockReader.Colon shape cs f) = can_colon (name_of shape.now) cs (name_of f.now)
can_block (BlockReader.Content shape cs f) = can_content (name_of shape.now) cs (name_of f.now)
can_block (BlockReader.Contents shape cs) = can_contents (name_of shape.now) cs
can_block (BlockReader.Whole block) = can_stop (block_of block)

-- ---- heads
can_parameters : (p : Name) (ps : List Parameter) → CanEnd (ParametersEnd p ps)
can_parameters p ps = record { more = mark (codes ")") ∷ mark (codes "{") ∷ []; tree = record { name = p; params = ps }; completes = λ rest. (ps, _, _, last_parameter, is_close, is_open_brace, refl) }

can_parameter : (p : Name) (ps : List Parameter) (kind : Kind) → CanEnd (ParameterEnds p ps kind)
can_parameter p ps kind = can_first (Is Symbol.Name) (λ x. ParametersEnd p (ps ++ record { kind = kind; name = name_of x } ∷ [])) a_name is_name (can_parameters p (ps ++ record { kind = kind; name = name_of a_name } ∷ []))

is_int : Is Symbol.Int (word (codes "int"))
unfolding word_symbol
is_int = refl

can_kind : (p : Name) (ps : List Parameter) → CanEnd (KindEnds p ps)
can_kind p ps = let f = can_parameter p ps Kind.Int in record { more = word (codes "int") ∷ f.more; tree = f.tree; completes = λ rest. (Kind.Int, is_int, f.completes rest) }

can_this : (p : Name) → CanEnd (ThisEnds p)
can_this p = can_first (IsWord (codes "this")) (λ this. ParametersEnd p []) (word (codes "this")) is_this (can_parameters p [])

can_head_opening : (p : Name) → CanEnd (OpeningEnds p)
can_head_opening p = can_first (Is Symbol.Open) (λ opening. ThisEnds p) (mark (codes "(")) is_open (can_this p)

can_head : (reader : HeadReader) → CanEnd (CompletesHead reader)
can_head HeadReader.Name = can_first (Is Symbol.Name) (λ p. OpeningEnds (name_of p)) a_name is_name (can_head_opening (name_of a_name))
can_head (HeadReader.Opening p) = can_head_opening (name_of p.now)
can_head (HeadReader.This p) = can_this (name_of p.now)
can_head (HeadReader.Parameters p ps) = can_parameters (name_of p.now) ps
can_head (HeadReader.Kind p ps) = can_kind (name_of p.now) ps
can_head (HeadReader.Parameter p ps kind) = can_parameter (name_of p.now) ps kind
can_head (HeadReader.Brace head) = record { more = mark (codes "{") ∷ []; tree = head_of head; completes = λ rest. (is_open_brace, (refl, refl)) }

-- ---- files
-- the same with one token at least
pub record CanFinish {X : Type 0} (now : Tokens → Tokens → X → Type 0) : Type 0 where
  pub more : Tokens
  pub tree : X
  pub completes : (rest : Tokens) → now (more ++ rest) rest tree
  pub some : more ≡ [] → ⊥

more_behind : (before : Tokens) {more : Tokens} → (more ≡ [] → ⊥) → before ++ more ≡ [] → ⊥
more_behind [] some e = some e
more_behind (token ∷ before) some e = cc

then_finish : {A X : Type 0} {first : Tokens → Tokens → A → Type 0} {second : A → Tokens → Tokens → X → Type 0} → CanEnd first → ((a : A) → CanFinish (second a)) → CanFinish (Then first second)
then_finish {first = first} f s = let g = s f.tree in record {
  more = f.more ++ g.more;
  tree = g.tree;
  completes = λ rest. (f.tree, g.more ++ rest, subst (λ t. first t (g.more ++ rest) f.tree) (sym (append_assoc f.more g.more rest)) (f.completes (g.more ++ rest)), g.completes rest);
  some = more_behind f.more g.some;
}

can_rules : (done : List DefText) (h : Head) (rules : List RuleText) → CanFinish (RulesEnd done h rules)
can_rules done h rules = record { more = mark (codes "}") ∷ end ∷ []; tree = done ++ record { head = h; rules = rules } ∷ []; completes = λ rest. (rules, _, _, last_rule, is_close_brace, end_defs refl); some = λ e. cc }

can_items : (done : List DefText) (h : Head) (rules : List RuleText) (b : Option Block) (items : List Item) → CanFinish (ItemsEnd done h rules b items)
can_items done h rules b items = let f = can_rules done h (rules ++ record { block = b; items = items } ∷ []) in record { more = mark (codes "}") ∷ f.more; tree = f.tree; completes = λ rest. (items, _, _, last_item, is_close_brace, f.completes rest); some = λ e. cc }

can_body : (done : List DefText) (h : Head) (rules : List RuleText) → CanFinish (BodyEnds done h rules)
can_body done h rules = let f = can_items done h rules None [] in record { more = f.more; tree = f.tree; completes = λ rest. let n = f.completes rest in (_, n.1, n.2, bare n.3, n.4, n.5); some = f.some }

can_brace : (done : List DefText) (h : Head) (rules : List RuleText) → CanFinish (BraceEnds done h rules)
can_brace done h rules = let f = can_body done h rules in record { more = mark (codes "{") ∷ f.more; tree = f.tree; completes = λ rest. (is_open_brace, f.completes rest); some = λ e. cc }

can_first_rule : (done : List DefText) (h : Head) → CanFinish (FirstRuleEnds done h)
can_first_rule done h = let f = can_brace done h [] in record { more = word (codes "rule") ∷ f.more; tree = f.tree; completes = λ rest. (is_rule, f.completes rest); some = λ e. cc }

can_go_on : (done : List DefText) (h : Head) (rules : List RuleText) (this : Name) → CanFinish (ThisGoesOn done h rules this)
can_go_on done h rules this = let f = then_finish (can_name this) (λ item. can_items done h rules None (item ∷ [])) in record { more = f.more; tree = f.tree; completes = λ rest. inr (f.completes rest); some = f.some }

can_at : (at : At) (done : List DefText) (h : Head) (rules : List RuleText) (b : Option Block) (items : List Item) → CanFinish (CompletesAt at done h rules b items)
can_at At.Outside done h rules b items = record { more = end ∷ []; tree = done; completes = λ rest. end_defs refl; some = λ e. cc }
can_at (At.Head reader) done h rules b items = then_finish (can_head reader) (λ found. can_first_rule done found)
can_at At.FirstRule done h rules b items = can_first_rule done h
can_at At.Rules done h rules b items = can_rules done h rules
can_at At.Brace done h rules b items = can_brace done h rules
can_at At.Start done h rules b items = can_body done h rules
can_at (At.This this) done h rules b items = can_go_on done h rules (name_of this.now)
can_at (At.Block reader) done h rules b items = then_finish (can_block reader) (λ found. can_items done h rules (Some found) [])
can_at At.Items done h rules b items = can_items done h rules b items
can_at (At.Item reader) done h rules b items = then_finish (can_item reader) (λ item. can_items done h rules b (items ++ item ∷ []))

-- some file goes on after what has been read
pub can_file : (reader : FileReader) → CanFinish (CompletesFile reader)
can_file reader = can_at reader.at reader.done reader.head reader.rules reader.block reader.items
