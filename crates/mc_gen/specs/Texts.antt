-- The texts of programs that are made, and of their definitions.
use Rattle.std.specs.Prelude.{◌++◌, ℕ, zero, suc, List, [], ◌∷◌, Option, None, Some, codes}
use Rattle.std.specs.Fmt.{decimal}
use Rattle.mc_gen.specs.declared.kinds.BlockKind.{BlockKind}
use Rattle.mc_gen.specs.declared.kinds.BlockKind.TheVariants.{Walk, Build, Turns, Unchecked, Descend}

-- a text as a line
abbrev pub line : List ℕ → List ℕ
line text = text ++ codes "\n"

-- the kind that a number below 5 stands for
abbrev pub kind_of : ℕ → BlockKind
kind_of zero = Walk
kind_of (suc zero) = Build
kind_of (suc (suc zero)) = Turns
kind_of (suc (suc (suc zero))) = Unchecked
kind_of (suc (suc (suc (suc n)))) = Descend

-- the number that stands for a kind
abbrev pub number_of : BlockKind → ℕ
number_of Walk = 0
number_of Build = 1
number_of Turns = 2
number_of Unchecked = 3
number_of Descend = 4

-- a block up to the number in it, or whole where it has none. It goes through a list; builds one; takes and frees ten blocks;
-- writes into a block without asking whether it is there; goes down a tree
unfoldable pub front_text : BlockKind → List ℕ
front_text Walk = codes "{ struct node *l; struct node *c; assume_shape(list, l); c = l; while (c) c = c->next; }"
front_text Build =
    codes "{ struct node *l = NULL; while (input() != 0) { struct node *c = malloc(sizeof(struct node)); "
    ++ codes "if (c == NULL) break; c->data = "
front_text Turns =
    codes "{ int i = 0; while (i < 10) { struct node *p = malloc(sizeof(struct node)); "
    ++ codes "if (p != NULL) { p->data = i; free(p); } i++; } }"
front_text Unchecked = codes "{ struct node *p = malloc(sizeof(struct node)); p->data = "
front_text Descend = codes "{ struct t *a; assume_shape(tree, a); while (a) a = a->l; }"

-- what stands behind that number
unfoldable pub back_text : BlockKind → Option (List ℕ)
back_text Walk = None
back_text Build = Some (codes "; c->next = l; l = c; } assert_shape(list, l); }")
back_text Turns = None
back_text Unchecked = Some (codes "; free(p); }")
back_text Descend = None

-- a number and what stands behind it
abbrev pub number_text : ℕ → Option (List ℕ) → List ℕ
number_text number None = []
number_text number (Some back) = decimal number ++ back

-- the block of a kind which is the one of this number in its program
abbrev pub block_text : BlockKind → ℕ → List ℕ
block_text kind number = front_text kind ++ number_text number (back_text kind)

-- the blocks of these kinds, from one of this number on, a line each
abbrev pub blocks_text : (number : ℕ) → List BlockKind → List ℕ
blocks_text number [] = []
blocks_text number (kind ∷ kinds) = line (block_text kind number) ++ blocks_text (suc number) kinds

-- what stands before the blocks
abbrev pub opening : List ℕ
opening =
    codes "struct node { int data; struct node *next; };\nstruct t { struct t *l; struct t *r; };\nint main() {\n"

-- the program whose blocks are of these kinds
abbrev pub program_text : List BlockKind → List ℕ
program_text kinds = opening ++ blocks_text 1 kinds ++ codes "return 0;\n}\n"

-- the definitions of all programs: lists and trees
abbrev pub definitions_text : List ℕ
definitions_text =
    line (codes "def list(this) { rule { this = 0; } rule { this -> node { data: _, next: n }; list(n); } }")
    ++ line (codes "def tree(this) { rule { this = 0; } rule { this -> t { l: x, r: y }; tree(x); tree(y); } }")
