use Rattle.mc_c_parse.proofs.Threads.{if_ok}
use Rattle.mc_c_parse.proofs.item.ItemReader.moved_beside_functions.Goals as goal

pub returns-in-Tag : goal.returns-in-Tag
returns-in-Tag c = rw c.in-Tag.is (if_ok c.item_tag.result (λ step says aliases known. says aliases) c.item_tag.ensures)

pub returns-in-Tagged : goal.returns-in-Tagged
returns-in-Tagged c = rw c.in-Tagged.is c.item_tagged.ensures

pub returns-in-Struct : goal.returns-in-Struct
returns-in-Struct c = rw c.in-Struct.is c.item_struct.ensures

pub returns-in-Closing : goal.returns-in-Closing
returns-in-Closing c = λ aliases known. rw c.in-Closing.is (c.item_closing.ensures aliases _ c.requires.class)

pub returns-in-Typedef : goal.returns-in-Typedef
returns-in-Typedef c = rw c.in-Typedef.is c.item_typedef.ensures

pub unreachable-requires : goal.unreachable-requires
unreachable-requires c = c.requires.beside (rw c.in-Function.is tt)
