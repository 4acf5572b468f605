-- What the laws of steps rest on.
use Rattle.mc_flow.specs.Heap.PartLaws.{SplitCommutes, SplitDropsEmpty, SplitAddsEmpty, InsertChanges, RemoveChanges, InsertKeepsAddresses, RemoveKeepsAddresses, CellIsRead, CellIsAdded, CellIsReplaced, CellIsRemoved}
use Rattle.mc_flow.specs.Heap.Adding.{BlocksAreAdded, BlocksKeepAddresses}
use Rattle.mc_state.specs.Laws.{DerivedIsTrue, NodesAreAdded, NodesHaveValues, AtomsAreAdded, VarIsSet, VarIsForgotten, VarIsKnown, EdgesAreTaken, EdgesArePut, EdgeIsReplaced, VarStaysBounded, NodesStayBounded, NewNodesAreThere, AtomsStayBounded, EdgesStayBounded, FewerEdgesStayBounded, ReplacedStaysBounded, NodesAreBelow, NewNodesHaveKinds, ValuesAgree, WholeWithoutEdges}

-- how numbers stay in their bounds
pub record BoundLaws : Type 0 where
  pub var : VarStaysBounded
  pub nodes : NodesStayBounded
  pub atoms : AtomsStayBounded
  pub edges : EdgesStayBounded
  pub fewer_edges : FewerEdgesStayBounded
  pub replaced : ReplacedStaysBounded
  pub new : NewNodesAreThere
  pub below : NodesAreBelow

-- how states stay well made
pub record MadeLaws : Type 0 where
  pub bounds : BoundLaws
  pub kinds : NewNodesHaveKinds

-- how what stands for a state stands for a changed one
pub record StateLaws : Type 0 where
  pub derived : DerivedIsTrue
  pub nodes : NodesAreAdded
  pub values : NodesHaveValues
  pub agree : ValuesAgree
  pub atoms : AtomsAreAdded
  pub set : VarIsSet
  pub forgotten : VarIsForgotten
  pub known : VarIsKnown
  pub taken : EdgesAreTaken
  pub put : EdgesArePut
  pub replaced : EdgeIsReplaced
  pub whole : WholeWithoutEdges

-- how heaps and their parts change
pub record HeapLaws : Type 0 where
  pub commutes : SplitCommutes
  pub drops_empty : SplitDropsEmpty
  pub adds_empty : SplitAddsEmpty
  pub insert : InsertChanges
  pub remove : RemoveChanges
  pub insert_keeps : InsertKeepsAddresses
  pub remove_keeps : RemoveKeepsAddresses
  pub read : CellIsRead
  pub added : CellIsAdded
  pub replaced : CellIsReplaced
  pub removed : CellIsRemoved
  pub blocks : BlocksAreAdded
  pub blocks_keep : BlocksKeepAddresses

pub record StepLaws : Type 0 where
  pub bounds : BoundLaws
  pub states : StateLaws
  pub heaps : HeapLaws
