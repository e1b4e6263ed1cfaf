-- `descending::tree/rename_tree` meets its contract. Assumes nothing.
use Rattle.names.specs.bridge.Names.{sizes_of}
use Rattle.descending.proofs.Whole as L
use Rattle.descending.proofs.tree.rename_tree.Goals as goal

pub slice_bounds-rename_in_graph_pattern-end : goal.slice_bounds-rename_in_graph_pattern-end
slice_bounds-rename_in_graph_pattern-end c = L.take_long _ _ c.requires.2.few

pub slice_bounds-rename_in_graph_pattern-end-3 : goal.slice_bounds-rename_in_graph_pattern-end-3
slice_bounds-rename_in_graph_pattern-end-3 c = L.take_long _ _ c.requires.1

pub returns : goal.returns
returns c =
    let a = c.args in L.tree-renamed a.words.now a.nodes.now a.m (sizes_of a.news.now) a.spots.now a.k _ _ _ c.requires.2.few c.requires.1 c.requires.2.whole c.requires.2.none c.rename_in_graph_pattern.ensures
