use Rattle.std.proofs.Common.{map}
use Rattle.ch11_file.specs.FileBlocks.{item_of}
use Rattle.ch11_file.proofs.GoingOut.{length-block}
use Rattle.ch11_file.proofs.FileMerges.{file_indexed}
use Rattle.ch11_file.proofs.laws.a_whole_file_is_indexed.Goals as goal

pub returns : goal.returns
returns c = record {
  indexed = file_indexed;
  packets = λ facts blocks whole. c.an_index_names_all.ensures.packets facts.most (map item_of blocks) (file_indexed facts blocks whole);
  ends = λ facts blocks whole. c.an_index_names_all.ensures.ends facts.most (map item_of blocks) (file_indexed facts blocks whole);
  chain = λ facts blocks whole. c.an_index_names_all.ensures.chain facts.most (map item_of blocks) (file_indexed facts blocks whole);
  within = λ facts blocks some whole. c.an_index_names_all.ensures.within facts.most (map item_of blocks) some (file_indexed facts blocks whole);
  places = length-block;
  nodes = λ facts blocks whole. c.an_index_names_all.ensures.nodes facts.most (map item_of blocks) (file_indexed facts blocks whole);
}
