use Rattle.std.proofs.Common.{◌<◌, ◌^◌, length, arith}
use Rattle.rec_pieces.specs.Entries.{places_of}
use Rattle.test_whole.proofs.FileOfBytes.{file_written}
use Rattle.test_whole.proofs.written.whole_file_of.Goals as goal

pub returns-in-Ok-write_whole_file : goal.returns-in-Ok-write_whole_file
returns-in-Ok-write_whole_file c =
    let few : length c.args.recording.now < 2 ^ 64 = omega arith in
    let listed = c.in-Ok.ensures.whole c.args.recording.now (c.new-reader.ensures.stands few) in
    file_written c.a_whole_file_is_read_back.ensures.read c.a_whole_file_is_read_back.ensures.same c.a_whole_file_is_read_back.ensures.no_fault
    c.args.recording.now c.new-file.result.items c.write_whole_file.new.out.items listed.packets c.args.names.now c.args.clock.now c.args.most
    c.in-Ok-write_whole_file._counts c.new-file.ensures.items listed.reads
    (c.in-Ok-write_whole_file.ensures (places_of c.args.recording.now) listed.packets c.new-packets.ensures
    (c.packets_are_read_at_their_places.ensures c.args.recording.now listed.packets listed.reads) listed.lists)
