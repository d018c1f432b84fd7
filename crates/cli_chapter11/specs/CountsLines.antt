-- What `chapter11` prints.
use Rattle.std.specs.Prelude.{ℕ, codes, List, [], ◌∷◌, ◌++◌}
use Rattle.std.specs.Fmt.{decimal}
use Rattle.ch11_file.specs.declared.counts.FileCounts.{FileCounts}
use Rattle.rec_stream.specs.declared.counts.StreamCounts.{StreamCounts}

-- how many time packets, packets of frames, records and packets of the index a file has, and its
-- bytes
abbrev pub counts_line : FileCounts → List ℕ
counts_line counts =
    codes "times " ++ (decimal counts.times ++ (codes " packets " ++ (decimal counts.packets
    ++ (codes " records " ++ (decimal counts.records ++ (codes " index " ++ (decimal counts.index
    ++ (codes " bytes " ++ (decimal counts.bytes ++ (10 ∷ []))))))))))

-- how many packets of frames, records and time packets a stream has, how many late pieces, and how
-- many packets of other kinds its recording
abbrev pub stream_line : StreamCounts → List ℕ
stream_line counts =
    codes "packets " ++ (decimal counts.packets ++ (codes " records " ++ (decimal counts.records
    ++ (codes " times " ++ (decimal counts.times ++ (codes " late " ++ (decimal counts.late
    ++ (codes " other " ++ (decimal counts.other ++ (10 ∷ []))))))))))
