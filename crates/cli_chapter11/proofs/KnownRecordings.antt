-- A recording that is known by its packets and by those of its run before it.
use Rattle.std.proofs.Common.{ℕ, ◌≡◌, ◌≢◌, ◌<◌, ◌^◌, List, [], ◌∷◌, ◌++◌, length, Option, None, Some, Bool, true, false}
use Rattle.std.proofs.Common.{refl, sym, ◌∙◌, ap, subst, eq-eqb}
use Rattle.std.specs.Prelude.{◌==◌, if◌then◌else◌, IfSome}
use Rattle.std.specs.Ordering.{nat_cmp}
use Rattle.std.specs.BTreeMap.{BTreeMap, get}
use Rattle.std.proofs.lemmas.Bool.{eqb-true}
use Rattle.rec_reader.specs.declared.fault.ReadFaultKind.{ReadFaultKind}
use Rattle.rec_reader.specs.Packets.{PacketData}
use Rattle.rec_reader.specs.Reading.{Reads}
use Rattle.rec_runs.specs.declared.records.RunRecords.{RunRecords}
use Rattle.rec_runs.specs.declared.record_moves.RecordMoves.{RecordMoves}
use Rattle.rec_runs.specs.Moves.{AreRecordMoves}
use Rattle.rec_pieces.specs.declared.listing.PieceListing.{PieceListing}
use Rattle.rec_pieces.specs.ListingEnds.{ListsRecording}
use Rattle.rec_pieces.specs.PieceListings.{listed_channels}
use Rattle.rec_pieces.proofs.ChannelsListed.{listed_are_named}
use Rattle.joined_theorem.specs.RunMoves.{with_one_of}
use Rattle.cli_chapter11.specs.declared.joined_channels.ListedRecording.{ListedRecording}
use Rattle.cli_chapter11.specs.RecordsInRuns.{IsKnownBy, StandForRuns, StandsForRun, is_several}
use Rattle.cli_chapter11.specs.RunParts.{IsPartOfRun}

-- bytes have one reading
abbrev pub OneReading : Type 0
OneReading =
    (bytes : List ℕ) (packets others : List PacketData) (fault other : Option ReadFaultKind) → Reads bytes packets fault → Reads bytes others other
    → (packets ≡ others) × (fault ≡ other)

-- the bytes of its file, if they are said, are these packets, by which it is known
abbrev pub IsKnown : (held : Option (List ℕ)) → (runs : List ℕ) → (old new : BTreeMap ℕ RunRecords) → ListedRecording → Type 0
IsKnown held runs old new listed =
    IfSome held (λ recording. length recording < 2 ^ 64 → (own : List PacketData) × Reads recording own None
    × ((earlier : ℕ → List (List PacketData)) → StandForRuns runs old earlier
    → IsKnownBy runs (earlier listed.run) own listed × StandForRuns runs new (with_one_of listed.run own earlier)))

-- what is found of one that isn't alone in its run
abbrev pub IsFound : (held : Option (List ℕ)) → (old new : BTreeMap ℕ RunRecords) → (run : ℕ) → (part : Option ℕ) → (moves : List RecordMoves) → Type 0
IsFound held old new run part moves =
    IfSome held (λ recording. length recording < 2 ^ 64 → (own : List PacketData) × Reads recording own None × IsPartOfRun own part
    × ((earlier : List (List PacketData)) → StandsForRun (get nat_cmp old run) earlier
    → AreRecordMoves earlier own moves × StandsForRun (get nat_cmp new run) (earlier ++ own ∷ [])))

pub as_listed : (held : Option (List ℕ)) (old kept new : BTreeMap ℕ RunRecords) (run : ℕ) (part : Option ℕ) (moves : List RecordMoves)
    (listed : ListedRecording) → new ≡ kept → listed.run ≡ run → listed.part ≡ part → listed.records.items ≡ moves
    → IsFound held old kept run part moves → IsFound held old new listed.run listed.part listed.records.items
as_listed held old kept new run part moves listed same_kept same_run same_part same_moves found =
    subst (λ l. IsFound held old new listed.run listed.part l) (sym same_moves)
    (subst (λ p. IsFound held old new listed.run p moves) (sym same_part)
    (subst (λ r. IsFound held old new r part moves) (sym same_run)
    (subst (λ k. IsFound held old k run part moves) (sym same_kept) found)))

true_false : true ≡ false → ⊥
true_false is = cc

others_stand : (runs : List ℕ) (old new : BTreeMap ℕ RunRecords) (listed : ListedRecording) (own : List PacketData) (earlier : ℕ → List (List PacketData))
    → StandForRuns runs old earlier
    → (is_several listed.run runs ≡ true → StandsForRun (get nat_cmp new listed.run) (earlier listed.run ++ own ∷ []))
    → ((other : ℕ) → listed.run ≢ other → get nat_cmp new other ≡ get nat_cmp old other)
    → StandForRuns runs new (with_one_of listed.run own earlier)
others_stand runs old new listed own earlier stands here others = λ run several. one run several (listed.run == run) refl
  where
    one : (run : ℕ) → is_several run runs ≡ true → (same : Bool) → (listed.run == run) ≡ same
        → StandsForRun (get nat_cmp new run) (if same then earlier run ++ own ∷ [] else earlier run)
    one run several true same =
        let whose = eqb-true listed.run run same in
        subst (λ r. StandsForRun (get nat_cmp new r) (earlier r ++ own ∷ [])) whose
        (here (ap (λ r. is_several r runs) whose ∙ several))
    one run several false other =
        subst (λ kept. StandsForRun kept (earlier run)) (sym (others run (λ e. true_false (sym (eq-eqb listed.run run e) ∙ other)))) (stands run several)

pub known_of_several : (held : Option (List ℕ)) (runs : List ℕ) (old new : BTreeMap ℕ RunRecords) (listed : ListedRecording) (listing : PieceListing)
    → OneReading → IfSome held (λ bytes. length bytes < 2 ^ 64 → ListsRecording bytes listing)
    → listed.ids.items ≡ listed_channels listing → listed.other ≡ listing.other → is_several listed.run runs ≡ true
    → IsFound held old new listed.run listed.part listed.records.items → ((other : ℕ) → listed.run ≢ other → get nat_cmp new other ≡ get nat_cmp old other)
    → IsKnown held runs old new listed
known_of_several None runs old new listed listing one lists ids other several found others = tt
known_of_several (Some recording) runs old new listed listing one lists ids other several found others = λ few.
    let own = lists few in
    let read = found few in
    let same = (one recording read.0 own.packets None None read.1 own.reads).0 in (
      own.packets,
      own.reads,
      λ earlier stands.
          let moves = read.3 (earlier listed.run) (stands listed.run several) in (
            record {
              ids = ids ∙ listed_are_named own.packets listing own.lists;
              other = other ∙ own.lists.other;
              part = λ its. subst (λ packets. IsPartOfRun packets listed.part) same read.2;
              records = λ its. subst (λ packets. AreRecordMoves (earlier listed.run) packets listed.records.items) same moves.0;
              alone = λ alone. absurd (true_false (sym several ∙ alone));
            },
            others_stand runs old new listed own.packets earlier stands
                (λ its. subst (λ packets. StandsForRun (get nat_cmp new listed.run) (earlier listed.run ++ packets ∷ [])) same moves.1) others,
          ),
    )

pub known_alone : (held : Option (List ℕ)) (runs : List ℕ) (old new : BTreeMap ℕ RunRecords) (listed : ListedRecording) (listing : PieceListing)
    → IfSome held (λ bytes. length bytes < 2 ^ 64 → ListsRecording bytes listing)
    → listed.ids.items ≡ listed_channels listing → listed.other ≡ listing.other → is_several listed.run runs ≡ false
    → listed.part ≡ None → listed.records.items ≡ [] → new ≡ old → IsKnown held runs old new listed
known_alone None runs old new listed listing lists ids other alone part records kept = tt
known_alone (Some recording) runs old new listed listing lists ids other alone part records kept = λ few.
    let own = lists few in (
      own.packets,
      own.reads,
      λ earlier stands. (
        record {
          ids = ids ∙ listed_are_named own.packets listing own.lists;
          other = other ∙ own.lists.other;
          part = λ several. absurd (true_false (sym several ∙ alone));
          records = λ several. absurd (true_false (sym several ∙ alone));
          alone = λ its. (part, records);
        },
        others_stand runs old new listed own.packets earlier stands (λ several. absurd (true_false (sym several ∙ alone)))
            (λ run apart. ap (λ k. get nat_cmp k run) kept),
      ),
    )
