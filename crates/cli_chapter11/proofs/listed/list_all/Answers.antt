use Rattle.std.proofs.Common.{ℕ, ◌≡◌, ◌∙◌, ◌<◌, ◌∷◌, ◌++◌, [], List, ap, sym, subst, length, map, take, arith}
use Rattle.std.specs.Ordering.{nat_cmp}
use Rattle.std.specs.BTreeMap.{get}
use Rattle.std.proofs.lemmas.List.{map-append, take_all, take_more}
use Rattle.rec_reader.specs.Packets.{PacketData}
use Rattle.joined_theorem.specs.RunMoves.{with_one_of}
use Rattle.cli_chapter11.specs.declared.joined_channels.ListedRecording.{ListedRecording}
use Rattle.cli_chapter11.specs.Joining.{AreReadings}
use Rattle.cli_chapter11.specs.RecordsInRuns.{AreListedIn, StandsForRun, run_of_listed}
use Rattle.cli_chapter11.proofs.JoinedRecordings.{held_at, held_len, readings_more}
use Rattle.cli_chapter11.proofs.KnownRecordings.{IsKnown}
use Rattle.cli_chapter11.proofs.RecordsInRuns.{after_snoc, listed_after, listed_snoc}
use Rattle.cli_chapter11.proofs.listed.list_all.Goals as goal

pub recordings-preserved : goal.recordings-preserved
recordings-preserved g c =
    let held = g.F.PlacedRead.held in
    let files = c.args.files.now in
    let runs = c.args.runs.now in
    let k = c.recordings.place in
    let all : List ListedRecording = c.recordings.all.items in
    let listed : ListedRecording = c.in_ok-known_at.field-0 in
    let pushed = c.in_ok-push.ensures.items in
    let within : k < length files = omega (arith, c.recordings-test.true, c.requires.files) in (
      ap (map run_of_listed) pushed ∙ map-append run_of_listed all (listed ∷ [])
          ∙ ap (λ l. l ++ listed.run ∷ []) c.recordings.invariant.0
          ∙ ap (λ r. take k runs ++ r ∷ []) c.in_ok-known_at.ensures.run
          ∙ sym (take_more runs k 0 (omega (arith, c.recordings-test.true, c.requires.runs))),
      λ bytes are.
          let so = c.recordings.invariant.1 bytes are in
          let read : List (List PacketData) = so.0 in
          let at = held_at held files bytes k c.index-files-place.result are within c.index-files-place.is in
          let known : IsKnown (held c.index-files-place.result) runs c.recordings.kept c.known_at.new.kept listed = c.in_ok-known_at.ensures.known in
          let found = subst (λ h. IsKnown h runs c.recordings.kept c.known_at.new.kept listed) at.said known at.few in
          let own : List PacketData = found.0 in
          let both = found.2 (listed_after (λ run. []) all read) so.3 in
          let after : listed_after (λ run. []) c.push.new.self.items (read ++ own ∷ [])
          ≡ with_one_of listed.run own (listed_after (λ run. []) all read) =
          ap (λ (l : List ListedRecording). listed_after (λ run. []) l (read ++ own ∷ [])) pushed
          ∙ after_snoc runs (λ run. []) all read listed own so.2 in (
            read ++ own ∷ [],
            readings_more held c.index-files-place.result bytes k read own at so.1 found.1,
            subst (λ (l : List ListedRecording). AreListedIn runs (λ run. []) l (read ++ own ∷ [])) (sym pushed)
                (listed_snoc runs (λ run. []) all read listed own so.2 both.0),
            λ run several.
                subst (λ (recordings : ℕ → List (List PacketData)). StandsForRun (get nat_cmp c.known_at.new.kept run) (recordings run))
                (sym after) (both.1 run several),
          ),
    )

pub returns-clause-known : goal.returns-clause-known
returns-clause-known g c = λ bytes are.
    let so = c.recordings.invariant.1 bytes are in
    let many = held_len g.F.PlacedRead.held c.args.files.now bytes are in
    let all = take_all c.recordings.place bytes (omega (arith, c.recordings-test.false, many, c.requires.files)) in
    (so.0, subst (λ l. AreReadings l so.0) all so.1, so.2)
