use Rattle.std.proofs.Common.{◌≢◌, ◌∙◌, ap, sym, subst, get_or}
use Rattle.std.specs.Ordering.{nat_cmp}
use Rattle.std.specs.BTreeMap.{get}
use Rattle.cli_chapter11.specs.declared.joined_channels.ListedRecording.{ListedRecording}
use Rattle.cli_chapter11.specs.RecordsInRuns.{is_several}
use Rattle.cli_chapter11.proofs.KnownRecordings.{IsKnown, as_listed, known_alone, known_of_several}
use Rattle.cli_chapter11.proofs.listed.known_at.Goals.{then-is_of_several+in_ok-found, else-is_of_several}
use Rattle.cli_chapter11.proofs.listed.known_at.Goals as goal

pub returns-clause-known : goal.returns-clause-known
returns-clause-known g c =
    let held = g.F.PlacedRead.held c.args.file.now in
    let runs = c.args.runs.now in
    let run = get_or runs c.args.place 0 in
    let old = c.args.kept.now in
    let new = c.if-is_of_several.kept in
    let listed : ListedRecording = c.if-is_of_several.listed in
    let listing = c.in_ok-listing.listing in
    let known : IsKnown held runs old new listed = elim c.if-is_of_several.branch [
      | then-is_of_several+in_ok-found w ↦
          let same_run = ap (λ (l : ListedRecording). l.run) w.listed-is in
          known_of_several held runs old new listed listing c.bytes_have_one_reading.ensures.one c.in_ok-listing.ensures
          (ap (λ (l : ListedRecording). l.ids.items) w.listed-is ∙ c.in_ok-channels.ensures)
          (ap (λ (l : ListedRecording). l.other) w.listed-is ∙ c.other.ensures)
          (ap (λ r. is_several r runs) same_run ∙ sym c.is_of_several.ensures ∙ w.if-is_of_several.true)
          (as_listed held old w.read_in_run.new.kept new run w.in_ok-found.found.part w.in_ok-found.found.records.items listed w.kept-is
          same_run (ap (λ (l : ListedRecording). l.part) w.listed-is) (ap (λ (l : ListedRecording). l.records.items) w.listed-is)
          w.in_ok-found.ensures.found)
          (λ other apart.
          ap (λ k. get nat_cmp k other) w.kept-is
          ∙ w.in_ok-found.ensures.others other (subst (λ r. r ≢ other) same_run apart))
      | else-is_of_several w ↦
          known_alone held runs old new listed listing c.in_ok-listing.ensures
          (ap (λ (l : ListedRecording). l.ids.items) w.listed-is ∙ c.in_ok-channels.ensures)
          (ap (λ (l : ListedRecording). l.other) w.listed-is ∙ c.other.ensures)
          (ap (λ (l : ListedRecording). is_several l.run runs) w.listed-is ∙ sym c.is_of_several.ensures ∙ w.if-is_of_several.false)
          (ap (λ (l : ListedRecording). l.part) w.listed-is)
          (ap (λ (l : ListedRecording). l.records.items) w.listed-is ∙ c.new.ensures.items)
          w.kept-is
    ] in known
