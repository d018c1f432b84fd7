use Rattle.std.proofs.Common.{List, refl, subst, sym, inl, inr, ◌∙◌, map, ap}
use Rattle.std.specs.List.{flat_map}
use Rattle.std.proofs.KnownBytes.{Appends-nil}
use Rattle.std.proofs.lemmas.Result.{err_from_is_err_and}
use Rattle.ch11_clock.specs.declared.origin.Origin.{Origin}
use Rattle.ch11_index.specs.declared.index.TheConstants.{MOST_NAMED}
use Rattle.ch11_setup.specs.Setups.{given_attribute}
use Rattle.rec_pieces.specs.Entries.{AreThere}
use Rattle.rec_joined.specs.JoinedPackets.{AreParts, joined_packets}
use Rattle.rec_whole.specs.WholeRecordings.{WholeFails, WritesRecording}
use Rattle.rec_words.specs.SetupViews.{attribute_data}
use Rattle.cli_chapter11.specs.JoinedFiles.{joined_data}
use Rattle.cli_chapter11.specs.Joining.{name_by_table, packets_there}
use Rattle.cli_chapter11.specs.WholeFiles.{channel_said}
use Rattle.cli_chapter11.proofs.joined_file.write_once.Goals as goal

pub returns-in_err-attributes : goal.returns-in_err-attributes
returns-in_err-attributes g c =
    let p = err_from_is_err_and c.from_residual.result c.from_residual.ensures.1 in
    rw (p.1, p.2) (c.args.output, λ read is. inl (refl, Appends-nil _))

pub returns-in_err-clock : goal.returns-in_err-clock
returns-in_err-clock g c =
    let p = err_from_is_err_and c.from_residual-in_err-clock.result c.from_residual-in_err-clock.ensures.1 in
    rw (p.1, p.2) (c.args.output, λ read is. inl (refl, Appends-nil _))

pub returns-in_err-channels : goal.returns-in_err-channels
returns-in_err-channels g c =
    let p = err_from_is_err_and c.from_residual-in_err-channels.result c.from_residual-in_err-channels.ensures.1 in
    rw (p.1, p.2) (c.args.output, λ read is. inl (refl, Appends-nil _))

pub names_of-names-requires : goal.names_of-names-requires
names_of-names-requires g c = ap (map given_attribute) c.as_slice-3.ensures.value
    ∙ (c.in_ok-attributes.ensures ∙ ap (map attribute_data) c.as_slice.ensures.value)

pub returns-in-Ok : goal.returns-in-Ok
returns-in-Ok g c = λ read is. (
    let file = c.args.file.now in
    let there = c.new-packets.ensures read
    (subst (λ l. AreParts (packets_there g.F.PlacedRead.held) 0 l read) (sym c.as_slice-4.ensures.value) is.parts) in (
      c.names_of-names.result,
      c.names_of-names.ensures (joined_data (flat_map (name_by_table file.tables.now file.all.now) file.channels.now))
          (ap (map channel_said) c.as_slice-2.ensures.value ∙ c.in_ok-channels.ensures),
      subst (λ (rules : List Origin). WritesRecording (joined_packets file.joined.now.parts.items read) c.names_of-names.result rules MOST_NAMED
          (g.W.Write.contents c.args.output) (g.W.Write.contents c.write_whole_file-written.new.out.out) c.in-Ok.counts)
          c.in_ok-clock.ensures.held
          (c.in-Ok.ensures there.0 (joined_packets file.joined.now.parts.items read) there.1
          (subst (λ l. AreThere there.0 (joined_packets l read)) c.as_slice-4.ensures.value there.2) is.lists),
    ))

pub returns : goal.returns
returns g c = (
  c.write_whole_file-written.new.out.out,
  λ read is. (
      let file = c.args.file.now in
      let there = c.new-packets.ensures read
      (subst (λ l. AreParts (packets_there g.F.PlacedRead.held) 0 l read) (sym c.as_slice-4.ensures.value) is.parts) in
      inr (
        c.names_of-names.result,
        c.names_of-names.ensures (joined_data (flat_map (name_by_table file.tables.now file.all.now) file.channels.now))
            (ap (map channel_said) c.as_slice-2.ensures.value ∙ c.in_ok-channels.ensures),
        subst (λ (rules : List Origin). WholeFails (joined_packets file.joined.now.parts.items read) c.names_of-names.result rules MOST_NAMED
            (g.W.Write.contents c.args.output) (g.W.Write.contents c.write_whole_file-written.new.out.out) c.in-Err.end)
            c.in_ok-clock.ensures.held
            (c.in-Err.ensures there.0 (joined_packets file.joined.now.parts.items read) there.1
            (subst (λ l. AreThere there.0 (joined_packets l read)) c.as_slice-4.ensures.value there.2) is.lists),
      )),
)
