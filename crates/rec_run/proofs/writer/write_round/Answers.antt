use Rattle.std.proofs.Common.{◌<◌, ◌∙◌, length, sym, subst, arith}
use Rattle.std.proofs.Math.ListN.{set}
use Rattle.std.proofs.Math.Seq.{map-set_same}
use Rattle.rec_run.specs.declared.writer.Wrote.TheVariants.{Nothing, Piece as PieceWent, Failed}
use Rattle.rec_run.specs.Writer.{channel_at, handle_at, Writes}
use Rattle.rec_run.proofs.Writes.{IsGood, known_at, wrote_so, ready_still}
use Rattle.rec_run.proofs.writer.write_round.Goals as goal
use Rattle.rec_run.proofs.writer.write_round.Goals.{in-Nothing, in-Piece}

pub write_one-requires : goal.write_one-requires
write_one-requires g c =
    let within : c.lines.k < length c.lines.lines = omega (arith, c.lines-test.true, c.lines.auto.lines) in
    known_at c.lines.lines c.lines.k c.index-lines-k.result _ within c.lines.invariant.4.known

pub returns-in-Failed-clause-lines : goal.returns-in-Failed-clause-lines
returns-in-Failed-clause-lines g c =
    let l = c.index-lines-k.result in
    let o = c.write_one.ensures in (
      map-set_same channel_at c.lines.lines c.lines.k c.write_one.new.line l o.channel ∙ c.lines.invariant.0,
      map-set_same handle_at c.lines.lines c.lines.k c.write_one.new.line l o.handle ∙ c.lines.invariant.1,
    )

pub returns-in-Failed-clause-wrote : goal.returns-in-Failed-clause-wrote
returns-in-Failed-clause-wrote g c = λ first w.
    let l = c.index-lines-k.result in
    let i = c.lines.invariant in
    let o = c.in-Failed.ensures in
    let within : c.lines.k < length c.lines.lines = omega (arith, c.lines-test.true, c.lines.auto.lines) in
    wrote_so c.lines.lines c.lines.k l c.write_one.new.line within i.4.distinct o.channel
    (map-set_same channel_at c.lines.lines c.lines.k c.write_one.new.line l o.channel) (Failed c.in-Failed.fault) first
    _ _ _ _ o.version o.wrote (i.6 first w)

pub returns-in-Link-clause-lines : goal.returns-in-Link-clause-lines
returns-in-Link-clause-lines g c =
    let l = c.index-lines-k.result in
    let o = c.write_one.ensures in (
      map-set_same channel_at c.lines.lines c.lines.k c.write_one.new.line l o.channel ∙ c.lines.invariant.0,
      map-set_same handle_at c.lines.lines c.lines.k c.write_one.new.line l o.handle ∙ c.lines.invariant.1,
    )

pub lines-preserved : goal.lines-preserved
lines-preserved g c =
    let l = c.index-lines-k.result in
    let i = c.lines.invariant in
    let o = c.write_one.ensures in
    let within : c.lines.k < length c.lines.lines = omega (arith, c.lines-test.true, c.lines.auto.lines) in
    let same = map-set_same channel_at c.lines.lines c.lines.k c.write_one.new.line l o.channel in (
      same ∙ i.0,
      map-set_same handle_at c.lines.lines c.lines.k c.write_one.new.line l o.handle ∙ i.1,
      o.numbers ∙ i.2,
      o.version ∙ i.3,
      ready_still c.lines.lines c.lines.k c.write_one.new.line c.lines.tape.writer c.write_one.new.tape.writer same o.numbers i.4,
      elim c.match-write_one.branch as (λ _. IsGood c.match-write_one.wrote) [
        | in-Nothing w ↦ subst IsGood (sym w.wrote-is) i.5
        | in-Piece w ↦ subst IsGood (sym w.wrote-is) tt
      ],
      λ first w. elim c.match-write_one.branch
          as (λ _. Writes first c.write_one.new.tape.writer c.write_one.new.tape.bytes (set c.lines.lines c.lines.k c.write_one.new.line)) [
            | in-Nothing b ↦ wrote_so c.lines.lines c.lines.k l c.write_one.new.line within i.4.distinct o.channel same Nothing first
                c.lines.tape.writer c.write_one.new.tape.writer c.lines.tape.bytes c.write_one.new.tape.bytes o.version b.in-Nothing.ensures.wrote (i.6 first w)
            | in-Piece b ↦ wrote_so c.lines.lines c.lines.k l c.write_one.new.line within i.4.distinct o.channel same PieceWent first
                c.lines.tape.writer c.write_one.new.tape.writer c.lines.tape.bytes c.write_one.new.tape.bytes o.version b.in-Piece.ensures.wrote (i.6 first w)
          ],
    )
