use Rattle.std.proofs.Common.{ℕ, ap, subst, ◌∙◌}
use Rattle.std.specs.Prelude.{slice_index}
use Rattle.std.proofs.KnownBytes.{Appends-nil}
use Rattle.ch11_packet.specs.Header.{IsHeader}
use Rattle.ch11_file.specs.FileBlocks.{head_with}
use Rattle.ch11_file.specs.Sending.{SentState}
use Rattle.ch11_file.proofs.sent.Sent.write.Goals as goal

pub returns-then-not-has_room-clause-part : goal.returns-then-not-has_room-clause-part
returns-then-not-has_room-clause-part g c = record {
  header = subst (λ (n : ℕ). IsHeader (head_with c.args.head.channel n c.args.head.counter c.args.head.kind c.args.body.now))
      (c.take-sequence.ensures.number ∙ ap (λ (s : SentState). slice_index s.numbers c.args.head.channel) c.self.view_is)
      c.header_of-header.ensures.valid;
  len = 0;
  grows = Appends-nil _;
}
