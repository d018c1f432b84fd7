use Rattle.std.proofs.Common.{◌+◌, ◌∙◌, ◌++◌, ◌∷◌, [], ℕ, Option, Ok, ap, refl, subst, sym}
use Rattle.std.specs.Prelude.{Result, Err, IfOk}
use Rattle.rec_reader.specs.Packets.{PacketData, packets_len}
use Rattle.rec_reader.specs.Readers.{HasRead, Tells, given_by}
use Rattle.rec_runs.specs.RunsRead.{RunStandsFor}
use Rattle.rec_joined.proofs.ListedSoFar.{len_more}
use Rattle.cli_chapter11.specs.RunParts.{IsJudgedSoFar}
use Rattle.cli_chapter11.proofs.run_records.read_part.Goals as goal

-- what is said of the part that is found holds with what is known beside it
with_part : {E : Type 0} (result : Result (Option ℕ) E) (P Q : Option ℕ → Type 0) → ((part : Option ℕ) → P part → Q part) → IfOk result P → IfOk result Q
with_part (Ok part) P Q so holds = so part holds
with_part (Err end) P Q so holds = tt

pub packets-init : goal.packets-init
packets-init g c = λ recording begins. ([], begins, (c.new-auditor.ensures.stands, c.new-auditor.ensures.works), refl, λ earlier stands. stands)

pub returns-in_default : goal.returns-in_default
returns-in_default g c = with_part c.part_by.result _ _ (λ part is recording begins. (let had = c.packets.invariant recording begins in (
  had.0,
  subst (λ taken. Tells recording had.0 (Ok taken)) c.in_default.is (c.in_ok-owned.ensures.tells recording had.0 had.1),
  is had.0 had.2 had.3,
  had.4,
))) c.part_by.ensures

pub packets-preserved : goal.packets-preserved
packets-preserved g c = λ recording begins. (let had = c.packets.invariant recording begins in (
  had.0 ++ c.in-Some.owned ∷ [],
  subst (HasRead recording (had.0 ++ c.in-Some.owned ∷ [])) (sym c.give_back.ensures.same)
      (subst (λ taken. HasRead recording (had.0 ++ given_by (Ok taken)) c.next.new.self) c.in-Some.is
      (c.in_ok-owned.ensures.stands recording had.0 had.1)),
  subst (λ (p : PacketData). IsJudgedSoFar (had.0 ++ p ∷ []) c.judged-failed.new.auditor c.judged-failed.result) c.packet-packet.ensures.same
      (c.judged-failed.ensures had.0 had.2),
  c.in-Some-checked_add.ensures.1 ∙ ap (λ n. n + c.packet-packet.result.header.packet_len) had.3
      ∙ ap (λ (p : PacketData). packets_len had.0 + p.header.packet_len) c.packet-packet.ensures.same ∙ sym (len_more had.0 c.in-Some.owned),
  λ earlier stands. subst (λ (p : PacketData). RunStandsFor c.take.new.self earlier (had.0 ++ p ∷ [])) c.packet-packet.ensures.same
      (c.in_ok-take.ensures.taken earlier had.0 (had.4 earlier stands)),
))
