use Rattle.std.proofs.Common.{◌≡◌, ◌∷◌, ◌++◌, [], true, ◌∙◌, ap, sym, subst, inl}
use Rattle.std.proofs.lemmas.List.{append-nil}
use Rattle.rtrb.specs.Ring.{sent}
use Rattle.eth_frame.specs.Views.{frame_data}
use Rattle.rec_lane.specs.declared.piece.Piece.TheVariants.{Data}
use Rattle.rec_lane.specs.Views.{packet_pieces}
use Rattle.rec_run.specs.VersionsMet.{is_last_met}
use Rattle.rec_run.specs.WorkerRuns.{versions_met}
use Rattle.rec_run.specs.WorkerSteps.{met_by}
use Rattle.rec_run.proofs.Taking.{takes_whole, takes_part, known_offers}
use Rattle.rec_run.proofs.worker.step.record_known.Goals as goal

pub returns-in-None-clause-records : goal.returns-in-None-clause-records
returns-in-None-clause-records g c =
    let v = c.in-Some.version in
    let o = c.offer_known-packet.ensures in
    let current = sym c.is_current.ensures.current ∙ c.if-not-is_current.false in
    let last = subst (λ ms. is_last_met (versions_met ms) v ≡ true) c.as_slice.ensures.value c.in-Some.ensures.met in
    let offers = known_offers c.args.worker.now.lane c.offer_known-packet.new.self (met_by c.args.worker.now) (frame_data c.args.frame.now) v
    c.offer_known-packet.result.value c.offer_known-packet.result.packet [] last (ap packet_pieces c.in-None.is) (o.value v [] current)
    (o.met v [] current) (o.pieces v [] current) o.settings in
    takes_whole _ _ _ _ _ (sent c.args.worker.now.ring) (sent c.args.worker.now.ring) [] offers (sym (append-nil _))

pub returns-then-send-clause-records : goal.returns-then-send-clause-records
returns-then-send-clause-records g c =
    let v = c.in-Some.version in
    let o = c.offer_known-packet.ensures in
    let current = sym c.is_current.ensures.current ∙ c.if-not-is_current.false in
    let last = subst (λ ms. is_last_met (versions_met ms) v ≡ true) c.as_slice.ensures.value c.in-Some.ensures.met in
    let offers = known_offers c.args.worker.now.lane c.offer_known-packet.new.self (met_by c.args.worker.now) (frame_data c.args.frame.now) v
    c.offer_known-packet.result.value c.offer_known-packet.result.packet (Data c.in-Some-packet.packet ∷ []) last (ap packet_pieces c.in-Some-packet.is)
    (o.value v [] current) (o.met v [] current) (o.pieces v [] current) o.settings in
    takes_whole _ _ _ _ _ (sent c.args.worker.now.ring) (sent c.send.new.ring) (Data c.in-Some-packet.packet ∷ []) offers (c.send.ensures.went c.if-send.true)

pub returns-else-send-clause-records : goal.returns-else-send-clause-records
returns-else-send-clause-records g c =
    let v = c.in-Some.version in
    let o = c.offer_known-packet.ensures in
    let current = sym c.is_current.ensures.current ∙ c.if-not-is_current.false in
    let last = subst (λ ms. is_last_met (versions_met ms) v ≡ true) c.as_slice.ensures.value c.in-Some.ensures.met in
    let offers = known_offers c.args.worker.now.lane c.offer_known-packet.new.self (met_by c.args.worker.now) (frame_data c.args.frame.now) v
    c.offer_known-packet.result.value c.offer_known-packet.result.packet (Data c.in-Some-packet.packet ∷ []) last (ap packet_pieces c.in-Some-packet.is)
    (o.value v [] current) (o.met v [] current) (o.pieces v [] current) o.settings in (
      tt,
      inl (takes_part _ _ _ _ _ (sent c.args.worker.now.ring) (sent c.send.new.ring) (Data c.in-Some-packet.packet ∷ []) offers
          (Data c.in-Some-packet.packet ∷ [], ap (λ ps. ps ++ Data c.in-Some-packet.packet ∷ []) (c.send.ensures.kept c.if-send.false))),
    )
