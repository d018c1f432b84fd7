-- The packets of a recording, one by one.
use Rattle.std.proofs.Common.{◌≡◌, ℕ, zero, suc, ◌+◌, ◌<◌, ◌≤◌, inl, inr, List, [], ◌∷◌, ◌++◌, length, take, drop}
use Rattle.std.proofs.Common.{get_or, Result, Ok, Err, IsErrAnd, OnOk, sym, ap, subst, ◌∙◌, arith}
use Rattle.std.proofs.lemmas.List.{take-append-drop, take_all, map-append}
use Rattle.rec_reader.specs.declared.audits.answer.Audit.{Audit}
use Rattle.rec_reader.specs.declared.audits.answer.AuditFault.{AuditFault}
use Rattle.rec_reader.specs.declared.packet.Packet.{Packet}
use Rattle.rec_reader.specs.Packets.{PacketData}
use Rattle.rec_reader.specs.Channels.{IsNamed}
use Rattle.rec_reader.specs.Audits.{AreApproved, StopsAt, Audits, EndsWell}
use Rattle.rec_reader.specs.Auditors.{Walks}
use Rattle.rec_reader.specs.Views.{packet_data, packets_data}
use Rattle.rec_reader.proofs.Walking.{stops_then}
use Rattle.rec_reader.proofs.Approving.{approved, ends_well}

-- one packet more of the first ones
pub one_more_packet : (items : List Packet) (n : ℕ) (item : Packet) → n < length items → item ≡ get_or items n item
    → packets_data (take n items) ++ packet_data item ∷ [] ≡ packets_data (take (n + 1) items)
one_more_packet [] n item within is = absurd (omega arith)
one_more_packet (p ∷ ps) zero item within is = ap (λ (q : Packet). packet_data q ∷ []) is
one_more_packet (p ∷ ps) (suc n) item within is =
    ap (λ l. packet_data p ∷ l) (one_more_packet ps n item (omega arith) is)
    ∙ ap (λ m. packets_data (take m (p ∷ ps))) (let same : suc (n + 1) ≡ suc n + 1 = omega arith in same)

pub first_and_rest : (items : List Packet) (n : ℕ) → packets_data items ≡ packets_data (take n items) ++ packets_data (drop n items)
first_and_rest items n = ap packets_data (sym (take-append-drop n items)) ∙ map-append packet_data (take n items) (drop n items)

-- a fault among the first packets is the audit's
pub audit_stops : (items : List Packet) (packets : List PacketData) (n : ℕ) (item : Packet) (fault : AuditFault) → packets_data items ≡ packets
    → n < length items → item ≡ get_or items n item
    → Walks (packets_data (take n items) ++ packet_data item ∷ []) (Err fault) → Audits packets (Err fault)
audit_stops items packets n item fault all within is (inl memory) = inl memory
audit_stops items packets n item fault all within is (inr stops) =
    let front = subst (λ ps. StopsAt ps fault) (one_more_packet items n item within is) stops in
    inr (inl (subst (λ ps. StopsAt ps fault) (sym (first_and_rest items (n + 1)) ∙ all)
    (stops_then (packets_data (take (n + 1) items)) (packets_data (drop (n + 1) items)) fault front)))

-- after the last packet
pub audits_all : (items : List Packet) (packets : List PacketData) (n : ℕ) (answer : Result Audit AuditFault) → packets_data items ≡ packets → length items ≤ n
    → Audits (packets_data (take n items)) answer → Audits packets answer
audits_all items packets n answer all end audits = subst (λ ps. Audits ps answer) (ap packets_data (take_all n items end) ∙ all) audits

-- ---- a fault that is passed on

pub passed_on : (packets : List PacketData) (answer : Result Audit AuditFault) (fault : AuditFault) → IsErrAnd answer (λ e. e ≡ fault)
    → Audits packets (Err fault) → Audits packets answer
passed_on packets (Ok audit) fault same audits = absurd same
passed_on packets (Err other) fault same audits = subst (λ f. Audits packets (Err f)) (sym same) audits

-- ---- what a yes means

pub approves : (packets : List PacketData) (answer : Result Audit AuditFault) → Audits packets answer → OnOk answer (AreApproved packets)
approves packets (Ok audit) audits = approved packets audits.passed
approves packets (Err fault) audits = tt

pub ends_are : (packets : List PacketData) (answer : Result Audit AuditFault) → Audits packets answer
    → OnOk answer ((channel : ℕ) → IsNamed channel packets → EndsWell channel packets)
ends_are packets (Ok audit) audits = ends_well packets audit audits
ends_are packets (Err fault) audits = tt
