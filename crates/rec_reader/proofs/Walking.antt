-- Packets that are judged one after the other.
use Rattle.std.proofs.Common.{ℕ, ◌⊎◌, inl, inr, List, [], ◌∷◌, ◌++◌, None, Some, refl, sym, ap, subst, ◌∙◌}
use Rattle.std.proofs.lemmas.List.{append_assoc}
use Rattle.rec_reader.specs.declared.audits.answer.AuditFault.{AuditFault}
use Rattle.rec_reader.specs.Packets.{PacketData}
use Rattle.rec_reader.specs.Channels.{Names, IsNamed}
use Rattle.rec_reader.specs.Audits.{Judges, EachPasses, StopsAt}
use Rattle.rec_reader.proofs.ListSplits.{not_empty, meets}

-- ---- packets that pass

pub none_pass : EachPasses []
none_pass = λ before packet after e. absurd (not_empty before packet after e)

pub passes_one_more : (packets : List PacketData) (packet : PacketData) → EachPasses packets → Judges packets packet None → EachPasses (packets ++ packet ∷ [])
passes_one_more packets packet passed judged = λ before other after e.
    elim (meets packets packet [] before other after e) [
      | inl same ↦ subst (λ ps. Judges ps other None) same.0 (subst (λ p. Judges packets p None) same.1 judged)
      | inr (inl earlier) ↦ absurd (not_empty earlier.0 other after earlier.2)
      | inr (inr later) ↦ passed before other later.0 later.1
    ]

-- ---- packets that don't

pub stops_now : (packets : List PacketData) (packet : PacketData) (fault : AuditFault) → EachPasses packets → Judges packets packet (Some fault)
    → StopsAt (packets ++ packet ∷ []) fault
stops_now packets packet fault passed judged = record {
  before = packets;
  packet = packet;
  after = [];
  whole = refl;
  passed = passed;
  judged = judged;
}

pub stops_then : (packets more : List PacketData) (fault : AuditFault) → StopsAt packets fault → StopsAt (packets ++ more) fault
stops_then packets more fault stops = record {
  before = stops.before;
  packet = stops.packet;
  after = stops.after ++ more;
  whole = ap (λ ps. ps ++ more) stops.whole ∙ append_assoc stops.before (stops.packet ∷ stops.after) more;
  passed = stops.passed;
  judged = stops.judged;
}

-- ---- channels that are named

pub none_named : (channel : ℕ) → IsNamed channel [] → ⊥
none_named channel named = not_empty named.before named.packet named.after named.whole

pub named_then : (channel : ℕ) (packets more : List PacketData) → IsNamed channel packets → IsNamed channel (packets ++ more)
named_then channel packets more named = record {
  before = named.before;
  packet = named.packet;
  after = named.after ++ more;
  whole = ap (λ ps. ps ++ more) named.whole ∙ append_assoc named.before (named.packet ∷ named.after) more;
  names = named.names;
}

pub named_now : (channel : ℕ) (packets : List PacketData) (packet : PacketData) → Names packet channel → IsNamed channel (packets ++ packet ∷ [])
named_now channel packets packet names = record {
  before = packets;
  packet = packet;
  after = [];
  whole = refl;
  names = names;
}

pub named_or_now : (channel : ℕ) (packets : List PacketData) (packet : PacketData) → IsNamed channel (packets ++ packet ∷ [])
    → IsNamed channel packets ⊎ Names packet channel
named_or_now channel packets packet named =
    elim (meets packets packet [] named.before named.packet named.after named.whole) [
      | inl same ↦ inr (subst (λ p. Names p channel) (sym same.1) named.names)
      | inr (inl earlier) ↦ absurd (not_empty earlier.0 named.packet named.after earlier.2)
      | inr (inr later) ↦ inl (record { before = named.before; packet = named.packet; after = later.0; whole = later.1; names = named.names })
    ]
