-- The channels that are kept, packet by packet.
use Rattle.std.proofs.Common.{◌≡◌, ℕ, ◌↔◌, inl, inr, cond, is_some, IsSome, List, [], ◌∷◌, ◌++◌, Option, None, Some, sym, ap, subst, ◌∙◌, eq-eqb, ne_eqb}
use Rattle.std.specs.Prelude.{unwrap_or}
use Rattle.std.specs.Ordering.{nat_cmp}
use Rattle.std.specs.BTreeMap.{BTreeMap, get}
use Rattle.std.proofs.lemmas.Bool.{cases_eq}
use Rattle.rec_reader.specs.declared.audits.channel.ChannelState.{ChannelState}
use Rattle.rec_reader.specs.Packets.{PacketData}
use Rattle.rec_reader.specs.Channels.{Saying, saying_of, Names, IsNamed}
use Rattle.rec_reader.specs.Auditors.{unnamed_state, state_after, IsStateOf, state_of, SetsState, KeepsChannels}
use Rattle.rec_reader.proofs.Walking.{named_then, named_now, named_or_now}
use Rattle.rec_reader.proofs.Keeping.{adds, adds_elsewhere, stays, kept_on}

found : {A : Type 0} (o : Option A) (a : A) → o ≡ Some a → IsSome o
found o a e = ap is_some e

same_channel : (packet : PacketData) (channel named : ℕ) (saying : Saying) → Names packet channel → saying_of packet ≡ Some (named, saying) → named ≡ channel
same_channel packet channel named saying names e =
    let both : ◌≡◌ {A = Option (ℕ × Saying)} (Some (channel, names.0)) (Some (named, saying)) = sym names.1 ∙ e in
    let pair : ◌≡◌ {A = ℕ × Saying} (channel, names.0) (named, saying) = cc in
    sym (ap (λ (p : ℕ × Saying). p.0) pair)

unnamed_packet : (packet : PacketData) (channel : ℕ) → Names packet channel → saying_of packet ≡ None → ⊥
unnamed_packet packet channel names e =
    let both : ◌≡◌ {A = Option (ℕ × Saying)} (Some (channel, names.0)) None = sym names.1 ∙ e in cc

-- a packet that names no channel leaves them
pub channels_stay : (channels : BTreeMap ℕ ChannelState) (packets : List PacketData) (packet : PacketData) → saying_of packet ≡ None
    → KeepsChannels channels packets → KeepsChannels channels (packets ++ packet ∷ [])
channels_stay channels packets packet none keeps = record {
  named = λ channel. (
    λ some. named_then channel packets (packet ∷ []) ((keeps.named channel).0 some),
    λ named. elim (named_or_now channel packets packet named) [
      | inl before ↦ (keeps.named channel).1 before
      | inr names ↦ absurd (unnamed_packet packet channel names none)
    ],
  );
  states = λ channel. stays channel packets packet (state_of channels channel) (adds channel packets packet None none) (keeps.states channel);
}

module _ (old new : BTreeMap ℕ ChannelState) (packets : List PacketData) (packet : PacketData) (channel : ℕ) (saying : Saying)
    (says : saying_of packet ≡ Some (channel, saying)) (keeps : KeepsChannels old packets)
    (sets : SetsState old channel (state_after (state_of old channel) saying) new) where
  set_here : (other : ℕ) → channel ≡ other → get nat_cmp new other ≡ Some (state_after (state_of old channel) saying)
  set_here other e = sets other ∙ ap (λ b. cond b (Some (state_after (state_of old channel) saying)) (get nat_cmp old other)) (eq-eqb channel other e)

  set_elsewhere : (other : ℕ) → (channel ≡ other → ⊥) → get nat_cmp new other ≡ get nat_cmp old other
  set_elsewhere other apart = sets other ∙ ap (λ b. cond b (Some (state_after (state_of old channel) saying)) (get nat_cmp old other))
      (ne_eqb channel other apart)

  named_of : (other : ℕ) → IsSome (get nat_cmp new other) ↔ IsNamed other (packets ++ packet ∷ [])
  named_of other =
      elim (cases_eq channel other) [
        | inl e ↦ (
          λ _. named_now other packets packet (saying, subst (λ c. saying_of packet ≡ Some (c, saying)) e says),
          λ _. found _ _ (set_here other e),
        )
        | inr apart ↦ (
          λ some. named_then other packets (packet ∷ []) ((keeps.named other).0
              (subst (λ (o : Option ChannelState). IsSome o) (set_elsewhere other apart) some)),
          λ named. elim (named_or_now other packets packet named) [
            | inl before ↦ subst (λ (o : Option ChannelState). IsSome o) (sym (set_elsewhere other apart)) ((keeps.named other).1 before)
            | inr names ↦ absurd (apart (same_channel packet other channel saying names says))
          ],
        )
      ]

  states_of : (other : ℕ) → IsStateOf other (packets ++ packet ∷ []) (state_of new other)
  states_of other =
      elim (cases_eq channel other) [
        | inl e ↦ subst (λ (s : ChannelState). IsStateOf other (packets ++ packet ∷ []) s)
            (sym (ap (λ (o : Option ChannelState). unwrap_or o unnamed_state) (set_here other e)))
            (subst (λ (c : ℕ). IsStateOf c (packets ++ packet ∷ []) (state_after (state_of old channel) saying)) e
            (kept_on channel packets packet saying (state_of old channel) says (keeps.states channel)))
        | inr apart ↦ subst (λ (s : ChannelState). IsStateOf other (packets ++ packet ∷ []) s)
            (sym (ap (λ (o : Option ChannelState). unwrap_or o unnamed_state) (set_elsewhere other apart)))
            (stays other packets packet (state_of old other) (adds_elsewhere channel other packets packet saying says apart) (keeps.states other))
      ]

  -- a packet that says something of a channel, which is kept of it
  pub channels_on : KeepsChannels new (packets ++ packet ∷ [])
  channels_on = record { named = named_of; states = states_of }
