-- Which channels are named.
use Rattle.std.proofs.Common.{ℕ, ◌+◌, ◌≡◌, ◌<◌, ◌^◌, List, [], ◌∷◌, ◌++◌, true, false, length, refl, sym, ◌∙◌, ap, subst, append-nil}
use Rattle.std.specs.Prelude.{cond}
use Rattle.std.proofs.lemmas.List.{length-map}
use Rattle.ch11_setup.specs.declared.setup.SetupChannel.{SetupChannel}
use Rattle.rec_pieces.proofs.ChannelsListed.{more}
use Rattle.ch11_channels.specs.FreeIds.{IsLeastFree}
use Rattle.rec_whole.specs.NamedChannels.{AreNamed, name_of, name_said}
use Rattle.rec_whole.proofs.FreeChannels.{fewer, from_none}
use Rattle.rec_stream.specs.StreamChannels.{is_said, said_below, said_ids}

pub none_said : (channels : List SetupChannel) → said_below channels 0 ≡ []
unfolding said_below
none_said channels = refl

pub one_said : (channels : List SetupChannel) (n : ℕ) → is_said channels n ≡ true → said_below channels (n + 1) ≡ said_below channels n ++ n ∷ []
unfolding said_below
one_said channels n is = more (is_said channels) n ∙ ap (λ b. said_below channels n ++ cond b (n ∷ []) []) is

pub same_said : (channels : List SetupChannel) (n : ℕ) → is_said channels n ≡ false → said_below channels (n + 1) ≡ said_below channels n
unfolding said_below
same_said channels n is =
    more (is_said channels) n ∙ ap (λ b. said_below channels n ++ cond b (n ∷ []) []) is ∙ append-nil (said_below channels n)

few_ids : (channels : List SetupChannel) (id : ℕ) → IsLeastFree (is_said channels) id → length (said_ids channels) < 2 ^ 16
unfolding said_below
few_ids channels id free = fewer (is_said channels) 0 (2 ^ 16) id free.is_id (ap (is_said channels) (from_none id) ∙ free.free)

pub few_channels : (names channels : List SetupChannel) (id : ℕ) → IsLeastFree (is_said names) id → AreNamed names (said_ids names) channels
    → length channels < 2 ^ 16
few_channels names channels id free are =
    subst (λ n. n < 2 ^ 16) (sym (sym (length-map channels name_said) ∙ ap length are ∙ length-map (said_ids names) (name_of names)))
    (few_ids names id free)
