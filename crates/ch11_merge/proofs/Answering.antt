-- What is answered, of sources that say their pieces.
use Rattle.std.proofs.Common.{ℕ, ◌≡◌, ◌≢◌, ◌<◌, List, [], ◌∷◌, length, get_or, map, refl, sym, ◌∙◌, ap, subst, All, Some, None, Option}
use Rattle.std.specs.Prelude.{true, false, slice_get, slice_set, IfSome, IsSomeAnd}
use Rattle.std.proofs.lemmas.List.{map-set}
use Rattle.std.proofs.lemmas.Option.{same_Some, none-some, slice_get-get_or}
use Rattle.ch11_merge.specs.declared.source.Head.{Head}
use Rattle.ch11_merge.specs.declared.source.Head.TheVariants.{End}
use Rattle.ch11_merge.specs.declared.channels.MergedChannel.{MergedChannel}
use Rattle.ch11_merge.specs.Merging.{FilePiece, ChannelLeft, head_of, is_ahead, IsNextAt, is_due, TakesPart, channel_with, TimeIsNext, PieceIsNext, NothingLeft}
use Rattle.ch11_merge.specs.Placing.{Said, said_by, said_of, SayLeft, IsLeastIn}
use Rattle.ch11_merge.proofs.Merged.{has_head}
use Rattle.ch11_packet.proofs.ChangedLists.{all_there, all_from_there}
use Rattle.ch11_merge.proofs.Places.{other_there}

-- what an index of a list of channels gives stands there
pub stands_there : {X : Type 0} (items slice : List X) (at : ℕ) (first : X) → slice ≡ items → at < length slice → first ≡ get_or items at first
    → slice_get items at ≡ Some first
stands_there items slice at first same within is =
    slice_get-get_or items at first (subst (λ (xs : List _). at < length xs) same within) ∙ ap Some (sym is)

-- a source stands at the first piece that it says
abbrev pub StandFirst : {S : Type 0} → (S → Option (List FilePiece)) → (S → Head) → Type 0
StandFirst {S} left stands = (s : S) → IfSome (left s) (λ pieces. stands s ≡ head_of pieces)

pub some_at : {X : Type 0} (o : Option X) (P : X → Type 0) (x : X) → o ≡ Some x → IfSome o P → P x
some_at None P x is h = absurd (none-some x is)
some_at (Some y) P x is h = subst P (same_Some y x is) h

-- a channel that says what it has left
pub record SaysLeft {S : Type 0} (left : S → Option (List FilePiece)) (stands : S → Head) (c : MergedChannel S) (l : ChannelLeft) : Type 0 where
  pub left_is : left c.source ≡ Some l.pieces
  pub stands_is : stands c.source ≡ head_of l.pieces
  pub channel_is : c.channel ≡ l.channel

says : {S : Type 0} (left : S → Option (List FilePiece)) (stands : S → Head) → StandFirst left stands → (c : MergedChannel S) (l : ChannelLeft)
    → said_by left c ≡ said_of l → SaysLeft left stands c l
says left stands first c l e =
    let l_is : left c.source ≡ Some l.pieces = ap (λ (s : Said). s.1) e in
    record {
      left_is = l_is;
      stands_is = some_at (left c.source) (λ pieces. stands c.source ≡ head_of pieces) l.pieces l_is (first c.source);
      channel_is = ap (λ (s : Said). s.0) e;
    }

as_said : {S : Type 0} (left : S → Option (List FilePiece)) (stands : S → Head) (e c : MergedChannel S) (d l : ChannelLeft) → SaysLeft left stands e d
    → SaysLeft left stands c l → is_ahead (stands e.source) e.channel (stands c.source) c.channel ≡ false
    → is_ahead (head_of d.pieces) d.channel (head_of l.pieces) l.channel ≡ false
as_said left stands e c d l t s behind = rw (← t.stands_is, ← t.channel_is, ← s.stands_is, ← s.channel_is) behind

-- the least of the sources is the channel that has the next piece
pub record NextSaid {S : Type 0} (left : S → Option (List FilePiece)) (stands : S → Head) (old : List ChannelLeft) (at : ℕ) (c : MergedChannel S) : Type 0 where
  pub of : ChannelLeft
  pub is_next : IsNextAt old at of
  pub says : SaysLeft left stands c of

pub next_said_there : {S : Type 0} (left : S → Option (List FilePiece)) (stands : S → Head) (channels : List (MergedChannel S))
    (old : List ChannelLeft) (at : ℕ) (c : MergedChannel S)
    → StandFirst left stands → SayLeft left channels old → IsLeastIn (λ d. stands d.source) (λ d. d.channel) channels at → slice_get channels at ≡ Some c
    → NextSaid left stands old at c
next_said_there {S = S} left stands channels old at c first said least there =
    let c_is : least.least ≡ c = same_Some least.least c (sym least.there ∙ there) in
    let l = other_there (said_by left) said_of channels old at c said there in
    let s = says left stands first c l.0 l.2 in
    record {
      of = l.0;
      is_next = record {
        there = l.1;
        some = λ none. least.some (ap (λ (d : MergedChannel S). stands d.source) c_is ∙ (s.stands_is ∙ ap head_of none));
        least = all_from_there (λ d. is_ahead (head_of d.pieces) d.channel (head_of l.0.pieces) l.0.channel ≡ false) old (λ k d d_there.
            let e = other_there said_of (said_by left) old channels k d (sym said) d_there in
            let t = says left stands first e.0 d (sym e.2) in
            as_said left stands e.0 c d l.0 t s (subst (λ z. is_ahead (stands e.0.source) e.0.channel (stands z.source) z.channel ≡ false) c_is
            (all_there (λ y. is_ahead (stands y.source) y.channel (stands least.least.source) least.least.channel ≡ false) channels k e.0 least.ahead e.1)));
      };
      says = s;
    }

no_pieces : (pieces : List FilePiece) → head_of pieces ≡ End → pieces ≡ []
no_pieces [] is = refl
no_pieces (p ∷ ps) is = absurd (has_head (p ∷ ps) (λ e. cc) is)

-- no source has a piece
pub nothing_left : {S : Type 0} (left : S → Option (List FilePiece)) (stands : S → Head) (channels : List (MergedChannel S)) (old : List ChannelLeft)
    → StandFirst left stands → SayLeft left channels old → All (λ c. stands c.source ≡ End) channels → NothingLeft old
nothing_left left stands channels old first said none = all_from_there (λ l. l.pieces ≡ []) old (λ k l there.
    let e = other_there said_of (said_by left) old channels k l (sym said) there in
    let t = says left stands first e.0 l (sym e.2) in
    no_pieces l.pieces (sym t.stands_is ∙ all_there (λ c. stands c.source ≡ End) channels k e.0 none e.1))

pub time_next : {S : Type 0} (left : S → Option (List FilePiece)) (stands : S → Head) (old : List ChannelLeft) (at tick : ℕ) (c : MergedChannel S)
    → NextSaid left stands old at c → is_due tick (stands c.source) ≡ true → TimeIsNext tick old
time_next left stands old at tick c n due = record {
  at = at;
  of = n.of;
  is_next = n.is_next;
  due = ap (is_due tick) (sym n.says.stands_is) ∙ due;
}

rest_of : (o : Option (List FilePiece)) (tick : ℕ) (pieces : List FilePiece) (piece : FilePiece) → IsSomeAnd o (TakesPart tick pieces piece)
    → (rest : List FilePiece) × (o ≡ Some rest) × TakesPart tick pieces piece rest
rest_of None tick pieces piece t = absurd t
rest_of (Some rest) tick pieces piece t = (rest, refl, t)

said_same : {S : Type 0} (left : S → Option (List FilePiece)) (d : MergedChannel S) (channel : ℕ) (rest : List FilePiece) → d.channel ≡ channel
    → left d.source ≡ Some rest
    → said_by left d ≡ said_of (channel_with channel rest)
said_same left d channel rest a b = rw (a, b) refl

-- a piece was taken, and the channels say the rest
pub piece_next : {S : Type 0} (left : S → Option (List FilePiece)) (stands : S → Head) (channels : List (MergedChannel S)) (old : List ChannelLeft)
    (at tick : ℕ)
    (c d : MergedChannel S) (piece : FilePiece) → SayLeft left channels old
    → NextSaid left stands old at c → is_due tick (stands c.source) ≡ false
    → IfSome (left c.source) (λ pieces. IsSomeAnd (left d.source) (TakesPart tick pieces piece)) → d.channel ≡ c.channel
    → (new : List ChannelLeft) × SayLeft left (slice_set channels at d) new × PieceIsNext tick old c.channel piece new
piece_next left stands channels old at tick c d piece said n early took named =
    let t = some_at (left c.source) (λ pieces. IsSomeAnd (left d.source) (TakesPart tick pieces piece)) n.of.pieces n.says.left_is took in
    let r = rest_of (left d.source) tick n.of.pieces piece t in (
      slice_set old at (channel_with c.channel r.0),
      map-set (said_by left) channels at d ∙ (ap (λ (s : List Said). slice_set s at (said_by left d)) said
          ∙ (ap (λ (x : Said). slice_set (map said_of old) at x) (said_same left d c.channel r.0 named r.1)
          ∙ sym (map-set said_of old at (channel_with c.channel r.0)))),
      record {
        at = at;
        of = n.of;
        named = sym n.says.channel_is;
        is_next = n.is_next;
        early = ap (is_due tick) (sym n.says.stands_is) ∙ early;
        rest = r.0;
        takes = r.2;
        others = refl;
      },
    )

-- the least has a piece
pub least_there_stands : {S : Type 0} (stands : S → Head) (channels : List (MergedChannel S)) (at : ℕ) (c : MergedChannel S)
    → IsLeastIn (λ d. stands d.source) (λ d. d.channel) channels at → slice_get channels at ≡ Some c → stands c.source ≢ End
least_there_stands {S = S} stands channels at c least there = λ none.
    least.some (ap (λ (d : MergedChannel S). stands d.source) (same_Some least.least c (sym least.there ∙ there)) ∙ none)
