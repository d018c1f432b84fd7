use Rattle.std.proofs.Common.{◌∷◌, [], ◌++◌, sym, ap, map, get_or, drop, ◌+◌, ◌∙◌, arith}
use Rattle.std.proofs.lemmas.List.{append_assoc, get_or_default, map-append}
use Rattle.ch11_channels.specs.declared.channels.FileChannel.{FileChannel}
use Rattle.ch11_channels.specs.declared.channels.RunChannel.{RunChannel}
use Rattle.ch11_channels.specs.GivenIds.{each_once, owner}
use Rattle.ch11_channels.proofs.FileNumbering.{any_owner, no_numbering, once_new, once_old, push_ids}
use Rattle.ch11_channels.proofs.TakenFlags.{taken_given}
use Rattle.ch11_channels.proofs.given.file_channels.Goals.{then-not-is_among+in-Some+in_ok-push, else-not-is_among}
use Rattle.ch11_channels.proofs.given.file_channels.Goals as goal

pub returns-in_default : goal.returns-in_default
returns-in_default c =
    let named = c.args.named.now in
    let channels = c.named.channels.items in
    let k = c.named.of-index in
    let of : RunChannel = get_or named k (record { run = 0; channel = 0 }) in
    let owners = map owner channels in
    let rest = each_once (owners ++ of ∷ []) (drop (k + 1) named) in
    let new = sym (any_owner of channels) ∙ (sym (rw c.deref.ensures.value at c.is_among.ensures) ∙ c.if-not-is_among.true) in
    let step = once_new owners named k of c.named-test.true (get_or_default named k (record { run = 0; channel = 0 }) of c.named-test.true) new in
    let none = (rw (c.deref-then-not-is_among.ensures.value, c.deref-then-not-is_among-2.ensures.value) at c.in_default.ensures) named
    c.named.invariant.taken in
    no_numbering named channels of rest c.named.invariant.ids (sym (append_assoc owners (of ∷ []) rest) ∙ (sym step ∙ c.named.invariant.each)) none.0 none.1

pub named-preserved : goal.named-preserved
named-preserved c =
    let named = c.args.named.now in
    let channels = c.named.channels.items in
    let k = c.named.of-index in
    let of : RunChannel = get_or named k (record { run = 0; channel = 0 }) in
    let owners = map owner channels in
    let at = get_or_default named k (record { run = 0; channel = 0 }) of c.named-test.true in
    let among = sym (any_owner of channels) ∙ sym (rw c.deref.ensures.value at c.is_among.ensures) in
    elim c.if-not-is_among.branch [
      | then-not-is_among+in-Some+in_ok-push w ↦
          let one : FileChannel = record { of = of; id = w.in-Some.id } in
          let has = (rw (w.deref-then-not-is_among.ensures.value, w.deref-then-not-is_among-2.ensures.value) at w.in-Some.ensures) named
          c.named.invariant.taken in
          rw (w.channels-is, w.taken-is, w.in_ok-push.ensures.items, w.from.ensures) (record {
            each = ap (λ l. l ++ each_once l (drop (k + 1) named)) (map-append owner channels (one ∷ []))
                ∙ (sym (once_new owners named k of c.named-test.true at (among ∙ w.if-not-is_among.true)) ∙ c.named.invariant.each);
            ids = push_ids named [] channels one c.named.invariant.ids has;
            taken = taken_given c.named.taken.items named channels one c.named.invariant.taken (search arith);
          })
      | else-not-is_among w ↦
          rw (w.channels-is, w.taken-is) (record {
            each = sym (once_old owners named k of c.named-test.true at (among ∙ w.if-not-is_among.false)) ∙ c.named.invariant.each;
            ids = c.named.invariant.ids;
            taken = c.named.invariant.taken;
          })
    ]
