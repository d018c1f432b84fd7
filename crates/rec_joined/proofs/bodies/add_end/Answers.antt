use Rattle.std.proofs.Common.{◌++◌, ◌∙◌, ◌-◌, ap, arith, drop, length, take}
use Rattle.std.proofs.lemmas.List.{length-drop, take_all}
use Rattle.std.specs.Int.{w16, w64, to_le_bytes}
use Rattle.rec_joined.proofs.Concluded.{five_parts}
use Rattle.rec_joined.proofs.bodies.add_end.Goals as goal

pub returns : goal.returns
returns c =
    let out = c.args.out.now.items in
    let front = take 10 c.args.held.now in
    let held = c.args.held.now in
    let rest = take (length held - 28) (drop 28 held) in
    let id = c.to_le_bytes.result in
    let offered = c.to_le_bytes-2.result in
    let kept = c.to_le_bytes-3.result in
    c.in_ok-extend_from_slice-5.ensures.items
    ∙ ap (λ l. l ++ rest) (c.in_ok-extend_from_slice-4.ensures.items
    ∙ ap (λ l. l ++ kept) (c.in_ok-extend_from_slice-3.ensures.items
    ∙ ap (λ l. l ++ offered) (c.in_ok-extend_from_slice-2.ensures.items
    ∙ ap (λ l. l ++ id) c.in_ok-extend_from_slice.ensures.items)))
    ∙ five_parts out front id offered kept rest
    ∙ ap (λ l. out ++ (front ++ (l ++ (offered ++ (kept ++ rest))))) c.to_le_bytes.ensures
    ∙ ap (λ l. out ++ (front ++ (to_le_bytes w16 c.args.id ++ (l ++ (kept ++ rest))))) c.to_le_bytes-2.ensures
    ∙ ap (λ l. out ++ (front ++ (to_le_bytes w16 c.args.id ++ (to_le_bytes w64 c.args.offered ++ (l ++ rest))))) c.to_le_bytes-3.ensures
    ∙ ap (λ l. out ++ (front ++ (to_le_bytes w16 c.args.id ++ (to_le_bytes w64 c.args.offered ++ (to_le_bytes w64 c.args.kept ++ l)))))
    (take_all (length held - 28) (drop 28 held) (omega (arith, length-drop 28 held)))
