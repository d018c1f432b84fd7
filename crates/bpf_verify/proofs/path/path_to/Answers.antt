use Rattle.std.proofs.Common.{ℕ, ◌-◌, ◌<◌, ◌≤◌, ◌≡◌, ◌⊎◌, inl, inr, List, [], ◌∷◌, ◌++◌, length, take, drop, sym, ◌∙◌, ap, subst, arith}
use Rattle.std.specs.Prelude.{reverse, slice_index}
use Rattle.std.proofs.lemmas.List.{reverse-append, length-reverse}
use Rattle.std.proofs.Math.Seq.{take-append_seam}
use Rattle.std.specs.List.{refill}
use Rattle.std.proofs.lemmas.Bool.{both_ways}
use Rattle.bpf_verify.specs.ControlFlow.{Edge, IsPath, WritesWord}
use Rattle.bpf_verify.specs.Masks.{ArrivesUnset, IsClear}
use Rattle.bpf_verify.proofs.Arrivals.{arrives_from_below}
use Rattle.bpf_verify.proofs.Walks.{GoesFrom, goes_before, path_from_first}
use Rattle.bpf_verify.proofs.path.path_to.Goals as goal
use Rattle.bpf_verify.proofs.path.path_to.Goals.{else-leads_unwritten-via-then-leads_unwritten+else-is_clear, else-leads_unwritten-via-else-leads_unwritten}

at_or_above : (j n : ℕ) → n - 1 ≤ j → (j ≡ n - 1) ⊎ (n ≤ j)
at_or_above j n h = grind arith

-- a list whose members are written back in another order is then these
refilled : (xs ws : List ℕ) → ws ≡ reverse xs → refill (length xs) xs ws ≡ reverse xs
refilled xs ws e =
    let same : length ws ≡ length xs = ap length e ∙ length-reverse xs in
    subst (λ n. take n (ws ++ drop (length ws) xs) ≡ ws) same (take-append_seam ws (drop (length ws) xs)) ∙ e

pub back-preserved-then-is_clear : goal.back-preserved-then-is_clear
back-preserved-then-is_clear c =
    let p = c.args.insns.now in
    let from = c.back.from - 1 in
    let inv = c.back.invariant in
    let step = c.leads_unwritten.ensures.0 c.if-leads_unwritten.true in
    let inside : from < length p = omega (arith, inv.order.0, inv.order.1, c.back-test.true, c.requires.place) in
    let built : reverse c.push-then-is_clear.new.self.items ≡ from ∷ reverse c.back.path.items =
    ap reverse c.push-then-is_clear.ensures.items ∙ reverse-append c.back.path.items (from ∷ []) in
    record {
      path = (
        from ∷ inv.path.0,
        built ∙ ap (λ xs. from ∷ xs) inv.path.1,
        subst (λ xs. GoesFrom p from xs) (sym built) (goes_before p from c.back.next (reverse c.back.path.items) step.0 inv.path.2),
        (step.1, inv.path.3),
      );
      room = omega (arith, c.push-then-is_clear.ensures.len, inv.room, inv.order.0, c.back-test.true);
      order = ((let same : from ≤ from = omega arith in same), (let below : from ≤ c.args.at = omega (arith, inv.order.0, inv.order.1) in below));
      unset = (c.requires.masks from c.args.word inside c.requires.word).0
          (subst (λ x. IsClear (slice_index c.args.masks.now x) c.args.word) c.from.ensures (c.is_clear.ensures.0 c.if-is_clear.true));
      passed = λ at above below edge unwritten arrives. absurd (omega (arith, above, below));
    }

pub back-preserved : goal.back-preserved
back-preserved c =
    let p = c.args.insns.now in
    let from = c.back.from - 1 in
    let inv = c.back.invariant in
    let inside : from < length p = omega (arith, inv.order.0, inv.order.1, c.back-test.true, c.requires.place) in
    let skipped : Edge p from c.back.next → (WritesWord p from c.args.word → ⊥) → ArrivesUnset p from c.args.word → ⊥ = λ edge unwritten arrives.
    elim c.else-leads_unwritten.branch as (λ _. ⊥) [
      | else-leads_unwritten-via-then-leads_unwritten+else-is_clear w ↦
          let clear = (c.requires.masks from c.args.word inside c.requires.word).1 arrives in
          both_ways _ w.if-is_clear.false (w.is_clear.ensures.1 (subst (λ x. IsClear (slice_index c.args.masks.now x) c.args.word) (sym w.from.ensures) clear))
      | else-leads_unwritten-via-else-leads_unwritten w ↦ both_ways _ w.if-leads_unwritten.false (c.leads_unwritten.ensures.1 (edge, unwritten))
    ] in
    record {
      path = inv.path;
      room = inv.room;
      order = ((let below : from ≤ c.back.next = omega (arith, inv.order.0) in below), inv.order.1);
      unset = inv.unset;
      passed = λ at above below edge unwritten arrives. elim (at_or_above at c.back.from above) as (λ _. ⊥) [
        | inl e ↦ skipped (subst (λ x. Edge p x c.back.next) e edge) (subst (λ x. WritesWord p x c.args.word → ⊥) e unwritten)
            (subst (λ x. ArrivesUnset p x c.args.word) e arrives)
        | inr later ↦ inv.passed at later below edge unwritten arrives
      ];
    }

pub returns : goal.returns
returns c =
    let p = c.args.insns.now in
    let inv = c.back.invariant in
    let inside : c.back.next < length p = omega (arith, inv.order.1, c.requires.place) in
    let at_start : c.back.next ≡ 0 = elim ((arrives_from_below p c.back.next c.back.next c.args.word inside (omega arith)).0 inv.unset)
    as (λ _. c.back.next ≡ 0) [
      | inl e ↦ e
      | inr h ↦ absurd (inv.passed h.0 (let done : c.back.from ≤ h.0 = omega (arith, c.back-test.false) in done) h.1 h.3 h.4 h.2)
    ] in
    let turned = refilled c.back.path.items c.reverse.new.self (c.reverse.ensures.after ∙ ap reverse c.as_mut_slice.ensures.value) in (
      inv.path.0,
      turned ∙ inv.path.1,
      subst (λ xs. IsPath p xs) (sym turned) (path_from_first p c.back.next (reverse c.back.path.items) at_start inv.path.2),
      inv.path.3,
    )
