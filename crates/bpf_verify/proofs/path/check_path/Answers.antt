use Rattle.std.proofs.Common.{◌≡◌, sym, subst, drop, add-one, refl, []}
use Rattle.std.proofs.Math.Seq.{drop-cons}
use Rattle.std.proofs.Math.ListN.{drop_of_length-le}
use Rattle.std.proofs.lemmas.Bool.{both_ways}
use Rattle.bpf_verify.proofs.Walks.{WalksUnset, unset_walks}
use Rattle.bpf_verify.proofs.path.check_path.Goals as goal

pub places-init : goal.places-init
places-init c =
    let walks = unset_walks c.args.insns.now c.args.path.now c.in-Some.first.now c.in-Some.rest.now c.args.word c.in-Some.ensures.cases.0 in
    (λ unset. (walks.0 unset).1, λ walk. walks.1 (c.if-at-ne0.false, walk))

pub returns-then-not-leads_unwritten : goal.returns-then-not-leads_unwritten
returns-then-not-leads_unwritten c =
    let rest = c.in-Some.rest.now in
    let n = c.places.next-index in
    record {
      decides = (
        λ no. absurd (both_ways _ refl no),
        λ unset.
            let walk = subst (λ xs. WalksUnset c.args.insns.now c.places.at xs c.args.word) (drop-cons rest n 0 c.places-test.true)
            (c.places.invariant.0 unset) in
            absurd (both_ways _ c.if-not-leads_unwritten.true (c.leads_unwritten.ensures.1 walk.0)),
      );
    }

pub places-preserved : goal.places-preserved
places-preserved c =
    let rest = c.in-Some.rest.now in
    let n = c.places.next-index in
    let step = drop-cons rest n 0 c.places-test.true in
    let told = c.leads_unwritten.ensures.0 c.if-not-leads_unwritten.false in
    rw add-one (
      λ unset. (subst (λ xs. WalksUnset c.args.insns.now c.places.at xs c.args.word) step (c.places.invariant.0 unset)).1,
      λ walk. c.places.invariant.1 (subst (λ xs. WalksUnset c.args.insns.now c.places.at xs c.args.word) (sym step) (told, walk)),
    )

pub returns : goal.returns
returns c =
    let rest = c.in-Some.rest.now in
    let done : drop c.places.next-index rest ≡ [] = drop_of_length-le rest c.places-test.false in
    record {
      decides = (
        λ reads. c.places.invariant.1 (subst (λ xs. WalksUnset c.args.insns.now c.places.at xs c.args.word) (sym done) (c.reads.ensures.0 reads)),
        λ unset. c.reads.ensures.1 (subst (λ xs. WalksUnset c.args.insns.now c.places.at xs c.args.word) done (c.places.invariant.0 unset)),
      );
    }
