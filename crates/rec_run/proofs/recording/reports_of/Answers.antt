use Rattle.std.proofs.Common.{rules, ◌++◌, ◌∷◌, [], arith, sym, ap, subst, ◌∙◌}
use Rattle.std.specs.List.{AllZip}
use Rattle.std.proofs.lemmas.List.{append_assoc}
use Rattle.rec_run.specs.Verdicts.{TellsOf}
use Rattle.rec_run.proofs.JoinSteps.{zip_push}
use Rattle.rec_run.proofs.recording.reports_of.Goals as goal

pub workers-init : goal.workers-init
workers-init g c = (
  search rules,
  ([], search rules, subst (λ rs. AllZip (TellsOf c.args.log.now) [] rs) (sym c.requires) tt),
)

pub workers-preserved : goal.workers-preserved
workers-preserved g c =
    let s = c.in-Some.ensures.steps in
    let inv = c.workers.invariant in
    let push = c.push_reserved.ensures in
    let one = c.in-Some.one in (
      omega (arith, inv.0, s.1, push.len, push.capacity),
      (
        inv.1.0 ++ one ∷ [],
        inv.1.1 ∙ ap (λ xs. inv.1.0 ++ xs) s.0 ∙ sym (append_assoc inv.1.0 (one ∷ []) _),
        subst (λ rs. AllZip (TellsOf c.args.log.now) (inv.1.0 ++ one ∷ []) rs) (sym push.items)
            (zip_push (TellsOf c.args.log.now) inv.1.0 c.workers.reports.items one c.in_ok-report_of.field-0 inv.1.2 c.in_ok-report_of.ensures),
      ),
    )
