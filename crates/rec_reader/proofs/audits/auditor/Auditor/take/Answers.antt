use Rattle.std.proofs.Common.{◌+◌, ◌-◌, ◌^◌, min, [], ◌∷◌, Ok, Err, Some, refl, ◌∙◌, ap}
use Rattle.rec_reader.specs.Views.{packet_data}
use Rattle.rec_reader.proofs.AuditorStanding.{still_stands, stopped_before, keeps_these, stands_ok, stands_err, walks_on}
use Rattle.rec_reader.proofs.audits.auditor.Auditor.take.Goals as goal

pub returns-in-Some-clause-stands : goal.returns-in-Some-clause-stands
returns-in-Some-clause-stands c = λ packets stands. still_stands c.args.self.now packets (packet_data c.args.packet.now ∷ []) c.in-Some.fault c.in-Some.is
    stands

pub returns-in-Some-clause-walks : goal.returns-in-Some-clause-walks
returns-in-Some-clause-walks c = λ packets stands. stopped_before c.args.self.now packets (packet_data c.args.packet.now ∷ []) c.in-Some.fault c.in-Some.is
    stands

pub returns-in-Ok-clause-stands : goal.returns-in-Ok-clause-stands
returns-in-Ok-clause-stands c = λ packets stands.
    let keeps = keeps_these c.args.self.now packets c.in_default.is stands in
    stands_ok (record c.judge.new.self { taken = c.saturating_add-self.result }) packets (packet_data c.args.packet.now) c.args.self.now.taken
    (c.in-Ok.ensures.fault ∙ c.in_default.is) keeps.passed keeps.taken
    (c.saturating_add-self.ensures ∙ ap (λ n. min (n + 1) (2 ^ 64 - 1)) c.judge.ensures.taken) (c.in-Ok.ensures.takes packets keeps)

pub returns-in-Ok-clause-walks : goal.returns-in-Ok-clause-walks
returns-in-Ok-clause-walks c = walks_on c.args.self.now c.judge.new.self (packet_data c.args.packet.now) (Ok c.in-Ok.field-0) c.in_default.is
    c.in-Ok.ensures.takes

pub returns-in-Err-clause-stands : goal.returns-in-Err-clause-stands
returns-in-Err-clause-stands c = λ packets stands.
    let keeps = keeps_these c.args.self.now packets c.in_default.is stands in
    stands_err (record c.judge.new.self { fault = Some c.in-Err.fault }) packets (packet_data c.args.packet.now) c.in-Err.fault refl keeps.passed
    (c.in-Err.ensures.takes packets keeps)

pub returns-in-Err-clause-walks : goal.returns-in-Err-clause-walks
returns-in-Err-clause-walks c = walks_on c.args.self.now c.judge.new.self (packet_data c.args.packet.now) (Err c.in-Err.fault) c.in_default.is
    c.in-Err.ensures.takes
