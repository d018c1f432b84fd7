use Rattle.std.proofs.Common.{ℕ, ◌≡◌, ◌≤◌, ap, subst, ◌∙◌, length, ◌++◌, List}
use Rattle.std.proofs.lemmas.Result.{err_from_is_err_and}
use Rattle.ch11_index.specs.declared.index.TheConstants.{MOST_NAMED}
use Rattle.ch11_index.specs.FileIndex.{index_body}
use Rattle.ch11_file.specs.declared.kind.BlockHead.{BlockHead}
use Rattle.ch11_file.specs.Sending.{SentState}
use Rattle.ch11_file.proofs.GoingOut.{front_sent}
use Rattle.ch11_file.proofs.BlocksPut.{index_whole, index_part}
use Rattle.ch11_file.proofs.IndexLengths.{body_fits}
use Rattle.ch11_file.proofs.sent.Sent.put_index_packet.Goals as goal

pub returns-in_err-add_body-clause-sent : goal.returns-in_err-add_body-clause-sent
returns-in_err-add_body-clause-sent g c = λ facts before merge sent due_is.
    let p = err_from_is_err_and c.from_residual.result c.from_residual.ensures.1 in
    rw p.1 (front_sent facts before _ c.args.self.now merge sent)

pub write-requires-clause-fits : goal.write-requires-clause-fits
write-requires-clause-fits g c =
    let inside = index_body c.self.inside.index c.args.packet in
    let body : c.deref.result.now ≡ index_body c.args.self.now.index c.args.packet =
    c.deref.ensures.value ∙ c.in_ok-add_body.ensures.body ∙ ap (λ (l : List ℕ). l ++ inside) c.new-body.ensures.items
    ∙ ap (λ (s : SentState). index_body s.index c.args.packet) c.self.view_is in
    body_fits c.args.self.now.index c.args.packet c.deref.result.now
    (subst (λ (s : SentState). length s.index.packets ≤ MOST_NAMED) c.self.view_is c.add_body.ensures.few_packets)
    (subst (λ (s : SentState). length s.index.nodes ≤ MOST_NAMED) c.self.view_is c.add_body.ensures.few_nodes)
    body

pub returns-in_err-len-clause-sent : goal.returns-in_err-len-clause-sent
returns-in_err-len-clause-sent g c = λ facts before merge sent due_is.
    let inside = index_body c.self.inside.index c.args.packet in
    let body : c.deref.result.now ≡ index_body c.args.self.now.index c.args.packet =
    c.deref.ensures.value ∙ c.in_ok-add_body.ensures.body ∙ ap (λ (l : List ℕ). l ++ inside) c.new-body.ensures.items
    ∙ ap (λ (s : SentState). index_body s.index c.args.packet) c.self.view_is in
    let p = err_from_is_err_and c.from_residual-in_err-len.result c.from_residual-in_err-len.ensures.1 in
    rw p.1 (index_part facts before _ _ c.args.self.now merge c.args.packet _ _ _ c.deref.result.now sent due_is
    (ap (λ (h : BlockHead). h.kind) c.of_index-head.ensures) (ap (λ (h : BlockHead). h.channel) c.of_index-head.ensures)
    (ap (λ (h : BlockHead). h.counter) c.of_index-head.ensures ∙ c.greatest.ensures.is)
    body
    c.in_err-len.ensures.part)

pub returns-clause-sent : goal.returns-clause-sent
returns-clause-sent g c = λ facts before merge sent due_is.
    let inside = index_body c.self.inside.index c.args.packet in
    let body : c.deref.result.now ≡ index_body c.args.self.now.index c.args.packet =
    c.deref.ensures.value ∙ c.in_ok-add_body.ensures.body ∙ ap (λ (l : List ℕ). l ++ inside) c.new-body.ensures.items
    ∙ ap (λ (s : SentState). index_body s.index c.args.packet) c.self.view_is in
    index_whole facts before _ _ c.args.self.now c.write.new.self c.close.new.self merge c.args.packet _ _ _ c.deref.result.now c.in_ok-len.len sent due_is
    (ap (λ (h : BlockHead). h.kind) c.of_index-head.ensures) (ap (λ (h : BlockHead). h.channel) c.of_index-head.ensures)
    (ap (λ (h : BlockHead). h.counter) c.of_index-head.ensures ∙ c.greatest.ensures.is)
    body
    c.in_ok-len.ensures.whole c.close.ensures
