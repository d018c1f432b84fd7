use Rattle.std.proofs.lemmas.Result.{err_from_is_err_and}
use Rattle.ch11_file.specs.WholeFile.{merge_state}
use Rattle.ch11_file.specs.WholeFile.FileStage.{Merging}
use Rattle.ch11_file.proofs.FileFronts.{merged, holds_file}
use Rattle.ch11_file.proofs.file.put_rest.Goals as goal

pub returns-in-Ok : goal.returns-in-Ok
returns-in-Ok g c = λ facts before same placed.
    let m = c.in_ok-place_all.ensures facts before same placed in
    let none = merged facts before _ _ m in
    holds_file facts before _ c.put_index.new.self m.tick m.left
    (c.in-Ok.ensures.sent facts before (merge_state Merging m.tick m.left) m.has_sent (λ e. none)) none c.in-Ok.ensures.none_due

pub returns-in-Err : goal.returns-in-Err
returns-in-Err g c = λ facts before same placed.
    let m = c.in_ok-place_all.ensures facts before same placed in
    let none = merged facts before _ _ m in
    c.in-Err.ensures.sent facts before (merge_state Merging m.tick m.left) m.has_sent (λ e. none)

pub returns-in_err-place_all : goal.returns-in_err-place_all
returns-in_err-place_all g c = λ facts before same placed.
    let p = err_from_is_err_and c.from_residual.result c.from_residual.ensures.1 in
    rw (p.1, p.2) (c.in_err-place_all.ensures facts before same placed)
