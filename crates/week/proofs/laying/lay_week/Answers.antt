use Rattle.std.proofs.Common.{sym, ap, ◌∙◌, is_ok}
use Rattle.std.proofs.lemmas.Result.{err_from_is_err_and}
use Rattle.book.specs.Loading.{Accepted}
use Rattle.week.proofs.Laid.{accepted_where_ok, only_wanting, unlaid}
use Rattle.week.proofs.laying.lay_week.Goals as goal
use Rattle.week.proofs.laying.lay_week.Goals.{In_ok-map_err}

accepted : (c : In_ok-map_err) → Accepted c.args.book.now c.load.new.task c.load.new.plan
accepted c = accepted_where_ok _ _ c.load.new.plan _ (sym c.map_err.ensures.variant ∙ ap is_ok c.in_ok-map_err.was) c.load.ensures.says

pub map_err-requires-2 : goal.map_err-requires-2
map_err-requires-2 c =
    only_wanting _ _ c.load.new.plan (accepted (goal.at.map_err-requires-2 c).In_ok-map_err) _ c.as_slice.ensures _ c.lay.ensures

pub returns-in_err-sheet : goal.returns-in_err-sheet
returns-in_err-sheet c =
    let p = err_from_is_err_and c.from_residual-in_err-sheet.result c.from_residual-in_err-sheet.ensures.1 in
    rw (p.1, p.2)
    (unlaid _ _ c.load.new.plan (accepted (goal.at.returns-in_err-sheet c).In_ok-map_err) _ c.as_slice.ensures c.lay.result c.lay.ensures c.map_err-2.result _ c.in_err-sheet.was c.map_err-2.ensures.cases)
