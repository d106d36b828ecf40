use Rattle.std.proofs.lemmas.Result.{err_from_is_err_and}
use Rattle.book.specs.Weeks.{said}
use Rattle.week.proofs.Behind.{no_room_behind, written_behind}
use Rattle.week.proofs.Listing.{listed_behind, listing_outgrown, outgrown, week_changes_fit}
use Rattle.week.proofs.answering.edited.Goals as goal

pub returns-in_err-at : goal.returns-in_err-at
returns-in_err-at c =
    let p = err_from_is_err_and c.from_residual.result c.from_residual.ensures.1 in
    rw p.1 (λ w fits e is. outgrown w _ _ is _ _ _ _ (c.in_err-at.ensures.says (said w) fits.forms (week_changes_fit w fits) e))

pub returns-in_err-len : goal.returns-in_err-len
returns-in_err-len c =
    let p = err_from_is_err_and c.from_residual-in_err-len.result c.from_residual-in_err-len.ensures.1 in
    let listing = rw c.in_ok-at.ensures.task at c.in_err-len.ensures in
    let (short, kept) = no_room_behind _ c.carry_out_all.new.out c.list.new.out c.in_ok-at.at c.in_ok-at.ensures.within listing.0 listing.1 in
    rw p.1 (λ w fits e is.
    listing_outgrown w _ _ is _ c.in_ok-at.at _ _ (c.in_ok-at.ensures.says (said w) fits.forms (week_changes_fit w fits) e) _ _ short kept)

pub returns : goal.returns
returns c w fits e is =
    let listing = rw c.in_ok-at.ensures.task at c.in_ok-len.ensures in
    let (put, within) = written_behind _ c.carry_out_all.new.out c.list.new.out c.in_ok-at.at c.in_ok-at.ensures.within _ listing.0 listing.1 listing.2 in
    listed_behind w _ _ is _ c.in_ok-at.at _ _ (c.in_ok-at.ensures.says (said w) fits.forms (week_changes_fit w fits) e) _ _ put within
