-- Which edits ask for a sheet: those that are accepted, and those that are refused for a missing fact.
use Rattle.std.proofs.Common.{◌≡◌, ℕ, List, length, Ok, Err, Result, refl, inl, inr}
use Rattle.edits.specs.Applying.{ByRule, NoSaving, with_no_saving}
use Rattle.edits.specs.Replacing.{Replaces, put_in}
use Rattle.orders.specs.Changes.{Change}
use Rattle.orders.specs.Changes.Change.{group, loosen, replace, swap, ungroup}
use Rattle.orders.specs.Edits.{loosened, replaced, ungrouped}
use Rattle.orders.specs.Sheets.{Outline}
use Rattle.shaping.specs.Answers.{Loosens, Ungroups}
use Rattle.shaping.specs.declared.fault.EditFault.{EditFault}
use Rattle.shaping.specs.declared.fault.EditFault.TheVariants.{Sheet as OfSheet}
use Rattle.sheet.specs.Sheets.{actions, outline}
use Rattle.sheet.specs.declared.fault.SheetFault.TheVariants.{WantingFact}
use Rattle.sheet.specs.declared.sheet.Sheet.{Sheet}
use Rattle.task.specs.declared.tasks.Task.{Task}
use Rattle.whole_week.proofs.Answering.{group_silent, swap_silent}
use Rattle.whole_week.specs.Week.{Asks}

-- where an edit that saves nothing is accepted, its own answer is Ok
own_answer : (Says : Result (Unit {0}) EditFault → Type 0) (saving : ℕ) → NoSaving Says (Ok saving) → Says (Ok tt)
own_answer Says saving (Ok tt, says, e) = says
own_answer Says saving (Err fault, says, e) = cc

module _ (prices : ℕ → ℕ) (task : Task) (before after : Sheet) where
  -- an accepted edit leaves the sheet that it asked for
  pub accepted_asks : (change : Change) (saving : ℕ) → ByRule prices task before change (Ok saving) after →
      Asks prices task before change (actions after) (outline after)
  accepted_asks (swap k) saving says =
      let is = own_answer _ saving says in
      (is.first, (is.last, is.parts, is.untied, is.new_actions, is.new_outline))
  accepted_asks (group a b) saving says = let is = own_answer _ saving says in (is.can, is.no_block, is.same_actions, is.new_outline)
  accepted_asks (ungroup a b) saving says =
      let (block, is) = own_answer _ saving says in
      (block, is.passes.0, is.same_actions, is.new_outline)
  accepted_asks (loosen i j) saving says =
      let (tied, can, is) = own_answer _ saving says in
      (tied, can, is.passes.0, is.same_actions, is.new_outline)
  accepted_asks (replace a b list) saving is =
      let q = is.asked in
      (q.run, q.whole, q.some, q.room, q.known, is.cheaper, q.new_actions, q.new_outline)

  module _ (answer : Result ℕ EditFault) (place fact : ℕ) (wants : answer ≡ Err (OfSheet (WantingFact place fact))) where
    -- what an edit that is refused for a missing fact asked for
    abbrev Asked : Change → Type 0
    Asked change = (numbers : List ℕ) × ((order : Outline) × Asks prices task before change numbers order)

    -- ungroup asked for the sheet without the block
    ungroup_asks : (a b : ℕ) (r : Result (Unit {0}) EditFault) → Ungroups task before a b r after →
        answer ≡ with_no_saving r → Asked (ungroup a b)
    ungroup_asks a b (Ok x) says e = cc
    ungroup_asks a b (Err fault) (inl (_, f), _) e = cc
    ungroup_asks a b (Err fault) (inr (inl (_, _, f)), _) e = cc
    ungroup_asks a b (Err fault) (inr (inr (_, (why, f, inl (number, g, _)))), _) e = cc
    ungroup_asks a b (Err fault) (inr (inr (block, (why, f, inr (_, (_, g, known, _))))), _) e =
        (actions before, (ungrouped (outline before) a b, (block, known, refl, refl)))

    -- loosen for the one without the ties
    loosen_asks : (i j : ℕ) (r : Result (Unit {0}) EditFault) → Loosens task before i j r after →
        answer ≡ with_no_saving r → Asked (loosen i j)
    loosen_asks i j (Ok x) says e = cc
    loosen_asks i j (Err fault) (inl (_, f), _) e = cc
    loosen_asks i j (Err fault) (inr (inl (_, _, f)), _) e = cc
    loosen_asks i j (Err fault) (inr (inr (inl (_, _, f))), _) e = cc
    loosen_asks i j (Err fault) (inr (inr (inr (_, _, (why, f, inl (number, g, _))))), _) e = cc
    loosen_asks i j (Err fault) (inr (inr (inr (tied, can, (why, f, inr (_, (_, g, known, _)))))), _) e =
        (actions before, (loosened (outline before) i j, (tied, can, known, refl, refl)))

    -- replace for the one with the list put in
    replace_asks : (a b : ℕ) (list : List ℕ) (r : Result ℕ EditFault) → Replaces prices task before a b list r after →
        answer ≡ r → Asked (replace a b list)
    replace_asks a b list (Ok saving) says e = cc
    replace_asks a b list (Err fault) (inl (_, f), _) e = cc
    replace_asks a b list (Err fault) (inr (_, inl (_, f)), _) e = cc
    replace_asks a b list (Err fault) (inr (_, inr (_, inl (_, f))), _) e = cc
    replace_asks a b list (Err fault) (inr (_, inr (_, inr (_, inl (_, f)))), _) e = cc
    replace_asks a b list (Err fault) (inr (_, inr (_, inr (_, inr (_, inl (_, (number, f, _)))))), _) e = cc
    replace_asks a b list (Err fault) (inr (_, inr (_, inr (_, inr (_, inr (_, inl (_, f)))))), _) e = cc
    replace_asks a b list (Err fault) (inr (run, inr (whole, inr (some, inr (room, inr (known, inr (cheaper, _)))))), _) e =
        let asks : Asks prices task before (replace a b list) _ _ = (run, whole, some, room, known, cheaper, refl, refl) in
        (put_in (actions before) a b list, (replaced (outline before) a b (length list), asks))

    -- swap and group are never refused so
    pub refused_asks : (change : Change) → ByRule prices task before change answer after → Asked change
    refused_asks (swap k) (r, says, h) = absurd (swap_silent task before answer after k r says h (place, (fact, wants)))
    refused_asks (group a b) (r, says, h) = absurd (group_silent task before answer after a b r says h (place, (fact, wants)))
    refused_asks (ungroup a b) (r, says, h) = ungroup_asks a b r says h
    refused_asks (loosen i j) (r, says, h) = loosen_asks i j r says h
    refused_asks (replace a b list) says = replace_asks a b list answer says refl
