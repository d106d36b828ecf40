-- One test of a row, and that a row that passes it holds.
use Rattle.std.proofs.Common.{◌≡◌, ℕ, ◌<◌, Bool, true, ◌&&◌, leb, List, [], length, Ok, Err, Decides, Result, Some, None, sym, refl, ap, ◌∙◌, subst, inl, inr, arith}
use Rattle.std.proofs.lemmas.Bool.{and_parts, le-leb, lt-leb}
use Rattle.edits.specs.Applying.{Applies}
use Rattle.shaping.specs.declared.fault.EditFault.{EditFault}
use Rattle.orders.specs.Changes.{Change}
use Rattle.orders.proofs.Tested.{alike, alike_same, all_below, all_hold, all_low, below_at, low_at}
use Rattle.orders.specs.Driving.{Open}
use Rattle.orders.specs.Lists.{listed}
use Rattle.orders.specs.Running.{RunningOrder}
use Rattle.orders.specs.Sheets.{Outline, Rules}
use Rattle.sheet.proofs.Laid.{row_rules}
use Rattle.sheet.proofs.SheetRules.{sheet_rules}
use Rattle.sheet.specs.Sheets.{actions}
use Rattle.sheet.specs.Verdicts.{Checks, Lays, in_a_row}
use Rattle.sheet.specs.declared.fault.SheetFault.{SheetFault}
use Rattle.sheet.specs.declared.sheet.Sheet.{Sheet}
use Rattle.task.specs.Prices.{priced}
use Rattle.task.specs.declared.tasks.Task.{Task}
use Rattle.smallsheets.specs.Rows.{Answer, Holds, Row, TakesJust, among, different, judged, said}
use Rattle.smallsheets.specs.Rows.Answer.{accepted, refused}
use Rattle.smallsheets.specs.Rows.Row.{check, edit, lay, not_laid, runs, taken, takes}
use Rattle.smallsheets.specs.Small.{ArePrices, IsSheet, IsTask, SmallSheet, SmallTariff, SmallTask}
use Rattle.smallsheets.specs.Small.SmallTariff.{book}
use Rattle.smallsheets.specs.Table.{EveryRowHolds, table}
use Rattle.smallsheets.proofs.Answering.{answer_to, asked_by, given, left, unless}
use Rattle.smallsheets.proofs.Driving.{all_driven, covered, decides_open, decides_running, is_open}
use Rattle.smallsheets.proofs.Fitting.{answers_same, fits, fits_is, same_answer}
use Rattle.smallsheets.proofs.Judging.{judge, judge_passes, judge_refused}
use Rattle.smallsheets.proofs.MakingSheets.{fits_sheet, made_sheet, small_rules}
use Rattle.smallsheets.proofs.MakingTasks.{fits_tariff, fits_task, made_prices, made_task}
use Rattle.smallsheets.proofs.Taking.{takes_none, takes_open}
use Rattle.smallsheets.proofs.Views.{Page, View, outline_of, page_of, same_page, same_view, small_page, small_view, view_of}

-- what the check says of a page
abbrev ruling : View → Page → Answer
ruling v p = judge v.count v.does p.numbers p.order (accepted 0)

-- the steps of a plan in a row
abbrev plan_page : List ℕ → Page
plan_page plan = record { numbers = plan; order = in_a_row (length plan) }

abbrev answer_lay : View → List ℕ → Answer
answer_lay v plan = unless (leb (length plan) 128) (refused 4 []) (ruling v (plan_page plan))

given_lay : (task : Task) (prices : ℕ → ℕ) (plan : List ℕ) (r : Result Sheet SheetFault) → Lays task plan r → judged r ≡ answer_lay (view_of task prices) plan
given_lay task prices plan (Ok sheet) (room, _, _, passes) = rw (le-leb _ _ room) (sym (judge_passes task plan _ (row_rules _) (accepted 0) passes))
given_lay task prices plan (Err fault) (inl (long, e)) = rw (e, lt-leb _ _ long) refl
given_lay task prices plan (Err fault) (inr (room, why)) = rw (le-leb _ _ room) (judge_refused task plan _ (row_rules _) (accepted 0) fault why)

given_check : (task : Task) (prices : ℕ → ℕ) (sheet : Sheet) (r : Result (Unit {0}) SheetFault) → Checks task sheet r → judged r ≡ ruling (view_of task prices) (page_of sheet)
given_check task prices sheet (Ok _) passes = sym (judge_passes task (actions sheet) _ (sheet_rules sheet) (accepted 0) passes)
given_check task prices sheet (Err fault) why = judge_refused task (actions sheet) _ (sheet_rules sheet) (accepted 0) fault why

-- the small ones stand for a task and a sheet, and what computes from them is what the row says
abbrev row_test : Row → Bool
row_test (lay small plan laid) = fits_task small && (same_answer (answer_lay (small_view small book) plan) (accepted 0) && fits (plan_page plan) laid)
row_test (not_laid small plan number values) = fits_task small && same_answer (answer_lay (small_view small book) plan) (refused number values)
row_test (check small page answer) = (fits_task small && fits_sheet page) && same_answer (ruling (small_view small book) (small_page page)) answer
row_test (edit small tariff old change answer new) =
    (fits_task small && (fits_tariff tariff && fits_sheet old))
    && (same_answer (answer_to (small_view small tariff) (small_page old) change) answer
    && fits (left answer (asked_by (small_page old) change) (small_page old)) new)
row_test (takes page done ready) =
    fits_sheet page && (all_low (length page.actions) ready && all_below (length page.actions) (λ p. alike (listed ready p) (is_open (outline_of page) done p)))
row_test (taken page done p) = fits_sheet page
row_test (runs page orders) = different orders && (fits_sheet page && (all_driven (outline_of page) orders && covered (outline_of page) orders (length page.actions) []))

-- the tasks and sheets of a row show what the small ones do
module _ (small : SmallTask) (task : Task) (is : IsTask small task) where
  book_view : view_of task (priced (λ a. a.price) task) ≡ small_view small book
  book_view = same_view small task is book _ refl

  answer_holds : (plan : List ℕ) (answer : Answer) → same_answer (answer_lay (small_view small book) plan) answer ≡ true → (r : Result Sheet SheetFault) → Lays task plan r → judged r ≡ answer
  answer_holds plan answer t r lays = given_lay task (priced (λ a. a.price) task) plan r lays ∙ ap (λ (v : View). answer_lay v plan) book_view ∙ answers_same _ _ t

  lay_holds : (plan : List ℕ) (laid : SmallSheet) → fits (plan_page plan) laid ≡ true → (r : Result Sheet SheetFault) → Lays task plan r → judged r ≡ accepted 0 → (sheet : Sheet) × (r ≡ Ok sheet) × IsSheet laid sheet
  lay_holds plan laid t (Ok sheet) lays e = (sheet, refl, fits_is sheet laid (plan_page plan) (λ i. record { numbers = lays.1 i; order = lays.2 i }) t)
  lay_holds plan laid t (Err fault) lays e = absurd (let z : ◌≡◌ {A = ℕ} 0 1 = cc in omega arith)

  check_holds : (page : SmallSheet) (answer : Answer) → same_answer (ruling (small_view small book) (small_page page)) answer ≡ true → (sheet : Sheet) → IsSheet page sheet → (r : Result (Unit {0}) SheetFault) → Checks task sheet r → judged r ≡ answer
  check_holds page answer t sheet so r checks =
      given_check task (priced (λ a. a.price) task) sheet r checks
      ∙ ap (λ (v : View). ruling v (page_of sheet)) book_view
      ∙ ap (λ (p : Page). ruling (small_view small book) p) (same_page page sheet so)
      ∙ answers_same _ _ t

  edit_holds : (tariff : SmallTariff) (old : SmallSheet) (change : Change) (answer : Answer) (new : SmallSheet)
      → (same_answer (answer_to (small_view small tariff) (small_page old) change) answer && fits (left answer (asked_by (small_page old) change) (small_page old)) new) ≡ true
      → (before : Sheet) → IsSheet old before → (prices : ℕ → ℕ) → ArePrices tariff task prices → (r : Result ℕ EditFault) (after : Sheet) → Applies prices task before change r after → (said r ≡ answer) × IsSheet new after
  edit_holds tariff old change answer new t before so prices are r after applies =
      let both = and_parts (same_answer (answer_to (small_view small tariff) (small_page old) change) answer) _ t in
      let g = given prices task before change r after applies.by_rule in
      let v = same_view small task is tariff prices are in
      let p = same_page old before so in
      let e = g.answers ∙ ap (λ (v : View). answer_to v (page_of before) change) v ∙ ap (λ (p : Page). answer_to (small_view small tariff) p change) p ∙ answers_same _ _ both.0 in
      let f = g.leaves ∙ ap (λ (a : Answer). left a (asked_by (page_of before) change) (page_of before)) e ∙ ap (λ (p : Page). left answer (asked_by p change) p) p in
      (e, fits_is after new _ f both.1)

next_holds : (s : Outline) → Rules s → (done ready : List ℕ) → (all_low s.size ready && all_below s.size (λ p. alike (listed ready p) (is_open s done p))) ≡ true → (p : ℕ) → Decides (listed ready p) (Open s done p)
next_holds s rules done ready t p =
    let both = and_parts (all_low s.size ready) _ t in
    let same : p < s.size → listed ready p ≡ is_open s done p = λ l. alike_same _ _ (below_at s.size _ both.1 p l) in
    let open-p = decides_open s rules done p in (
      (λ h. open-p.0 (sym (same (low_at s.size ready p both.0 h)) ∙ h)),
      (λ o. same o.position ∙ open-p.1 o),
    )

row_holds : (row : Row) → row_test row ≡ true → Holds row
row_holds (lay small plan laid) t =
    let a = and_parts (fits_task small) _ t in
    let b = and_parts (same_answer (answer_lay (small_view small book) plan) (accepted 0)) _ a.1 in
    (made_task small a.0, (λ task is r lays. lay_holds small task is plan laid b.1 r lays (answer_holds small task is plan (accepted 0) b.0 r lays)))
row_holds (not_laid small plan number values) t =
    let a = and_parts (fits_task small) _ t in
    (made_task small a.0, (λ task is. answer_holds small task is plan (refused number values) a.1))
row_holds (check small page answer) t =
    let a = and_parts (fits_task small && fits_sheet page) _ t in
    let b = and_parts (fits_task small) (fits_sheet page) a.0 in
    (made_task small b.0, (λ task is. (made_sheet page b.1, check_holds small task is page answer a.1)))
row_holds (edit small tariff old change answer new) t =
    let a = and_parts (fits_task small && (fits_tariff tariff && fits_sheet old)) _ t in
    let b = and_parts (fits_task small) (fits_tariff tariff && fits_sheet old) a.0 in
    let c = and_parts (fits_tariff tariff) (fits_sheet old) b.1 in
    (made_task small b.0, (λ task is. (made_prices tariff c.0 task, (λ prices are. (made_sheet old c.1, (λ before so. edit_holds small task is tariff old change answer new a.1 before so prices are))))))
row_holds (takes page done ready) t =
    let a = and_parts (fits_sheet page) _ t in
    let next = next_holds (outline_of page) (small_rules page a.0) done ready a.1 in (
      made_sheet page a.0,
      (λ sheet so. subst (λ (q : Page). ((p : ℕ) → Decides (listed ready p) (Open q.order done p)) × TakesJust (length page.actions) q.order done None ready)
          (sym (same_page page sheet so)) (next, takes_open (outline_of page) done ready next)),
    )
row_holds (taken page done p) t =
    (made_sheet page t, (λ sheet so. subst (λ (q : Page). TakesJust (length page.actions) q.order done (Some p) []) (sym (same_page page sheet so)) (takes_none (outline_of page) done p)))
row_holds (runs page orders) t =
    let a = and_parts (different orders) _ t in
    let b = and_parts (fits_sheet page) _ a.1 in
    let c = and_parts (all_driven (outline_of page) orders) _ b.1 in
    (a.0, (made_sheet page b.0, (λ sheet so order. subst (λ (q : Page). Decides (among orders order) (RunningOrder q.order order)) (sym (same_page page sheet so)) (decides_running (outline_of page) (small_rules page b.0) orders c.0 c.1 order))))

-- the test computes to true over the whole table
pub every_row_holds : EveryRowHolds
every_row_holds = all_hold row_test Holds row_holds table refl
