-- What each edit answers, as functions that compute: the rules allow that answer and that sheet alone.
use Rattle.std.proofs.Common.{◌≡◌, ℕ, suc, ◌-◌, ◌<◌, ◌≤◌, Bool, true, false, not, ◌&&◌, ◌||◌, eqb, ltb, leb, ◌⊎◌, List, [], ◌++◌, map, length, get_or, Ok, Err, Decides, sum_by, Result, unwrap_or, sym, refl, ap, ◌∙◌, subst, inl, inr, ⊎_elim, arith}
use Rattle.std.proofs.lemmas.Bool.{and_from, and_left, and_parts, and_right, both_ways, cases_lt, le-leb, le-ltb, leb-true, lt-leb, lt-ltb, not_from_false, not_from_true, not-true, or_from, or_left, or_right}
use Rattle.std.proofs.lemmas.Bool.Decides.{Decides-and, Decides-ltb, Decides-eqb, Decides-or, nat_tests}
use Rattle.std.specs.List.{range_with_len}
use Rattle.edits.proofs.SwapLists.{slice_get-made, same_slice_get}
use Rattle.shaping.specs.Answers.{CheckRefused, Crossed, Groups, InOrder, IsChecked, Loosens, NotInOrder, TiedBetween, Ungroups, crosses}
use Rattle.edits.specs.Applying.{ByRule, with_no_saving}
use Rattle.edits.specs.Replacing.{AreRun, IsCheaper, IsReplaced, ReplaceRefused, Replaces, Unless, from_to, put_in}
use Rattle.edits.specs.Swaps.{IsSwapped, Swaps}
use Rattle.shaping.specs.declared.fault.EditFault.{EditFault}
use Rattle.orders.proofs.Below.{below_is, is_true, refuted}
use Rattle.orders.proofs.EditLoosen.{loosen_keeps_rules, ungroup_keeps_rules}
use Rattle.orders.proofs.EditReplace.{replace_keeps_rules}
use Rattle.orders.proofs.EditSwap.{bounds}
use Rattle.orders.specs.Changes.{Change}
use Rattle.orders.specs.Changes.Change.{swap, group, ungroup, loosen, replace}
use Rattle.orders.specs.Check.{some_below, together}
use Rattle.orders.specs.Edits.{CanGroup, CanLoosen, IsMember, comes, grouped, loosened, replaced, swapped, ungrouped}
use Rattle.orders.specs.Facts.{Good}
use Rattle.orders.specs.Sheets.{Outline, Rules}
use Rattle.sheet.proofs.SheetRules.{sheet_rules}
use Rattle.sheet.specs.Sheets.{actions, outline}
use Rattle.sheet.specs.Verdicts.{effects_of}
use Rattle.sheet.specs.declared.sheet.Sheet.{Sheet}
use Rattle.task.specs.declared.tasks.Task.{Task}
use Rattle.smallsheets.specs.Rows.{Answer, said}
use Rattle.smallsheets.specs.Rows.Answer.{accepted, refused}
use Rattle.smallsheets.proofs.Judging.{all_known, if_good, if_known, is_good, is_wanting, judge, judge_passes, judge_refused, unknown_refused}
use Rattle.smallsheets.proofs.Lowest.{lowest, lowest_some}
use Rattle.smallsheets.proofs.Views.{Page, View, page_of, view_of}

-- the refusal where the condition fails, and else what comes later
abbrev pub unless : Bool → Answer → Answer → Answer
unless true here later = later
unless false here later = here

abbrev in_order : Outline → ℕ → ℕ → Bool
in_order s i j = ltb i j && ltb j s.size

-- whether some block crosses the run a to b
abbrev is_crossed : Outline → ℕ → ℕ → Bool
is_crossed s a b = some_below s.size (λ c. some_below s.size (λ d. s.block c d && crosses a b c d))

-- whether a position outside their parts is tied between i and j
abbrev is_between : Outline → ℕ → ℕ → Bool
is_between s i j = some_below s.size (λ x. s.tied i x && (s.tied x j && (not (together s x i j) && not (together s x j i))))

is_in_order : (s : Outline) (i j : ℕ) → Decides (in_order s i j) (InOrder s i j)
is_in_order s i j = Decides-and _ _ (Decides-ltb i j) (Decides-ltb j s.size)

not_in_order : (s : Outline) (i j : ℕ) → NotInOrder s i j → in_order s i j ≡ false
not_in_order s i j n = refuted _ (λ h. let o = (is_in_order s i j).0 h in omega (arith, n, o.0, o.1))

uncrossed : (s : Outline) (a b : ℕ) → CanGroup s a b → is_crossed s a b ≡ false
uncrossed s a b can = refuted _ (λ h.
    let c = (below_is (λ c. some_below s.size (λ d. s.block c d && crosses a b c d)) s.size).0 h in
    let d = (below_is (λ d. s.block c.0 d && crosses a b c.0 d) s.size).0 c.2 in
    let both = and_parts (s.block c.0 d.0) (crosses a b c.0 d.0) d.2 in
    crossing a b c.0 d.0 (can.clear c.0 d.0 both.0) both.1)
  where
    crossing : (a b c d : ℕ) → ((b < c) ⊎ (d < a)) ⊎ (((a ≤ c) × (d ≤ b)) ⊎ ((c ≤ a) × (b ≤ d))) → crosses a b c d ≡ true → ⊥
    crossing a b c d apart h = let z : ◌≡◌ {A = ℕ} 0 1 = grind (arith, nat_tests) in omega arith

crossed : (s : Outline) → Rules s → (a b : ℕ) → Crossed s a b → is_crossed s a b ≡ true
crossed s rules a b (c, (d, h, k)) =
    let low = rules.proper c d h in
    (below_is (λ c. some_below s.size (λ d. s.block c d && crosses a b c d)) s.size).1
    (c, omega arith, (below_is (λ d. s.block c d && crosses a b c d) s.size).1 (d, low.1, and_from _ _ h k))

module _ (s : Outline) (i j : ℕ) where
  abbrev between_at : ℕ → Bool
  between_at x = s.tied i x && (s.tied x j && (not (together s x i j) && not (together s x j i)))

  none_between : CanLoosen s i j → is_between s i j ≡ false
  none_between can = refuted _ (λ h.
      let x = (below_is between_at s.size).0 h in
      let p = and_parts (s.tied i x.0) _ x.2 in
      let q = and_parts (s.tied x.0 j) _ p.1 in
      let r = and_parts (not (together s x.0 i j)) (not (together s x.0 j i)) q.1 in
      ⊎_elim (λ u. both_ways _ (not-true _ r.0) u) (λ u. both_ways _ (not-true _ r.1) u) (can x.0 p.0 q.0))

  some_between : Rules s → TiedBetween s i j → is_between s i j ≡ true
  some_between rules (x, t, u, n, m) =
      (below_is between_at s.size).1 (x, (rules.forward i x t).1, and_from _ _ t (and_from _ _ u (and_from _ _ (not_from_false _ n) (not_from_false _ m))))

-- the answers
abbrev answer_swap : Outline → ℕ → Answer
answer_swap s k = unless (ltb 0 k && ltb k s.size) (refused 1 []) (unless (not (s.tied (k - 1) k)) (refused 6 []) (accepted 0))

abbrev answer_group : Outline → ℕ → ℕ → Answer
answer_group s a b = unless (in_order s a b) (refused 1 []) (unless (not (s.block a b || is_crossed s a b)) (refused 5 []) (accepted 0))

abbrev answer_ungroup : View → Page → ℕ → ℕ → Answer
answer_ungroup v p a b = unless (in_order p.order a b) (refused 1 []) (unless (p.order.block a b) (refused 5 []) (judge v.count v.does p.numbers (ungrouped p.order a b) (accepted 0)))

abbrev answer_loosen : View → Page → ℕ → ℕ → Answer
answer_loosen v p i j =
    unless (in_order p.order i j) (refused 1 [])
    (unless (p.order.tied i j) (refused 6 [])
    (unless (not (is_between p.order i j)) (refused 7 [])
    (judge v.count v.does p.numbers (loosened p.order i j) (accepted 0))))

abbrev saves : View → Page → ℕ → ℕ → List ℕ → ℕ
saves v p a b list = sum_by v.prices p.numbers - sum_by v.prices (put_in p.numbers a b list)

abbrev answer_replace : View → Page → ℕ → ℕ → List ℕ → Answer
answer_replace v p a b list =
    unless (leb a b && ltb b p.order.size) (refused 1 [])
    (unless (ltb b p.order.size && (eqb a b || p.order.block a b)) (refused 5 [])
    (unless (ltb 0 (length list)) (refused 8 [])
    (unless (leb (replaced p.order a b (length list)).size 128) (refused 4 [])
    (if_known v.count (p.numbers ++ list)
    (unless (ltb (sum_by v.prices list) (sum_by v.prices (from_to p.numbers a b))) (refused 9 [])
    (if_good (replaced p.order a b (length list)) (v.does (put_in p.numbers a b list)) (accepted (saves v p a b list))))))))

-- where the part of k - 1 begins against k, and where the part of k ends
abbrev first_of : Outline → ℕ → ℕ
first_of s k = unwrap_or (lowest (λ x. together s x (k - 1) k) k) 0

abbrev last_of : Outline → ℕ → ℕ
last_of s k = unwrap_or (lowest (λ x. leb k x && not (together s (suc x) k (k - 1))) s.size) 0

abbrev moved : List ℕ → ℕ → ℕ → ℕ → List ℕ
moved numbers a k b = map (λ y. get_or numbers (comes a k b y) 0) (range_with_len 0 (length numbers))

abbrev asked_swap : Page → ℕ → ℕ → ℕ → Page
asked_swap p a k b = record { numbers = moved p.numbers a k b; order = swapped p.order a k b }

-- the sheet after an answer: the one asked for, or the one before
abbrev pub left : Answer → Page → Page → Page
left (accepted saving) asked before = asked
left (refused number values) asked before = before

-- the answer is that one, and leaves the sheet asked for if it accepts
pub record Given (before after : Sheet) (r : Result ℕ EditFault) (answer : Answer) (asked : Page) : Type 0 where
  pub answers : said r ≡ answer
  pub leaves : page_of after ≡ left (said r) asked (page_of before)

pages_same : (p q : Page) → p.numbers ≡ q.numbers → p.order ≡ q.order → p ≡ q
pages_same p q e f = λ i. record { numbers = e i; order = f i }

unless_both : (b c : Bool) (x y z : Answer) → b ≡ true → c ≡ true → unless b x (unless c y z) ≡ z
unless_both b c x y z e f = rw (e, f) refl

unless_second : (b c : Bool) (x y z : Answer) → b ≡ true → c ≡ false → unless b x (unless c y z) ≡ y
unless_second b c x y z e f = rw (e, f) refl

unless_first : (b : Bool) (x y : Answer) → b ≡ false → unless b x y ≡ x
unless_first b x y e = rw e refl

unless_none : (b : Bool) (x y : Answer) → b ≡ true → unless b x y ≡ y
unless_none b x y e = rw e refl

decides_leb : (m n : ℕ) → Decides (leb m n) (m ≤ n)
decides_leb m n = (leb-true m n, le-leb m n)

-- an answer that is the first refusal unless the condition holds, and else what comes later
by_unless : {P H L : Type 0} (b : Bool) → Decides b P → (x here later : Answer) → (H → x ≡ here) → (P → L → x ≡ later) → Unless P H L → x ≡ unless b here later
by_unless b d x here later first rest (inl (n, h)) = first h ∙ sym (unless_first b here later (refuted b (λ t. n (d.0 t))))
by_unless b d x here later first rest (inr (p, l)) = rest p l ∙ sym (unless_none b here later (d.1 p))

module _ (before after : Sheet) where
  abbrev s : Outline
  s = outline before

  abbrev refuse : (fault : EditFault) (answer : Answer) (asked : Page) → after ≡ before → said (Err fault) ≡ answer → Given before after (Err fault) answer asked
  refuse fault answer asked e h = record { answers = h; leaves = ap page_of e }

  given_group : (a b : ℕ) (r : Result (Unit {0}) EditFault) → Groups before a b r after
      → Given before after (with_no_saving r) (answer_group s a b) (record { numbers = actions before; order = grouped s a b })
  given_group a b (Ok _) is = record {
    answers = sym (unless_both (in_order s a b) (not (s.block a b || is_crossed s a b)) _ _ _ ((is_in_order s a b).1 (is.can.several, is.can.positions)) (not_from_false _ (or_from _ _ is.no_block (uncrossed s a b is.can))));
    leaves = pages_same _ _ is.same_actions is.new_outline;
  }
  given_group a b (Err fault) (inl (n, f), e) = refuse fault _ _ e (rw f (sym (unless_first (in_order s a b) _ _ (not_in_order s a b n))))
  given_group a b (Err fault) (inr (o, why, f), e) = refuse fault _ _ e (rw f (sym (unless_second (in_order s a b) (not (s.block a b || is_crossed s a b)) _ _ _ ((is_in_order s a b).1 o) (not_from_true _ (blocked why)))))
    where
      blocked : (s.block a b ≡ true) ⊎ Crossed s a b → (s.block a b || is_crossed s a b) ≡ true
      blocked (inl h) = or_left _ _ h
      blocked (inr h) = or_right _ _ (crossed s (sheet_rules before) a b h)

  module _ (k : ℕ) (is : IsSwapped before k after) where
    abbrev a : ℕ
    a = is.first

    abbrev b : ℕ
    b = is.last

    same_first : first_of s k ≡ a
    same_first =
        let n = bounds s (sheet_rules before) a k b is.parts in
        ap (λ o. unwrap_or o 0) (lowest_some (λ x. together s x (k - 1) k) k a n.left (is.parts.first a ∙ and_from _ _ (le-leb a a (omega arith)) (le-leb a (k - 1) (omega (arith, n.left)))) (λ x l. is.parts.first x ∙ and_left _ _ (lt-leb a x l)))

    same_last : last_of s k ≡ b
    same_last =
        let n = bounds s (sheet_rules before) a k b is.parts in
        ap (λ o. unwrap_or o 0) (lowest_some (λ x. leb k x && not (together s (suc x) k (k - 1))) s.size b n.size
        (and_from _ _ (le-leb k b n.right) (not_from_false _ (is.parts.second (suc b) ∙ and_right _ _ (lt-leb (suc b) b (omega arith)))))
        (λ x l. ⊎_elim
        (λ low. and_left _ _ (lt-leb k x low))
        (λ high. and_right _ _ (not_from_true _ (is.parts.second (suc x) ∙ and_from _ _ (le-leb k (suc x) (omega arith)) (le-leb (suc x) b l))))
        (cases_lt x k)))

    same_moved : actions after ≡ moved (actions before) a k b
    same_moved =
        let n = bounds s (sheet_rules before) a k b is.parts in
        same_slice_get _ _ (λ x. is.new_actions x ∙ sym (slice_get-made (actions before) a k b n.left n.right n.size _ (length (actions before)) refl refl x))

  given_swap : (k : ℕ) (r : Result (Unit {0}) EditFault) → Swaps before k r after
      → Given before after (with_no_saving r) (answer_swap s k) (asked_swap (page_of before) (first_of s k) k (last_of s k))
  given_swap k (Ok _) is = record {
    answers = sym (unless_both (ltb 0 k && ltb k s.size) (not (s.tied (k - 1) k)) _ _ _ (and_from _ _ (lt-ltb 0 k is.parts.later) (lt-ltb k s.size is.parts.position)) (not_from_false _ is.untied));
    leaves = pages_same _ _ (same_moved k is) is.new_outline ∙ ap (λ c. asked_swap (page_of before) c k is.last) (sym (same_first k is)) ∙ ap (λ d. asked_swap (page_of before) (first_of s k) k d) (sym (same_last k is));
  }
  given_swap k (Err fault) (inl (n, f), e) = refuse fault _ _ e (rw f (sym (unless_first (ltb 0 k && ltb k s.size) _ _ (no_neighbours n))))
    where
      no_neighbours : (k ≡ 0) ⊎ (s.size ≤ k) → (ltb 0 k && ltb k s.size) ≡ false
      no_neighbours (inl z) = and_left _ _ (le-ltb 0 k (omega arith))
      no_neighbours (inr l) = and_right _ _ (le-ltb k s.size l)
  given_swap k (Err fault) (inr (l, h, t, f), e) = refuse fault _ _ e (rw f (sym (unless_second (ltb 0 k && ltb k s.size) (not (s.tied (k - 1) k)) _ _ _ (and_from _ _ (lt-ltb 0 k l) (lt-ltb k s.size h)) (not_from_true _ t))))

  module _ (task : Task) (prices : ℕ → ℕ) where
    abbrev v : View
    v = view_of task prices

    abbrev p : Page
    p = page_of before

    abbrev ruling : Outline → Answer
    ruling t = judge v.count v.does (actions before) t (accepted 0)

    checked : (t : Outline) → Rules t → IsChecked task before t after → accepted 0 ≡ ruling t
    checked t rules is = sym (judge_passes task (actions before) t rules (accepted 0) is.passes)

    check_refused : (t : Outline) → Rules t → (fault : EditFault) → CheckRefused task before t fault → said (Err fault) ≡ ruling t
    check_refused t rules fault (why, e, h) = rw e (judge_refused task (actions before) t rules (accepted 0) why h)

    given_ungroup : (a b : ℕ) (r : Result (Unit {0}) EditFault) → Ungroups task before a b r after
        → Given before after (with_no_saving r) (answer_ungroup v p a b) (record { numbers = actions before; order = ungrouped s a b })
    given_ungroup a b r = go r
      where
        asked_rules : Rules (ungrouped s a b)
        asked_rules = ungroup_keeps_rules s (sheet_rules before) a b

        judged_so : s.block a b ≡ true → ruling (ungrouped s a b) ≡ answer_ungroup v p a b
        judged_so h = sym (unless_both (in_order s a b) (s.block a b) _ _ _ ((is_in_order s a b).1 ((sheet_rules before).proper a b h)) h)

        go : (r : Result (Unit {0}) EditFault) → Ungroups task before a b r after → Given before after (with_no_saving r) (answer_ungroup v p a b) (record { numbers = actions before; order = ungrouped s a b })
        go (Ok _) (h, is) = record { answers = checked _ asked_rules is ∙ judged_so h; leaves = pages_same _ _ is.same_actions is.new_outline }
        go (Err fault) (inl (n, f), e) = refuse fault _ _ e (rw f (sym (unless_first (in_order s a b) _ _ (not_in_order s a b n))))
        go (Err fault) (inr (inl (o, h, f)), e) = refuse fault _ _ e (rw f (sym (unless_second (in_order s a b) (s.block a b) _ _ _ ((is_in_order s a b).1 o) h)))
        go (Err fault) (inr (inr (h, why)), e) = refuse fault _ _ e (check_refused _ asked_rules fault why ∙ judged_so h)

    given_loosen : (i j : ℕ) (r : Result (Unit {0}) EditFault) → Loosens task before i j r after
        → Given before after (with_no_saving r) (answer_loosen v p i j) (record { numbers = actions before; order = loosened s i j })
    given_loosen i j r = go r
      where
        tied_so : s.tied i j ≡ true → unless (not (is_between s i j)) (refused 7 []) (ruling (loosened s i j)) ≡ answer_loosen v p i j
        tied_so h = sym (unless_both (in_order s i j) (s.tied i j) _ _ _ ((is_in_order s i j).1 ((sheet_rules before).forward i j h)) h)

        judged_so : s.tied i j ≡ true → CanLoosen s i j → ruling (loosened s i j) ≡ answer_loosen v p i j
        judged_so h can = sym (unless_none (not (is_between s i j)) _ _ (not_from_false _ (none_between s i j can))) ∙ tied_so h

        go : (r : Result (Unit {0}) EditFault) → Loosens task before i j r after → Given before after (with_no_saving r) (answer_loosen v p i j) (record { numbers = actions before; order = loosened s i j })
        go (Ok _) (h, can, is) = record { answers = checked _ (loosen_keeps_rules s (sheet_rules before) i j can) is ∙ judged_so h can; leaves = pages_same _ _ is.same_actions is.new_outline }
        go (Err fault) (inl (n, f), e) = refuse fault _ _ e (rw f (sym (unless_first (in_order s i j) _ _ (not_in_order s i j n))))
        go (Err fault) (inr (inl (o, h, f)), e) = refuse fault _ _ e (rw f (sym (unless_second (in_order s i j) (s.tied i j) _ _ _ ((is_in_order s i j).1 o) h)))
        go (Err fault) (inr (inr (inl (h, why, f))), e) = refuse fault _ _ e (rw f (sym (unless_first (not (is_between s i j)) _ _ (not_from_true _ (some_between s i j (sheet_rules before) why))) ∙ tied_so h))
        go (Err fault) (inr (inr (inr (h, can, why))), e) = refuse fault _ _ e (check_refused _ (loosen_keeps_rules s (sheet_rules before) i j can) fault why ∙ judged_so h can)

    module _ (a b : ℕ) (list : List ℕ) where
      abbrev m : ℕ
      m = length list

      abbrev priced_so : Answer
      priced_so = if_good (replaced s a b m) (v.does (put_in (actions before) a b list)) (accepted (saves v p a b list))

      is_run : Decides (leb a b && ltb b s.size) (AreRun s a b)
      is_run = Decides-and _ _ (decides_leb a b) (Decides-ltb b s.size)

      is_member : Decides (ltb b s.size && (eqb a b || s.block a b)) (IsMember s a b)
      is_member = Decides-and _ _ (Decides-ltb b s.size) (Decides-or _ _ (Decides-eqb a b) (is_true (s.block a b)))

      is_cheaper : Decides (ltb (sum_by prices list) (sum_by prices (from_to (actions before) a b))) (IsCheaper prices (actions before) a b list)
      is_cheaper = Decides-ltb _ _

      replace_refused : (fault : EditFault) → ReplaceRefused prices task before a b list fault → said (Err fault) ≡ answer_replace v p a b list
      replace_refused fault =
          by_unless _ is_run _ _ _ (λ f. ap (λ x. said (Err x)) f) (λ run.
          by_unless _ is_member _ _ _ (λ f. ap (λ x. said (Err x)) f) (λ whole.
          by_unless _ (Decides-ltb 0 m) _ _ _ (λ f. ap (λ x. said (Err x)) f) (λ some.
          by_unless _ (decides_leb (replaced s a b m).size 128) _ _ _ (λ f. ap (λ x. said (Err x)) f) (λ room.
          ⊎_elim
          (λ (_, (n, f, u)). ap (λ x. said (Err x)) f ∙ sym (unknown_refused task (actions before ++ list) _ n u))
          (λ (known, rest). by_unless _ is_cheaper _ _ priced_so (λ f. ap (λ x. said (Err x)) f)
          (λ _ (place, (fact, f, w)). ap (λ x. said (Err x)) f ∙ sym (is_wanting task (put_in (actions before) a b list) (replaced s a b m) (replace_keeps_rules s (sheet_rules before) a b m whole some) _ place fact w)) rest
          ∙ sym (all_known task (actions before ++ list) _ known))))))

      replace_accepted : (saving : ℕ) → IsReplaced prices task before a b list saving after → said (Ok saving) ≡ answer_replace v p a b list
      replace_accepted saving is =
          let e = is.asked.new_actions in
          let good = subst (λ (numbers : List ℕ). Good (replaced s a b m) (effects_of task numbers)) e (subst (λ (t : Outline). Good t (effects_of task (actions after))) is.asked.new_outline is.good.1) in
          let same : saving ≡ saves v p a b list = omega (arith, is.saves, ap (sum_by prices) e) in
          ap accepted same
          ∙ sym (is_good task (put_in (actions before) a b list) (replaced s a b m) (replace_keeps_rules s (sheet_rules before) a b m is.asked.whole is.asked.some) _ good)
          ∙ sym (unless_none _ _ _ (is_cheaper.1 is.cheaper))
          ∙ sym (all_known task (actions before ++ list) _ is.asked.known)
          ∙ sym (unless_none _ _ _ (le-leb _ _ is.asked.room))
          ∙ sym (unless_none _ _ _ (lt-ltb _ _ is.asked.some))
          ∙ sym (unless_none _ _ _ (is_member.1 is.asked.whole))
          ∙ sym (unless_none _ _ _ (is_run.1 is.asked.run))

      given_replace : (r : Result ℕ EditFault) → Replaces prices task before a b list r after
          → Given before after r (answer_replace v p a b list) (record { numbers = put_in (actions before) a b list; order = replaced s a b m })
      given_replace (Ok saving) is = record { answers = replace_accepted saving is; leaves = pages_same _ _ is.asked.new_actions is.asked.new_outline }
      given_replace (Err fault) (why, e) = refuse fault _ _ e (replace_refused fault why)

-- the answer to any edit, and the sheet that it asks for
abbrev pub answer_to : View → Page → Change → Answer
answer_to v p (swap k) = answer_swap p.order k
answer_to v p (group a b) = answer_group p.order a b
answer_to v p (ungroup a b) = answer_ungroup v p a b
answer_to v p (loosen i j) = answer_loosen v p i j
answer_to v p (replace a b list) = answer_replace v p a b list

abbrev pub asked_by : Page → Change → Page
asked_by p (swap k) = asked_swap p (first_of p.order k) k (last_of p.order k)
asked_by p (group a b) = record { numbers = p.numbers; order = grouped p.order a b }
asked_by p (ungroup a b) = record { numbers = p.numbers; order = ungrouped p.order a b }
asked_by p (loosen i j) = record { numbers = p.numbers; order = loosened p.order i j }
asked_by p (replace a b list) = record { numbers = put_in p.numbers a b list; order = replaced p.order a b (length list) }

pub given : (prices : ℕ → ℕ) (task : Task) (before : Sheet) (change : Change) (r : Result ℕ EditFault) (after : Sheet) → ByRule prices task before change r after
    → Given before after r (answer_to (view_of task prices) (page_of before) change) (asked_by (page_of before) change)
given prices task before (swap k) r after (q, says, e) = rw e (given_swap before after k q says)
given prices task before (group a b) r after (q, says, e) = rw e (given_group before after a b q says)
given prices task before (ungroup a b) r after (q, says, e) = rw e (given_ungroup before after task prices a b q says)
given prices task before (loosen i j) r after (q, says, e) = rw e (given_loosen before after task prices i j q says)
given prices task before (replace a b list) r after says = given_replace before after task prices a b list r says
