-- The rule of sequence and bounds, line by line: which line may follow those before it.
use Rattle.std.proofs.Common.{◌≡◌, ℕ, ◌+◌, ◌<◌, ◌≤◌, List, [], ◌∷◌, ◌++◌, map, length, fold, refl, ap, subst, ⊎_elim, arith}
use Rattle.std.specs.List.{AllByRecursion}
use Rattle.std.proofs.ByRecursion.{All-append, All-push}
use Rattle.std.proofs.lemmas.List.{length_push}
use Rattle.std.proofs.lemmas.Bool.{cases_lt, cases_eq}
use Rattle.book.specs.Joining.{stage, May, with_line}
use Rattle.orders.specs.Changes.{Change}
use Rattle.records.specs.Lines.{Deed, Line, Proper, IsFactSet}
use Rattle.records.specs.Lines.Line.{fact, act, start, goal, step, edit}
use Rattle.book.specs.Weeks.{Week, no_week, said, Known, DeedFits, ChangeFits, Whole, Begins}
use Rattle.book.proofs.Gathers.{gathered, with_facts, with_acts}

-- where the lines lead
abbrev pub stage_after : ℕ → List Line → ℕ
stage_after s [] = s
stage_after s (l ∷ ls) = stage_after (stage l) ls

-- each line may follow those before it
abbrev pub Follow : ℕ → Week → List Line → Type 0
Follow s w [] = Unit {0}
Follow s w (l ∷ ls) = May s w l × Follow (stage l) (with_line w l) ls

-- the lines end behind the goal
abbrev pub Ends : ℕ → List Line → Type 0
Ends s ls = 3 ≤ stage_after s ls

-- from each stage on, lines that follow to the end are the rest of a book
edits_rest : (s : ℕ) (w : Week) (ls : List Line) → s ≡ 4 → Follow s w ls → (cs : List Change) × (map edit cs ≡ ls) × AllByRecursion ChangeFits cs
edits_rest s w [] e f = ([], refl, tt)
edits_rest s w (fact x ∷ ls) e f = absurd (omega arith)
edits_rest s w (act d ∷ ls) e f = absurd (omega arith)
edits_rest s w (start x ∷ ls) e f = absurd (omega arith)
edits_rest s w (goal x ∷ ls) e f = absurd (omega arith)
edits_rest s w (step a ∷ ls) e f = absurd (omega arith)
edits_rest s w (edit c ∷ ls) e f =
    let r = edits_rest 4 (with_line w (edit c)) ls refl f.1 in
    (c ∷ r.0, ap (λ t. edit c ∷ t) r.1, (f.0.1, r.2))

record StepsRest (m k : ℕ) (ls : List Line) : Type 0 where
  steps : List ℕ
  changes : List Change
  are : map step steps ++ map edit changes ≡ ls
  few : k + length steps ≤ 128
  known : AllByRecursion (λ a. a < m) steps
  change : AllByRecursion ChangeFits changes

steps_rest : (s k : ℕ) (w : Week) (ls : List Line) → s ≡ 3 → length w.steps ≡ k → k ≤ 128 → Follow s w ls → StepsRest (length w.deeds) k ls
steps_rest s k w [] e c b f = record { steps = []; changes = []; are = refl; few = omega arith; known = tt; change = tt }
steps_rest s k w (fact x ∷ ls) e c b f = absurd (omega arith)
steps_rest s k w (act d ∷ ls) e c b f = absurd (omega arith)
steps_rest s k w (start x ∷ ls) e c b f = absurd (omega arith)
steps_rest s k w (goal x ∷ ls) e c b f = absurd (omega arith)
steps_rest s k w (step a ∷ ls) e c b f =
    let r = steps_rest 3 (k + 1) (with_line w (step a)) ls refl (omega (arith, length_push w.steps a)) (omega arith) f.1 in
    record { steps = a ∷ r.steps; changes = r.changes; are = ap (λ t. step a ∷ t) r.are; few = omega arith; known = (f.0.2, r.known); change = r.change }
steps_rest s k w (edit x ∷ ls) e c b f =
    let r = edits_rest 4 (with_line w (edit x)) ls refl f.1 in
    record { steps = []; changes = x ∷ r.0; are = ap (λ t. edit x ∷ t) r.1; few = omega arith; known = tt; change = (f.0.1, r.2) }

record ActsRest (n m : ℕ) (ls : List Line) : Type 0 where
  deeds : List Deed
  starts : List ℕ
  goals : List ℕ
  rest : List Line
  are : map act deeds ++ (start starts ∷ goal goals ∷ rest) ≡ ls
  few : m + length deeds ≤ 128
  known : AllByRecursion (DeedFits n) deeds
  start_known : Known n starts
  goal_known : Known n goals
  count : ℕ
  counts : m + length deeds ≡ count
  steps : StepsRest count 0 rest

goal_rest : (s m : ℕ) (set : List ℕ) (w : Week) (ls : List Line) → s ≡ 2 → Known (length w.facts) set → length w.deeds ≡ m → m ≤ 128 → length w.steps ≡ 0
    → Follow s w ls → Ends s ls → ActsRest (length w.facts) m (start set ∷ ls)
goal_rest s m set w [] e p c b z f d = absurd (omega arith)
goal_rest s m set w (fact x ∷ ls) e p c b z f d = absurd (omega arith)
goal_rest s m set w (act x ∷ ls) e p c b z f d = absurd (omega arith)
goal_rest s m set w (start x ∷ ls) e p c b z f d = absurd (omega arith)
goal_rest s m set w (goal x ∷ ls) e p c b z f d =
    record { deeds = []; starts = set; goals = x; rest = ls; are = refl; few = omega arith; known = tt; start_known = p; goal_known = f.0.1; count = length w.deeds; counts = omega arith; steps = steps_rest 3 0 (with_line w (goal x)) ls refl z (omega arith) f.1 }
goal_rest s m set w (step a ∷ ls) e p c b z f d = absurd (omega arith)
goal_rest s m set w (edit x ∷ ls) e p c b z f d = absurd (omega arith)

acts_rest : (s m : ℕ) (w : Week) (ls : List Line) → s ≡ 1 → length w.deeds ≡ m → m ≤ 128 → length w.steps ≡ 0 → Follow s w ls → Ends s ls → ActsRest (length w.facts) m ls
acts_rest s m w [] e c b z f d = absurd (omega arith)
acts_rest s m w (fact x ∷ ls) e c b z f d = absurd (omega arith)
acts_rest s m w (act x ∷ ls) e c b z f d =
    let r = acts_rest 1 (m + 1) (with_line w (act x)) ls refl (omega (arith, length_push w.deeds x)) (omega arith) z f.1 d in
    record { deeds = x ∷ r.deeds; starts = r.starts; goals = r.goals; rest = r.rest; are = ap (λ t. act x ∷ t) r.are; few = omega arith; known = (f.0.2, r.known); start_known = r.start_known; goal_known = r.goal_known; count = r.count; counts = omega arith; steps = r.steps }
acts_rest s m w (start x ∷ ls) e c b z f d = goal_rest 2 m x (with_line w (start x)) ls refl f.0.1 c b z f.1 d
acts_rest s m w (goal x ∷ ls) e c b z f d = absurd (omega arith)
acts_rest s m w (step a ∷ ls) e c b z f d = absurd (omega arith)
acts_rest s m w (edit x ∷ ls) e c b z f d = absurd (omega arith)

record FactsRest (n : ℕ) (ls : List Line) : Type 0 where
  facts : List (List ℕ)
  rest : List Line
  are : map fact facts ++ rest ≡ ls
  few : n + length facts ≤ 64
  count : ℕ
  counts : n + length facts ≡ count
  acts : ActsRest count 0 rest

no_more_facts : (n : ℕ) (w : Week) (ls : List Line) → length w.facts ≡ n → n ≤ 64 → ActsRest (length w.facts) 0 ls → FactsRest n ls
no_more_facts n w ls c b r = record { facts = []; rest = ls; are = refl; few = omega arith; count = length w.facts; counts = omega arith; acts = r }

facts_rest : (s n : ℕ) (w : Week) (ls : List Line) → s ≡ 0 → length w.facts ≡ n → n ≤ 64 → length w.deeds ≡ 0 → length w.steps ≡ 0 → Follow s w ls → Ends s ls → FactsRest n ls
facts_rest s n w [] e c b y z f d = absurd (omega arith)
facts_rest s n w (fact x ∷ ls) e c b y z f d =
    let r = facts_rest 0 (n + 1) (with_line w (fact x)) ls refl (omega (arith, length_push w.facts x)) (omega arith) y z f.1 d in
    record { facts = x ∷ r.facts; rest = r.rest; are = ap (λ t. fact x ∷ t) r.are; few = omega arith; count = r.count; counts = omega arith; acts = r.acts }
facts_rest s n w (act x ∷ ls) e c b y z f d =
    no_more_facts n w _ c b (acts_rest 1 0 w (act x ∷ ls) refl y (omega arith) z ((omega arith, f.0.1, f.0.2), f.1) d)
facts_rest s n w (start x ∷ ls) e c b y z f d =
    no_more_facts n w _ c b (acts_rest 1 0 w (start x ∷ ls) refl y (omega arith) z ((omega arith, f.0.1), f.1) d)
facts_rest s n w (goal x ∷ ls) e c b y z f d = absurd (omega arith)
facts_rest s n w (step a ∷ ls) e c b y z f d = absurd (omega arith)
facts_rest s n w (edit x ∷ ls) e c b y z f d = absurd (omega arith)

-- a book from nothing: each line is of its form, and may follow those before it
abbrev pub Sound : List Line → Type 0
Sound ls = Follow 0 no_week ls × AllByRecursion Proper ls

pub whole_from_sound : (ls : List Line) → Sound ls → Ends 0 ls → Whole ls
whole_from_sound ls f d =
    let r = facts_rest 0 0 no_week ls refl refl (omega arith) refl refl f.0 d in
    let n : r.count ≡ length r.facts = omega arith in
    let a = subst (λ c. ActsRest c 0 r.rest) n r.acts in
    let m : a.count ≡ length a.deeds = omega arith in
    let t = subst (λ c. StepsRest c 0 a.rest) m a.steps in
    let w : Week = record { facts = r.facts; deeds = a.deeds; starts = a.starts; goals = a.goals; steps = t.steps; changes = t.changes } in
    let e : said w ≡ ls = rw (t.are, a.are, r.are) refl in
    (w, record { forms = rw e f.1; facts = omega arith; deeds = omega arith; steps = omega arith; deed = a.known; starts = a.start_known; goals = a.goal_known; step = t.known; change = t.change }, e)

-- and the other way: the lines of a book follow to its end
follow_edits : (s : ℕ) (w : Week) (cs : List Change) → 3 ≤ s → AllByRecursion ChangeFits cs → Follow s w (map edit cs)
follow_edits s w [] b a = tt
follow_edits s w (c ∷ cs) b a = ((b, a.0), follow_edits 4 (with_line w (edit c)) cs (omega arith) a.1)

follow_steps : (w : Week) (xs : List ℕ) (cs : List Change) → length w.steps + length xs ≤ 128 → AllByRecursion (λ a. a < length w.deeds) xs → AllByRecursion ChangeFits cs → Follow 3 w (map step xs ++ map edit cs)
follow_steps w [] cs b known fits = follow_edits 3 w cs (omega arith) fits
follow_steps w (a ∷ xs) cs b known fits =
    ((refl, omega arith, known.0), follow_steps (with_line w (step a)) xs cs (omega (arith, length_push w.steps a)) known.1 fits)

follow_acts : (s : ℕ) (w : Week) (ds : List Deed) (rest : List Line) → s ≤ 1 → length w.deeds + length ds ≤ 128 → AllByRecursion (DeedFits (length w.facts)) ds
    → ((t : ℕ) → t ≤ 1 → Follow t (fold with_line w (map act ds)) rest) → Follow s w (map act ds ++ rest)
follow_acts s w [] rest b few fits go = go s b
follow_acts s w (d ∷ ds) rest b few fits go =
    ((b, omega arith, fits.0), follow_acts 1 (with_line w (act d)) ds rest (omega arith) (omega (arith, length_push w.deeds d)) fits.1 go)

follow_facts : (w : Week) (xs : List (List ℕ)) (rest : List Line) → length w.facts + length xs ≤ 64 → Follow 0 (fold with_line w (map fact xs)) rest → Follow 0 w (map fact xs ++ rest)
follow_facts w [] rest few go = go
follow_facts w (x ∷ xs) rest few go =
    ((omega arith, omega arith), follow_facts (with_line w (fact x)) xs rest (omega (arith, length_push w.facts x)) go)

pub sound_from_whole : (ls : List Line) → Whole ls → Sound ls
sound_from_whole ls (w, fits, e) =
    let behind : (v : Week) → v.deeds ≡ w.deeds → v.steps ≡ [] → Follow 3 v (map step w.steps ++ map edit w.changes) =
    λ v p q. follow_steps v w.steps w.changes (rw q (omega arith)) (rw p fits.step) fits.change in
    let f : Follow 0 no_week (said w) =
    follow_facts no_week w.facts _ (omega arith) (rw (with_facts no_week w.facts)
    (follow_acts 0 _ w.deeds _ (omega arith) (omega arith) fits.deed (λ t h. rw (with_acts _ w.deeds)
    ((h, fits.starts), ((refl, fits.goals), behind _ refl refl))))) in
    (rw e at f, rw e at fits.forms)

-- this line may follow those
abbrev pub MayFollow : List Line → Line → Type 0
MayFollow ls l = May (stage_after 0 ls) (gathered ls) l

pub stage-append : (s : ℕ) (xs ys : List Line) → stage_after s (xs ++ ys) ≡ stage_after (stage_after s xs) ys
stage-append s [] ys = refl
stage-append s (x ∷ xs) ys = stage-append (stage x) xs ys

follow_append : (s : ℕ) (w : Week) (xs ys : List Line) → Follow s w xs → Follow (stage_after s xs) (fold with_line w xs) ys → Follow s w (xs ++ ys)
follow_append s w [] ys f g = g
follow_append s w (x ∷ xs) ys f g = (f.0, follow_append (stage x) (with_line w x) xs ys f.1 g)

follow_parts : (s : ℕ) (w : Week) (xs ys : List Line) → Follow s w (xs ++ ys) → Follow s w xs × Follow (stage_after s xs) (fold with_line w xs) ys
follow_parts s w [] ys f = (tt, f)
follow_parts s w (x ∷ xs) ys f = let r = follow_parts (stage x) (with_line w x) xs ys f.1 in ((f.0, r.0), r.1)

pub all_parts : {X : Type 0} (P : X → Type 0) (xs ys : List X) → AllByRecursion P (xs ++ ys) → AllByRecursion P xs × AllByRecursion P ys
all_parts P [] ys a = (tt, a)
all_parts P (x ∷ xs) ys a = let r = all_parts P xs ys a.1 in ((a.0, r.0), r.1)

pub sound_push : (ls : List Line) (l : Line) → Sound ls → Proper l → MayFollow ls l → Sound (ls ++ l ∷ [])
sound_push ls l f p m = (follow_append 0 no_week ls (l ∷ []) f.0 (m, tt), All-push Proper ls l f.1 p)

-- every book so far can be brought to its end
pub sound_begins : (ls : List Line) → Sound ls → Begins ls
sound_begins ls f =
    let go : (more : List Line) → Follow (stage_after 0 ls) (gathered ls) more → AllByRecursion Proper more → 3 ≤ stage_after (stage_after 0 ls) more → Begins ls =
    λ more g p e. (more, whole_from_sound (ls ++ more) (follow_append 0 no_week ls more f.0 g, All-append Proper ls more f.1 p) (rw (stage-append 0 ls more) e)) in
    let empty : IsFactSet [] = (tt, λ _ k h. absurd (omega arith)) in
    ⊎_elim
    (λ low. go (start [] ∷ goal [] ∷ []) ((omega arith, tt), ((refl, tt), tt)) (empty, (empty, tt)) (omega arith))
    (λ late. ⊎_elim (λ two. go (goal [] ∷ []) ((two, tt), tt) (empty, tt) (omega arith)) (λ other. go [] tt tt (omega arith)) (cases_eq (stage_after 0 ls) 2))
    (cases_lt (stage_after 0 ls) 2)

pub begins_sound : (ls : List Line) → Begins ls → Sound ls
begins_sound ls (more, whole) =
    let f = sound_from_whole (ls ++ more) whole in
    ((follow_parts 0 no_week ls more f.0).0, (all_parts Proper ls more f.1).0)

-- a line that may not follow begins no book
pub may_follow : (ls : List Line) (l : Line) → Begins (ls ++ l ∷ []) → MayFollow ls l
may_follow ls l b = (follow_parts 0 no_week ls (l ∷ []) (begins_sound (ls ++ l ∷ []) b).0).1.0

ends_edits : (s : ℕ) (cs : List Change) → 3 ≤ s → 3 ≤ stage_after s (map edit cs)
ends_edits s [] b = b
ends_edits s (c ∷ cs) b = ends_edits 4 cs (omega arith)

ends_steps : (xs : List ℕ) (ls : List Line) → 3 ≤ stage_after 3 ls → 3 ≤ stage_after 3 (map step xs ++ ls)
ends_steps [] ls b = b
ends_steps (x ∷ xs) ls b = ends_steps xs ls b

-- a whole book ends behind its goal
pub whole_ends : (ls : List Line) → Whole ls → Ends 0 ls
whole_ends ls (w, fits, e) =
    let late = ends_steps w.steps (map edit w.changes) (ends_edits 3 w.changes (omega arith)) in
    let h : Ends 0 (said w) = rw (stage-append 0 (map fact w.facts), stage-append _ (map act w.deeds)) late in
    rw e at h
