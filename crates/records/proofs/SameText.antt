-- Each line has one text, and each text at most one line: what a line says is known by its bytes.
use Rattle.std.proofs.Common.{◌≡◌, ℕ, List, decimal, sym, refl, ap, ◌∙◌, subst, arith}
use Rattle.std.specs.List.{AllByRecursion}
use Rattle.text.specs.Fields.{Small, commas}
use Rattle.text.proofs.Cuts.{same_cut}
use Rattle.text.proofs.Lists.{same_list}
use Rattle.text.proofs.Numerals.{same_number}
use Rattle.records.specs.Lines.{Deed, IsFactSet, Line, Proper, fields, text, word}
use Rattle.orders.specs.Changes.Change.{swap, group, ungroup, loosen, replace}
use Rattle.records.specs.Lines.Line.{fact, act, start, goal, step, edit}
use Rattle.records.specs.Tabs.{◌·◌}
use Rattle.records.specs.Words.{spelled}
use Rattle.records.specs.declared.word.Word.{Word}
use Rattle.records.specs.declared.word.Word.TheVariants.{Fact, Act, Start, Goal, Step, Swap, Group, Ungroup, Loosen, Replace}
use Rattle.records.proofs.FirstField.{past_name, past_number, past_set}
use Rattle.records.proofs.Spelling.{same_word, word_lacks}

-- what stands behind each word, and the line that it makes
abbrev Payload : Word → Type 0
Payload Fact = List ℕ
Payload Act = Deed
Payload Start = List ℕ
Payload Goal = List ℕ
Payload Step = ℕ
Payload Swap = ℕ
Payload Group = ℕ × ℕ
Payload Ungroup = ℕ × ℕ
Payload Loosen = ℕ × ℕ
Payload Replace = ℕ × ℕ × List ℕ

abbrev line_with : (w : Word) → Payload w → Line
line_with Fact name = fact name
line_with Act d = act d
line_with Start set = start set
line_with Goal set = goal set
line_with Step a = step a
line_with Swap k = edit (swap k)
line_with Group p = edit (group p.0 p.1)
line_with Ungroup p = edit (ungroup p.0 p.1)
line_with Loosen p = edit (loosen p.0 p.1)
line_with Replace p = edit (replace p.0 p.1 p.2)

taken_apart : (l : Line) → (p : Payload (word l)) × (line_with (word l) p ≡ l)
taken_apart (fact name) = (name, refl)
taken_apart (act d) = (d, refl)
taken_apart (start set) = (set, refl)
taken_apart (goal set) = (set, refl)
taken_apart (step a) = (a, refl)
taken_apart (edit (swap k)) = (k, refl)
taken_apart (edit (group a b)) = ((a, b), refl)
taken_apart (edit (ungroup a b)) = ((a, b), refl)
taken_apart (edit (loosen a b)) = ((a, b), refl)
taken_apart (edit (replace a b list)) = ((a, b, list), refl)

same_decimal : (a b : ℕ) → Small a → Small b → decimal a ≡ decimal b → a ≡ b
same_decimal a b s t e = same_number (decimal a) a b (s, refl) (t, e)

same_commas : (ms ns : List ℕ) → AllByRecursion Small ms → AllByRecursion Small ns → commas ms ≡ commas ns → ms ≡ ns
same_commas ms ns s t e = same_list (commas ms) ms ns (s, refl) (t, e)

same_pair : (a b c d : ℕ) → Small a → Small b → Small c → Small d → decimal a · decimal b ≡ decimal c · decimal d → (a ≡ c) × (b ≡ d)
same_pair a b c d p q r s e =
    let f = past_number _ a (decimal b) c (decimal d) p r refl e in
    (same_decimal a c p r f.0, same_decimal b d q s f.1)

set_of : (ns : List ℕ) → IsFactSet ns → (set : List ℕ) × IsFactSet set × (commas ns ≡ commas set)
set_of ns p = (ns, p, refl)

same_payload : (w : Word) (p q : Payload w) → Proper (line_with w p) → Proper (line_with w q) → fields (line_with w p) ≡ fields (line_with w q) → p ≡ q
same_payload Fact p q s t e = e
same_payload Act p q s t e =
    let f₁ = past_name _ p.name _ q.name _ s.name t.name refl e in
    let f₂ = past_number _ p.price _ q.price _ s.price t.price refl f₁.1 in
    let f₃ = past_set _ (commas p.needs) _ (commas q.needs) _ (set_of _ s.needs) (set_of _ t.needs) refl f₂.1 in
    let f₄ = past_set _ (commas p.adds) _ (commas q.adds) _ (set_of _ s.adds) (set_of _ t.adds) refl f₃.1 in
    same_deed p q f₁.0 (same_decimal p.price q.price s.price t.price f₂.0) (same_commas p.needs q.needs s.needs.0 t.needs.0 f₃.0)
    (same_commas p.adds q.adds s.adds.0 t.adds.0 f₄.0) (same_commas p.deletes q.deletes s.deletes.0 t.deletes.0 f₄.1)
  where
    same_deed : (p q : Deed) → p.name ≡ q.name → p.price ≡ q.price → p.needs ≡ q.needs → p.adds ≡ q.adds → p.deletes ≡ q.deletes → p ≡ q
    same_deed p q a b c d e = λ i. record { name = a i; price = b i; needs = c i; adds = d i; deletes = e i }
same_payload Start p q s t e = same_commas p q s.0 t.0 e
same_payload Goal p q s t e = same_commas p q s.0 t.0 e
same_payload Step p q s t e = same_decimal p q s t e
same_payload Swap p q s t e = same_decimal p q s t e
same_payload Group p q s t e = let f = same_pair p.0 p.1 q.0 q.1 s.0 s.1 t.0 t.1 e in λ i. (f.0 i, f.1 i)
same_payload Ungroup p q s t e = let f = same_pair p.0 p.1 q.0 q.1 s.0 s.1 t.0 t.1 e in λ i. (f.0 i, f.1 i)
same_payload Loosen p q s t e = let f = same_pair p.0 p.1 q.0 q.1 s.0 s.1 t.0 t.1 e in λ i. (f.0 i, f.1 i)
same_payload Replace p q s t e =
    let f₁ = past_number _ p.0 _ q.0 _ s.0 t.0 refl e in
    let f₂ = past_number _ p.1 _ q.1 _ s.1 t.1 refl f₁.1 in
    let f₃ = same_commas p.2 q.2 s.2.0 t.2.0 f₂.1 in
    let a = same_decimal p.0 q.0 s.0 t.0 f₁.0 in
    let b = same_decimal p.1 q.1 s.1 t.1 f₂.0 in
    λ i. (a i, b i, f₃ i)

same_with : (v w : Word) (p : Payload v) (q : Payload w) → v ≡ w → Proper (line_with v p) → Proper (line_with w q) → fields (line_with v p) ≡ fields (line_with w q) → line_with v p ≡ line_with w q
same_with v w p q same s =
    let P : Word → Type 0 = λ w. (q : Payload w) → Proper (line_with w q) → fields (line_with v p) ≡ fields (line_with w q) → line_with v p ≡ line_with w q in
    subst P same (λ q t e. ap (line_with v) (same_payload v p q s t e)) q

pub same_line : (l m : Line) → Proper l → Proper m → text l ≡ text m → l ≡ m
same_line l m s t e =
    let split = same_cut 9 (spelled (word l)) (spelled (word m)) (fields l) (fields m) (word_lacks 9 (word l) (omega arith)) (word_lacks 9 (word m) (omega arith)) e in
    let a = taken_apart l in
    let b = taken_apart m in
    sym a.1 ∙ same_with (word l) (word m) a.0 b.0 (same_word (word l) (word m) split.0) (rw a.1 s) (rw b.1 t) (ap fields a.1 ∙ split.1 ∙ sym (ap fields b.1)) ∙ b.1
