-- Each word is known by its bytes, and each line's text is one alone.
use Rattle.std.proofs.Common.{◌≡◌, ℕ, ◌<◌, cond, eqb, ◌≢◌, List, ◌∷◌, length, get_or, decimal, sym, refl, ap, ◌∙◌, arith}
use Rattle.std.specs.List.{AllByRecursion}
use Rattle.std.proofs.ByRecursion.{All-append, All-weaker}
use Rattle.text.specs.Fields.{Lacks, Small, commas}
use Rattle.text.proofs.Lists.{list_lacks}
use Rattle.text.proofs.Numerals.{name_lacks}
use Rattle.records.specs.Lines.{Line, Proper, word, fields, text}
use Rattle.orders.specs.Changes.Change.{swap, group, ungroup, loosen, replace}
use Rattle.records.specs.Lines.Line.{fact, act, start, goal, step, edit}
use Rattle.records.specs.Tabs.{◌·◌}
use Rattle.records.specs.Words.{spelled}
use Rattle.records.proofs.FirstField.{number_lacks}
use Rattle.records.specs.declared.word.Word.{Word}
use Rattle.records.specs.declared.word.Word.TheVariants.{Fact, Act, Start, Goal, Step, Swap, Group, Ungroup, Loosen, Replace}

-- a word's bytes are letters
letters : (w : Word) → AllByRecursion (λ b. 96 < b) (spelled w)
letters Fact = omega arith
letters Act = omega arith
letters Start = omega arith
letters Goal = omega arith
letters Step = omega arith
letters Swap = omega arith
letters Group = omega arith
letters Ungroup = omega arith
letters Loosen = omega arith
letters Replace = omega arith

pub word_lacks : (c : ℕ) (w : Word) → c < 96 → Lacks c (spelled w)
word_lacks c w h = All-weaker _ (λ b. b ≢ c) (λ b p e. omega arith) (spelled w) (letters w)

-- a word by its length and its second letter, which no two share
word_by : ℕ → ℕ → Word
word_by n b =
    cond (eqb n 3) Act (cond (eqb n 6) Loosen (cond (eqb b 97) Fact (cond (eqb b 111) Goal (cond (eqb b 119) Swap (cond (eqb b 114) Group (cond (eqb b 110) Ungroup (cond (eqb b 101) Replace (cond (eqb n 4) Step Start))))))))

word_back : (w : Word) → word_by (length (spelled w)) (get_or (spelled w) 1 0) ≡ w
unfolding word_by
word_back Fact = refl
word_back Act = refl
word_back Start = refl
word_back Goal = refl
word_back Step = refl
word_back Swap = refl
word_back Group = refl
word_back Ungroup = refl
word_back Loosen = refl
word_back Replace = refl

pub same_word : (v w : Word) → spelled v ≡ spelled w → v ≡ w
same_word v w e = sym (word_back v) ∙ ap (λ bs. word_by (length bs) (get_or bs 1 0)) e ∙ word_back w

tabbed_lacks : (a b : List ℕ) → Lacks 10 a → Lacks 10 b → Lacks 10 (a · b)
tabbed_lacks a b p q = All-append _ a (9 ∷ b) p (omega arith, q)

number_line : (n : ℕ) → Small n → Lacks 10 (decimal n)
number_line n s = number_lacks 10 n (omega arith) s

list_line : (ns : List ℕ) → AllByRecursion Small ns → Lacks 10 (commas ns)
list_line ns s = list_lacks 10 ns (λ mark. omega arith) s

pair_line : (a b : ℕ) → Small a → Small b → Lacks 10 (decimal a · decimal b)
pair_line a b s t = tabbed_lacks (decimal a) (decimal b) (number_line a s) (number_line b t)

fields_lack : (l : Line) → Proper l → Lacks 10 (fields l)
fields_lack (fact name) p = name_lacks 10 name (λ p. omega arith) p
fields_lack (act d) p =
    tabbed_lacks d.name _ (name_lacks 10 d.name (λ p. omega arith) p.name)
    (tabbed_lacks (decimal d.price) _ (number_line d.price p.price)
    (tabbed_lacks (commas d.needs) _ (list_line d.needs p.needs.0)
    (tabbed_lacks (commas d.adds) _ (list_line d.adds p.adds.0) (list_line d.deletes p.deletes.0))))
fields_lack (start set) p = list_line set p.0
fields_lack (goal set) p = list_line set p.0
fields_lack (step a) p = number_line a p
fields_lack (edit (swap k)) p = number_line k p
fields_lack (edit (group a b)) p = pair_line a b p.0 p.1
fields_lack (edit (ungroup a b)) p = pair_line a b p.0 p.1
fields_lack (edit (loosen a b)) p = pair_line a b p.0 p.1
fields_lack (edit (replace a b list)) p =
    tabbed_lacks (decimal a) _ (number_line a p.0) (tabbed_lacks (decimal b) _ (number_line b p.1) (list_line list p.2.0))

-- a line's text has no line end in it
pub text_lacks : (l : Line) → Proper l → Lacks 10 (text l)
text_lacks l p = tabbed_lacks (spelled (word l)) (fields l) (word_lacks 10 (word l) (omega arith)) (fields_lack l p)
