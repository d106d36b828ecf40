-- What a line of a book says, and its one text.
use Rattle.std.specs.Prelude.{◌≡◌, ℕ, true, false, List, decimal}
use Rattle.orders.specs.Changes.{Change}
use Rattle.orders.specs.Changes.Change.{swap, group, ungroup, loosen, replace}
use Rattle.text.specs.Fields.{Small, IsName, IsNumbers, commas}
use Rattle.records.specs.Tabs.{◌·◌}
use Rattle.records.specs.Words.{spelled}
use Rattle.records.specs.declared.word.Word.{Word}
use Rattle.records.specs.declared.word.Word.TheVariants.{Fact, Act, Start, Goal, Step, Swap, Group, Ungroup, Loosen, Replace}

-- an action as a book writes it: name, price, and three sets of fact numbers
pub record Deed : Type 0 where
  pub name : List ℕ
  pub price : ℕ
  pub needs : List ℕ
  pub adds : List ℕ
  pub deletes : List ℕ

-- what a line says
pub data Line : Type 0 where
  fact : List ℕ → Line
  act : Deed → Line
  start : List ℕ → Line
  goal : List ℕ → Line
  step : ℕ → Line
  edit : Change → Line

abbrev pub change_word : Change → Word
change_word (swap k) = Swap
change_word (group a b) = Group
change_word (ungroup a b) = Ungroup
change_word (loosen i j) = Loosen
change_word (replace a b list) = Replace

-- the word that a line begins with
abbrev pub word : Line → Word
word (fact name) = Fact
word (act d) = Act
word (start set) = Start
word (goal set) = Goal
word (step action) = Step
word (edit c) = change_word c

abbrev pub deed_text : Deed → List ℕ
deed_text d = d.name · decimal d.price · commas d.needs · commas d.adds · commas d.deletes

abbrev pub change_text : Change → List ℕ
change_text (swap k) = decimal k
change_text (group a b) = decimal a · decimal b
change_text (ungroup a b) = decimal a · decimal b
change_text (loosen i j) = decimal i · decimal j
change_text (replace a b list) = decimal a · decimal b · commas list

-- the fields behind the word
abbrev pub fields : Line → List ℕ
fields (fact name) = name
fields (act d) = deed_text d
fields (start set) = commas set
fields (goal set) = commas set
fields (step action) = decimal action
fields (edit c) = change_text c

-- a line's text, without its end
abbrev pub text : Line → List ℕ
text l = spelled (word l) · fields l

-- the numbers of a set rise, those of a list come as they like
abbrev pub IsFactSet : List ℕ → Type 0
IsFactSet ns = IsNumbers true ns

abbrev pub IsActionList : List ℕ → Type 0
IsActionList ns = IsNumbers false ns

abbrev pub IsSetText : List ℕ → Type 0
IsSetText bs = (set : List ℕ) × IsFactSet set × (bs ≡ commas set)

pub record ProperDeed (d : Deed) : Type 0 where
  pub name : IsName d.name
  pub price : Small d.price
  pub needs : IsFactSet d.needs
  pub adds : IsFactSet d.adds
  pub deletes : IsFactSet d.deletes

abbrev pub ProperChange : Change → Type 0
ProperChange (swap k) = Small k
ProperChange (group a b) = Small a × Small b
ProperChange (ungroup a b) = Small a × Small b
ProperChange (loosen i j) = Small i × Small j
ProperChange (replace a b list) = Small a × Small b × IsActionList list

-- the forms of the fields: what a line must keep by itself
abbrev pub Proper : Line → Type 0
Proper (fact name) = IsName name
Proper (act d) = ProperDeed d
Proper (start set) = IsFactSet set
Proper (goal set) = IsFactSet set
Proper (step action) = Small action
Proper (edit c) = ProperChange c
