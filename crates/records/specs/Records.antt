-- What a record of the reader says: a line, whose names and lists are parts of the text.
use Rattle.std.specs.Prelude.{◌≡◌, ℕ, List}
use Rattle.text.specs.Fields.{commas}
use Rattle.orders.specs.Changes.{Change}
use Rattle.records.specs.Lines.{Deed, Line}
use Rattle.orders.specs.Changes.Change.{swap, group, ungroup, loosen, replace}
use Rattle.records.specs.Lines.Line.{fact, act, start, goal, step, edit}
use Rattle.records.specs.declared.record.Act.{Act as ActPart}
use Rattle.records.specs.declared.record.Edit.{Edit as EditPart}
use Rattle.records.specs.declared.record.Edit.TheVariants.{Swap, Group, Ungroup, Loosen, Replace}
use Rattle.records.specs.declared.record.Record.{Record}
use Rattle.records.specs.declared.record.Record.TheVariants.{Fact, Act, Set, Step, Edit}
use Rattle.records.specs.declared.record.Side.TheVariants.{Start, Goal}

pub record ActSays (a : ActPart) (d : Deed) : Type 0 where
  pub name : d.name ≡ a.name.now
  pub price : d.price ≡ a.price
  pub needs : a.needs.now ≡ commas d.needs
  pub adds : a.adds.now ≡ commas d.adds
  pub deletes : a.deletes.now ≡ commas d.deletes

abbrev pub EditSays : EditPart → Change → Type 0
EditSays (Swap k) c = c ≡ swap k
EditSays (Group a b) c = c ≡ group a b
EditSays (Ungroup a b) c = c ≡ ungroup a b
EditSays (Loosen i j) c = c ≡ loosen i j
EditSays (Replace a b t) c = (list : List ℕ) × (c ≡ replace a b list) × (t.now ≡ commas list)

abbrev pub Says : Record → Line → Type 0
Says (Fact n) l = l ≡ fact n.now
Says (Act a) l = (d : Deed) × (l ≡ act d) × ActSays a d
Says (Set Start t) l = (set : List ℕ) × (l ≡ start set) × (t.now ≡ commas set)
Says (Set Goal t) l = (set : List ℕ) × (l ≡ goal set) × (t.now ≡ commas set)
Says (Step a) l = l ≡ step a
Says (Edit e) l = (c : Change) × (l ≡ edit c) × EditSays e c
