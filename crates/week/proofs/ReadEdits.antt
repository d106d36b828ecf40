-- The lines of a book as they are read again, and the edits among them.
use Rattle.std.proofs.Common.{◌≡◌, ◌<◌, List, [], ◌∷◌, length, Some, None, Ok, Err, sym, refl, ap, ◌∙◌, subst, arith, length-append}
use Rattle.std.specs.List.{AllByRecursion}
use Rattle.book.specs.Weeks.{bytes}
use Rattle.orders.specs.Changes.{Change}
use Rattle.records.proofs.SameText.{same_line}
use Rattle.records.proofs.Spelling.{text_lacks}
use Rattle.records.specs.Lines.{Line, Proper, text}
use Rattle.records.specs.Reading.{Next, unread}
use Rattle.records.specs.Records.{Says}
use Rattle.records.specs.declared.fault.RecordFault.{RecordFault}
use Rattle.records.specs.declared.reader.Reader.{Reader}
use Rattle.records.specs.declared.record.Edit.{Edit as EditPart}
use Rattle.records.specs.declared.record.Record.{Record}
use Rattle.records.specs.declared.record.Record.TheVariants.{Fact, Act, Set, Step, Edit}
use Rattle.records.specs.declared.record.Side.TheVariants.{Start, Goal}
use Rattle.week.specs.Editing.{NextEdit, changes_in, with_change}
use Rattle.text.proofs.Cuts.{same_cut}

-- the first of the lines is read
pub record OneRead (lines : List Line) (x : Record) (r : Reader) : Type 0 where
  pub line : Line
  pub more : List Line
  pub are : lines ≡ line ∷ more
  pub says : Says x line
  pub proper : Proper line
  pub forms : AllByRecursion Proper more
  pub left : unread r ≡ bytes more

pub one_read : (lines : List Line) → AllByRecursion Proper lines → (r r' : Reader) (x : Record) → unread r ≡ bytes lines → Next r (Ok (Some x)) r' → OneRead lines x r'
one_read [] forms r r' x e (l, p, says, cut, _) = absurd (omega (arith, ap length (sym e ∙ cut), length-append (text l) (10 ∷ unread r')))
one_read (k ∷ more) forms r r' x e (l, p, says, cut, _) =
    let split = same_cut 10 (text k) (text l) (bytes more) (unread r') (text_lacks k forms.0) (text_lacks l p) (sym e ∙ cut) in
    record {
      line = k;
      more = more;
      are = refl;
      says = subst (Says x) (sym (same_line k l forms.0 p split.0)) says;
      proper = forms.0;
      forms = forms.1;
      left = sym split.1;
    }

-- a line is read, so fewer bytes are left
pub fewer_left : (r r' : Reader) (x : Record) → Next r (Ok (Some x)) r' → length (unread r') < length (unread r)
fewer_left r r' x (l, p, says, cut, _) = omega (arith, ap length cut, length-append (text l) (10 ∷ unread r'))

-- where no line can be read, there is none
pub none_left : (lines : List Line) (r r' : Reader) → unread r ≡ bytes lines → Next r (Ok None) r' → lines ≡ []
none_left [] r r' e next = refl
none_left (l ∷ more) r r' e (ended, _) = absurd (omega (arith, ap length (sym e ∙ ended), length-append (text l) (10 ∷ bytes more)))

pub none_bad : (lines : List Line) → AllByRecursion Proper lines → (r r' : Reader) (f : RecordFault) → unread r ≡ bytes lines → Next r (Err f) r' → lines ≡ []
none_bad [] forms r r' f e next = refl
none_bad (l ∷ more) forms r r' f e (some, none, _) = absurd (none l (bytes more) forms.0 e)

-- the lines that are left have the same edits
abbrev pub SameEdits : Reader → Reader → Type 0
SameEdits first now = (lines : List Line) → AllByRecursion Proper lines → unread first ≡ bytes lines → (more : List Line) × AllByRecursion Proper more × (unread now ≡ bytes more) × (changes_in lines ≡ changes_in more)

-- any other line has no edit
passed : (x : Record) (l : Line) → Says x l → ((e : EditPart) → x ≡ Edit e → ⊥) → (changes : List Change) → with_change l changes ≡ changes
passed (Fact n) l e none changes = rw e refl
passed (Act a) l (d, e, _) none changes = rw e refl
passed (Set Start t) l (set, e, _) none changes = rw e refl
passed (Set Goal t) l (set, e, _) none changes = rw e refl
passed (Step a) l e none changes = rw e refl
passed (Edit e) l s none changes = absurd (none e refl)

module _ (first r r' : Reader) (x : Record) (next : Next r (Ok (Some x)) r') (so_far : SameEdits first r) where
  pub passed_over : ((e : EditPart) → x ≡ Edit e → ⊥) → SameEdits first r'
  passed_over none lines forms e =
      let s = so_far lines forms e in
      let o = one_read s.0 s.1 r r' x s.2 next in
      (o.more, o.forms, o.left, s.3 ∙ ap changes_in o.are ∙ passed x o.line o.says none (changes_in o.more))

  pub edit_read : (e : EditPart) → x ≡ Edit e → (lines : List Line) → AllByRecursion Proper lines → unread first ≡ bytes lines → NextEdit lines e r'
  edit_read e is lines forms start =
      let s = so_far lines forms start in
      let o = one_read s.0 s.1 r r' x s.2 next in
      let (change, line, says) = subst (λ (y : Record). Says y o.line) is o.says in
      record {
        change = change;
        more = o.more;
        says = says;
        proper = subst Proper line o.proper;
        forms = o.forms;
        left = o.left;
        changes = s.3 ∙ ap changes_in o.are ∙ ap (λ (l : Line). with_change l (changes_in o.more)) line;
      }
