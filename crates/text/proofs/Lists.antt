-- What a step through a list's text reads.
use Rattle.std.proofs.Common.{◌≡◌, ℕ, ◌<◌, ◌↔◌, List, [], ◌∷◌, ◌++◌, length, get_or, Some, None, decimal, Option, sym, refl, ap, ◌∙◌, append_assoc, append-nil, arith, length-append}
use Rattle.std.specs.List.{AllByRecursion}
use Rattle.std.specs.Int.{IsInRange}
use Rattle.std.proofs.lemmas.Fmt.{decimal_nonempty, digits_decimal}
use Rattle.std.proofs.ByRecursion.{All-append}
use Rattle.std.proofs.lemmas.List.{get_or_append_left}
use Rattle.std.proofs.lemmas.Str.Parse.{digit_at}
use Rattle.text.specs.declared.list.Entries.{Entries}
use Rattle.text.specs.Fields.{IsList, IsNumber, Lacks, Small, commas, more}
use Rattle.text.specs.Readers.{Left, Reads, behind, bytes_left, remaining, unread}
use Rattle.text.proofs.Cuts.{Begins, same_parts}
use Rattle.text.proofs.Numerals.{decimal_lacks, numerals, same_number}

begins_more : (ns : List ℕ) → Begins 44 (more ns)
begins_more [] = tt
begins_more (n ∷ ns) = refl

-- the first number of a list is what stands before the first comma
same_first : (front t : List ℕ) (n : ℕ) (ns : List ℕ) → Lacks 44 front → Begins 44 t → Small n → front ++ t ≡ decimal n ++ more ns → (front ≡ decimal n) × (t ≡ more ns)
same_first front t n ns lacks begins small e =
    same_parts 44 front (decimal n) t (more ns) lacks (decimal_lacks 44 n (λ digit. omega arith) small) begins (begins_more ns) e

same_more : (ms ns : List ℕ) → AllByRecursion Small ms → AllByRecursion Small ns → more ms ≡ more ns → ms ≡ ns
same_more [] [] p q e = refl
same_more [] (n ∷ ns) p q e = cc
same_more (m ∷ ms) [] p q e = cc
same_more (m ∷ ms) (n ∷ ns) p q e =
    let both = same_first (decimal m) (more ms) n ns (decimal_lacks 44 m (λ digit. omega arith) p.0) (begins_more ms) q.0 (cc) in
    let first = same_number (decimal m) m n (p.0, refl) (q.0, both.0) in
    let rest = same_more ms ns p.1 q.1 both.1 in
    cc

-- a list that has a number begins with a digit
undashed : (n : ℕ) (ns : List ℕ) → Small n → commas [] ≡ commas (n ∷ ns) → ⊥
undashed n ns small e =
    let some = decimal_nonempty n (omega arith) in
    omega (arith, digit_at (decimal n) 0 (digits_decimal numerals n (omega arith)) some, get_or_append_left (decimal n) (more ns) 0 0 some, ap (λ bs. get_or bs 0 0) e)

-- a text is one list of numbers at most
pub same_list : (bs ms ns : List ℕ) → IsList bs ms → IsList bs ns → ms ≡ ns
same_list bs [] [] p q = refl
same_list bs [] (n ∷ ns) p q = absurd (undashed n ns q.0.0 (sym p.1 ∙ q.1))
same_list bs (m ∷ ms) [] p q = absurd (undashed m ms p.0.0 (sym q.1 ∙ p.1))
same_list bs (m ∷ ms) (n ∷ ns) p q = same_more (m ∷ ms) (n ∷ ns) p.0 q.0 (ap (λ t. 44 ∷ t) (sym p.1 ∙ q.1))

more_lacks : (c : ℕ) (ns : List ℕ) → (IsInRange 44 57 c → ⊥) → AllByRecursion Small ns → Lacks c (more ns)
more_lacks c [] out small = tt
more_lacks c (n ∷ ns) out small = (
  λ e. out (omega arith),
  All-append _ (decimal n) (more ns) (decimal_lacks c n (λ digit. out (omega arith)) small.0) (more_lacks c ns out small.1),
)

-- a byte that is not from the comma to the 9 stands in no list
pub list_lacks : (c : ℕ) (ns : List ℕ) → (IsInRange 44 57 c → ⊥) → AllByRecursion Small ns → Lacks c (commas ns)
list_lacks c [] out small = (λ e. out (omega arith), tt)
list_lacks c (n ∷ ns) out small = (more_lacks c (n ∷ ns) out small).1

begins_behind : (u : Option (List ℕ)) → Begins 44 (behind u)
begins_behind None = tt
begins_behind (Some bs) = refl

more_behind : (ns : List ℕ) → more ns ≡ behind (remaining ns)
more_behind [] = refl
more_behind (n ∷ ns) = refl

same_behind : (t u : Option (List ℕ)) → behind t ≡ behind u → t ≡ u
same_behind None None e = refl
same_behind None (Some u) e = cc
same_behind (Some t) None e = cc
same_behind (Some t) (Some u) e = cc

-- e has a text, of which the part before the first comma is front; e' has the others
pub record Parted (e : Entries) (text front : List ℕ) (e' : Entries) : Type 0 where
  pub has : unread e ≡ Some text
  pub whole : text ≡ front ++ behind (unread e')
  pub lacks : Lacks 44 front

module _ {e e' : Entries} {text front : List ℕ} (p : Parted e text front e') where
  first_left : (n : ℕ) (ns : List ℕ) → Left e (n ∷ ns) → IsNumber front n × Left e' ns
  first_left n ns l =
      let both = same_first front (behind (unread e')) n ns p.lacks (begins_behind (unread e')) l.0.0 (cc (p.has, p.whole, l.1)) in
      ((l.0.0, both.0), (l.0.1, same_behind (unread e') (remaining ns) (both.1 ∙ more_behind ns)))

  pub parted_less : bytes_left e' < bytes_left e
  parted_less = rw p.has (omega (arith, ap length p.whole, length-append front (behind (unread e'))))

  some_left : Left e [] → ⊥
  some_left l = cc (p.has, l.1)

  pub parted_reads : (n : ℕ) → IsNumber front n → Reads (Left e) (n ∷ []) e'
  parted_reads n is = record { lists = λ ns. (there ns, back ns) }
    where
      there : (ns : List ℕ) → Left e ns → (ms : List ℕ) × (ns ≡ n ∷ ms) × Left e' ms
      there [] l = absurd (some_left l)
      there (m ∷ ms) l =
          let first = first_left m ms l in
          let same = same_number front m n first.0 is in
          (ms, cc, first.1)

      back : (ns : List ℕ) → (ms : List ℕ) × (ns ≡ n ∷ ms) × Left e' ms → Left e ns
      back ns h = rw h.1 ((is.0, h.2.0), cc (p.has, p.whole, is.1, h.2.1, more_behind h.0))

  pub parted_broken : ((n : ℕ) → IsNumber front n → ⊥) → (ns : List ℕ) → Left e ns → ⊥
  parted_broken none [] l = some_left l
  parted_broken none (n ∷ ns) l = none n (first_left n ns l).0

-- nothing is left to read of the list that has no number
pub none_left : (text : List ℕ) → text ≡ commas [] → (ns : List ℕ) → Left (record { rest = None }) ns ↔ IsList text ns
none_left text dash [] = (λ l. (tt, dash), λ l. (tt, refl))
none_left text dash (n ∷ ns) = (λ l. absurd (cc l.1), λ l. absurd (undashed n ns l.0.0 (sym dash ∙ l.1)))

-- a loop over `next`: its start, its step and its ends
module _ {P : List ℕ → Type 0} where
  pub reads_more : {e e' : Entries} {done : List ℕ} {n : ℕ} → Reads P done e → Reads (Left e) (n ∷ []) e' → Reads P (done ++ n ∷ []) e'
  reads_more {done = done} {n = n} r next = record {
    lists = λ ns. (
      λ h.
          let a = (r.lists ns).0 h in
          let b = (next.lists a.0).0 a.2 in
          (b.0, cc (a.1, b.1, append_assoc done (n ∷ []) b.0), b.2),
      λ h. (r.lists ns).1 (n ∷ h.0, h.1 ∙ append_assoc done (n ∷ []) h.0, (next.lists (n ∷ h.0)).1 (h.0, refl, h.2)),
    );
  }

  pub reads_all : {e : Entries} {done : List ℕ} → Reads P done e → ((ns : List ℕ) → Left e ns ↔ (ns ≡ [])) → (ns : List ℕ) → P ns ↔ (ns ≡ done)
  reads_all {done = done} r ended ns = (
    λ h. let a = (r.lists ns).0 h in cc (a.1, (ended a.0).0 a.2, append-nil done),
    λ same. (r.lists ns).1 ([], same ∙ sym (append-nil done), (ended []).1 refl),
  )

  pub reads_broken : {e : Entries} {done : List ℕ} → Reads P done e → ((ns : List ℕ) → Left e ns → ⊥) → (ns : List ℕ) → P ns → ⊥
  reads_broken r broken ns h = let a = (r.lists ns).0 h in broken a.0 a.2
