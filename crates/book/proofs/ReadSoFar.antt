-- A list's numbers that are read so far.
use Rattle.std.proofs.Common.{◌≡◌, ℕ, ◌<◌, Bool, ◌&&◌, ◌||◌, eqb, ltb, List, [], ◌∷◌, ◌++◌, Ok, Err, Option, Result, MatchOption, arith}
use Rattle.std.specs.Result.{result_ok}
use Rattle.std.proofs.lemmas.Bool.Decides.{nat_tests}
use Rattle.orders.specs.Lists.{listed}
use Rattle.text.specs.Fields.{IsList}
use Rattle.text.specs.Readers.{Left, NextGives, Reads}
use Rattle.text.specs.declared.fault.FieldFault.{FieldFault}
use Rattle.text.specs.declared.list.Entries.{Entries}
use Rattle.text.proofs.Lists.{reads_more}
use Rattle.book.specs.Weeks.{Known}
use Rattle.book.proofs.Turns.{all_parts}

-- what `next` answered, by what its `.ok()` is
pub gave : (e e' : Entries) (r : Result (Option ℕ) FieldFault) (o : Option (Option ℕ)) → o ≡ result_ok r → NextGives e r e' → MatchOption o ((f : FieldFault) × NextGives e (Err f) e') (λ x. NextGives e (Ok x) e')
gave e e' (Ok x) o same next = rw same next
gave e e' (Err f) o same next = rw same (f, next)

listed_push : (ns : List ℕ) (n f : ℕ) → listed (ns ++ n ∷ []) f ≡ (listed ns f || eqb f n)
listed_push [] n f = grind (arith, nat_tests)
listed_push (m ∷ ns) n f = let e = listed_push ns n f in grind (arith, nat_tests)

module _ (text done : List ℕ) (e e' : Entries) (n : ℕ) (so_far : Reads (IsList text) done e) (next : Reads (Left e) (n ∷ []) e') where
  pub next_known : (facts : ℕ) (list : List ℕ) → IsList text list → Known facts list → n < facts
  next_known facts list is known =
      let r = ((reads_more so_far next).lists list).0 is in
      let whole = rw r.1 at known in
      (all_parts _ done (n ∷ []) (all_parts _ (done ++ n ∷ []) r.0 whole).0).1.0

-- one number more in a set
pub inserted : (had has : Bool) (ns : List ℕ) (n f : ℕ) → n < 64 → had ≡ listed ns f → has ≡ (had || (eqb f n && ltb n 64)) → has ≡ listed (ns ++ n ∷ []) f
inserted had has ns n f h a b = let p = listed_push ns n f in grind (arith, nat_tests)
