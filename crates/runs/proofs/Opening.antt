-- Which positions are open.
use Rattle.std.proofs.Common.{◌≡◌, ℕ, ◌+◌, ◌<◌, ◌≤◌, Bool, true, false, not, ◌&&◌, MatchBool, ⊎_elim, ◌∙◌, sym, arith}
use Rattle.std.specs.Prelude.{nat_le, nat_lt}
use Rattle.std.proofs.lemmas.Bool.{both_ways, cases_Bool}
use Rattle.std.proofs.lemmas.Bool.Decides.{nat_tests}
use Rattle.orders.specs.Sheets.{Inside, Outline, Rules}
use Rattle.runs.specs.Views.{Lets}

-- both cases of an answer, said in other words
pub reworded : (b : Bool) (P Q P' Q' : Type 0) → (P → P') → (Q → Q') → MatchBool b P Q → MatchBool b P' Q'
reworded true P Q P' Q' f g h = f h
reworded false P Q P' Q' f g h = g h

-- the positions before p are those of a set: they are all done, or one is not
pub all_due : (b : Bool) (set tied done : ℕ → Bool) → ((i : ℕ) → set i ≡ tied i)
    → MatchBool b ((i : ℕ) → set i ≡ true → done i ≡ true) ((i : ℕ) × (set i ≡ true) × (done i ≡ false))
    → MatchBool b ((i : ℕ) → tied i ≡ true → done i ≡ true) ((i : ℕ) × (tied i ≡ true) × (done i ≡ false))
all_due true set tied done same h = λ i e. h i (same i ∙ e)
all_due false set tied done same h = (h.0, sym (same h.0) ∙ h.1, h.2)

-- the positions a to b, as a set of positions below 128
abbrev pub IsBlock : ℕ → ℕ → (ℕ → Bool) → Type 0
IsBlock a b set = (x : ℕ) → set x ≡ (nat_le a x && nat_lt x (b + 1) && nat_lt x 128)

pub in_block : (a b x : ℕ) (set : ℕ → Bool) → IsBlock a b set → b < 128 → Inside a b x → set x ≡ true
in_block a b x set is few inside = let e = is x in let l = inside.0 in let r = inside.1 in grind (arith, nat_tests)

pub of_block : (a b x : ℕ) (set : ℕ → Bool) → IsBlock a b set → set x ≡ true → Inside a b x
of_block a b x set is t = let e = is x in (grind (arith, nat_tests), grind (arith, nat_tests))

-- a block without p, of which some positions are done: it bars p unless all are
pub barred : (b : Bool) (s : Outline) (done set : ℕ → Bool) (p x y : ℕ) → IsBlock x y set → y < 128 → s.block x y ≡ true → set p ≡ false
    → (i : ℕ) × ((done i && set i) ≡ true)
    → MatchBool b ((i : ℕ) → set i ≡ true → done i ≡ true) ((i : ℕ) × (set i ≡ true) × (done i ≡ false))
    → MatchBool (not b) (Lets s done p x y → ⊥) (Lets s done p x y)
barred true s done set p x y is few block out some h = λ i j e inside inside' d u. let w = h j (in_block x y j set is few inside') in cc
barred false s done set p x y is few block out some h = λ lets.
    let d : done some.0 ≡ true = let e = some.1 in grind arith in
    let t : set some.0 ≡ true = let e = some.1 in grind arith in
    let inside = lets some.0 h.0 block (of_block x y some.0 set is t) (of_block x y h.0 set is h.1) d h.2 in
    let w = in_block x y p set is few inside in cc

-- one in which no position is done bars nothing
pub untouched : (s : Outline) (done set : ℕ → Bool) (p x y : ℕ) → IsBlock x y set → y < 128 → ((i : ℕ) → (done i && set i) ≡ false) → Lets s done p x y
untouched s done set p x y is few none i j e inside inside' d u = let t = in_block x y i set is few inside in let w = none i in absurd (let z : true ≡ false = grind arith in cc)

-- nor does one that has p
pub let_in : (s : Outline) (done set : ℕ → Bool) (p x y : ℕ) → IsBlock x y set → set p ≡ true → Lets s done p x y
let_in s done set p x y is has i j e inside inside' d u = of_block x y p set is has

-- a block begins at a position, and ends at a later one
pub all_let : (s : Outline) → Rules s → (done : ℕ → Bool) (p : ℕ) → ((a : ℕ) → a < s.size → (b : ℕ) → Lets s done p a b) →
    (a b : ℕ) → Lets s done p a b
all_let s rules done p each a b x y block = let q = rules.proper a b block in each a (omega arith) b x y block

pub all_from : (s : Outline) → Rules s → (done : ℕ → Bool) (p a : ℕ) → ((b : ℕ) → a ≤ b → b < s.size → Lets s done p a b) →
    (b : ℕ) → Lets s done p a b
all_from s rules done p a each b x y block = let q = rules.proper a b block in each b (omega arith) (omega arith) x y block

-- where none begins, none bars
pub none_from : (s : Outline) (done : ℕ → Bool) (p a : ℕ) → ((b : ℕ) → s.block a b ≡ false) → (b : ℕ) → Lets s done p a b
none_from s done p a none b x y block = absurd (both_ways _ (none b) block)

-- only positions are tied before p
pub tied_here : (s : Outline) → Rules s → (n p : ℕ) → n ≡ s.size → (i : ℕ) → (nat_lt i n && s.tied i p) ≡ s.tied i p
tied_here s rules n p e i =
    ⊎_elim (λ t. let l = rules.forward i p t in let q : i < n = omega arith in grind (arith, nat_tests)) (λ t. grind (arith, nat_tests)) (cases_Bool (s.tied i p))
