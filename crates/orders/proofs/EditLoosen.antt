-- Loosen and ungroup keep the rules.
use Rattle.std.proofs.Common.{◌≡◌, ℕ, Bool, true, false, not, ◌&&◌, sym, ap, ◌∙◌, ⊎_elim, arith}
use Rattle.std.proofs.lemmas.Bool.{and_from, and_parts, both_ways, cases_Bool, not_from_false, not-true}
use Rattle.orders.proofs.Below.{refuted}
use Rattle.orders.proofs.EditRuns.{TiedAlike, block_alike}
use Rattle.orders.proofs.Parts.{block_together, sheet_laws, shared_together, together_shared}
use Rattle.orders.proofs.Trees.{Laws}
use Rattle.orders.specs.Check.{leads, together}
use Rattle.orders.specs.EditTheorems.{LoosenKeepsRules, PartsAreTiedAlike, UngroupKeepsRules}
use Rattle.orders.specs.Edits.{CanLoosen, loosened, same_run, ungrouped}
use Rattle.orders.specs.Sheets.{Inside, Outline, Outside, Rules}

module _ (S : ℕ → ℕ → ℕ → Bool) (L : ℕ → ℕ → Bool) (laws : Laws S L) where
  open laws use {swap, apart, cut}

  -- what is not in the part of i against j lies outside all that x and i share there
  kept_out : (x y i j : ℕ) → S x i j ≡ true → S y i j ≡ false → S x i y ≡ true
  kept_out x y i j h g = grind (arith, cut i x j y, swap x i j, swap i y j, swap i x y)

  -- who shares with x against v, which shares with i against j, is in the part of j if x is
  goes_along : (x y v i j : ℕ) → S x y v ≡ true → S v i j ≡ true → S x j i ≡ true → S y j i ≡ true
  goes_along x y v i j h g k = grind (arith, cut x y v i h, cut y x i j, cut i v j x, apart x j i, apart i v x, cut j x i y, apart x j y, swap x j i, swap x j y, swap x y i, swap y x j, swap y j i, swap v i j, swap i x j, swap i x v)

  same_side : (x y v i j : ℕ) → S x y v ≡ true → S v i j ≡ true → S x j i ≡ S y j i
  same_side x y v i j h g = grind (arith, goes_along x y v i j h g, goes_along y x v i j (swap y x v ∙ h) g, cases_Bool (S x j i), cases_Bool (S y j i))

kept_tie : (t p q : Bool) → (t && not (p && q)) ≡ true → (t ≡ true) × (p ≡ true → q ≡ true → ⊥)
kept_tie t p q h = ((and_parts t (not (p && q)) h).0, λ f g. both_ways (p && q) (not-true (p && q) (and_parts t (not (p && q)) h).1) (and_from p q f g))

tie_kept : (t p q : Bool) → t ≡ true → (p ≡ true → q ≡ true → ⊥) → (t && not (p && q)) ≡ true
tie_kept t p q h n = and_from t (not (p && q)) h (not_from_false (p && q) (refuted (p && q) (λ f. let (u, v) = and_parts p q f in n u v)))

module _ (s : Outline) (rules : Rules s) where
  -- z is tied to all positions of a part against it alike
  pub part_alike : (x y z : ℕ) → together s x y z ≡ true → TiedAlike s z x y
  part_alike x y z h = ⊎_elim
      (λ k. (ap (s.tied z) k.0, ap (λ v. s.tied v z) k.0))
      (λ c. block_alike s rules c.a c.b z x y c.block c.lacks c.has_x c.has_y)
      (together_shared s rules x y z h)

  block_side : (c d v x y i j : ℕ) → s.block c d ≡ true → Outside c d v → Inside c d x → Inside c d y → together s v i j ≡ true → together s x j i ≡ together s y j i
  block_side c d v x y i j k o h g = same_side (together s) (leads s) (sheet_laws s rules) x y v i j (shared_together s rules x y v (block_together s x y v c d k h g o))

pub parts_are_tied_alike : PartsAreTiedAlike
parts_are_tied_alike s rules i j x y h g =
    let laws = sheet_laws s rules in
    (part_alike s rules x i y (kept_out (together s) (leads s) laws x y i j h (laws.apart y j i g))).1 ∙ (part_alike s rules y j i g).0

pub ungroup_keeps_rules : UngroupKeepsRules
ungroup_keeps_rules s rules a b =
    let old : (c d : ℕ) → (ungrouped s a b).block c d ≡ true → s.block c d ≡ true = λ c d k. (and_parts (s.block c d) (not (same_run a b c d)) k).0 in
    record {
      forward = rules.forward;
      chained = rules.chained;
      proper = λ c d k. rules.proper c d (old c d k);
      nested = λ c d e f k l. rules.nested c d e f (old c d k) (old e f l);
      before = λ c d i x y k. rules.before c d i x y (old c d k);
      behind = λ c d i x y k. rules.behind c d i x y (old c d k);
    }

-- no chain of two ties is left from part to part
loosen_chained : (s : Outline) → Rules s → (i j : ℕ) → CanLoosen s i j → (x y z : ℕ) → (loosened s i j).tied x y ≡ true → (loosened s i j).tied y z ≡ true → (loosened s i j).tied x z ≡ true
loosen_chained s rules i j can x y z h g =
    let (t, m) = kept_tie (s.tied x y) (together s x i j) (together s y j i) h in
    let (u, n) = kept_tie (s.tied y z) (together s y i j) (together s z j i) g in
    let out = kept_out (together s) (leads s) (sheet_laws s rules) in
    let none : together s x i j ≡ true → together s z j i ≡ true → ⊥ = λ k l.
    let p : together s y i j ≡ false = refuted (together s y i j) (λ f. n f l) in
    let q : together s y j i ≡ false = refuted (together s y j i) (λ f. m k f) in
    ⊎_elim (both_ways (together s y i j) p) (both_ways (together s y j i) q)
    (can y (sym (part_alike s rules x i y (out x y i j k p)).1 ∙ t) (sym (part_alike s rules z j y (out z y j i l q)).0 ∙ u)) in
    tie_kept (s.tied x z) (together s x i j) (together s z j i) (rules.chained x y z t u) none

pub loosen_keeps_rules : LoosenKeepsRules
loosen_keeps_rules s rules i j can = record {
  forward = λ x y h. rules.forward x y (kept_tie (s.tied x y) (together s x i j) (together s y j i) h).0;
  chained = loosen_chained s rules i j can;
  proper = rules.proper;
  nested = rules.nested;
  before = λ c d v x y k o h g. grind (arith, rules.before c d v x y k o h g, block_side s rules c d v x y i j k o h g, cases_Bool (together s v i j));
  behind = λ c d v x y k o h g. grind (arith, rules.behind c d v x y k o h g, block_side s rules c d v x y j i k o h g, cases_Bool (together s v j i));
}
