-- The parts and ties of a sheet meet the laws of trees, and so does its home order.
use Rattle.std.proofs.Common.{◌≡◌, ℕ, ◌<◌, ◌≤◌, Bool, true, not, ◌&&◌, eqb, ltb, ◌⊎◌, Decides, sym, refl, ap, ◌∙◌, inl, inr, ⊎_elim, arith}
use Rattle.std.proofs.lemmas.Bool.{cases_Bool, cases_eq, cases_lt, or_cases, or_left, or_right}
use Rattle.std.proofs.lemmas.Bool.Decides.{Decides-like, same_from_decides, nat_tests}
use Rattle.orders.proofs.Below.{below_is, refuted}
use Rattle.orders.proofs.Trees.{Keeps, Laws}
use Rattle.orders.specs.Check.{inside, leads, share, some_below, together}
use Rattle.orders.specs.Sheets.{Inside, Outline, Outside, Rules}

-- a block that has x and y, and not z
pub record Shared (s : Outline) (x y z : ℕ) : Type 0 where
  pub a : ℕ
  pub b : ℕ
  pub block : s.block a b ≡ true
  pub has_x : Inside a b x
  pub has_y : Inside a b y
  pub lacks : Outside a b z

-- what `together` says
abbrev pub Together : Outline → ℕ → ℕ → ℕ → Type 0
Together s x y z = ((x ≡ y) × (x ≡ z → ⊥)) ⊎ Shared s x y z

pub block_together : (s : Outline) (x y z a b : ℕ) → s.block a b ≡ true → Inside a b x → Inside a b y → Outside a b z → Together s x y z
block_together s x y z a b h u v o = inr (record { a = a; b = b; block = h; has_x = u; has_y = v; lacks = o })

module _ (s : Outline) (rules : Rules s) where
  fits : ℕ → ℕ → ℕ → ℕ → ℕ → Bool
  fits x y z a b = s.block a b && inside a b x && inside a b y && not (inside a b z)

  fits_shared : (x y z a b : ℕ) → fits x y z a b ≡ true → Shared s x y z
  unfolding fits
  fits_shared x y z a b h = record {
    a = a;
    b = b;
    block = grind (arith, h);
    has_x = grind (arith, nat_tests);
    has_y = grind (arith, nat_tests);
    lacks = ⊎_elim inl (λ k. inr (grind (arith, nat_tests))) (cases_lt z a);
  }

  shared_fits : (x y z : ℕ) (c : Shared s x y z) → fits x y z c.a c.b ≡ true
  unfolding fits
  shared_fits x y z c = grind (arith, nat_tests, c.block)

  pub together_shared : (x y z : ℕ) → together s x y z ≡ true → Together s x y z
  unfolding fits
  together_shared x y z h = ⊎_elim
      (λ k. inl (grind (arith, nat_tests, k), grind (arith, nat_tests, k)))
      (λ k.
      let (a, _, g) = (below_is (λ a. some_below s.size (fits x y z a)) s.size).0 k in
      let (b, _, f) = (below_is (fits x y z a) s.size).0 g in
      inr (fits_shared x y z a b f))
      (or_cases (eqb x y && not (eqb x z)) (share s x y z) h)

  pub shared_together : (x y z : ℕ) → Together s x y z → together s x y z ≡ true
  unfolding fits
  shared_together x y z = ⊎_elim
      (λ k. or_left (eqb x y && not (eqb x z)) (share s x y z) (grind (arith, nat_tests, k)))
      (λ c.
      let (l, m) = rules.proper c.a c.b c.block in
      or_right (eqb x y && not (eqb x z)) (share s x y z)
      ((below_is (λ a. some_below s.size (fits x y z a)) s.size).1
      (c.a, omega arith, (below_is (fits x y z c.a) s.size).1 (c.b, m, shared_fits x y z c))))

  pub together_is : (x y z : ℕ) → Decides (together s x y z) (Together s x y z)
  together_is x y z = (together_shared x y z, shared_together x y z)

  pub turned : (x y z : ℕ) → Together s x y z → Together s y x z
  turned x y z (inl (e, n)) = inl (sym e, λ i. n (e ∙ i))
  turned x y z (inr c) = block_together s y x z c.a c.b c.block c.has_y c.has_x c.lacks

  disjoint : (x y z : ℕ) → Together s x y z → Together s x z y → ⊥
  disjoint x y z (inl (e, n)) (inl (i, _)) = n i
  disjoint x y z (inl (e, n)) (inr d) = omega (arith, d.lacks)
  disjoint x y z (inr c) (inl (i, _)) = omega (arith, c.lacks)
  disjoint x y z (inr c) (inr d) = omega (arith, rules.nested c.a c.b d.a d.b c.block d.block, c.lacks, d.lacks)

  parted : (x y z w : ℕ) → Together s x y z → Together s x w z ⊎ Together s x y w
  parted x y z w (inl (e, n)) = ⊎_elim (λ i. inl (inl (i, n))) (λ i. inr (inl (e, i))) (cases_eq x w)
  parted x y z w (inr c) = go (cases_lt w c.a) (cases_lt c.b w)
    where
      go : (w < c.a) ⊎ (c.a ≤ w) → (c.b < w) ⊎ (w ≤ c.b) → Together s x w z ⊎ Together s x y w
      go (inl l) m = inr (block_together s x y w c.a c.b c.block c.has_x c.has_y (inl l))
      go (inr l) (inl m) = inr (block_together s x y w c.a c.b c.block c.has_x c.has_y (inr m))
      go (inr l) (inr m) = inl (block_together s x w z c.a c.b c.block c.has_x (l, m) c.lacks)

  leads_forward : (x y : ℕ) → leads s x y ≡ true → x < y
  leads_forward x y h = ⊎_elim (λ k. (rules.forward x y k).0) (λ k. grind (arith, nat_tests, k)) (or_cases (s.tied x y) (ltb x s.size && eqb y s.size) h)

  leads_chained : (x y z : ℕ) → leads s x y ≡ true → leads s y z ≡ true → leads s x z ≡ true
  leads_chained x y z h g = grind (arith, nat_tests, rules.chained x y z, rules.forward x y, rules.forward y z, cases_Bool (s.tied x y), cases_Bool (s.tied y z))

  leads_before : (x y z : ℕ) → Together s x y z → leads s z x ≡ leads s z y
  leads_before x y z = ⊎_elim
      (λ k. ap (leads s z) k.0)
      (λ c. grind (arith, nat_tests, rules.before c.a c.b z x y c.block c.lacks c.has_x c.has_y, rules.proper c.a c.b c.block))

  leads_behind : (x y z : ℕ) → Together s x y z → leads s x z ≡ leads s y z
  leads_behind x y z = ⊎_elim
      (λ k. ap (λ v. leads s v z) k.0)
      (λ c. grind (arith, nat_tests, rules.behind c.a c.b z x y c.block c.lacks c.has_x c.has_y, rules.proper c.a c.b c.block))

  pub sheet_laws : Laws (together s) (leads s)
  sheet_laws = record {
    alone = λ x z n. shared_together x x z (inl (refl, n));
    swap = λ x y z. same_from_decides (together s x y z) (together s y x z) (together_is x y z) (Decides-like (together s y x z) (turned y x z) (turned x y z) (together_is y x z));
    apart = λ x y z h. refuted (together s x z y) (λ g. disjoint x y z (together_shared x y z h) (together_shared x z y g));
    cut = λ x y z w h. ⊎_elim (λ k. inl (shared_together x w z k)) (λ k. inr (shared_together x y w k)) (parted x y z w (together_shared x y z h));
    oneway = λ x y h. refuted (leads s y x) (λ g. omega (arith, leads_forward x y h, leads_forward y x g));
    chained = leads_chained;
    before = λ x y z h. leads_before x y z (together_shared x y z h);
    behind = λ x y z h. leads_behind x y z (together_shared x y z h);
  }

  pub home_keeps : Keeps (together s) (leads s) ltb
  home_keeps = record {
    irrefl = λ x. grind (arith, nat_tests);
    total = λ x y n. grind (arith, nat_tests);
    trans = λ x y z h g. grind (arith, nat_tests);
    ties = λ x y h. grind (arith, nat_tests, leads_forward x y h);
    parts = λ x y z h. ⊎_elim (λ k. ap (ltb z) k.0) (λ c. grind (arith, nat_tests, c.lacks)) (together_shared x y z h);
  }
