-- Orders over a tree of parts, without sheets: `S x y z` says that x and y are in one part against z, `L x y` that x is tied before y.
use Rattle.std.proofs.Common.{◌≡◌, ℕ, ◌≤◌, Bool, true, false, cond, not, ◌&&◌, ◌||◌, eqb, ltb, ◌⊎◌, sym, ◌∙◌, inl, inr, ⊎_elim, arith}
use Rattle.std.proofs.lemmas.Bool.{cases_Bool, cases_eq, false≢true, or_left, or_right}
use Rattle.std.proofs.lemmas.Bool.Decides.{nat_tests}

-- what is needed of parts and ties
pub record Laws (S : ℕ → ℕ → ℕ → Bool) (L : ℕ → ℕ → Bool) : Type 0 where
  pub alone : (x z : ℕ) → (x ≡ z → ⊥) → S x x z ≡ true
  pub swap : (x y z : ℕ) → S x y z ≡ S y x z
  pub apart : (x y z : ℕ) → S x y z ≡ true → S x z y ≡ false
  pub cut : (x y z w : ℕ) → S x y z ≡ true → (S x w z ≡ true) ⊎ (S x y w ≡ true)
  pub oneway : (x y : ℕ) → L x y ≡ true → L y x ≡ false
  pub chained : (x y z : ℕ) → L x y ≡ true → L y z ≡ true → L x z ≡ true
  pub before : (x y z : ℕ) → S x y z ≡ true → L z x ≡ L z y
  pub behind : (x y z : ℕ) → S x y z ≡ true → L x z ≡ L y z

-- `R x y`, x comes ahead of y, is an order that keeps the ties and the parts
pub record Keeps (S : ℕ → ℕ → ℕ → Bool) (L R : ℕ → ℕ → Bool) : Type 0 where
  pub irrefl : (x : ℕ) → R x x ≡ false
  pub total : (x y : ℕ) → (x ≡ y → ⊥) → R x y ≡ not (R y x)
  pub trans : (x y z : ℕ) → R x y ≡ true → R y z ≡ true → R x z ≡ true
  pub ties : (x y : ℕ) → L x y ≡ true → R x y ≡ true
  pub parts : (x y z : ℕ) → S x y z ≡ true → R z x ≡ R z y

pub clash : {S : ℕ → ℕ → ℕ → Bool} {L R : ℕ → ℕ → Bool} → Keeps S L R → (x y : ℕ) → R x y ≡ true → R y x ≡ true → ⊥
clash keeps x y h g = false≢true (sym (keeps.irrefl x) ∙ keeps.trans x y x h g)

-- what a key must keep: it is the same for all of a part, the same against all who part in one place, and does not fall along ties
pub record Key (S : ℕ → ℕ → ℕ → Bool) (L : ℕ → ℕ → Bool) (k : ℕ → ℕ → ℕ) : Type 0 where
  pub same : (x y z : ℕ) → S x y z ≡ true → k x z ≡ k y z
  pub against : (x y z : ℕ) → S x y z ≡ false → S x z y ≡ false → k x y ≡ k x z
  pub rises : (x y : ℕ) → L x y ≡ true → k x y ≤ k y x

-- the smaller key comes first, and between equal keys R decides
abbrev pub by_key : (ℕ → ℕ → ℕ) → (ℕ → ℕ → Bool) → ℕ → ℕ → Bool
by_key k R x y = ltb (k x y) (k y x) || (eqb (k x y) (k y x) && R x y)

-- all that is tied before p and nothing tied behind it, whole parts and whole chains
pub record Front (S : ℕ → ℕ → ℕ → Bool) (L : ℕ → ℕ → Bool) (p : ℕ) (U : ℕ → Bool) : Type 0 where
  pub same : (x y : ℕ) → S x y p ≡ true → U x ≡ U y
  pub ahead : (x : ℕ) → L x p ≡ true → U x ≡ true
  pub behind : (x : ℕ) → L p x ≡ true → U x ≡ false
  pub down : (x y : ℕ) → L x y ≡ true → U y ≡ true → U x ≡ true

-- U first, then the part of p, then the others
abbrev pub early : (ℕ → ℕ → ℕ → Bool) → ℕ → (ℕ → Bool) → ℕ → ℕ → ℕ
early S p U x y = cond (S x p y) 1 (cond (U x) 0 2)

-- what can come ahead of p when d does, and no more
abbrev pub tight : (ℕ → ℕ → ℕ → Bool) → (ℕ → ℕ → Bool) → ℕ → ℕ → ℕ → Bool
tight S L p d x = L x p || (S x d p || L x d)

-- what lies between d and p wherever d is ahead of p
abbrev pub between : (ℕ → ℕ → ℕ → Bool) → (ℕ → ℕ → Bool) → ℕ → ℕ → ℕ → Bool
between S L d p x = (L d x || S x p d) && (S x d p || L x p)

abbrev flip : (ℕ → ℕ → Bool) → ℕ → ℕ → Bool
flip R x y = R y x

module _ (S : ℕ → ℕ → ℕ → Bool) (L : ℕ → ℕ → Bool) (laws : Laws S L) where
  open laws use {alone, swap, apart, cut, oneway, chained, before, behind}

  joined : (x y z w : ℕ) → S x y z ≡ true → S y w z ≡ true → S x w z ≡ true
  joined x y z w h k = grind (arith, cut x y z w h, cut w y z x (swap w y z ∙ k), apart y x w, swap x y w, swap w y x, swap w x z)

  same_part : (x y z p : ℕ) → S x y z ≡ true → S x p z ≡ S y p z
  same_part x y z p h = grind (arith, joined x y z p h, joined y x z p (swap y x z ∙ h), cases_Bool (S x p z), cases_Bool (S y p z))

  unlike : (x y z : ℕ) → S x y z ≡ true → x ≡ z → ⊥
  unlike x y z h e = grind (arith, apart y z z, swap x y z, e)

  module _ (R : ℕ → ℕ → Bool) (keeps : Keeps S L R) where
    parts' : (x y z : ℕ) → S x y z ≡ true → R x z ≡ R y z
    parts' x y z h = grind (arith, keeps.total x z (unlike x y z h), keeps.total y z (unlike y x z (swap y x z ∙ h)), keeps.parts x y z h)

    module _ (k : ℕ → ℕ → ℕ) (key : Key S L k) where
      -- against z, the members of one part go the same way
      sameway : (x y z : ℕ) → S x y z ≡ true → (by_key k R z x ≡ by_key k R z y) × (by_key k R x z ≡ by_key k R y z)
      sameway x y z h =
          let a = key.same x y z h in
          let b = key.against z x y (swap z x y ∙ apart x y z h) (swap z y x ∙ apart y x z (swap y x z ∙ h)) in
          (cc (a, b, keeps.parts x y z h), cc (a, b, parts' x y z h))

      key_total : (x y : ℕ) → (x ≡ y → ⊥) → by_key k R x y ≡ not (by_key k R y x)
      key_total x y n = grind (arith, nat_tests, keeps.total x y n, cases_Bool (R y x))

      key_asym : (x y : ℕ) → by_key k R x y ≡ true → by_key k R y x ≡ true → ⊥
      key_asym x y h g = grind (arith, nat_tests, cases_eq x y, keeps.irrefl x, keeps.total x y)

      key_trans : (x y z : ℕ) → by_key k R x y ≡ true → by_key k R y z ≡ true → by_key k R x z ≡ true
      key_trans x y z h g = go (cases_Bool (S x y z)) (cases_Bool (S y z x)) (cases_Bool (S x z y))
        where
          go : (S x y z ≡ true) ⊎ (S x y z ≡ false) → (S y z x ≡ true) ⊎ (S y z x ≡ false) → (S x z y ≡ true) ⊎ (S x z y ≡ false) → by_key k R x z ≡ true
          go (inl a) b c = (sameway x y z a).1 ∙ g
          go (inr a) (inl b) c = sym (sameway y z x b).0 ∙ h
          go (inr a) (inr b) (inl c) = absurd (key_asym y z g (sym (sameway x z y c).1 ∙ h))
          go (inr a) (inr b) (inr c) =
              let i = key.against x y z a c in
              let j = key.against y x z (swap y x z ∙ a) b in
              let l = key.against z x y (swap z x y ∙ c) (swap z y x ∙ b) in
              grind (arith, nat_tests, keeps.trans x y z)

      by_key_keeps : Keeps S L (by_key k R)
      by_key_keeps = record {
        irrefl = λ x. grind (arith, nat_tests, keeps.irrefl x);
        total = key_total;
        trans = key_trans;
        ties = λ x y h. grind (arith, nat_tests, keeps.ties x y h, key.rises x y h);
        parts = λ x y z h. (sameway x y z h).0;
      }

  module _ (p : ℕ) (U : ℕ → Bool) (front : Front S L p U) where
    early_key : Key S L (early S p U)
    early_key = record {
      same = λ x y z h. grind (arith, same_part x y z p h, cut x y z p h, front.same x y);
      against = λ x y z h g. grind (arith, cut x p y z, cut x p z y, cases_Bool (S x p y), cases_Bool (S x p z));
      rises = λ x y h. grind (arith, cases_Bool (S x p y), cases_Bool (S y p x), swap x p y, swap y p x, apart p x y, before y p x, behind x p y, front.ahead x, front.behind y, front.down x y h, cases_Bool (U x), cases_Bool (U y));
    }

    -- what comes ahead of p is U
    early_front : (R : ℕ → ℕ → Bool) (x : ℕ) → (x ≡ p → ⊥) → by_key (early S p U) R x p ≡ U x
    early_front R x n = grind (arith, nat_tests, swap x p p, alone p x, apart x p p, cases_Bool (S x p p), cases_Bool (U x), cases_Bool (S p p x))

    early_ahead : (R : ℕ → ℕ → Bool) → Keeps S L (by_key (early S p U) R) → (x : ℕ) → by_key (early S p U) R x p ≡ true → U x ≡ true
    early_ahead R keeps x h = ⊎_elim
        (λ e. absurd (false≢true (sym (keeps.irrefl p) ∙ (rw e at h))))
        (λ n. sym (early_front R x n) ∙ h)
        (cases_eq x p)

    -- what comes ahead of a member of U, if not by the part of p, is ahead of it already
    early_within : (R : ℕ → ℕ → Bool) (x y : ℕ) → U y ≡ true → by_key (early S p U) R x y ≡ true → (S y p x ≡ true) ⊎ (R x y ≡ true)
    early_within R x y h g = grind (arith, nat_tests, cases_Bool (S y p x))

  tied_front : (p : ℕ) → Front S L p (λ x. L x p)
  tied_front p = record {
    same = λ x y h. behind x y p h;
    ahead = λ x h. h;
    behind = λ x h. oneway p x h;
    down = λ x y h g. chained x y p h g;
  }

  tight_front : (p d : ℕ) → L p d ≡ false → Front S L p (tight S L p d)
  tight_front p d free = record {
    same = λ x y h. grind (arith, behind x y p h, same_part x y p d h, cut x y p d h, behind x y d);
    ahead = λ x h. grind (arith, h);
    behind = λ x h. grind (arith, oneway p x h, before x d p, chained p x d h, cases_Bool (S x d p), cases_Bool (L x d));
    down = λ x y h g. grind (arith, chained x y p h, chained x y d h, cut y d p x, joined x y p d, swap y x p, before y d x, cases_Bool (S y d p), cases_Bool (L y d), cases_Bool (L y p));
  }

  flip_laws : Laws S (flip L)
  flip_laws = record {
    alone = alone;
    swap = swap;
    apart = apart;
    cut = cut;
    oneway = λ x y. oneway y x;
    chained = λ x y z h g. chained z y x g h;
    before = behind;
    behind = before;
  }

  flip_keeps : (R : ℕ → ℕ → Bool) → Keeps S L R → Keeps S (flip L) (flip R)
  flip_keeps R keeps = record {
    irrefl = keeps.irrefl;
    total = λ x y n. keeps.total y x (λ e. n (sym e));
    trans = λ x y z h g. keeps.trans z y x g h;
    ties = λ x y. keeps.ties y x;
    parts = parts' R keeps;
  }

module _ (S : ℕ → ℕ → ℕ → Bool) (L : ℕ → ℕ → Bool) (laws : Laws S L) (R : ℕ → ℕ → Bool) (keeps : Keeps S L R) where
  -- an order in which only what is tied before p comes ahead of it
  pub first : (p : ℕ) → (R' : ℕ → ℕ → Bool) × Keeps S L R' × ((x : ℕ) → R' x p ≡ true → L x p ≡ true)
  first p =
      let U : ℕ → Bool = λ x. L x p in
      let k = early S p U in
      let kept = by_key_keeps S L laws R keeps k (early_key S L laws p U (tied_front S L laws p)) in
      (by_key k R, kept, early_ahead S L laws p U (tied_front S L laws p) R kept)

  -- an order in which d comes ahead of p, with nothing between them but what must be there
  pub close : (p d : ℕ) → (d ≡ p → ⊥) → L p d ≡ false → (R' : ℕ → ℕ → Bool) × Keeps S L R' × (R' d p ≡ true) × ((x : ℕ) → R' d x ≡ true → R' x p ≡ true → between S L d p x ≡ true)
  close p d n free =
      let U = tight S L p d in
      let u = tight_front S L laws p d free in
      let R₁ = by_key (early S p U) R in
      let kept₁ = by_key_keeps S L laws R keeps (early S p U) (early_key S L laws p U u) in
      let turned = flip_laws S L laws in
      let V = tight S (flip L) d p in
      let v = tight_front S (flip L) turned d p free in
      let R₂ = flip (by_key (early S d V) (flip R₁)) in
      let kept₂ = by_key_keeps S (flip L) turned (flip R₁) (flip_keeps S L laws R₁ kept₁) (early S d V) (early_key S (flip L) turned d V v) in
      let kept = flip_keeps S (flip L) turned (flip R₂) kept₂ in
      let follows = early_ahead S (flip L) turned d V v (flip R₁) kept₂ in
      let leads = early_ahead S L laws p U u R kept₁ in
      let ahead = or_right (L d p) (S p p d || L p p) (or_left (S p p d) (L p p) (laws.alone p d (λ e. n (sym e)))) in (
        R₂,
        kept,
        early_front S (flip L) turned d V v (flip R₁) p (λ e. n (sym e)) ∙ ahead,
        λ x h g.
            let either = early_within S (flip L) turned d V v (flip R₁) p x (follows x h) g in
            tightly x (follows x h) (⊎_elim inl (λ k. inr (leads x k)) either) (λ k. clash kept p x (kept.ties p x k) g) (λ k. clash kept x d (kept.ties x d k) h),
      )
    where
      tightly : (x : ℕ) → tight S (flip L) d p x ≡ true → (S x d p ≡ true) ⊎ (tight S L p d x ≡ true) → (L p x ≡ true → ⊥) → (L x d ≡ true → ⊥) → between S L d p x ≡ true
      tightly x h g a b = grind (arith, cases_Bool (L p x), cases_Bool (L x d), cases_Bool (S x d p))
