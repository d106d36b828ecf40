-- A text is cut at a mark in one way only.
use Rattle.std.proofs.Common.{◌≡◌, ℕ, ◌<◌, ◌+◌, ◌≢◌, List, [], ◌∷◌, ◌++◌, length, get_or, take, drop, refl, arith}
use Rattle.std.proofs.ByRecursion.{All-from_get_or}
use Rattle.std.proofs.lemmas.List.{take-append-drop, drop_more, length-take, get_or-take}
use Rattle.text.specs.Fields.{Cut, Lacks}

-- t is empty, or begins with c
abbrev pub Begins : ℕ → List ℕ → Type 0
Begins c [] = Unit {0}
Begins c (b ∷ bs) = b ≡ c

-- a text is a front without c and what begins with c in one way
pub same_parts : (c : ℕ) (f g t u : List ℕ) → Lacks c f → Lacks c g → Begins c t → Begins c u → f ++ t ≡ g ++ u → (f ≡ g) × (t ≡ u)
same_parts c [] [] t u p q s r e = (refl, e)
same_parts c [] (b ∷ g) t u p q s r e = absurd (q.0 (rw e at s))
same_parts c (a ∷ f) [] t u p q s r e = absurd (p.0 (rw (← e) at r))
same_parts c (a ∷ f) (b ∷ g) t u p q s r e =
    let same : a ≡ b = cc in
    let rest : f ++ t ≡ g ++ u = cc in
    let both = same_parts c f g t u p.1 q.1 s r rest in
    let fronts = both.0 in
    (cc, both.1)

-- the one way to cut at c
pub same_cut : (c : ℕ) (f g m n : List ℕ) → Lacks c f → Lacks c g → f ++ c ∷ m ≡ g ++ c ∷ n → (f ≡ g) × (m ≡ n)
same_cut c f g m n p q e =
    let both = same_parts c f g (c ∷ m) (c ∷ n) p q refl refl e in
    let rests = both.1 in
    (both.0, cc)

-- the text is cut where c stands first
pub cut_at : (c : ℕ) (bs : List ℕ) (i : ℕ) → i < length bs → get_or bs i 0 ≡ c → ((k : ℕ) → k < i → get_or bs k 0 ≢ c) → Cut c bs (take i bs) (drop (i + 1) bs)
cut_at c bs i h here before =
    let next = drop_more bs i 0 (omega arith) in
    let whole = take-append-drop i bs in
    (cc, All-from_get_or _ (take i bs) 0 (λ k in'. grind (arith, length-take {A = ℕ}, get_or-take {A = ℕ})))

-- what lacks c has no cut at c
pub no_cut : (c : ℕ) (f m : List ℕ) → Lacks c (f ++ c ∷ m) → ⊥
no_cut c [] m lacks = lacks.0 refl
no_cut c (a ∷ f) m lacks = no_cut c f m lacks.1
