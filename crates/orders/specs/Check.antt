-- The test for wanting facts: it goes by ties and parts, and through no running order.
use Rattle.std.specs.Prelude.{ℕ, zero, suc, Bool, false, not, ◌&&◌, ◌||◌, ◌==◌, nat_le, nat_lt}
use Rattle.orders.specs.Facts.{Effects, needed}
use Rattle.orders.specs.Sheets.{Outline}

-- whether some number below n passes
abbrev pub some_below : ℕ → (ℕ → Bool) → Bool
some_below zero test = false
some_below (suc n) test = test n || some_below n test

-- whether x lies in the run a to b
abbrev pub inside : ℕ → ℕ → ℕ → Bool
inside a b x = nat_le a x && nat_le x b

-- whether some block has x and y, and not z
abbrev pub share : Outline → ℕ → ℕ → ℕ → Bool
share s x y z = some_below s.size (λ a. some_below s.size (λ b. s.block a b && inside a b x && inside a b y && not (inside a b z)))

-- whether x is in the part of y against z: some step or block has x and y, and not z (the part is the largest that has y)
abbrev pub together : Outline → ℕ → ℕ → ℕ → Bool
together s x y z = (x == y && not (x == z)) || share s x y z

-- whether x is tied before y, with the place after the last step tied behind every position
abbrev pub leads : Outline → ℕ → ℕ → Bool
leads s x y = s.tied x y || (nat_lt x s.size && y == s.size)

-- whether x must come between d and p where d comes ahead of p
abbrev pub forced : Outline → ℕ → ℕ → ℕ → Bool
forced s d p x = (leads s d x || together s x p d) && (together s x d p || leads s x p)

-- whether the step at x takes f down
abbrev pub takes : Effects → ℕ → ℕ → Bool
takes e x f = e.deletes x f && not (e.adds x f)

-- whether f is not in the start set and no step that adds it is tied before p
abbrev pub never_put : Outline → Effects → ℕ → ℕ → Bool
never_put s e p f = not (e.start f) && not (some_below s.size (λ x. e.adds x f && leads s x p))

-- whether d takes f down, can come ahead of p, and no step that adds f is forced between them
abbrev pub taken_by : Outline → Effects → ℕ → ℕ → ℕ → Bool
taken_by s e p f d = takes e d f && not (d == p) && not (leads s p d) && not (some_below s.size (λ x. e.adds x f && forced s d p x))

-- whether f is wanting at p
abbrev pub missing : Outline → Effects → ℕ → ℕ → Bool
missing s e p f = needed s e p f && (never_put s e p f || some_below s.size (taken_by s e p f))
