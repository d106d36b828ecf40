-- The edits of a sheet: when each may be made, and the sheet after it.
use Rattle.std.specs.Prelude.{◌≡◌, ℕ, suc, ◌+◌, ◌-◌, ◌<◌, Bool, true, cond, not, ◌&&◌, ◌||◌, ◌⊎◌, ◌==◌, nat_le, nat_lt}
use Rattle.orders.specs.Check.{inside, some_below, together}
use Rattle.orders.specs.Facts.{Effects}
use Rattle.orders.specs.Sheets.{Apart, Outline, Within}

-- Group: a to b becomes a block.

-- a to b is a run of two or more positions, and overlaps no block with neither inside the other
pub record CanGroup (s : Outline) (a b : ℕ) : Type 0 where
  pub several : a < b
  pub positions : b < s.size
  pub clear : (c d : ℕ) → s.block c d ≡ true → Apart a b c d ⊎ (Within a b c d ⊎ Within c d a b)

-- whether x is outside a to b, and some position of a to b passes
abbrev pub touches : ℕ → ℕ → (ℕ → Bool) → ℕ → Bool
touches a b test x = not (inside a b x) && some_below (suc b) (λ y. nat_le a y && test y)

-- whether x is outside a to b and tied before some position of it
abbrev pub tied_ahead : Outline → ℕ → ℕ → ℕ → Bool
tied_ahead s a b x = touches a b (s.tied x) x

-- whether x is outside a to b and tied behind some position of it
abbrev pub tied_behind : Outline → ℕ → ℕ → ℕ → Bool
tied_behind s a b x = touches a b (λ y. s.tied y x) x

-- whether group adds a tie from x to y
abbrev pub joins : Outline → ℕ → ℕ → ℕ → ℕ → Bool
joins s a b x y = (tied_ahead s a b x && (inside a b y || tied_behind s a b y)) || (inside a b x && tied_behind s a b y)

-- whether c to d is the run a to b
abbrev pub same_run : ℕ → ℕ → ℕ → ℕ → Bool
same_run a b c d = c == a && d == b

-- the sheet with a to b as one more block, and the ties that this takes
abbrev pub grouped : Outline → ℕ → ℕ → Outline
grouped s a b = record {
  size = s.size;
  tied = λ x y. s.tied x y || joins s a b x y;
  block = λ c d. s.block c d || same_run a b c d;
}

-- Ungroup.

-- the sheet without the block a to b, and with all its ties
abbrev pub ungrouped : Outline → ℕ → ℕ → Outline
ungrouped s a b = record {
  size = s.size;
  tied = s.tied;
  block = λ c d. s.block c d && not (same_run a b c d);
}

-- Loosen: the ties from the part of i to the part of j are dropped.

-- every position tied behind i and before j is in one of their parts
abbrev pub CanLoosen : Outline → ℕ → ℕ → Type 0
CanLoosen s i j = (x : ℕ) → s.tied i x ≡ true → s.tied x j ≡ true → (together s x i j ≡ true) ⊎ (together s x j i ≡ true)

-- the sheet without the ties from the part of i to the part of j
abbrev pub loosened : Outline → ℕ → ℕ → Outline
loosened s i j = record {
  size = s.size;
  tied = λ x y. s.tied x y && not (together s x i j && together s y j i);
  block = s.block;
}

-- Swap: the parts of k - 1 and k change places.

-- against each other, a to k - 1 is the part of k - 1, and k to b is the part of k
pub record Neighbours (s : Outline) (a k b : ℕ) : Type 0 where
  pub later : 0 < k
  pub position : k < s.size
  pub first : (x : ℕ) → together s x (k - 1) k ≡ inside a (k - 1) x
  pub second : (x : ℕ) → together s x k (k - 1) ≡ inside k b x

-- where the position x goes when a to k - 1 and k to b change places
abbrev pub goes : ℕ → ℕ → ℕ → ℕ → ℕ
goes a k b x = cond (nat_lt x a) x (cond (nat_lt x k) (x + (suc b - k)) (cond (nat_le x b) (x - (k - a)) x))

-- where the position x comes from: they change places again
abbrev pub comes : ℕ → ℕ → ℕ → ℕ → ℕ
comes a k b = goes a (a + (suc b - k)) b

-- whether the run c to d has all of the run a to b
abbrev pub covers : ℕ → ℕ → ℕ → ℕ → Bool
covers c d a b = nat_le c a && nat_le b d

-- the sheet with a to k - 1 and k to b in each other's place: a block that has both stays, and any other goes with its positions
abbrev pub swapped : Outline → ℕ → ℕ → ℕ → Outline
swapped s a k b = record {
  size = s.size;
  tied = λ x y. s.tied (comes a k b x) (comes a k b y);
  block = λ c d. cond (covers c d a b) (s.block c d) (s.block (comes a k b c) (comes a k b d) && not (covers (comes a k b c) (comes a k b d) a b));
}

-- the effects where the step at x comes from the position `from x`
abbrev pub carried : (ℕ → ℕ) → Effects → Effects
carried from e = record {
  needs = λ x. e.needs (from x);
  adds = λ x. e.adds (from x);
  deletes = λ x. e.deletes (from x);
  start = e.start;
  goal = e.goal;
}

-- Replace: m steps come in place of a to b.

-- a to b is one position or a block
abbrev pub IsMember : Outline → ℕ → ℕ → Type 0
IsMember s a b = (b < s.size) × ((a ≡ b) ⊎ (s.block a b ≡ true))

-- where a position behind the m new steps was
abbrev pub was : ℕ → ℕ → ℕ → ℕ → ℕ
was a b m x = x + suc b - (a + m)

-- the position whose ties x takes over: a new step those of a, and every other its own
abbrev pub stood : ℕ → ℕ → ℕ → ℕ → ℕ
stood a b m x = cond (nat_lt x a) x (cond (nat_lt x (a + m)) a (was a b m x))

-- whether x is one of the m steps from a on
abbrev pub is_new : ℕ → ℕ → ℕ → Bool
is_new a m x = nat_le a x && nat_lt x (a + m)

-- whether the run c to d has none or all of the m steps from a on
abbrev pub none_or_all : ℕ → ℕ → ℕ → ℕ → Bool
none_or_all a m c d = nat_lt d a || nat_le (a + m) c || (nat_le c a && nat_le (a + m) (suc d))

-- the sheet with m steps, tied one behind the other and a block where they are two or more, in place of a to b
abbrev pub replaced : Outline → ℕ → ℕ → ℕ → Outline
replaced s a b m = record {
  size = s.size + (a + m) - suc b;
  tied = λ x y. cond (is_new a m x && is_new a m y) (nat_lt x y) (s.tied (stood a b m x) (stood a b m y));
  block = λ c d. cond (c == a && suc d == a + m) (nat_le 2 m) (none_or_all a m c d && s.block (stood a b m c) (cond (nat_lt d a) d (was a b m d)));
}
