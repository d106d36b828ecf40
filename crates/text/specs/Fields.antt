-- The texts of the fields. A byte is a number, and a text is a list of bytes.
use Rattle.std.specs.Prelude.{◌≡◌, ℕ, ◌+◌, ◌<◌, ◌≤◌, Bool, true, ◌≢◌, List, [], ◌∷◌, ◌++◌, length, decimal, slice_index}
use Rattle.std.specs.List.{AllByRecursion}

-- c stands nowhere in bs
abbrev pub Lacks : ℕ → List ℕ → Type 0
Lacks c bs = AllByRecursion (λ b. b ≢ c) bs

-- the first c of bs stands between front and rest
abbrev pub Cut : ℕ → List ℕ → List ℕ → List ℕ → Type 0
Cut c bs front rest = (bs ≡ front ++ c ∷ rest) × Lacks c front

-- a number that a file may have: seven digits at most
abbrev pub Small : ℕ → Type 0
Small n = n < 10000000

-- bs is the number n, written with no leading zero
abbrev pub IsNumber : List ℕ → ℕ → Type 0
IsNumber bs n = Small n × (bs ≡ decimal n)

-- a byte from the space to the tilde
abbrev pub Printable : ℕ → Type 0
Printable b = (32 ≤ b) × (b ≤ 126)

-- 1 to 40 printable bytes
abbrev pub IsName : List ℕ → Type 0
IsName bs = (0 < length bs) × (length bs ≤ 40) × AllByRecursion Printable bs

-- the numbers of ns, each after a comma
abbrev pub more : List ℕ → List ℕ
more [] = []
more (n ∷ ns) = 44 ∷ (decimal n ++ more ns)

-- the numbers of ns with commas between them; none are written `-`
abbrev pub commas : List ℕ → List ℕ
commas [] = 45 ∷ []
commas (n ∷ ns) = decimal n ++ more ns

-- bs is the list ns of numbers
abbrev pub IsList : List ℕ → List ℕ → Type 0
IsList bs ns = AllByRecursion Small ns × (bs ≡ commas ns)

-- each number is above the one before it
abbrev pub Rising : List ℕ → Type 0
Rising ns = (k : ℕ) → k + 1 < length ns → slice_index ns k < slice_index ns (k + 1)

-- numbers that a list may have, rising where they have to
abbrev pub IsNumbers : Bool → List ℕ → Type 0
IsNumbers rising ns = AllByRecursion Small ns × (rising ≡ true → Rising ns)
