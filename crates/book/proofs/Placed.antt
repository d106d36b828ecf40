-- What stands behind an answer that was given its line, or another fault.
use Rattle.std.proofs.Common.{◌≡◌, ℕ, Ok, Err, Result, MatchResult, refl, arith}
use Rattle.std.specs.Result.{is_ok}
use Rattle.book.specs.Faults.{at_line}
use Rattle.book.specs.declared.fault.At.{At}

-- what is known of an answer, by what it is with its line
pub behind : {T F : Type 0} (Known : Result T F → Type 0) (line : ℕ) (r : Result T F) (a : Result T (At F)) → a ≡ at_line line r → Known r → MatchResult a (λ x. Known (Ok x)) (λ d. (f : F) × Known (Err f) × (d.line ≡ line))
behind Known line (Ok x) a e known = rw e known
behind Known line (Err f) a e known = rw e (f, known, refl)

-- an answer that was given another fault
pub answered : {E D : Type 0} {A P Q : Type 0} {B : E → Type 0} (r : Result (Unit {0}) E) (s : Result (Unit {0}) D) → is_ok s ≡ is_ok r → MatchResult r (λ _. A) B → (A → P) → ((f : E) → B f → Q) → MatchResult s (λ _. P) (λ _. Q)
answered (Ok _) (Ok _) same says right wrong = right says
answered (Ok _) (Err _) same says right wrong = let z : ◌≡◌ {A = ℕ} 0 1 = cc in absurd (omega arith)
answered (Err _) (Ok _) same says right wrong = let z : ◌≡◌ {A = ℕ} 0 1 = cc in absurd (omega arith)
answered (Err f) (Err _) same says right wrong = wrong f says
