-- What a list of fixed room holds after a push that may find no room.
use Rattle.std.proofs.Common.{◌≡◌, ℕ, ◌<◌, [], ◌∷◌, ◌++◌, length, Result, Ok, Err, MatchResult, ◌+◌, min, ap, ◌∙◌, sym, subst, arith}
use Rattle.std.proofs.lemmas.List.{length-append}
use Rattle.std.specs.List.{All}
use Rattle.std.proofs.lemmas.List.Elements.{All-push}
use Rattle.sets.specs.Contents.{contents}
use Rattle.sets.specs.declared.list.ArrayVec.{ArrayVec}

pub all_pushed : {X : Type 0} {N : ℕ} (P : X → Type 0) (before after : ArrayVec X N) (x : X) (answer : Result (Unit {0}) X) → MatchResult answer (λ _. (length (contents before) < N) × (contents after ≡ contents before ++ x ∷ [])) (λ e. (length (contents before) ≡ N) × (after ≡ before) × (e ≡ x)) → All P (contents before) → P x → All P (contents after)
all_pushed P before after x (Ok done) (l, e) all here = subst (All P) (sym e) (All-push P (contents before) x all here)
all_pushed P before after x (Err back) (l, e, s) all here = subst (λ v. All P (contents v)) (sym e) all

pub length_pushed : {X : Type 0} {N : ℕ} (before after : ArrayVec X N) (x : X) (answer : Result (Unit {0}) X) → MatchResult answer (λ _. (length (contents before) < N) × (contents after ≡ contents before ++ x ∷ [])) (λ e. (length (contents before) ≡ N) × (after ≡ before) × (e ≡ x)) → (i : ℕ) → length (contents before) ≡ min i N → length (contents after) ≡ min (i + 1) N
length_pushed before after x (Ok done) (l, e) i same = omega (arith, ap length e ∙ length-append (contents before) (x ∷ []), l, same)
length_pushed before after x (Err back) (l, e, s) i same = omega (arith, ap (λ v. length (contents v)) e, l, same)
