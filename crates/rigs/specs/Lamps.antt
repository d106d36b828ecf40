-- Lamps that are lent as bytes, one a fact.
use Rattle.std.specs.Prelude.{◌≡◌, ℕ, ◌<◌, ◌^◌, Bool, true, false, cond, not, ◌&&◌, ◌⊎◌, List, length, ◌==◌, slice_index}
use Rattle.std.proofs.Common.{refl, ◌∙◌, inl, inr, ⊎_elim, arith}
use Rattle.driving.specs.Meanings.{Meaning}
use Rattle.task.specs.declared.tasks.TheConstants.Task.{MOST_FACTS}

-- there is one lamp for each fact
abbrev pub fits : List ℕ → Bool
fits lamps = length lamps == MOST_FACTS

-- the lamp of f is lit: its byte is another than 0
abbrev pub lit : List ℕ → ℕ → Bool
lit lamps f = fits lamps && not (slice_index lamps f == 0)

-- what lamps and a number of steps mean; over another length no fact stands and no step is left
abbrev pub shown : List ℕ → ℕ → Meaning
shown lamps left = record { standing = lit lamps; left = cond (fits lamps) left 0 }

-- the byte of f after an action: 1 where it is added, else 0 where it is deleted, else as it was
abbrev pub lamp_after : (ℕ → Bool) → (ℕ → Bool) → List ℕ → ℕ → ℕ
lamp_after adds deletes before f = cond (adds f) 1 (cond (deletes f) 0 (slice_index before f))

-- these are the bytes after it
pub record Lights (adds deletes : ℕ → Bool) (before after : List ℕ) : Type 0 where
  pub size : length after ≡ length before
  pub each : (f : ℕ) → f < length before → slice_index after f ≡ lamp_after adds deletes before f

-- each byte is as it was, or 0, or 1
pub record LitOrKept (before after : List ℕ) : Type 0 where
  pub size : length after ≡ length before
  pub each : (f : ℕ) → (slice_index after f ≡ slice_index before f) ⊎ (slice_index after f < 2)

pub kept_still : (lamps : List ℕ) → LitOrKept lamps lamps
kept_still lamps = record { size = refl; each = λ f. inl refl }

pub kept_on : (a b c : List ℕ) → LitOrKept a b → LitOrKept b c → LitOrKept a c
kept_on a b c p q = record {
  size = q.size ∙ p.size;
  each = λ f. ⊎_elim (λ e. ⊎_elim (λ d. inl (e ∙ d)) (λ l. inr (omega arith)) (p.each f)) inr (q.each f);
}

pub shown_few : (lamps : List ℕ) (left : ℕ) → left < 2 ^ 16 → (shown lamps left).left < 2 ^ 16
shown_few lamps left few = elim (fits lamps) as (λ b. cond b left 0 < 2 ^ 16) [ true ↦ few | false ↦ omega arith ]
