-- A text that is written to the part of a buffer behind its first bytes.
use Rattle.std.proofs.Common.{◌≡◌, ℕ, ◌+◌, ◌-◌, ◌<◌, ◌≤◌, List, ◌++◌, length, take, drop, sym, ap, ◌∙◌, append-nil, arith, length-drop}
use borrow.Rule.Slice.PartMut.{put_mid, put_same}
use Rattle.lines.specs.Writing.{Put, Wrote}
use Rattle.std.proofs.lemmas.List.{drop_all, drop-drop, take_all}

module _ (text before tail : List ℕ) (at : ℕ) (some : at ≤ length before) where
  -- the part from `at` on
  abbrev part : List ℕ
  part = take (length before - at) (drop at before)

  whole : part ≡ drop at before
  whole = take_all (length before - at) (drop at before) (omega (arith, length-drop at before))

  length_part : at + length part ≡ length before
  length_part = omega (arith, ap length whole, length-drop at before)

  pub written_behind : (n : ℕ) → length text ≤ length part → n ≡ length text → Wrote text part tail → Put text before at (at + n) (put_mid at (length before - at) before tail) × (at + n ≤ length before)
  written_behind n fits len wrote =
      let none = drop_all (length before - at) (drop at before) (omega (arith, length-drop at before)) in
      let rest : drop (length text) part ≡ drop (at + n) before = ap (drop (length text)) whole ∙ drop-drop (length text) at before ∙ ap (λ m. drop (at + m) before) (sym len) in (
        record {
          place = omega arith;
          bytes = ap (λ (l : List ℕ). take at before ++ l) (ap (λ (l : List ℕ). tail ++ l) none ∙ append-nil tail ∙ wrote ∙ ap (λ (l : List ℕ). text ++ l) rest);
        },
        omega (arith, length_part),
      )

  pub no_room_behind : length part < length text → tail ≡ part → (length before < at + length text) × (put_mid at (length before - at) before tail ≡ before)
  no_room_behind short same = (omega (arith, length_part), ap (put_mid at (length before - at) before) same ∙ put_same at (length before - at) before)
