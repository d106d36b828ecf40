-- Texts that are written one behind the other.
use Rattle.std.proofs.Common.{◌≡◌, ℕ, ◌+◌, ◌≤◌, List, [], ◌++◌, length, take, drop, sym, refl, ap, ◌∙◌, append_assoc, arith, length-append, length-drop}
use Rattle.std.proofs.lemmas.List.{append-nil, take-append-drop, take_at, length-take-le}
use Rattle.std.proofs.lemmas.Slice.{drop-append-drop}
use Rattle.lines.specs.Writing.{Put}
use Rattle.lines.proofs.Texts.{Parts, parts}

-- a text, and another right behind it, are one text
pub put_more : {t u before mid after : List ℕ} {at m next : ℕ} → at ≤ length before → Put t before at m mid → Put u mid m next after → Put (t ++ u) before at next after
put_more {t} {u} {before} {mid} {after} {at} {m} {next} h p q =
    let front : length (take at before ++ t) ≡ m = simp (length-append, length-take-le) (omega arith) in
    let behind : m ≤ next = omega arith in
    let was : mid ≡ (take at before ++ t) ++ drop m before = p.bytes ∙ simp append_assoc in
    let kept : take m mid ≡ take at before ++ t = ap (take m) was ∙ take_at _ _ m front in
    let rest : drop next mid ≡ drop next before = ap (drop next) was ∙ drop-append-drop m before _ next behind front in
    record {
      place = simp length-append (omega arith);
      bytes = q.bytes ∙ rw (kept, rest) (simp append_assoc);
    }

-- a text that there is room for leaves the buffer as long as it was
pub put_length : {t before after : List ℕ} {at next : ℕ} → at + length t ≤ length before → Put t before at next after → length after ≡ length before
put_length {before = before} {at = at} h p = ap length p.bytes ∙ simp (length-append, length-drop) (omega (arith, p.place, length-take-le at before (omega (arith, h))))

-- of a text that there is room for, all but the rest is written
pub record Ahead (text rest before : List ℕ) (at next : ℕ) (after : List ℕ) : Type 0 where
  pub fits : at + length text ≤ length before
  pub done : List ℕ
  pub put : Put done before at next after
  pub split : Parts text done rest

-- nothing is written yet
pub ahead_none : (text before : List ℕ) (at : ℕ) → at + length text ≤ length before → Ahead text text before at at before
ahead_none text before at h = record {
  fits = h;
  done = [];
  put = record { place = omega arith; bytes = sym (take-append-drop at before) };
  split = parts [] text refl;
}

-- one part more is written
pub ahead_more : {text rest part more before mid after : List ℕ} {at m next : ℕ} → Parts rest part more → Ahead text rest before at m mid → Put part mid m next after → Ahead text more before at next after
ahead_more {part = part} {more = more} s a p = record {
  fits = a.fits;
  done = a.done ++ part;
  put = put_more (omega arith) a.put p;
  split = parts (a.done ++ part) more (a.split.whole ∙ rw s.whole (sym (append_assoc a.done part more)));
}

-- all of the text is written
pub ahead_all : {text rest before after : List ℕ} {at next : ℕ} → rest ≡ [] → Ahead text rest before at next after → Put text before at next after
ahead_all e a = rw (a.split.whole, e, append-nil) a.put

-- and the buffer stays as long as it was
pub ahead_length : {text rest before after : List ℕ} {at next : ℕ} → Ahead text rest before at next after → length after ≡ length before
ahead_length a = put_length (omega (arith, a.fits, a.split.sizes)) a.put
