-- The home order is a running order.
use Rattle.std.proofs.Common.{◌≡◌, ℕ, ◌+◌, min, ◌∙◌, arith}
use Rattle.std.proofs.lemmas.List.FromFn.{get_or-range_with_len, length-range_with_len}
use Rattle.orders.proofs.Places.{place_counting}
use Rattle.orders.specs.Running.{home, place}
use Rattle.orders.specs.Sheets.{Outline}
use Rattle.orders.specs.Theorems.{HomeIsRunning}

pub place_home : (s : Outline) (x : ℕ) → place x (home s) ≡ min x s.size
place_home s x = place_counting x 0 s.size (omega arith) ∙ omega arith

pub home_is_running : HomeIsRunning
home_is_running s rules =
    let long = length-range_with_len 0 s.size in
    let at : (k : ℕ) → place k (home s) ≡ min k s.size = place_home s in
    record {
      positions = λ k h. omega (arith, get_or-range_with_len 0 s.size k 0 (omega arith));
      complete = λ x h. omega (arith, at x);
      once = λ k h. rw (get_or-range_with_len 0 s.size k 0 (omega arith)) (at (0 + k) ∙ omega arith);
      kept = λ i j h. omega (arith, at i, at j, rules.forward i j h);
      unbroken = λ a b i x y h o u v l. omega (arith, at i, at x, at y, rules.proper a b h);
    }
