-- What is proved of running orders.
use Rattle.std.specs.Prelude.{ℕ, Decides}
use Rattle.orders.specs.Check.{missing}
use Rattle.orders.specs.Facts.{Effects, Wanting}
use Rattle.orders.specs.Running.{RunningOrder, home}
use Rattle.orders.specs.Sheets.{Outline, Rules}

-- a fact is wanting at a place exactly when the test says so
abbrev pub TestDecidesWanting : Type 0
TestDecidesWanting = (s : Outline) → Rules s → (e : Effects) (p f : ℕ) → Decides (missing s e p f) (Wanting s e p f)

-- the home order is a running order
abbrev pub HomeIsRunning : Type 0
HomeIsRunning = (s : Outline) → Rules s → RunningOrder s (home s)
