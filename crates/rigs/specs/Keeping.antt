-- What the calls on a rig keep of it.

-- what is kept by no call, and by one call after another
pub record Keeps {S : Type 0} (kept : S → S → Type 0) : Type 0 where
  pub still : (s : S) → kept s s
  pub on : (s t u : S) → kept s t → kept t u → kept s u
