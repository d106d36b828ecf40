use Rattle.std.proofs.Common.{◌≡◌, ℕ, true, ap}
use Rattle.std.proofs.lemmas.Slice.Eq.{slice_eq-Decides}
use Rattle.sets.specs.Member.{member}
use Rattle.sets.proofs.Members.{sets_same}
use Rattle.sets.proofs.bits.BitSetPartialEq.eq.Goals as goal
use Rattle.std.proofs.lemmas.Bool.Decides.{Decides-eqb}

pub returns : goal.returns
returns g c =
    let a = c.args.self.now in
    let b = c.args.other.now in
    let d = slice_eq-Decides Decides-eqb _ _ _ c.eq.ensures in
    let same : c.eq.result ≡ true → (i : ℕ) → member a.words i ≡ member b.words i = λ e i. ap (λ ws. member ws i) (d.0 e) in
    let yes' : a ≡ b → c.eq.result ≡ true = λ e. d.1 (ap (λ s. s.words) e) in
    record {
      value = c.eq.ensures;
      same = (λ e. sets_same a b (same e), yes');
      members = (same, λ s. yes' (sets_same a b s));
    }
