use Rattle.flat_label.specs.Bools.{IsBools, bools_label}
use Rattle.ops_tests.proofs.Shown.{kept_of_shown}
use Rattle.ops_tests.proofs.alphabet.Alphabet.compared.Goals as goal

pub returns-in-Ok : goal.returns-in-Ok
returns-in-Ok c =
    kept_of_shown c.args.a.now.sta.ranks (IsBools c.args.self.now.fields) (λ v. bools_label v.items) c.in-Ok.found
    (λ t shown. let least = rw (shown, c.new-theory.ensures) at c.in-Ok.ensures.found in least.fits)
