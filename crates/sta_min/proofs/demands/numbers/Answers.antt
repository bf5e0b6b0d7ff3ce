use Rattle.std.proofs.Common.{ℕ, ◌≡◌, ◌<◌, ◌↔◌, Contains, subst, arith}
use Rattle.sta_min.proofs.Demanding.{numbers_none, numbers_more}
use Rattle.sta_min.proofs.demands.numbers.Goals as goal

pub numbers-init : goal.numbers-init
numbers-init c = numbers_none c.new-made.result.items c.new-made.ensures.items

pub numbers-preserved : goal.numbers-preserved
numbers-preserved c = numbers_more c.numbers.number c.numbers.made.items c.push.new.self.items c.numbers.invariant c.in_ok-push.ensures.items

pub returns : goal.returns
returns c = subst (λ n. (k : ℕ) → Contains c.numbers.made.items k ↔ (k < n)) (let e : c.numbers.number ≡ c.args.count = omega (arith, c.numbers-test.false, c.numbers.auto.number-end) in e) c.numbers.invariant
