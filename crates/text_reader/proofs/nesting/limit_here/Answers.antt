use Rattle.std.proofs.Common.{◌≡◌, arith, false-eqb, sym}
use Rattle.std.specs.Vec.{vec_len}
use Rattle.std.proofs.lemmas.Bool.{eqb-true}
use Rattle.text_reader.proofs.Counting.{limit_outside, limit_inside, none_hidden, some_hidden}
use Rattle.text_reader.proofs.nesting.limit_here.Goals as goal

pub returns-then-is_empty : goal.returns-then-is_empty
returns-then-is_empty c = λ marks counts. let hidden = c.args.levels.now.hidden in let e : vec_len hidden ≡ 0 = eqb-true _ 0 (sym c.if-is_empty.ensures) in limit_outside _ marks counts (none_hidden _ (omega (arith, e, hidden.ok.0)))

pub returns-else-is_empty : goal.returns-else-is_empty
returns-else-is_empty c = λ marks counts. let hidden = c.args.levels.now.hidden in let e : vec_len hidden ≡ 0 → ⊥ = false-eqb _ 0 c.if-is_empty.ensures in limit_inside _ marks counts (some_hidden _ (λ f. e (omega (arith, f, hidden.ok.0))))
