use Rattle.std.proofs.Common.{◌≡◌, ◌↔◌, ℕ, List, true}
use Rattle.std.proofs.lemmas.Result.{IfOk-weaker}
use Rattle.model_run.specs.Plain.{NamesTwice}
use Rattle.fast_syntax.specs.Plain.{plain_out}
use Rattle.fast_compose.specs.Copying.{uses_in, Repeats}
use Rattle.fast_compose.proofs.Repeating.{copies_by}
use Rattle.fast_compose.proofs.copying.copies.Goals as goal

pub returns : goal.returns
returns c =
    let out = plain_out c.args.out.now in
    IfOk-weaker c.repeats.result (λ b. Repeats b c.new-seen.result.keys c.repeats.new.seen.keys (uses_in out)) (λ b. (b ≡ true) ↔ ((v : List ℕ) × NamesTwice out v))
    (λ b is. copies_by out c.new-seen.result.keys c.repeats.new.seen.keys b c.new-seen.ensures.empty is) c.repeats.ensures
