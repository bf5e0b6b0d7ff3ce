use Rattle.std.proofs.Common.{◌≡◌, if◌then◌else◌, true, false, ◌++◌, ◌∷◌, [], sym, ap, ◌∙◌}
use Rattle.std.specs.List.{list_any}
use Rattle.model_names.specs.Declared.{same_text}
use Rattle.fast_build.proofs.Grown.{there_by_test, test_by_there}
use Rattle.fast_compose.proofs.Repeating.{repeats_seen, repeats_unseen}
use Rattle.fast_compose.proofs.copying.is_seen.Goals as goal

pub returns-then-contains : goal.returns-then-contains
returns-then-contains c = repeats_seen c.args.seen.now.keys c.args.seen.now.keys c.args.variable.now (there_by_test c.args.seen.now.keys c.args.variable.now (sym c.contains.ensures ∙ c.if-contains.true))

pub returns : goal.returns
returns c =
    let old = c.args.seen.now.keys in
    let v = c.args.variable.now in
    let apart : list_any (same_text v) old ≡ false = sym c.contains.ensures ∙ c.if-contains.false in
    let copied = c.in_ok-copy.ensures in
    repeats_unseen old c.insert.new.self.keys v (λ at. (let bad : true ≡ false = sym (test_by_there old v at) ∙ apart in cc))
    (c.in_ok-insert.ensures.keys ∙ ap (λ w. if list_any (same_text w) old then old else old ++ w ∷ []) copied ∙ ap (λ b. if b then old else old ++ v ∷ []) apart)
