use Rattle.std.proofs.Common.{get_or}
use Rattle.std.specs.Prelude.{pos}
use Rattle.std.proofs.lemmas.Int.{by_lt_z}
use Rattle.lin_reduce.proofs.nodes.Node.push_cut.Goals as goal

pub returns-clause-parts : goal.returns-clause-parts
returns-clause-parts c = λ s.
    let below = c.in_ok-push_bounded.ensures {u = tt} in
    let above = c.in_ok-push_bounded-2.ensures {u = tt} in
    by_lt_z c.args.cut.most (get_or s.0 c.args.cut.of (pos 0))
    (λ l. above.part s.0 s.1 (c.in_ok-above.ensures {u = tt} s.0 l) s.2)
    (λ g. above.kept (below.part s.0 s.1 (c.below.ensures s.0 g) s.2))

pub returns-clause-kept : goal.returns-clause-kept
returns-clause-kept c = λ a. (c.in_ok-push_bounded-2.ensures {u = tt}).kept ((c.in_ok-push_bounded.ensures {u = tt}).kept a)
