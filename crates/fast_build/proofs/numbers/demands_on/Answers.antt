use Rattle.std.proofs.Common.{◌≡◌, true, false, sym, ap, ◌∙◌, is_some}
use Rattle.fast_build.proofs.Grown.{test_by_there, demand_there}
use Rattle.fast_build.proofs.numbers.demands_on.Goals as goal

pub unreachable-requires : goal.unreachable-requires
unreachable-requires c =
    let there = demand_there c.args.names.now.keys c.args.given.now c.given.demand-index c.demand-item.result c.demand-item.is c.given-test.true c.requires in
    let no : false ≡ true = sym (ap is_some c.in_default.is) ∙ c.get_index_of.ensures.found ∙ test_by_there c.args.names.now.keys c.demand-item.result.language.text there in absurd (cc)
