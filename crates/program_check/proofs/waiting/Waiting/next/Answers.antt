use Rattle.std.proofs.Common.{◌≡◌, [], ◌++◌, map, ap, ◌∙◌, arith}
use Rattle.std.proofs.lemmas.List.{drop_all}
use Rattle.program_check.specs.Waiting.{before_these}
use Rattle.program_check.proofs.Weights.{row_added}
use Rattle.program_check.proofs.waiting.Waiting.next.Goals as goal

pub rows-preserved : goal.rows-preserved
rows-preserved c =
    let none : c.rows.self.row.now ≡ [] = drop_all 0 c.rows.self.row.now (omega (arith, c.in_default.ensures.cases)) in
    c.rows.invariant ∙ ap (λ l. l ++ before_these [] (map (λ row. row.now) c.rows.self.rows.items)) none ∙ row_added (λ row. row.now) c.pop.new.self.items c.rows.self.rows.items c.in-Some-pop.row c.in-Some-pop.ensures.items
