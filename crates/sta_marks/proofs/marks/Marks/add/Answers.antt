use Rattle.std.proofs.Common.{◌≡◌, ◌+◌, ◌++◌, ◌∷◌, [], length, replicate, take_all, ap, ap₂, ◌∙◌, arith}
use Rattle.sta_marks.specs.Rows.{width, rows_in, no_state}
use Rattle.sta_marks.proofs.Bits.{rows_more}
use Rattle.sta_marks.proofs.marks.Marks.add.Goals as goal

pub returns : goal.returns
returns c =
    let words = c.self.inside.words in
    let states = c.self.inside.states in
    let nodes = c.self.inside.nodes in
    let n : c.len.result ≡ length words.items = omega (arith, c.len.ensures, words.ok.0) in
    let more : c.resize.new.self.items ≡ words.items ++ replicate (width states) 0 =
    c.in_ok-resize.ensures.items ∙ ap₂ (λ ws k. ws ++ replicate k 0) (take_all (c.len.result + width states) words.items (omega (arith, n))) (omega (arith, n, words.ok.0))
    in
    ap (λ ws. record { states = states; rows = rows_in states (nodes + 1) ws }) more ∙ ap (λ rs. record { states = states; rows = rs }) (rows_more states nodes words.items c.self.invariant)
    ∙ ap (λ m. record { states = m.states; rows = m.rows ++ no_state m.states ∷ [] }) c.self.view_is
