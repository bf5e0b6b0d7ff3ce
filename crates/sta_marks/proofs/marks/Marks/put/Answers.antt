use Rattle.std.proofs.Common.{◌≡◌, ◌<◌, ◌+◌, ◌*◌, ◌/◌, ◌%◌, ◌^◌, [], true, get_or, set, length, sym, ap, ◌∙◌, arith}
use Rattle.std.specs.Prelude.{bit_or}
use Rattle.std.proofs.lemmas.Grind.{get_or_default_zero}
use Rattle.sta_marks.specs.Rows.{width, rows_in, with_row}
use Rattle.sta_marks.proofs.Bits.{node_low, state_low, word_low, rows_put}
use Rattle.sta_marks.proofs.marks.Marks.put.Goals as goal

pub overflow_mul-node : goal.overflow_mul-node
overflow_mul-node c =
    let m = c.self.inside in
    let node = node_low m.states m.nodes m.words.items c.args.self.now c.self.view_is c.args.node c.requires.node in
    let state = state_low m.states m.nodes m.words.items c.args.self.now c.self.view_is c.args.state c.requires.state in
    omega (arith, c.self.invariant, word_low m.states m.nodes c.args.node c.args.state node state, m.words.ok)

pub overflow_add-node : goal.overflow_add-node
overflow_add-node c =
    let m = c.self.inside in
    let node = node_low m.states m.nodes m.words.items c.args.self.now c.self.view_is c.args.node c.requires.node in
    let state = state_low m.states m.nodes m.words.items c.args.self.now c.self.view_is c.args.state c.requires.state in
    omega (arith, c.self.invariant, word_low m.states m.nodes c.args.node c.args.state node state, m.words.ok)

pub index_mut-requires : goal.index_mut-requires
index_mut-requires c =
    let m = c.self.inside in
    let node = node_low m.states m.nodes m.words.items c.args.self.now c.self.view_is c.args.node c.requires.node in
    let state = state_low m.states m.nodes m.words.items c.args.self.now c.self.view_is c.args.state c.requires.state in
    omega (arith, c.self.invariant, word_low m.states m.nodes c.args.node c.args.state node state, m.words.ok)

pub returns : goal.returns
returns c =
    let m = c.self.inside in
    let node = node_low m.states m.nodes m.words.items c.args.self.now c.self.view_is c.args.node c.requires.node in
    let state = state_low m.states m.nodes m.words.items c.args.self.now c.self.view_is c.args.state c.requires.state in
    let place = c.args.node * width m.states + c.args.state / 64 in
    let low : place < length m.words.items = omega (arith, c.self.invariant, word_low m.states m.nodes c.args.node c.args.state node state) in
    let word : c.index_mut.result.now ≡ get_or m.words.items place 0 = c.index_mut.ensures.value ∙ get_or_default_zero m.words.items place c.index_mut.result.now low in
    ap (λ w. record { states = m.states; rows = rows_in m.states m.nodes (set m.words.items place (bit_or w (1 * 2 ^ (c.args.state % 64) % 2 ^ 64))) }) word
    ∙ ap (λ rs. record { states = m.states; rows = rs }) (rows_put m.states m.nodes m.words.items c.self.invariant c.args.node c.args.state node state)
    ∙ ap (λ k. with_row k c.args.node (set (get_or k.rows c.args.node []) c.args.state true)) c.self.view_is
