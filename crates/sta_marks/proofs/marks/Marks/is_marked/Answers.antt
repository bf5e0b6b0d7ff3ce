use Rattle.std.proofs.Common.{◌≡◌, ◌<◌, ◌+◌, ◌*◌, ◌/◌, ◌%◌, [], get_or, length, sym, ap, ◌∙◌, arith}
use Rattle.std.specs.Prelude.{nat_eq}
use Rattle.std.specs.Int.{bit_at}
use Rattle.std.proofs.lemmas.Grind.{get_or_default_zero}
use Rattle.std.proofs.lemmas.Nat.Bits.{shr_and_one}
use Rattle.model_sta.specs.Sets.{has}
use Rattle.sta_marks.specs.Rows.{width}
use Rattle.sta_marks.proofs.Bits.{no_node, no_bit, bit_there, word_low}
use Rattle.sta_marks.proofs.marks.Marks.is_marked.Goals as goal
use Rattle.sta_marks.proofs.marks.Marks.is_marked.Goals.{then-node-self-via-then-node-self, then-node-self-via-else-node-self+then-state-self}

pub returns-then-node-self : goal.returns-then-node-self
returns-then-node-self c =
    let m = c.self.inside in
    let seen = ap (λ k. has (get_or k.rows c.args.node []) c.args.state) c.self.view_is in
    elim c.then-node-self.branch [
      | then-node-self-via-then-node-self w ↦ sym (no_node m.states m.nodes m.words.items c.args.node c.args.state (omega (arith, w.if-node-self.true))) ∙ seen
      | then-node-self-via-else-node-self+then-state-self w ↦ sym (no_bit m.states m.nodes m.words.items c.args.node c.args.state (omega (arith, w.if-state-self.true))) ∙ seen
    ]

pub returns : goal.returns
returns c =
    let m = c.self.inside in
    let node : c.args.node < m.nodes = omega (arith, c.if-node-self.false) in
    let state : c.args.state < m.states = omega (arith, c.if-state-self.false) in
    let place = c.args.node * width m.states + c.args.state / 64 in
    let low : place < length m.words.items = omega (arith, c.self.invariant, word_low m.states m.nodes c.args.node c.args.state node state) in
    let word : c.index-word.result.now ≡ get_or m.words.items place 0 = c.index-word.ensures ∙ get_or_default_zero m.words.items place c.index-word.result.now low in
    ap (λ x. nat_eq x 1) (shr_and_one c.index-word.result.now (c.args.state % 64) ∙ ap (λ w. bit_at w (c.args.state % 64)) word)
    ∙ sym (bit_there m.states m.nodes m.words.items c.args.node c.args.state node state) ∙ ap (λ k. has (get_or k.rows c.args.node []) c.args.state) c.self.view_is
