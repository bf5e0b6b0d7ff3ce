use Rattle.std.proofs.Common.{◌≡◌, ◌+◌, ◌/◌, replicate, refl, sym, ap, subst, ◌∙◌}
use Rattle.sta_classes.specs.Bits.{bits_of, words_of}
use Rattle.sta_classes.proofs.Bits.{no_bits, no_words}
use Rattle.sta_classes.proofs.row.Row.new.Goals as goal

pub invariant_of-result : goal.invariant_of-result
invariant_of-result c =
    let same : c.in_ok-words.words.items ≡ replicate (c.args.places / 64 + 1) 0 = c.in_ok-words.ensures.items_if_clones_equal (λ y e. e) in
    subst (λ ws. ws ≡ words_of (bits_of c.args.places ws)) (sym same) (no_words c.args.places (c.args.places / 64 + 1) refl)

pub returns : goal.returns
returns c =
    let same : c.in_ok-words.words.items ≡ replicate (c.args.places / 64 + 1) 0 = c.in_ok-words.ensures.items_if_clones_equal (λ y e. e) in
    ap (bits_of c.args.places) same ∙ no_bits c.args.places (c.args.places / 64 + 1)
