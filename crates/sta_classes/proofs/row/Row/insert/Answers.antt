use Rattle.std.proofs.Common.{ℕ, ◌≡◌, ◌<◌, ◌/◌, ◌%◌, ◌*◌, ◌^◌, Bool, List, set, get_or, length, true, arith, ap, sym, subst, ◌∙◌}
use Rattle.std.specs.Prelude.{bit_or}
use Rattle.std.proofs.lemmas.Grind.{get_or_default_zero}
use Rattle.sta_classes.specs.Bits.{bits_of, words_of}
use Rattle.sta_classes.proofs.Bits.{AreTidy, tidy_of, bit_put, words_put, bits_length}
use Rattle.sta_classes.proofs.row.Row.insert.Goals as goal

below : (n place : ℕ) (words : List ℕ) (row : List Bool) → bits_of n words ≡ row → place < length row → place < n
below n place words row is low = omega (arith, bits_length n words, subst (λ r. place < length r) (sym is) low)

pub index_mut-requires : goal.index_mut-requires
index_mut-requires c =
    let t : AreTidy c.self.inside.places c.self.inside.words.items = tidy_of c.self.inside.places c.self.inside.words.items c.self.invariant in
    omega (arith, t.many, c.self.inside.words.ok, below c.self.inside.places c.args.place c.self.inside.words.items _ c.self.view_is c.requires)

pub invariant_of-self : goal.invariant_of-self
invariant_of-self c =
    let t : AreTidy c.self.inside.places c.self.inside.words.items = tidy_of c.self.inside.places c.self.inside.words.items c.self.invariant in
    let low : c.args.place < c.self.inside.places = below c.self.inside.places c.args.place c.self.inside.words.items _ c.self.view_is c.requires in
    let inside : c.args.place / 64 < length c.self.inside.words.items = omega (arith, t.many, low) in
    let word : c.index_mut.result.now ≡ get_or c.self.inside.words.items (c.args.place / 64) 0 = c.index_mut.ensures.value ∙ get_or_default_zero c.self.inside.words.items (c.args.place / 64) c.index_mut.result.now inside in
    subst (λ w. set c.self.inside.words.items (c.args.place / 64) (bit_or w (1 * 2 ^ (c.args.place % 64) % 2 ^ 64)) ≡ words_of (bits_of c.self.inside.places (set c.self.inside.words.items (c.args.place / 64) (bit_or w (1 * 2 ^ (c.args.place % 64) % 2 ^ 64)))))
    (sym word) (words_put c.self.inside.places c.self.inside.words.items c.args.place t low)

pub returns : goal.returns
returns c =
    let t : AreTidy c.self.inside.places c.self.inside.words.items = tidy_of c.self.inside.places c.self.inside.words.items c.self.invariant in
    let low : c.args.place < c.self.inside.places = below c.self.inside.places c.args.place c.self.inside.words.items _ c.self.view_is c.requires in
    let inside : c.args.place / 64 < length c.self.inside.words.items = omega (arith, t.many, low) in
    let word : c.index_mut.result.now ≡ get_or c.self.inside.words.items (c.args.place / 64) 0 = c.index_mut.ensures.value ∙ get_or_default_zero c.self.inside.words.items (c.args.place / 64) c.index_mut.result.now inside in
    ap (λ w. bits_of c.self.inside.places (set c.self.inside.words.items (c.args.place / 64) (bit_or w (1 * 2 ^ (c.args.place % 64) % 2 ^ 64)))) word
    ∙ bit_put c.self.inside.places c.self.inside.words.items c.args.place t low ∙ ap (λ r. set r c.args.place true) c.self.view_is
