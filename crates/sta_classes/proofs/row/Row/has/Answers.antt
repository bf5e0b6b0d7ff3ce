use Rattle.std.proofs.Common.{◌≡◌, ◌<◌, ◌/◌, ◌%◌, get_or, length, false, arith, ap, sym, ◌∙◌}
use Rattle.std.specs.Prelude.{nat_eq}
use Rattle.std.specs.Int.{bit_at}
use Rattle.std.proofs.lemmas.Grind.{get_or_default_zero}
use Rattle.std.proofs.lemmas.List.{get_or_past}
use Rattle.std.proofs.lemmas.Nat.Bits.{shr_and_one}
use Rattle.model_sta.specs.Sets.{has}
use Rattle.sta_classes.specs.Bits.{bits_of}
use Rattle.sta_classes.proofs.Bits.{AreTidy, tidy_of, bits_at, bits_length}
use Rattle.sta_classes.proofs.row.Row.has.Goals as goal

pub index-requires : goal.index-requires
index-requires c =
    let t : AreTidy c.self.inside.places c.self.inside.words.items = tidy_of c.self.inside.places c.self.inside.words.items c.self.invariant in
    omega (arith, t.many, c.self.inside.words.ok, c.if-place-self.false)

pub returns-then-place-self : goal.returns-then-place-self
returns-then-place-self c =
    sym (get_or_past (bits_of c.self.inside.places c.self.inside.words.items) c.args.place false (omega (arith, bits_length c.self.inside.places c.self.inside.words.items, c.if-place-self.true))) ∙ ap (λ r. has r c.args.place) c.self.view_is

pub returns : goal.returns
returns c =
    let t : AreTidy c.self.inside.places c.self.inside.words.items = tidy_of c.self.inside.places c.self.inside.words.items c.self.invariant in
    let low : c.args.place / 64 < length c.self.inside.words.items = omega (arith, t.many, c.if-place-self.false) in
    let word : c.index.result.now ≡ get_or c.self.inside.words.items (c.args.place / 64) 0 = c.index.ensures ∙ get_or_default_zero c.self.inside.words.items (c.args.place / 64) c.index.result.now low in
    ap (λ x. nat_eq x 1) (shr_and_one c.index.result.now (c.args.place % 64) ∙ ap (λ w. bit_at w (c.args.place % 64)) word)
    ∙ sym (bits_at c.self.inside.places c.self.inside.words.items c.args.place (omega (arith, c.if-place-self.false))) ∙ ap (λ r. has r c.args.place) c.self.view_is
