use Rattle.std.proofs.Common.{length, get_or, ap, ◌∙◌, arith}
use Rattle.std.specs.Prelude.{bit_and}
use Rattle.sta_classes.proofs.Bits.{AreTidy, tidy_of, words_are}
use Rattle.sta_classes.proofs.Meet.{met_tidy, met_is, places_same}
use Rattle.sta_classes.proofs.row.Row.meet.Goals as goal

pub meet_words-requires : goal.meet_words-requires
meet_words-requires c =
    let t : AreTidy c.self.inside.places c.self.inside.words.items = tidy_of c.self.inside.places c.self.inside.words.items c.self.invariant in
    let o : AreTidy c.other.inside.places c.other.inside.words.items = tidy_of c.other.inside.places c.other.inside.words.items c.other.invariant in
    let same = places_same c.self.inside.places c.other.inside.places c.self.inside.words.items c.other.inside.words.items c.args.self.now c.args.other.now c.self.view_is c.other.view_is c.requires in
    omega (arith, t.many, o.many, same, ap length c.deref.ensures.value)

pub invariant_of-self : goal.invariant_of-self
invariant_of-self c =
    let t : AreTidy c.self.inside.places c.self.inside.words.items = tidy_of c.self.inside.places c.self.inside.words.items c.self.invariant in
    let o : AreTidy c.other.inside.places c.other.inside.words.items = tidy_of c.other.inside.places c.other.inside.words.items c.other.invariant in
    words_are c.self.inside.places c.meet_words.new.words.items
    (met_tidy c.self.inside.places c.other.inside.places c.self.inside.words.items c.other.inside.words.items c.args.self.now c.args.other.now c.self.view_is c.other.view_is c.requires c.meet_words.new.words.items t o c.meet_words.ensures.many
    (λ i low. c.meet_words.ensures.each i low ∙ ap (λ z. bit_and (get_or c.self.inside.words.items i 0) (get_or z i 0)) c.deref.ensures.value))

pub returns : goal.returns
returns c =
    let t : AreTidy c.self.inside.places c.self.inside.words.items = tidy_of c.self.inside.places c.self.inside.words.items c.self.invariant in
    met_is c.self.inside.places c.other.inside.places c.self.inside.words.items c.other.inside.words.items c.args.self.now c.args.other.now c.self.view_is c.other.view_is c.requires c.meet_words.new.words.items t c.meet_words.ensures.many
    (λ i low. c.meet_words.ensures.each i low ∙ ap (λ z. bit_and (get_or c.self.inside.words.items i 0) (get_or z i 0)) c.deref.ensures.value)
