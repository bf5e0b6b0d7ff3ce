use Rattle.std.proofs.Common.{◌≡◌, ◌<◌, ◌/◌, ◌%◌, ◌^◌, get_or, length, arith, ap, sym, inl, inr, ◌∙◌}
use Rattle.std.specs.Prelude.{nat_eq, bit_and}
use Rattle.std.specs.Int.{bit_at}
use Rattle.std.proofs.lemmas.Bool.{cases_lt}
use Rattle.std.proofs.lemmas.Grind.{get_or_default_zero}
use Rattle.std.proofs.lemmas.Nat.Bits.{shr_and_one}
use Rattle.model_sta.specs.Sets.{has}
use Rattle.sta_classes.proofs.Bits.{AreTidy, tidy_of, bits_length}
use Rattle.sta_classes.proofs.Kept.{not_equal}
use Rattle.sta_classes.proofs.Meet.{bit_is, none_of_word}
use Rattle.sta_classes.proofs.row.Row.next.Goals as goal

pub index-word-requires : goal.index-word-requires
index-word-requires c =
    let t : AreTidy c.self.inside.places c.self.inside.words.items = tidy_of c.self.inside.places c.self.inside.words.items c.self.invariant in
    omega (arith, t.many, c.self.inside.words.ok, c.places-test.true)

pub returns-then-skipped-places : goal.returns-then-skipped-places
returns-then-skipped-places c = record {
  from = omega (arith, c.places-test.true, c.places.invariant.from);
  none = λ i above below. let t : AreTidy c.self.inside.places c.self.inside.words.items = tidy_of c.self.inside.places c.self.inside.words.items c.self.invariant in
      let low : c.places.place / 64 < length c.self.inside.words.items = omega (arith, t.many, c.places-test.true) in
      let word : c.index-word.result.now ≡ get_or c.self.inside.words.items (c.places.place / 64) 0 = c.index-word.ensures ∙ get_or_default_zero c.self.inside.words.items (c.places.place / 64) c.index-word.result.now low in
      elim (cases_lt i c.places.place) [
        | inl before ↦ c.places.invariant.none i above before
        | inr past ↦ none_of_word c.self.inside.places c.self.inside.words.items c.args.self.now c.self.view_is c.places.place i (sym word ∙ c.if-word-eq0.true) (omega (arith, past, below, c.if-skipped-places.true))
      ];
  some = λ inside. absurd (omega (arith, inside, ap length (sym c.self.view_is), bits_length c.self.inside.places c.self.inside.words.items));
}

pub places-preserved-then-word-eq0 : goal.places-preserved-then-word-eq0
places-preserved-then-word-eq0 c =
    let t : AreTidy c.self.inside.places c.self.inside.words.items = tidy_of c.self.inside.places c.self.inside.words.items c.self.invariant in
    let low : c.places.place / 64 < length c.self.inside.words.items = omega (arith, t.many, c.places-test.true) in
    let word : c.index-word.result.now ≡ get_or c.self.inside.words.items (c.places.place / 64) 0 = c.index-word.ensures ∙ get_or_default_zero c.self.inside.words.items (c.places.place / 64) c.index-word.result.now low in
    record {
      from = omega (arith, c.places.invariant.from);
      none = λ i above below. elim (cases_lt i c.places.place) [
        | inl before ↦ c.places.invariant.none i above before
        | inr past ↦ none_of_word c.self.inside.places c.self.inside.words.items c.args.self.now c.self.view_is c.places.place i (sym word ∙ c.if-word-eq0.true) (omega (arith, past, below))
      ];
    }

pub returns-then-word-place-eq1 : goal.returns-then-word-place-eq1
returns-then-word-place-eq1 c = record {
  from = c.places.invariant.from;
  none = c.places.invariant.none;
  some = λ inside. let t : AreTidy c.self.inside.places c.self.inside.words.items = tidy_of c.self.inside.places c.self.inside.words.items c.self.invariant in
      let low : c.places.place / 64 < length c.self.inside.words.items = omega (arith, t.many, c.places-test.true) in
      let word : c.index-word.result.now ≡ get_or c.self.inside.words.items (c.places.place / 64) 0 = c.index-word.ensures ∙ get_or_default_zero c.self.inside.words.items (c.places.place / 64) c.index-word.result.now low in
      bit_is c.self.inside.places c.self.inside.words.items c.args.self.now c.self.view_is c.places.place c.places-test.true ∙ ap (λ w. nat_eq (bit_at w (c.places.place % 64)) 1) (sym word) ∙ ap (λ b. nat_eq b 1) (sym (shr_and_one c.index-word.result.now (c.places.place % 64))) ∙ ap (λ z. nat_eq z 1) c.if-word-place-eq1.true;
}

pub places-preserved : goal.places-preserved
places-preserved c =
    let t : AreTidy c.self.inside.places c.self.inside.words.items = tidy_of c.self.inside.places c.self.inside.words.items c.self.invariant in
    let low : c.places.place / 64 < length c.self.inside.words.items = omega (arith, t.many, c.places-test.true) in
    let word : c.index-word.result.now ≡ get_or c.self.inside.words.items (c.places.place / 64) 0 = c.index-word.ensures ∙ get_or_default_zero c.self.inside.words.items (c.places.place / 64) c.index-word.result.now low in
    record {
      from = omega (arith, c.places.invariant.from);
      none = λ i above below. elim (cases_lt i c.places.place) [
        | inl before ↦ c.places.invariant.none i above before
        | inr past ↦
            let here : i ≡ c.places.place = omega (arith, past, below) in
            ap (has c.args.self.now) here ∙ bit_is c.self.inside.places c.self.inside.words.items c.args.self.now c.self.view_is c.places.place c.places-test.true ∙ ap (λ w. nat_eq (bit_at w (c.places.place % 64)) 1) (sym word)
            ∙ ap (λ b. nat_eq b 1) (sym (shr_and_one c.index-word.result.now (c.places.place % 64))) ∙ sym (not_equal (bit_and (c.index-word.result.now / 2 ^ (c.places.place % 64)) 1) 1 c.if-word-place-eq1.false)
      ];
    }

pub returns : goal.returns
returns c = record {
  from = c.places.invariant.from;
  none = c.places.invariant.none;
  some = λ inside. absurd (omega (arith, inside, c.places-test.false, ap length (sym c.self.view_is), bits_length c.self.inside.places c.self.inside.words.items));
}

pub places-init : goal.places-init
places-init c = record { from = omega arith; none = λ i low high. absurd (omega (arith, low, high)) }
