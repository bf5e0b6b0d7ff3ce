use Rattle.std.proofs.Common.{map, sym, subst, length, ◌∙◌}
use Rattle.model_tree.proofs.Sorts.{own_sorts}
use Rattle.fast_tree.specs.Entries.{entries_of, field_of}
use Rattle.record_label.specs.Rows.{HasSides, texts_in}
use Rattle.record_label.proofs.RowFacts.{has_sides, compare_is}
use Rattle.record_label.proofs.rows.RowLabelsTheory.holds.Goals as goal

pub flat_holds-requires : goal.flat_holds-requires
flat_holds-requires c =
    subst (λ values. HasSides (length (texts_in (map field_of values))) c.in-Right.atom) (sym c.values.ensures) (has_sides c.args.self.now (map field_of (entries_of c.args.value.now)) c.in-Right.atom (own_sorts c.args.self.now (map field_of (entries_of c.args.value.now)) c.requires.value_fits.0) (rw c.in-Right.is at c.requires.atom_fits))

pub returns-in-Left : goal.returns-in-Left
returns-in-Left c =
    let fields = map field_of (entries_of c.args.value.now) in
    rw c.in-Left.is
    (c.holds.ensures ∙ compare_is c.args.self.now fields c.in-Left.compare c.numbers.result c.numbers.ensures.few (rw c.in-Left.is at c.requires.atom_fits) c.numbers.ensures.numbers)
