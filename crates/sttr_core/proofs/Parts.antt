-- The parts of a term as a list.
use Rattle.std.proofs.Common.{◌≡◌, List, [], ◌∷◌, map, Vec, Global, refl, ap, ◌∙◌}
use Rattle.model_sttr.specs.Terms.{Parts, no_parts, part}
use Rattle.model_sttr.specs.Terms as plain
use Rattle.sttr_core.specs.Terms.{plain_term, plain_parts}
use Rattle.sttr_core.specs.declared.term.Term.{Term, Row_of-Term, end_of-Term, more_of-Term, items-the_row-Term, items_hidden-the_row-Term-0}
use Rattle.sttr_core.specs.declared.term.Term.TheBlock.{hidden-the_row-Term-0}

abbrev pub parts_of : {H M : Type 0} → List (plain.Term H M) → Parts H M
parts_of [] = no_parts
parts_of (p ∷ ps) = part p (parts_of ps)

module _ {M : Type 0} where
  plain_items : {n : _} (ps : Row_of-Term M n) → plain_parts ps ≡ parts_of (map plain_term (items-the_row-Term M _ ps))
  plain_items end_of-Term = refl
  plain_items (more_of-Term p ps) = ap (part (plain_term p)) (plain_items ps)

  pub parts_are : (v : Vec (Term M) Global) → plain_parts (hidden-the_row-Term-0 M v) ≡ parts_of (map plain_term v.items)
  parts_are v = plain_items (hidden-the_row-Term-0 M v) ∙ ap (λ ps. parts_of (map plain_term ps)) (items_hidden-the_row-Term-0 M v)
