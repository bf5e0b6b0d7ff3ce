-- The kind and the types of an operation, by those of its operands.
use Rattle.std.proofs.Common.{◌≡◌, ℕ, List, Some, refl, ap, ◌∙◌}
use Rattle.fast_fault.specs.declared.place.Pos.{Pos}
use Rattle.model_grammar.specs.declared.Op1.TheVariants.{Complement, Minimize, Domain}
use Rattle.model_grammar.specs.declared.Op2.TheVariants.{Intersect, Union, Difference, PreImage, Compose, Restrict, RestrictOut}
use Rattle.model_grammar.specs.Syntax.{X, one, two, Item}
use Rattle.model_names.specs.Kinds.{language, transformation, if_kind, kind_of, type_of, output_of}
use Rattle.model_run.specs.Parts.{IsOn, IsFrom}

module _ (items : List Item) (place : Pos) (x y : X) where
  module _ (type : List ℕ) (on : IsOn items x type) where
    abbrev of_language : if_kind language (kind_of items x) (type_of items x) ≡ Some type
    of_language = ap (λ k. if_kind language k (type_of items x)) on.0 ∙ on.1

    pub union_on : IsOn items (two Union place x y) type
    union_on = (refl, of_language)

    pub intersection_on : IsOn items (two Intersect place x y) type
    intersection_on = (refl, of_language)

    pub difference_on : IsOn items (two Difference place x y) type
    difference_on = (refl, of_language)

    pub complement_on : IsOn items (one Complement place x) type
    complement_on = (refl, of_language)

    pub minimize_on : IsOn items (one Minimize place x) type
    minimize_on = (refl, of_language)

  module _ (from into : List ℕ) (goes : IsFrom items x from into) where
    abbrev begins : if_kind transformation (kind_of items x) (type_of items x) ≡ Some from
    begins = ap (λ k. if_kind transformation k (type_of items x)) goes.0 ∙ goes.1

    abbrev ends : if_kind transformation (kind_of items x) (output_of items x) ≡ Some into
    ends = ap (λ k. if_kind transformation k (output_of items x)) goes.0 ∙ goes.2

    pub domain_on : IsOn items (one Domain place x) from
    domain_on = (refl, begins)

    pub pre_image_on : IsOn items (two PreImage place x y) from
    pre_image_on = (refl, begins)

    pub restriction_from : IsFrom items (two Restrict place x y) from into
    restriction_from = (refl, begins, ends)

    pub out_restriction_from : IsFrom items (two RestrictOut place x y) from into
    out_restriction_from = (refl, begins, ends)

    pub composition_from : (last : List ℕ) → IsFrom items y into last → IsFrom items (two Compose place x y) from last
    composition_from last other = (refl, begins, ap (λ k. if_kind transformation k (output_of items y)) other.0 ∙ other.2)
