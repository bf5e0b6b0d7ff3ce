-- The parts of a sum, as the code gathers them.
use Rattle.std.proofs.Common.{◌≡◌, List, [], ◌∷◌, ◌++◌, Option, Some, refl, sym, ap, ◌∙◌}
use Rattle.std.specs.Global.{Vec}
use Rattle.model_form.specs.Form.{Form}
use Rattle.lin_form.specs.declared.sum.Signed.{Signed}
use Rattle.lin_form.specs.Gathered.{plain_parts}
use Rattle.model_checks.specs.Forms.{with_part}
use Rattle.program_check.specs.Known.{plain_added, joined}

parts-push : (xs : List Signed) (p : Signed) → plain_parts (xs ++ p ∷ []) ≡ plain_parts xs ++ record { minus = p.minus; added = p.form } ∷ []
parts-push [] p = refl
parts-push (x ∷ xs) p = ap (λ ps. record { minus = x.minus; added = x.form } ∷ ps) (parts-push xs p)

pub pushed : (added : Option (Vec Signed)) (old new : Vec Signed) (p : Signed) (form : Option Form) → added ≡ Some old → form ≡ Some p.form → new.items ≡ old.items ++ p ∷ [] → Some (plain_parts new.items) ≡ joined (plain_added added) (with_part p.minus form (Some []))
pushed added old new p form old_is form_is items_are =
    ap (λ xs. Some (plain_parts xs)) items_are ∙ ap Some (parts-push old.items p)
    ∙ sym (λ i. joined (plain_added (old_is i)) (with_part p.minus (form_is i) (Some [])))
