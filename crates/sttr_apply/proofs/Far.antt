-- Labels with a number outside the label range aren't kept.
use Rattle.std.proofs.Common.{ℕ, zero, suc, ◌≡◌, ◌<◌, inl, inr, Bool, true, false, List, [], ◌∷◌, length, get_or, Some, refl, sym, ap, ◌∙◌, arith}
use Rattle.std.proofs.lemmas.Bool.{and_parts}
use Rattle.std.specs.Prelude.{ℤ, pos, negsuc, FitsSigned, nat_lt, ◌^◌}
use Rattle.std.specs.Int.{w64}
use Rattle.std.specs.List.{list_all}
use Rattle.std.proofs.lemmas.Bool.Decides.{nat_tests}
use Rattle.model_tree.specs.Label.{Label, Field, row, pair, whole}
use Rattle.model_tree.specs.Kept.{is_kept_field, is_kept_label}
use Rattle.label_core.specs.Maps.{HasNumber}
use Rattle.apply_laws.specs.Listing.{only_if}
use Rattle.apply_laws.specs.Found.{IsFarNode}
use Rattle.sttr_apply.specs.Labels.{keeps, Outside}

below : (n : ℕ) → nat_lt n (2 ^ 63) ≡ true → n < 2 ^ 63
below n e = grind (arith, nat_tests)

pub fits_kept : (n : ℤ) → is_kept_field (whole n) ≡ true → FitsSigned w64 n
fits_kept (pos n) e = let b = below n e in omega (arith, b)
fits_kept (negsuc n) e = let b = below n e in omega (arith, b)

field_fits : (fields : List Field) (k : ℕ) (n : ℤ) (d : Field) → k < length fields → get_or fields k d ≡ whole n → list_all is_kept_field fields ≡ true → FitsSigned w64 n
field_fits [] k n d l e h = absurd (omega arith)
field_fits (v ∷ vs) zero n d l e h = fits_kept n (ap is_kept_field (sym e) ∙ (and_parts (is_kept_field v) (list_all is_kept_field vs) h).0)
field_fits (v ∷ vs) (suc k) n d l e h = field_fits vs k n d (omega arith) e (and_parts (is_kept_field v) (list_all is_kept_field vs) h).1

number_fits : (l : Label) (n : ℤ) → HasNumber l n → is_kept_label l ≡ true → FitsSigned w64 n
number_fits (row fields) n h e = field_fits fields h.0 n (whole n) h.1 h.2 e
number_fits (pair l m) n (inl h) e = number_fits l n h (and_parts (is_kept_label l) (is_kept_label m) e).0
number_fits (pair l m) n (inr h) e = number_fits m n h (and_parts (is_kept_label l) (is_kept_label m) e).1

-- a label with a number outside isn't kept
pub outside_not_kept : (l : Label) (n : ℤ) → Outside l n → is_kept_label l ≡ false
outside_not_kept l n o = pick (is_kept_label l) (λ e. o.1 (number_fits l n o.0 e))
  where
    pick : (b : Bool) → (b ≡ true → ⊥) → b ≡ false
    pick true f = absurd (f refl)
    pick false f = refl

pub far_node_if : {V : Type 0} (label : V → Label) (l : Label) (n : ℤ) (s : Bool) → Outside l n → IsFarNode label keeps Outside l s (only_if s (Some n))
far_node_if label l n true o = o
far_node_if label l n false o = refl
